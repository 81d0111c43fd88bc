-- Texts read and refused, by computation: every point where a text may be refused, with its place.
use mathlib.Core.List.{List, [], ◌∷◌, map}
use mathlib.Core.Path.{◌≡◌, refl}
use Prim.Native.Nat.{ℕ}
use Prim.Native.String.{String}
use lib.ListN.{replicate}
use Rattle.lists.specs.Quoted.{bytes_of, hex}
use Rattle.molecule.specs.Written.{card_bytes}
use Rattle.sling.specs.Faults.{Outcome, stopped, finished}
use Rattle.sling.specs.Folded.{folded, read_text}
use Rattle.sling.proofs.Open.{sling}

-- the card of a text, and 0, 0; or no card, the refusal and the place
record Seen : Type 0 where
  card : List ℕ
  refusal : ℕ
  place : ℕ

abbrev seen : Outcome → Seen
seen (stopped n p) = record { card = []; refusal = n; place = p }
seen (finished st) = record { card = card_bytes (folded st); refusal = 0; place = 0 }

record Case : Type 0 where
  text : String
  refusal : ℕ
  place : ℕ

abbrev no : String → ℕ → ℕ → Case
no s n p = record { text = s; refusal = n; place = p }

faults : List Case → Type 0
faults l =
    map (λ (c : Case). seen (read_text (bytes_of c.text))) l ≡ map (λ (c : Case). record { card = []; refusal = c.refusal; place = c.place }) l

-- 1, and 2: an item is broken at its first byte, however far it reaches, and an unfinished one too
broken : faults
    (no "" 1 0
    ∷ no "=C" 2 0 ∷ no "=X" 2 0 ∷ no "0" 2 0 ∷ no "/0" 2 0 ∷ no "+" 2 0
    ∷ no "Cl" 2 0 ∷ no "C=Cl" 2 1 ∷ no "Xx" 2 0 ∷ no "CHx" 2 1 ∷ no "(Cl)l" 2 4
    ∷ no "(C)" 2 0 ∷ no "(H)" 2 0 ∷ no "(CL)" 2 0 ∷ no "(cl)" 2 0 ∷ no "(Clx)" 2 0 ∷ no "()" 2 0 ∷ no "(Cl" 2 0 ∷ no "(Xx" 2 0
    ∷ no "C=" 2 1 ∷ no "C/-" 2 1 ∷ no "C0+" 2 2 ∷ no "C==C" 2 1 ∷ no "C=0" 2 1 ∷ no "CC=+0" 2 2 ∷ no "CC=-1" 2 2 ∷ no "CC/+0" 2 2
    ∷ no "C1000" 2 1 ∷ no "C01" 2 1 ∷ no "C-0" 2 1 ∷ no "CC/-0" 2 2 ∷ no "C~" 2 1 ∷ no "C " 2 1
    ∷ [])
unfolding sling faults
broken = refl

-- 3 and 5, in the order of the items
absent : faults
    (no "X" 3 0 ∷ no "(Xx)" 3 0 ∷ no "C=(Xx)" 3 1 ∷ no "H=X" 3 1
    ∷ no "C5~" 5 1 ∷ no "CC11" 5 2 ∷ no "C/1C" 5 1 ∷ no "C-1" 5 1 ∷ no "CC/-2" 5 2 ∷ no "CH2" 5 2
    ∷ [])
unfolding sling faults
absent = refl

-- 7: the item that draws a forbidden bond is blamed, and an H without a bond at the end; 7 before 6
hydrogen_rule : faults
    (no "HH" 7 1 ∷ no "C=H" 7 1 ∷ no "H=C" 7 1 ∷ no "CHC" 7 2 ∷ no "CH1C" 7 3
    ∷ no "H/0" 7 1 ∷ no "HC/0" 7 2 ∷ no "CH/0" 7 2
    ∷ no "H" 7 1 ∷ no "H0" 7 2 ∷ no "H+0+0" 7 5
    ∷ [])
unfolding sling faults
hydrogen_rule = refl

-- 6 and 4: H counts among no limit but those of hydrogens
bonds-and_limits : faults
    (no "C/0" 6 1 ∷ no "CC/0" 6 2 ∷ no "CCC/0/1" 6 5
    ∷ no "CC0C0C0C0C0C0C" 4 13 ∷ no "CH0H0H0H0H" 4 9 ∷ no "CH0H0H0H0=H" 7 9
    ∷ [])
unfolding sling faults
bonds-and_limits = refl

reads : String → String → Type 0
reads text card = seen (read_text (bytes_of text)) ≡ record { card = hex card; refusal = 0; place = 0 }

-- "`HOCH-1H-1CH-1H-1H` reads as ethanol": O, then two carbons
ethanol : reads "HOCH-1H-1CH-1H-1H" "01 0006 0801 0602 0603 02 0006 000101 010201"
unfolding sling reads
ethanol = refl

-- a step up goes by attachment: after a ring bond to 1, whose atom was attached at 0, `-1` is atom 0
attached : reads "CCCC/1-1O" "01 000a 0600 0600 0600 0600 0800 02 000f 000101 000401 010201 010301 020301"
unfolding sling reads
attached = refl

-- references with and without a sign, to the cursor's own atom, to an H, and at the end
references : reads "CH+0H0+0H1+0" "01 0002 0603 02 0000"
unfolding sling reads
references = refl

six_bonds_and_hydrogens : reads "CC0C0C0C0C0C0H0H0H0H" "01 000e 0604 0600 0600 0600 0600 0600 0600 02 0012 000101 000201 000301 000401 000501 000601"
unfolding sling reads
six_bonds_and_hydrogens = refl

-- "a chain of 64 bare carbons is read, of 65 is 4"
chain_of_64 : (seen (read_text (replicate 64 67))).refusal ≡ 0
unfolding sling
chain_of_64 = refl

chain_of_65 : seen (read_text (replicate 65 67)) ≡ record { card = []; refusal = 4; place = 64 }
unfolding sling
chain_of_65 = refl

-- "Text is at most 4,096 bytes", judged before anything in it
long-text : seen (read_text (replicate 4097 126)) ≡ record { card = []; refusal = 4; place = 0 }
unfolding sling
long-text = refl
