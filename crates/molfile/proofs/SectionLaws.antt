-- The lines behind the bonds, and what was taken of those before.
use Prim.Native.Nat.{ℕ, ◌≤◌}
use mathlib.Core.Path.{◌≡◌}
use mathlib.Core.List.{List}
use mathlib.Core.Bool.{true, false}
use lib.ListN.{length, drop}
use Rattle.ctfile.specs.Lines.{line_bytes}
use Rattle.ctfile.specs.Forms.{is_property_line, is_end_line}
use Rattle.ctfile.specs.Filed.{sound, broken, properties}
use Rattle.molfile.specs.declared.line.Line.{Line}
use Rattle.molfile.specs.Cutting.{lines_at, IsLine}
use Rattle.molfile.proofs.LineLaws.{no_lines}

module _ (s : List ℕ) (p : ℕ) (r : Line) (R : IsLine s p r) (atoms : ℕ) where
  pub end-here : is_end_line (line_bytes (drop p s)) ≡ true → properties (length s) atoms (lines_at s p) ≡ sound
  unfolding properties
  end-here e = rw (R.lines, e)

  pub property_wrong : is_end_line (line_bytes (drop p s)) ≡ false → is_property_line atoms (line_bytes (drop p s)) ≡ false
      → properties (length s) atoms (lines_at s p) ≡ broken p
  unfolding properties
  property_wrong e f = rw (R.lines, e, f)

  pub property_next : is_end_line (line_bytes (drop p s)) ≡ false → is_property_line atoms (line_bytes (drop p s)) ≡ true
      → properties (length s) atoms (lines_at s p) ≡ properties (length s) atoms (lines_at s r.next)
  unfolding properties
  property_next e f = rw (R.lines, e, f)

pub end-missing : (s : List ℕ) (p atoms : ℕ) → length s ≤ p → properties (length s) atoms (lines_at s p) ≡ broken (length s)
unfolding properties
end-missing s p atoms h = rw (no_lines s p h)
