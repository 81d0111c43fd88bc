-- The definitions of this crate opened, so that an example computes.
use Rattle.molecule.proofs.Open.{molecule}
use Rattle.sling.specs.Scanned.{digits, valued, number_at, target, bracketed, body, scan, tokens}
use Rattle.sling.specs.Reading.{climb, after}
use Rattle.sling.specs.Faults.{item_fault, run}
use Rattle.sling.specs.Folded.{heavy_places, folded, read_text}
use Rattle.sling.specs.Walk.{serve, put, close, put_hs, trace, traces, finish, written}
use Rattle.sling.specs.Printed.{decimal, item_bytes, bytes, name_bytes}

unfoldable pub sling : Unit {0}
unfolding molecule digits valued number_at target bracketed body scan tokens climb after item_fault run heavy_places folded read_text serve put close put_hs trace traces finish written decimal item_bytes bytes name_bytes
sling = tt
