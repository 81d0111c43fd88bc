-- The definitions of this crate opened, so that an example computes: a declaration that unfolds `lists` opens them all.
use mathlib.Core.List.{flatten, head_d}
use Rattle.lists.specs.Upto.{from, each, sum}
use Rattle.lists.specs.Tests.{keep, every, some}
use Rattle.lists.specs.Order.{is_lt, lex, both, down, insert, sort, least}
use Rattle.lists.specs.Quoted.{paired}

unfoldable pub lists : Unit {0}
unfolding from each sum keep every some is_lt lex both down insert sort least flatten head_d paired
lists = tt
