-- `share::copy_signed` meets its contract.
use mathlib.Core.List.{map, ◌++◌}
use mathlib.Core.Path.{◌≡◌}
use lib.ListN.{take, drop}
use Rattle.share.specs.Line.{evens, odds, signed_of}
use Rattle.share.proofs.copy_signed.Given as goal

abbrev pub invariant-loop-i : goal.invariant-loop-i
invariant-loop-i l = record {
  before : map (signed_of l.shrink) (evens l.moves) ≡ take l.i l.before ++ map (signed_of l.shrink) (drop l.i (evens l.moves));
  after : map (signed_of l.shrink) (odds l.moves) ≡ take l.i l.after ++ map (signed_of l.shrink) (drop l.i (odds l.moves));
}
