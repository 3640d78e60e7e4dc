use Prim.Native.Nat.{◌+◌}
use mathlib.Core.List.{map, ◌∷◌}
use mathlib.Core.Path.{sym, ap, ◌∙◌}
use native.Mathlib.Omega.{arith}
use lib.IntN.{ℤ}
use lib.ListN.{length, drop}
use mir.Syntax.{w32}
use mir.ValLaws.{to_z-of_z}
use Rattle.share.specs.Line.{evens, odds, signed_of}
use Rattle.share.proofs.Fill.{fill-again, fill_end}
use Rattle.share.proofs.Halves.{evens-step, odds-step, evens-past, odds-past}
use Rattle.share.proofs.Lists.{get_or-le-total}
use Rattle.share.proofs.copy_signed.Goals as goal

pub signed-requires : goal.signed-requires
signed-requires c = omega (arith, get_or-le-total c.args.moves.now (c.loop-i.i + c.loop-i.i))

pub signed-requires-in-loop-i : goal.signed-requires-in-loop-i
signed-requires-in-loop-i c = omega (arith, get_or-le-total c.args.moves.now (c.loop-i.i + c.loop-i.i + 1))

pub loop-i-preserved : goal.loop-i-preserved
loop-i-preserved c = let a = c.args in
    let p = c.requires in
    let l = c.loop-i in
    let f = signed_of a.shrink in
    let n = length a.before.now in
    let h = c.loop-i-test.true in
    let v = to_z-of_z w32 c.signed.result (record { sfits = c.signed.type_inv }) ∙ c.signed.ensures in
    let w = to_z-of_z w32 c.signed-in-loop-i.result (record { sfits = c.signed-in-loop-i.type_inv }) ∙ c.signed-in-loop-i.ensures in record {
      before = fill-again l.before _ _ l.i _ (omega arith) l.invariant.before (evens-step f a.moves.now n l.i p.0 (omega arith) ∙ ap (λ (z : ℤ). z ∷ map f (drop (l.i + 1) (evens a.moves.now))) (sym v));
      after = fill-again l.after _ _ l.i _ (omega arith) l.invariant.after (odds-step f a.moves.now n l.i p.0 (omega arith) ∙ ap (λ (z : ℤ). z ∷ map f (drop (l.i + 1) (odds a.moves.now))) (sym w));
    }

pub returns : goal.returns
returns c = let a = c.args in
    let l = c.loop-i in
    let f = signed_of a.shrink in
    let n = length a.before.now in (
      fill_end l.before _ l.i (omega arith) l.invariant.before (evens-past f a.moves.now n l.i c.requires.0 (omega arith)),
      fill_end l.after _ l.i (omega arith) l.invariant.after (odds-past f a.moves.now n l.i c.requires.0 (omega arith)),
    )
