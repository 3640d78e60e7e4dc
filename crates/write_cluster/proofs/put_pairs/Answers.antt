use Prim.Native.Nat.{◌+◌, ◌-◌, ◌*◌}
use mathlib.Core.Path.{ap, sym, ◌∙◌}
use mathlib.Core.List.{List, ◌∷◌}
use native.Mathlib.Omega.{arith}
use lib.Seq.{sets}
use Rattle.fields.specs.Stores.{put_next}
use Rattle.encoding.specs.Codes.{many}
use Rattle.meaning.specs.Sheet.{pair_code}
use Rattle.types.specs.declared.Pair.{Pair}
use Rattle.cluster.specs.Pairs.{pairs_at}
use Rattle.write_cluster.proofs.Laws.{pairs-next, pairs-end}
use Rattle.write_cluster.proofs.put_pairs.Goals as goal

pub loop-i-preserved : goal.loop-i-preserved
loop-i-preserved c =
    let l = c.loop-i in
    let a = c.args in
    let t = a.table.now in
    let rest = many pair_code (pairs_at t (a.count - (l.i + 1)) (a.first + 24 * (l.i + 1))) in (
      omega arith,
      put_next (pair_code c.pair_at.result) rest _ l.out _ _ (a.to + 24 * l.i) (a.to + 24 * (l.i + 1))
          (ap (many pair_code) (pairs-next t a.count a.first l.i (omega arith)) ∙ ap (λ (p : Pair). many pair_code (p ∷ pairs_at t (a.count - (l.i + 1)) (a.first + 24 * (l.i + 1)))) (sym c.pair_at.ensures)) (omega arith) c.put_pair.ensures l.invariant.1,
    )

pub returns : goal.returns
returns c =
    let l = c.loop-i in
    let a = c.args in
    ap (λ (ps : List Pair). sets l.out (a.to + 24 * l.i) (many pair_code ps)) (sym (pairs-end a.table.now a.count _ l.i (omega arith))) ∙ l.invariant.1
