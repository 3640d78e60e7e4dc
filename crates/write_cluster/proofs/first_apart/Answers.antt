use Rattle.encoding.proofs.DictionaryLaws.{all_left, next_left, left_apart}
use Rattle.cluster.specs.Pairs.{pairs_at}
use Rattle.write_cluster.specs.Words.{pair_words}
use Rattle.write_cluster.proofs.Laws.{pairs-next, pairs-end}
use Rattle.write_cluster.proofs.WordLaws.{pair-free}
use native.Mathlib.Omega.{arith}
use mathlib.Core.Path.{◌≡◌, ap₂, sym, ◌∙◌}
use Prim.Native.Nat.{◌+◌, ◌-◌}
use Rattle.write_cluster.proofs.first_apart.Goals as goal

pub loop-i-init : goal.loop-i-init
loop-i-init c =
    let a = c.args in
    let n : a.count ≡ a.count - 0 = omega arith in
    let p : a.first ≡ a.first + 0 = omega arith in
    let q : a.second ≡ a.second + 0 = omega arith in
    all_left pair_words (ap₂ (pairs_at a.one.now) n p) (ap₂ (pairs_at a.other.now) n q)

pub loop-i-preserved : goal.loop-i-preserved
loop-i-preserved c =
    let a = c.args in
    let l = c.loop-i in
    next_left pair_words l.invariant (pairs-next a.one.now a.count a.first l.i (omega arith)) (pairs-next a.other.now a.count a.second l.i (omega arith))
    c.if-not-same_pair.ensures

pub returns-then-not-same_pair : goal.returns-then-not-same_pair
returns-then-not-same_pair c =
    let a = c.args in
    let l = c.loop-i in (
      omega arith,
      left_apart pair_words l.invariant (pairs-next a.one.now a.count a.first l.i (omega arith)) (pairs-next a.other.now a.count a.second l.i (omega arith))
          pair-free c.if-not-same_pair.ensures,
    )

pub returns : goal.returns
returns c =
    let a = c.args in
    let l = c.loop-i in
    l.invariant.same (pairs-end a.one.now a.count _ l.i (omega arith) ∙ sym (pairs-end a.other.now a.count _ l.i (omega arith)))
