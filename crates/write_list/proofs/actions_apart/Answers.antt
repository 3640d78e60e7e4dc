use Rattle.encoding.proofs.DictionaryLaws.{all_left, next_left, left_apart}
use Rattle.actions.specs.Actions.{actions_at}
use Rattle.write_list.specs.Words.{action_words}
use Rattle.write_list.proofs.Laws.{actions-cons, actions-none}
use Rattle.write_list.proofs.WordLaws.{action-free}
use native.Mathlib.Omega.{arith}
use mathlib.Core.Path.{◌≡◌, refl, ap, sym, ◌∙◌}
use Prim.Native.Nat.{ℕ, ◌+◌, ◌-◌}
use Rattle.write_list.proofs.actions_apart.Goals as goal

pub loop-init : goal.loop-init
loop-init c =
    let a = c.args in
    let n : a.count ≡ a.count - 0 = omega arith in
    (omega arith, omega arith, all_left action_words (ap (λ (k : ℕ). actions_at a.one.now k a.first) n) (ap (λ (k : ℕ). actions_at a.other.now k a.second) n))

pub loop-preserved : goal.loop-preserved
loop-preserved c =
    let a = c.args in
    let l = c.loop in
    let p = c.next_place-a in
    let q = c.next_place-b in (
      p.ensures.1,
      q.ensures.1,
      next_left action_words l.invariant.2 (actions-cons a.one.now _ _ _ _ (omega arith) p.ensures.0) (actions-cons a.other.now _ _ _ _ (omega arith) q.ensures.0)
          c.if-not-same_action.ensures,
    )

pub returns-then-not-same_action : goal.returns-then-not-same_action
returns-then-not-same_action c =
    let a = c.args in
    let l = c.loop in
    let m = a.count - (l.counter + 1) in (
      l.invariant.0,
      l.invariant.1,
      left_apart action_words l.invariant.2 (actions-cons a.one.now _ m _ _ (omega arith) refl) (actions-cons a.other.now _ m _ _ (omega arith) refl)
          action-free c.if-not-same_action.ensures,
    )

pub returns : goal.returns
returns c =
    let a = c.args in
    let l = c.loop in
    l.invariant.2.same (actions-none a.one.now _ l.a (omega arith) ∙ sym (actions-none a.other.now _ l.b (omega arith)))
