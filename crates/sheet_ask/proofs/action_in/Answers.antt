-- `sheet_ask::action_in` meets its contract. The list has no such action, or the one that is read as a table's is the sheet's. Assumes nothing.
use Rattle.std.proofs.Common.{ℕ, ◌-◌, ◌≡◌, ◌∙◌, refl, sym, ap, List, length, take, drop, arith}
use Rattle.meaning.specs.Ask.{held}
use Rattle.actions.specs.Actions.{action_at, clipped}
use Rattle.answers.proofs.Laws.{held-is}
use Rattle.sheet_ask.proofs.ActionLaws.{nothing-in, action-past, action-inside, action-there}
use Rattle.sheet_ask.proofs.action_in.Goals as goal

pub returns-then-u32_at-number : goal.returns-then-u32_at-number
returns-then-u32_at-number c =
    let a = c.args in
    nothing-in a.bytes.now a.at a.number _ refl
    (action-past a.bytes.now (λ i. omega (arith, c.type_inv.bytes i)) a.at a.number (omega (arith, c.u32_at.ensures.0)))

pub returns-in_err-get : goal.returns-in_err-get
returns-in_err-get c =
    let a = c.args in
    nothing-in a.bytes.now a.at a.number c.from_residual.result c.from_residual.ensures
    (λ n l rest o e. absurd (action-inside a.bytes.now (λ i. omega (arith, c.type_inv.bytes i)) a.at a.number (omega (arith, c.u32_at.ensures.0)) c.action_place-place.result
    c.action_place-place.ensures n l rest o e (omega (arith, c.in_err-get.ensures.lookup))))

pub returns : goal.returns
returns c =
    let a = c.args in
    let s = a.bytes.now in
    let q = c.action_place-place.result in
    let h = c.action_at.result in
    let e : h ≡ held (clipped (action_at (take (length s - q) (drop q s)) 0)) =
    c.action_at.ensures ∙ ap (λ (t : List ℕ). held (clipped (action_at t 0))) c.in_ok-get.ensures.lookup.0.2 in
    record {
      answer = action-there s (λ i. omega (arith, c.type_inv.bytes i)) a.at a.number (omega (arith, c.u32_at.ensures.0)) q c.action_place-place.ensures h e;
      room = e ∙ ap held (sym (held-is (clipped (action_at (take (length s - q) (drop q s)) 0)) e));
    }
