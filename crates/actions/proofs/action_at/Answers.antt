-- `actions::action_at` meets its contract.
use lib.ListN.{length, take}
use mathlib.Core.Path.{◌∙◌, ap}
use Prim.Native.Nat.{ℕ}
use Rattle.actions.specs.Actions.{content_at, action_at, padded}
use Rattle.actions.proofs.action_at.Goals as goal

pub returns : goal.returns
unfolding action_at
returns c =
    let a = c.args in
    let ty = c.u16_at-ty.ensures.0 in
    λ i.
    record {
      class = c.u16_at-class.ensures.0 i;
      ty = ty i;
      size = (c.held_size-size.ensures.0 ∙ ap (λ (k : ℕ). length (take 76 (content_at a.table.now a.at k))) ty) i;
      bytes = (c.content_at-bytes.ensures ∙ ap (λ (k : ℕ). padded (take 76 (content_at a.table.now a.at k))) ty) i;
    }
