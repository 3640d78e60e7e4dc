use Rattle.write_list.proofs.Laws.{actions-none, many-cons}
use Rattle.actions.specs.Actions.{action_at, actions_at}
use Rattle.meaning.specs.Sheet.{action_code}
use Rattle.meaning.specs.Meaning.{Action}
use Rattle.encoding.specs.Codes.{many}
use Rattle.fields.specs.Stores.{put_next}
use lib.Seq.{sets}
use native.Mathlib.Omega.{arith}
use mathlib.Core.List.{List}
use mathlib.Core.Path.{ap, sym, ◌∙◌}
use Prim.Native.Nat.{ℕ, ◌+◌, ◌-◌}
use Rattle.write_list.proofs.put_actions.Goals as goal

pub loop-preserved : goal.loop-preserved
loop-preserved c =
    let l = c.loop in
    let t = c.args.table.now in
    let p = c.next_place-at in
    let n = c.args.count in (
      p.ensures.1,
      omega (arith, c.action_size-end.ensures.1),
      omega arith,
      put_next (action_code (action_at t l.at)) (many action_code (actions_at t (n - (l.counter + 1)) p.result)) (many action_code (actions_at t (n - l.counter) l.at)) l.out c.put_action.new.out _ l.end (l.end + c.action_size-end.result)
          (many-cons t (n - l.counter) (n - (l.counter + 1)) l.at p.result (omega arith) p.ensures.0) (ap (λ (j : ℕ). l.end + j) c.action_size-end.ensures.0) c.put_action.ensures l.invariant.3,
    )

pub returns : goal.returns
returns c =
    let l = c.loop in
    ap (λ (xs : List Action). sets l.out l.end (many action_code xs)) (sym (actions-none c.args.table.now _ l.at (omega arith))) ∙ l.invariant.3
