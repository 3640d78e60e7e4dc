-- `write_list::put_list` meets its contract.
use Rattle.write_list.proofs.Laws.{list_code_lem}
use Rattle.actions.specs.Actions.{actions_at}
use Rattle.meaning.specs.Sheet.{action_code}
use Rattle.encoding.specs.Codes.{many}
use Rattle.fields.specs.Stores.{put_two}
use Rattle.fields.specs.Field.{be32}
use lib.Seq.{sets}
use mathlib.Core.Path.{ap, ◌∙◌, refl}
use Prim.Native.Nat.{◌+◌}
use Rattle.write_list.proofs.put_list.Goals as goal

pub returns : goal.returns
returns c =
    let a = c.args in
    let n = c.u32_at-count in
    put_two (be32 n.result) (many action_code (actions_at a.table.now n.result (a.at + 4))) a.out.now c.put_u32.new.out c.put_actions.new.out a.to (a.to + 4) refl
    c.put_u32.ensures c.put_actions.ensures
    ∙ ap (sets a.out.now a.to) (list_code_lem a.table.now a.at n.result n.ensures.0)
