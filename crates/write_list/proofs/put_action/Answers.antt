-- `write_list::put_action` meets its contract.
use Rattle.write_list.proofs.Laws.{action-code}
use Rattle.actions.specs.Actions.{content_at}
use Rattle.fields.specs.Stores.{put_two}
use Rattle.fields.specs.Field.{be16, be32}
use lib.Seq.{sets}
use native.Mathlib.Omega.{arith}
use mathlib.Core.List.{◌++◌}
use mathlib.Core.Path.{ap, ◌∙◌, refl}
use Prim.Native.Nat.{◌+◌}
use Rattle.write_list.proofs.put_action.Goals as goal

pub returns : goal.returns
returns c =
    let a = c.args in
    let t = a.table.now in
    let k = c.u16_at-ty.result in
    let s = c.content_size-size.result in
    let x = c.u16_at.result in
    let o1 = c.put_u16.new.out in
    let o2 = c.put_u16-2.new.out in
    let o3 = c.put_u32.new.out in
    let o4 = c.put_content.new.out in
    put_two (be16 x) (be16 k ++ (be32 s ++ content_at t a.at k)) a.out.now o1 o4 a.to (a.to + 2) refl c.put_u16.ensures
    (put_two (be16 k) (be32 s ++ content_at t a.at k) o1 o2 o4 (a.to + 2) (a.to + 4) (omega arith) c.put_u16-2.ensures
    (put_two (be32 s) (content_at t a.at k) o2 o3 o4 (a.to + 4) (a.to + 8) (omega arith) c.put_u32.ensures c.put_content.ensures))
    ∙ ap (sets a.out.now a.to) (action-code t a.at x k s c.u16_at.ensures.0 c.u16_at-ty.ensures.0 c.content_size-size.ensures.0)
