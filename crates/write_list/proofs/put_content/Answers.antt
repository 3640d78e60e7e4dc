-- `write_list::put_content` meets its contract.
use Rattle.write_list.proofs.Laws.{content-5, content-plain}
use Rattle.actions.specs.Actions.{bytes_at}
use Rattle.fields.specs.Stores.{put_two}
use Rattle.fields.specs.Field.{be16}
use lib.Seq.{sets}
use mathlib.Core.Path.{ap, sym, ◌∙◌, refl}
use Prim.Native.Nat.{ℕ, ◌+◌}
use Rattle.write_list.proofs.put_content.Goals as goal

pub returns-then-ty-eq5 : goal.returns-then-ty-eq5
returns-then-ty-eq5 c =
    let a = c.args in
    put_two (be16 0) (bytes_at a.table.now (a.at + 10) 2) a.out.now c.put_u16.new.out c.put_bytes.new.out a.to (a.to + 2) refl c.put_u16.ensures c.put_bytes.ensures
    ∙ ap (sets a.out.now a.to) (sym (content-5 a.table.now a.at a.ty c.if-ty-eq5.true))

pub returns-else-ty-eq5 : goal.returns-else-ty-eq5
returns-else-ty-eq5 c =
    let a = c.args in
    c.put_bytes-else-ty-eq5.ensures ∙ ap (λ (k : ℕ). sets a.out.now a.to (bytes_at a.table.now (a.at + 8) k)) c.content_size.ensures.0
    ∙ ap (sets a.out.now a.to) (sym (content-plain a.table.now a.at a.ty c.if-ty-eq5.false))
