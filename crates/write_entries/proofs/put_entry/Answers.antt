-- `write_entries::put_entry` meets its contract.
use Rattle.fields.specs.Stores.{put_two}
use Rattle.fields.specs.Field.{be16}
use lib.Seq.{sets}
use mathlib.Core.Path.{refl, ap, ◌∙◌}
use Prim.Native.Nat.{ℕ, ◌+◌}
use Rattle.write_entries.proofs.put_entry.Goals as goal

pub returns : goal.returns
returns c =
    let a = c.args in
    let first = c.put_u16.new.out in
    put_two (be16 a.entry.row) (be16 a.entry.flags) a.out.now first c.put_u16-2.new.out a.to (a.to + 2) refl
    c.put_u16.ensures
    (c.put_u16-2.ensures ∙ ap (λ (flags : ℕ). sets first (a.to + 2) (be16 flags)) c.together-flags.ensures)
