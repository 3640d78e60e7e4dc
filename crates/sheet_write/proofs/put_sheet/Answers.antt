-- `sheet_write::put_sheet` meets its contract.
use Prim.Native.Nat.{ℕ, ◌+◌, ◌-◌}
use mathlib.Core.Path.{◌≡◌, ap, ◌∙◌}
use native.Mathlib.Omega.{arith}
use lib.Seq.{sets}
use lib.ListN.{length}
use Rattle.types.specs.declared.Direction.TheVariants.{Horizontal, Vertical}
use Rattle.write_direction.specs.Side.{side_bytes}
use Rattle.sheet_write.proofs.Laws.{parts-length, parts-stored, put-twice, glyphs-few}
use Rattle.write_direction.proofs.Laws.{side-clear}
use Rattle.sheet_write.proofs.put_sheet.Goals as goal

pub overflow_cast-glyphs : goal.overflow_cast-glyphs
overflow_cast-glyphs c = grind (arith, glyphs-few)

pub put_side-end-requires : goal.put_side-end-requires
put_side-end-requires c = (side-clear c.args.table.now c.args.glyphs c.requires Horizontal c.direction_at-first.result c.direction_at-first.ensures.1 c.direction_at-first.ensures.0, omega arith)

pub returns-then-first-second : goal.returns-then-first-second
returns-then-first-second c =
    let a = c.args in
    let t = a.table.now in
    let n = a.glyphs in
    let l1 = c.put_u32.new.out in
    let l2 = c.put_side-end.new.out in
    let l3 = c.put_copy.new.room in
    let first = c.direction_at-first in
    let second = c.direction_at-second in
    let side = c.put_side-end in
    let end = side.result in
    let same : first.result ≡ second.result = c.if-first-second.true in
    let size : end + (end - 4) ≡ end + length (side_bytes t n second.result) = omega (arith, side.ensures.0, ap (λ (x : ℕ). length (side_bytes t n x)) same) in (
      parts-length t n first.result second.result end (end + (end - 4)) first.ensures.0 second.ensures.0 side.ensures.0 size,
      omega (arith, side.ensures.1),
      parts-stored t n first.result second.result end (end + (end - 4)) first.ensures.0 second.ensures.0 side.ensures.0 size a.room.now l1 l2 l3
          c.put_u32.ensures side.ensures.2
          (put-twice (side_bytes t n first.result) l1 l2 l3 4 end side.ensures.0 side.ensures.2 c.put_copy.ensures ∙ ap (λ (x : ℕ). sets l2 end (side_bytes t n x)) same),
    )

pub put_side-requires : goal.put_side-requires
put_side-requires c = (side-clear c.args.table.now c.args.glyphs c.requires Vertical c.direction_at-second.result c.direction_at-second.ensures.1 c.direction_at-second.ensures.0, omega (arith, c.put_side-end.ensures.1))

pub returns : goal.returns
returns c =
    let a = c.args in
    let t = a.table.now in
    let n = a.glyphs in
    let l1 = c.put_u32.new.out in
    let l2 = c.put_side-end.new.out in
    let l3 = c.put_side.new.out in
    let first = c.direction_at-first in
    let second = c.direction_at-second in
    let side = c.put_side-end in
    let other = c.put_side in (
      parts-length t n first.result second.result side.result other.result first.ensures.0 second.ensures.0 side.ensures.0 other.ensures.0,
      omega (arith, side.ensures.1, other.ensures.1),
      parts-stored t n first.result second.result side.result other.result first.ensures.0 second.ensures.0 side.ensures.0 other.ensures.0 a.room.now l1 l2 l3
          c.put_u32.ensures side.ensures.2 other.ensures.2,
    )
