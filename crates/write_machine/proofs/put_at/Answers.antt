-- `write_machine::put_at` meets its contract.
use Prim.Native.Nat.{ℕ, ◌+◌, ◌*◌}
use mathlib.Core.Path.{◌≡◌, ap, ap₂, ◌∙◌, refl}
use mathlib.Core.List.{◌++◌}
use native.Mathlib.Omega.{arith}
use lib.Seq.{sets}
use Rattle.fields.specs.Field.{be32}
use Rattle.fields.specs.Stores.{put_two}
use Rattle.machine.specs.Cells.{class_count, class_at}
use Rattle.machine.specs.Rows.{row_count}
use Rattle.encoding.specs.Upto.{upto}
use Rattle.encoding.specs.Sections.{run_section}
use Rattle.write_entries.specs.Entries.{entry_bytes}
use Rattle.write_machine.proofs.Laws.{few-of, some-parts, some-length}
use Rattle.write_machine.proofs.put_at.Goals as goal

pub put_sizes-requires : goal.put_sizes-requires
put_sizes-requires c =
    let a = c.args in
    let few = few-of a.table.now a.glyphs a.here _ _ c.requires.sound.1.1 c.row_count-rows.ensures c.class_count-classes.ensures.0 in
    grind arith

pub overflow_mul-rows : goal.overflow_mul-rows
overflow_mul-rows c =
    let a = c.args in
    omega (arith, few-of a.table.now a.glyphs a.here _ _ c.requires.sound.1.1 c.row_count-rows.ensures c.class_count-classes.ensures.0)

pub put_entry_sections-requires : goal.put_entry_sections-requires
put_entry_sections-requires c =
    let a = c.args in
    let few = few-of a.table.now a.glyphs a.here _ _ c.requires.sound.1.1 c.row_count-rows.ensures c.class_count-classes.ensures.0 in
    grind arith

pub returns : goal.returns
returns c =
    let a = c.args in
    let t = a.table.now in
    let l0 = a.out.now in
    let l1 = c.put_sizes.new.out in
    let l2 = c.put_class_runs-end.new.out in
    let l3 = c.put_entry_sections.new.out in
    let xs = upto (class_at t a.here) a.glyphs in
    let k = c.row_count-rows.result * c.class_count-classes.result in
    let e : k ≡ row_count t a.here * class_count t a.here = ap₂ (λ (x y : ℕ). x * y) c.row_count-rows.ensures c.class_count-classes.ensures.0 in
    let few = few-of t a.glyphs a.here _ _ c.requires.sound.1.1 c.row_count-rows.ensures c.class_count-classes.ensures.0 in
    let sizes = be32 1 ++ be32 c.row_count-rows.result ++ be32 c.class_count-classes.result in
    let rs = run_section 1 xs in
    let es = entry_bytes t a.here k in
    let r = c.put_class_runs-end.ensures in
    let w = c.put_entry_sections.ensures in (
      omega (arith, some-length t a.glyphs a.here xs k refl e, r.0, w.0),
      omega arith,
      put_two sizes (rs ++ es) l0 l1 l3 a.to (a.to + 12) refl c.put_sizes.ensures
          (put_two rs es l1 l2 l3 (a.to + 12) c.put_class_runs-end.result r.0 r.2 w.2)
          ∙ ap₂ (λ (x y : ℕ). sets l0 a.to ((be32 1 ++ be32 x ++ be32 y) ++ (rs ++ es))) c.row_count-rows.ensures c.class_count-classes.ensures.0
          ∙ ap (sets l0 a.to) (some-parts t a.glyphs a.here xs k refl e),
    )
