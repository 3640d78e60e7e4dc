-- `write_direction::put_side` meets its contract.
use Prim.Native.Nat.{ℕ}
use mathlib.Core.Path.{ap, ap₂, sym, ◌∙◌}
use mathlib.Core.List.{List, ◌++◌}
use native.Mathlib.Omega.{arith}
use borrow.Author.Rules.{rules}
use lib.ListN.{length}
use lib.Seq.{sets}
use Rattle.fields.specs.Stores.{put_two}
use Rattle.table.specs.Table.{machine_part, machine_place}
use Rattle.table.proofs.Laws.{machine-clear}
use Rattle.lookup_targets.specs.declared.Kind.TheVariants.{Clusters, Lists}
use Rattle.write_pool.specs.Pool.{pool_bytes}
use Rattle.write_machine.specs.Parts.{machine_bytes}
use Rattle.write_direction.proofs.Laws.{side-parts, side-length, pool-ready}
use Rattle.write_direction.proofs.put_side.Goals as goal

pub put_machine-machine_end-requires-clause-sound : goal.put_machine-machine_end-requires-clause-sound
put_machine-machine_end-requires-clause-sound c =
    let a = c.args in
    let m = c.machine_place-machine.ensures in
    (m.1, (c.requires.0.few, ap (machine_part a.table.now a.glyphs) m.0 ∙ machine-clear a.table.now a.at a.glyphs c.requires.0.clear))

pub put_pool-cluster_end-requires : goal.put_pool-cluster_end-requires
put_pool-cluster_end-requires c =
    let a = c.args in
    (pool-ready a.table.now a.glyphs a.at c.requires.0 (λ i. search rules) Clusters c.source_at-widths.result c.source_at-widths.ensures, omega arith)

pub put_pool-requires : goal.put_pool-requires
put_pool-requires c =
    let a = c.args in
    (pool-ready a.table.now a.glyphs a.at c.requires.0 (λ i. search rules) Lists c.source_at-actions.result c.source_at-actions.ensures, omega (arith, c.put_pool-cluster_end.ensures.near))

pub returns : goal.returns
returns c =
    let a = c.args in
    let t = a.table.now in
    let l0 = a.out.now in
    let l1 = c.put_machine-machine_end.new.out in
    let l2 = c.put_pool-cluster_end.new.out in
    let l3 = c.put_pool.new.out in
    let em = ap (machine_bytes t a.glyphs) c.machine_place-machine.ensures.0 in
    let ep = ap (pool_bytes Clusters t a.glyphs) c.source_at-widths.ensures.0 in
    let eq = ap (pool_bytes Lists t a.glyphs) c.source_at-actions.ensures.0 in
    let mb = machine_bytes t a.glyphs c.machine_place-machine.result in
    let pb = pool_bytes Clusters t a.glyphs c.source_at-widths.result in
    let qb = pool_bytes Lists t a.glyphs c.source_at-actions.result in
    let x = c.put_machine-machine_end.ensures in
    let y = c.put_pool-cluster_end.ensures in
    let z = c.put_pool.ensures in (
      omega (arith, side-length t a.glyphs a.at, ap length em, ap length ep, ap length eq, x.0, y.end, z.end),
      omega (arith, x.1, y.near, z.near),
      put_two mb (pb ++ qb) l0 l1 l3 a.to c.put_machine-machine_end.result x.0 x.2 (put_two pb qb l1 l2 l3 c.put_machine-machine_end.result c.put_pool-cluster_end.result y.end y.bytes z.bytes)
          ∙ ap (λ (b : List ℕ). sets l0 a.to (b ++ (pb ++ qb))) em
          ∙ ap₂ (λ (b d : List ℕ). sets l0 a.to (machine_bytes t a.glyphs (machine_place t a.at) ++ (b ++ d))) ep eq
          ∙ ap (sets l0 a.to) (sym (side-parts t a.glyphs a.at)),
    )
