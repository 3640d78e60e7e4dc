-- `sheet_cells::good_entries` meets its contract: entries are good exactly where each is new. Assumes nothing.
use Rattle.std.proofs.Common.{refl, arith, rules}
use Rattle.std.proofs.lemmas.Iterator.{cases_from_all, YieldsList-from_range}
use Rattle.sheet_sections.proofs.RangeLaws.{says-all, says-same}
use Rattle.sheet_cells.specs.Cells.{NewEntry}
use Rattle.sheet_cells.proofs.TurnLaws.{entries-all, each_entry}
use Rattle.sheet_cells.proofs.good_entries.Goals as goal

pub returns : goal.returns
returns c =
    let a = c.args in
    let s = a.bytes.now in
    says-same c.all.result _ _
    (entries-all s (λ i. omega (arith, c.type_inv.bytes i)) a.at a.rows a.count (omega arith))
    (λ o i h. each_entry s (λ i. omega (arith, c.type_inv.bytes i)) a.at a.rows a.count i h o)
    (says-all (NewEntry a.rows s a.at) a.count c.all.result
    (cases_from_all _ _ _ (NewEntry a.rows s a.at) (λ i. NewEntry a.rows s a.at i → ⊥) c.all.ensures.ran
    (YieldsList-from_range 0 a.count a.count refl (omega arith)) (λ x q k. search rules) (λ x q k. search rules)))
