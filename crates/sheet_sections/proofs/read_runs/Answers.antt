-- `sheet_sections::read_runs` meets its contract: runs that are there and good are those of some values; whatever else stands there is no section. Assumes nothing.
use Rattle.std.proofs.Common.{arith}
use Rattle.sheet_sections.proofs.RunLaws.{runs-outside, runs-good, runs-bad}
use Rattle.sheet_sections.proofs.read_runs.Goals as goal

pub returns-in_err-count : goal.returns-in_err-count
returns-in_err-count c =
    let a = c.args in
    let q = c.requires in
    rw c.from_residual.ensures
    (runs-outside a.bytes.now (λ i. omega (arith, c.type_inv.bytes i)) a.glyphs a.limit a.skip a.at q.0 q.1 q.2 c.in_err-count.ensures)

pub returns-then-not-good_runs : goal.returns-then-not-good_runs
returns-then-not-good_runs c =
    let a = c.args in
    let q = c.requires in
    runs-bad a.bytes.now (λ i. omega (arith, c.type_inv.bytes i)) a.glyphs a.limit a.skip a.at q.0 q.1 q.2 c.in_ok-count.count c.in_ok-count.ensures c.if-not-good_runs.ensures

pub returns : goal.returns
returns c =
    let a = c.args in
    let q = c.requires in
    runs-good a.bytes.now (λ i. omega (arith, c.type_inv.bytes i)) a.glyphs a.limit a.skip a.at q.0 q.1 q.2 c.in_ok-count.count c.in_ok-count.ensures c.if-not-good_runs.ensures
