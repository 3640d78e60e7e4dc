-- `write_machine::Classes::put_class_runs` meets its contract.
use Rattle.write_runs.proofs.Laws.{section-length, section-stored}
use Rattle.machine.specs.Cells.{class_at}
use Rattle.encoding.specs.Upto.{upto}
use mathlib.Core.Path.{refl}
use native.Mathlib.Decide.{ℕ_discrete}
use native.Mathlib.Omega.{arith}
use Rattle.encoding.specs.Runs.{runs}
use Rattle.encoding.specs.Sections.{run_code}
use Rattle.write_machine.proofs.Classes.put_class_runs.Goals as goal

pub returns : goal.returns
returns c =
    let a = c.args in
    let rs = runs ℕ_discrete 1 0 (upto (class_at a.self.now.table.now a.self.now.here) a.self.now.glyphs) in
    let n = c.put_each-count in (
      omega (arith, n.ensures.0, section-length run_code rs (λ r. refl)),
      omega (arith, n.ensures.1),
      section-stored run_code rs a.out.now n.new.out _ a.to n.result n.ensures.0 n.ensures.2 c.put_u32.ensures,
    )
