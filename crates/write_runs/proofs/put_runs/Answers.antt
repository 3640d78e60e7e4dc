-- `write_runs::put_runs` meets its contract.
use mathlib.Core.Path.{refl}
use native.Mathlib.Decide.{ℕ_discrete}
use native.Mathlib.Omega.{arith}
use Rattle.encoding.specs.Runs.{runs}
use Rattle.encoding.specs.Sections.{run_less_code}
use Rattle.write_runs.specs.Spread.{spread}
use Rattle.write_runs.proofs.Laws.{section-length, section-stored}
use Rattle.write_runs.proofs.put_runs.Goals as goal

pub returns : goal.returns
returns c =
    let a = c.args in
    let rs = runs ℕ_discrete 0 0 (spread 0 a.ends.now a.nums.now) in
    let n = c.put_each-count in (
      omega (arith, n.ensures.0, section-length run_less_code rs (λ r. refl)),
      omega (arith, n.ensures.1),
      section-stored run_less_code rs a.out.now n.new.out _ a.to n.result n.ensures.0 n.ensures.2 c.put_u32.ensures,
    )
