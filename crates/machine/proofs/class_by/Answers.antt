-- `machine::class_by` meets its contract.
use Rattle.std.proofs.Common.{arith}
use Rattle.machine.proofs.Steps.{class-before, class-after, class-among}
use Rattle.machine.proofs.class_by.Goals as goal
use Rattle.machine.proofs.class_by.Goals.{then-asked-first-via-then-asked-first, then-asked-first-via-else-asked-first+then-first-classes}

pub returns-then-asked-first : goal.returns-then-asked-first
returns-then-asked-first c = λ here w.
    elim c.then-asked-first.branch [
      | then-asked-first-via-then-asked-first v ↦ grind (arith, class-before)
      | then-asked-first-via-else-asked-first+then-first-classes v ↦ grind (arith, class-after)
    ]

pub returns : goal.returns
returns c = λ here w. grind (arith, class-among)
