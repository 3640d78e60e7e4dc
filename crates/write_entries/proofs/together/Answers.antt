-- `write_entries::together` meets its contract.
use Rattle.units.specs.Flags.{entry_flags}
use Rattle.units.proofs.FlagLaws.{entry-together}
use native.Mathlib.Omega.{arith}
use mathlib.Core.Path.{◌∙◌}
use Rattle.write_entries.proofs.together.Goals as goal

pub returns : goal.returns
returns c =
    c.entry_flags.ensures
    ∙ (λ i. entry_flags (c.sets_mark-sets_mark.ensures i) (c.stays_put-stays.ensures i) (c.mark_class-mark.ensures.0 i) (c.current_class-current.ensures.0 i))
    ∙ entry-together c.args.flags (omega (arith, c.ranges.flags))
