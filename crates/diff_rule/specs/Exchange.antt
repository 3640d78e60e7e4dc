-- What becomes of a list of differences when the two tables are exchanged: what was only in the first is only in the second.
use Rattle.std.specs.Prelude.{Option, None, Some}
use Rattle.diff_rule.specs.declared.Mark.{Mark}
use Rattle.diff_rule.specs.declared.Mark.TheVariants.{Changed, OnlyFirst, OnlySecond}
use Rattle.diff_rule.specs.declared.Difference.{Difference}

abbrev pub other_mark : Mark → Mark
other_mark Changed = Changed
other_mark OnlyFirst = OnlySecond
other_mark OnlySecond = OnlyFirst

abbrev pub exchanged : Difference → Difference
exchanged x = record { direction = x.direction; aspect = x.aspect; mark = other_mark x.mark; subject = x.subject; class = x.class }

abbrev pub other_way : Option Mark → Option Mark
other_way None = None
other_way (Some m) = Some (other_mark m)
