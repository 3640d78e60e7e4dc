use Rattle.std.proofs.Common.{sym, ◌∙◌, ap, subst}
use Rattle.table_ask.specs.Places.{Readable}
use Rattle.lookup_find.proofs.Laws.{head-units}
use Rattle.table_find.specs.Values.{units_in}
use Rattle.table_find.proofs.units_in.Goals as goal

pub returns-in-Some : goal.returns-in-Some
returns-in-Some c = λ t r.
    let e = c.in-Some.is in
    head-units t c.in-Some.lookup.at (subst (Readable t) e r).1.1 ∙ sym (ap (units_in t) e)
