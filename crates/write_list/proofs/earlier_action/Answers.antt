-- `write_list::earlier_action` meets its contract.
use Rattle.write_list.proofs.WordLaws.{class-tells, ty-tells, content-tells}
use Rattle.write_list.proofs.earlier_action.Goals as goal

pub returns-then-class-other_class : goal.returns-then-class-other_class
returns-then-class-other_class c =
    let a = c.args in
    let m = c.u16_at-class.ensures.0 in
    let n = c.u16_at-other_class.ensures.0 in
    class-tells a.table.now a.first a.second m n c.if-class-other_class.true

pub returns-then-ty-other_type : goal.returns-then-ty-other_type
returns-then-ty-other_type c =
    let a = c.args in
    let m = c.u16_at-class.ensures.0 in
    let n = c.u16_at-other_class.ensures.0 in
    ty-tells a.table.now a.first a.second m n c.if-class-other_class.false c.u16_at-ty.ensures.0 c.u16_at-other_type.ensures.0 c.if-ty-other_type.true

pub returns : goal.returns
returns c =
    let a = c.args in
    let m = c.u16_at-class.ensures.0 in
    let n = c.u16_at-other_class.ensures.0 in
    content-tells a.table.now a.first a.second m n c.if-class-other_class.false c.u16_at-ty.ensures.0 c.u16_at-other_type.ensures.0
    c.earlier_content.result c.if-ty-other_type.false c.earlier_content.ensures
