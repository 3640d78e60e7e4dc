-- `sheet_seek::value_of` meets its contract. The count is there with its runs, or nothing is looked up. Assumes nothing.
use Rattle.std.proofs.Common.{ℕ, ◌+◌, ◌∙◌, ap}
use Rattle.encoding.specs.Codes.{items_at}
use Rattle.sheet_sections.specs.RunSection.{run_at}
use Rattle.sheet_seek.specs.LookUp.{value_at}
use Rattle.sheet_seek.proofs.value_of.Goals as goal

pub returns-in_err-count : goal.returns-in_err-count
returns-in_err-count c = λ room. absurd (c.in_err-count.ensures room)

pub returns : goal.returns
returns c = λ room.
    let a = c.args in
    c.look_up.ensures ∙ ap (λ (k : ℕ). value_at a.glyph (items_at run_at 6 a.bytes.now (a.at + 4) k)) c.in_ok-count.ensures.1
