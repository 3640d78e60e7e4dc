-- `sheet_cells::has_entry` meets its contract: an entry is one of those exactly where its index is below their count. Assumes nothing.
use Rattle.std.proofs.Common.{◌≡◌, ℕ, ◌+◌, ◌*◌, refl, arith, rules}
use Rattle.std.proofs.lemmas.Iterator.{cases_from_any, YieldsList-from_range}
use Rattle.sheet_sections.proofs.RangeLaws.{says-any, says-same}
use Rattle.sheet_cells.specs.Cells.{entry_at}
use Rattle.sheet_cells.proofs.TurnLaws.{index-some, some-index}
use Rattle.sheet_cells.proofs.has_entry.Goals as goal

pub returns : goal.returns
returns c =
    let a = c.args in
    let s = a.bytes.now in
    says-same c.any.result _ _ (λ h. index-some s a.entry a.count a.at h.0 h.1 h.2) (some-index s a.entry a.count a.at)
    (says-any (λ (i : ℕ). entry_at s (a.at + 4 * i) ≡ a.entry) a.count c.any.result
    (cases_from_any _ _ _ (λ (i : ℕ). entry_at s (a.at + 4 * i) ≡ a.entry) (λ (i : ℕ). entry_at s (a.at + 4 * i) ≡ a.entry → ⊥) c.any.ensures.ran
    (YieldsList-from_range 0 a.count a.count refl (omega arith)) (λ x q k. search rules) (λ x q k. search rules)))
