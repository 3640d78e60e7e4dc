-- `sheet_list::read_actions` meets its contract. The loop's invariant: what stands of the actions that are left is what stands of all of them. Assumes nothing.
use Rattle.std.proofs.Common.{ℕ, ◌-◌, ◌≤◌, length, Option}
use Rattle.encoding.specs.Codes.{many}
use Rattle.sheet_sections.specs.Section.{Parses}
use Rattle.meaning.specs.Limits.{OkAction}
use Rattle.meaning.specs.Sheet.{action_code}
use Rattle.sheet_list.specs.Action.{Exactly}
use Rattle.sheet_list.proofs.read_actions.Given as goal

abbrev pub invariant-loop : goal.invariant-loop
invariant-loop l =
    (l.place ≤ length l.bytes)
    × ((r : Option ℕ) → Parses (many action_code) (Exactly (l.count - l.counter) (OkAction l.glyphs)) l.bytes l.place r → Parses (many action_code) (Exactly l.count (OkAction l.glyphs)) l.bytes l.at r)
