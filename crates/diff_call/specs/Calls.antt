-- The calls for what differs between two tables read with one glyph count (document 02, 6/14, and "Numbers of refusal" of document 01): the first table's
-- refusal, then the second's, then 16 exactly where the list is longer than the room; else the list. A refusal changes nothing of the room.
use Rattle.std.specs.Prelude.{ℕ, ◌/◌, List, leb, length, Ok, Err}
use Rattle.std.proofs.lemmas.List.Edits.{sets}
use Rattle.fields.specs.declared.Refusal.TheVariants.{ShortRoom}
use Rattle.fields.specs.Faults.{FirstFault, ◌then◌, rule}
use Rattle.meaning.specs.Ask.{number}
use Rattle.answers.specs.Says.{Reply, unless_bad}
use Rattle.table.specs.Table.{table_fault}
use Rattle.table.specs.Means.{meaning_of}
use Rattle.diff_rule.specs.declared.Difference.{Difference}
use Rattle.diff_rule.specs.Differences.{differences}
use Rattle.diff_rule.specs.Order.{all_numbers}

-- what differs between two tables
unfoldable pub differences_of : List ℕ → List ℕ → ℕ → List Difference
differences_of t u n = differences (meaning_of t n) (meaning_of u n)

-- ---- how many

unfoldable pub either_fault : List ℕ → List ℕ → ℕ → FirstFault
either_fault t u n = table_fault t n then table_fault u n

unfoldable pub differences_counted : List ℕ → List ℕ → ℕ → Reply
differences_counted t u n = unless_bad (either_fault t u n) (number (length (differences_of t u n)))

-- ---- the list: what is answered, and what the room holds afterwards. A difference takes five numbers of the room.

unfoldable pub listing_fault : List ℕ → List ℕ → ℕ → ℕ → FirstFault
listing_fault t u n room = either_fault t u n then rule (leb (length (differences_of t u n)) (room / 5)) ShortRoom 0

pub record ListAnswer : Type 0 where
  pub said : Reply
  pub room : List ℕ

-- the list from the room's start on, unless there is a fault
abbrev pub stored_unless : FirstFault → List Difference → List ℕ → List ℕ
stored_unless (Ok u) found room = sets room 0 (all_numbers found)
stored_unless (Err f) found room = room

unfoldable pub differences_listed : List ℕ → List ℕ → ℕ → List ℕ → ListAnswer
differences_listed t u n room =
    record {
      said = unless_bad (listing_fault t u n (length room)) (number (length (differences_of t u n)));
      room = stored_unless (listing_fault t u n (length room)) (differences_of t u n) room;
    }
