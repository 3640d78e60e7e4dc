-- What is demanded of the calls for what differs between two tables (document 02, 6/14), over any outcomes of them: no more is known of an outcome than the
-- calls promise.
use Rattle.std.specs.Prelude.{ℕ, ◌*◌, ◌≤◌, ◌<◌, ◌^◌, ◌≡◌, List, map, length, Result, Ok, Err}
use Rattle.std.proofs.lemmas.List.Edits.{sets}
use Rattle.fields.specs.Field.{Bytes}
use Rattle.fields.specs.declared.Fault.{Fault}
use Rattle.types.specs.declared.Direction.{Direction}
use Rattle.meaning.specs.Ask.{Part, sizes, class, cell}
use Rattle.answers.specs.Says.{says_count}
use Rattle.encoding.specs.Codes.{All}
use Rattle.table.specs.Table.{Accepted}
use Rattle.table.specs.Means.{meaning_of}
use Rattle.sheet_laws.specs.Writing.{SheetBy}
use Rattle.diff_rule.specs.declared.Difference.{Difference}
use Rattle.diff_rule.specs.Order.{key_of, Between, all_numbers}
use Rattle.diff_rule.specs.Exchange.{exchanged}
use Rattle.diff_call.specs.Calls.{differences_of, differences_counted, ListAnswer, differences_listed}
use Rattle.diff_laws.specs.Reach.{InReach, Precedes}
use Rattle.diff_laws.specs.Unlike.{SameAnswer, Founded, Unnamed, Listable}

-- an answer of `difference_count` for the tables t and u read with n
abbrev pub CountAnswered : List ℕ → List ℕ → ℕ → Result ℕ Fault → Type 0
CountAnswered t u n answer = says_count answer ≡ differences_counted t u n

-- an answer of `differences`, with the room as it was lent and as it is handed back
abbrev pub ListAnswered : List ℕ → List ℕ → ℕ → List ℕ → Result ℕ Fault → List ℕ → Type 0
ListAnswered t u n before answer after = ◌≡◌ {A = ListAnswer} (record { said = says_count answer; room = after }) (differences_listed t u n before)

pub record Changes : Type 0 where
  -- there is no difference exactly when the sheets that are written for the two tables are equal
  pub empty-exactly : (t u s s' : List ℕ) (n : ℕ) → Bytes t → Bytes u → Accepted t n → Accepted u n → SheetBy t n s → SheetBy u n s'
      → (answer : Result ℕ Fault) → CountAnswered t u n answer → (answer ≡ Ok 0 → s ≡ s') × (s ≡ s' → answer ≡ Ok 0)
  -- the list is what the room holds from its start on, and is counted; after a refusal the room is as it was
  pub the-list : (t u before after : List ℕ) (n count : ℕ) → ListAnswered t u n before (Ok count) after
      → (count ≡ length (differences_of t u n)) × (after ≡ sets before 0 (all_numbers (differences_of t u n))) × (5 * count ≤ length before)
  pub refused-unchanged : (t u before after : List ℕ) (n : ℕ) (fault : Fault) → ListAnswered t u n before (Err fault) after → after ≡ before
  -- each difference stands once, in order: direction, what differs and the two numbers, as one number, rise strictly; the two stay in reach, where a greater
  -- number stands for what comes later, by direction, then by what differs, then by the first number, then by the second
  pub in_order : (t u : List ℕ) (n : ℕ) → Bytes t → Accepted t n → Between 0 (10 * 2 ^ 24) (differences_of t u n)
  pub in_reach : (t u : List ℕ) (n : ℕ) → Bytes t → Accepted t n → All InReach (differences_of t u n)
  pub as-ordered : (x y : Difference) → InReach x → InReach y → key_of x < key_of y → Precedes x y
  -- and nothing else stands there: the part that a difference names is in the tables that its mark says, and answers unlike in the two
  pub nothing-else : (t u : List ℕ) (n : ℕ) → All (Founded (meaning_of t n) (meaning_of u n)) (differences_of t u n)
  -- and nothing is left out: a part that no difference names answers alike; a class or a cell where the sizes are not named either
  pub nothing-left-out : (t u : List ℕ) (n : ℕ) → Bytes t → Bytes u → Accepted t n → Accepted u n → (d : Direction) (part : Part)
      → Listable d part (differences_of t u n) → Unnamed d part (differences_of t u n) → SameAnswer (meaning_of t n) (meaning_of u n) d part
  -- where the sizes are unlike, no class and no cell of that direction is named
  pub sizes-alone : (t u : List ℕ) (n : ℕ) (d : Direction) → (SameAnswer (meaning_of t n) (meaning_of u n) d sizes → ⊥) → (g r c : ℕ)
      → Unnamed d (class g) (differences_of t u n) × Unnamed d (cell r c) (differences_of t u n)
  -- where the tables are exchanged, so are the marks, and nothing else
  pub exchange : (t u : List ℕ) (n : ℕ) → differences_of u t n ≡ map exchanged (differences_of t u n)
