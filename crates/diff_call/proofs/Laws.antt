-- The calls' answers, case by case.
use Prim.Native.Nat.{ℕ, ◌*◌, ◌/◌, ◌≤◌, ◌<◌}
use mathlib.Core.Path.{◌≡◌, refl, sym, ap, ◌∙◌}
use mathlib.Core.Bool.{Bool, true, false}
use mathlib.Core.List.{List, [], ◌∷◌}
use native.Mathlib.Omega.{arith}
use lib.Dec.{leb}
use lib.ListN.{length}
use lib.Seq.{sets}
use borrow.Author.Tests.{le-leb, lt-leb}
use Rattle.std.specs.Prelude.{Err}
use Rattle.fields.specs.declared.Fault.{Fault}
use Rattle.fields.specs.Faults.{FirstFault, Clear, Bad}
use Rattle.fields.specs.declared.Refusal.TheVariants.{ShortRoom}
use Rattle.fields.specs.Refusals.{number_of}
use Rattle.fields.specs.Faults.{rule}
use Rattle.fields.proofs.Laws.{then-first, then-second, then-stop, then-go}
use Rattle.meaning.specs.Ask.{number}
use Rattle.answers.specs.Says.{refused, given, unless_bad}
use Rattle.table.specs.Table.{table_fault}
use Rattle.table.specs.Means.{meaning_of}
use Rattle.diff_rule.specs.declared.Difference.{Difference}
use Rattle.diff_rule.specs.Differences.{differences}
use Rattle.diff_rule.specs.Order.{all_numbers}
use Rattle.diff_rule.proofs.Stored.{numbers-length}
use Rattle.diff_call.specs.Calls.{differences_of, either_fault, differences_counted, listing_fault, stored_unless, differences_listed}

module _ (t u : List ℕ) (n : ℕ) where
  -- ---- the tables

  pub first-clear : table_fault t n ≡ Clear → table_fault u n ≡ either_fault t u n
  unfolding either_fault
  first-clear e = sym (then-go (table_fault u n) e)

  pub both-clear : either_fault t u n ≡ Clear → (table_fault t n ≡ Clear) × (table_fault u n ≡ Clear)
  unfolding either_fault
  both-clear e = (then-first (table_fault t n) (table_fault u n) e, then-second (table_fault t n) (table_fault u n) e)

  -- ---- how many

  pub count-bad : (f : Fault) → either_fault t u n ≡ Err f → refused (number_of f.refusal) f.at ≡ differences_counted t u n
  unfolding differences_counted
  count-bad f e = ap (λ (x : FirstFault). unless_bad x (number (length (differences_of t u n)))) (sym e)

  module _ (size : ℕ) (e : size ≡ length (all_numbers (differences (meaning_of t n) (meaning_of u n)))) where
    size_is : size ≡ 5 * length (differences_of t u n)
    unfolding differences_of
    size_is = e ∙ numbers-length (differences (meaning_of t n) (meaning_of u n))

    found-is : size / 5 ≡ length (differences_of t u n)
    found-is = omega (arith, size_is)

    pub count-clear : either_fault t u n ≡ Clear → given (number (size / 5)) ≡ differences_counted t u n
    unfolding differences_counted
    count-clear c =
        ap (λ (k : ℕ). given (number k)) found-is ∙ ap (λ (f : FirstFault). unless_bad f (number (length (differences_of t u n)))) (sym c)

  -- ---- the list

  module _ (room : List ℕ) where
    by-fault : (f : FirstFault) → f ≡ listing_fault t u n (length room)
        → record { said = unless_bad f (number (length (differences_of t u n))); room = stored_unless f (differences_of t u n) room } ≡ differences_listed t u n room
    unfolding differences_listed
    by-fault f e =
        ap (λ (x : FirstFault). record { said = unless_bad x (number (length (differences_of t u n))); room = stored_unless x (differences_of t u n) room }) e

    pub list-bad : (f : Fault) → either_fault t u n ≡ Err f → record { said = refused (number_of f.refusal) f.at; room = room } ≡ differences_listed t u n room
    unfolding listing_fault
    list-bad f e = by-fault (Err f) (sym e ∙ sym (then-stop (rule (leb (length (differences_of t u n)) (length room / 5)) ShortRoom 0) e))

    module _ (c : either_fault t u n ≡ Clear) (size : ℕ) (e : size ≡ length (all_numbers (differences (meaning_of t n) (meaning_of u n)))) where
      by-room : (b : Bool) → leb (length (differences_of t u n)) (length room / 5) ≡ b → rule b ShortRoom 0 ≡ listing_fault t u n (length room)
      unfolding listing_fault
      by-room b q =
          ap (λ (x : Bool). rule x ShortRoom 0) (sym q) ∙ sym (then-go (rule (leb (length (differences_of t u n)) (length room / 5)) ShortRoom 0) c)

      pub too_long : length room < size → record { said = refused (number_of ShortRoom) 0; room = room } ≡ differences_listed t u n room
      unfolding rule
      too_long h =
          by-fault (Bad ShortRoom 0)
          (by-room false (lt-leb (length (differences_of t u n)) (length room / 5) (omega (arith, size_is size e))))

      pub all-stored : (l : List ℕ) → size ≤ length room → l ≡ sets room 0 (all_numbers (differences (meaning_of t n) (meaning_of u n)))
          → record { said = given (number (size / 5)); room = l } ≡ differences_listed t u n room
      unfolding rule differences_of
      all-stored l h s =
          (λ i. record { said = given (number (found-is size e i)); room = s i })
          ∙ by-fault Clear (by-room true (le-leb (length (differences_of t u n)) (length room / 5) (omega (arith, size_is size e))))

      nothing : (xs : List Difference) → size ≡ 5 * length xs → size ≡ 0 → room ≡ sets room 0 (all_numbers xs)
      unfolding all_numbers
      nothing [] q z = refl
      nothing (x ∷ xs) q z = absurd (omega arith)

      pub none-stored : size ≡ 0 → record { said = given (number 0); room = room } ≡ differences_listed t u n room
      unfolding differences_of
      none-stored z =
          let k : 0 ≡ size / 5 = omega (arith, z) in
          ap (λ (j : ℕ). record { said = given (number j); room = room }) k
          ∙ all-stored room (omega arith) (nothing (differences (meaning_of t n) (meaning_of u n)) (size_is size e) z)

-- the cases of the two calls
pub ruleset counting = (both-clear, count-bad, count-clear)

pub ruleset listing = (both-clear, list-bad, too_long, none-stored)
