-- What is demanded of the calls for what differs between two tables holds.
use Prim.Native.Nat.{ℕ, ◌*◌, ◌/◌, ◌≤◌, ◌^◌}
use mathlib.Core.Path.{◌≡◌, refl, sym, ap, ◌∙◌}
use mathlib.Core.List.{List, [], ◌∷◌, map}
use native.Mathlib.Omega.{arith}
use lib.Dec.{leb}
use lib.ListN.{length}
use lib.Seq.{sets}
use borrow.Author.Tests.{leb-true}
use Rattle.std.specs.Prelude.{Result, Ok, Err}
use Rattle.fields.specs.declared.Fault.{Fault}
use Rattle.fields.specs.Faults.{FirstFault, Clear}
use Rattle.fields.specs.declared.Refusal.TheVariants.{ShortRoom}
use Rattle.fields.specs.Field.{Bytes}
use Rattle.fields.proofs.Laws.{then-second, rule-holds}
use Rattle.types.specs.declared.Direction.{Direction}
use Rattle.meaning.specs.Ask.{Part, sizes, class, cell, Answer, nothing, number, both, entry, pair, act}
use Rattle.meaning.specs.Sheet.{write}
use Rattle.answers.specs.Says.{Reply, refused, given, unless_bad, says_count}
use Rattle.table.specs.Table.{Accepted}
use Rattle.table.specs.Means.{meaning_of}
use Rattle.table_laws.proofs.Valid.{valid-meaning}
use Rattle.sheet_laws.specs.Writing.{SheetBy}
use Rattle.sheet_laws.proofs.Theorem.{meant}
use Rattle.diff_rule.specs.declared.Difference.{Difference}
use Rattle.diff_rule.specs.Order.{Between, all_numbers}
use Rattle.diff_rule.specs.Exchange.{exchanged}
use Rattle.diff_rule.proofs.Empty.{empty-sheets}
use Rattle.diff_rule.proofs.Order as order
use Rattle.diff_rule.proofs.Exchange as marks
use Rattle.diff_call.specs.Calls.{differences_of, either_fault, differences_counted, listing_fault, ListAnswer, stored_unless, differences_listed}
use Rattle.diff_call.proofs.Laws.{first-clear}
use Rattle.encoding.specs.Codes.{All}
use Rattle.diff_laws.specs.Reach.{InReach}
use Rattle.diff_laws.specs.Unlike.{SameAnswer, Founded, Unnamed, Listable}
use Rattle.diff_laws.proofs.Unlike.{all_told}
use Rattle.diff_laws.proofs.Complete.{all_named}
use Rattle.diff_laws.proofs.Alone.{alone}
use Rattle.diff_laws.proofs.Reach.{all-reach, key-rises}
use Rattle.diff_laws.specs.Changes.{CountAnswered, ListAnswered, Changes}

-- ---- what a reply says

amount : Answer → ℕ
amount nothing = 0
amount (number k) = k
amount (both s c) = 0
amount (entry e) = 0
amount (pair p) = 0
amount (act a) = 0

total : Reply → ℕ
total (refused k at) = 0
total (given a) = amount a

answered : Reply → ℕ
answered (refused k at) = 0
answered (given a) = 1

-- ---- empty

module _ (t u : List ℕ) (n : ℕ) where
  counted_is : Accepted t n → Accepted u n → differences_counted t u n ≡ given (number (length (differences_of t u n)))
  unfolding differences_counted Accepted
  counted_is a d =
      let e : either_fault t u n ≡ Clear = sym (first-clear t u n a) ∙ d in
      ap (λ (f : FirstFault). unless_bad f (number (length (differences_of t u n)))) e

  empty : Bytes t → Bytes u → Accepted t n → Accepted u n
      → (differences_of t u n ≡ [] → write (meaning_of t n) ≡ write (meaning_of u n)) × (write (meaning_of t n) ≡ write (meaning_of u n) → differences_of t u n ≡ [])
  unfolding differences_of meaning_of
  empty b c a d = empty-sheets (meaning_of t n) (meaning_of u n) (valid-meaning t n b a) (valid-meaning u n c d) refl

  no_length : (xs : List Difference) → 0 ≡ length xs → xs ≡ []
  no_length [] e = refl
  no_length (x ∷ xs) e = absurd (omega arith)

  none-counted : Accepted t n → Accepted u n → CountAnswered t u n (Ok 0) → differences_of t u n ≡ []
  unfolding total amount
  none-counted a d e = no_length (differences_of t u n) (ap total (e ∙ counted_is a d))

  counted_none : Accepted t n → Accepted u n → (answer : Result ℕ Fault) → CountAnswered t u n answer → differences_of t u n ≡ [] → answer ≡ Ok 0
  unfolding total amount answered
  counted_none a d (Ok k) e q = ap Ok (ap total (e ∙ counted_is a d) ∙ ap length q)
  counted_none a d (Err f) e q = let z : ◌≡◌ {A = ℕ} 0 1 = ap answered (e ∙ counted_is a d) in absurd (omega arith)

  empty-by : (s s' : List ℕ) → Bytes t → Bytes u → Accepted t n → Accepted u n → SheetBy t n s → SheetBy u n s'
      → (answer : Result ℕ Fault) → CountAnswered t u n answer → (answer ≡ Ok 0 → s ≡ s') × (s ≡ s' → answer ≡ Ok 0)
  empty-by s s' b c a d w v answer e = (
    (λ q. sym (meant t s n a w) ∙ (empty b c a d).0 (none-counted a d (ap says_count (sym q) ∙ e)) ∙ meant u s' n d v),
    (λ q. counted_none a d answer e ((empty b c a d).1 (meant t s n a w ∙ q ∙ sym (meant u s' n d v)))),
  )

-- ---- the list

module _ (t u before after : List ℕ) (n : ℕ) where
  fault-clear : (f : FirstFault) (count : ℕ) (xs : List Difference)
      → ◌≡◌ {A = ListAnswer} (record { said = given (number count); room = after }) (record { said = unless_bad f (number (length xs)); room = stored_unless f xs before })
      → (f ≡ Clear) × (count ≡ length xs) × (after ≡ sets before 0 (all_numbers xs))
  unfolding total amount answered
  fault-clear (Ok u) count xs e = (refl, ap (λ (o : ListAnswer). total o.said) e, ap (λ (o : ListAnswer). o.room) e)
  fault-clear (Err f) count xs e = let z : ◌≡◌ {A = ℕ} 1 0 = ap (λ (o : ListAnswer). answered o.said) e in absurd (omega arith)

  fault-bad : (f : FirstFault) (k at : ℕ) (xs : List Difference)
      → ◌≡◌ {A = ListAnswer} (record { said = refused k at; room = after }) (record { said = unless_bad f (number (length xs)); room = stored_unless f xs before })
      → after ≡ before
  unfolding answered
  fault-bad (Ok u) k at xs e = let z : ◌≡◌ {A = ℕ} 0 1 = ap (λ (o : ListAnswer). answered o.said) e in absurd (omega arith)
  fault-bad (Err f) k at xs e = ap (λ (o : ListAnswer). o.room) e

  room-enough : listing_fault t u n (length before) ≡ Clear → 5 * length (differences_of t u n) ≤ length before
  unfolding listing_fault
  room-enough e =
      let h : length (differences_of t u n) ≤ length before / 5 =
      leb-true _ _ (rule-holds (leb (length (differences_of t u n)) (length before / 5)) ShortRoom 0 (then-second (either_fault t u n) _ e)) in
      omega (arith, h)

  list-by : (count : ℕ) → ListAnswered t u n before (Ok count) after
      → (count ≡ length (differences_of t u n)) × (after ≡ sets before 0 (all_numbers (differences_of t u n))) × (5 * count ≤ length before)
  unfolding differences_listed
  list-by count e =
      let w = fault-clear (listing_fault t u n (length before)) count (differences_of t u n) e in
      (w.1, w.2, omega (arith, w.1, room-enough w.0))

  refused-by : (fault : Fault) → ListAnswered t u n before (Err fault) after → after ≡ before
  unfolding differences_listed
  refused-by fault e = fault-bad (listing_fault t u n (length before)) _ fault.at (differences_of t u n) e

-- ---- order and marks

ordered : (t u : List ℕ) (n : ℕ) → Bytes t → Accepted t n → Between 0 (10 * 2 ^ 24) (differences_of t u n)
unfolding differences_of
ordered t u n b a = order.in_order (meaning_of t n) (meaning_of u n) (valid-meaning t n b a)

reached : (t u : List ℕ) (n : ℕ) → Bytes t → Accepted t n → All InReach (differences_of t u n)
unfolding differences_of
reached t u n b a = all-reach (meaning_of t n) (meaning_of u n) (valid-meaning t n b a)

told-parts : (t u : List ℕ) (n : ℕ) → All (Founded (meaning_of t n) (meaning_of u n)) (differences_of t u n)
unfolding differences_of
told-parts t u n = all_told (meaning_of t n) (meaning_of u n)

named-parts : (t u : List ℕ) (n : ℕ) → Bytes t → Bytes u → Accepted t n → Accepted u n → (d : Direction) (part : Part)
    → Listable d part (differences_of t u n) → Unnamed d part (differences_of t u n) → SameAnswer (meaning_of t n) (meaning_of u n) d part
unfolding differences_of meaning_of
named-parts t u n b c a e = all_named (meaning_of t n) (meaning_of u n) (valid-meaning t n b a) (valid-meaning u n c e) refl

unlike-sizes : (t u : List ℕ) (n : ℕ) (d : Direction) → (SameAnswer (meaning_of t n) (meaning_of u n) d sizes → ⊥) → (g r c : ℕ)
    → Unnamed d (class g) (differences_of t u n) × Unnamed d (cell r c) (differences_of t u n)
unfolding differences_of
unlike-sizes t u n = alone (meaning_of t n) (meaning_of u n)

swapped : (t u : List ℕ) (n : ℕ) → differences_of u t n ≡ map exchanged (differences_of t u n)
unfolding differences_of meaning_of
swapped t u n = marks.exchange (meaning_of t n) (meaning_of u n) refl

pub changes : Changes
changes = record {
  empty-exactly = λ t u s s' n. empty-by t u n s s';
  the-list = λ t u before after n. list-by t u before after n;
  refused-unchanged = λ t u before after n. refused-by t u before after n;
  in_order = ordered;
  in_reach = reached;
  as-ordered = key-rises;
  nothing-else = told-parts;
  nothing-left-out = named-parts;
  sizes-alone = unlike-sizes;
  exchange = swapped;
}
