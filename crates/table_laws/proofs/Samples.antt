-- Small tables: some are accepted, so that a program which refuses every table does not keep to `table_fault`; one has a fault in either direction, and horizontal's is given.
use Rattle.fields.specs.Faults.{earlier}
use Rattle.std.specs.Prelude.{None, Option}
use Prim.Native.Nat.{ℕ, zero, suc, ◌+◌, ◌≤◌}
use mathlib.Core.Path.{◌≡◌, refl, ap, ◌∙◌}
use mathlib.Core.Bool.{Bool, true, false, cond}
use mathlib.Core.Logic.{inl}
use mathlib.Core.List.{◌++◌}
use native.Mathlib.Omega.{arith}
use lib.Dec.{ltb}
use lib.ListN.{replicate}
use Rattle.fields.specs.declared.Refusal.TheVariants.{Outside}
use Rattle.fields.specs.Faults.{FirstFault}
use Rattle.fields.specs.Faults.{Clear, Bad}
use Rattle.fields.specs.Field.{u16_at, u32_at, be32}
use Rattle.fields.specs.Faults.{◌then◌, rule, inside}
use Rattle.fields.specs.Walk.{walk, each}
use Rattle.fields.proofs.Laws.{then-clear, then-go}
use Rattle.types.specs.declared.Direction.TheVariants.{Horizontal}
use Rattle.meaning.specs.Sheet.{write}
use Rattle.meaning.proofs.SheetLaws.{empty-sheet}
use Rattle.lookup.specs.Units.{unit_size}
use Rattle.lookup.specs.Find.{units_value, has_units, unit_count, value_from, value_of}
use Rattle.lookup.specs.Lookup.{counted_fault, format_fault, lookup_fault}
use Rattle.lookup_targets.specs.declared.Kind.TheVariants.{Clusters}
use Rattle.lookup_targets.specs.Values.{spot_of, spot_fault, target_fault, values_fault}
use Rattle.table.specs.Table.{present, offsets_fault, machine_part, action_part, direction_fault, table_fault, Accepted}
use Rattle.meaning.specs.Meaning.{empty_side}
use Rattle.table.specs.Means.{direction_of, meaning_of}
use Rattle.table_laws.specs.Order.{GoodHeader}
use Rattle.table_laws.specs.Absent.{EmptyDirection}
use Rattle.table_laws.specs.Samples.{bare_table, hollow_table, stray_table}
use Rattle.table_laws.proofs.Faults.{good-header, no-fault, horizontal-first}
use Rattle.table_laws.proofs.Absent.{absent-meaning}

-- ---- a header alone

bare-header : (n : ℕ) → 1 ≤ n → n ≤ 65535 → GoodHeader bare_table n
unfolding bare_table u16_at u32_at
bare-header n a b = record { long = omega arith; short = omega arith; some = a; few = b; version = refl; format = refl }

bare-horizontal : (n : ℕ) → direction_fault bare_table n (u16_at bare_table 6) ≡ Clear
unfolding bare_table u16_at direction_fault present
bare-horizontal n = refl

bare-vertical : (n : ℕ) → direction_fault bare_table n (u16_at bare_table 8) ≡ Clear
unfolding bare_table u16_at direction_fault present
bare-vertical n = refl

-- 00010000 0000 0000 0000 is accepted with every N from 1 to 65,535
pub bare-accepted : (n : ℕ) → 1 ≤ n → n ≤ 65535 → Accepted bare_table n
bare-accepted n a b = (no-fault bare_table n).1 ((good-header bare_table n).1 (bare-header n a b), (bare-horizontal n, (bare-vertical n, tt)))

-- it means nothing in either direction
pub bare-meaning : (n : ℕ) → meaning_of bare_table n ≡ record { glyphs = n; horizontal = empty_side n; vertical = empty_side n }
unfolding bare_table u16_at meaning_of direction_of
bare-meaning n = refl

-- and its sheet is N and sixteen counts of 0
pub bare-sheet : (n : ℕ) → write (meaning_of bare_table n) ≡ be32 n ++ replicate 64 0
bare-sheet n = ap write (bare-meaning n) ∙ empty-sheet n

-- ---- a direction that is present and holds nothing

all-clear : (one : ℕ → FirstFault) → ((p : ℕ) → one p ≡ Clear) → (n at : ℕ) → each one (λ p. p + 1) n at ≡ Clear
unfolding walk
all-clear one h zero at = refl
all-clear one h (suc n) at = then-go _ (h at) ∙ all-clear one h n (at + 1)

hollow-header : (n : ℕ) → 1 ≤ n → n ≤ 65535 → GoodHeader hollow_table n
unfolding hollow_table u16_at u32_at
hollow-header n a b = record { long = omega arith; short = omega arith; some = a; few = b; version = refl; format = refl }

-- no glyph has a width value
hollow-value : (n g : ℕ) → value_of hollow_table n 16 g ≡ None
unfolding hollow_table u16_at value_of value_from unit_count has_units units_value
hollow-value n g = go (ltb g n)
  where
    go : (b : Bool) → cond b (value_from hollow_table 16 g (unit_count hollow_table 16) 28) None ≡ None
    go true = refl
    go false = refl

hollow-glyph : (n g : ℕ) → target_fault hollow_table n Clusters 16 0 g ≡ Clear
unfolding target_fault
hollow-glyph n g = ap (λ (f : Option ℕ). spot_fault hollow_table n Clusters (spot_of Clusters 0 f)) (hollow-value n g)

hollow-lookup : (n : ℕ) → lookup_fault hollow_table n 16 ≡ Clear
unfolding hollow_table u16_at lookup_fault format_fault counted_fault unit_size inside rule earlier walk
hollow-lookup n = refl

hollow-widths : (n : ℕ) → values_fault hollow_table n Clusters 16 0 ≡ Clear
unfolding values_fault
hollow-widths n = then-go _ (hollow-lookup n) ∙ all-clear (target_fault hollow_table n Clusters 16 0) (hollow-glyph n) n 0

hollow-empty : (n : ℕ) → EmptyDirection hollow_table n 10
unfolding hollow_table u16_at
hollow-empty n = record { no-machine = refl; no-widths = λ g _. hollow-value n g; no-actions = inl refl }

hollow-horizontal : (n : ℕ) → direction_fault hollow_table n (u16_at hollow_table 6) ≡ Clear
unfolding hollow_table u16_at direction_fault present offsets_fault machine_part action_part inside rule earlier
hollow-horizontal n = then-clear (values_fault hollow_table n Clusters 16 0) ∙ hollow-widths n

hollow-vertical : (n : ℕ) → direction_fault hollow_table n (u16_at hollow_table 8) ≡ Clear
unfolding hollow_table u16_at direction_fault present
hollow-vertical n = refl

-- it is accepted with every N from 1 to 65,535
pub hollow-accepted : (n : ℕ) → 1 ≤ n → n ≤ 65535 → Accepted hollow_table n
hollow-accepted n a b =
    (no-fault hollow_table n).1 ((good-header hollow_table n).1 (hollow-header n a b), (hollow-horizontal n, (hollow-vertical n, tt)))

-- its meaning is that of the header alone
pub hollow-meaning : (n : ℕ) → meaning_of bare_table n ≡ meaning_of hollow_table n
unfolding bare_table hollow_table u16_at direction_of
hollow-meaning n = absent-meaning bare_table hollow_table n Horizontal refl (hollow-empty n) refl

-- and so is its sheet
pub hollow-sheet : (n : ℕ) → write (meaning_of bare_table n) ≡ write (meaning_of hollow_table n)
hollow-sheet n = ap write (hollow-meaning n)

-- ---- a fault in both directions

-- vertical's fault is refusal 4 at 11
pub stray-vertical : (n : ℕ) → direction_fault stray_table n (u16_at stray_table 8) ≡ Bad Outside 11
unfolding stray_table u16_at direction_fault present offsets_fault inside rule earlier
stray-vertical n = refl

stray-horizontal : (n : ℕ) → direction_fault stray_table n (u16_at stray_table 6) ≡ Bad Outside 10
unfolding stray_table u16_at direction_fault present offsets_fault inside rule earlier
stray-horizontal n = refl

stray-header : (n : ℕ) → 1 ≤ n → n ≤ 65535 → GoodHeader stray_table n
unfolding stray_table u16_at u32_at
stray-header n a b = record { long = omega arith; short = omega arith; some = a; few = b; version = refl; format = refl }

-- horizontal's is refusal 4 at 10, and the table's is horizontal's
pub stray-refused : (n : ℕ) → 1 ≤ n → n ≤ 65535 → table_fault stray_table n ≡ Bad Outside 10
stray-refused n a b = horizontal-first stray_table n Outside 10 ((good-header stray_table n).1 (stray-header n a b)) (stray-horizontal n)
