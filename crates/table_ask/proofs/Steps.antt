-- The steps to a place of specs/Places.antt, over values as read.
use Rattle.lookup_targets.specs.Values.{from_lookup}
use Rattle.table_ask.specs.Places.{there}
use Rattle.std.specs.Prelude.{None, Option, Some}
use Prim.Native.Nat.{ℕ, ◌<◌, ◌≤◌, ◌^◌}
use native.Mathlib.Omega.{arith}
use mathlib.Core.Path.{◌≡◌, sym, ap, ap₂, subst, ◌∙◌}
use mathlib.Core.List.{List}
use mathlib.Core.Bool.{Bool, cond}
use borrow.Author.Tests.{le-ltb, lt-ltb}
use Rattle.fields.specs.Faults.{FirstFault}
use Rattle.fields.specs.Faults.{Clear}
use Rattle.lookup_find.specs.declared.Head.{Head}
use Rattle.lookup_find.specs.Halves.{head_at, Searchable}
use Rattle.lookup_targets.specs.declared.Kind.{Kind}
use Rattle.fields.proofs.Laws.{then-first}
use Rattle.types.specs.declared.Direction.{Direction}
use Rattle.meaning.specs.Ask.{Answer}
use Rattle.answers.specs.Says.{unless_bad}
use Rattle.lookup.specs.Find.{value_of}
use Rattle.actions.specs.declared.Stretch.{Stretch}
use Rattle.actions.specs.Actions.{SpotBelow}
use Rattle.lookup_targets.specs.declared.Source.{Source}
use Rattle.lookup_targets.specs.Values.{spot_of, values_fault, source_fault}
use Rattle.table.specs.Table.{direction_at, source_at, table_fault}
use Rattle.table.proofs.Laws.{direction-clear, source_clear, few-glyphs}
use Rattle.table_ask.specs.declared.Lookup.{Lookup}
use Rattle.table_ask.specs.Places.{headed, lookup_in, Readable, Sound, spot_by, spot_from, spot_in}
use Rattle.table_ask.specs.Components.{unless_fault}

-- the offset of a spot that is there
pub below_at : {n p : ℕ} {s : Option ℕ} → s ≡ Some p → SpotBelow n s → p < n
below_at {n} {p} {s} e b = subst (SpotBelow n) e b

-- a call answers by the fault that was found
pub judged : {f g : FirstFault} (a : Answer) → f ≡ g → unless_bad f a ≡ unless_bad g a
judged a e = ap (λ (h : FirstFault). unless_bad h a) e

-- a spot by a direction's lookup is the direction's
pub spot-found : (t : List ℕ) (n : ℕ) (d : Direction) (kind : Kind) (g : ℕ) {l : Option Lookup} → l ≡ lookup_in t d kind → spot_by t n kind l g ≡ spot_in t n d kind g
unfolding spot_in
spot-found t n d kind g e = ap (λ (k : Option Lookup). spot_by t n kind k g) e

-- ---- the lookups of an accepted table have no fault

module _ (t : List ℕ) (n : ℕ) (e : table_fault t n ≡ Clear) where
  few : n < 65536
  unfolding table_fault
  few = omega (arith, few-glyphs t n (then-first _ _ e))

  pub lookup-sound : (d : Direction) (kind : Kind) {l : Option Lookup} → l ≡ lookup_in t d kind → Sound t n l
  unfolding lookup_in values_fault
  lookup-sound d kind q = subst (Sound t n) (sym q) (go (source_at t (direction_at t d) kind) (source_clear t (direction_at t d) n (direction-clear t n e d) kind))
    where
      go : (s : Option Source) → source_fault t n kind s ≡ Clear → Sound t n (headed t s)
      go (Some s) f = (then-first _ _ f, few)
      go None f = tt

-- ---- a lookup that is there, as the code has taken it apart

module _ (t : List ℕ) (n : ℕ) {l : Option Lookup} {at base : ℕ} {head : Head} (e : l ≡ there at base head) where
  pub there-ready : Readable t l → Sound t n l → Searchable t n at head
  there-ready r s =
      let w = subst (Readable t) e r in
      let v = subst (Sound t n) e s in
      record { near = w.0; read = w.1.1; few = v.1; clear = v.0 }

  pub there-base : Readable t l → base < 2 ^ 16
  there-base r = (subst (Readable t) e r).1.0
