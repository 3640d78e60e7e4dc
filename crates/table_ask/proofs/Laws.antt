-- What holds of an accepted table's actions and component lists: each action that is found keeps the limits, so it is handed out whole; a component list lies inside the
-- table and is what the meaning has of it.
use Rattle.lookup_targets.specs.Values.{from_lookup}
use Rattle.std.specs.Prelude.{None, Option, Some, Ok, Err}
use Rattle.std.specs.Prelude.{Ok, Err}
use Prim.Native.Nat.{ℕ, ◌+◌, ◌*◌, ◌≤◌, ◌<◌}
use mathlib.Core.Path.{◌≡◌, refl, sym, ap, ◌∙◌}
use mathlib.Core.Bool.{Bool, true, false, cond}
use mathlib.Core.List.{List, []}
use native.Mathlib.Omega.{arith}
use native.Mathlib.Decide.{dec_lt}
use lib.Dec.{eqb}
use lib.ListN.{length, drop}
use borrow.Author.Tests.{eqb-true, eqb-false}
use Rattle.fields.specs.Faults.{FirstFault}
use Rattle.fields.specs.Faults.{Clear, Bad}
use Rattle.fields.specs.Field.{u16_at, Bytes}
use Rattle.fields.proofs.Walk.{walk-each}
use Rattle.fields.proofs.Laws.{then-second}
use Rattle.types.specs.declared.Direction.{Direction}
use Rattle.meaning.specs.Ask.{Answer, action, along, act, ask}
use Rattle.types.specs.declared.HeldAction.{HeldAction}
use Rattle.answers.specs.Says.{given, unless_bad, says_action, room_of, room_after}
use Rattle.lookup.specs.Find.{value_of}
use Rattle.actions.specs.declared.Stretch.{Stretch}
use Rattle.actions.specs.Faults.{list_fault, action_fault}
use Rattle.actions.specs.Actions.{action_at}
use Rattle.actions.proofs.Laws.{list-each, action-ok, clipped-ok, components-ordered, components-inside, components-are}
use Rattle.actions.proofs.Steps.{components-none}
use Rattle.lookup_targets.specs.declared.Kind.{Kind}
use Rattle.lookup_targets.specs.declared.Kind.TheVariants.{Lists}
use Rattle.lookup_targets.specs.declared.Source.{Source}
use Rattle.lookup_targets.specs.Values.{spot_of, spot_fault, target_fault, values_fault, source_fault}
use Rattle.table.specs.Table.{direction_at, source_at, table_fault}
use Rattle.table.proofs.Laws.{direction-clear, source_clear}
use Rattle.table.specs.Means.{meaning_of}
use Rattle.table_ask.specs.Places.{headed, lookup_in, spot_by, spot_in, numbered, action_spot, cut}
use Rattle.table_ask.specs.Components.{empty_stretch, components_here, unless_fault, components_of, stretch, listed_components}
use Rattle.table_ask.proofs.Steps.{judged}
use Rattle.table_ask.proofs.Asked.{value-past, action-here}

-- what a glyph's value leads to is without fault where the lookup's part is
value-clear : (t : List ℕ) (n : ℕ) (kind : Kind) (at base g q : ℕ) → values_fault t n kind at base ≡ Clear → spot_of kind base (value_of t n at g) ≡ Some q
    → spot_fault t n kind (Some q) ≡ Clear
unfolding values_fault target_fault
value-clear t n kind at base g q e f = go (dec_lt g n)
  where
    go : Dec (g < n) → spot_fault t n kind (Some q) ≡ Clear
    go (yes h) =
        let z : 0 + 1 * g ≡ g = omega arith in
        ap (spot_fault t n kind) (sym f)
        ∙ ap (λ (i : ℕ). target_fault t n kind at base i) (sym z)
        ∙ (walk-each (λ p _. target_fault t n kind at base p) 1 (λ p. 0) n 0 0 (then-second _ _ e) g h).1
    go (no h) = let p = value-past t n at g (omega arith) kind base in let z : ◌≡◌ {A = ℕ} 0 1 = cc in absurd (omega arith)

module _ (t : List ℕ) (n : ℕ) (d : Direction) (ok : table_fault t n ≡ Clear) where
  -- a glyph's list is without fault
  pub list-clear : (g q : ℕ) → spot_in t n d Lists g ≡ Some q → list_fault t n q ≡ Clear
  unfolding spot_in lookup_in
  list-clear g q e = go (source_at t (direction_at t d) Lists) (source_clear t (direction_at t d) n (direction-clear t n ok d) Lists) e
    where
      go : (s : Option Source) → source_fault t n Lists s ≡ Clear → spot_by t n Lists (headed t s) g ≡ Some q → list_fault t n q ≡ Clear
      go (Some s) f e = value-clear t n Lists s.at s.base g q f e
      go None f e = let z : ◌≡◌ {A = ℕ} 0 1 = cc in absurd (omega arith)

  -- and so is each of its actions
  pub action-clear : (g k p : ℕ) → action_spot t n d g k ≡ Some p → action_fault t n p ≡ Clear
  unfolding action_spot
  action-clear g k p e = by-spot (spot_in t n d Lists g) refl e
    where
      by-spot : (s : Option ℕ) → spot_in t n d Lists g ≡ s → numbered t k s ≡ Some p → action_fault t n p ≡ Clear
      by-spot (Some q) l e = list-each t n q k p (list-clear g q l) e
      by-spot None l e = let z : ◌≡◌ {A = ℕ} 0 1 = cc in absurd (omega arith)

  -- so an action is handed out whole
  pub whole : Bytes t → (g k : ℕ) → cut (ask (meaning_of t n) (along d (action g k))) ≡ ask (meaning_of t n) (along d (action g k))
  whole w g k = by-spot (action_spot t n d g k) refl
    where
      by-spot : (s : Option ℕ) → action_spot t n d g k ≡ s → cut (ask (meaning_of t n) (along d (action g k))) ≡ ask (meaning_of t n) (along d (action g k))
      by-spot (Some p) l =
          let h = action-here t n d g k (Some p) (sym l) in
          ap cut (sym h) ∙ ap act (clipped-ok n (action_at t p) (action-ok t n p w (action-clear g k p l))) ∙ h
      by-spot None l = let h = action-here t n d g k None (sym l) in ap cut (sym h) ∙ h

  -- what is read without judging is what a call answers
  pub answered : Bytes t → (g k : ℕ) (r : Option HeldAction)
      → (says_action (Ok r) ≡ given (cut (ask (meaning_of t n) (along d (action g k))))) × (room_of (Ok r) ≡ room_after (given (cut (ask (meaning_of t n) (along d (action g k))))))
      → (says_action (Ok r) ≡ unless_bad (table_fault t n) (ask (meaning_of t n) (along d (action g k))))
      × (room_of (Ok r) ≡ room_after (unless_bad (table_fault t n) (ask (meaning_of t n) (along d (action g k)))))
  answered w g k r e =
      let a : Answer = ask (meaning_of t n) (along d (action g k)) in
      let same : given (cut a) ≡ unless_bad (table_fault t n) a = ap given (whole w g k) ∙ judged a (sym ok) in
      (e.0 ∙ same, e.1 ∙ ap room_after same)

-- ---- component lists

-- a stretch that lies in the table
pub record Within (t : List ℕ) (s : Stretch) : Type 0 where
  pub ordered : s.from ≤ s.to
  pub inside : s.to ≤ length t

module _ (t : List ℕ) (n : ℕ) (d : Direction) (g k : ℕ) where
  none_within : Within t empty_stretch
  none_within = record { ordered = omega arith; inside = omega arith }

  pub components-within : Within t (components_of t n d g k)
  unfolding components_of
  components-within = by-fault (table_fault t n) refl
    where
      by-spot : table_fault t n ≡ Clear → (s : Option ℕ) → action_spot t n d g k ≡ s → Within t (components_here t s)
      by-spot ok (Some p) e = record { ordered = components-ordered t p; inside = components-inside t n p (action-clear t n d ok g k p e) }
      by-spot ok None e = none_within

      by-fault : (f : FirstFault) → table_fault t n ≡ f → Within t (unless_fault f (components_here t (action_spot t n d g k)))
      by-fault (Ok u) e = by-spot e (action_spot t n d g k) refl
      by-fault (Err f) e = none_within

  -- the component list is what the meaning has after the count of a type 0 action, and nothing where it has no such action or the table is refused
  pub components-mean : stretch t (components_of t n d g k) ≡ listed_components (unless_bad (table_fault t n) (ask (meaning_of t n) (along d (action g k))))
  unfolding components_of stretch action_at
  components-mean = by-fault (table_fault t n) refl
    where
      by_kind : (p : ℕ) → action_fault t n p ≡ Clear → (b : Bool) → eqb (u16_at t (p + 2)) 0 ≡ b
          → stretch t (components_here t (Some p)) ≡ cond b (drop 12 (action_at t p).content) []
      by_kind p f true e = components-are t n p f (eqb-true _ _ e)
      by_kind p f false e = ap (stretch t) (components-none t p (u16_at t (p + 2)) refl (eqb-false _ _ e))

      by-spot : table_fault t n ≡ Clear → (s : Option ℕ) → action_spot t n d g k ≡ s
          → stretch t (components_here t s) ≡ listed_components (unless_bad Clear (ask (meaning_of t n) (along d (action g k))))
      by-spot ok (Some p) e =
          by_kind p (action-clear t n d ok g k p e) (eqb (u16_at t (p + 2)) 0) refl
          ∙ ap (λ (a : Answer). listed_components (unless_bad Clear a)) (action-here t n d g k (Some p) (sym e))
      by-spot ok None e = ap (λ (a : Answer). listed_components (unless_bad Clear a)) (action-here t n d g k None (sym e))

      by-fault : (f : FirstFault) → table_fault t n ≡ f
          → stretch t (unless_fault f (components_here t (action_spot t n d g k))) ≡ listed_components (unless_bad f (ask (meaning_of t n) (along d (action g k))))
      by-fault (Ok u) e = by-spot e (action_spot t n d g k) refl
      by-fault (Err f) e = refl
