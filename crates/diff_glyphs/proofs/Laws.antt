-- What a block of numbers holds of two places, and what a stretch of glyphs adds to the differences.
use Prim.Native.Nat.{ℕ, ◌+◌, ◌-◌, ◌*◌, ◌/◌, ◌%◌, ◌≤◌, ◌<◌}
use mathlib.Core.Path.{◌≡◌, refl, sym, ap, ap₂, ◌∙◌, subst}
use mathlib.Core.List.{List, [], ◌∷◌, map}
use mathlib.Core.Option.{Option as Maybe, some}
use Rattle.std.specs.Prelude.{zero, suc, replicate, Option, None, Some}
use native.Mathlib.Omega.{arith}
use native.Mathlib.Decide.{ℕ_discrete}
use lib.ListN.{length, get_or, set, length-set, length-replicate}
use lib.Seq.{length-sets, get_or-set_same, get_or-set_other}
use Rattle.types.specs.declared.Direction.{Direction}
use Rattle.meaning.specs.Meaning.{Action}
use Rattle.meaning.specs.Limits.{Rising}
use Rattle.meaning.specs.Discrete.{list-discrete}
use Rattle.cluster.specs.Pairs.{cluster_at}
use Rattle.actions.specs.Actions.{list_at}
use Rattle.lookup_targets.specs.declared.Kind.{Kind}
use Rattle.lookup_targets.specs.declared.Kind.TheVariants.{Clusters, Lists}
use Rattle.write_item.specs.Items.{Item, no_item, item_at}
use Rattle.diff_stretches.specs.declared.Both.{Both}
use Rattle.diff_stretches.specs.declared.Sources.{Sources}
use Rattle.diff_stretches.specs.declared.GlyphStretch.{GlyphStretch}
use Rattle.diff_stretches.specs.Stretches.{Splits}
use Rattle.diff_rule.specs.declared.Mark.TheVariants.{Changed, OnlyFirst, OnlySecond}
use Rattle.diff_rule.specs.declared.Difference.{Difference}
use Rattle.diff_rule.specs.Differences.{mark_of, through, records_differ, some_list, list_differs}
use Rattle.diff_rule.specs.Order.{all_numbers, Stores}
use Rattle.diff_rule.specs.Again.{for_glyph, again, again_through}
use Rattle.diff_rule.proofs.Marks.{mark-same, mark-apart}
use Rattle.diff_rule.proofs.Merge.{merge-end}
use Rattle.diff_rule.proofs.Stored.{numbers-length}
use Rattle.diff_rule.proofs.Through.{through_same, from_start}
use Rattle.diff_rule.proofs.Again.{again-stored, through-again, records-for, records-few, list-for, list-few}
use Rattle.diff_glyphs.specs.declared.Compared.{Compared}
use Rattle.diff_glyphs.specs.Glyphs.{item_differs, places_differ, glyph_differs, glyphs_differ, Rises, AllRise, LastCompared, SamePairs}

-- ---- how two lists differ

some-length : (l : List Action) → (length l ≡ 0 → ⊥) → some_list l ≡ some l
some-length [] h = absurd (h refl)
some-length (x ∷ l) h = refl

none-length : (l : List Action) → length l ≡ 0 → l ≡ []
none-length [] h = refl
none-length (x ∷ l) h = absurd (omega arith)

list-self : (l : List Action) → None ≡ mark_of list-discrete (some_list l) (some_list l)
list-self [] = refl
list-self (x ∷ l) = mark-same list-discrete (x ∷ l) (x ∷ l) refl

module _ (xs ys : List Action) where
  pub lists-same : xs ≡ ys → None ≡ mark_of list-discrete (some_list xs) (some_list ys)
  lists-same e = subst (λ (l : List Action). None ≡ mark_of list-discrete (some_list xs) (some_list l)) e (list-self xs)

  pub lists-second : (xs ≡ ys → ⊥) → length xs ≡ 0 → Some OnlySecond ≡ mark_of list-discrete (some_list xs) (some_list ys)
  lists-second n z =
      let e : xs ≡ [] = none-length xs z in
      ap₂ (λ (a : List Action) (b : Maybe (List Action)). mark_of list-discrete (some_list a) b) (sym e) (sym (some-length ys (λ k. n (e ∙ sym (none-length ys k)))))

  pub lists-first : (length xs ≡ 0 → ⊥) → length ys ≡ 0 → Some OnlyFirst ≡ mark_of list-discrete (some_list xs) (some_list ys)
  lists-first n z =
      ap₂ (λ (a : Maybe (List Action)) (b : List Action). mark_of list-discrete a (some_list b)) (sym (some-length xs n)) (sym (none-length ys z))

  pub lists-changed : (xs ≡ ys → ⊥) → (length xs ≡ 0 → ⊥) → (length ys ≡ 0 → ⊥) → Some Changed ≡ mark_of list-discrete (some_list xs) (some_list ys)
  lists-changed n a b =
      mark-apart list-discrete xs ys n ∙ ap₂ (λ (x y : Maybe (List Action)). mark_of list-discrete x y) (sym (some-length xs a)) (sym (some-length ys b))

-- ---- two places, over the kind

item-for : (kind : Kind) (d : Direction) (g x : ℕ) (a b : Item kind) → map (for_glyph g) (item_differs kind d x a b) ≡ item_differs kind d g a b
unfolding item_differs
item-for Clusters d g x a b = records-for d g a b x
item-for Lists d g x a b = list-for d g a b x

item-few : (kind : Kind) (d : Direction) (g : ℕ) (a b : Item kind) → length (item_differs kind d g a b) ≤ 128
unfolding item_differs
item-few Clusters d g a b = records-few d g a b
item-few Lists d g a b = omega (arith, list-few d g a b)

item-none : (kind : Kind) (d : Direction) (g : ℕ) → item_differs kind d g (no_item kind) (no_item kind) ≡ []
unfolding item_differs records_differ
item-none Clusters d g = merge-end d g 128 0
item-none Lists d g = refl

module _ (t : List ℕ) (p : ℕ) where
  cluster-rises : Rises Clusters (item_at Clusters t p) → Rising 0 (cluster_at t p)
  unfolding Rises item_at
  cluster-rises r = r

  pub its-rising : (kind : Kind) → kind ≡ Clusters → Rises kind (item_at kind t p) → Rising 0 (cluster_at t p)
  its-rising kind e r = cluster-rises (subst (λ (k : Kind). Rises k (item_at k t p)) e r)

module _ (d : Direction) (t u : List ℕ) (p : Both ℕ) where
  clusters-differ : records_differ d 0 (cluster_at t p.first) (cluster_at u p.second) ≡ places_differ Clusters d t u p 0
  unfolding places_differ item_differs item_at
  clusters-differ = refl

  lists-differ : list_differs d 0 (list_at t p.first) (list_at u p.second) ≡ places_differ Lists d t u p 0
  unfolding places_differ item_differs item_at
  lists-differ = refl

  pub its-clusters : (kind : Kind) → kind ≡ Clusters → records_differ d 0 (cluster_at t p.first) (cluster_at u p.second) ≡ places_differ kind d t u p 0
  its-clusters kind e = clusters-differ ∙ ap (λ (k : Kind). places_differ k d t u p 0) (sym e)

  pub its-lists : (kind : Kind) → kind ≡ Lists → list_differs d 0 (list_at t p.first) (list_at u p.second) ≡ places_differ kind d t u p 0
  its-lists kind e = lists-differ ∙ ap (λ (k : Kind). places_differ k d t u p 0) (sym e)

-- ---- what a block holds

module _ (kind : Kind) (d : Direction) (t u : List ℕ) where
  places-for : (p : Both ℕ) (g x : ℕ) → map (for_glyph g) (places_differ kind d t u p x) ≡ places_differ kind d t u p g
  unfolding places_differ
  places-for p g x = item-for kind d g x (item_at kind t p.first) (item_at kind u p.second)

  places-few : (p : Both ℕ) (g : ℕ) → length (places_differ kind d t u p g) ≤ 128
  unfolding places_differ
  places-few p g = item-few kind d g (item_at kind t p.first) (item_at kind u p.second)

  pub holds-made : (p : Both ℕ) (size : ℕ) (block made : List ℕ) → 5 * 128 ≤ length block → Stores block made 0 size (places_differ kind d t u p 0)
      → LastCompared kind d t u made (record { places = p; each = size / 5 })
  holds-made p size block made room w =
      let xs : List Difference = places_differ kind d t u p 0 in
      let few : length xs ≤ 128 = places-few p 0 in
      let n : size / 5 ≡ length xs = omega (arith, w.1, numbers-length xs) in
      record {
        room = omega (arith, room, ap length w.0, length-sets block 0 (all_numbers xs));
        few = omega (arith, n, few);
        again = λ g.
            ap₂ (λ (k : ℕ) (b : List ℕ). again k b g 0) n w.0 ∙ again-stored g xs block (omega (arith, room, few)) ∙ ap all_numbers (places-for p g 0);
      }

-- ---- pairs of places that are kept

none-kept : (n i : ℕ) → get_or (replicate {A = Option (Both ℕ)} n None) i None ≡ None
none-kept zero i = refl
none-kept (suc n) zero = refl
none-kept (suc n) (suc i) = none-kept n i

module _ (kind : Kind) (d : Direction) (t u : List ℕ) where
  pub kept_none : (same : List (Option (Both ℕ))) → same ≡ replicate {A = Option (Both ℕ)} 64 None → SamePairs kind d t u same
  kept_none same e = record {
    room = omega (arith, ap length e, length-replicate {A = Option (Both ℕ)} 64 None);
    alike = λ i p q g.
        let apart : None ≡ Some p = sym (none-kept 64 i) ∙ ap (λ (l : List (Option (Both ℕ))). get_or l i None) (sym e) ∙ q in
        cc;
  }

  pub holds_kept : (block : List ℕ) (same : List (Option (Both ℕ))) (p : Both ℕ) → 5 * 128 ≤ length block → SamePairs kind d t u same → get_or same (p.first % 64) None ≡ Some p
      → LastCompared kind d t u block (record { places = p; each = 0 })
  unfolding again all_numbers
  holds_kept block same p room w e = record {
    room = room;
    few = omega arith;
    again = λ g. ap all_numbers (sym (w.alike (p.first % 64) p e g));
  }

  no-numbers : (xs : List Difference) → 0 ≡ 0 + length (all_numbers xs) → xs ≡ []
  no-numbers [] e = refl
  no-numbers (x ∷ xs) e = absurd (omega (arith, numbers-length (x ∷ xs)))

  pub kept_more : (same made : List (Option (Both ℕ))) (p : Both ℕ) (size : ℕ) → SamePairs kind d t u same → made ≡ set same (p.first % 64) (Some p) → size ≡ 0
      → size ≡ 0 + length (all_numbers (places_differ kind d t u p 0)) → SamePairs kind d t u made
  kept_more same made p size w k z e = record {
    room = omega (arith, w.room, ap length k, length-set same (p.first % 64) (Some p));
    alike = λ i q h g. at i q g (ℕ_discrete i (p.first % 64)) (ap (λ (l : List (Option (Both ℕ))). get_or l i None) (sym k) ∙ h);
  }
    where
      same_none : (g : ℕ) → places_differ kind d t u p g ≡ []
      same_none g = sym (places-for kind d t u p g 0) ∙ ap (map (for_glyph g)) (no-numbers (places_differ kind d t u p 0) (sym z ∙ e))

      at : (i : ℕ) (q : Both ℕ) (g : ℕ) → Dec (i ≡ p.first % 64) → get_or (set same (p.first % 64) (Some p)) i None ≡ Some q → places_differ kind d t u q g ≡ []
      at i q g (yes j) h =
          let slot : p.first % 64 < length same = omega (arith, w.room) in
          let is : Some p ≡ Some q = sym (ap (λ (m : ℕ). get_or (set same (p.first % 64) (Some p)) m None) j ∙ get_or-set_same same (p.first % 64) (Some p) None slot) ∙ h in
          let here : p ≡ q = cc in
          ap (λ (x : Both ℕ). places_differ kind d t u x g) (sym here) ∙ same_none g
      at i q g (no j) h = w.alike i q (sym (get_or-set_other same (p.first % 64) i (Some p) None j) ∙ h) g

-- ---- a pass over all glyphs

module _ (d : Direction) (t u : List ℕ) (s : Sources) where
  module _ (glyph : ℕ) (r : GlyphStretch) (w : Splits t u s glyph r) where
    pub first-rises : AllRise s.kind t s.glyphs s.first → Rises s.kind (item_at s.kind t r.places.first)
    first-rises h = subst (Rises s.kind) (w.first glyph (omega arith) w.more) (h.each glyph (omega (arith, w.more, w.most)))

    pub second-rises : AllRise s.kind u s.glyphs s.second → Rises s.kind (item_at s.kind u r.places.second)
    second-rises h = subst (Rises s.kind) (w.second glyph (omega arith) w.more) (h.each glyph (omega (arith, w.more, w.most)))

    module _ (block : List ℕ) (c : Compared) (e : c.places ≡ r.places) (h : LastCompared s.kind d t u block c) where
      -- its glyphs have what stands at its places
      its-places : (x : ℕ) → glyph ≤ x → x < r.end → places_differ s.kind d t u c.places x ≡ glyph_differs d t u s x
      unfolding places_differ glyph_differs
      its-places x l m =
          ap₂ (item_differs s.kind d x) (ap (λ (q : Both ℕ). item_at s.kind t q.first) e ∙ sym (w.first x l m))
          (ap (λ (q : Both ℕ). item_at s.kind u q.second) e ∙ sym (w.second x l m))

      pub stretch-stored : again_through c.each block (r.end - glyph) glyph ≡ all_numbers (through (glyph_differs d t u s) (r.end - glyph) glyph)
      stretch-stored =
          through-again (places_differ s.kind d t u c.places) c.each block h.again (r.end - glyph) glyph
          ∙ ap all_numbers (through_same (places_differ s.kind d t u c.places) (glyph_differs d t u s) (r.end - glyph) glyph
          (λ x l m. its-places x l (omega (arith, w.more))))

  pub glyphs-whole : through (glyph_differs d t u s) (s.glyphs - 0) 0 ≡ glyphs_differ d t u s
  unfolding glyphs_differ
  glyphs-whole = from_start (glyph_differs d t u s) s.glyphs
