-- Items kept by hash and by content: one is found, or it is none of them and joins them.
use Prim.Native.Nat.{ℕ, zero, suc, ◌+◌, ◌-◌, ◌%◌, ◌≤◌, ◌<◌}
use mathlib.Core.Path.{◌≡◌, refl, sym, ap, ◌∙◌, subst}
use mathlib.Core.Logic.{inl, inr}
use mathlib.Core.List.{List, [], ◌∷◌}
use native.Mathlib.Decide.{ℕ_discrete, dec_lt}
use native.Mathlib.Omega.{arith}
use native.Mathlib.Numerals.{add-one}
use lib.ListN.{length, get_or, take, set, length-set}
use lib.Seq.{get_or-take, get_or-set_same, get_or-set_other, length-take-le, take-suc-set}
use Rattle.fields.specs.Field.{u32_at}
use Rattle.encoding.specs.Distinct.{index, Once}
use Rattle.encoding.proofs.DistinctLaws.{index-le, get_or-index, once_more}
use Rattle.lookup_targets.specs.declared.Kind.{Kind}
use Rattle.write_item.specs.Items.{Item, item_at, item-discrete, item_hash, Earlier}
use Rattle.write_item.proofs.Earlier.{earlier-not, earlier-total}
use Rattle.write_numbers.specs.Numbered.{placed, item_number, item_of, other_of, SortedOthers, Ranked, Inserted, AmongOthers, slot_of, SlotHolds, Kept, Entered, Blank}
use Rattle.write_numbers.proofs.Laws.{map-length, map_more}
use Rattle.write_numbers.proofs.NoneLaws.{number-some}

pub kept-none : (kind : Kind) (t firsts others slots : List ℕ) → Blank others → Blank slots → Kept kind t firsts others slots 0
kept-none kind t firsts others slots bo bs =
    record {
      once = λ j z l. absurd (omega arith);
      slot = λ h. omega (arith, bs h);
      sorted =
          record {
            few = omega (arith, bo 0);
            within = λ s l. absurd (omega (arith, bo 0));
            rising = λ a b l h. absurd (omega (arith, bo 0));
          };
      found = λ j l. absurd (omega arith);
    }

-- ---- the index of an item

module _ (kind : Kind) (t firsts : List ℕ) (k : ℕ) (x : Item kind) (l : k ≤ length firsts) where
  here : (j : ℕ) → j < k → get_or (placed kind t (take k firsts)) j x ≡ item_of kind t firsts j
  here j b = at (take k firsts) j (omega (arith, length-take-le k firsts l)) ∙ ap (item_at kind t) (get_or-take k firsts j 0 b)
    where
      at : (ps : List ℕ) (j : ℕ) → j < length ps → get_or (placed kind t ps) j x ≡ item_at kind t (get_or ps j 0)
      at [] j b = absurd (omega arith)
      at (p ∷ ps) zero b = refl
      at (p ∷ ps) (suc j) b = at ps j (omega arith)

  many : length (placed kind t (take k firsts)) ≡ k
  many = map-length (item_at kind t) (take k firsts) ∙ length-take-le k firsts l

  found_at : (j : ℕ) → j < k → Once (item-discrete kind) (placed kind t (take k firsts)) → item_of kind t firsts j ≡ x
      → j ≡ index (item-discrete kind) x (placed kind t (take k firsts))
  found_at j b o e =
      sym (ap (λ (y : Item kind). index (item-discrete kind) y (placed kind t (take k firsts))) (sym (here j b ∙ e)) ∙ o j x (omega (arith, many)))

  found_none : ((j : ℕ) → j < k → item_of kind t firsts j ≡ x → ⊥) → k ≡ index (item-discrete kind) x (placed kind t (take k firsts))
  found_none n = go (dec_lt (index (item-discrete kind) x (placed kind t (take k firsts))) k)
    where
      go : Dec (index (item-discrete kind) x (placed kind t (take k firsts)) < k) → k ≡ index (item-discrete kind) x (placed kind t (take k firsts))
      go (yes b) =
          absurd (n _ b (sym (here _ b) ∙ get_or-index (item-discrete kind) x x (placed kind t (take k firsts)) (omega (arith, many))))
      go (no b) = omega (arith, b, many, index-le (item-discrete kind) x (placed kind t (take k firsts)))

-- ---- what a place's item is numbered

pub entered-old : (kind : Kind) (t firsts others slots : List ℕ) (k place n : ℕ) → n ≡ item_number kind t (take k firsts) place → n ≤ k
    → Kept kind t firsts others slots k → Entered kind t firsts firsts others slots k place n
entered-old kind t firsts others slots k place n e h c = record { number = e; old = λ l. (refl, c); new = λ l. absurd (omega arith) }

earlier-same : (kind : Kind) (a b a' b' : Item kind) → a ≡ a' → b ≡ b' → Earlier kind a b → Earlier kind a' b'
earlier-same kind a b a' b' p q e = subst (Earlier kind a') q (subst (λ (y : Item kind). Earlier kind y b) p e)

-- a number is less than another, the same or more
data Side (s n : ℕ) : Type 0 where
  below : s < n → Side s n
  same : s ≡ n → Side s n
  above : n < s → Side s n

side : (s n : ℕ) → Side s n
side s n = go (dec_lt s n) (ℕ_discrete s n)
  where
    go : Dec (s < n) → Dec (s ≡ n) → Side s n
    go (yes l) d = below l
    go (no l) (yes e) = same e
    go (no l) (no e) = above (omega (arith, l, e))

-- the item at `place`, whose slot is p, is looked for
module _ (kind : Kind) (t firsts others slots : List ℕ) (k place p : ℕ) (hf : k < length firsts) (some : u32_at t place ≡ 0 → ⊥)
    (ep : p ≡ slot_of kind (item_at kind t place) slots) (c : Kept kind t firsts others slots k) where
  abbrev x : Item kind
  x = item_at kind t place

  abbrev item : ℕ → Item kind
  item = item_of kind t firsts

  abbrev other : ℕ → Item kind
  other = other_of kind t firsts others

  -- it is one of them
  pub enters-old : (j : ℕ) → j < k → item j ≡ x → Entered kind t firsts firsts others slots k place (j + 1)
  enters-old j b e =
      entered-old kind t firsts others slots k place (j + 1)
      (omega (arith, found_at kind t firsts k x (omega arith) j b c.once e, number-some kind t (take k firsts) place some)) (omega arith) c

  -- ---- it joins them

  abbrev firsts' : List ℕ
  firsts' = set firsts k place

  abbrev item' : ℕ → Item kind
  item' = item_of kind t firsts'

  still : (j : ℕ) → j < k → item j ≡ item' j
  still j b = ap (item_at kind t) (sym (get_or-set_other firsts k j place 0 (λ e. omega arith)))

  added : item' k ≡ x
  added = ap (item_at kind t) (get_or-set_same firsts k place 0 hf)

  module _ (new : (j : ℕ) → j < k → item j ≡ x → ⊥) where
    index_is : k ≡ index (item-discrete kind) x (placed kind t (take k firsts))
    index_is = found_none kind t firsts k x (omega arith) new

    once' : Once (item-discrete kind) (placed kind t (take (k + 1) firsts'))
    once' =
        subst (Once (item-discrete kind)) (sym (map_more (item_at kind t) firsts k place hf))
        (once_more (item-discrete kind) x (placed kind t (take k firsts)) (sym index_is ∙ sym (many kind t firsts k x (omega arith))) c.once)

    entered-new : (others' slots' : List ℕ) → Kept kind t firsts' others' slots' (k + 1) → Entered kind t firsts firsts' others' slots' k place (k + 1)
    entered-new others' slots' c' =
        record {
          number = omega (arith, index_is, number-some kind t (take k firsts) place some);
          old = λ l. absurd (omega arith);
          new = λ l. (rw add-one (take-suc-set firsts k place hf), c');
        }

  -- its slot is that of one that is the same
  its-slot : (j : ℕ) → item j ≡ x → get_or slots (slot_of kind (item j) slots) 0 ≡ get_or slots p 0
  its-slot j e = ap (λ (y : Item kind). get_or slots (slot_of kind y slots) 0) e ∙ ap (λ (h : ℕ). get_or slots h 0) (sym ep)

  -- ---- into its slot, which is empty

  module _ (hp : p < length slots) (empty : get_or slots p 0 ≡ 0) where
    abbrev slots' : List ℕ
    slots' = set slots p (k + 1)

    not_there : (j : ℕ) → j < k → item j ≡ x → ⊥
    not_there j b e = go (c.found j b)
      where
        go : SlotHolds others (get_or slots (slot_of kind (item j) slots) 0) j → ⊥
        go (inl q) = omega (arith, q, its-slot j e, empty)
        go (inr q) = q.0 (its-slot j e ∙ empty)

    slot' : (h : ℕ) → get_or slots' h 0 ≤ k + 1
    slot' h = go (ℕ_discrete h p)
      where
        go : Dec (h ≡ p) → get_or slots' h 0 ≤ k + 1
        go (yes e) = omega (arith, ap (λ (i : ℕ). get_or slots' i 0) e, get_or-set_same slots p (k + 1) 0 hp)
        go (no e) = omega (arith, get_or-set_other slots p h (k + 1) 0 e, c.slot h)

    taken : (h : ℕ) → (get_or slots h 0 ≡ 0 → ⊥) → get_or slots h 0 ≡ get_or slots' h 0
    taken h z = sym (get_or-set_other slots p h (k + 1) 0 (λ e. z (ap (λ (i : ℕ). get_or slots i 0) e ∙ empty)))

    found' : (j : ℕ) → j < k + 1 → SlotHolds others (get_or slots' (slot_of kind (item' j) slots') 0) j
    found' j b = subst (λ (n : ℕ). SlotHolds others (get_or slots' (item_hash kind (item' j) % n) 0) j) (sym (length-set slots p (k + 1))) (go (side j k))
      where
        old : SlotHolds others (get_or slots (slot_of kind (item j) slots) 0) j → SlotHolds others (get_or slots' (slot_of kind (item j) slots) 0) j
        old (inl q) = inl (sym (taken _ (λ z. omega (arith, q, z))) ∙ q)
        old (inr q) = inr ((λ z. q.0 (taken _ q.0 ∙ z)), q.1)

        go : Side j k → SlotHolds others (get_or slots' (slot_of kind (item' j) slots) 0) j
        go (below l) = subst (λ (y : Item kind). SlotHolds others (get_or slots' (slot_of kind y slots) 0) j) (still j l) (old (c.found j l))
        go (same e) =
            inl
            (ap (λ (i : ℕ). get_or slots' (slot_of kind (item' i) slots) 0) e ∙ ap (λ (y : Item kind). get_or slots' (slot_of kind y slots) 0) added
            ∙ ap (λ (h : ℕ). get_or slots' h 0) (sym ep) ∙ get_or-set_same slots p (k + 1) 0 hp ∙ ap (λ (i : ℕ). i + 1) (sym e))
        go (above l) = absurd (omega arith)

    sorted' : SortedOthers kind t firsts' others (k + 1)
    sorted' =
        record {
          few = omega (arith, c.sorted.few);
          within = λ s l. omega (arith, c.sorted.within s l);
          rising = λ a b l h.
              earlier-same kind _ _ _ _ (still _ (c.sorted.within a (omega arith))) (still _ (c.sorted.within b h)) (c.sorted.rising a b l h);
        }

    pub enters-slot : Entered kind t firsts firsts' others slots' k place (k + 1)
    enters-slot = entered-new not_there others slots' (record { once = once' not_there; slot = slot'; sorted = sorted'; found = found' })

  -- ---- among the others: its slot has another one, and of the listed ones that do not come before it the first is not it

  module _ (n : ℕ) (split : Ranked kind t firsts others x n) (full : get_or slots p 0 ≡ 0 → ⊥) (miss : item (get_or slots p 0 - 1) ≡ x → ⊥)
      (absent : (n < get_or others 0 0) × (other n ≡ x) → ⊥) where
    not_listed : (s : ℕ) → s < get_or others 0 0 → other s ≡ x → ⊥
    not_listed s l e = go (side s n)
      where
        go : Side s n → ⊥
        go (below b) = earlier-not kind x (subst (λ (y : Item kind). Earlier kind y x) e (split.before s b))
        go (same q) = absent (omega arith, ap other (sym q) ∙ e)
        go (above b) = split.after n (omega arith) (omega arith) (subst (Earlier kind (other n)) e (c.sorted.rising n s b l))

    nowhere : (j : ℕ) → j < k → item j ≡ x → ⊥
    nowhere j b e = go (c.found j b)
      where
        go : SlotHolds others (get_or slots (slot_of kind (item j) slots) 0) j → ⊥
        go (inl q) = let i : get_or slots p 0 - 1 ≡ j = omega (arith, q, its-slot j e) in miss (ap item i ∙ e)
        go (inr q) = not_listed q.1.0 q.1.1 (ap item q.1.2 ∙ e)

    module _ (others' : List ℕ) (inserted : Inserted others others' n k) where
      abbrev other' : ℕ → Item kind
      other' = other_of kind t firsts' others'

      index-after : (s : ℕ) → n < s → s < get_or others' 0 0 → get_or others (s - 1 + 1) 0 ≡ get_or others' (s + 1) 0
      index-after s b l =
          let i : s - 1 + 2 ≡ s + 1 = omega arith in
          sym (inserted.after (s - 1) (omega arith) (omega (arith, inserted.more))) ∙ ap (λ (j : ℕ). get_or others' j 0) i

      -- what the listed ones are now
      other-before : (s : ℕ) → s < n → other s ≡ other' s
      other-before s b =
          still _ (c.sorted.within s (omega (arith, split.most))) ∙ ap item' (sym (inserted.before s b))

      other-here : (s : ℕ) → s ≡ n → x ≡ other' s
      other-here s e = sym (ap other' e ∙ ap item' inserted.here ∙ added)

      other_after : (s : ℕ) → n < s → s < get_or others' 0 0 → other (s - 1) ≡ other' s
      other_after s b l =
          still _ (c.sorted.within (s - 1) (omega (arith, inserted.more))) ∙ ap item' (index-after s b l)

      rising' : (a b : ℕ) → a < b → b < get_or others' 0 0 → Earlier kind (other' a) (other' b)
      rising' a b l h = go (side a n) (side b n)
        where
          go : Side a n → Side b n → Earlier kind (other' a) (other' b)
          go (below p) (below q) = earlier-same kind _ _ _ _ (other-before a p) (other-before b q) (c.sorted.rising a b l (omega (arith, split.most)))
          go (below p) (same q) = earlier-same kind _ _ _ _ (other-before a p) (other-here b q) (split.before a p)
          go (below p) (above q) =
              earlier-same kind _ _ _ _ (other-before a p) (other_after b q h) (c.sorted.rising a (b - 1) (omega arith) (omega (arith, inserted.more)))
          go (same p) (above q) =
              earlier-same kind _ _ _ _ (other-here a p) (other_after b q h)
              (earlier-total kind (other (b - 1)) x (split.after (b - 1) (omega arith) (omega (arith, inserted.more)))
              (not_listed (b - 1) (omega (arith, inserted.more))))
          go (above p) (above q) =
              earlier-same kind _ _ _ _ (other_after a p (omega arith)) (other_after b q h)
              (c.sorted.rising (a - 1) (b - 1) (omega arith) (omega (arith, inserted.more)))
          go (same p) (below q) = absurd (omega arith)
          go (same p) (same q) = absurd (omega arith)
          go (above p) (below q) = absurd (omega arith)
          go (above p) (same q) = absurd (omega arith)

      within' : (s : ℕ) → s < get_or others' 0 0 → get_or others' (s + 1) 0 < k + 1
      within' s l = go (side s n)
        where
          go : Side s n → get_or others' (s + 1) 0 < k + 1
          go (below b) = omega (arith, inserted.before s b, c.sorted.within s (omega (arith, split.most)))
          go (same e) = omega (arith, ap (λ (i : ℕ). get_or others' (i + 1) 0) e, inserted.here)
          go (above b) = omega (arith, index-after s b l, c.sorted.within (s - 1) (omega (arith, inserted.more)))

      listed' : (j : ℕ) → AmongOthers others j → AmongOthers others' j
      listed' j w = go (dec_lt w.0 n)
        where
          go : Dec (w.0 < n) → AmongOthers others' j
          go (yes l) = (w.0, omega (arith, w.1, inserted.more), inserted.before w.0 l ∙ w.2)
          go (no l) =
              let i : w.0 + 1 + 1 ≡ w.0 + 2 = omega arith in (
                w.0 + 1,
                omega (arith, w.1, inserted.more),
                ap (λ (i : ℕ). get_or others' i 0) i ∙ inserted.after w.0 (omega (arith, l)) w.1 ∙ w.2,
              )

      found'' : (j : ℕ) → j < k + 1 → SlotHolds others' (get_or slots (slot_of kind (item' j) slots) 0) j
      found'' j b = go (side j k)
        where
          old : SlotHolds others (get_or slots (slot_of kind (item j) slots) 0) j → SlotHolds others' (get_or slots (slot_of kind (item j) slots) 0) j
          old (inl q) = inl q
          old (inr q) = inr (q.0, listed' j q.1)

          its : get_or slots (slot_of kind (item' k) slots) 0 ≡ get_or slots p 0
          its = ap (λ (y : Item kind). get_or slots (slot_of kind y slots) 0) added ∙ ap (λ (h : ℕ). get_or slots h 0) (sym ep)

          go : Side j k → SlotHolds others' (get_or slots (slot_of kind (item' j) slots) 0) j
          go (below l) = subst (λ (y : Item kind). SlotHolds others' (get_or slots (slot_of kind y slots) 0) j) (still j l) (old (c.found j l))
          go (same e) =
              subst (λ (i : ℕ). SlotHolds others' (get_or slots (slot_of kind (item' i) slots) 0) i) (sym e)
              (inr ((λ z. full (sym its ∙ z)), (n, omega (arith, split.most, inserted.more), inserted.here)))
          go (above l) = absurd (omega arith)

      pub enters-others : Entered kind t firsts firsts' others' slots k place (k + 1)
      enters-others =
          entered-new nowhere others' slots
          (record {
            once = once' nowhere;
            slot = λ h. omega (arith, c.slot h);
            sorted = record { few = omega (arith, c.sorted.few, inserted.more, c.slot p, full); within = within'; rising = rising' };
            found = found'';
          })
