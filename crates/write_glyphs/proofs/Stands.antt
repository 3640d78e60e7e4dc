-- Where a pass stands, and one stretch of it.
use Prim.Native.Nat.{ℕ, suc, ◌+◌, ◌-◌, ◌≤◌, ◌<◌, max}
use mathlib.Core.Path.{◌≡◌, refl, sym, ap, ◌∙◌, subst}
use mathlib.Core.List.{List, [], ◌∷◌, ◌++◌, map-append, append_assoc, append-nil}
use native.Mathlib.Omega.{arith}
use native.Mathlib.Decide.{ℕ_discrete, dec_lt}
use lib.ListN.{length, get_or, take, replicate, length-append}
use lib.Seq.{length-take-le}
use Rattle.encoding.specs.Distinct.{index, distinct, numbers}
use Rattle.encoding.specs.Upto.{from, upto}
use Rattle.encoding.proofs.DistinctLaws.{get_or-index, index-new}
use Rattle.lookup_targets.specs.declared.Kind.{Kind}
use Rattle.write_item.specs.Items.{Item, no_item, item_at, item-discrete}
use Rattle.write_numbers.specs.Numbered.{placed, distinct_of, Numbered, Kept, Entered, Seen, KnownAs, Blank}
use Rattle.write_numbers.proofs.Laws.{next-old, next-new, distinct-again, numbers-same, seen-length}
use Rattle.write_numbers.proofs.Kept.{kept-none}
use Rattle.write_numbers.proofs.Seen.{seen_none, number-noted, number-most}
use Rattle.write_runs.specs.Spread.{spread, Extended}
use Rattle.write_runs.proofs.Spread.{rise-few}
use Rattle.write_runs.proofs.Stretch.{from-stretch}
use Rattle.write_glyphs.specs.Places.{glyph_item, items_from, Agree, HasNumber, PassStands, PassedOver}

-- ---- at first, and in the end

pub stands-none : (kind : Kind) (t : List ℕ) (item : ℕ → Item kind) (n : ℕ) (ends nums firsts others slots seen : List ℕ) → Blank others → Blank slots
    → Blank seen
    → PassStands kind t item n ends nums firsts others slots seen 0 0 0
unfolding spread distinct_of
stands-none kind t item n ends nums firsts others slots seen bo bl bs =
    let z : n - 0 ≡ n = omega arith in
    record {
      rise = refl;
      most = omega arith;
      fits = omega arith;
      few = omega arith;
      last = λ h. absurd (omega arith);
      left = ap (λ (j : ℕ). distinct (item-discrete kind) (no_item kind ∷ []) (from item j 0)) z;
      done = ap (λ (j : ℕ). numbers (item-discrete kind) (distinct (item-discrete kind) (no_item kind ∷ []) (upto item n)) (from item j 0)) z;
      kept = kept-none kind t firsts others slots bo bl;
      known = seen_none kind t firsts seen bs;
    }

stands-all : (kind : Kind) (t : List ℕ) (item : ℕ → Item kind) (n : ℕ) (ends nums firsts others slots seen : List ℕ) (m k g : ℕ)
    → PassStands kind t item n ends nums firsts others slots seen m k g → n ≤ g → Numbered kind t (upto item n) (spread 0 (take m ends) (take m nums)) firsts k
unfolding from
stands-all kind t item n ends nums firsts others slots seen m k g s h =
    let z : n - g ≡ 0 = omega arith in
    let eq = item-discrete kind in
    record {
      found = sym s.left ∙ ap (λ (j : ℕ). distinct eq (no_item kind ∷ placed kind t (take k firsts)) (from item j g)) z;
      numbered =
          sym (append-nil (spread 0 (take m ends) (take m nums)))
          ∙ ap (λ (j : ℕ). spread 0 (take m ends) (take m nums) ++ numbers eq (distinct_of kind (upto item n)) (from item j g)) (sym z) ∙ s.done;
    }

pub passed : (kind : Kind) (t : List ℕ) (n at base : ℕ) (ends nums firsts others slots seen : List ℕ) (m k g : ℕ)
    → PassStands kind t (glyph_item kind t n at base) n ends nums firsts others slots seen m k g → (g < n → m ≡ length ends)
    → PassedOver kind t n at base ends nums firsts (record { stretches = m; items = k; glyph = g })
unfolding items_from
passed kind t n at base ends nums firsts others slots seen m k g s stops =
    record {
      rise = s.rise;
      most = s.most;
      fits = s.fits;
      few = s.few;
      stops = stops;
      numbered = stands-all kind t (glyph_item kind t n at base) n ends nums firsts others slots seen m k g s;
    }

-- there are no more distinct items than glyphs
pub stands-few : (kind : Kind) (t : List ℕ) (item : ℕ → Item kind) (n : ℕ) (ends nums firsts others slots seen : List ℕ) (m k g : ℕ)
    → PassStands kind t item n ends nums firsts others slots seen m k g → k ≤ g
stands-few kind t item n ends nums firsts others slots seen m k g s =
    omega (arith, s.few, rise-few (take m ends) 0 g s.rise, length-take-le m ends s.fits)

-- ---- the notes agree

pub seen-agree : (kind : Kind) (t firsts seen : List ℕ) (k : ℕ) → k ≤ length firsts → Seen kind t firsts seen k → Agree kind t seen
seen-agree kind t firsts seen k hk s = record { same = same }
  where
    D : List (Item kind)
    D = no_item kind ∷ placed kind t (take k firsts)

    -- the item with a number
    its : (p number : ℕ) → KnownAs t seen p number → get_or D number (no_item kind) ≡ item_at kind t p
    its p number m =
        let w = number-noted kind t firsts k hk seen p number s m in
        ap (λ (i : ℕ). get_or D i (no_item kind)) w.0
        ∙ get_or-index (item-discrete kind) (item_at kind t p) (no_item kind) D
        (omega (arith, w.0, w.1, seen-length (item_at kind t) (no_item kind) firsts k hk))

    same : (p q number : ℕ) → KnownAs t seen p number → KnownAs t seen q number → item_at kind t p ≡ item_at kind t q
    same p q number m w = sym (its p number m) ∙ its q number w

-- ---- one stretch

-- glyphs from g up to e that have one item, with a number: S are the distinct items before it, T after it, D in the end
step-many : {A : Type 0} (eq : Discrete A) (item : ℕ → A) (n g e number : ℕ) (S T D : List A) → g < e → e ≤ n → number < length T
    → ((x : ℕ) → g ≤ x → x < e → index eq (item x) T ≡ number)
    → ((ys : List A) → distinct eq S (item g ∷ ys) ≡ D → (distinct eq T ys ≡ D) × (index eq (item g) D ≡ number))
    → distinct eq S (from item (n - g) g) ≡ D
    → (distinct eq T (from item (n - e) e) ≡ D) × (numbers eq D (from item (n - g) g) ≡ replicate (e - g) number ++ numbers eq D (from item (n - e) e))
step-many eq item n g e number S T D hg he few each next left =
    let c = e - g - 1 in
    let x = item g in
    let rest = from item (n - e) e in
    let s : e - g ≡ suc c = omega arith in
    let alike : (y : ℕ) → g ≤ y → y < e → item y ≡ x = λ y a b.
    sym (get_or-index eq (item y) x T (omega (arith, each y a b)))
    ∙ ap (λ (i : ℕ). get_or T i x) (each y a b ∙ sym (each g (omega arith) hg))
    ∙ get_or-index eq x x T (omega (arith, each g (omega arith) hg)) in
    let all : from item (n - g) g ≡ replicate (e - g) x ++ rest = from-stretch item n g e x (omega arith) he alike in
    let w = next (replicate c x ++ rest) (ap (λ (m : ℕ). distinct eq S (replicate m x ++ rest)) (sym s) ∙ ap (distinct eq S) (sym all) ∙ left) in (
      sym (distinct-again eq c x T rest (omega (arith, each g (omega arith) hg))) ∙ w.0,
      ap (numbers eq D) all ∙ numbers-same eq (e - g) x D rest ∙ ap (λ (i : ℕ). replicate (e - g) i ++ numbers eq D rest) w.1,
    )

-- T are the distinct items S with x, which has a number among them
record Joins {A : Type 0} (eq : Discrete A) (x : A) (number : ℕ) (S T D : List A) : Type 0 where
  few : number < length T
  first : index eq x T ≡ number
  next : (ys : List A) → distinct eq S (x ∷ ys) ≡ D → (distinct eq T ys ≡ D) × (index eq x D ≡ number)

joins-old : {A : Type 0} (eq : Discrete A) (f : ℕ → A) (x : A) (number : ℕ) (S T D : List A) → T ≡ S → number ≡ index eq x S → number < length S
    → Joins eq x number S T D
joins-old eq f x number S T D e en hn =
    subst (λ (l : List _). Joins eq x number S l D) (sym e)
    (record { few = hn; first = sym en; next = λ ys d. next-old eq f x ys number S D en hn d })

joins-new : {A : Type 0} (eq : Discrete A) (f : ℕ → A) (x : A) (number : ℕ) (S T D : List A) → T ≡ S ++ (x ∷ []) → number ≡ index eq x S → number ≡ length S
    → Joins eq x number S T D
joins-new eq f x number S T D e en hn =
    subst (λ (l : List _). Joins eq x number S l D) (sym e)
    (record {
      few = omega (arith, length-append S (x ∷ []));
      first = index-new eq x S [] (sym en ∙ hn) ∙ sym hn;
      next = λ ys d. next-new eq f x ys number S D en hn d;
    })

-- the item at the place `P g` of glyph g was numbered, and is that of all glyphs up to e
module _ (kind : Kind) (t : List ℕ) (item : ℕ → Item kind) (n : ℕ) (ends nums firsts others slots seen : List ℕ) (m k g : ℕ)
    (s : PassStands kind t item n ends nums firsts others slots seen m k g) (hk : k < length firsts)
    (P : ℕ → ℕ) (e number r : ℕ) (ends' nums' firsts' others' slots' seen' : List ℕ) (hf : length firsts' ≡ length firsts)
    (hg : g < e) (he : e ≤ n) (here : (x : ℕ) → g ≤ x → x < e → item_at kind t (P x) ≡ item x)
    (entered : Entered kind t firsts firsts' others' slots' k (P g) number) (notes : Seen kind t firsts' seen' (max k number))
    (same : (x : ℕ) → g < x → x < e → (P x ≡ P g → ⊥) → HasNumber kind t seen' (P x) number)
    (extended : Extended ends nums ends' nums' m g e number r) where
  abbrev eq : Discrete (Item kind)
  eq = item-discrete kind

  abbrev S : List (Item kind)
  S = no_item kind ∷ placed kind t (take k firsts)

  abbrev T : List (Item kind)
  T = no_item kind ∷ placed kind t (take (max k number) firsts')

  abbrev D : List (Item kind)
  D = distinct_of kind (upto item n)

  S-length : length S ≡ k + 1
  S-length = seen-length (item_at kind t) (no_item kind) firsts k (omega arith)

  number_is : number ≡ index eq (item g) S
  number_is = entered.number ∙ ap (λ (x : Item kind). index eq x S) (here g (omega arith) hg)

  most : number ≤ k + 1
  most = omega (arith, entered.number, number-most kind t firsts k (omega arith) (P g))

  -- where the item joins the distinct ones, and where it is one of them
  joins : (Kept kind t firsts' others' slots' (max k number)) × Joins eq (item g) number S T D
  joins = go (dec_lt k number)
    where
      go : Dec (k < number) → (Kept kind t firsts' others' slots' (max k number)) × Joins eq (item g) number S T D
      go (yes l) =
          let w = entered.new l in
          let z : max k number ≡ k + 1 = omega (arith, most) in
          let a : placed kind t (take (max k number) firsts') ≡ placed kind t (take k firsts) ++ (item g ∷ []) =
          ap (λ (j : ℕ). placed kind t (take j firsts')) z ∙ ap (placed kind t) w.0 ∙ map-append (item_at kind t) (take k firsts) (P g ∷ [])
          ∙ ap (λ (x : Item kind). placed kind t (take k firsts) ++ (x ∷ [])) (here g (omega arith) hg) in (
            subst (Kept kind t firsts' others' slots') (sym z) w.1,
            joins-new eq (item_at kind t) (item g) number S T D (ap (λ (x : List (Item kind)). no_item kind ∷ x) a) number_is (omega (arith, most, S-length)),
          )
      go (no l) =
          let h : number ≤ k = omega (arith, l) in
          let w = entered.old h in
          let z : max k number ≡ k = omega arith in
          let a : placed kind t (take (max k number) firsts') ≡ placed kind t (take k firsts) =
          ap (λ (j : ℕ). placed kind t (take j firsts')) z ∙ ap (placed kind t) w.0 in (
            subst (Kept kind t firsts' others' slots') (sym z) w.1,
            joins-old eq (item_at kind t) (item g) number S T D (ap (λ (x : List (Item kind)). no_item kind ∷ x) a) number_is (omega (arith, S-length)),
          )

  -- all of the glyphs have its number
  each : (x : ℕ) → g ≤ x → x < e → index eq (item x) T ≡ number
  each x a b = go (ℕ_discrete (P x) (P g)) (ℕ_discrete x g)
    where
      go : Dec (P x ≡ P g) → Dec (x ≡ g) → index eq (item x) T ≡ number
      go (yes p) d =
          ap (λ (y : Item kind). index eq y T) (sym (here x a b) ∙ ap (item_at kind t) p ∙ here g (omega arith) hg) ∙ joins.1.first
      go (no p) (yes d) = absurd (p (ap P d))
      go (no p) (no d) =
          let w = same x (omega (arith, d)) b p in
          ap (λ (y : Item kind). index eq y T) (sym (here x a b) ∙ w.item)
          ∙ sym (number-noted kind t firsts' (max k number) (omega (arith, most)) seen' w.other number notes w.noted).0

  pub stands-next : r ≤ length ends' → PassStands kind t item n ends' nums' firsts' others' slots' seen' r (max k number) e
  stands-next fits =
      let w = step-many eq item n g e number S T D hg he joins.1.few each joins.1.next s.left in
      let rest = numbers eq D (from item (n - e) e) in
      record {
        rise = extended.rise;
        most = he;
        fits = fits;
        few = room (ℕ_discrete r m) (dec_lt k number);
        last = λ h. omega (arith, extended.last);
        left = w.0;
        done =
            ap (λ (l : List ℕ). l ++ rest) extended.all
            ∙ append_assoc (spread 0 (take m ends) (take m nums)) (replicate (e - g) number) rest
            ∙ ap (λ (l : List ℕ). spread 0 (take m ends) (take m nums) ++ l) (sym w.1)
            ∙ s.done;
        kept = joins.0;
        known = notes;
      }
    where
      -- a new item has a number that the last stretch has not
      room : Dec (r ≡ m) → Dec (k < number) → max k number ≤ r
      room (yes q) (yes l) = let v = extended.same q in absurd (omega (arith, v.0, v.1, s.last v.0, l))
      room (no q) d = omega (arith, q, most, s.few, extended.least)
      room (yes q) (no l) = omega (arith, q, l, s.few)
