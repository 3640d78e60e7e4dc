-- Laws of a find by halves: how the count goes on after a look, its bound, and that the units left give what all of them give.
use Rattle.std.specs.Prelude.{None, Option, Some}
use Prim.Native.Nat.{ℕ, zero, suc, ◌+◌, ◌-◌, ◌/◌, ◌^◌, ◌≤◌, ◌<◌}
use mathlib.Core.List.{List}
use mathlib.Core.Bool.{Bool, true, false, cond, ◌&&◌}
use mathlib.Core.Path.{◌≡◌, refl, sym, ◌∙◌, ap, ap₂}
use native.Mathlib.Omega.{arith}
use lib.ListN.{length}
use lib.Dec.{ltb, eqb}
use borrow.Author.Tests.{le-leb, le-ltb, lt-ltb, eqb-true, eq-eqb, ne_eqb}
use Rattle.fields.specs.Faults.{Clear}
use Rattle.fields.specs.Field.{u16_at, Bytes}
use Rattle.fields.proofs.Laws.{then-first, then-second, then-go}
use Rattle.fields.specs.Walk.{walk}
use Rattle.fields.proofs.Walk.{walk-each}
use Rattle.lookup.specs.Units.{unit_size, last_of, first_of, unit_fault, units_fault}
use Rattle.lookup.specs.Find.{covers, unit_value, units_value, has_units, unit_count, value_of}
use Rattle.lookup.proofs.Laws.{first_range, covers_high, units-none, value_none, value_in_lem, from-units, count_none, units-fit}
use Rattle.lookup.proofs.Unique.{ends-below, begins-above, unit-rules, unit-inside, rises, covering, none_above, units-clear}
use Rattle.lookup_find.specs.declared.Head.{Head}
use Rattle.lookup_find.specs.Halves.{unit_of, closes, open_of, open_count, looks_in, looks_of, head_at, Searchable}

and_first : (a b : Bool) → (a && b) ≡ true → a ≡ true
and_first true b e = refl
and_first false b e = e

-- ---- the count

module _ (t : List ℕ) (f glyph : ℕ) where
  -- enough turns are enough
  turns : (a b p n : ℕ) → n ≤ a → n ≤ b → looks_in t f glyph a p n ≡ looks_in t f glyph b p n
  unfolding looks_in
  turns zero zero p n h i = refl
  turns zero (suc b) p zero h i = refl
  turns zero (suc b) p (suc k) h i = absurd (omega arith)
  turns (suc a) zero p zero h i = refl
  turns (suc a) zero p (suc k) h i = absurd (omega arith)
  turns (suc a) (suc b) p zero h i = refl
  turns (suc a) (suc b) p (suc k) h i =
      let x = turns a b p (k / 2) (omega arith) (omega arith) in
      let y = turns a b (unit_of f p (k / 2) + unit_size f) (k - k / 2) (omega arith) (omega arith) in
      simp (x, y)

  pub looks-none : (p n : ℕ) → n ≤ 0 → looks_in t f glyph n p n ≡ 0
  unfolding looks_in
  looks-none p zero h = refl
  looks-none p (suc k) h = absurd (omega arith)

  -- a look at the middle unit `m`, which has `half` units before it
  pub looks-here : (p n half m : ℕ) → 0 < n → half ≡ (n - 1) / 2 → m ≡ unit_of f p half → covers t f glyph m ≡ true → looks_in t f glyph n p n ≡ 1
  unfolding looks_in
  looks-here p zero half m h e q c = absurd (omega arith)
  looks-here p (suc k) half m h e q c =
      let w : half ≡ k / 2 = omega arith in
      simp (rw (q ∙ ap (unit_of f p) w) at c)

  pub looks-low : (p n half m : ℕ) → 0 < n → half ≡ (n - 1) / 2 → m ≡ unit_of f p half → glyph < first_of t f m
      → looks_in t f glyph n p n ≡ suc (looks_in t f glyph half p half)
  unfolding looks_in
  looks-low p zero half m h e q c = absurd (omega arith)
  looks-low p (suc k) half m h e q c =
      let w : half ≡ k / 2 = omega arith in
      let l : glyph < first_of t f (unit_of f p (k / 2)) = rw (q ∙ ap (unit_of f p) w) at c in
      let x = turns k (k / 2) p (k / 2) (omega arith) (omega arith) in
      simp (begins-above t f glyph _ l, lt-ltb glyph _ l, w) (ap suc x)

  pub looks-high : (p n half m q r : ℕ) → 0 < n → half ≡ (n - 1) / 2 → m ≡ unit_of f p half → first_of t f m ≤ glyph → last_of t m < glyph
      → q ≡ unit_of f m 1 → r ≡ n - 1 - half → looks_in t f glyph n p n ≡ suc (looks_in t f glyph r q r)
  unfolding looks_in
  looks-high p zero half m q r h e s c d u v = absurd (omega arith)
  looks-high p (suc k) half m q r h e s c d u v =
      let w : half ≡ k / 2 = omega arith in
      let x : m ≡ unit_of f p (k / 2) = s ∙ ap (unit_of f p) w in
      let l : first_of t f (unit_of f p (k / 2)) ≤ glyph = rw x at c in
      let g : last_of t (unit_of f p (k / 2)) < glyph = rw x at d in
      let y : unit_of f p (k / 2) + unit_size f ≡ q = omega arith in
      let z : k - k / 2 ≡ r = omega arith in
      simp (ends-below t f glyph _ g, le-ltb glyph _ l, y, z) (ap suc (turns k r q r (omega arith) (omega arith)))

  -- For n units the looks are at most the least b for which 2 to the power b exceeds n: at most every such b.
  pub looks-most : (turns p n b : ℕ) → n < 2 ^ b → looks_in t f glyph turns p n ≤ b
  unfolding looks_in
  looks-most zero p n b h = omega arith
  looks-most (suc turns) p zero b h = omega arith
  looks-most (suc turns) p (suc k) zero h = absurd (omega arith)
  looks-most (suc turns) p (suc k) (suc b) h =
      let x = looks-most turns p (k / 2) b (omega arith) in
      let y = looks-most turns (unit_of f p (k / 2) + unit_size f) (k - k / 2) b (omega arith) in
      go (covers t f glyph (unit_of f p (k / 2))) (ltb glyph (first_of t f (unit_of f p (k / 2)))) x y
    where
      go : (c d : Bool) {a e : ℕ} → a ≤ b → e ≤ b → suc (cond c 0 (cond d a e)) ≤ suc b
      go true d h i = omega arith
      go false true h i = omega arith
      go false false h i = omega arith

-- ---- the value

module _ (t : List ℕ) (f : ℕ) where
  -- the first units, and the last ones, of units without a fault
  pub units-front : (n p least j : ℕ) → units_fault t f n p least ≡ Clear → j ≤ n → units_fault t f j p least ≡ Clear
  unfolding walk
  units-front n p least zero e h = refl
  units-front zero p least (suc j) e h = absurd (omega arith)
  units-front (suc n) p least (suc j) e h =
      then-go _ (then-first _ _ e) ∙ units-front n (p + unit_size f) (last_of t p + 1) j (then-second _ _ e) (omega arith)

  pub units-back : (n p least j : ℕ) → units_fault t f n p least ≡ Clear → j ≤ n → (q : ℕ) → q ≡ unit_of f p j → (m : ℕ) → m ≡ n - j
      → (l : ℕ) × (units_fault t f m q l ≡ Clear)
  unfolding walk
  units-back n p least zero e h q s m u =
      let x : q ≡ p = omega arith in
      let y : m ≡ n = omega arith in
      (least, rw (x, y) e)
  units-back zero p least (suc j) e h q s m u = absurd (omega arith)
  units-back (suc n) p least (suc j) e h q s m u =
      units-back n (p + unit_size f) (last_of t p + 1) j (then-second _ _ e) (omega arith) q (omega arith) m (omega arith)

  module _ (at glyph : ℕ) where
    -- units from one on that begins above the glyph give it nothing
    pub value-front : (n p least j m : ℕ) → units_fault t f n p least ≡ Clear → j < n → m ≡ unit_of f p j → glyph < first_of t f m
        → units_value t f at glyph n p ≡ units_value t f at glyph j p
    unfolding walk units_value
    value-front zero p least j m e h s c = absurd (omega arith)
    value-front (suc n) p least zero m e h s c =
        let x : m ≡ p = omega arith in
        let l : glyph < first_of t f p = rw x at c in
        let r = unit-rules t f p least (then-first _ _ e) in
        simp (begins-above t f glyph p l)
        (none_above t f at glyph n (p + unit_size f) (last_of t p + 1) (then-second _ _ e) (omega (arith, l, r)))
    value-front (suc n) p least (suc j) m e h s c =
        ap (cond (covers t f glyph p) (Some (unit_value t f at glyph p)))
        (value-front n (p + unit_size f) (last_of t p + 1) j m (then-second _ _ e) (omega arith) (omega arith) c)

    -- units up to one that ends below the glyph give it nothing
    pub value-back : (n p least j m q k : ℕ) → units_fault t f n p least ≡ Clear → j < n → m ≡ unit_of f p j → last_of t m < glyph
        → q ≡ unit_of f m 1 → k ≡ n - 1 - j → units_value t f at glyph n p ≡ units_value t f at glyph k q
    unfolding walk units_value
    value-back zero p least j m q k e h s c u v = absurd (omega arith)
    value-back (suc n) p least zero m q k e h s c u v =
        let x : m ≡ p = omega arith in
        let l : last_of t p < glyph = rw x at c in
        let y : p + unit_size f ≡ q = omega arith in
        let z : n ≡ k = omega arith in
        simp (ends-below t f glyph p l, y, z)
    value-back (suc n) p least (suc j) m q k e h s c u v =
        let i : last_of t p + 1 ≤ first_of t f m = rises t f n (p + unit_size f) (last_of t p + 1) j m (then-second _ _ e) (omega arith) (omega arith) in
        let w = walk-each (unit_fault t f) (unit_size f) (λ r. last_of t r + 1) (suc n) p least e (suc j) h in
        let o : first_of t f m ≤ last_of t m = rw s (unit-rules t f _ w.0 w.1).1 in
        simp (ends-below t f glyph p (omega (arith, i, o, c)))
        (value-back n (p + unit_size f) (last_of t p + 1) j m q k (then-second _ _ e) (omega arith) (omega arith) c u (omega arith))

-- ---- a find by halves on its way: `left` units from `p` on are left of `count` from `start` on, after `looks` looks

pub record Halving (t : List ℕ) (f at glyph count start p left looks : ℕ) : Type 0 where
  pub counted : looks_in t f glyph count start count ≡ looks + looks_in t f glyph left p left
  pub least : ℕ
  pub clear : units_fault t f left p least ≡ Clear
  pub same : units_value t f at glyph count start ≡ units_value t f at glyph left p

module _ {t : List ℕ} {f at glyph count start : ℕ} where
  pub halving-begin : units_fault t f count start 0 ≡ Clear → Halving t f at glyph count start start count 0
  halving-begin e = record { counted = omega arith; least = 0; clear = e; same = refl }

  pub halving-none : {p left looks : ℕ} → Halving t f at glyph count start p left looks → left ≤ 0
      → (looks ≡ looks_in t f glyph count start count) × (None ≡ units_value t f at glyph count start)
  halving-none {p} {left} {looks} s h =
      (omega (arith, s.counted, looks-none t f glyph p left h), sym (s.same ∙ units-none t f at glyph left p h))

  -- a look at the middle unit `m`
  module _ {p left looks : ℕ} (half m : ℕ) (s : Halving t f at glyph count start p left looks) (h : 0 < left) (u : half ≡ (left - 1) / 2)
      (v : m ≡ unit_of f p half) where
    less : half < left
    less = omega arith

    -- it stands inside the table
    pub halving-inside : m + unit_size f ≤ length t
    halving-inside =
        let w = walk-each (unit_fault t f) (unit_size f) (λ r. last_of t r + 1) left p s.least s.clear half less in
        rw v (unit-inside t f _ w.0 w.1)

    -- it is counted: `more` looks
    module _ (more : ℕ) (n : more ≡ looks + 1) where
      pub halving-low : glyph < first_of t f m → Halving t f at glyph count start p half more
      halving-low l =
          record {
            counted = omega (arith, s.counted, looks-low t f glyph p left half m h u v l, n);
            least = s.least;
            clear = units-front t f left p s.least half s.clear (omega arith);
            same = s.same ∙ value-front t f at glyph left p s.least half m s.clear less v l;
          }

      pub halving-high : (q rest : ℕ) → first_of t f m ≤ glyph → last_of t m < glyph → q ≡ unit_of f m 1 → rest ≡ left - 1 - half
          → Halving t f at glyph count start q rest more
      halving-high q rest l g x y =
          let z : q ≡ unit_of f p (suc half) = omega arith in
          let w = units-back t f left p s.least (suc half) s.clear (omega (arith, less)) q z rest (omega arith) in
          record {
            counted = omega (arith, s.counted, looks-high t f glyph p left half m q rest h u v l g x y, n);
            least = w.0;
            clear = w.1;
            same = s.same ∙ value-back t f at glyph left p s.least half m q rest s.clear less v g x y;
          }

      pub halving-here : (value : ℕ) → first_of t f m ≤ glyph → glyph ≤ last_of t m → value ≡ unit_value t f at glyph m
          → (more ≡ looks_in t f glyph count start count) × (Some value ≡ units_value t f at glyph count start)
      halving-here value c d x =
          let w : covers t f glyph m ≡ true = covers_high t f glyph m _ refl _ refl c ∙ le-leb glyph _ d in (
            omega (arith, s.counted, looks-here t f glyph p left half m h u v w, n),
            ap Some x ∙ sym (s.same ∙ covering t f at glyph left p s.least half m s.clear less v w),
          )

-- ---- the units that a find can look at

module _ (t : List ℕ) (f p : ℕ) where
  pub open-most : (n : ℕ) → open_of t f p n ≤ n
  unfolding open_of
  open-most n = go (closes t f (unit_of f p (n - 1)))
    where
      go : (b : Bool) → cond b (n - 1) n ≤ n
      go true = omega arith
      go false = omega arith

  -- a closing unit gives nothing to a glyph that is not deleted
  pub open-value : (at glyph n : ℕ) → units_fault t f n p 0 ≡ Clear → glyph < 65535
      → units_value t f at glyph (open_of t f p n) p ≡ units_value t f at glyph n p
  unfolding open_of closes
  open-value at glyph zero e h = go (closes t f (unit_of f p (0 - 1)))
    where
      go : (b : Bool) → units_value t f at glyph (cond b (0 - 1) 0) p ≡ units_value t f at glyph 0 p
      go true = refl
      go false = refl
  open-value at glyph (suc k) e h = go (closes t f (unit_of f p (suc k - 1))) refl
    where
      go : (b : Bool) → closes t f (unit_of f p (suc k - 1)) ≡ b
          → units_value t f at glyph (cond b (suc k - 1) (suc k)) p ≡ units_value t f at glyph (suc k) p
      go false c = refl
      go true c =
          let w : first_of t f (unit_of f p (suc k - 1)) ≡ 65535 = eqb-true _ _ (and_first _ _ c) in
          sym (value-front t f at glyph (suc k) p 0 (suc k - 1) _ e (omega arith) refl (omega (arith, w, h)))

-- For n units that a find can look at, the looks are at most the least b for which 2 to the power b exceeds n.
pub looks-bound : (t : List ℕ) (at glyph b : ℕ) → open_count t at < 2 ^ b → looks_of t at glyph ≤ b
unfolding looks_of
looks-bound t at glyph b h = go (eqb glyph 65535)
  where
    go : (c : Bool) → cond c 0 (looks_in t (u16_at t at) glyph (open_count t at) (at + 12) (open_count t at)) ≤ b
    go true = omega arith
    go false = looks-most t (u16_at t at) glyph (open_count t at) (at + 12) (open_count t at) b h

-- in formats 0 and 8, and in every other that has no units, a find looks at none
pub looks-unitless : (t : List ℕ) (at glyph : ℕ) → has_units (u16_at t at) ≡ false → looks_of t at glyph ≡ 0
looks-unitless t at glyph e =
    let x : unit_count t at ≡ 0 = count_none t at (u16_at t at) refl e in
    let y : open_count t at < 2 ^ 0 = omega (arith, x, open-most t (u16_at t at) (at + 12) (unit_count t at)) in
    let z = looks-bound t at glyph 0 y in
    omega (arith, z)

-- a lookup of a table counts fewer than 65,536 units
pub looks-few : (t : List ℕ) (at glyph : ℕ) → Bytes t → looks_of t at glyph ≤ 16
looks-few t at glyph b = looks-bound t at glyph 16 (omega (arith, open-most t (u16_at t at) (at + 12) (unit_count t at), units-fit t at b))

-- ---- the head

pub head-format : (t : List ℕ) (at : ℕ) {h : Head} → h ≡ head_at t at → h.format ≡ u16_at t at
unfolding head_at
head-format t at e = ap (λ (k : Head). k.format) e

pub head-units : (t : List ℕ) (at : ℕ) {h : Head} → h ≡ head_at t at → h.units ≡ open_count t at
unfolding head_at
head-units t at e = ap (λ (k : Head). k.units) e

-- ---- the value and the looks of a glyph in a lookup that is ready

module _ {t : List ℕ} {glyphs at : ℕ} {head : Head} (s : Searchable t glyphs at head) where
  -- the units that a find can look at are few, and have no fault
  pub ready-few : Bytes t → head.units < 2 ^ 16
  ready-few b = omega (arith, head-units t at s.read, open-most t (u16_at t at) (at + 12) (unit_count t at), units-fit t at b)

  pub ready-clear : (f : ℕ) → f ≡ head.format → units_fault t f head.units (at + 12) 0 ≡ Clear
  ready-clear f r =
      rw (r ∙ head-format t at s.read, head-units t at s.read)
      (units-front t (u16_at t at) (unit_count t at) (at + 12) 0 (open_count t at) (units-clear t at glyphs s.clear) (open-most t (u16_at t at) (at + 12) (unit_count t at)))

  module _ (glyph : ℕ) where
    pub find-deleted : glyph ≡ 65535 → (0 ≡ looks_of t at glyph) × (None ≡ value_of t glyphs at glyph)
    unfolding looks_of
    find-deleted e = (simp (eq-eqb glyph 65535 e), sym (value_none t glyphs at glyph (omega (arith, s.few))))

    pub find-0 : {v : Option ℕ} → head.format ≡ 0 → v ≡ value_of t glyphs at glyph → (0 ≡ looks_of t at glyph) × (v ≡ value_of t glyphs at glyph)
    unfolding has_units
    find-0 e w = (sym (looks-unitless t at glyph (simp (← head-format t at s.read, e))), w)

    pub find-8 : {v : Option ℕ} → head.format ≡ 8 → v ≡ value_of t glyphs at glyph → (0 ≡ looks_of t at glyph) × (v ≡ value_of t glyphs at glyph)
    unfolding has_units
    find-8 e w = (sym (looks-unitless t at glyph (simp (← head-format t at s.read, e))), w)

    -- a find by halves of a glyph that is not deleted
    module _ (f looks : ℕ) (r : f ≡ head.format) (n : glyph ≡ 65535 → ⊥) (l : looks ≡ looks_in t f glyph head.units (at + 12) head.units) where
      looks-as : looks ≡ looks_of t at glyph
      unfolding looks_of
      looks-as =
          simp (ne_eqb glyph 65535 n)
          (l ∙ ap₂ (λ (g k : ℕ). looks_in t g glyph k (at + 12) k) (r ∙ head-format t at s.read) (head-units t at s.read))

      pub find_past : glyphs ≤ glyph → (looks ≡ looks_of t at glyph) × (None ≡ value_of t glyphs at glyph)
      find_past h = (looks-as, sym (value_none t glyphs at glyph h))

      pub find-units : {v : Option ℕ} → glyph < glyphs → (f ≡ 0 → ⊥) → (f ≡ 8 → ⊥) → v ≡ units_value t f at glyph head.units (at + 12)
          → (looks ≡ looks_of t at glyph) × (v ≡ value_of t glyphs at glyph)
      find-units h n0 n8 w =
          let g : f ≡ u16_at t at = r ∙ head-format t at s.read in (
            looks-as,
            w
                ∙ ap₂ (λ (i k : ℕ). units_value t i at glyph k (at + 12)) g (head-units t at s.read)
                ∙ open-value t (u16_at t at) (at + 12) at glyph (unit_count t at) (units-clear t at glyphs s.clear) (omega (arith, n, h, s.few))
                ∙ sym (value_in_lem t glyphs at glyph h ∙ from-units t at glyph (unit_count t at) (at + 12) f g n0 n8 ∙ ap (λ (k : ℕ). units_value t k at glyph (unit_count t at) (at + 12)) g),
          )

-- a last field alone does not make a unit the closing one
pub closing-not : (t : List ℕ) (f p e : ℕ) → (f ≡ 6 → ⊥) → e ≡ u16_at t (p + 2) → (e ≡ 65535 → ⊥) → false ≡ closes t f p
unfolding closes
closing-not t f p e n q h = simp (first_range t f p n, ← q, ne_eqb e 65535 h)
