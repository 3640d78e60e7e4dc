-- Under a wider target no edge of a glyph lies before its place under the narrower (document 02, request 1/14), whatever the line and the meaning of its direction.
use Prim.Native.Nat.{ℕ, zero, suc, ◌+◌, ◌-◌, ◌≤◌, ◌<◌}
use mathlib.Core.Path.{◌≡◌, refl, sym, ap, ◌∙◌, subst}
use mathlib.Core.Bool.{Bool, true, false}
use mathlib.Core.Option.{Option, none, some}
use mathlib.Core.List.{List, [], ◌∷◌, map}
use native.Mathlib.Omega.{arith}
use lib.Dec.{T, ltb, leb→le, le→leb}
use lib.IntN.{ℤ, pos, negsuc, neg_ℤ, nat_abs, ◌+ℤ◌, +ℤ_assoc, +ℤ_comm}
use lib.Signed.{lt_z, le_z, ◌≤ℤ◌}
use lib.ListN.{take, get_or}
use borrow.Author.Tests.{lt-ltb, le-ltb}
use Rattle.meaning.specs.Meaning.{Machine, Side}
use Rattle.share.specs.Line.{Glyph, evens, odds, line_moves, signed_of, sumℤ}
use Rattle.share.proofs.Lists.{upto}
use Rattle.share.proofs.Lines.{sum-signed, add-signed}
use Rattle.share.proofs.Rising.{line-rises, upto_left, upto-right}
use Rattle.line_rule.specs.Line.{Line, goes_back, gap_of, shrinks, gap_size, walk_of, classes_of, parts_of, parts_for, before_of, after_of}
use Rattle.line_rule.specs.Edges.{left_edge, right_edge, aimed}

-- ---- the order of numbers with signs

-- b is a and a number of units more
record Beyond (a b : ℤ) : Type 0 where
  by : ℕ
  at : b ≡ a +ℤ pos by

beyond : (a b : ℤ) → T (le_z a b) → Beyond a b
beyond (pos a) (pos b) h = record { by = b - a; at = ap pos (let l = leb→le a b h in omega arith) }
beyond (pos a) (negsuc b) h = absurd h
beyond (negsuc a) (pos b) h =
    record { by = b + suc a; at = let l : suc a ≤ b + suc a = omega arith in let e : b ≡ b + suc a - suc a = omega arith in rw (le-ltb (b + suc a) (suc a) l) (ap pos e) }
beyond (negsuc a) (negsuc b) h =
    let l = leb→le b a h in
    record { by = a - b; at = let k : a - b < suc a = omega arith in let e : b ≡ suc a - suc (a - b) = omega arith in rw (lt-ltb (a - b) (suc a) k) (ap negsuc e) }

not-before : (a : ℤ) (d : ℕ) → T (le_z a (a +ℤ pos d))
not-before (pos a) d = le→leb a (a + d) (omega arith)
not-before (negsuc a) d = go (ltb d (suc a)) refl
  where
    go : (b : Bool) → ltb d (suc a) ≡ b → T (le_z (negsuc a) (negsuc a +ℤ pos d))
    go true e = rw e (le→leb (suc a - suc d) a (omega arith))
    go false e = rw e tt

within : {a b : ℤ} → Beyond a b → a ≤ℤ b
within {a} {b} h = record { le = subst (λ (z : ℤ). T (le_z a z)) (sym h.at) (not-before a h.by) }

-- the same added ahead of both, and behind both
ahead : (c : ℤ) {a b : ℤ} → a ≤ℤ b → (c +ℤ a) ≤ℤ (c +ℤ b)
ahead c {a} {b} h =
    let w = beyond a b h.le in
    within (record { by = w.by; at = ap (λ (z : ℤ). c +ℤ z) w.at ∙ sym (+ℤ_assoc c a (pos w.by)) })

behind : (c : ℤ) {a b : ℤ} → a ≤ℤ b → (a +ℤ c) ≤ℤ (b +ℤ c)
behind c {a} {b} h = subst (λ (z : ℤ). z ≤ℤ (b +ℤ c)) (+ℤ_comm c a) (subst (λ (z : ℤ). (c +ℤ a) ≤ℤ z) (+ℤ_comm c b) (ahead c h))

grows : {x y : ℕ} → x ≤ y → pos x ≤ℤ pos y
grows {x} {y} h = record { le = le→leb x y h }

crosses : (x y : ℕ) → neg_ℤ (pos x) ≤ℤ pos y
crosses zero y = record { le = le→leb 0 y (omega arith) }
crosses (suc x) y = record { le = tt }

falls : (x y : ℕ) → y ≤ x → neg_ℤ (pos x) ≤ℤ neg_ℤ (pos y)
falls zero zero h = record { le = tt }
falls zero (suc y) h = absurd (omega arith)
falls (suc x) zero h = record { le = tt }
falls (suc x) (suc y) h = record { le = le→leb y x (omega arith) }

-- ---- movements with signs

-- the movements of the first sides, from the gap, going back or not: by grow parts where it is 0 or more, else by shrink parts, with a minus
abbrev moved_by : Bool → (Bool → List Glyph) → ℕ → ℤ → ℤ
moved_by back parts k gap = signed_of (lt_z gap (pos 0)) (upto k (line_moves back (parts (lt_z gap (pos 0))) (nat_abs gap)))

moved-rises : (back : Bool) (parts : Bool → List Glyph) (k : ℕ) (g h : ℤ) → g ≤ℤ h → moved_by back parts k g ≤ℤ moved_by back parts k h
moved-rises back parts k (pos a) (pos b) w =
    let l = leb→le a b w.le in
    rw (le-ltb a 0 (omega arith), le-ltb b 0 (omega arith)) (grows (line-rises back (parts false) k l))
moved-rises back parts k (pos a) (negsuc b) w = absurd w.le
moved-rises back parts k (negsuc a) (pos b) w = rw (le-ltb b 0 (omega arith)) (crosses (upto k (line_moves back (parts true) (suc a))) (upto k (line_moves back (parts false) b)))
moved-rises back parts k (negsuc a) (negsuc b) w =
    let l = leb→le b a w.le in
    let m : suc b ≤ suc a = omega arith in
    falls (upto k (line_moves back (parts true) (suc a))) (upto k (line_moves back (parts true) (suc b))) (line-rises back (parts true) k m)

-- ---- sums of the first movements

take-map : (f : ℕ → ℤ) (k : ℕ) (l : List ℕ) → take k (map f l) ≡ map f (take k l)
take-map f zero l = refl
take-map f (suc k) [] = refl
take-map f (suc k) (x ∷ l) = ap (λ (t : List ℤ). f x ∷ t) (take-map f k l)

first_signed : (b : Bool) (k : ℕ) (l : List ℕ) → sumℤ (take k (map (signed_of b) l)) ≡ signed_of b (upto k l)
first_signed b k l = ap sumℤ (take-map (signed_of b) k l) ∙ sum-signed b (take k l)

own-signed : (b : Bool) (i : ℕ) (l : List ℕ) → get_or (map (signed_of b) l) i (pos 0) ≡ signed_of b (get_or l i 0)
own-signed true i [] = refl
own-signed false i [] = refl
own-signed b zero (x ∷ l) = refl
own-signed b (suc i) (x ∷ l) = own-signed b i l

collect : (a : ℤ) (b : Bool) (x y : ℕ) → a +ℤ signed_of b x +ℤ signed_of b y ≡ a +ℤ signed_of b (x + y)
collect a b x y = +ℤ_assoc a (signed_of b x) (signed_of b y) ∙ ap (λ (z : ℤ). a +ℤ z) (add-signed b x y)

module _ (b : Bool) (advances : List ℤ) (m : List ℕ) (i : ℕ) where
  abbrev bs : List ℤ
  bs = map (signed_of b) (evens m)

  abbrev fs : List ℤ
  fs = map (signed_of b) (odds m)

  abbrev ahead_of : ℤ
  ahead_of = sumℤ (take i advances)

  abbrev own : ℤ
  own = get_or advances i (pos 0)

  left_is : left_edge advances bs fs i ≡ ahead_of +ℤ signed_of b (upto (i + i + 1) m)
  left_is =
      ap (λ (z : ℤ). ahead_of +ℤ z +ℤ sumℤ (take i fs) +ℤ get_or bs i (pos 0)) (first_signed b i (evens m))
      ∙ ap (λ (z : ℤ). ahead_of +ℤ signed_of b (upto i (evens m)) +ℤ z +ℤ get_or bs i (pos 0)) (first_signed b i (odds m))
      ∙ ap (λ (z : ℤ). ahead_of +ℤ signed_of b (upto i (evens m)) +ℤ signed_of b (upto i (odds m)) +ℤ z) (own-signed b i (evens m))
      ∙ ap (λ (z : ℤ). z +ℤ signed_of b (get_or (evens m) i 0)) (collect ahead_of b (upto i (evens m)) (upto i (odds m)))
      ∙ collect ahead_of b (upto i (evens m) + upto i (odds m)) (get_or (evens m) i 0)
      ∙ ap (λ (n : ℕ). ahead_of +ℤ signed_of b n) (sym (upto_left i m))

  right_is : right_edge advances bs fs i ≡ ahead_of +ℤ own +ℤ signed_of b (upto (i + i + 2) m)
  right_is =
      ap (λ (z : ℤ). z +ℤ own +ℤ get_or fs i (pos 0)) left_is
      ∙ ap (λ (z : ℤ). z +ℤ get_or fs i (pos 0)) turned
      ∙ ap (λ (z : ℤ). ahead_of +ℤ own +ℤ signed_of b (upto (i + i + 1) m) +ℤ z) (own-signed b i (odds m))
      ∙ collect (ahead_of +ℤ own) b (upto (i + i + 1) m) (get_or (odds m) i 0)
      ∙ ap (λ (n : ℕ). ahead_of +ℤ own +ℤ signed_of b n) (omega (arith, upto_left i m, upto-right i m))
    where
      turned : ahead_of +ℤ signed_of b (upto (i + i + 1) m) +ℤ own ≡ ahead_of +ℤ own +ℤ signed_of b (upto (i + i + 1) m)
      turned =
          +ℤ_assoc ahead_of (signed_of b (upto (i + i + 1) m)) own
          ∙ ap (λ (z : ℤ). ahead_of +ℤ z) (+ℤ_comm (signed_of b (upto (i + i + 1) m)) own)
          ∙ sym (+ℤ_assoc ahead_of own (signed_of b (upto (i + i + 1) m)))

-- ---- the line

-- the walk does not look at the target
walk-aimed : (m : Option Machine) (l : Line) (u : ℤ) → walk_of m (aimed l u) ≡ walk_of m l
unfolding walk_of
walk-aimed none l u = refl
walk-aimed (some m) l u = refl

module _ (s : Side) (l : Line) where
  -- the parts of the glyphs, by whether the line shrinks
  abbrev parts : Bool → List Glyph
  parts b = parts_of s b l.sizes l.glyphs (classes_of (walk_of s.machine l))

  parts-aimed : (u : ℤ) → parts_for s (aimed l u) ≡ parts (shrinks (aimed l u))
  parts-aimed u = ap (λ c. parts_of s (shrinks (aimed l u)) l.sizes l.glyphs (classes_of c)) (walk-aimed s.machine l u)

  abbrev left : ℤ → ℕ → ℤ
  left u i = left_edge l.advances (before_of s (aimed l u)) (after_of s (aimed l u)) i

  abbrev right : ℤ → ℕ → ℤ
  right u i = right_edge l.advances (before_of s (aimed l u)) (after_of s (aimed l u)) i

  left-moved : (u : ℤ) (i : ℕ) → left u i ≡ sumℤ (take i l.advances) +ℤ moved_by (goes_back l.edition) parts (i + i + 1) (gap_of (aimed l u))
  unfolding before_of after_of
  left-moved u i =
      left_is (shrinks (aimed l u)) l.advances (line_moves (goes_back l.edition) (parts_for s (aimed l u)) (gap_size (aimed l u))) i
      ∙ ap (λ (gs : List Glyph). sumℤ (take i l.advances) +ℤ signed_of (shrinks (aimed l u)) (upto (i + i + 1) (line_moves (goes_back l.edition) gs (gap_size (aimed l u))))) (parts-aimed u)

  right-moved : (u : ℤ) (i : ℕ) → right u i ≡ sumℤ (take i l.advances) +ℤ get_or l.advances i (pos 0) +ℤ moved_by (goes_back l.edition) parts (i + i + 2) (gap_of (aimed l u))
  unfolding before_of after_of
  right-moved u i =
      right_is (shrinks (aimed l u)) l.advances (line_moves (goes_back l.edition) (parts_for s (aimed l u)) (gap_size (aimed l u))) i
      ∙ ap (λ (gs : List Glyph). sumℤ (take i l.advances) +ℤ get_or l.advances i (pos 0) +ℤ signed_of (shrinks (aimed l u)) (upto (i + i + 2) (line_moves (goes_back l.edition) gs (gap_size (aimed l u))))) (parts-aimed u)

  -- a wider target has a wider gap
  gap-rises : {u w : ℤ} → u ≤ℤ w → gap_of (aimed l u) ≤ℤ gap_of (aimed l w)
  unfolding gap_of
  gap-rises h = behind (neg_ℤ (sumℤ l.advances)) h

  -- NEVER BACK, on the movements of any line under any two targets, in both editions
  pub edges-rise : {u w : ℤ} → u ≤ℤ w → (i : ℕ) → (left u i ≤ℤ left w i) × (right u i ≤ℤ right w i)
  edges-rise {u} {w} h i =
      let g = gap-rises h in (
        rw (left-moved u i, left-moved w i) (ahead (sumℤ (take i l.advances)) (moved-rises (goes_back l.edition) parts (i + i + 1) (gap_of (aimed l u)) (gap_of (aimed l w)) g)),
        rw (right-moved u i, right-moved w i)
            (ahead (sumℤ (take i l.advances) +ℤ get_or l.advances i (pos 0)) (moved-rises (goes_back l.edition) parts (i + i + 2) (gap_of (aimed l u)) (gap_of (aimed l w)) g)),
      )
