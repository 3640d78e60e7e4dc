-- Lists by stretches: the stretches from some index on, one stretch more, a stretch that grows.
use Prim.Native.Nat.{ℕ, zero, suc, ◌+◌, ◌-◌, ◌≤◌, ◌<◌}
use mathlib.Core.Path.{◌≡◌, refl, sym, ap, ◌∙◌}
use mathlib.Core.List.{List, [], ◌∷◌, ◌++◌, append_assoc, append-nil}
use native.Mathlib.Omega.{arith}
use lib.ListN.{length, get_or, drop, replicate}
use Rattle.write_runs.specs.Spread.{spread, Rise}

pub rise-few : (es : List ℕ) (i n : ℕ) → Rise i es n → i + length es ≤ n
rise-few [] i n r = omega arith
rise-few (e ∷ es) i n r = omega (arith, r.0, rise-few es e n r.1)

pub rise-more : (es : List ℕ) (i g e : ℕ) → Rise i es g → g < e → Rise i (es ++ (e ∷ [])) e
rise-more [] i g e r h = (omega arith, refl)
rise-more (x ∷ es) i g e r h = (r.0, rise-more es x g e r.1 h)

-- before the last end there is one to rise from
rise-last : (es : List ℕ) (i x g : ℕ) → Rise i (es ++ (x ∷ [])) g → (h : ℕ) × (Rise i es h) × (h < x) × (x ≡ g)
rise-last [] i x g r = (i, refl, r.0, r.1)
rise-last (e ∷ es) i x g r = let w = rise-last es e x g r.1 in (w.0, (r.0, w.1), w.2, w.3)

module _ {A : Type 0} where
  replicate_more : (a b : ℕ) (v : A) (l : List A) → replicate a v ++ (replicate b v ++ l) ≡ replicate (a + b) v ++ l
  replicate_more zero b v l = let e : b ≡ 0 + b = omega arith in ap (λ (k : ℕ). replicate k v ++ l) e
  replicate_more (suc a) b v l =
      let e : suc (a + b) ≡ suc a + b = omega arith in
      ap (λ (m : List A). v ∷ m) (replicate_more a b v l) ∙ ap (λ (k : ℕ). replicate k v ++ l) e

  replicate-add : (a b : ℕ) (v : A) → replicate a v ++ replicate b v ≡ replicate (a + b) v
  replicate-add a b v =
      ap (λ (l : List A). replicate a v ++ l) (sym (append-nil (replicate b v))) ∙ replicate_more a b v [] ∙ append-nil (replicate (a + b) v)

  -- the first k + 1 stretches have one element
  pub spread_same : (k i n : ℕ) (v : A) (es : List ℕ) (ws : List A) → suc k + length ws ≡ length es → Rise i es n
      → (i < get_or es k 0) × Rise (get_or es k 0) (drop (suc k) es) n
      × (spread i es (replicate (suc k) v ++ ws) ≡ replicate (get_or es k 0 - i) v ++ spread (get_or es k 0) (drop (suc k) es) ws)
  unfolding spread
  spread_same k i n v [] ws l r = absurd (omega arith)
  spread_same zero i n v (e ∷ es) ws l r = (r.0, r.1, refl)
  spread_same (suc k) i n v (e ∷ es) ws l r =
      let w = spread_same k e n v es ws (omega arith) r.1 in
      let s : (e - i) + (get_or es k 0 - e) ≡ get_or es k 0 - i = omega (arith, r.0, w.0) in (
        omega (arith, r.0, w.0),
        w.1,
        ap (λ (l : List A). replicate (e - i) v ++ l) w.2 ∙ replicate_more (e - i) (get_or es k 0 - e) v (spread (get_or es k 0) (drop (suc k) es) ws)
            ∙ ap (λ (m : ℕ). replicate m v ++ spread (get_or es k 0) (drop (suc k) es) ws) s,
      )

  -- the first element of the list is that of the first stretch
  pub spread-first : (i n : ℕ) (es : List ℕ) (vs : List A) (z : A) → length vs ≡ length es → Rise i es n → 0 < length (spread i es vs)
      → (0 < length vs) × (get_or (spread i es vs) 0 z ≡ get_or vs 0 z)
  unfolding spread
  spread-first i n [] vs z l r h = absurd (omega arith)
  spread-first i n (e ∷ es) [] z l r h = absurd (omega arith)
  spread-first i n (e ∷ es) (v ∷ vs) z l r h =
      let s : e - i ≡ suc (e - i - 1) = omega (arith, r.0) in
      (omega arith, ap (λ (m : ℕ). get_or (replicate m v ++ spread e es vs) 0 z) s)

  -- one stretch more
  pub spread-more : (es : List ℕ) (vs : List A) (i g e : ℕ) (v : A) → length vs ≡ length es → Rise i es g
      → spread i (es ++ (e ∷ [])) (vs ++ (v ∷ [])) ≡ spread i es vs ++ replicate (e - g) v
  unfolding spread
  spread-more [] [] i g e v l r = append-nil (replicate (e - i) v) ∙ ap (λ (k : ℕ). replicate (e - k) v) r
  spread-more [] (w ∷ vs) i g e v l r = absurd (omega arith)
  spread-more (x ∷ es) [] i g e v l r = absurd (omega arith)
  spread-more (x ∷ es) (w ∷ vs) i g e v l r =
      ap (λ (l : List A). replicate (x - i) w ++ l) (spread-more es vs x g e v (omega arith) r.1)
      ∙ sym (append_assoc (replicate (x - i) w) (spread x es vs) (replicate (e - g) v))

  -- the last stretch grows
  pub spread-grows : (es : List ℕ) (vs : List A) (i x g e : ℕ) (v : A) → length vs ≡ length es → Rise i (es ++ (x ∷ [])) g → g < e
      → Rise i (es ++ (e ∷ [])) e × (spread i (es ++ (e ∷ [])) (vs ++ (v ∷ [])) ≡ spread i (es ++ (x ∷ [])) (vs ++ (v ∷ [])) ++ replicate (e - g) v)
  spread-grows es vs i x g e v l r h =
      let w = rise-last es i x g r in
      let q = w.0 in
      let s : (x - q) + (e - g) ≡ e - q = omega (arith, w.2, w.3) in (
        rise-more es i q e w.1 (omega (arith, w.2, w.3)),
        spread-more es vs i q e v l w.1
            ∙ ap (λ (k : ℕ). spread i es vs ++ replicate k v) (sym s)
            ∙ ap (λ (y : List A). spread i es vs ++ y) (sym (replicate-add (x - q) (e - g) v))
            ∙ sym (append_assoc (spread i es vs) (replicate (x - q) v) (replicate (e - g) v))
            ∙ ap (λ (y : List A). y ++ replicate (e - g) v) (sym (spread-more es vs i q x v l w.1)),
      )

  pub spread_none : (i : ℕ) (es : List ℕ) (vs : List A) → length es ≡ 0 → spread i es vs ≡ []
  unfolding spread
  spread_none i [] vs l = refl
  spread_none i (e ∷ es) vs l = absurd (omega arith)
