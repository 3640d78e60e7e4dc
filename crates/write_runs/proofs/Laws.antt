-- The runs of a list from a stretch of equal elements on, and the bytes of runs.
use Prim.Native.Nat.{ℕ, zero, suc, ◌+◌, ◌-◌, ◌*◌, ◌≤◌, ◌<◌}
use mathlib.Core.Path.{◌≡◌, refl, sym, ap, ap₂, ◌∙◌, subst}
use mathlib.Core.Logic.{ite}
use mathlib.Core.List.{List, [], ◌∷◌, ◌++◌}
use native.Mathlib.Decide.{ℕ_discrete}
use native.Mathlib.Omega.{arith}
use native.Mathlib.Nat.{add-zero}
use lib.ListN.{length, drop, get_or, set, replicate, length-drop}
use lib.Seq.{sets, drop-cons, get_or-drop, drop-drop}
use Rattle.fields.specs.Field.{be32}
use Rattle.fields.specs.Stores.{sets-append}
use Rattle.encoding.specs.Codes.{many, counted}
use Rattle.encoding.specs.Runs.{Run, push, runs, OkRuns}
use Rattle.encoding.proofs.RunsLaws.{ApartAt, runs-ok, runs-skips, runs_block}
use Rattle.encoding.proofs.CodeLaws.{many-length}
use Rattle.write_runs.specs.Spread.{spread, RunTo, Rise}
use Rattle.write_runs.proofs.Spread.{spread_same, spread-first, spread_none}

-- ---- a stretch of equal elements

more : {A : Type 0} (k : ℕ) (v : A) (ys : List A) → replicate k v ++ (v ∷ ys) ≡ replicate (suc k) v ++ ys
more zero v ys = refl
more (suc k) v ys = ap (λ (l : List _). v ∷ l) (more k v ys)

-- the loop's turn
pub stretch-more : (xs : List ℕ) (i j v : ℕ) → i < j → j < length xs → get_or xs j 0 ≡ v → drop i xs ≡ replicate (j - i) v ++ drop j xs
    → drop i xs ≡ replicate (j + 1 - i) v ++ drop (j + 1) xs
stretch-more xs i j v hi h ev e =
    let k : suc (j - i) ≡ j + 1 - i = omega arith in
    let f : suc j ≡ j + 1 = omega arith in
    e ∙ ap (λ (l : List ℕ). replicate (j - i) v ++ l) (drop-cons xs j 0 h ∙ ap₂ (λ (x m : ℕ). x ∷ drop m xs) ev f)
    ∙ more (j - i) v (drop (j + 1) xs) ∙ ap (λ (m : ℕ). replicate m v ++ drop (j + 1) xs) k

-- ---- the runs from index i on

module _ (skip : ℕ) where
  -- the first run of a list that does not begin with v does not touch with v
  head_apart : (ys : List ℕ) (j v : ℕ) → (v ≡ skip → ⊥) → (0 < length ys → get_or ys 0 0 ≡ v → ⊥) → ApartAt j v (runs ℕ_discrete skip j ys)
  head_apart [] j v hs h = tt
  head_apart (y ∷ ys) j v hs h = go (ℕ_discrete y skip) (runs ℕ_discrete skip (suc j) ys) (runs-ok ℕ_discrete skip ys (suc j + length ys) (suc j) refl)
    where
      later : (rs : List (Run ℕ)) → OkRuns skip (suc j + length ys) (suc j) skip rs → ApartAt j v rs
      later [] o = tt
      later (r ∷ rs) o = λ e f. omega (arith, o.0)

      two : (d : Dec (y ≡ skip)) (r : Run ℕ) (rs : List (Run ℕ)) (a : Dec (r.first ≡ suc j)) (b : Dec (r.value ≡ y))
          → ApartAt j v (ite a (ite b (record { first = j; last = r.last; value = y } ∷ rs) (record { first = j; last = j; value = y } ∷ r ∷ rs)) (record { first = j; last = j; value = y } ∷ r ∷ rs))
      two d r rs (yes p) (yes q) = λ e f. h (omega arith) f
      two d r rs (yes p) (no q) = λ e f. h (omega arith) f
      two d r rs (no p) b = λ e f. h (omega arith) f

      put : (rs : List (Run ℕ)) → ApartAt j v (push ℕ_discrete j y rs)
      put [] = λ e f. h (omega arith) f
      put (r ∷ rs) = two (ℕ_discrete y skip) r rs (ℕ_discrete r.first (suc j)) (ℕ_discrete r.value y)

      go : (d : Dec (y ≡ skip)) (rs : List (Run ℕ)) → OkRuns skip (suc j + length ys) (suc j) skip rs → ApartAt j v (ite d rs (push ℕ_discrete j y rs))
      go (yes p) rs o = later rs o
      go (no p) rs o = put rs

  -- a list that begins with a stretch of what is skipped, or with the first stretch of a run
  pub runs-pass : (first past : ℕ) (ys : List ℕ) → first < past → runs ℕ_discrete skip first (replicate (past - first) skip ++ ys) ≡ runs ℕ_discrete skip past ys
  runs-pass first past ys h =
      let k : first + (past - first) ≡ past = omega arith in
      runs-skips ℕ_discrete skip (past - first) first ys ∙ ap (λ (m : ℕ). runs ℕ_discrete skip m ys) k

  pub runs-first : (first past v : ℕ) (ys : List ℕ) → first < past → (v ≡ skip → ⊥) → (0 < length ys → get_or ys 0 0 ≡ v → ⊥)
      → runs ℕ_discrete skip first (replicate (past - first) v ++ ys) ≡ record { first = first; last = past - 1; value = v } ∷ runs ℕ_discrete skip past ys
  runs-first first past v ys l h other =
      let k : past - first ≡ suc (past - 1 - first) = omega arith in
      let m : suc (past - 1) ≡ past = omega arith in
      ap (λ (q : ℕ). runs ℕ_discrete skip first (replicate q v ++ ys)) k
      ∙ runs_block ℕ_discrete skip (past - 1 - first) first (past - 1) v ys (omega arith) h
      (subst (λ (q : ℕ). ApartAt q v (runs ℕ_discrete skip q ys)) (sym m) (head_apart ys past v h other))
      ∙ ap (λ (q : ℕ). record { first = first; last = past - 1; value = v } ∷ runs ℕ_discrete skip q ys) m

  -- the stretches ends and xs from stretch i on, which begins at index first; those from i to r - 1 have one element
  module _ (ends xs : List ℕ) (i r first n : ℕ) (l : length xs ≡ length ends) (t : RunTo xs i r) (o : Rise first (drop i ends) n) where
    abbrev v : ℕ
    v = get_or xs i 0

    abbrev past : ℕ
    past = get_or ends (r - 1) 0

    pub run_step : (first < past) × Rise past (drop r ends) n
        × (spread first (drop i ends) (drop i xs) ≡ replicate (past - first) v ++ spread past (drop r ends) (drop r xs))
    run_step =
        let k : r - i ≡ suc (r - 1 - i) = omega (arith, t.0) in
        let a : get_or (drop i ends) (r - 1 - i) 0 ≡ past =
        get_or-drop i ends (r - 1 - i) 0 ∙ (let e : i + (r - 1 - i) ≡ r - 1 = omega (arith, t.0) in ap (λ (m : ℕ). get_or ends m 0) e) in
        let b : drop (suc (r - 1 - i)) (drop i ends) ≡ drop r ends =
        drop-drop (suc (r - 1 - i)) i ends ∙ (let e : i + suc (r - 1 - i) ≡ r = omega (arith, t.0) in ap (λ (m : ℕ). drop m ends) e) in
        let w = spread_same (r - 1 - i) first n v (drop i ends) (drop r xs) (omega (arith, t.0, t.1, l, length-drop r xs, length-drop i ends)) o in (
          omega (arith, w.0, a),
          subst (λ (m : ℕ). Rise m (drop r ends) n) a (subst (λ (m : List ℕ). Rise (get_or (drop i ends) (r - 1 - i) 0) m n) b w.1),
          ap (spread first (drop i ends)) (t.2 ∙ ap (λ (m : ℕ). replicate m v ++ drop r xs) k) ∙ w.2
              ∙ ap₂ (λ (p : ℕ) (m : List ℕ). replicate (p - first) v ++ spread p m (drop r xs)) a b,
        )

    pub runs-skipped : v ≡ skip
        → runs ℕ_discrete skip first (spread first (drop i ends) (drop i xs)) ≡ runs ℕ_discrete skip past (spread past (drop r ends) (drop r xs))
    runs-skipped e =
        let w = run_step in
        ap (runs ℕ_discrete skip first) (w.2 ∙ ap (λ (x : ℕ). replicate (past - first) x ++ spread past (drop r ends) (drop r xs)) e)
        ∙ runs-pass first past (spread past (drop r ends) (drop r xs)) w.0

    pub runs_taken : (v ≡ skip → ⊥)
        → runs ℕ_discrete skip first (spread first (drop i ends) (drop i xs))
        ≡ record { first = first; last = past - 1; value = v } ∷ runs ℕ_discrete skip past (spread past (drop r ends) (drop r xs))
    runs_taken h =
        let w = run_step in
        let g : get_or (drop r xs) 0 0 ≡ get_or xs r 0 = get_or-drop r xs 0 0 ∙ ap (λ (q : ℕ). get_or xs q 0) (add-zero r) in
        let b : length (drop r xs) ≡ length (drop r ends) = omega (arith, l, length-drop r xs, length-drop r ends) in
        ap (runs ℕ_discrete skip first) w.2
        ∙ runs-first first past v (spread past (drop r ends) (drop r xs)) w.0 h
        (λ z e. let f = spread-first past n (drop r ends) (drop r xs) 0 b w.1 z in t.3 (omega (arith, f.0, length-drop r xs)) (sym g ∙ sym f.1 ∙ e))

  pub runs_done : (ends xs : List ℕ) (i first : ℕ) → length xs ≡ length ends → length xs ≤ i → runs ℕ_discrete skip first (spread first (drop i ends) (drop i xs)) ≡ []
  runs_done ends xs i first l h =
      ap (runs ℕ_discrete skip first) (spread_none first (drop i ends) (drop i xs) (omega (arith, l, length-drop i ends)))

-- ---- a store before one that was made

set-swap : (l : List ℕ) (i j x y : ℕ) → i < j → set (set l j y) i x ≡ set (set l i x) j y
set-swap [] i j x y h = refl
set-swap (z ∷ l) i zero x y h = absurd (omega arith)
set-swap (z ∷ l) zero (suc j) x y h = refl
set-swap (z ∷ l) (suc i) (suc j) x y h = ap (λ (m : List ℕ). z ∷ m) (set-swap l i j x y (omega arith))

set_before : (ys l : List ℕ) (i j x : ℕ) → i < j → set (sets l j ys) i x ≡ sets (set l i x) j ys
set_before [] l i j x h = refl
set_before (y ∷ ys) l i j x h = set_before ys (set l j y) i (suc j) x (omega arith) ∙ ap (λ (m : List ℕ). sets m (suc j) ys) (set-swap l i j x y h)

pub sets-before : (xs ys l : List ℕ) (i j : ℕ) → i + length xs ≤ j → sets (sets l j ys) i xs ≡ sets (sets l i xs) j ys
sets-before [] ys l i j h = refl
sets-before (x ∷ xs) ys l i j h = ap (λ (m : List ℕ). sets m (suc i) xs) (set_before ys l i j x (omega arith)) ∙ sets-before xs ys (set l i x) (suc i) j (omega arith)

-- ---- runs as bytes

module _ (code : Run ℕ → List ℕ) (rs : List (Run ℕ)) where
  pub section-length : ((r : Run ℕ) → length (code r) ≡ 6) → length (counted code rs) ≡ 4 + 6 * length rs
  section-length each = omega (arith, many-length code 6 each rs)

  -- a section, its runs stored before its count
  pub section-stored : (out₀ out₁ out₂ : List ℕ) (to count : ℕ) → count ≡ length rs
      → out₁ ≡ sets out₀ (to + 4) (many code rs) → out₂ ≡ sets out₁ to (be32 count) → out₂ ≡ sets out₀ to (counted code rs)
  section-stored out₀ out₁ out₂ to count n e f =
      f ∙ ap (λ (l : List ℕ). sets l to (be32 count)) e ∙ sets-before (be32 count) (many code rs) out₀ to (to + 4) (omega arith)
      ∙ sym (sets-append (be32 count) (many code rs) out₀ to) ∙ ap (λ (k : ℕ). sets out₀ to (be32 k ++ many code rs)) n
