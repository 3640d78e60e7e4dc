-- `runs` and `unrun` undo each other; the runs of a list are exactly those that are `OkRuns`; what holds of elements holds of runs.
use Prim.Native.Nat.{ℕ, zero, suc, ◌+◌, ◌-◌, ◌≤◌}
use mathlib.Core.Path.{◌≡◌, refl, sym, ap, ap₂, ◌∙◌, subst}
use mathlib.Core.Logic.{ite, if_pos, if_neg}
use mathlib.Core.List.{List, [], ◌∷◌, ◌++◌, append-nil}
use native.Mathlib.Decide.{ℕ_discrete}
use native.Mathlib.Omega.{arith}
use native.Mathlib.Nat.{add-zero}
use lib.ListN.{length, replicate, length-append, length-replicate}
use Rattle.encoding.specs.Runs.{Run, push, runs, unrun, OkRuns}
use Rattle.encoding.specs.Codes.{All}
use Rattle.encoding.proofs.ListLaws.{all_append, all_replicate}

module _ {A : Type 0} where
  -- the first run does not touch index j with value v
  abbrev pub ApartAt : ℕ → A → List (Run A) → Type 0
  ApartAt j v [] = Unit {0}
  ApartAt j v (r ∷ rs) = r.first ≡ j → r.value ≡ v → ⊥

  replicate-cons : (k m : ℕ) (v : A) → k ≡ suc m → replicate k v ≡ v ∷ replicate m v
  replicate-cons k m v e = ap (λ (n : ℕ). replicate n v) e

  pub apart : (skip : A) (n i : ℕ) (w : A) (rs : List (Run A)) → OkRuns skip n i w rs → ApartAt i w rs
  apart skip n i w [] h = tt
  apart skip n i w (r ∷ rs) h = h.4

  pub ok-later : (skip : A) (n i j : ℕ) (w v : A) (rs : List (Run A)) → j ≤ i → (j ≡ i → ApartAt i v rs)
      → OkRuns skip n i w rs → OkRuns skip n j v rs
  ok-later skip n i j w v [] h a o = omega arith
  ok-later skip n i j w v (r ∷ rs) h a o =
      (omega (arith, o.0), o.1, o.2, o.3, (λ e f. a (omega (arith, o.0)) (omega (arith, o.0)) f), o.5)

  pub ok-le : (skip : A) (n i : ℕ) (w : A) (rs : List (Run A)) → OkRuns skip n i w rs → i ≤ n
  ok-le skip n i w [] h = h
  ok-le skip n i w (r ∷ rs) h = omega (arith, h.0, h.1, h.2)

  pub unrun-skip : (skip : A) (n i : ℕ) (w : A) (rs : List (Run A)) → OkRuns skip n (suc i) w rs
      → unrun skip i n rs ≡ skip ∷ unrun skip (suc i) n rs
  unrun-skip skip n i w [] h = replicate-cons (n - i) (n - suc i) skip (omega arith)
  unrun-skip skip n i w (r ∷ rs) h =
      ap (λ (l : List A). l ++ (replicate (suc r.last - r.first) r.value ++ unrun skip (suc r.last) n rs))
      (replicate-cons (r.first - i) (r.first - suc i) skip (omega (arith, h.0)))

  pub unrun-length : (skip : A) (n i : ℕ) (w : A) (rs : List (Run A)) → OkRuns skip n i w rs → length (unrun skip i n rs) ≡ n - i
  unrun-length skip n i w [] h = length-replicate (n - i) skip
  unrun-length skip n i w (r ∷ rs) h =
      let ih : length (unrun skip (suc r.last) n rs) ≡ n - suc r.last = unrun-length skip n (suc r.last) r.value rs h.5 in
      simp (length-append, length-replicate) (omega (arith, h.0, h.1, h.2))

-- the run of x at i alone
abbrev pub one : {A : Type 0} → ℕ → A → Run A
one i x = record { first = i; last = i; value = x }

-- `push` by what the two tests say
module _ {A : Type 0} (eq : Discrete A) where
  pub push-joins : (i : ℕ) (x : A) (r : Run A) (rs : List (Run A)) → r.first ≡ suc i → r.value ≡ x
      → push eq i x (r ∷ rs) ≡ record { first = i; last = r.last; value = x } ∷ rs
  push-joins i x r rs hf hv = if_pos (ℕ_discrete r.first (suc i)) hf _ _ ∙ if_pos (eq r.value x) hv _ _

  pub push-apart : (i : ℕ) (x : A) (rs : List (Run A)) → ApartAt (suc i) x rs → push eq i x rs ≡ one i x ∷ rs
  push-apart i x [] h = refl
  push-apart i x (r ∷ rs) h = go (ℕ_discrete r.first (suc i)) (eq r.value x)
    where
      go : (d : Dec (r.first ≡ suc i)) (e : Dec (r.value ≡ x))
          → ite d (ite e (record { first = i; last = r.last; value = x } ∷ rs) (one i x ∷ r ∷ rs)) (one i x ∷ r ∷ rs) ≡ one i x ∷ r ∷ rs
      go (yes p) (yes q) = absurd (h p q)
      go (yes p) (no q) = refl
      go (no p) e = refl

  -- either the first run touches i + 1 with value x, or it does not
  data Meets (i : ℕ) (x : A) : List (Run A) → Type 0 where
    joins : (r : Run A) (rs : List (Run A)) → r.first ≡ suc i → r.value ≡ x → Meets i x (r ∷ rs)
    stays : (rs : List (Run A)) → ApartAt (suc i) x rs → Meets i x rs

  meets : (i : ℕ) (x : A) (rs : List (Run A)) → Meets i x rs
  meets i x [] = stays [] tt
  meets i x (r ∷ rs) = go (ℕ_discrete r.first (suc i)) (eq r.value x)
    where
      go : Dec (r.first ≡ suc i) → Dec (r.value ≡ x) → Meets i x (r ∷ rs)
      go (yes p) (yes q) = joins r rs p q
      go (yes p) (no q) = stays (r ∷ rs) (λ a b. q b)
      go (no p) e = stays (r ∷ rs) (λ a b. p a)

module _ {A : Type 0} (eq : Discrete A) (skip : A) where
  one-unrun : (n i : ℕ) (x : A) (rs : List (Run A)) → unrun skip i n (one i x ∷ rs) ≡ x ∷ unrun skip (suc i) n rs
  one-unrun n i x rs =
      let e : i - i ≡ 0 = omega arith in
      let f : suc i - i ≡ 1 = omega arith in
      ap₂ (λ (j k : ℕ). replicate j skip ++ (replicate k x ++ unrun skip (suc i) n rs)) e f

  join-unrun : (n i : ℕ) (x : A) (r : Run A) (rs : List (Run A)) → r.first ≡ suc i → r.first ≤ r.last → r.value ≡ x
      → unrun skip i n (record { first = i; last = r.last; value = x } ∷ rs) ≡ x ∷ unrun skip (suc i) n (r ∷ rs)
  join-unrun n i x r rs hf hl hv =
      let a : i - i ≡ 0 = omega arith in
      let b : suc r.last - i ≡ suc (suc r.last - r.first) = omega arith in
      let d : r.first - suc i ≡ 0 = omega arith in
      ap₂ (λ (j k : ℕ). replicate j skip ++ (replicate k x ++ unrun skip (suc r.last) n rs)) a b
      ∙ ap₂ (λ (j : ℕ) (y : A). x ∷ (replicate j skip ++ (replicate (suc r.last - r.first) y ++ unrun skip (suc r.last) n rs))) (sym d) (sym hv)

  push-unrun : (n i : ℕ) (x w : A) (rs : List (Run A)) → OkRuns skip n (suc i) w rs
      → unrun skip i n (push eq i x rs) ≡ x ∷ unrun skip (suc i) n rs
  push-unrun n i x w rs h = go rs (meets eq i x rs) h
    where
      go : (rs : List (Run A)) → Meets eq i x rs → OkRuns skip n (suc i) w rs
          → unrun skip i n (push eq i x rs) ≡ x ∷ unrun skip (suc i) n rs
      go rs' (joins r rs hf hv) o = rw (push-joins eq i x r rs hf hv) (join-unrun n i x r rs hf o.1 hv)
      go rs' (stays rs a) o = rw (push-apart eq i x rs a) (one-unrun n i x rs)

  push_ok : (n i : ℕ) (x w : A) (rs : List (Run A)) → (x ≡ skip → ⊥) → (x ≡ w → ⊥) → OkRuns skip n (suc i) skip rs
      → OkRuns skip n i w (push eq i x rs)
  push_ok n i x w rs hs hw h = go rs (meets eq i x rs) h
    where
      go : (rs : List (Run A)) → Meets eq i x rs → OkRuns skip n (suc i) skip rs → OkRuns skip n i w (push eq i x rs)
      go rs' (joins r rs hf hv) o =
          rw (push-joins eq i x r rs hf hv)
          (omega arith, omega (arith, o.1), o.2, hs, (λ e f. hw f), subst (λ (v : A). OkRuns skip n (suc r.last) v rs) hv o.5)
      go rs' (stays rs a) o =
          rw (push-apart eq i x rs a)
          (omega arith, omega arith, ok-le skip n (suc i) skip rs o, hs, (λ e f. hw f), ok-later skip n (suc i) (suc i) skip x rs (omega arith) (λ e. a) o)

  -- what `runs` gives is always well formed
  pub runs-ok : (xs : List A) (n i : ℕ) → n ≡ i + length xs → OkRuns skip n i skip (runs eq skip i xs)
  runs-ok [] n i e = omega (arith, add-zero i)
  runs-ok (x ∷ xs) n i e = go (eq x skip) (runs-ok xs n (suc i) (omega arith))
    where
      go : (d : Dec (x ≡ skip)) → OkRuns skip n (suc i) skip (runs eq skip (suc i) xs)
          → OkRuns skip n i skip (ite d (runs eq skip (suc i) xs) (push eq i x (runs eq skip (suc i) xs)))
      go (yes p) o = ok-later skip n (suc i) i skip skip (runs eq skip (suc i) xs) (omega arith) (λ h. absurd (omega arith)) o
      go (no p) o = push_ok n i x skip (runs eq skip (suc i) xs) p p o

  -- reading back what was written gives the list
  pub unrun-runs : (xs : List A) (n i : ℕ) → n ≡ i + length xs → unrun skip i n (runs eq skip i xs) ≡ xs
  unrun-runs [] n i e = let z : n - i ≡ 0 = omega arith in ap (λ (k : ℕ). replicate k skip) z
  unrun-runs (x ∷ xs) n i e = go (eq x skip) (unrun-runs xs n (suc i) (omega arith)) (runs-ok xs n (suc i) (omega arith))
    where
      go : (d : Dec (x ≡ skip)) → unrun skip (suc i) n (runs eq skip (suc i) xs) ≡ xs → OkRuns skip n (suc i) skip (runs eq skip (suc i) xs)
          → unrun skip i n (ite d (runs eq skip (suc i) xs) (push eq i x (runs eq skip (suc i) xs))) ≡ x ∷ xs
      go (yes p) ih o = unrun-skip skip n i skip (runs eq skip (suc i) xs) o ∙ (λ j. sym p j ∷ ih j)
      go (no p) ih o = push-unrun n i x skip (runs eq skip (suc i) xs) o ∙ ap (λ (l : List A). x ∷ l) ih

  -- runs of a stretch of skip, and of a stretch of another value
  pub runs-skips : (k i : ℕ) (ys : List A) → runs eq skip i (replicate k skip ++ ys) ≡ runs eq skip (i + k) ys
  runs-skips zero i ys = ap (λ (j : ℕ). runs eq skip j ys) (omega arith)
  runs-skips (suc k) i ys =
      if_pos (eq skip skip) refl _ _ ∙ runs-skips k (suc i) ys ∙ ap (λ (j : ℕ). runs eq skip j ys) (omega arith)

  pub runs_block : (k i l : ℕ) (v : A) (ys : List A) → l ≡ i + k → (v ≡ skip → ⊥) → ApartAt (suc l) v (runs eq skip (suc l) ys)
      → runs eq skip i (replicate (suc k) v ++ ys) ≡ record { first = i; last = l; value = v } ∷ runs eq skip (suc l) ys
  runs_block zero i l v ys e hs a =
      let f : l ≡ i = omega arith in
      let a' : ApartAt (suc i) v (runs eq skip (suc i) ys) = subst (λ (m : ℕ). ApartAt (suc m) v (runs eq skip (suc m) ys)) f a in
      if_neg (eq v skip) hs _ _ ∙ push-apart eq i v (runs eq skip (suc i) ys) a'
      ∙ ap (λ (m : ℕ). record { first = i; last = m; value = v } ∷ runs eq skip (suc m) ys) (sym f)
  runs_block (suc k) i l v ys e hs a =
      if_neg (eq v skip) hs _ _ ∙ ap (push eq i v) (runs_block k (suc i) l v ys (omega arith) hs a)
      ∙ push-joins eq i v (record { first = suc i; last = l; value = v }) (runs eq skip (suc l) ys) refl refl

  -- writing what was read gives the runs, if they are well formed
  pub runs-unrun : (rs : List (Run A)) (n i : ℕ) (w : A) → OkRuns skip n i w rs → runs eq skip i (unrun skip i n rs) ≡ rs
  runs-unrun [] n i w o =
      ap (runs eq skip i) (sym (append-nil (replicate (n - i) skip))) ∙ runs-skips (n - i) i []
  runs-unrun (r ∷ rs) n i w o =
      let t : List A = unrun skip (suc r.last) n rs in
      let k : ℕ = r.last - r.first in
      let ih : runs eq skip (suc r.last) t ≡ rs = runs-unrun rs n (suc r.last) r.value o.5 in
      let e : suc r.last - r.first ≡ suc k = omega (arith, o.1) in
      let f : i + (r.first - i) ≡ r.first = omega (arith, o.0) in
      let a : ApartAt (suc r.last) r.value (runs eq skip (suc r.last) t) =
      subst (ApartAt (suc r.last) r.value) (sym ih) (apart skip n (suc r.last) r.value rs o.5) in
      runs-skips (r.first - i) i (replicate (suc r.last - r.first) r.value ++ t)
      ∙ ap₂ (λ (j m : ℕ). runs eq skip j (replicate m r.value ++ t)) f e
      ∙ runs_block k r.first r.last r.value t (omega (arith, o.1)) o.3 a
      ∙ ap (λ (l : List (Run A)). r ∷ l) ih

  -- the canonical characterisation: a list of runs is that of some list of n elements exactly when it is well formed
  abbrev pub IsRuns : ℕ → List (Run A) → Type 0
  IsRuns n rs = (xs : List A) × (length xs ≡ n) × (runs eq skip 0 xs ≡ rs)

  pub is-runs→ok : (n : ℕ) (rs : List (Run A)) → IsRuns n rs → OkRuns skip n 0 skip rs
  is-runs→ok n rs h = subst (OkRuns skip n 0 skip) h.2 (runs-ok h.0 n 0 (omega (arith, h.1)))

  pub ok→is-runs : (n : ℕ) (rs : List (Run A)) → OkRuns skip n 0 skip rs → IsRuns n rs
  ok→is-runs n rs o =
      (unrun skip 0 n rs, unrun-length skip n 0 skip rs o ∙ omega arith, runs-unrun rs n 0 skip o)

  pub runs-injective : (xs ys : List A) → length xs ≡ length ys → runs eq skip 0 xs ≡ runs eq skip 0 ys → xs ≡ ys
  runs-injective xs ys e h =
      sym (unrun-runs xs (length xs) 0 (omega arith)) ∙ ap₂ (λ (n : ℕ) (rs : List (Run A)). unrun skip 0 n rs) e h
      ∙ unrun-runs ys (length ys) 0 (omega arith)

  -- what holds of every element holds of every run's value, and the other way where it holds of skip
  pub all_runs : (P : A → Type 0) (xs : List A) (i : ℕ) → All P xs → All (λ (r : Run A). P r.value) (runs eq skip i xs)
  all_runs P [] i h = tt
  all_runs P (x ∷ xs) i h = go (eq x skip) (all_runs P xs (suc i) h.1)
    where
      put : (rs : List (Run A)) → Meets eq i x rs → All (λ (r : Run A). P r.value) rs → All (λ (r : Run A). P r.value) (push eq i x rs)
      put rs' (joins r rs hf hv) o = rw (push-joins eq i x r rs hf hv) (h.0, o.1)
      put rs' (stays rs a) o = rw (push-apart eq i x rs a) (h.0, o)

      go : (d : Dec (x ≡ skip)) → All (λ (r : Run A). P r.value) (runs eq skip (suc i) xs)
          → All (λ (r : Run A). P r.value) (ite d (runs eq skip (suc i) xs) (push eq i x (runs eq skip (suc i) xs)))
      go (yes p) o = o
      go (no p) o = put (runs eq skip (suc i) xs) (meets eq i x (runs eq skip (suc i) xs)) o

  pub all-unrun : (P : A → Type 0) (rs : List (Run A)) (n i : ℕ) → P skip → All (λ (r : Run A). P r.value) rs → All P (unrun skip i n rs)
  all-unrun P [] n i z h = all_replicate P (n - i) skip z
  all-unrun P (r ∷ rs) n i z h =
      all_append P (replicate (r.first - i) skip) _ (all_replicate P (r.first - i) skip z)
      (all_append P (replicate (suc r.last - r.first) r.value) _ (all_replicate P (suc r.last - r.first) r.value h.0)
      (all-unrun P rs n (suc r.last) z h.1))

  -- there are at most as many runs as elements
  pub ok-few : (rs : List (Run A)) (n i : ℕ) (w : A) → OkRuns skip n i w rs → i + length rs ≤ n
  ok-few [] n i w o = omega arith
  ok-few (r ∷ rs) n i w o = omega (arith, o.0, o.1, o.2, ok-few rs n (suc r.last) r.value o.5)
