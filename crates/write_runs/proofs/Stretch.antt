-- A stretch of a function's values that are the same; a stretch that is added, and one that grows.
use Prim.Native.Nat.{ℕ, zero, suc, ◌+◌, ◌-◌, ◌≤◌, ◌<◌}
use mathlib.Core.Path.{◌≡◌, sym, ap, ap₂, ◌∙◌, subst}
use mathlib.Core.List.{List, [], ◌∷◌, ◌++◌}
use native.Mathlib.Omega.{arith}
use native.Mathlib.Numerals.{add-one}
use lib.ListN.{length, get_or, take, set, replicate}
use lib.Seq.{take-suc, take-suc-set, length-take-le, get_or-set_same}
use Rattle.encoding.specs.Upto.{from}
use Rattle.write_runs.specs.Spread.{spread, Rise, Extended}
use Rattle.write_runs.proofs.Spread.{rise-more, spread-more, spread-grows}

-- k values that are the same
from-same : {A : Type 0} (f : ℕ → A) (k m g : ℕ) (v : A) → ((x : ℕ) → g ≤ x → x < g + k → f x ≡ v) → from f (k + m) g ≡ replicate k v ++ from f m (g + k)
unfolding from
from-same f zero m g v h =
    let a : 0 + m ≡ m = omega arith in
    let b : g ≡ g + 0 = omega arith in
    ap₂ (λ (x y : ℕ). from f x y) a b
from-same f (suc k) m g v h =
    let a : suc k + m ≡ suc (k + m) = omega arith in
    let b : suc g + k ≡ g + suc k = omega arith in
    ap (λ (x : ℕ). from f x g) a
    ∙ ap₂ (λ (x : _) (l : List _). x ∷ l) (h g (omega arith) (omega arith)) (from-same f k m (suc g) v (λ x p q. h x (omega arith) (omega arith)))
    ∙ ap (λ (y : ℕ). v ∷ (replicate k v ++ from f m y)) b

-- the values at g to e - 1, of those at g to n - 1
pub from-stretch : {A : Type 0} (f : ℕ → A) (n g e : ℕ) (v : A) → g ≤ e → e ≤ n → ((x : ℕ) → g ≤ x → x < e → f x ≡ v)
    → from f (n - g) g ≡ replicate (e - g) v ++ from f (n - e) e
from-stretch f n g e v h l same =
    let k : n - g ≡ (e - g) + (n - e) = omega arith in
    let q : g + (e - g) ≡ e = omega arith in
    ap (λ (m : ℕ). from f m g) k ∙ from-same f (e - g) (n - e) g v (λ x a b. same x a (omega arith)) ∙ ap (λ (y : ℕ). replicate (e - g) v ++ from f (n - e) y) q

-- a number up to an end, in a stretch of its own or in the last one
module _ (ends nums : List ℕ) (m g e number : ℕ) (he : m < length ends) (hn : length ends ≤ length nums) (rise : Rise 0 (take m ends) g) (h : g < e) where
  pub extended-new : ((0 < m) × (get_or nums (m - 1) 0 ≡ number) → ⊥) → Extended ends nums (set ends m e) (set nums m number) m g e number (m + 1)
  extended-new other =
      let a : take (m + 1) (set ends m e) ≡ take m ends ++ (e ∷ []) = rw add-one (take-suc-set ends m e he) in
      let b : take (m + 1) (set nums m number) ≡ take m nums ++ (number ∷ []) = rw add-one (take-suc-set nums m number (omega arith)) in
      let l : length (take m nums) ≡ length (take m ends) = omega (arith, length-take-le m nums (omega arith), length-take-le m ends (omega arith)) in
      let i : m + 1 - 1 ≡ m = omega arith in
      record {
        rise = subst (λ (x : List ℕ). Rise 0 x e) (sym a) (rise-more (take m ends) 0 g e rise h);
        all = ap₂ (λ (x y : List ℕ). spread 0 x y) a b ∙ spread-more (take m ends) (take m nums) 0 g e number l rise;
        last = ap (λ (j : ℕ). get_or (set nums m number) j 0) i ∙ get_or-set_same nums m number 0 (omega arith);
        least = omega arith;
        most = omega arith;
        same = λ q. absurd (omega arith);
      }

  pub extended-same : 0 < m → get_or nums (m - 1) 0 ≡ number → Extended ends nums (set ends (m - 1) e) nums m g e number m
  extended-same p same =
      let j = m - 1 in
      let s : suc j ≡ m = omega arith in
      let a : take m (set ends j e) ≡ take j ends ++ (e ∷ []) =
      ap (λ (x : ℕ). take x (set ends j e)) (sym s) ∙ take-suc-set ends j e (omega arith) in
      let o : take m ends ≡ take j ends ++ (get_or ends j 0 ∷ []) = ap (λ (x : ℕ). take x ends) (sym s) ∙ take-suc ends j 0 (omega arith) in
      let b : take m nums ≡ take j nums ++ (number ∷ []) =
      ap (λ (x : ℕ). take x nums) (sym s) ∙ take-suc nums j 0 (omega arith) ∙ ap (λ (x : ℕ). take j nums ++ (x ∷ [])) same in
      let l : length (take j nums) ≡ length (take j ends) = omega (arith, length-take-le j nums (omega arith), length-take-le j ends (omega arith)) in
      let w = spread-grows (take j ends) (take j nums) 0 (get_or ends j 0) g e number l (subst (λ (x : List ℕ). Rise 0 x g) o rise) h in
      record {
        rise = subst (λ (x : List ℕ). Rise 0 x e) (sym a) w.0;
        all =
            ap₂ (λ (x y : List ℕ). spread 0 x y) a b ∙ w.1
            ∙ ap₂ (λ (x y : List ℕ). spread 0 x y ++ replicate (e - g) number) (sym o) (sym b);
        last = same;
        least = omega arith;
        most = omega arith;
        same = λ q. (p, same);
      }
