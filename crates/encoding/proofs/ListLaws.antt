-- Laws of lists by their elements: what holds of each element, and lists that have the same elements.
use Prim.Native.Nat.{ℕ, zero, suc, ◌≤◌, ◌<◌}
use mathlib.Core.Path.{◌≡◌, refl, sym, ap₂, ◌∙◌}
use mathlib.Core.Option.{none, some-injective, none-ne-some, some-ne-none}
use mathlib.Core.List.{List, [], ◌∷◌, ◌++◌}
use native.Mathlib.Decide.{dec_lt}
use native.Mathlib.Omega.{arith}
use lib.ListN.{length, get_or, drop, replicate, get_elem?}
use Rattle.encoding.specs.Codes.{All}

module _ {A : Type 0} (P : A → Type 0) where
  pub all_append : (xs ys : List A) → All P xs → All P ys → All P (xs ++ ys)
  all_append [] ys h k = k
  all_append (x ∷ xs) ys h k = (h.0, all_append xs ys h.1 k)

  pub all_replicate : (n : ℕ) (x : A) → P x → All P (replicate n x)
  all_replicate zero x h = tt
  all_replicate (suc n) x h = (h, all_replicate n x h)

  pub all_rest : (xs : List A) → All P xs → All P (drop 1 xs)
  all_rest [] h = tt
  all_rest (x ∷ xs) h = h.1

  pub all-at : (xs : List A) (z : A) (k : ℕ) → All P xs → k < length xs → P (get_or xs k z)
  all-at [] z k a h = absurd (omega arith)
  all-at (x ∷ xs) z zero a h = a.0
  all-at (x ∷ xs) z (suc k) a h = all-at xs z k a.1 (omega arith)

  pub all_get_d : (xs : List A) (z : A) (k : ℕ) → P z → All P xs → P (get_or xs k z)
  all_get_d [] z k h a = h
  all_get_d (x ∷ xs) z zero h a = a.0
  all_get_d (x ∷ xs) z (suc k) h a = all_get_d xs z k h a.1

pub all_map : {A : Type 0} (P Q : A → Type 0) → ((a : A) → P a → Q a) → (xs : List A) → All P xs → All Q xs
all_map P Q f [] h = tt
all_map P Q f (x ∷ xs) h = (f x h.0, all_map P Q f xs h.1)

pub all-unit : {A : Type 0} (xs : List A) → All (λ (x : A). Unit {0}) xs
all-unit [] = tt
all-unit (x ∷ xs) = (tt, all-unit xs)

-- nothing stands past the end
pub elem-none : {A : Type 0} (xs : List A) (k : ℕ) → length xs ≤ k → get_elem? xs k ≡ none
elem-none [] k h = refl
elem-none (x ∷ xs) zero h = absurd (omega arith)
elem-none (x ∷ xs) (suc k) h = elem-none xs k (omega arith)

-- lists with the same elements at every place are equal
pub elem-ext : {A : Type 0} (xs ys : List A) → ((k : ℕ) → get_elem? xs k ≡ get_elem? ys k) → xs ≡ ys
elem-ext [] [] h = refl
elem-ext [] (y ∷ ys) h = absurd (none-ne-some y (h 0))
elem-ext (x ∷ xs) [] h = absurd (some-ne-none x (h 0))
elem-ext (x ∷ xs) (y ∷ ys) h =
    ap₂ (λ (a : _) (l : List _). a ∷ l) (some-injective x y (h 0)) (elem-ext xs ys (λ k. h (suc k)))

-- and so are lists of at most b elements with the same elements below b
pub elem-ext-below : {A : Type 0} (b : ℕ) (xs ys : List A) → length xs ≤ b → length ys ≤ b
    → ((k : ℕ) → k < b → get_elem? xs k ≡ get_elem? ys k) → xs ≡ ys
elem-ext-below b xs ys hx hy h = elem-ext xs ys (λ k. go k (dec_lt k b))
  where
    go : (k : ℕ) → Dec (k < b) → get_elem? xs k ≡ get_elem? ys k
    go k (yes l) = h k l
    go k (no l) = elem-none xs k (omega (arith, l)) ∙ sym (elem-none ys k (omega (arith, l)))
