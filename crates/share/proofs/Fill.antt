-- A loop that fills a slice from the front, element by element.
use mathlib.Core.Path.{◌≡◌, sym, ap, ◌∙◌}
use mathlib.Core.List.{List, [], ◌∷◌, ◌++◌, map, append_assoc, append-nil}
use Prim.Native.Nat.{ℕ, ◌+◌, ◌≤◌, ◌<◌}
use native.Mathlib.Numerals.{add-one}
use lib.ListN.{length, take, drop, get_or, set, drop_of_length-le}
use lib.Seq.{drop-cons, take-suc-set, take_all}

module _ {A : Type 0} where
  -- one turn stores the first of what is still to be stored
  pub fill-again : {P : List A} (out rest rest' : List A) (i : ℕ) (v : A) → i < length out → P ≡ take i out ++ rest → rest ≡ v ∷ rest'
      → P ≡ take (i + 1) (set out i v) ++ rest'
  fill-again out rest rest' i v h inv e = inv ∙ ap (λ (l : List A). take i out ++ l) e ∙ rw (add-one, take-suc-set, append_assoc)

  pub fill_end : {P : List A} (out rest : List A) (i : ℕ) → length out ≤ i → P ≡ take i out ++ rest → rest ≡ [] → out ≡ P
  fill_end out rest i h inv e = sym (inv ∙ rw (e, append-nil, take_all i out h))

pub map-step : {B : Type 0} (f : ℕ → B) (l : List ℕ) (i : ℕ) → i < length l → map f (drop i l) ≡ f (get_or l i 0) ∷ map f (drop (i + 1) l)
map-step f l i h = rw (add-one, drop-cons l i 0)

pub map-past : {B : Type 0} (f : ℕ → B) (l : List ℕ) (i : ℕ) → length l ≤ i → map f (drop i l) ≡ []
map-past f l i h = rw (drop_of_length-le l h)
