-- A list written as `numbered` is read as two sections: its distinct elements, and a number for each place in order of first use.
use Prim.Native.Nat.{ℕ, suc, ◌≤◌}
use mathlib.Core.Path.{◌≡◌, sym, ap, ap₂, ◌∙◌, subst}
use mathlib.Core.Logic.{ite}
use mathlib.Core.List.{List, [], ◌∷◌, ◌++◌}
use native.Mathlib.Decide.{ℕ_discrete}
use lib.ListN.{length, drop}
use Rattle.encoding.specs.Distinct.{distinct, numbers, elements, InOrder, Once}
use Rattle.encoding.specs.Codes.{All, counted, Found, Absent}
use Rattle.encoding.specs.Sections.{byte, numbered}
use Rattle.encoding.proofs.ListLaws.{all-at}
use Rattle.encoding.proofs.DistinctLaws.{in-order-lt, canonical→, elements-length, distinct-elements, numbers-elements}
use Rattle.encoding.proofs.SectionLaws.{all-distinct, numbers-length}

module _ {A : Type 0} (eq : Discrete A) (code : A → List ℕ) (P : A → Type 0) (z : A) (total limit : ℕ) where
  -- the distinct elements and the numbers of a list of so many elements, each of which is P, and at most limit distinct ones
  abbrev pub OkDistinct : List A → Type 0
  OkDistinct ds = Once eq ds × All P ds × (length ds ≤ limit)

  abbrev pub OkNumbers : List A → List ℕ → Type 0
  OkNumbers ds is = (length is ≡ total) × InOrder (length ds) 0 is

  abbrev pub OkNumbered : List A → Type 0
  OkNumbered xs = (length xs ≡ total) × All P xs × (length (distinct eq [] xs) ≤ limit)

  all-elements : (ds : List A) → All P ds → (is : List ℕ) (k : ℕ) → InOrder (length ds) k is → All P (elements z ds is)
  all-elements ds a [] k o = tt
  all-elements ds a (i ∷ is) k o =
      (all-at P ds z i a (in-order-lt eq i is (length ds) k o), all-elements ds a is (ite (ℕ_discrete i k) (suc k) k) o.1)

  abbrev pub Two : List A × List ℕ → List ℕ
  Two p = counted code p.0 ++ counted byte p.1

  abbrev pub OkTwo : List A × List ℕ → Type 0
  OkTwo p = OkDistinct p.0 × OkNumbers p.0 p.1

  pub numbered-found : (s : List ℕ) (at q : ℕ) → Found Two OkTwo s at q → Found (numbered eq code) OkNumbered s at q
  numbered-found s at q f =
      let ds = f.0.0 in
      let is = f.0.1 in
      let xs = elements z ds is in
      let d : distinct eq [] xs ≡ ds = distinct-elements eq z ds is 0 f.1.0.0 f.1.1.1 in
      let m : numbers eq (distinct eq [] xs) xs ≡ is = ap (λ (l : List A). numbers eq l xs) d ∙ numbers-elements eq z ds is 0 f.1.0.0 f.1.1.1 in (
        xs,
        (elements-length z ds is ∙ f.1.1.0, all-elements ds f.1.0.1 is 0 f.1.1.1, subst (λ (l : List A). length l ≤ limit) (sym d) f.1.0.2),
        f.2,
        f.3 ∙ ap₂ (λ (l : List A) (n : List ℕ). (counted code l ++ counted byte n) ++ drop q s) (sym d) (sym m),
      )

  pub numbered-absent : (s : List ℕ) (at : ℕ) → Absent Two OkTwo s at → Absent (numbered eq code) OkNumbered s at
  numbered-absent s at h xs rest ok e =
      let ds = distinct eq [] xs in
      let c = canonical→ eq xs in
      h (ds, numbers eq ds xs) rest ((c.0, all-distinct eq P xs [] tt ok.1, ok.2), (numbers-length eq ds xs ∙ ok.0, c.1)) e
