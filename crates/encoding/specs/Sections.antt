-- A list written as sections (document 01, "The sheet"): as its maximal runs (section 2), as its distinct elements and each
-- place's number (sections 3 and 4), or as its distinct elements and the runs of their numbers (sections 5 and 6, 7 and 8).
use Rattle.std.specs.Prelude.{ℕ, ◌-◌, List, [], ◌∷◌, ◌++◌, drop}
use Rattle.std.proofs.Math.Decide.{ℕ_discrete}
use Rattle.fields.specs.Field.{be16}
use Rattle.encoding.specs.Runs.{Run, runs}
use Rattle.encoding.specs.Distinct.{distinct, numbers}
use Rattle.encoding.specs.Codes.{counted}

-- one byte
abbrev pub byte : ℕ → List ℕ
byte x = x ∷ []

-- a run: first, last and value, 16 bits each; and the same with the value less one
abbrev pub run_code : Run ℕ → List ℕ
run_code r = be16 r.first ++ be16 r.last ++ be16 r.value

abbrev pub run_less_code : Run ℕ → List ℕ
run_less_code r = be16 r.first ++ be16 r.last ++ be16 (r.value - 1)

-- the section of the maximal runs of a value other than skip; and of a number other than 0, the numbers written less one
abbrev pub run_section : ℕ → List ℕ → List ℕ
run_section skip xs = counted run_code (runs ℕ_discrete skip 0 xs)

abbrev pub number_run_section : List ℕ → List ℕ
number_run_section ns = counted run_less_code (runs ℕ_discrete 0 0 ns)

module _ {A : Type 0} (eq : Discrete A) where
  -- the section of the distinct elements in order of first use, and the section of each place's number among them
  abbrev pub distinct_section : (A → List ℕ) → List A → List ℕ
  distinct_section code xs = counted code (distinct eq [] xs)

  abbrev pub number_section : List A → List ℕ
  number_section xs = counted byte (numbers eq (distinct eq [] xs) xs)

  -- the same with one element, none, left out: the distinct elements other than none, and the maximal runs of one of them with
  -- its number. Counted with none, which is then number 0, the others have the numbers from 1 on; they are written less one
  abbrev pub others_section : (A → List ℕ) → A → List A → List ℕ
  others_section code none xs = counted code (drop 1 (distinct eq (none ∷ []) xs))

  abbrev pub others_run_section : A → List A → List ℕ
  others_run_section none xs = number_run_section (numbers eq (distinct eq (none ∷ []) xs) xs)

  -- the two sections together
  abbrev pub numbered : (A → List ℕ) → List A → List ℕ
  numbered code xs = distinct_section code xs ++ number_section xs

  abbrev pub pool : (A → List ℕ) → A → List A → List ℕ
  pool code none xs = others_section code none xs ++ others_run_section none xs
