-- The bytes of the two sections, and what holds of the distinct items.
use Rattle.lookup_targets.specs.Values.{from_lookup}
use Rattle.std.specs.Prelude.{Option}
use Prim.Native.Nat.{ℕ, zero, suc, ◌+◌, ◌≤◌, ◌<◌, ◌^◌}
use mathlib.Core.Path.{◌≡◌, refl, sym, ap, ap₂, ◌∙◌, subst}
use mathlib.Core.Logic.{ite, if_neg}
use mathlib.Core.List.{List, [], ◌∷◌, ◌++◌, map, append-nil}
use Rattle.std.specs.Prelude.{Some, None}
use native.Mathlib.Decide.{ℕ_discrete}
use native.Mathlib.Omega.{arith}
use lib.ListN.{length, get_or, drop, take, replicate, length-append, drop_of_length-le}
use lib.Seq.{sets, length-take-le}
use Rattle.fields.specs.Field.{be32}
use Rattle.encoding.specs.Codes.{All, many, counted}
use Rattle.encoding.specs.Distinct.{index, distinct, numbers}
use Rattle.encoding.specs.Runs.{Run, runs}
use Rattle.encoding.specs.Sections.{run_less_code, number_run_section}
use Rattle.encoding.proofs.ListLaws.{all_append}
use Rattle.encoding.proofs.RunsLaws.{runs-skips}
use Rattle.encoding.proofs.DistinctLaws.{index-self}
use Rattle.lookup_targets.specs.declared.Kind.{Kind}
use Rattle.lookup_targets.specs.declared.Kind.TheVariants.{Clusters, Lists}
use Rattle.write_item.specs.Items.{Item, no_item, item_at, item-discrete, item_code}
use Rattle.write_numbers.specs.Numbered.{placed, distinct_of}
use Rattle.write_numbers.proofs.Laws.{map-length, map-drop}
use Rattle.write_glyphs.specs.declared.Pass.{Pass}
use Rattle.lookup_targets.specs.declared.Source.{Source}
use Rattle.write_glyphs.specs.Places.{items_from, PassedOver}
use Rattle.write_runs.specs.Spread.{spread}
use Rattle.write_runs.proofs.Spread.{rise-few}
use Rattle.write_pool.specs.Pool.{pool_bytes, sections, Short, PlacedSections, Tried}

-- ---- items one after the other

all_there : {A : Type 0} (P : A → Type 0) (f : ℕ → A) (xs : List ℕ) (i : ℕ) → All P (map f xs) → i < length xs → P (f (get_or xs i 0))
all_there P f [] i a h = absurd (omega arith)
all_there P f (x ∷ xs) zero a h = a.0
all_there P f (x ∷ xs) (suc i) a h = all_there P f xs i a.1 (omega arith)

module _ (kind : Kind) (t firsts : List ℕ) where
  pub items-next : (i : ℕ) → i < length firsts
      → many (item_code kind) (placed kind t (drop i firsts)) ≡ item_code kind (item_at kind t (get_or firsts i 0)) ++ many (item_code kind) (placed kind t (drop (i + 1) firsts))
  items-next i h = ap (many (item_code kind)) (map-drop (item_at kind t) firsts i h)

  pub items-none : (i : ℕ) → length firsts ≤ i → many (item_code kind) (placed kind t (drop i firsts)) ≡ []
  items-none i h = ap (λ (l : List ℕ). many (item_code kind) (placed kind t l)) (drop_of_length-le firsts h)

  pub items-length : (i : ℕ) → i < length firsts
      → length (many (item_code kind) (placed kind t (drop i firsts)))
      ≡ length (item_code kind (item_at kind t (get_or firsts i 0))) + length (many (item_code kind) (placed kind t (drop (i + 1) firsts)))
  items-length i h =
      ap length (items-next i h) ∙ length-append (item_code kind (item_at kind t (get_or firsts i 0))) (many (item_code kind) (placed kind t (drop (i + 1) firsts)))

  pub items-end : (i : ℕ) → length firsts ≤ i → length (many (item_code kind) (placed kind t (drop i firsts))) ≡ 0
  items-end i h = ap length (items-none i h)

  pub item-short : (i : ℕ) → All (Short kind) (placed kind t firsts) → i < length firsts → length (item_code kind (item_at kind t (get_or firsts i 0))) ≤ 5380
  item-short i a h = all_there (Short kind) (item_at kind t) firsts i a h

  -- ---- the two sections

  pub sections-parts : (ends nums : List ℕ)
      → sections kind t firsts ends nums ≡ be32 (length firsts) ++ (many (item_code kind) (placed kind t firsts) ++ number_run_section (spread 0 ends nums))
  unfolding sections
  sections-parts ends nums =
      ap (λ (n : ℕ). be32 n ++ (many (item_code kind) (placed kind t firsts) ++ number_run_section (spread 0 ends nums))) (map-length (item_at kind t) firsts)

  pub sections-length : (ends nums : List ℕ)
      → length (sections kind t firsts ends nums) ≡ 4 + length (many (item_code kind) (placed kind t firsts)) + length (number_run_section (spread 0 ends nums))
  sections-length ends nums =
      omega (arith, ap length (sections-parts ends nums), length-append (many (item_code kind) (placed kind t firsts)) (number_run_section (spread 0 ends nums)))

-- ---- what was numbered is what is written

all-distinct : {A : Type 0} (eq : Discrete A) (P : A → Type 0) (xs seen : List A) → All P seen → All P xs → All P (distinct eq seen xs)
all-distinct eq P [] seen a b = a
all-distinct eq P (x ∷ xs) seen a b =
    go (ℕ_discrete (index eq x seen) (length seen)) (all-distinct eq P xs (seen ++ (x ∷ [])) (all_append P seen (x ∷ []) a (b.0, tt)) b.1)
    (all-distinct eq P xs seen a b.1)
  where
    go : (d : Dec (index eq x seen ≡ length seen)) → All P (distinct eq (seen ++ (x ∷ [])) xs) → All P (distinct eq seen xs)
        → All P (ite d (distinct eq (seen ++ (x ∷ [])) xs) (distinct eq seen xs))
    go (yes e) new old = new
    go (no e) new old = old

pub none-short : (kind : Kind) → Short kind (no_item kind)
unfolding item_code
none-short Clusters = omega arith
none-short Lists = omega arith

-- the stretches of glyphs and the numbers of what they have, once the pass has come to the last glyph
module _ (kind : Kind) (t : List ℕ) (n at base : ℕ) (ends nums firsts : List ℕ) (pass : Pass) (few : n < 2 ^ 16)
    (short : All (Short kind) (items_from kind t n (from_lookup at base))) (p : PassedOver kind t n at base ends nums firsts pass) (all : n ≤ pass.glyph) where
  pub pass-few : pass.stretches < 2 ^ 16
  pass-few = omega (arith, p.most, rise-few (take pass.stretches ends) 0 pass.glyph p.rise, length-take-le pass.stretches ends p.fits)

  found : distinct (item-discrete kind) (no_item kind ∷ []) (items_from kind t n (from_lookup at base)) ≡ no_item kind ∷ placed kind t (take pass.items firsts)
  unfolding distinct_of
  found = (p.numbered all).found

  numbered : numbers (item-discrete kind) (distinct (item-discrete kind) (no_item kind ∷ []) (items_from kind t n (from_lookup at base))) (items_from kind t n (from_lookup at base))
      ≡ spread 0 (take pass.stretches ends) (take pass.stretches nums)
  unfolding distinct_of
  numbered = sym (p.numbered all).numbered

  pub pass-sections : sections kind t (take pass.items firsts) (take pass.stretches ends) (take pass.stretches nums) ≡ pool_bytes kind t n (from_lookup at base)
  unfolding sections pool_bytes
  pass-sections =
      ap₂ (λ (ys : List (Item kind)) (ns : List ℕ). counted (item_code kind) ys ++ number_run_section ns) (ap (drop 1) (sym found)) (sym numbered)

  pub pass-short : All (Short kind) (placed kind t (take pass.items firsts))
  pass-short =
      (subst (All (Short kind)) found
      (all-distinct (item-discrete kind) (Short kind) (items_from kind t n (from_lookup at base)) (no_item kind ∷ []) (none-short kind, tt) short)).1

-- ---- without a lookup

module _ {A : Type 0} (eq : Discrete A) (z : A) where
  none-distinct : (n : ℕ) → distinct eq (z ∷ []) (replicate n z) ≡ z ∷ []
  none-distinct zero = refl
  none-distinct (suc n) =
      if_neg (ℕ_discrete (index eq z (z ∷ [])) 1) (λ e. omega (arith, e, index-self eq z [])) (distinct eq ((z ∷ []) ++ (z ∷ [])) (replicate n z)) (distinct eq (z ∷ []) (replicate n z))
      ∙ none-distinct n

  none-numbers : (n : ℕ) → numbers eq (z ∷ []) (replicate n z) ≡ replicate n 0
  none-numbers zero = refl
  none-numbers (suc n) = ap₂ (λ (x : ℕ) (l : List ℕ). x ∷ l) (index-self eq z []) (none-numbers n)

none_runs : (n : ℕ) → runs ℕ_discrete 0 0 (replicate n 0) ≡ []
none_runs n = ap (runs ℕ_discrete 0 0) (sym (append-nil (replicate n 0))) ∙ runs-skips ℕ_discrete 0 n 0 []

pub absent-bytes : (kind : Kind) (t : List ℕ) (n : ℕ) → pool_bytes kind t n None ≡ be32 0 ++ be32 0
unfolding pool_bytes items_from
absent-bytes kind t n =
    let eq = item-discrete kind in
    let xs = replicate n (no_item kind) in
    ap (λ (d : List (Item kind)). counted (item_code kind) (drop 1 d) ++ number_run_section (numbers eq d xs)) (none-distinct eq (no_item kind) n)
    ∙ ap (λ (l : List ℕ). counted (item_code kind) [] ++ number_run_section l) (none-numbers eq (no_item kind) n)
    ∙ ap (λ (l : List (Run ℕ)). counted (item_code kind) [] ++ counted run_less_code l) (none_runs n)

pub absent-placed : (kind : Kind) (t : List ℕ) (n : ℕ) (source : Option Source) (out₀ out : List ℕ) (to : ℕ) → source ≡ None → out ≡ sets out₀ to (be32 0 ++ be32 0)
    → PlacedSections kind t n source out₀ out to (to + 8)
absent-placed kind t n source out₀ out to e b =
    let p : pool_bytes kind t n source ≡ be32 0 ++ be32 0 = ap (pool_bytes kind t n) e ∙ absent-bytes kind t n in
    record { end = omega (arith, ap length p); near = omega arith; bytes = b ∙ ap (sets out₀ to) (sym p) }

-- ---- rooms

-- the pass did not come to the last glyph
pub tried-full : (kind : Kind) (t : List ℕ) (n at base : ℕ) (ends nums firsts : List ℕ) (pass : Pass) (room : ℕ) (out₀ out : List ℕ) (to : ℕ)
    → PassedOver kind t n at base ends nums firsts pass → pass.glyph < n → length ends ≡ room → out ≡ out₀ → Tried kind t n (from_lookup at base) room out₀ out to None
tried-full kind t n at base ends nums firsts pass room out₀ out to p h l e =
    record {
      full = λ z. (e, omega (arith, p.stops h, l, rise-few (take pass.stretches ends) 0 pass.glyph p.rise, length-take-le pass.stretches ends p.fits));
      done = λ end z. cc;
    }

pub tried-done : (kind : Kind) (t : List ℕ) (n : ℕ) (source : Option Source) (room : ℕ) (out₀ out : List ℕ) (to r : ℕ) (firsts ends nums : List ℕ)
    → sections kind t firsts ends nums ≡ pool_bytes kind t n source → r ≡ to + length (sections kind t firsts ends nums) → r < to + 2 ^ 29
    → out ≡ sets out₀ to (sections kind t firsts ends nums) → Tried kind t n source room out₀ out to (Some r)
tried-done kind t n source room out₀ out to r firsts ends nums e a b c =
    record {
      full = λ z. cc;
      done = λ end z.
          let q : r ≡ end = cc in
          record { end = sym q ∙ a ∙ ap (λ (l : List ℕ). to + length l) e; near = omega arith; bytes = c ∙ ap (sets out₀ to) e };
    }
