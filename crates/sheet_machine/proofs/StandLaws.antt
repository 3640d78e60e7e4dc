-- The cells that stand at a place, as they are read there.
use Prim.Native.Nat.{ℕ, zero, suc, ◌+◌, ◌*◌, ◌≤◌, ◌<◌}
use mathlib.Core.Path.{◌≡◌, refl, sym, ap, ◌∙◌, subst}
use mathlib.Core.Bool.{Bool, true, false}
use mathlib.Core.Logic.{ite}
use mathlib.Core.List.{List, [], ◌∷◌, ◌++◌, append_assoc}
use native.Mathlib.Omega.{arith}
use native.Mathlib.Decide.{ℕ_discrete}
use native.Mathlib.Nat.{mul-le-mul_right}
use lib.ListN.{length, get_or, drop, length-append, length-drop}
use Rattle.fields.specs.Field.{be32, u32_at, Bytes}
use Rattle.fields.proofs.Laws.{u32_at-fits}
use Rattle.encoding.specs.Codes.{All, many, counted, Found, Absent, items_at}
use Rattle.encoding.specs.Distinct.{distinct, numbers, elements, InOrder}
use Rattle.encoding.specs.Sections.{byte, numbered}
use Rattle.encoding.proofs.ListLaws.{all-at, all_map, all-unit}
use Rattle.encoding.proofs.CodeLaws.{be32-at, be32-free, many-free, many-length}
use Rattle.encoding.proofs.DistinctLaws.{in_order, in-order-lt, elements-numbers}
use Rattle.encoding.proofs.ReadLaws.{items_at_lem, items-wide, items-length, items-get_or}
use Rattle.encoding.proofs.SectionLaws.{byte-free, all-distinct, numbers-length}
use Rattle.encoding.specs.Tests.{Says}
use Rattle.types.specs.declared.Entry.{Entry}
use Rattle.meaning.specs.Discrete.{Entry-discrete}
use Rattle.meaning.specs.Limits.{OkEntry}
use Rattle.meaning.specs.Sheet.{entry_code}
use Rattle.meaning.specs.Wide.{WideEntry}
use Rattle.meaning.proofs.SheetLaws.{entry_free}
use Rattle.sheet_cells.specs.Cells.{entry_at, byte_at, OkCells}
use Rattle.sheet_cells.proofs.CellLaws.{entry-wide, entry-at, byte-at}
use Rattle.sheet_machine.specs.Machine.{Sizes, LeastBy, row_at, ReadableCells, Least, OkLeast, OfCells}
use Rattle.sheet_machine.proofs.LeastLaws.{few-cells}

all_in : (m : ℕ) (is : List ℕ) (k : ℕ) → InOrder m k is → All (λ (i : ℕ). i < m) is
all_in m [] k o = tt
all_in m (i ∷ is) k o = (in-order-lt ℕ_discrete i is m k o, all_in m is (ite (ℕ_discrete i k) (suc k) k) o.1)

elements-get_or : {A : Type 0} (z y : A) (ds : List A) (is : List ℕ) (k : ℕ) → k < length is → get_or (elements z ds is) k y ≡ get_or ds (get_or is k 0) z
elements-get_or z y ds [] k h = absurd (omega arith)
elements-get_or z y ds (i ∷ is) zero h = refl
elements-get_or z y ds (i ∷ is) (suc k) h = elements-get_or z y ds is k (omega arith)

abbrev zero-entry : Entry
zero-entry = record { row = 0; flags = 0 }

module _ (rows classes : ℕ) (z : Sizes rows classes) (s : List ℕ) (bytes : Bytes s) (at : ℕ) (xs : List Entry) (rest : List ℕ)
    (ok : OkCells rows (rows * classes) xs) (e : drop at s ≡ numbered Entry-discrete entry_code xs ++ rest) where
  ds : List Entry
  ds = distinct Entry-discrete [] xs

  is : List ℕ
  is = numbers Entry-discrete (distinct Entry-discrete [] xs) xs

  -- where the numbers stand
  abbrev c : ℕ
  c = at + 4 + 4 * u32_at s at + 4

  split : drop at s ≡ be32 (length ds) ++ (many entry_code ds ++ (counted byte is ++ rest))
  unfolding ds is
  split = e ∙ append_assoc (counted entry_code (distinct Entry-discrete [] xs)) (counted byte (numbers Entry-discrete (distinct Entry-discrete [] xs) xs)) rest

  pub cells-room : at + 4 ≤ length s
  cells-room = omega (arith, ap length split, length-drop at s, length-append (be32 (length ds)) (many entry_code ds ++ (counted byte is ++ rest)))

  few : length ds ≤ 256
  unfolding ds
  few = ok.2

  first : (u32_at s at ≡ length ds) × (drop (at + 4) s ≡ many entry_code ds ++ (counted byte is ++ rest))
  first =
      be32-free (u32_at s at) (length ds) (drop (at + 4) s) (many entry_code ds ++ (counted byte is ++ rest)) (u32_at-fits s at bytes) (omega (arith, few))
      (sym (be32-at s bytes at cells-room) ∙ split)

  fits : at + 4 + 4 * u32_at s at ≤ length s
  fits =
      omega (arith, first.0, ap length first.1, length-drop (at + 4) s, cells-room, length-append (many entry_code ds) (counted byte is ++ rest), many-length entry_code 4 (λ a. refl) ds)

  wide : All WideEntry ds
  unfolding ds
  wide =
      all-distinct Entry-discrete WideEntry xs [] tt
      (all_map (OkEntry rows) WideEntry (λ (x : Entry) k. (omega (arith, k.0, z.few-rows), k.1)) xs ok.1)

  entries : (items_at entry_at 4 s (at + 4) (u32_at s at) ≡ ds) × (drop (at + 4 + 4 * u32_at s at) s ≡ counted byte is ++ rest)
  entries =
      many-free entry_code WideEntry entry_free (items_at entry_at 4 s (at + 4) (u32_at s at)) ds (drop (at + 4 + 4 * u32_at s at) s) (counted byte is ++ rest)
      (items-length entry_at 4 s (u32_at s at) (at + 4) ∙ first.0)
      (items-wide entry_code WideEntry entry_free entry_at 4 (λ a. refl) s bytes (entry-wide s bytes) (entry-at s bytes) (u32_at s at) (at + 4)) wide
      (sym (items_at_lem entry_code WideEntry entry_free entry_at 4 (λ a. refl) s bytes (entry-wide s bytes) (entry-at s bytes) (u32_at s at) (at + 4) fits) ∙ first.1)

  total : length is ≡ rows * classes
  unfolding is
  total = numbers-length Entry-discrete (distinct Entry-discrete [] xs) xs ∙ ok.0

  numbers-room : c ≤ length s
  numbers-room =
      omega (arith, ap length entries.1, length-drop (at + 4 + 4 * u32_at s at) s, fits, length-append (counted byte is) rest, length-append (be32 (length is)) (many byte is))

  second : drop c s ≡ many byte is ++ rest
  second =
      let b = at + 4 + 4 * u32_at s at in
      (be32-free (u32_at s b) (length is) (drop (b + 4) s) (many byte is ++ rest) (u32_at-fits s b bytes)
      (omega (arith, total, few-cells rows classes z.few-rows z.few-classes))
      (sym (be32-at s bytes b numbers-room) ∙ entries.1 ∙ append_assoc (be32 (length is)) (many byte is) rest)).1

  numbers_fit : c + rows * classes ≤ length s
  numbers_fit =
      omega (arith, total, ap length second, length-drop c s, numbers-room, length-append (many byte is) rest, many-length byte 1 (λ a. refl) is)

  numbers-are : items_at byte_at 1 s c (rows * classes) ≡ is
  numbers-are =
      (many-free byte (λ x. Unit {0}) byte-free (items_at byte_at 1 s c (rows * classes)) is (drop (c + 1 * (rows * classes)) s) rest
      (items-length byte_at 1 s (rows * classes) c ∙ sym total) (all-unit (items_at byte_at 1 s c (rows * classes))) (all-unit is)
      (sym (items_at_lem byte (λ x. Unit {0}) byte-free byte_at 1 (λ a. refl) s bytes (λ p. tt) (byte-at s) (rows * classes) c (omega (arith, numbers_fit))) ∙ second)).0

  number_at : (k : ℕ) → k < rows * classes → get_or is k 0 ≡ get_or s (c + k) 0
  number_at k h =
      let q : c + 1 * k ≡ c + k = omega arith in
      ap (λ (l : List ℕ). get_or l k 0) (sym numbers-are) ∙ items-get_or byte_at 1 s 0 k (rows * classes) c h ∙ ap (λ (x : ℕ). get_or s x 0) q

  number-below : (k : ℕ) → k < rows * classes → get_or is k 0 < u32_at s at
  unfolding is ds
  number-below k h =
      let D = distinct Entry-discrete [] xs in
      let I = numbers Entry-discrete (distinct Entry-discrete [] xs) xs in
      let o : All (λ (i : ℕ). i < length D) I = all_in (length D) I 0 (in_order Entry-discrete xs []) in
      let g : get_or I k 0 < length D = all-at (λ (i : ℕ). i < length D) I 0 k o (omega (arith, total, h)) in
      omega (arith, g, first.0)

  -- the k-th cell is the entry that its number names
  pub cell_at : (k : ℕ) → k < rows * classes → get_or xs k zero-entry ≡ entry_at s (at + 4 + 4 * get_or s (c + k) 0)
  unfolding is ds
  cell_at k h =
      let D = distinct Entry-discrete [] xs in
      let I = numbers Entry-discrete D xs in
      ap (λ (l : List Entry). get_or l k zero-entry) (sym (elements-numbers Entry-discrete zero-entry xs []))
      ∙ elements-get_or zero-entry zero-entry D I k (omega (arith, total, h))
      ∙ ap (λ (l : List Entry). get_or l (get_or I k 0) zero-entry) (sym entries.0)
      ∙ items-get_or entry_at 4 s zero-entry (get_or I k 0) (u32_at s at) (at + 4) (number-below k h)
      ∙ ap (λ (x : ℕ). entry_at s (at + 4 + 4 * x)) (number_at k h)

  row_is : (k : ℕ) → k < rows * classes → (get_or xs k zero-entry).row ≡ row_at s (at + 4) c k
  unfolding row_at
  row_is k h = ap (λ (x : Entry). x.row) (cell_at k h)

  pub cells-readable : ReadableCells s (at + 4) (at + 4 + 4 * u32_at s at + 4) classes rows
  cells-readable =
      record {
        sizes = z;
        numbers-in = numbers_fit;
        entries-in = λ k h. omega (arith, number_at k h, number-below k h, fits);
        rows_in = λ k h. subst (λ (x : ℕ). x < rows) (row_is k h) (all-at (OkEntry rows) xs zero-entry k ok.1 (omega (arith, h, ok.0))).0;
      }

  within : (u k : ℕ) → u < rows → k < u * classes → k < rows * classes
  within u k h l = let q : u * classes ≤ rows * classes = mul-le-mul_right classes (omega arith) in omega (arith, q)

  pub least-says : (r : Bool) → Says r (LeastBy (row_at s (at + 4) (at + 4 + 4 * u32_at s at + 4)) classes rows) → Says r (Least classes rows xs)
  least-says true h = λ u l i g. h u l i (λ k j. subst (λ (x : ℕ). x < u) (row_is k (within u k i j)) (g k j))
  least-says false h = λ g. h (λ u l i j. g u l i (λ k y. subst (λ (x : ℕ). x < u) (sym (row_is k (within u k i y))) (j k y)))

-- ---- what the reader of sections 3 and 4 concludes

module _ (rows classes : ℕ) (s : List ℕ) (at : ℕ) where
  pub least-none : Absent (numbered Entry-discrete entry_code) (OkCells rows (rows * classes)) s at
      → Absent (numbered Entry-discrete entry_code) (OkLeast rows classes) s at
  least-none h xs rest o e = h xs rest o.0 e

  pub least-found : (q : ℕ) → Found (numbered Entry-discrete entry_code) (OkCells rows (rows * classes)) s at q → OfCells true s at rows classes
      → Found (numbered Entry-discrete entry_code) (OkLeast rows classes) s at q
  least-found q f h = (f.0, (f.1, h f.0 (drop q s) f.1 f.3), f.2, f.3)

  pub least-absent : OfCells false s at rows classes → Absent (numbered Entry-discrete entry_code) (OkLeast rows classes) s at
  least-absent h xs rest o e = h xs rest o.0 e o.1
