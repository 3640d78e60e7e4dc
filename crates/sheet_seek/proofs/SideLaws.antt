-- The sections of a direction, and the directions of a sheet, passed one after the other.
use Prim.Native.Nat.{ℕ, ◌<◌, ◌^◌}
use mathlib.Core.Path.{◌≡◌, refl, sym, ap, ◌∙◌}
use mathlib.Core.Option.{Option, none, some}
use mathlib.Core.List.{List, [], ◌++◌, append_assoc, append-nil}
use native.Mathlib.Decide.{ℕ_discrete}
use native.Mathlib.Omega.{arith}
use native.Mathlib.Nat.{mul-le-mul}
use lib.ListN.{length, drop}
use Rattle.fields.specs.Field.{Bytes}
use Rattle.encoding.specs.Codes.{All, counted}
use Rattle.encoding.specs.Runs.{runs}
use Rattle.encoding.specs.Distinct.{distinct, numbers}
use Rattle.encoding.specs.Sections.{byte, run_code}
use Rattle.encoding.proofs.ListLaws.{all_map}
use Rattle.encoding.proofs.RunsLaws.{runs-ok, ok-few}
use Rattle.encoding.proofs.SectionLaws.{WideRun, distinct-length, numbers-length}
use Rattle.types.specs.declared.Direction.{Direction}
use Rattle.types.specs.declared.Direction.TheVariants.{Horizontal, Vertical}
use Rattle.meaning.specs.Meaning.{Machine, Meaning}
use Rattle.meaning.specs.Discrete.{Entry-discrete}
use Rattle.meaning.specs.Limits.{OkMaybe, Valid, OkSide}
use Rattle.meaning.specs.Ask.{side_of}
use Rattle.meaning.specs.Sheet.{sizes_code, entry_code, sizes_of, columns_of, cells_of, write_side, write, machine_bytes, cluster_bytes, list_bytes}
use Rattle.meaning.specs.Wide.{WideSizes, WideEntry}
use Rattle.meaning.proofs.SheetLaws.{side-parts}
use Rattle.sheet_items.specs.declared.Sort.{Sort}
use Rattle.sheet_items.specs.declared.Sort.TheVariants.{Clusters, Lists}
use Rattle.sheet_items.specs.Items.{no_item, item-discrete, item_code, OkItem, FewItem, pool_bytes, OkPool}
use Rattle.sheet_items.proofs.Laws.{item-few, none-few}
use Rattle.sheet_seek.specs.Passes.{Passes, ItemsEnd, ByGlyphs, after_sizes, after_classes, after_side, side_on, clusters_on, lists_on}
use Rattle.sheet_seek.proofs.PassLaws.{items-end}
use Rattle.sheet_seek.proofs.PoolLaws.{pool-end}

-- a direction of a valid meaning keeps its limits
pub valid-side : (d : Direction) (m : Meaning) → Valid m → OkSide m.glyphs (side_of d m)
valid-side Horizontal m v = v.horizontal
valid-side Vertical m v = v.vertical

-- ---- counts that 32 bits hold

few-sizes : (m : Option Machine) → length (sizes_of m) < 2 ^ 32
few-sizes none = omega arith
few-sizes (some m) = omega arith

few-columns : (n : ℕ) → n < 2 ^ 16 → (m : Option Machine) → OkMaybe n m → length (runs ℕ_discrete 1 0 (columns_of m)) < 2 ^ 32
few-columns n hn none h = omega arith
few-columns n hn (some m) h =
    let rs = runs ℕ_discrete 1 0 m.columns in
    omega (arith, ok-few ℕ_discrete 1 rs n 0 1 (runs-ok ℕ_discrete 1 m.columns n 0 (omega (arith, h.column-count))))

few-cells : (n : ℕ) (m : Option Machine) → OkMaybe n m → length (cells_of m) < 2 ^ 32
few-cells n none h = omega arith
few-cells n (some m) h = omega (arith, h.cell-count, mul-le-mul h.few-rows h.few-classes)

module _ (s : List ℕ) (bytes : Bytes s) where
  -- ---- the machine

  pub sizes-passed : (at p : ℕ) → ItemsEnd 8 s at p → Passes machine_bytes after_sizes (ByGlyphs OkMaybe) s at p
  sizes-passed at p h m rest o e =
      items-end sizes_code WideSizes s bytes at 8 (λ x. refl) p h (sizes_of m) (after_sizes m ++ rest) (few-sizes m)
      (e ∙ append_assoc (counted sizes_code (sizes_of m)) (after_sizes m) rest)

  pub classes-passed : (at p q : ℕ) → Passes machine_bytes after_sizes (ByGlyphs OkMaybe) s at p → ItemsEnd 6 s p q
      → Passes machine_bytes after_classes (ByGlyphs OkMaybe) s at q
  classes-passed at p q h f m rest o e =
      let rs = runs ℕ_discrete 1 0 (columns_of m) in
      items-end run_code WideRun s bytes p 6 (λ x. refl) q f rs (after_classes m ++ rest) (few-columns o.0 o.1 m o.2)
      (h m rest o e ∙ append_assoc (counted run_code rs) (after_classes m) rest)

  pub cells-passed : (at p q t : ℕ) → Passes machine_bytes after_classes (ByGlyphs OkMaybe) s at p → ItemsEnd 4 s p q → ItemsEnd 1 s q t
      → Passes machine_bytes (λ m. []) (ByGlyphs OkMaybe) s at t
  cells-passed at p q t h f g m rest o e =
      let ds = distinct Entry-discrete [] (cells_of m) in
      let ns = numbers Entry-discrete ds (cells_of m) in
      let few = few-cells o.0 m o.2 in
      items-end byte (λ x. Unit {0}) s bytes q 1 (λ x. refl) t g ns rest (omega (arith, few, numbers-length Entry-discrete ds (cells_of m)))
      (items-end entry_code WideEntry s bytes p 4 (λ x. refl) q f ds (counted byte ns ++ rest) (omega (arith, few, distinct-length Entry-discrete (cells_of m) []))
      (h m rest o e ∙ append_assoc (counted entry_code ds) (counted byte ns) rest))

  -- ---- clusters and action lists

  module _ (at p q : ℕ) where
    pub pool-passed : (sort : Sort) → Passes (counted (item_code sort)) (λ ds. []) (λ ds. (length ds < 2 ^ 32) × All (FewItem sort) ds) s at p → ItemsEnd 6 s p q
        → Passes (pool_bytes sort) (λ xs. []) (ByGlyphs (OkPool sort)) s at q
    pool-passed sort h f xs rest (n, hn, o) e =
        pool-end (item-discrete sort) (item_code sort) (no_item sort) (FewItem sort) (none-few sort) s bytes at p q h f n hn xs rest o.0
        (all_map (OkItem sort n) (FewItem sort) (item-few sort n) xs o.1) e

  -- ---- the directions of a sheet

  few : (m : Meaning) → Valid m → m.glyphs < 2 ^ 16
  few m v = omega (arith, v.few-glyphs)

  -- N is passed
  pub horizontal-passed : Passes write (side_on Horizontal) Valid s 0 4
  unfolding write
  horizontal-passed m rest v e = ap (drop 4) e

  module _ (d : Direction) (at : ℕ) (h : Passes write (side_on d) Valid s 0 at) where
    -- the machine, and what follows it
    machine-first : (m : Meaning) (rest : List ℕ) → Valid m → drop 0 s ≡ write m ++ rest → drop at s ≡ machine_bytes (side_of d m).machine ++ (clusters_on d m ++ rest)
    machine-first m rest v e =
        let x = side_of d m in
        h m rest v e ∙ ap (λ (l : List ℕ). (l ++ after_side d m) ++ rest) (side-parts x)
        ∙ regroup (machine_bytes x.machine) (cluster_bytes x.clusters) (list_bytes x.lists) (after_side d m) rest
      where
        regroup : (a b c t r : List ℕ) → ((a ++ (b ++ c)) ++ t) ++ r ≡ a ++ ((b ++ (c ++ t)) ++ r)
        regroup a b c t r = simp append_assoc

    pub machine-at : (m : Meaning) → Valid m → write m ≡ s → drop at s ≡ machine_bytes (side_of d m).machine ++ clusters_on d m
    machine-at m v w = machine-first m [] v (sym w ∙ sym (append-nil (write m))) ∙ ap (λ (l : List ℕ). machine_bytes (side_of d m).machine ++ l) (append-nil (clusters_on d m))

    pub machine-passed : (p : ℕ) → Passes machine_bytes (λ m. []) (ByGlyphs OkMaybe) s at p → Passes write (clusters_on d) Valid s 0 p
    machine-passed p f m rest v e =
        f (side_of d m).machine (clusters_on d m ++ rest) (m.glyphs, few m v, (valid-side d m v).machine) (machine-first m rest v e)

  module _ (d : Direction) (p : ℕ) (k : Passes write (clusters_on d) Valid s 0 p) where
    pub to-lists : (q : ℕ) → Passes cluster_bytes (λ xs. []) (ByGlyphs (OkPool Clusters)) s p q → Passes write (lists_on d) Valid s 0 q
    to-lists q f m rest v e =
        let x = side_of d m in
        let o = valid-side d m v in
        f x.clusters (lists_on d m ++ rest) (m.glyphs, few m v, (o.cluster-count, o.clusters))
        (k m rest v e ∙ append_assoc (cluster_bytes x.clusters) (lists_on d m) rest)

    pub to_end : (q t : ℕ) → Passes write (lists_on d) Valid s 0 q → Passes list_bytes (λ xs. []) (ByGlyphs (OkPool Lists)) s q t
        → Passes write (after_side d) Valid s 0 t
    to_end q t g f m rest v e =
        let x = side_of d m in
        let o = valid-side d m v in
        f x.lists (after_side d m ++ rest) (m.glyphs, few m v, (o.list_count, o.lists))
        (g m rest v e ∙ append_assoc (list_bytes x.lists) (after_side d m) rest)

  -- vertical begins where horizontal ends
  pub vertical-passed : (p q t : ℕ) → Passes machine_bytes (λ m. []) (ByGlyphs OkMaybe) s 4 p → Passes cluster_bytes (λ xs. []) (ByGlyphs (OkPool Clusters)) s p q
      → Passes list_bytes (λ xs. []) (ByGlyphs (OkPool Lists)) s q t → Passes write (side_on Vertical) Valid s 0 t
  vertical-passed p q t f g k m rest v e =
      let a = machine-passed Horizontal 4 horizontal-passed p f in
      let b = to-lists Horizontal p a q g in
      to_end Horizontal p a q t b k m rest v e ∙ ap (λ (l : List ℕ). l ++ rest) (sym (append-nil (write_side m.vertical)))
