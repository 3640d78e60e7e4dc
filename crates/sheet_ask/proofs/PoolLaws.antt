-- A glyph's cluster or action list: where its number leads, and the answers from there.
use Prim.Native.Nat.{ℕ, suc, ◌+◌, ◌<◌, ◌^◌}
use mathlib.Core.Path.{◌≡◌, refl, sym, ap, ◌∙◌}
use mathlib.Core.List.{List, [], ◌++◌, append_assoc, append-nil}
use native.Mathlib.Omega.{arith}
use native.Mathlib.Numerals.{add-one}
use Rattle.std.specs.Prelude.{Option, Some, None, Ok}
use Rattle.std.specs.Option.{unwrap_or, option_map}
use lib.ListN.{length, get_or, get_elem?, drop}
use lib.Seq.{drop-cons}
use Rattle.fields.specs.Field.{u32_at, Bytes}
use Rattle.encoding.specs.Codes.{All, many, counted}
use Rattle.encoding.specs.Sections.{run_less_code, pool}
use Rattle.encoding.proofs.ListLaws.{all_get_d, all_map}
use Rattle.encoding.proofs.SectionLaws.{WideRunLess, run-less-free}
use Rattle.sheet_sections.specs.Pool.{number_run_at}
use Rattle.sheet_sections.proofs.NumberLaws.{number-wide, number_at}
use Rattle.types.specs.declared.Direction.{Direction}
use Rattle.types.specs.declared.Pair.{Pair}
use Rattle.meaning.specs.Meaning.{Action, Meaning}
use Rattle.meaning.specs.Limits.{OkCluster, OkActions, Valid}
use Rattle.meaning.specs.Sheet.{write, cluster_bytes, list_bytes}
use Rattle.meaning.specs.Ask.{along, width, action, nothing, pair, act, maybe, record_of, side_of, ask_side, ask}
use Rattle.types.specs.declared.HeldAction.{HeldAction}
use Rattle.answers.specs.Says.{given, says_record, says_action}
use Rattle.sheet_items.specs.declared.Sort.{Sort}
use Rattle.sheet_items.specs.declared.Sort.TheVariants.{Clusters, Lists}
use Rattle.sheet_items.specs.Items.{items_in, no_item, item-discrete, item_code, OkItem, FewItem, pool_bytes, OkPool}
use Rattle.sheet_items.proofs.Laws.{none-ok, none-few, item-few}
use Rattle.sheet_seek.specs.Passes.{Passes, Reaches, lists_on, items_on, after_side}
use Rattle.sheet_seek.specs.LookUp.{value_at, ValueIn}
use Rattle.sheet_seek.proofs.PassLaws.{reach-end, items-there}
use Rattle.sheet_seek.proofs.PoolLaws.{items_of, numbers_of, runs_of, items-few, runs-few, no-item, item-there, pool-runs}
use Rattle.sheet_seek.proofs.SideLaws.{valid-side}
use Rattle.sheet_seek.proofs.LookUpLaws.{element, number-at, items-are}
use Rattle.sheet_ask.specs.Places.{ItemOf, RecordIn, ActionIn}

-- ---- a list written as distinct items and runs of numbers

module _ {A : Type 0} (eq : Discrete A) (code : A → List ℕ) (none : A) (ok : A → Type 0) (hz : ok none) (s : List ℕ) (bytes : Bytes s)
    (n : ℕ) (hn : n < 2 ^ 16) (xs : List A) (l : length xs ≡ n) (a : All ok xs) (at : ℕ) (rest : List ℕ) (e : drop at s ≡ pool eq code none xs ++ rest)
    (k p : ℕ) (ek : k ≡ u32_at s at) (f : Reaches code ok k s at p) (g : ℕ) (y : Option ℕ) (fy : ValueIn s p g y) where
  -- the number of a value, which is written less one
  number : Option ℕ → ℕ
  number v = unwrap_or (option_map (λ (n : ℕ). n + 1) v) 0

  number_is : number y ≡ get_or (numbers_of eq none xs) g 0
  unfolding number
  number_is =
      let rs = runs_of eq none xs in
      let few = runs-few eq none xs ok hz n hn l a in
      let there = pool-runs eq code none ok hz s bytes at p p (reach-end code ok s bytes at k p ek f) n hn xs rest l a e in
      ap (λ (v : Option ℕ). unwrap_or (option_map (λ (n : ℕ). n + 1) v) 0) (fy (items-there run_less_code WideRunLess s bytes p 6 (λ r. refl) rs rest few.0 there))
      ∙ ap (λ (v : Option ℕ). unwrap_or v 0)
      (sym (number-at s g (u32_at s p) (p + 4))
      ∙ ap (value_at g) (items-are run_less_code WideRunLess run-less-free number_run_at 6 (λ r. refl) s bytes (number-wide s bytes) (number_at s bytes) p rs rest few.0 few.1 there))
      ∙ element (numbers_of eq none xs) 0 g

  pub pool-nothing : y ≡ None → get_or xs g none ≡ none
  unfolding number
  pool-nothing z = no-item eq none xs g (sym number_is ∙ ap (λ (v : Option ℕ). unwrap_or (option_map (λ (n : ℕ). n + 1) v) 0) z)

  pub pool-place : (j q : ℕ) → y ≡ Some j → Reaches code ok j s at q → (t : List ℕ) × (drop q s ≡ code (get_or xs g none) ++ t)
  unfolding number
  pool-place j q ej h =
      let ds = items_of eq none xs in
      let few = items-few eq none xs ok hz n hn l a in
      let x = item-there eq none xs g j (sym number_is ∙ ap (λ (v : Option ℕ). unwrap_or (option_map (λ (n : ℕ). n + 1) v) 0) ej ∙ add-one j) in
      let rs = counted run_less_code (runs_of eq none xs) ++ rest in (
        many code (drop (suc j) ds) ++ rs,
        h ds rs (omega (arith, x.0), few.0, few.1) (e ∙ append_assoc (counted code ds) (counted run_less_code (runs_of eq none xs)) rest)
            ∙ ap (λ (m : List A). many code m ++ rs) (drop-cons ds j none x.0)
            ∙ append_assoc (code (get_or ds j none)) (many code (drop (suc j) ds)) rs
            ∙ ap (λ (c : A). code c ++ (many code (drop (suc j) ds) ++ rs)) (sym x.1),
      )

-- ---- of a sheet

module _ (s : List ℕ) (bytes : Bytes s) (m : Meaning) (v : Valid m) (w : write m ≡ s) (d : Direction) (at : ℕ) where
  whole : drop 0 s ≡ write m ++ []
  whole = sym w ∙ sym (append-nil (write m))

  -- the items of a direction, and what follows them
  items-stand : (sort : Sort) → Passes write (items_on sort d) Valid s 0 at → (rest : List ℕ) × (drop at s ≡ pool_bytes sort (items_in sort (side_of d m)) ++ rest)
  items-stand Clusters h = (lists_on d m ++ [], h m [] v whole ∙ append_assoc (cluster_bytes (side_of d m).clusters) (lists_on d m) [])
  items-stand Lists h = (after_side d m ++ [], h m [] v whole ∙ append_assoc (list_bytes (side_of d m).lists) (after_side d m) [])

  items-ok : (sort : Sort) → OkPool sort m.glyphs (items_in sort (side_of d m))
  items-ok Clusters = ((valid-side d m v).cluster-count, (valid-side d m v).clusters)
  items-ok Lists = ((valid-side d m v).list_count, (valid-side d m v).lists)

  module _ (sort : Sort) (h : Passes write (items_on sort d) Valid s 0 at) (k p : ℕ) (ek : k ≡ u32_at s at) (f : Reaches (item_code sort) (FewItem sort) k s at p)
      (g : ℕ) (y : Option ℕ) (fy : ValueIn s p g y) where
    wide : All (FewItem sort) (items_in sort (side_of d m))
    wide = all_map (OkItem sort m.glyphs) (FewItem sort) (item-few sort m.glyphs) (items_in sort (side_of d m)) (items-ok sort).1

    pub item-nowhere : y ≡ None → get_or (items_in sort (side_of d m)) g (no_item sort) ≡ no_item sort
    item-nowhere z =
        pool-nothing (item-discrete sort) (item_code sort) (no_item sort) (FewItem sort) (none-few sort) s bytes m.glyphs (omega (arith, v.few-glyphs)) (items_in sort (side_of d m))
        (items-ok sort).0 wide at (items-stand sort h).0 (items-stand sort h).1 k p ek f g y fy z

    pub item-stands : (j q : ℕ) → y ≡ Some j → Reaches (item_code sort) (FewItem sort) j s at q
        → (rest : List ℕ) × (drop q s ≡ item_code sort (get_or (items_in sort (side_of d m)) g (no_item sort)) ++ rest)
    item-stands j q ej i =
        pool-place (item-discrete sort) (item_code sort) (no_item sort) (FewItem sort) (none-few sort) s bytes m.glyphs (omega (arith, v.few-glyphs)) (items_in sort (side_of d m))
        (items-ok sort).0 wide at (items-stand sort h).0 (items-stand sort h).1 k p ek f g y fy j q ej i

-- ---- the answers

module _ (s : List ℕ) (m : Meaning) (v : Valid m) (w : write m ≡ s) (d : Direction) (g : ℕ) where
  pub no_record_lem : (c : ℕ) → ItemOf s d Clusters g None → given nothing ≡ given (ask m (along d (width g c)))
  unfolding ask ask_side
  no_record_lem c i = ap (λ (l : List Pair). given (maybe pair (record_of c l))) (sym (i m v w))

  pub the-record : (c q : ℕ) → ItemOf s d Clusters g (Some q) → (r : Option Pair) → RecordIn s q c r → says_record (Ok r) ≡ given (ask m (along d (width g c)))
  unfolding ask ask_side
  the-record c q i r f =
      let t = i m v w in
      f (get_or (side_of d m).clusters g []) t.0 (all_get_d OkCluster (side_of d m).clusters [] g (none-ok Clusters m.glyphs) (valid-side d m v).clusters) t.1

  pub no-action : (k : ℕ) → ItemOf s d Lists g None → given nothing ≡ given (ask m (along d (action g k)))
  unfolding ask ask_side
  no-action k i = ap (λ (l : List Action). given (maybe act (get_elem? l k))) (sym (i m v w))

  pub the-action : (k q : ℕ) → ItemOf s d Lists g (Some q) → (r : Option HeldAction) → ActionIn s q k r → says_action (Ok r) ≡ given (ask m (along d (action g k)))
  unfolding ask ask_side
  the-action k q i r f =
      let t = i m v w in
      f.answer m.glyphs (get_or (side_of d m).lists g []) t.0 (all_get_d (OkActions m.glyphs) (side_of d m).lists [] g (none-ok Lists m.glyphs) (valid-side d m v).lists) t.1
