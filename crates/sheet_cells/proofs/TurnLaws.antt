-- Sections 3 and 4: the turns of the readers' loops.
use Prim.Native.Nat.{ℕ, zero, suc, ◌+◌, ◌*◌, ◌≤◌, ◌<◌, min}
use mathlib.Core.Path.{◌≡◌, refl, sym, ap, ap₂, ◌∙◌, subst}
use mathlib.Core.Logic.{ite, if_pos}
use mathlib.Core.List.{List, [], ◌∷◌}
use native.Mathlib.Decide.{ℕ_discrete}
use native.Mathlib.Omega.{arith}
use native.Mathlib.Numerals.{add-one}
use lib.ListN.{length, get_or, drop, drop_of_length-le, length-append}
use lib.Seq.{drop-cons}
use Rattle.sheet_sections.specs.Pool.{used_after}
use Rattle.fields.specs.Field.{Bytes}
use Rattle.fields.proofs.Laws.{u16_at-fits}
use Rattle.encoding.specs.Codes.{items_at}
use Rattle.encoding.specs.Distinct.{index, InOrder}
use Rattle.encoding.proofs.ListLaws.{all_append, all-at}
use Rattle.encoding.proofs.DistinctLaws.{index-le, index-take, once_more}
use Rattle.encoding.proofs.ReadLaws.{items-length, items-take, items-get_or, items-snoc}
use Rattle.types.specs.declared.Entry.{Entry}
use Rattle.meaning.specs.Discrete.{Entry-discrete}
use Rattle.meaning.specs.Limits.{OkEntry}
use Rattle.sheet_cells.specs.Cells.{entry_at, NewEntry, OkEntries}

-- ---- the search for an entry

-- an entry is one of k exactly where its index is below k
module _ (s : List ℕ) (x : Entry) where
  pub index-some : (k at i : ℕ) → i < k → entry_at s (at + 4 * i) ≡ x → index Entry-discrete x (items_at entry_at 4 s at k) < k
  index-some zero at i h e = absurd (omega arith)
  index-some (suc k) at zero h e =
      let z : at + 4 * 0 ≡ at = omega arith in
      omega (arith, if_pos (Entry-discrete (entry_at s at) x) (ap (entry_at s) (sym z) ∙ e) 0 (suc (index Entry-discrete x (items_at entry_at 4 s (at + 4) k))))
  index-some (suc k) at (suc i) h e =
      let z : at + 4 + 4 * i ≡ at + 4 * suc i = omega arith in
      let l = index-some k (at + 4) i (omega arith) (ap (entry_at s) z ∙ e) in
      go (Entry-discrete (entry_at s at) x) (index Entry-discrete x (items_at entry_at 4 s (at + 4) k)) l
    where
      go : (d : Dec (entry_at s at ≡ x)) (j : ℕ) → j < k → ite d 0 (suc j) < suc k
      go (yes p) j l = omega arith
      go (no p) j l = omega arith

  pub some-index : (k at : ℕ) → index Entry-discrete x (items_at entry_at 4 s at k) < k → (i : ℕ) × (i < k) × (entry_at s (at + 4 * i) ≡ x)
  some-index zero at h = absurd (omega arith)
  some-index (suc k) at h = go (Entry-discrete (entry_at s at) x) h (λ l. some-index k (at + 4) l)
    where
      go : (d : Dec (entry_at s at ≡ x)) → ite d 0 (suc (index Entry-discrete x (items_at entry_at 4 s (at + 4) k))) < suc k
          → (index Entry-discrete x (items_at entry_at 4 s (at + 4) k) < k → (i : ℕ) × (i < k) × (entry_at s (at + 4 + 4 * i) ≡ x))
          → (i : ℕ) × (i < suc k) × (entry_at s (at + 4 * i) ≡ x)
      go (yes p) l ih = let z : at + 4 * 0 ≡ at = omega arith in (0, omega arith, ap (entry_at s) z ∙ p)
      go (no p) l ih =
          let r = ih (omega arith) in
          let z : at + 4 * suc (r.0) ≡ at + 4 + 4 * r.0 = omega arith in
          (suc (r.0), omega (arith, r.1), ap (entry_at s) z ∙ r.2)

-- ---- distinct entries

module _ (s : List ℕ) (bytes : Bytes s) (at rows : ℕ) where
  -- one more
  more : (i : ℕ) → i < 256 → OkEntries rows (items_at entry_at 4 s at i) → NewEntry rows s at i → OkEntries rows (items_at entry_at 4 s at (suc i))
  more i h o n =
      let x = entry_at s (at + 4 * i) in
      let ds = items_at entry_at 4 s at i in
      let l : length ds ≡ i = items-length entry_at 4 s i at in
      let e : index Entry-discrete x ds ≡ length ds = omega (arith, l, n.1, index-le Entry-discrete x ds) in
      subst (OkEntries rows) (sym (items-snoc entry_at 4 s i at (at + 4 * i) refl)) (
        once_more Entry-discrete x ds e o.0,
        all_append (OkEntry rows) ds (x ∷ []) o.1 ((n.0, u16_at-fits s (at + 4 * i + 2) bytes), tt),
        omega (arith, length-append ds (x ∷ []), l),
      )

  pub entries-all : (k : ℕ) → k ≤ 256 → ((i : ℕ) → i < k → NewEntry rows s at i) → OkEntries rows (items_at entry_at 4 s at k)
  entries-all zero h n = ((λ i z l. absurd (omega arith)), tt, omega arith)
  entries-all (suc k) h n = more k (omega arith) (entries-all k (omega arith) (λ i l. n i (omega arith))) (n k (omega arith))

  -- each of them
  module _ (k i : ℕ) (h : i < k) (o : OkEntries rows (items_at entry_at 4 s at k)) where
    abbrev x : Entry
    x = entry_at s (at + 4 * i)

    zero-entry : Entry
    zero-entry = record { row = 0; flags = 0 }

    l : length (items_at entry_at 4 s at k) ≡ k
    l = items-length entry_at 4 s k at

    here : get_or (items_at entry_at 4 s at k) i zero-entry ≡ x
    here = items-get_or entry_at 4 s zero-entry i k at h

    low : x.row < rows
    low = (subst (OkEntry rows) here (all-at (OkEntry rows) (items_at entry_at 4 s at k) zero-entry i o.1 (omega (arith, h, l)))).0

    first : i ≤ index Entry-discrete x (items_at entry_at 4 s at i)
    first =
        let f : index Entry-discrete x (items_at entry_at 4 s at k) ≡ i =
        ap (λ (y : Entry). index Entry-discrete y (items_at entry_at 4 s at k)) (sym here) ∙ o.0 i zero-entry (omega (arith, h, l)) in
        let g : index Entry-discrete x (items_at entry_at 4 s at i) ≡ min i (index Entry-discrete x (items_at entry_at 4 s at k)) =
        ap (index Entry-discrete x) (items-take entry_at 4 s i k at (omega (arith, h))) ∙ index-take Entry-discrete x (items_at entry_at 4 s at k) i (omega (arith, h, l)) in
        omega (arith, f, g)

    pub each_entry : NewEntry rows s at i
    each_entry = (low, first)

-- ---- numbers in order of first use

module _ (m k i : ℕ) (xs : List ℕ) (x : ℕ) (h : i < length xs) (e : x ≡ get_or xs i 0) where
  cut : drop i xs ≡ x ∷ drop (i + 1) xs
  cut = drop-cons xs i 0 h ∙ ap₂ (λ (y j : ℕ). y ∷ drop j xs) (sym e) (sym (add-one i))

  pub order-le : InOrder m k (drop i xs) → x ≤ k
  order-le o = (subst (InOrder m k) cut o).0

  module _ (k' : ℕ) (ek : k' ≡ used_after x k) where
    pub order-on : InOrder m k (drop i xs) → InOrder m k' (drop (i + 1) xs)
    order-on o = subst (λ (n : ℕ). InOrder m n (drop (i + 1) xs)) (sym ek) (subst (InOrder m k) cut o).1

    pub order-back : x ≤ k → InOrder m k' (drop (i + 1) xs) → InOrder m k (drop i xs)
    order-back l o = subst (InOrder m k) (sym cut) (l, subst (λ (n : ℕ). InOrder m n (drop (i + 1) xs)) ek o)

pub used-grows : (x k k' : ℕ) → k' ≡ used_after x k → k' ≤ k + 1
used-grows x k k' e = omega (arith, e, go (ℕ_discrete x k))
  where
    go : (d : Dec (x ≡ k)) → ite d (suc k) k ≤ k + 1
    go (yes p) = omega arith
    go (no p) = omega arith

pub order-end : (m k i : ℕ) (xs : List ℕ) → length xs ≤ i → InOrder m k (drop i xs) ≡ (k ≡ m)
order-end m k i xs h = ap (InOrder m k) (drop_of_length-le xs h)
