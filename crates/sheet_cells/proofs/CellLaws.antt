-- What the readers of sections 3 and 4 conclude.
use Prim.Native.Nat.{ℕ, zero, suc, ◌+◌, ◌*◌, ◌≤◌, ◌<◌, ◌^◌}
use mathlib.Core.Path.{◌≡◌, refl, sym, ap, ◌∙◌, subst}
use mathlib.Core.List.{List, ◌∷◌, ◌++◌}
use native.Mathlib.Omega.{arith}
use lib.ListN.{length, get_or, take, drop}
use native.Mathlib.Numerals.{add-one}
use lib.Seq.{drop-cons}
use Rattle.std.proofs.Common.{Option, Some, None}
use Rattle.fields.specs.Field.{be16, u16_at, u32_at, Bytes}
use Rattle.fields.proofs.Laws.{u16_at-fits}
use Rattle.encoding.specs.Codes.{All, counted, PrefixFree, Found, Absent, items_at}
use Rattle.encoding.specs.Distinct.{InOrder}
use Rattle.encoding.specs.Sections.{byte, numbered}
use Rattle.encoding.proofs.ListLaws.{all_map, all-unit}
use Rattle.encoding.proofs.CodeLaws.{counted-free}
use Rattle.encoding.proofs.ReadLaws.{items-length, first_absent, second-absent, both_found}
use Rattle.encoding.proofs.SectionLaws.{byte-free}
use Rattle.encoding.proofs.NumberedLaws.{numbered-found, numbered-absent}
use Rattle.sheet_sections.specs.Section.{Parses, HasItems}
use Rattle.sheet_sections.proofs.SectionLaws.{field16, count-known, items-outside, items-good, items-bad}
use Rattle.types.specs.declared.Entry.{Entry}
use Rattle.meaning.specs.Discrete.{Entry-discrete}
use Rattle.meaning.specs.Limits.{OkEntry}
use Rattle.meaning.specs.Sheet.{entry_code}
use Rattle.meaning.specs.Wide.{WideEntry}
use Rattle.meaning.proofs.SheetLaws.{entry_free}
use Rattle.sheet_cells.specs.Cells.{entry_at, byte_at, OkEntries, OkNumbers, OkCells}

-- ---- an entry and a byte in bytes

module _ (s : List ℕ) (bytes : Bytes s) where
  pub entry-wide : (p : ℕ) → WideEntry (entry_at s p)
  entry-wide p = (u16_at-fits s p bytes, u16_at-fits s (p + 2) bytes)

  pub entry-at : (p : ℕ) → p + 4 ≤ length s → drop p s ≡ entry_code (entry_at s p) ++ drop (p + 4) s
  entry-at p h =
      field16 s bytes p (p + 2) refl (omega arith)
      ∙ ap (λ (r : List ℕ). be16 (u16_at s p) ++ r) (field16 s bytes (p + 2) (p + 4) (omega arith) (omega arith))

pub byte-at : (s : List ℕ) (p : ℕ) → p + 1 ≤ length s → drop p s ≡ byte (byte_at s p) ++ drop (p + 1) s
byte-at s p h = let e : suc p ≡ p + 1 = omega arith in drop-cons s p 0 (omega arith) ∙ ap (λ (q : ℕ). get_or s p 0 ∷ drop q s) e

-- bytes read one by one
bytes-cut : (s : List ℕ) (k p : ℕ) → p + k ≤ length s → items_at byte_at 1 s p k ≡ take k (drop p s)
bytes-cut s zero p h = refl
bytes-cut s (suc k) p h =
    ap (λ (l : List ℕ). get_or s p 0 ∷ l) (bytes-cut s k (p + 1) (omega arith))
    ∙ ap (take (suc k)) (ap (λ (q : ℕ). get_or s p 0 ∷ drop q s) (add-one p) ∙ sym (drop-cons s p 0 (omega arith)))

-- ---- section 3

module _ (rows : ℕ) (hr : rows ≤ 256) where
  few-entries : (ds : List Entry) → OkEntries rows ds → (length ds < 2 ^ 32) × All WideEntry ds
  few-entries ds h = (omega (arith, h.2), all_map (OkEntry rows) WideEntry (λ (e : Entry) k. (omega (arith, k.0), k.1)) ds h.1)

  entries-free : PrefixFree (counted entry_code) (OkEntries rows)
  entries-free a b s t ha hb e = counted-free entry_code WideEntry entry_free a b s t (few-entries a ha) (few-entries b hb) e

  module _ (s : List ℕ) (bytes : Bytes s) (at : ℕ) where
    pub entries-outside : (HasItems 4 s at → ⊥) → Absent (counted entry_code) (OkEntries rows) s at
    entries-outside =
        items-outside entry_code WideEntry entry_free entry_at 4 (λ a. refl) s bytes (entry-wide s bytes) (entry-at s bytes) (OkEntries rows) few-entries at

    module _ (k : ℕ) (there : HasItems 4 s at × (k ≡ u32_at s at)) where
      pub entries-good : OkEntries rows (items_at entry_at 4 s (at + 4) k) → Found (counted entry_code) (OkEntries rows) s at (at + 4 + 4 * k)
      entries-good =
          items-good entry_code WideEntry entry_free entry_at 4 (λ a. refl) s bytes (entry-wide s bytes) (entry-at s bytes) (OkEntries rows) few-entries at k there

      pub entries-bad : (OkEntries rows (items_at entry_at 4 s (at + 4) k) → ⊥) → Absent (counted entry_code) (OkEntries rows) s at
      entries-bad =
          items-bad entry_code WideEntry entry_free entry_at 4 (λ a. refl) s bytes (entry-wide s bytes) (entry-at s bytes) (OkEntries rows) few-entries at k there

      pub entries-many : 256 < k → Absent (counted entry_code) (OkEntries rows) s at
      entries-many h = entries-bad (λ o. omega (arith, o.2, items-length entry_at 4 s k (at + 4)))

    -- ---- section 4 after section 3

    module _ (total : ℕ) where
      pub cells-none : Absent (counted entry_code) (OkEntries rows) s at → Absent (numbered Entry-discrete entry_code) (OkCells rows total) s at
      cells-none h =
          numbered-absent Entry-discrete entry_code (OkEntry rows) (record { row = 0; flags = 0 }) total 256 s at
          (first_absent (counted entry_code) (OkEntries rows) entries-free (λ ds is. counted byte is) (λ ds is. OkNumbers total (length ds) is) s at h)

      module _ (q : ℕ) (f : Found (counted entry_code) (OkEntries rows) s at q) where
        known : u32_at s at ≡ length f.0
        known = count-known s bytes entry_code (OkEntries rows) at q f (few-entries f.0 f.1).0

        pub cells-parse : (r : Option ℕ) → Parses (counted byte) (OkNumbers total (u32_at s at)) s q r → Parses (numbered Entry-discrete entry_code) (OkCells rows total) s at r
        cells-parse (Some t) h =
            numbered-found Entry-discrete entry_code (OkEntry rows) (record { row = 0; flags = 0 }) total 256 s at t
            (both_found (counted entry_code) (OkEntries rows) entries-free (λ ds is. counted byte is) (λ ds is. OkNumbers total (length ds) is) s at q f t
            (subst (λ (m : ℕ). Found (counted byte) (OkNumbers total m) s q t) known h))
        cells-parse None h =
            numbered-absent Entry-discrete entry_code (OkEntry rows) (record { row = 0; flags = 0 }) total 256 s at
            (second-absent (counted entry_code) (OkEntries rows) entries-free (λ ds is. counted byte is) (λ ds is. OkNumbers total (length ds) is) s at q f
            (subst (λ (m : ℕ). Absent (counted byte) (OkNumbers total m) s q) known h))

-- ---- section 4

module _ (total count : ℕ) (ht : total < 2 ^ 32) (s : List ℕ) (bytes : Bytes s) (at : ℕ) where
  few-numbers : (is : List ℕ) → OkNumbers total count is → (length is < 2 ^ 32) × All (λ (x : ℕ). Unit {0}) is
  few-numbers is h = (omega (arith, h.0), all-unit is)

  pub numbers-outside : (HasItems 1 s at → ⊥) → Absent (counted byte) (OkNumbers total count) s at
  numbers-outside = items-outside byte (λ x. Unit {0}) byte-free byte_at 1 (λ a. refl) s bytes (λ p. tt) (byte-at s) (OkNumbers total count) few-numbers at

  module _ (k : ℕ) (there : HasItems 1 s at × (k ≡ u32_at s at)) where
    numbers-bad : (OkNumbers total count (items_at byte_at 1 s (at + 4) k) → ⊥) → Absent (counted byte) (OkNumbers total count) s at
    numbers-bad = items-bad byte (λ x. Unit {0}) byte-free byte_at 1 (λ a. refl) s bytes (λ p. tt) (byte-at s) (OkNumbers total count) few-numbers at k there

    pub numbers-other : (k ≡ total → ⊥) → Absent (counted byte) (OkNumbers total count) s at
    numbers-other h = numbers-bad (λ o. h (omega (arith, o.0, items-length byte_at 1 s k (at + 4))))

    module _ (e : k ≡ total) (l : ℕ) (el : l ≡ total) where
      cut : items_at byte_at 1 s (at + 4) k ≡ take l (drop (at + 4) s)
      cut = bytes-cut s k (at + 4) (omega arith) ∙ ap (λ (n : ℕ). take n (drop (at + 4) s)) (e ∙ sym el)

      pub numbers-wrong : (InOrder count 0 (take l (drop (at + 4) s)) → ⊥) → Absent (counted byte) (OkNumbers total count) s at
      numbers-wrong h = numbers-bad (λ o. h (subst (InOrder count 0) cut o.1))

      pub numbers-good : InOrder count 0 (take l (drop (at + 4) s)) → Found (counted byte) (OkNumbers total count) s at (at + 4 + total)
      numbers-good h =
          let q : at + 4 + 1 * k ≡ at + 4 + total = omega arith in
          subst (Found (counted byte) (OkNumbers total count) s at) q
          (items-good byte (λ x. Unit {0}) byte-free byte_at 1 (λ a. refl) s bytes (λ p. tt) (byte-at s) (OkNumbers total count) few-numbers at k there
          (items-length byte_at 1 s k (at + 4) ∙ e, subst (InOrder count 0) (sym cut) h))
