-- A sheet in bytes: N, both directions, and nothing after them.
use Prim.Native.Nat.{ℕ, ◌≤◌, ◌<◌, ◌^◌}
use mathlib.Core.Path.{◌≡◌, sym, ap, ap₂, ◌∙◌, subst}
use lib.Dec.{eqb}
use Rattle.encoding.specs.Tests.{Says}
use Rattle.sheet_sections.proofs.SectionLaws.{says-equal}
use mathlib.Core.List.{List, [], ◌++◌, append-nil}
use native.Mathlib.Omega.{arith}
use Rattle.std.specs.Prelude.{Option, Some, None}
use lib.ListN.{length, drop, length-append, length-drop}
use lib.Seq.{drop-length}
use Rattle.fields.specs.Field.{be32, u32_at, Bytes}
use Rattle.fields.proofs.Laws.{u32_at-fits}
use Rattle.encoding.specs.Codes.{Found, Absent}
use Rattle.encoding.proofs.CodeLaws.{be32-free, be32-at}
use Rattle.encoding.proofs.ReadLaws.{first_absent, second-absent, both_found}
use Rattle.encoding.proofs.SectionLaws.{both-free}
use Rattle.sheet_sections.specs.Section.{Parses}
use Rattle.meaning.specs.Meaning.{Meaning}
use Rattle.meaning.specs.Limits.{OkSide, Valid}
use Rattle.meaning.specs.Sheet.{write_side, write, IsSheet}
use Rattle.meaning.proofs.SheetLaws.{side-free}
use Rattle.sheet_check.specs.Whole.{sides_bytes, OkSides}

module _ (n : ℕ) (hn : n < 2 ^ 16) (s : List ℕ) (at : ℕ) where
  pub sides-none : Absent write_side (OkSide n) s at → Absent sides_bytes (OkSides n) s at
  sides-none = first_absent write_side (OkSide n) (side-free n hn) (λ d e. write_side e) (λ d e. OkSide n e) s at

  pub sides-parse : (q : ℕ) → Found write_side (OkSide n) s at q → (r : Option ℕ) → Parses write_side (OkSide n) s q r
      → Parses sides_bytes (OkSides n) s at r
  sides-parse q f (Some t) h = both_found write_side (OkSide n) (side-free n hn) (λ d e. write_side e) (λ d e. OkSide n e) s at q f t h
  sides-parse q f None h = second-absent write_side (OkSide n) (side-free n hn) (λ d e. write_side e) (λ d e. OkSide n e) s at q f h

-- a sheet's N, and what follows it
pub record Opened (s : List ℕ) (m : Meaning) : Type 0 where
  pub room : 4 ≤ length s
  pub count : u32_at s 0 ≡ m.glyphs
  pub sides : drop 4 s ≡ write_side m.horizontal ++ write_side m.vertical

pub opened-sheet : (s : List ℕ) → Bytes s → (m : Meaning) → Valid m → write m ≡ s → Opened s m
unfolding write
opened-sheet s bytes m v w =
    let t = write_side m.horizontal ++ write_side m.vertical in
    let room : 4 ≤ length s = omega (arith, ap length w, length-append (be32 m.glyphs) t) in
    let g = be32-free (u32_at s 0) m.glyphs (drop 4 s) t (u32_at-fits s 0 bytes) (omega (arith, v.few-glyphs))
    (sym (be32-at s bytes 0 room) ∙ sym w) in
    record { room = room; count = g.0; sides = g.1 }

module _ (s : List ℕ) (bytes : Bytes s) where
  pub sheet-short : length s < 4 → IsSheet s → ⊥
  unfolding IsSheet
  sheet-short h (m, v, w) = omega (arith, (opened-sheet s bytes m v w).room)

  pub sheet-count : (1 ≤ u32_at s 0 → u32_at s 0 ≤ 65535 → ⊥) → IsSheet s → ⊥
  unfolding IsSheet
  sheet-count h (m, v, w) =
      let o = opened-sheet s bytes m v w in
      h (omega (arith, o.count, v.some-glyph)) (omega (arith, o.count, v.few-glyphs))

  module _ (n : ℕ) (en : n ≡ u32_at s 0) where
    good : (m : Meaning) → Valid m → Opened s m → OkSides n (m.horizontal, m.vertical)
    good m v o = subst (λ (k : ℕ). OkSides k (m.horizontal, m.vertical)) (sym (en ∙ o.count)) (v.horizontal, v.vertical)

    whole : (m : Meaning) → Opened s m → drop 4 s ≡ sides_bytes (m.horizontal, m.vertical) ++ []
    whole m o = o.sides ∙ sym (append-nil (sides_bytes (m.horizontal, m.vertical)))

    pub sheet-absent : Absent sides_bytes (OkSides n) s 4 → IsSheet s → ⊥
    unfolding IsSheet
    sheet-absent h (m, v, w) =
        let o = opened-sheet s bytes m v w in
        h (m.horizontal, m.vertical) [] (good m v o) (whole m o)

    sheet-ends : (t : ℕ) → n < 2 ^ 16 → Found sides_bytes (OkSides n) s 4 t → IsSheet s → t ≡ length s
    unfolding IsSheet
    sheet-ends t hn f (m, v, w) =
        let o = opened-sheet s bytes m v w in
        let k = good m v o in
        let g = both-free write_side (OkSide n) (λ d e. write_side e) (λ d e. OkSide n e) (side-free n hn) (λ d. side-free n hn)
        f.0.0 m.horizontal f.0.1 m.vertical (drop t s) [] f.1.0 k.0 f.1.1 k.1 (sym f.3 ∙ whole m o) in
        omega (arith, ap length g.2, length-drop t s, f.2)

    sheet-good : (t : ℕ) → 1 ≤ n → n ≤ 65535 → 4 ≤ length s → Found sides_bytes (OkSides n) s 4 t → t ≡ length s → IsSheet s
    unfolding IsSheet write
    sheet-good t h k l f e =
        let x = f.0 in (
          record { glyphs = n; horizontal = x.0; vertical = x.1 },
          record { some-glyph = h; few-glyphs = k; horizontal = f.1.0; vertical = f.1.1 },
          sym (be32-at s bytes 0 l ∙ ap₂ (λ (j : ℕ) (r : List ℕ). be32 j ++ r) (sym en)
              (f.3 ∙ ap (λ (r : List ℕ). sides_bytes x ++ r) (ap (λ (j : ℕ). drop j s) e ∙ drop-length s) ∙ append-nil (sides_bytes x))),
        )

    -- both directions stand there, and whether nothing follows
    pub sheet-says : (t : ℕ) → 1 ≤ n → n ≤ 65535 → 4 ≤ length s → Found sides_bytes (OkSides n) s 4 t → Says (eqb t (length s)) (IsSheet s)
    sheet-says t h k l f = says-equal t (length s) (IsSheet s) (sheet-good t h k l f) (sheet-ends t (omega arith) f)
