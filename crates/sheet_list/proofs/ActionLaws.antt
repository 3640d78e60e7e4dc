-- What the reader of an action concludes.
use Prim.Native.Nat.{ℕ, suc, ◌+◌, ◌≤◌, ◌<◌}
use mathlib.Core.Path.{◌≡◌, refl, sym, ap, ap₂, ◌∙◌, subst}
use mathlib.Core.List.{List, [], ◌∷◌, ◌++◌}
use native.Mathlib.Omega.{arith}
use lib.ListN.{length, get_or, take, drop, length-drop, length-append, take-append-drop}
use lib.Seq.{take_at, drop-drop, get_or-take, get_or-drop}
use Rattle.fields.specs.Field.{be16, be32, u16_at, u32_at, Bytes}
use Rattle.fields.proofs.Laws.{u16_at-fits, u32_at-fits}
use Rattle.encoding.specs.Codes.{All, many, Found, Absent}
use Rattle.encoding.specs.Sections.{byte}
use Rattle.encoding.proofs.CodeLaws.{be16-free, be32-free}
use Rattle.encoding.proofs.SectionLaws.{many-byte}
use Rattle.sheet_sections.proofs.SectionLaws.{field16, field32}
use Rattle.meaning.specs.Meaning.{Action}
use Rattle.meaning.specs.Limits.{OkAction}
use Rattle.meaning.specs.Sheet.{action_code}
use Rattle.sheet_list.specs.Action.{bytes_at, action_at, GoodAction}
use Rattle.sheet_list.proofs.ContentLaws.{bytes-length}

all-bytes : (s : List ℕ) → ((i : ℕ) → i < length s → get_or s i 0 < 256) → All (λ (b : ℕ). b < 256) s
all-bytes [] h = tt
all-bytes (x ∷ s) h = (h 0 (omega arith), all-bytes s (λ i l. h (suc i) (omega arith)))

module _ (n : ℕ) (s : List ℕ) (bytes : Bytes s) (at : ℕ) where
  -- an action that stands there is the one that is read there
  record Opened (a : Action) : Type 0 where
    room : at + 8 + u32_at s (at + 4) ≤ length s
    is : a ≡ action_at s at (u32_at s (at + 4))
    size : length a.content ≡ u32_at s (at + 4)

  opened : (a : Action) (rest : List ℕ) → OkAction n a → drop at s ≡ action_code a ++ rest → Opened a
  opened a rest o e =
      let K = a.class in
      let T = a.ty in
      let C = a.content in
      let z = u32_at s (at + 4) in
      let e1 : drop at s ≡ be16 K ++ (be16 T ++ (be32 (length C) ++ (many byte C ++ rest))) = e in
      let r : at + 8 ≤ length s = omega (arith, ap length e1, length-drop at s, length-append (be32 (length C)) (many byte C ++ rest)) in
      let f = be16-free (u16_at s at) K (drop (at + 2) s) (be16 T ++ (be32 (length C) ++ (many byte C ++ rest))) (u16_at-fits s at bytes) (omega (arith, o.0))
      (sym (field16 s bytes at (at + 2) refl (omega arith)) ∙ e1) in
      let g = be16-free (u16_at s (at + 2)) T (drop (at + 4) s) (be32 (length C) ++ (many byte C ++ rest)) (u16_at-fits s (at + 2) bytes) (omega (arith, o.1))
      (sym (field16 s bytes (at + 2) (at + 4) (omega arith) (omega arith)) ∙ f.1) in
      let h = be32-free z (length C) (drop (at + 8) s) (many byte C ++ rest) (u32_at-fits s (at + 4) bytes) (omega (arith, o.2))
      (sym (field32 s bytes (at + 4) (at + 8) (omega arith) (omega arith)) ∙ g.1) in
      let d : drop (at + 8) s ≡ C ++ rest = h.1 ∙ ap (λ (l : List ℕ). l ++ rest) (many-byte C) in
      let c : C ≡ bytes_at s (at + 8) z = sym (ap (λ (l : List ℕ). take z l) d ∙ take_at C rest z (sym h.0)) in
      record {
        room = omega (arith, ap length d, length-drop (at + 8) s, length-append C rest, h.0, r);
        is = λ i. record { class = sym f.0 i; ty = sym g.0 i; content = c i };
        size = sym h.0;
      }

  pub action-short : (at + 8 ≤ length s → ⊥) → Absent action_code (OkAction n) s at
  action-short h a rest o e = h (omega (arith, (opened a rest o e).room))

  pub action-bad : (size : ℕ) → size ≡ u32_at s (at + 4) → (GoodAction n s at size → ⊥) → Absent action_code (OkAction n) s at
  action-bad size es k a rest o e =
      let h = subst (λ (z : ℕ). GoodAction n s at z → ⊥) es k in
      let x = opened a rest o e in
      let g : OkAction n (action_at s at (u32_at s (at + 4))) = subst (OkAction n) x.is o in
      h (record { room = x.room; small = omega (arith, x.size, o.2); class = g.0; ty = g.1; content = g.4 })

  good : GoodAction n s at (u32_at s (at + 4)) → Found action_code (OkAction n) s at (at + 8 + u32_at s (at + 4))
  good g =
      let z = u32_at s (at + 4) in
      let C = bytes_at s (at + 8) z in
      let l : length C ≡ z = bytes-length s (at + 8) z g.room in (
        action_at s at z,
        (g.class, g.ty, omega (arith, l, g.small), all-bytes C (λ i j. low i (omega (arith, l))), g.content),
        g.room,
        field16 s bytes at (at + 2) refl (omega (arith, g.room))
            ∙ ap (λ (r : List ℕ). be16 (u16_at s at) ++ r) (field16 s bytes (at + 2) (at + 4) (omega arith) (omega (arith, g.room))
            ∙ ap (λ (r : List ℕ). be16 (u16_at s (at + 2)) ++ r) (field32 s bytes (at + 4) (at + 8) (omega arith) (omega (arith, g.room))
            ∙ ap₂ (λ (x : ℕ) (r : List ℕ). be32 x ++ r) (sym l) (sym (take-append-drop z (drop (at + 8) s))
            ∙ ap₂ (λ (u v : List ℕ). u ++ v) (sym (many-byte C)) (drop-drop z (at + 8) s)))),
      )
    where
      low : (i : ℕ) → i < u32_at s (at + 4) → get_or (bytes_at s (at + 8) (u32_at s (at + 4))) i 0 < 256
      low i j = subst (λ (x : ℕ). x < 256) (sym (get_or-take (u32_at s (at + 4)) (drop (at + 8) s) i 0 j ∙ get_or-drop (at + 8) s i 0)) (bytes (at + 8 + i))

  pub action-good : (size : ℕ) → size ≡ u32_at s (at + 4) → GoodAction n s at size → Found action_code (OkAction n) s at (at + 8 + size)
  action-good size es k =
      let g = subst (GoodAction n s at) es k in
      subst (λ (z : ℕ). Found action_code (OkAction n) s at (at + 8 + z)) (sym es) (good g)
