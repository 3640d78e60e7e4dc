-- The sheet by its parts as they are stored, and what an accepted table gives them.
use Prim.Native.Nat.{ℕ, suc, ◌+◌, ◌-◌, ◌≤◌, ◌<◌, min}
use mathlib.Core.Path.{◌≡◌, refl, sym, ap, ap₂, ◌∙◌}
use mathlib.Core.List.{List, [], ◌∷◌, ◌++◌}
use native.Mathlib.Omega.{arith}
use native.Mathlib.Decide.{dec_lt}
use lib.ListN.{length, drop, take, set, length-append, get_or}
use lib.Seq.{sets, length-sets, sets-eq, slice, take_at, drop_at, length-take-le, slice-cons, slice_empty, take-set-le}
use borrow.Author.Tests.{le-leb, lt-leb}
use Rattle.fields.specs.declared.Refusal.{Refusal}
use Rattle.fields.specs.Faults.{FirstFault}
use Rattle.fields.specs.Faults.{Clear, Bad}
use Rattle.fields.specs.Field.{be32}
use Rattle.fields.specs.Stores.{sets-out, put_two}
use Rattle.fields.specs.Refusals.{number_of}
use Rattle.fields.proofs.Laws.{then-first}
use Rattle.types.specs.declared.Direction.TheVariants.{Horizontal, Vertical}
use Rattle.meaning.specs.Sheet.{write}
use Rattle.table.specs.Table.{direction_at, header_fault, table_fault}
use Rattle.table.specs.Means.{meaning_of}
use Rattle.table.proofs.Laws.{few-glyphs}
use Rattle.write_direction.specs.Side.{side_bytes}
use Rattle.sheet_write.specs.Written.{sheet_of, refused, bytes, length_by, sheet_length, stored, written_by, written, Draft}

-- ---- the sheet

module _ (t : List ℕ) (n : ℕ) where
  pub sheet-parts : sheet_of t n ≡ be32 n ++ (side_bytes t n (direction_at t Horizontal) ++ side_bytes t n (direction_at t Vertical))
  unfolding sheet_of write meaning_of side_bytes
  sheet-parts = refl

  pub sheet-length : length (sheet_of t n) ≡ 4 + length (side_bytes t n (direction_at t Horizontal)) + length (side_bytes t n (direction_at t Vertical))
  sheet-length = omega (arith, ap length sheet-parts, length-append (side_bytes t n (direction_at t Horizontal)) (side_bytes t n (direction_at t Vertical)))

  module _ (e : table_fault t n ≡ Clear) where
    header-clear : header_fault t n ≡ Clear
    unfolding table_fault
    header-clear = then-first _ _ e

    pub glyphs-few : n < 65536
    glyphs-few = omega (arith, few-glyphs t n header-clear)

  -- the number of glyphs stored, then the one direction, then the other
  module _ (first second end r : ℕ) (e₁ : first ≡ direction_at t Horizontal) (e₂ : second ≡ direction_at t Vertical) (p : end ≡ 4 + length (side_bytes t n first))
      (q : r ≡ end + length (side_bytes t n second)) where
    pub parts-length : r ≡ length (sheet_of t n)
    parts-length =
        omega (arith, sheet-length, ap (λ (a : ℕ). length (side_bytes t n a)) e₁, ap (λ (a : ℕ). length (side_bytes t n a)) e₂)

    pub parts-stored : (l₀ l₁ l₂ l₃ : List ℕ) → l₁ ≡ sets l₀ 0 (be32 n) → l₂ ≡ sets l₁ 4 (side_bytes t n first) → l₃ ≡ sets l₂ end (side_bytes t n second)
        → l₃ ≡ sets l₀ 0 (sheet_of t n)
    parts-stored l₀ l₁ l₂ l₃ a b c =
        let h = side_bytes t n first in
        let v = side_bytes t n second in
        put_two (be32 n) (h ++ v) l₀ l₁ l₃ 0 4 refl a (put_two h v l₁ l₂ l₃ 4 end p b c)
        ∙ ap₂ (λ (x y : ℕ). sets l₀ 0 (be32 n ++ (side_bytes t n x ++ side_bytes t n y))) e₁ e₂
        ∙ ap (sets l₀ 0) (sym sheet-parts)

-- ---- the room

sets-cons : (x : ℕ) (l xs : List ℕ) (i : ℕ) → sets (x ∷ l) (suc i) xs ≡ x ∷ sets l i xs
sets-cons x l [] i = refl
sets-cons x l (y ∷ xs) i = sets-cons x (set l i y) xs (suc i)

-- bytes that fit, stored from the start on
pub sets-front : (xs l : List ℕ) → length xs ≤ length l → sets l 0 xs ≡ xs ++ drop (length xs) l
sets-front [] l h = refl
sets-front (x ∷ xs) [] h = absurd (omega arith)
sets-front (x ∷ xs) (y ∷ l) h = sets-cons x l xs 0 ∙ ap (λ (r : List ℕ). x ∷ r) (sets-front xs l (omega arith))

pub stored-fits : (sheet room after : List ℕ) (n : ℕ) → n ≡ length sheet → n ≤ length room → after ≡ sheet ++ drop n room
    → record { said = bytes n; room = after } ≡ stored sheet room
unfolding stored
stored-fits sheet room after n e h s =
    let l : length sheet ≤ length room = omega arith in
    ap₂ (λ (k : ℕ) (r : List ℕ). record { said = bytes k; room = r }) e (s ∙ ap (λ (k : ℕ). sheet ++ drop k room) e) ∙ simp (le-leb (length sheet) (length room) l)

pub stored_short : (sheet room : List ℕ) (n : ℕ) → n ≡ length sheet → length room < n → record { said = refused 16 0; room = room } ≡ stored sheet room
unfolding stored
stored_short sheet room n e h = let l : length room < length sheet = omega arith in simp (lt-leb (length sheet) (length room) l)

-- ---- by the table's fault, as it was found

module _ (t : List ℕ) (n : ℕ) where
  pub length-bad : (r : Refusal) (at : ℕ) → table_fault t n ≡ Bad r at → refused (number_of r) at ≡ sheet_length t n
  unfolding sheet_length
  length-bad r at e = ap (λ (f : FirstFault). length_by f (sheet_of t n)) (sym e)

  pub length-clear : (k : ℕ) → table_fault t n ≡ Clear → k ≡ length (sheet_of t n) → bytes k ≡ sheet_length t n
  unfolding sheet_length
  length-clear k e l = ap bytes l ∙ ap (λ (f : FirstFault). length_by f (sheet_of t n)) (sym e)

  pub written-bad : (room : List ℕ) (r : Refusal) (at : ℕ) → table_fault t n ≡ Bad r at → record { said = refused (number_of r) at; room = room } ≡ written t n room
  unfolding written written_by
  written-bad room r at e = ap (λ (f : FirstFault). written_by f (sheet_of t n) room) (sym e)

  pub written-clear : (room : List ℕ) → table_fault t n ≡ Clear → stored (sheet_of t n) room ≡ written t n room
  unfolding written written_by
  written-clear room e = ap (λ (f : FirstFault). written_by f (sheet_of t n) room) (sym e)

-- ---- the draft

take-front : (xs l : List ℕ) → take (length xs) (xs ++ l) ≡ xs
take-front [] l = refl
take-front (x ∷ xs) l = ap (λ (r : List ℕ). x ∷ r) (take-front xs l)

pub drafted : (sheet draft after : List ℕ) → after ≡ sets draft 0 sheet → Draft sheet after
drafted sheet draft after e h =
    let l : length sheet ≤ length draft = omega (arith, h, ap length e, length-sets draft 0 sheet) in
    ap (take (length sheet)) (e ∙ sets-front sheet draft l) ∙ take-front sheet (drop (length sheet) draft)

pub ruleset by_draft = (sets-front, stored-fits, stored_short, drafted)

-- ---- bytes stored once more, after themselves

-- after i of them
module _ (l all : List ℕ) (from end i : ℕ) (e : sets l (end + i) (slice (from + i) end l) ≡ all) where
  pub once_more : from + i < end → end ≤ length l
      → sets (set l (end + i) (get_or l (from + i) 0)) (end + (i + 1)) (slice (from + (i + 1)) end (set l (end + i) (get_or l (from + i) 0))) ≡ all
  once_more h k =
      let b = get_or l (from + i) 0 in
      let p : end + (i + 1) ≡ suc (end + i) = omega arith in
      let q : from + (i + 1) ≡ suc (from + i) = omega arith in
      let o : end ≤ end + i = omega arith in
      ap (λ (bs : List ℕ). sets (set l (end + i) b) (end + (i + 1)) bs) (ap (drop (from + (i + 1))) (take-set-le end l (end + i) b o))
      ∙ ap₂ (λ (x y : ℕ). sets (set l (end + i) b) x (slice y end l)) p q
      ∙ ap (sets l (end + i)) (sym (slice-cons (from + i) end l 0 h k))
      ∙ e

  pub once-all : from ≤ end → min (end - from) (length l - end) ≤ i → i ≤ end - from → l ≡ all
  once-all f h k = go (dec_lt (from + i) end)
    where
      go : Dec (from + i < end) → l ≡ all
      go (yes p) =
          let o : length l ≤ end + i = omega arith in
          sym (sets-out (slice (from + i) end l) l (end + i) o) ∙ e
      go (no p) =
          let q : end ≡ from + i = omega (arith, p) in
          ap (sets l (end + i)) (sym (slice_empty end l) ∙ ap (λ (x : ℕ). slice x end l) q) ∙ e

-- bytes that were stored stand there, as far as the room goes
stand : (bs l₀ l₁ : List ℕ) (at end : ℕ) → end ≡ at + length bs → end ≤ length l₁ → l₁ ≡ sets l₀ at bs → slice at end l₁ ≡ bs
stand bs l₀ l₁ at end e h s =
    let o : at + length bs ≤ length l₀ = omega (arith, h, ap length s, length-sets l₀ at bs) in
    let a : at ≤ length l₀ = omega arith in
    let f = take at l₀ in
    let n : length f ≡ at = length-take-le at l₀ a in
    let m : length (f ++ bs) ≡ end = omega (arith, length-append f bs) in
    let t : take end l₁ ≡ f ++ bs = ap (take end) (s ∙ sets-eq bs l₀ at o) ∙ take_at (f ++ bs) (drop (at + length bs) l₀) end m in
    ap (drop at) t ∙ drop_at f bs at n

-- a store, and what it stored copied after it
pub put-twice : (bs l₀ l₁ l₂ : List ℕ) (at end : ℕ) → end ≡ at + length bs → l₁ ≡ sets l₀ at bs → l₂ ≡ sets l₁ end (slice at end l₁) → l₂ ≡ sets l₁ end bs
put-twice bs l₀ l₁ l₂ at end e s c = c ∙ go (dec_lt (length l₁) end)
  where
    go : Dec (length l₁ < end) → sets l₁ end (slice at end l₁) ≡ sets l₁ end bs
    go (yes p) =
        let o : length l₁ ≤ end = omega arith in
        sets-out (slice at end l₁) l₁ end o ∙ sym (sets-out bs l₁ end o)
    go (no p) = ap (sets l₁ end) (stand bs l₀ l₁ at end e (omega (arith, p)) s)
