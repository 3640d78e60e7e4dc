-- Laws of a line by the machine of a table: its classes, what an accepted machine gives the walk, and the walk as it is handed out. Assumes nothing.
use Prim.Native.Nat.{ℕ, zero, suc, ◌≤◌, ◌<◌}
use mathlib.Core.Path.{◌≡◌, refl, ap, sym, subst}
use mathlib.Core.Logic.{◌⊎◌, inl, inr}
use mathlib.Core.Bool.{Bool}
use mathlib.Core.List.{List, [], ◌∷◌, map}
use native.Mathlib.Omega.{arith}
use native.Mathlib.Decide.{ℕ_discrete}
use lib.ListN.{length, get_or, length-map}
use borrow.Author.Tests.{eq-eqb, ne_eqb}
use Rattle.machine.specs.Cells.{class_at, class_count}
use Rattle.std.specs.Prelude.{Option, Some, None}
use Rattle.class_walk.specs.Walk.{Conf, Walk, going, stopped, Fits}
use Rattle.class_walk.specs.Line.{machine_at, line_of, line_column, line_columns, handed_out, HandedOut, SoundMachine, Columns}

-- ---- the machine's classes of a line

get_d_map : (f : ℕ → ℕ) (xs : List ℕ) (k : ℕ) → k < length xs → get_or (map f xs) k 0 ≡ f (get_or xs k 0)
get_d_map f [] k h = absurd (omega arith)
get_d_map f (x ∷ xs) zero h = refl
get_d_map f (x ∷ xs) (suc k) h = get_d_map f xs k (omega arith)

pub fits-of : {t : List ℕ} {here : ℕ} {columns : List ℕ} (starts ends : Bool) → SoundMachine t here → Columns t here columns → Fits (machine_at t here) (line_of columns starts ends)
fits-of starts ends ok line =
    record { rows-low = ok.rows-low; classes-low = ok.classes-low; closed = ok.closed; columns-low = line.low }

-- glyphs below N whose classes are below the class count, and deleted ones
module _ (t : List ℕ) (here n : ℕ) (four : 4 ≤ class_count t here) (below : (glyph : ℕ) → glyph < n → class_at t here glyph < class_count t here) where
  pub line-column-low : (glyph : ℕ) → (glyph ≡ 0xFFFF) ⊎ (glyph < n) → line_column t here glyph < class_count t here
  line-column-low glyph w = go (ℕ_discrete glyph 0xFFFF) w
    where
      go : Dec (glyph ≡ 0xFFFF) → (glyph ≡ 0xFFFF) ⊎ (glyph < n) → line_column t here glyph < class_count t here
      go (yes e) w = rw (eq-eqb glyph 0xFFFF e) (omega arith)
      go (no e) (inl q) = absurd (e q)
      go (no e) (inr q) = rw (ne_eqb glyph 0xFFFF e) (below glyph q)

  pub columns_of_lem : (line : List ℕ) → length line ≤ 1024 → ((place : ℕ) → place < length line → (get_or line place 0 ≡ 0xFFFF) ⊎ (get_or line place 0 < n))
      → Columns t here (line_columns t here line)
  columns_of_lem line short each =
      let e : length (line_columns t here line) ≡ length line = length-map line (line_column t here) in
      record {
        short = omega arith;
        low = λ place h.
            let h' : place < length line = omega arith in
            rw (get_d_map (line_column t here) line place h') (line-column-low (get_or line place 0) (each place h'));
      }

-- ---- the walk as it is handed out

pub handed-stopped : {w : Walk} (cs : List ℕ) (k : ℕ) → w ≡ stopped cs k → HandedOut w (Some k) cs
unfolding handed_out
handed-stopped cs k e = record { says = sym (ap handed_out e); classes = λ cs' k' e'. cc }

pub handed-never : {w : Walk} (s : Conf) (room : List ℕ) → w ≡ going s → HandedOut w None room
unfolding handed_out
handed-never s room e = record { says = sym (ap handed_out e); classes = λ cs k e'. cc }

-- of two walks that are the same, the one is handed out as the other
pub handed-same : {v w : Walk} {r : Option ℕ} {room : List ℕ} → v ≡ w → HandedOut v r room → HandedOut w r room
handed-same {v} {w} {r} {room} e h = subst (λ (x : Walk). HandedOut x r room) e h

-- what is known of a walk by what was handed out
pub handed-ended : (w : Walk) (k : ℕ) (room : List ℕ) → HandedOut w (Some k) room → w ≡ stopped room k
unfolding handed_out
handed-ended (going s) k room h = let e : Some k ≡ None = h.says in cc
handed-ended (stopped cs n) k room h = let e : Some k ≡ Some n = h.says in let l = h.classes cs n refl in cc

pub handed-going : (w : Walk) (room : List ℕ) → HandedOut w None room → (s : Conf) × (w ≡ going s)
unfolding handed_out
handed-going (going s) room h = (s, refl)
handed-going (stopped cs n) room h = let e : None ≡ Some n = h.says in absurd (cc)
