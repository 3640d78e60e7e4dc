-- The parts of a meaning that may be asked for (document 01, "The sheet"): N and, by direction, S and class count, a glyph's class, a cell by row and
-- class, a width record by glyph and class, an action by glyph and number; where there is nothing, the answer is nothing.
use Rattle.std.specs.Prelude.{ℕ, ◌+◌, ◌-◌, ◌*◌, cond, ◌&&◌, List, [], ◌∷◌, ◌++◌, ltb, eqb, length, get_or, replicate}
use Rattle.std.proofs.Math.Option.{Option, none, some}
use Rattle.std.proofs.Math.ListN.{get_elem?}
use Rattle.types.specs.declared.Direction.{Direction}
use Rattle.types.specs.declared.Direction.TheVariants.{Horizontal, Vertical}
use Rattle.types.specs.declared.Entry.{Entry}
use Rattle.types.specs.declared.Pair.{Pair}
use Rattle.types.specs.declared.HeldAction.{HeldAction}
use Rattle.meaning.specs.Meaning.{Machine, Action, Side, Meaning}

-- a part of one direction: S and class count; the class of a glyph; the cell of a row and a class; the width record of a glyph and a class;
-- the action of a glyph and a number
pub data Part : Type 0 where
  sizes : Part
  class : ℕ → Part
  cell : ℕ → ℕ → Part
  width : ℕ → ℕ → Part
  action : ℕ → ℕ → Part

pub data Question : Type 0 where
  glyph_count : Question
  along : Direction → Part → Question

pub data Answer : Type 0 where
  nothing : Answer
  number : ℕ → Answer
  both : ℕ → ℕ → Answer
  entry : Entry → Answer
  pair : Pair → Answer
  act : Action → Answer

-- what a part is, or nothing
abbrev pub maybe : {A : Type 0} → (A → Answer) → Option A → Answer
maybe f none = nothing
maybe f (some x) = f x

-- the cell of a row and a class
abbrev pub cell_of : Machine → ℕ → ℕ → Option Entry
cell_of m r c = cond (ltb r m.rows && ltb c m.classes) (get_elem? m.cells (r * m.classes + c)) none

-- the record of a class in a cluster
abbrev pub record_of : ℕ → List Pair → Option Pair
record_of c [] = none
record_of c (p ∷ ps) = cond (eqb p.class c) (some p) (record_of c ps)

abbrev pub side_of : Direction → Meaning → Side
side_of Horizontal m = m.horizontal
side_of Vertical m = m.vertical

unfoldable pub ask_side : Side → Part → Answer
ask_side s sizes = maybe (λ (m : Machine). both m.rows m.classes) s.machine
ask_side s (class g) = maybe (λ (m : Machine). maybe number (get_elem? m.columns g)) s.machine
ask_side s (cell r c) = maybe (λ (m : Machine). maybe entry (cell_of m r c)) s.machine
ask_side s (width g c) = maybe pair (record_of c (get_or s.clusters g []))
ask_side s (action g k) = maybe act (get_elem? (get_or s.lists g []) k)

unfoldable pub ask : Meaning → Question → Answer
ask m glyph_count = number m.glyphs
ask m (along d p) = ask_side (side_of d m) p

-- an action as it is handed out: its data, then zeros up to 76 bytes
abbrev pub held : Action → HeldAction
held a =
    record { class = a.class; ty = a.ty; size = length a.content; bytes = a.content ++ replicate (76 - length a.content) 0 }
