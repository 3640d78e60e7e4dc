-- A meaning (document 01, "The sheet"), as plain data: N and, for each direction, a machine or none, the width records of every glyph and the
-- actions of every glyph, records and actions as the sheet writes them.
use Rattle.std.specs.Prelude.{ℕ, List, [], replicate}
use Rattle.std.proofs.Math.Option.{Option, none}
use Rattle.types.specs.declared.Entry.{Entry}
use Rattle.types.specs.declared.Pair.{Pair}

-- a class machine: the row count S, the class count, the class of every glyph below N, and the cells row by row
pub record Machine : Type 0 where
  pub rows : ℕ
  pub classes : ℕ
  pub columns : List ℕ
  pub cells : List Entry

-- an action: its class, its type, and the bytes of its data without padding
pub record Action : Type 0 where
  pub class : ℕ
  pub ty : ℕ
  pub content : List ℕ

-- one direction. The lists have an element for each glyph below N: its width records by rising class, [] where it has none, and its actions in order, [] where it has none
pub record Side : Type 0 where
  pub machine : Option Machine
  pub clusters : List (List Pair)
  pub lists : List (List Action)

-- a direction with nothing in it: no machine, no width records, no actions
unfoldable pub empty_side : ℕ → Side
empty_side n = record { machine = none; clusters = replicate n []; lists = replicate n [] }

pub record Meaning : Type 0 where
  pub glyphs : ℕ
  pub horizontal : Side
  pub vertical : Side
