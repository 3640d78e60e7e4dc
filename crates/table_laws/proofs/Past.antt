-- What a meaning has of glyphs that are not the font's (document 01, "The sheet": its glyphs are those below N; "Numbers": glyph 0xFFFF is a deleted glyph): no class,
-- no width record and no action.
use Prim.Native.Nat.{ℕ, ◌+◌, ◌≤◌}
use mathlib.Core.Path.{◌≡◌, refl, ap}
use mathlib.Core.Bool.{Bool, true, false, cond}
use mathlib.Core.Option.{none, some}
use mathlib.Core.List.{List, []}
use native.Mathlib.Omega.{arith}
use lib.Dec.{eqb}
use lib.ListN.{length, get_elem?, replicate, length-replicate, get_or-eq_default}
use Rattle.fields.specs.Field.{u16_at}
use Rattle.fields.proofs.Laws.{then-first}
use Rattle.encoding.specs.Upto.{upto}
use Rattle.encoding.proofs.UptoLaws.{length_from, elem_past}
use Rattle.types.specs.declared.Direction.{Direction}
use Rattle.types.specs.declared.Direction.TheVariants.{Horizontal, Vertical}
use Rattle.types.specs.declared.Pair.{Pair}
use Rattle.meaning.specs.Meaning.{Machine, Action, empty_side}
use Rattle.meaning.specs.Ask.{class, width, action, along, nothing, number, pair, act, maybe, record_of, ask_side, ask}
use Rattle.machine.specs.Cells.{class_at}
use Rattle.lookup_targets.specs.Values.{cluster_of, list_of}
use Rattle.table.specs.Table.{machine_offset, width_offset, action_offset, width_lookup, Accepted, table_fault}
use Rattle.table.specs.Means.{machine_at, machine_of, lists_of, side_at, direction_of, meaning_of}
use Rattle.table_laws.proofs.Faults.{good-header}

module _ (t : List ℕ) (n : ℕ) where
  -- ---- a direction has something for the glyphs below N only

  lists-count : (offset : ℕ) → length (lists_of t n offset) ≡ n
  unfolding lists_of
  lists-count offset = go (eqb offset 0)
    where
      go : (b : Bool) → length (cond b (replicate n []) (upto (list_of t n offset offset) n)) ≡ n
      go true = length-replicate n []
      go false = length_from (list_of t n offset offset) n 0

  direction-clusters : (at : ℕ) → length (direction_of t n at).clusters ≡ n
  unfolding direction_of empty_side side_at
  direction-clusters at = go (eqb at 0)
    where
      go : (b : Bool) → length (cond b (empty_side n) (side_at t n at)).clusters ≡ n
      go true = length-replicate n []
      go false = length_from (cluster_of t n (width_lookup at) (width_offset t at)) n 0

  direction-lists : (at : ℕ) → length (direction_of t n at).lists ≡ n
  unfolding direction_of empty_side side_at
  direction-lists at = go (eqb at 0)
    where
      go : (b : Bool) → length (cond b (empty_side n) (side_at t n at)).lists ≡ n
      go true = length-replicate n []
      go false = lists-count (action_offset t at)

  module _ (g : ℕ) (past : n ≤ g) where
    machine-past : (offset : ℕ) → maybe (λ (m : Machine). maybe number (get_elem? m.columns g)) (machine_of t n offset) ≡ nothing
    unfolding machine_of machine_at
    machine-past offset = go (eqb offset 0)
      where
        go : (b : Bool) → maybe (λ (m : Machine). maybe number (get_elem? m.columns g)) (cond b none (some (machine_at t n (offset + 8)))) ≡ nothing
        go true = refl
        go false = ap (maybe number) (elem_past (class_at t (offset + 8)) n 0 g past)

    class-past : (at : ℕ) → ask_side (direction_of t n at) (class g) ≡ nothing
    unfolding ask_side direction_of empty_side side_at
    class-past at = go (eqb at 0)
      where
        go : (b : Bool) → ask_side (cond b (empty_side n) (side_at t n at)) (class g) ≡ nothing
        go true = refl
        go false = machine-past (machine_offset t at)

    width-past : (at c : ℕ) → ask_side (direction_of t n at) (width g c) ≡ nothing
    unfolding ask_side
    width-past at c =
        let h : length (direction_of t n at).clusters ≤ g = omega (arith, direction-clusters at) in
        ap (λ (l : List Pair). maybe pair (record_of c l)) (get_or-eq_default (direction_of t n at).clusters [] h)

    action-past : (at k : ℕ) → ask_side (direction_of t n at) (action g k) ≡ nothing
    unfolding ask_side
    action-past at k =
        let h : length (direction_of t n at).lists ≤ g = omega (arith, direction-lists at) in
        ap (λ (l : List Action). maybe act (get_elem? l k)) (get_or-eq_default (direction_of t n at).lists [] h)

    -- a glyph at or past N has no class in the meaning, though a machine reads class 1 for a glyph that its class table does not cover
    pub no-class-past : (d : Direction) → ask (meaning_of t n) (along d (class g)) ≡ nothing
    unfolding ask meaning_of
    no-class-past Horizontal = class-past (u16_at t 6)
    no-class-past Vertical = class-past (u16_at t 8)

    -- and no width record of any class
    pub no-record-past : (d : Direction) (c : ℕ) → ask (meaning_of t n) (along d (width g c)) ≡ nothing
    unfolding ask meaning_of
    no-record-past Horizontal c = width-past (u16_at t 6) c
    no-record-past Vertical c = width-past (u16_at t 8) c

    -- and no action of any number
    pub no-action-past : (d : Direction) (k : ℕ) → ask (meaning_of t n) (along d (action g k)) ≡ nothing
    unfolding ask meaning_of
    no-action-past Horizontal k = action-past (u16_at t 6) k
    no-action-past Vertical k = action-past (u16_at t 8) k

  -- an accepted table has at most 65,535 glyphs, so the deleted glyph is never one of them
  pub few-glyphs : Accepted t n → n ≤ 0xFFFF
  unfolding Accepted table_fault
  few-glyphs e = ((good-header t n).0 (then-first _ _ e)).few

  -- in an accepted table's meaning a deleted glyph has no class, no width record and no action
  pub deleted-none : Accepted t n → (d : Direction)
      → (ask (meaning_of t n) (along d (class 0xFFFF)) ≡ nothing)
      × ((c : ℕ) → ask (meaning_of t n) (along d (width 0xFFFF c)) ≡ nothing)
      × ((k : ℕ) → ask (meaning_of t n) (along d (action 0xFFFF k)) ≡ nothing)
  deleted-none e d =
      let h : n ≤ 0xFFFF = few-glyphs e in (no-class-past 0xFFFF h d, no-record-past 0xFFFF h d, no-action-past 0xFFFF h d)
