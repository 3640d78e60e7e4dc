-- What is read at the places of specs/Places.antt is what the table's meaning answers: a law for each outcome of each part.
use Rattle.lookup_targets.specs.Values.{from_lookup}
use Rattle.std.specs.Prelude.{None, Option, Some}
use Prim.Native.Nat.{ℕ, zero, suc, ◌+◌, ◌*◌, ◌≤◌, ◌<◌}
use mathlib.Core.Path.{◌≡◌, refl, sym, ap, ◌∙◌}
use mathlib.Core.Bool.{Bool, true, false, cond, ◌&&◌}
use mathlib.Core.Option.{none, some}
use mathlib.Core.List.{List, []}
use native.Mathlib.Omega.{arith}
use native.Mathlib.Decide.{dec_lt}
use lib.Dec.{ltb, eqb}
use lib.ListN.{get_or, get_elem?, replicate, get_or-eq_default}
use borrow.Author.Tests.{eq-eqb, ne_eqb, lt-ltb, le-ltb}
use Rattle.types.specs.declared.Direction.{Direction}
use Rattle.types.specs.declared.Direction.TheVariants.{Horizontal, Vertical}
use Rattle.types.specs.declared.Pair.{Pair}
use Rattle.encoding.specs.Upto.{upto}
use Rattle.encoding.proofs.UptoLaws.{length_from, get_or-upto, elem-upto, elem_past}
use Rattle.meaning.specs.Meaning.{Machine, Action, Side, empty_side}
use Rattle.meaning.specs.Ask.{Part, sizes, class, cell, width, action, along, Answer, nothing, number, both, entry, pair, act, maybe, cell_of, record_of, side_of, ask_side, ask}
use Rattle.machine.specs.Cells.{class_count, class_at, cell_at}
use Rattle.machine.specs.Rows.{row_count}
use Rattle.lookup.specs.Find.{value_of}
use Rattle.actions.specs.Actions.{spot_in_list}
use Rattle.actions.proofs.Laws.{place_at, place_none}
use Rattle.lookup_targets.specs.declared.Kind.{Kind}
use Rattle.lookup_targets.specs.declared.Kind.TheVariants.{Clusters, Lists}
use Rattle.lookup_targets.specs.Values.{spot_of, cluster_here, list_here, cluster_of, list_of}
use Rattle.table.specs.Table.{direction_at, machine_offset, width_offset, action_offset, width_lookup, machine_place, source_at}
use Rattle.table.specs.Means.{cell_by, machine_at, machine_of, lists_of, side_at, direction_of, meaning_of}
use Rattle.table_ask.specs.Places.{machine_in, headed, lookup_in, spot_by, spot_in, numbered, action_spot, action_here}
use Rattle.table_ask.proofs.Rows.{cell-by, index_below}

-- ---- lists of N elements

get_or-none : {A : Type 0} (n g : ℕ) → get_or (replicate {A = List A} n []) g [] ≡ []
get_or-none {A} n g = go n g
  where
    go : (m k : ℕ) → get_or (replicate {A = List A} m []) k [] ≡ []
    go zero k = refl
    go (suc m) zero = refl
    go (suc m) (suc k) = go m k

-- a glyph past N has no value, so what it would have is nothing
pub value-past : (t : List ℕ) (n at g : ℕ) → n ≤ g → (k : Kind) (base : ℕ) → spot_of k base (value_of t n at g) ≡ None
unfolding value_of
value-past t n at g h k base = simp (le-ltb g n h)

module _ (t : List ℕ) (n at base g : ℕ) where
  cluster-of : get_or (upto (cluster_of t n at base) n) g [] ≡ cluster_of t n at base g
  unfolding cluster_of
  cluster-of = go (dec_lt g n)
    where
      go : Dec (g < n) → get_or (upto (cluster_of t n at base) n) g [] ≡ cluster_of t n at base g
      go (yes h) = get_or-upto (cluster_of t n at base) n g [] h
      go (no h) =
          let e : n ≤ g = omega arith in
          get_or-eq_default (upto (cluster_of t n at base) n) [] {n = g} (rw (length_from (cluster_of t n at base) n 0) e) ∙ sym (ap (cluster_here t) (value-past t n at g e Clusters base))

  list-of : get_or (upto (list_of t n at base) n) g [] ≡ list_of t n at base g
  unfolding list_of
  list-of = go (dec_lt g n)
    where
      go : Dec (g < n) → get_or (upto (list_of t n at base) n) g [] ≡ list_of t n at base g
      go (yes h) = get_or-upto (list_of t n at base) n g [] h
      go (no h) =
          let e : n ≤ g = omega arith in
          get_or-eq_default (upto (list_of t n at base) n) [] {n = g} (rw (length_from (list_of t n at base) n 0) e) ∙ sym (ap (list_here t) (value-past t n at g e Lists base))

module _ (t : List ℕ) (n : ℕ) (d : Direction) where
  -- ---- a direction's side, and its machine

  abbrev pub side : Side
  side = direction_of t n (direction_at t d)

  pub side-is : side_of d (meaning_of t n) ≡ side
  unfolding meaning_of
  side-is = go d
    where
      go : (e : Direction) → side_of e (meaning_of t n) ≡ direction_of t n (direction_at t e)
      go Horizontal = refl
      go Vertical = refl

  pub asked : (p : Part) → ask (meaning_of t n) (along d p) ≡ ask_side side p
  unfolding ask meaning_of
  asked p = go d
    where
      go : (e : Direction) → ask (meaning_of t n) (along e p) ≡ ask_side (direction_of t n (direction_at t e)) p
      go Horizontal = refl
      go Vertical = refl

  pub machine-is : side.machine ≡ machine_of t n (machine_in t d)
  unfolding direction_of empty_side side_at machine_of machine_in machine_place
  machine-is = go (eqb (direction_at t d) 0)
    where
      go : (b : Bool) → (cond b (empty_side n) (side_at t n (direction_at t d))).machine ≡ machine_of t n (cond b 0 (machine_offset t (direction_at t d)))
      go true = refl
      go false = refl

  module _ (o : ℕ) (e : o ≡ machine_in t d) where
    none-there : o ≡ 0 → side.machine ≡ none
    unfolding machine_of
    none-there z = machine-is ∙ ap (machine_of t n) (sym e) ∙ rw (eq-eqb o 0 z)

    one-there : (o ≡ 0 → ⊥) → side.machine ≡ some (machine_at t n (o + 8))
    unfolding machine_of
    one-there z = machine-is ∙ ap (machine_of t n) (sym e) ∙ rw (ne_eqb o 0 z)

    pub no-sizes : o ≡ 0 → ask (meaning_of t n) (along d sizes) ≡ nothing
    unfolding ask_side
    no-sizes z = asked sizes ∙ ap (maybe (λ (m : Machine). both m.rows m.classes)) (none-there z)

    pub sizes-are : (o ≡ 0 → ⊥) → ask (meaning_of t n) (along d sizes) ≡ both (row_count t (o + 8)) (class_count t (o + 8))
    unfolding ask_side machine_at
    sizes-are z = asked sizes ∙ ap (maybe (λ (m : Machine). both m.rows m.classes)) (one-there z)

    module _ (g : ℕ) where
      classed : Machine → Answer
      classed m = maybe number (get_elem? m.columns g)

      pub no-class : o ≡ 0 → ask (meaning_of t n) (along d (class g)) ≡ nothing
      unfolding ask_side classed
      no-class z = asked (class g) ∙ ap (maybe classed) (none-there z)

      pub class-is : (o ≡ 0 → ⊥) → g < n → ask (meaning_of t n) (along d (class g)) ≡ number (class_at t (o + 8) g)
      unfolding ask_side classed machine_at
      class-is z h = asked (class g) ∙ ap (maybe classed) (one-there z) ∙ ap (maybe number) (elem-upto (class_at t (o + 8)) n g h)

    module _ (r c : ℕ) where
      celled : Machine → Answer
      celled m = maybe entry (cell_of m r c)

      pub no_cell_lem : o ≡ 0 → ask (meaning_of t n) (along d (cell r c)) ≡ nothing
      unfolding ask_side celled
      no_cell_lem z = asked (cell r c) ∙ ap (maybe celled) (none-there z)

      module _ (z : o ≡ 0 → ⊥) where
        cell-asked : ask (meaning_of t n) (along d (cell r c)) ≡ maybe entry (cell_of (machine_at t n (o + 8)) r c)
        unfolding ask_side celled
        cell-asked = asked (cell r c) ∙ ap (maybe celled) (one-there z)

        pub row-past : row_count t (o + 8) ≤ r → ask (meaning_of t n) (along d (cell r c)) ≡ nothing
        unfolding machine_at
        row-past h = cell-asked ∙ simp (le-ltb r (row_count t (o + 8)) h)

        pub column-past : class_count t (o + 8) ≤ c → ask (meaning_of t n) (along d (cell r c)) ≡ nothing
        unfolding machine_at
        column-past h = cell-asked ∙ go (ltb r (row_count t (o + 8)))
          where
            go : (b : Bool)
                → maybe entry (cond (b && ltb c (class_count t (o + 8))) (get_elem? (machine_at t n (o + 8)).cells (r * class_count t (o + 8) + c)) none) ≡ nothing
            go true = simp (le-ltb c (class_count t (o + 8)) h)
            go false = refl

        pub cell-is : r < row_count t (o + 8) → c < class_count t (o + 8) → ask (meaning_of t n) (along d (cell r c)) ≡ entry (cell_at t (o + 8) r c)
        unfolding machine_at
        cell-is h k =
            cell-asked
            ∙ simp (lt-ltb r (row_count t (o + 8)) h, lt-ltb c (class_count t (o + 8)) k)
            (ap (maybe entry) (elem-upto (cell_by t (o + 8)) _ _ (index_below _ _ r c h k)))
            ∙ ap entry (cell-by t (o + 8) r c)

  -- a glyph past N has no class, machine or not
  pub class-past : (g : ℕ) → n ≤ g → ask (meaning_of t n) (along d (class g)) ≡ nothing
  unfolding ask_side machine_of machine_at
  class-past g h = asked (class g) ∙ ap (maybe classed) machine-is ∙ go (eqb (machine_in t d) 0)
    where
      classed : Machine → Answer
      classed m = maybe number (get_elem? m.columns g)

      go : (b : Bool) → maybe classed (cond b none (some (machine_at t n (machine_in t d + 8)))) ≡ nothing
      go true = refl
      go false = ap (maybe number) (elem_past (class_at t (machine_in t d + 8)) n 0 g h)

  -- ---- width records and actions

  module _ (g : ℕ) where
    pub clusters-are : get_or side.clusters g [] ≡ cluster_here t (spot_in t n d Clusters g)
    unfolding direction_of empty_side side_at source_at lookup_in spot_in cluster_of
    clusters-are = go (eqb (direction_at t d) 0)
      where
        go : (b : Bool) → get_or (cond b (empty_side n) (side_at t n (direction_at t d))).clusters g []
            ≡ cluster_here t (spot_by t n Clusters (headed t (cond b None (from_lookup (width_lookup (direction_at t d)) (width_offset t (direction_at t d))))) g)
        go true = get_or-none n g
        go false = cluster-of t n (width_lookup (direction_at t d)) (width_offset t (direction_at t d)) g

    pub lists-are : get_or side.lists g [] ≡ list_here t (spot_in t n d Lists g)
    unfolding direction_of empty_side side_at lists_of source_at lookup_in spot_in list_of
    lists-are = by-direction (eqb (direction_at t d) 0)
      where
        off : ℕ
        off = action_offset t (direction_at t d)

        by-offset : (b : Bool) → get_or (cond b (replicate n []) (upto (list_of t n off off) n)) g [] ≡ list_here t (spot_by t n Lists (headed t (cond b None (from_lookup off off))) g)
        by-offset true = get_or-none n g
        by-offset false = list-of t n off off g

        by-direction : (b : Bool) → get_or (cond b (empty_side n) (side_at t n (direction_at t d))).lists g []
            ≡ list_here t (spot_by t n Lists (headed t (cond b None (cond (eqb off 0) None (from_lookup off off)))) g)
        by-direction true = get_or-none n g
        by-direction false = by-offset (eqb off 0)

    -- `s` is the place as it was found
    pub record-here : (c : ℕ) (s : Option ℕ) → s ≡ spot_in t n d Clusters g → maybe pair (record_of c (cluster_here t s)) ≡ ask (meaning_of t n) (along d (width g c))
    unfolding ask_side
    record-here c s e = sym (asked (width g c) ∙ ap (λ (l : List Pair). maybe pair (record_of c l)) (clusters-are ∙ ap (cluster_here t) (sym e)))

    pub action-here : (k : ℕ) (s : Option ℕ) → s ≡ action_spot t n d g k → action_here t s ≡ ask (meaning_of t n) (along d (action g k))
    unfolding ask_side action_spot
    action-here k s e =
        ap (action_here t) e
        ∙ sym (asked (action g k) ∙ ap (λ (l : List Action). maybe act (get_elem? l k)) lists-are ∙ by-spot (spot_in t n d Lists g))
      where
        by_place : (p : ℕ) (s : Option ℕ) → spot_in_list t p k ≡ s → maybe act (get_elem? (list_here t (Some p)) k) ≡ action_here t s
        by_place p (Some q) e = ap (maybe act) (place_at t p k q e)
        by_place p None e = ap (maybe act) (place_none t p k e)

        by-spot : (s : Option ℕ) → maybe act (get_elem? (list_here t s) k) ≡ action_here t (numbered t k s)
        by-spot (Some p) = by_place p (spot_in_list t p k) refl
        by-spot None = refl
