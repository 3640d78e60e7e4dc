-- The parts of a line's glyphs: factors, limits of width records, and two lists that are filled glyph by glyph, with the sums of the stages.
use Prim.Native.Nat.{ℕ, zero, suc, ◌+◌, ◌*◌, ◌≤◌, ◌<◌, ◌^◌}
use mathlib.Core.Path.{◌≡◌, refl, sym, ap, ◌∙◌, subst}
use mathlib.Core.Bool.{Bool, true, false, cond}
use mathlib.Core.Option.{Option, none, some}
use mathlib.Core.List.{List, [], ◌∷◌, ◌++◌, map}
use native.Mathlib.Omega.{arith}
use lib.Dec.{eqb}
use lib.IntN.{ℤ, pos, nat_abs, ◌*ℤ◌}
use native.Mathlib.Nat.{mul-le-mul}
use native.Mathlib.Numerals.{add-one}
use native.Mathlib.Decide.{ℕ_discrete}
use lib.ListN.{length, get_or, drop, take, set, replicate, length-set, length-map, get_or-replicate, drop_of_length-le}
use lib.Seq.{get_or-set_same, get_or-set_other}
use borrow.Author.Tests.{eq-eqb, ne_eqb}
use Rattle.fields.specs.Faults.{Clear}
use Rattle.fields.specs.Field.{Bytes}
use Rattle.types.specs.declared.Direction.{Direction}
use Rattle.types.specs.declared.Direction.TheVariants.{Horizontal, Vertical}
use Rattle.types.specs.declared.Pair.{Pair}
use Rattle.units.specs.Flags.{is_unlimited}
use Rattle.units.specs.Fixed.{rounded_down, factor_of}
use Rattle.units.proofs.Rounding.{near-pos}
use Rattle.encoding.specs.Codes.{All}
use Rattle.encoding.proofs.ListLaws.{all_get_d}
use Rattle.meaning.specs.Meaning.{Side}
use Rattle.meaning.specs.Limits.{em_limit, OkPair, OkCluster, OkSide, Valid}
use Rattle.meaning.specs.Ask.{side_of, record_of}
use Rattle.std.specs.Prelude as std
use Rattle.lookup_targets.specs.declared.Kind.TheVariants.{Clusters}
use Rattle.lookup_targets.specs.Values.{cluster_here}
use Rattle.table.specs.Table.{table_fault, Accepted}
use Rattle.table.specs.Means.{meaning_of}
use Rattle.table_laws.proofs.Valid.{valid-meaning}
use Rattle.table_ask.specs.Places.{spot_in}
use Rattle.table_ask.proofs.Asked.{side-is, clusters-are}
use Rattle.share.specs.Carry.{widest}
use Rattle.share.specs.Share.{total, of_stage}
use Rattle.share.specs.Sides.{stage_in, extra_in, stages_in, extras_in}
use Rattle.share.specs.Line.{Glyph, side_stages, side_factors, side_extras, Narrow}
use Rattle.share.proofs.Lists.{div_mono}
use Rattle.share.proofs.Fill.{fill-again, fill_end}
use Rattle.line_rule.specs.Line.{record_for, units_of, part_by, part_of, parts_of}
use Rattle.line_input.specs.Input.{SmallSizes}
use Rattle.line_moves.specs.Parts.{Small, glyph_of, Layable, put_sides, Laying, Laid, LaidOut, Sharable}
use Rattle.line_moves.specs.declared.GlyphPart.{GlyphPart}

-- ---- factors

pub factor-plain : (a s : ℕ) → a ≤ 2 ^ 31 → factor_of (pos a) s ≡ pos (units_of a s)
unfolding factor_of
factor-plain a s h = ap (λ (b : Bool). cond b (pos 0) (rounded_down (pos a *ℤ pos s) 65536)) (near-pos a h)

-- the same of a limit as the code has it
pub factor_size : (a : ℤ) (s : ℕ) → a ≡ pos (nat_abs a) → nat_abs a ≤ em_limit → nat_abs (factor_of a s) ≡ units_of (nat_abs a) s
factor_size a s e h = ap (λ (z : ℤ). nat_abs (factor_of z s)) e ∙ ap nat_abs (factor-plain (nat_abs a) s (omega arith))

-- ---- width records

record-small : (c : ℕ) (ps : List Pair) → All OkPair ps → Small (record_of c ps)
record-small c [] w = tt
record-small c (p ∷ ps) w = go (eqb p.class c) (record-small c ps w.1)
  where
    go : (b : Bool) → Small (record_of c ps) → Small (cond b (some p) (record_of c ps))
    go true h = (w.0.1, w.0.2)
    go false h = h

module _ (t : List ℕ) (n : ℕ) (d : Direction) (bytes : Bytes t) (ok : table_fault t n ≡ Clear) where
  pub side-ok : OkSide n (side_of d (meaning_of t n))
  unfolding Accepted meaning_of
  side-ok = go d
    where
      v : Valid (meaning_of t n)
      v = valid-meaning t n bytes ok

      go : (e : Direction) → OkSide n (side_of e (meaning_of t n))
      go Horizontal = v.horizontal
      go Vertical = v.vertical

  pub record-limits : (g c : ℕ) → Small (record_for (side_of d (meaning_of t n)) g c)
  record-limits g c =
      record-small c (get_or (side_of d (meaning_of t n)).clusters g []) (all_get_d OkCluster (side_of d (meaning_of t n)).clusters [] g (omega arith, tt, tt) side-ok.clusters).1

pub record_is : (t : List ℕ) (n : ℕ) (d : Direction) (g c : ℕ) {s : std.Option ℕ} → s ≡ spot_in t n d Clusters g
    → record_of c (cluster_here t s) ≡ record_for (side_of d (meaning_of t n)) g c
record_is t n d g c {s} e =
    ap (λ (l : List Pair). record_of c l)
    (ap (cluster_here t) e ∙ sym (clusters-are t n d g) ∙ ap (λ (s : Side). get_or s.clusters g []) (sym (side-is t n d)))

-- ---- factors of limits of at most 16 em, at a size of at most 1,024 pt, are no wider than sharing may multiply

units-narrow : (limit size : ℕ) → limit ≤ em_limit → size ≤ 67108864 → units_of limit size ≤ widest
units-narrow limit size h k = div_mono 65536 (mul-le-mul h k)

part-by-layable : (size flags before after : ℕ) → size ≤ 67108864 → before ≤ em_limit → after ≤ em_limit → Layable (part_by size flags before after)
part-by-layable size flags before after k hb ha =
    record {
      stage = omega arith;
      extra = go (is_unlimited flags);
      before = units-narrow before size hb k;
      after = units-narrow after size ha k;
    }
  where
    go : (b : Bool) → cond {A = ℕ} b 1 0 ≤ 1
    go true = omega arith
    go false = omega arith

part-layable : (shrink : Bool) (size : ℕ) (o : Option Pair) → Small o → size ≤ 67108864 → Layable (part_of shrink size o)
part-layable shrink size none w k = record { stage = omega arith; extra = omega arith; before = omega arith; after = omega arith }
part-layable true size (some p) w k = part-by-layable size p.flags.shrink p.before.shrink p.after.shrink k w.0.1 w.1.1
part-layable false size (some p) w k = part-by-layable size p.flags.grow p.before.grow p.after.grow k w.0.0 w.1.0

more-narrow : {x : ℕ} (xs : List ℕ) → x ≤ widest → Narrow xs → Narrow (x ∷ xs)
more-narrow xs h r zero = h
more-narrow xs h r (suc i) = r i

pub parts-narrow : (s : Side) (shrink : Bool) → ((g c : ℕ) → Small (record_for s g c)) → (zs : List ℕ) → SmallSizes zs → (gs cs : List ℕ)
    → Narrow (side_factors (parts_of s shrink zs gs cs))
unfolding parts_of
parts-narrow s shrink w [] k gs cs = λ i. omega arith
parts-narrow s shrink w (z ∷ zs) k [] cs = λ i. omega arith
parts-narrow s shrink w (z ∷ zs) k (g ∷ gs) [] = λ i. omega arith
parts-narrow s shrink w (z ∷ zs) k (g ∷ gs) (c ∷ cs) =
    let one = part-layable shrink z (record_for s g c) (w g c) (k 0) in
    let rest = side_factors (parts_of s shrink zs gs cs) in
    more-narrow ((part_of shrink z (record_for s g c)).after ∷ rest) one.before
    (more-narrow rest one.after (parts-narrow s shrink w zs (λ place. k (suc place)) gs cs))

-- ---- the parts one by one

module _ (s : Side) (shrink : Bool) where
  pub parts-length : (zs gs cs : List ℕ) → length zs ≡ length gs → length cs ≡ length gs → length (parts_of s shrink zs gs cs) ≡ length gs
  unfolding parts_of
  parts-length [] gs cs d e = d
  parts-length (z ∷ zs) [] cs d e = refl
  parts-length (z ∷ zs) (g ∷ gs) [] d e = absurd (omega arith)
  parts-length (z ∷ zs) (g ∷ gs) (c ∷ cs) d e = ap suc (parts-length zs gs cs (omega arith) (omega arith))

  parts_next : (zs gs cs : List ℕ) (i : ℕ) → length zs ≡ length gs → length cs ≡ length gs → i < length gs
      → drop i (parts_of s shrink zs gs cs)
      ≡ part_of shrink (get_or zs i 0) (record_for s (get_or gs i 0) (get_or cs i 0)) ∷ drop (suc i) (parts_of s shrink zs gs cs)
  unfolding parts_of
  parts_next [] gs cs i d e h = absurd (omega arith)
  parts_next (z ∷ zs) [] cs i d e h = absurd (omega arith)
  parts_next (z ∷ zs) (g ∷ gs) [] i d e h = absurd (omega arith)
  parts_next (z ∷ zs) (g ∷ gs) (c ∷ cs) zero d e h = refl
  parts_next (z ∷ zs) (g ∷ gs) (c ∷ cs) (suc i) d e h = parts_next zs gs cs i (omega arith) (omega arith) (omega arith)

-- ---- one glyph's part is stored

module _ (s : Side) (shrink : Bool) {t : List ℕ} {n : ℕ} {zs gs cs : List ℕ} (w : Sharable t n zs gs cs) where
  pub parts-count : length (parts_of s shrink zs gs cs) ≡ length gs
  parts-count = parts-length s shrink zs gs cs w.sizes w.classes

  module _ (p : GlyphPart) (i : ℕ) (o : Option Pair) (e : glyph_of p ≡ part_of shrink (get_or zs i 0) o) where
    pub may-lay : Small o → Layable (glyph_of p)
    may-lay l = subst Layable (sym e) (part-layable shrink (get_or zs i 0) o l (w.small i))

    pub comes-next : o ≡ record_for s (get_or gs i 0) (get_or cs i 0) → i < length gs
        → drop i (parts_of s shrink zs gs cs) ≡ glyph_of p ∷ drop (suc i) (parts_of s shrink zs gs cs)
    comes-next r h =
        parts_next s shrink zs gs cs i w.sizes w.classes h
        ∙ ap (λ (g : Glyph). g ∷ drop (suc i) (parts_of s shrink zs gs cs)) (sym (e ∙ ap (part_of shrink (get_or zs i 0)) r))

map-set : (f : ℕ → ℕ) (l : List ℕ) (i v : ℕ) → map f (set l i v) ≡ set (map f l) i (f v)
map-set f [] i v = refl
map-set f (x ∷ l) zero v = refl
map-set f (x ∷ l) (suc i) v = ap (λ (t : List ℕ). f x ∷ t) (map-set f l i v)

sides-put : (f : ℕ → ℕ) (l : List ℕ) (place x y : ℕ) {u v : ℕ} → f x ≡ u → f y ≡ v → map f (put_sides l place x y) ≡ put_sides (map f l) place u v
sides-put f l place x y d e = map-set f (set l (2 * place) x) (2 * place + 1) y ∙ rw (map-set f l (2 * place) x, d, e)

pub laying : (g : Glyph) (place : ℕ) (sides fs : List ℕ) (x y : ℕ) {b a : ℕ} → (stage_in x ≡ g.stage) × (extra_in x ≡ 0) → (stage_in y ≡ g.stage) × (extra_in y ≡ g.extra)
    → b ≡ g.before → a ≡ g.after → Laying g place sides fs (b + a) (put_sides sides place x y) (put_sides fs place b a)
laying g place sides fs x y {b} {a} wx wy eb ea =
    record {
      stages = sides-put stage_in sides place x y wx.0 wy.0;
      extras = sides-put extra_in sides place x y wx.1 wy.1;
      factors = rw (eb, ea);
      sum = rw (eb, ea);
    }

-- ---- a loop that fills the two lists

-- one turn stores the two first of what is still to be stored
pair-again : {P : List ℕ} (out rest rest' : List ℕ) (i x y : ℕ) → 2 * i + 1 < length out → P ≡ take (2 * i) out ++ rest → rest ≡ x ∷ y ∷ rest'
    → P ≡ take (2 * (i + 1)) (put_sides out i x y) ++ rest'
pair-again {P} out rest rest' i x y h inv e =
    let n : 2 * i + 1 + 1 ≡ 2 * (i + 1) = omega arith in
    let one = fill-again out rest (y ∷ rest') (2 * i) x (omega arith) inv e in
    let two = fill-again (set out (2 * i) x) (y ∷ rest') rest' (2 * i + 1) y (omega (arith, length-set out (2 * i) x)) one refl in
    two ∙ ap (λ (k : ℕ). take k (put_sides out i x y) ++ rest') n

length-put : (l : List ℕ) (place x y : ℕ) → length (put_sides l place x y) ≡ length l
length-put l place x y = length-set (set l (2 * place) x) (2 * place + 1) y ∙ length-set l (2 * place) x

-- the parts of glyphs up to i stand in the two lists
pub record Filling (ps : List Glyph) (i : ℕ) (sides fs : List ℕ) : Type 0 where
  pub room : length sides ≡ 2 * length ps
  pub space : length fs ≡ 2 * length ps
  pub stages : side_stages ps ≡ take (2 * i) (stages_in sides) ++ side_stages (drop i ps)
  pub extras : side_extras ps ≡ take (2 * i) (extras_in sides) ++ side_extras (drop i ps)
  pub factors : side_factors ps ≡ take (2 * i) fs ++ side_factors (drop i ps)

pub filling-start : (ps : List Glyph) (sides fs : List ℕ) → length sides ≡ 2 * length ps → length fs ≡ 2 * length ps → Filling ps 0 sides fs
filling-start ps sides fs d e = record { room = d; space = e; stages = refl; extras = refl; factors = refl }

module _ {ps : List Glyph} {i : ℕ} {sides fs : List ℕ} (w : Filling ps i sides fs) where
  pub filling-on : {g : Glyph} {sum : ℕ} {sides' fs' : List ℕ} → Laying g i sides fs sum sides' fs' → i < length ps → drop i ps ≡ g ∷ drop (suc i) ps
      → Filling ps (i + 1) sides' fs'
  filling-on {g} {sum} {sides'} {fs'} l h e =
      let next : drop i ps ≡ g ∷ drop (i + 1) ps = e ∙ ap (λ (k : ℕ). g ∷ drop k ps) (sym (add-one i)) in
      let m = length-map sides stage_in in
      let n = length-map sides extra_in in
      record {
        room =
            sym (length-map sides' stage_in)
            ∙ ap length l.stages
            ∙ length-put (stages_in sides) i g.stage g.stage
            ∙ m
            ∙ w.room;
        space = ap length l.factors ∙ length-put fs i g.before g.after ∙ w.space;
        stages =
            pair-again (stages_in sides) _ (side_stages (drop (i + 1) ps)) i g.stage g.stage (omega (arith, m, w.room)) w.stages (ap side_stages next)
            ∙ ap (λ (k : List ℕ). take (2 * (i + 1)) k ++ side_stages (drop (i + 1) ps)) (sym l.stages);
        extras =
            pair-again (extras_in sides) _ (side_extras (drop (i + 1) ps)) i 0 g.extra (omega (arith, n, w.room)) w.extras (ap side_extras next)
            ∙ ap (λ (k : List ℕ). take (2 * (i + 1)) k ++ side_extras (drop (i + 1) ps)) (sym l.extras);
        factors =
            pair-again fs _ (side_factors (drop (i + 1) ps)) i g.before g.after (omega (arith, w.space)) w.factors (ap side_factors next)
            ∙ ap (λ (k : List ℕ). take (2 * (i + 1)) k ++ side_factors (drop (i + 1) ps)) (sym l.factors);
      }

  pub filling-end : length ps ≤ i → Laid ps sides fs
  filling-end h =
      let e : drop i ps ≡ [] = drop_of_length-le ps h in
      record {
        stages = fill_end (stages_in sides) _ (2 * i) (omega (arith, length-map sides stage_in, w.room)) w.stages (ap side_stages e);
        extras = fill_end (extras_in sides) _ (2 * i) (omega (arith, length-map sides extra_in, w.room)) w.extras (ap side_extras e);
        factors = fill_end fs _ (2 * i) (omega (arith, w.space)) w.factors (ap side_factors e);
      }

-- ---- and adds up the factors of each priority

abbrev pub total_of : ℕ → List Glyph → ℕ
total_of s gs = total (of_stage s (side_stages gs) (side_factors gs))

-- the sums of the priorities stand in xs, and glyph i is next
pub record Summing (ps : List Glyph) (i : ℕ) (xs : List ℕ) : Type 0 where
  pub each : length xs ≡ 16
  pub low : (s : ℕ) → s < 16 → get_or xs s 0 ≤ 2147483648 * i
  pub left : (s : ℕ) → s < 16 → get_or xs s 0 + total_of s (drop i ps) ≡ total_of s ps

pub summing_start : (ps : List Glyph) → Summing ps 0 (replicate {A = ℕ} 16 0)
summing_start ps = record { each = refl; low = λ s h. omega (arith, get_or-replicate {A = ℕ} 16 s 0 0 h); left = λ s h. omega (arith, get_or-replicate {A = ℕ} 16 s 0 0 h) }

module _ {ps : List Glyph} {i : ℕ} {xs : List ℕ} (w : Summing ps i xs) where
  pub summing_on : {g : Glyph} {sum : ℕ} → Layable g → sum ≡ g.before + g.after → drop i ps ≡ g ∷ drop (suc i) ps
      → Summing ps (i + 1) (set xs g.stage (get_or xs g.stage 0 + sum))
  summing_on {g} {sum} l e next =
      record {
        each = length-set xs m v ∙ w.each;
        low = λ s h. at_low s h (ℕ_discrete m s);
        left = λ s h. at_left s h (ℕ_discrete m s);
      }
    where
      m : ℕ
      m = g.stage

      v : ℕ
      v = get_or xs m 0 + sum

      same : get_or (set xs m v) m 0 ≡ v
      same = get_or-set_same xs m v 0 (omega (arith, w.each, l.stage))

      other : (s : ℕ) → (m ≡ s → ⊥) → get_or (set xs m v) s 0 ≡ get_or xs s 0
      other s n = get_or-set_other xs m s v 0 (λ q. n (sym q))

      rest : (s : ℕ) → total_of s (drop i ps) ≡ cond (eqb m s) g.before 0 + (cond (eqb m s) g.after 0 + total_of s (drop (i + 1) ps))
      rest s = ap (total_of s) (next ∙ ap (λ (k : ℕ). g ∷ drop k ps) (sym (add-one i)))

      hit : (s : ℕ) → m ≡ s → total_of s (drop i ps) ≡ sum + total_of s (drop (i + 1) ps)
      hit s q =
          let r = rest s ∙ ap (λ (b : Bool). cond b g.before 0 + (cond b g.after 0 + total_of s (drop (i + 1) ps))) (eq-eqb m s q) in
          omega (arith, r, e)

      miss : (s : ℕ) → (m ≡ s → ⊥) → total_of s (drop i ps) ≡ total_of s (drop (i + 1) ps)
      miss s q =
          let r = rest s ∙ ap (λ (b : Bool). cond b g.before 0 + (cond b g.after 0 + total_of s (drop (i + 1) ps))) (ne_eqb m s q) in
          omega (arith, r)

      at_low : (s : ℕ) → s < 16 → Dec (m ≡ s) → get_or (set xs m v) s 0 ≤ 2147483648 * (i + 1)
      at_low s h (yes q) = subst (λ (k : ℕ). get_or (set xs m v) k 0 ≤ 2147483648 * (i + 1)) q (omega (arith, same, e, l.before, l.after, w.low m l.stage))
      at_low s h (no q) = omega (arith, other s q, w.low s h)

      at_left : (s : ℕ) → s < 16 → Dec (m ≡ s) → get_or (set xs m v) s 0 + total_of s (drop (i + 1) ps) ≡ total_of s ps
      at_left s h (yes q) =
          subst (λ (k : ℕ). get_or (set xs m v) k 0 + total_of k (drop (i + 1) ps) ≡ total_of k ps) q (omega (arith, same, hit m refl, w.left m l.stage))
      at_left s h (no q) = omega (arith, other s q, miss s q, w.left s h)

  pub summing-end : length ps ≤ i → {sides fs : List ℕ} → Laid ps sides fs → LaidOut ps (record { sums = xs }) sides fs
  summing-end h {sides} {fs} d = record { laid = d; totals = record { at = λ s k. at s (omega arith) } }
    where
      at : (s : ℕ) → s < 16 → get_or xs s 0 ≡ total (of_stage s (stages_in sides) fs)
      at s k =
          let e = ap (total_of s) (drop_of_length-le ps h) in
          let t : get_or xs s 0 ≡ total_of s ps = omega (arith, e, w.left s k) in
          t ∙ rw (d.stages, d.factors)
