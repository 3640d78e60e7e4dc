-- What stands at the places, the places of a run, and how far an item goes.
use Rattle.std.specs.Prelude.{None, Option, Some}
use Prim.Native.Nat.{ℕ, zero, suc, ◌+◌, ◌-◌, ◌*◌, ◌≤◌, ◌<◌, ◌^◌, min, max}
use mathlib.Core.Path.{◌≡◌, refl, sym, ap, ap₂, ◌∙◌, subst}
use mathlib.Core.Bool.{Bool, true, false, cond}
use mathlib.Core.Logic.{⊎_elim}
use mathlib.Core.List.{List, ◌∷◌, map}
use native.Mathlib.Omega.{arith}
use native.Mathlib.Decide.{ℕ_discrete, dec_lt}
use lib.Dec.{ltb}
use lib.ListN.{length, get_or}
use borrow.Author.Tests.{lt-ltb, le-ltb, ltb-true, ltb-false}
use Rattle.fields.specs.Field.{u16_at}
use Rattle.encoding.specs.Tests.{Says}
use Rattle.encoding.specs.Upto.{from}
use Rattle.lookup.proofs.Laws.{value_in_lem}
use Rattle.lookup_runs.specs.declared.Run.{Run}
use Rattle.lookup_runs.specs.Runs.{field_in_run, Follows}
use Rattle.lookup_targets.specs.declared.Kind.{Kind}
use Rattle.lookup_targets.specs.Values.{spot_of, Noted}
use Rattle.write_item.specs.Items.{item_at}
use Rattle.write_item.proofs.Laws.{item-past}
use Rattle.write_numbers.specs.Numbered.{KnownAs, Blank}
use Rattle.write_glyphs.specs.Places.{item_here, glyph_item, spot_place, value_place, run_place, Agree, HasNumber, Lead, LeadToOne, OneItem, AlikeUpto}

-- ---- what stands at a place

there : (kind : Kind) (t : List ℕ) → length t ≤ 2 ^ 15 → (spot : Option ℕ) → item_at kind t (spot_place spot) ≡ item_here kind t spot
there kind t h None = item-past kind t (spot_place None) (omega arith)
there kind t h (Some p) = go (dec_lt p 65535)
  where
    go : Dec (p < 65535) → item_at kind t (min p 65535) ≡ item_at kind t p
    go (yes l) = let e : min p 65535 ≡ p = omega arith in ap (item_at kind t) e
    go (no l) = item-past kind t (min p 65535) (omega (arith, l)) ∙ sym (item-past kind t p (omega (arith, l)))

value_there : (kind : Kind) (t : List ℕ) (base : ℕ) → length t ≤ 2 ^ 15 → (p : ℕ)
    → item_at kind t (value_place kind t base p) ≡ item_here kind t (spot_of kind base (Some (u16_at t p)))
unfolding value_place
value_there kind t base short p = there kind t short (spot_of kind base (Some (u16_at t p)))

pub map-from : {A B : Type 0} (f : ℕ → A) (g : A → B) (h : ℕ → B) → ((x : ℕ) → g (f x) ≡ h x) → (n i : ℕ) → map g (from f n i) ≡ from h n i
unfolding from
map-from f g h e zero i = refl
map-from f g h e (suc n) i = ap₂ (λ a l. a ∷ l) (e i) (map-from f g h e n (suc i))

-- ---- the places of a run

module _ (kind : Kind) (t : List ℕ) (base start place : ℕ) (array : Bool) (glyph : ℕ) where
  pub place-before : glyph < start → run_place kind t base start place array glyph ≡ 65535
  unfolding run_place
  place-before h = simp (lt-ltb glyph start h)

  pub place_in : start ≤ glyph → run_place kind t base start place array glyph ≡ value_place kind t base (cond array (place + 2 * (glyph - start)) place)
  unfolding run_place
  place_in h = ap (λ (b : Bool). cond b 65535 (value_place kind t base (cond array (place + 2 * (glyph - start)) place))) (le-ltb glyph start h)

  pub place-array : start ≤ glyph → array ≡ true → (p : ℕ) → p ≡ place + 2 * (glyph - start) → value_place kind t base p ≡ run_place kind t base start place array glyph
  place-array h e p q =
      ap (value_place kind t base) (q ∙ sym (ap (λ (b : Bool). cond b (place + 2 * (glyph - start)) place) e)) ∙ sym (place_in h)

  pub place-one : start ≤ glyph → array ≡ false → value_place kind t base place ≡ run_place kind t base start place array glyph
  place-one h e = ap (value_place kind t base) (sym (ap (λ (b : Bool). cond b (place + 2 * (glyph - start)) place) e)) ∙ sym (place_in h)

-- what a glyph of the font has stands at its place
pub run-item : (kind : Kind) (t : List ℕ) (n at base glyph x : ℕ) (r : Run) → length t ≤ 2 ^ 15 → n < 2 ^ 16 → Follows t at glyph r → glyph ≤ x → x < r.until → x < n
    → item_at kind t (run_place kind t base r.from r.place r.array x) ≡ glyph_item kind t n at base x
run-item kind t n at base glyph x r short few w h u l = go (ltb x r.from) refl
  where
    go : (b : Bool) → ltb x r.from ≡ b → item_at kind t (run_place kind t base r.from r.place r.array x) ≡ glyph_item kind t n at base x
    go true e =
        let before : x < r.from = ltb-true x r.from e in
        ap (item_at kind t) (place-before kind t base r.from r.place r.array x before) ∙ item-past kind t 65535 (omega arith)
        ∙ sym (ap (λ (f : Option ℕ). item_here kind t (spot_of kind base f)) (value_in_lem t n at x l ∙ w.none x h before (omega arith)))
    go false e =
        let among : r.from ≤ x = ltb-false x r.from e in
        ap (item_at kind t) (place_in kind t base r.from r.place r.array x among) ∙ value_there kind t base short (field_in_run r x)
        ∙ sym (ap (λ (f : Option ℕ). item_here kind t (spot_of kind base f)) (value_in_lem t n at x l ∙ w.some x among u (omega arith)))

-- ---- values

-- a place that is noted with a number carries it
pub carries-here : (kind : Kind) (t seen : List ℕ) (p number : ℕ) (b : Bool) → b ≡ true → Says b (KnownAs t seen p number) → HasNumber kind t seen p number
carries-here kind t seen p number b e h = record { other = p; item = refl; noted = subst (λ (x : Bool). Says x (KnownAs t seen p number)) e h }

-- values that lead to an item, and more of them after those
pub lead-more : (kind : Kind) (t : List ℕ) (base : ℕ) (seen : List ℕ) (place number n more p : ℕ) → p ≡ place + 2 * n
    → Lead kind t base seen place number n → Lead kind t base seen p number more → Lead kind t base seen place number (n + more)
lead-more kind t base seen place number n more p e before after i l = go (dec_lt i n)
  where
    go : Dec (i < n) → HasNumber kind t seen (value_place kind t base (place + 2 * i)) number
    go (yes b) = before i b
    go (no b) =
        let z : p + 2 * (i - n) ≡ place + 2 * i = omega (arith, b) in
        subst (λ (q : ℕ). HasNumber kind t seen (value_place kind t base q) number) z (after (i - n) (omega (arith, b)))

-- values that are known to lead to one item, which the first is known to lead to
pub lead-alike : (kind : Kind) (t : List ℕ) (base : ℕ) (seen alike : List ℕ) (p number n : ℕ) → OneItem kind t base alike
    → HasNumber kind t seen (value_place kind t base p) number → n ≤ max 1 (get_or alike p 0) → Lead kind t base seen p number n
lead-alike kind t base seen alike p number n o c h i l = go (ℕ_discrete i 0)
  where
    go : Dec (i ≡ 0) → HasNumber kind t seen (value_place kind t base (p + 2 * i)) number
    go (yes e) =
        let z : p ≡ p + 2 * i = omega (arith, e) in
        subst (λ (q : ℕ). HasNumber kind t seen (value_place kind t base q) number) z c
    go (no e) = record { other = c.other; item = o.same p i (omega (arith, e)) ∙ c.item; noted = c.noted }

-- values that lead to the item that has one number lead to one item
pub lead-same : (kind : Kind) (t : List ℕ) (base : ℕ) (seen : List ℕ) (place number n : ℕ) → Agree kind t seen → Lead kind t base seen place number n
    → LeadToOne kind t base place n
lead-same kind t base seen place number n a f i l =
    let x = f i l in
    let y = f 0 (omega arith) in
    let z : place + 2 * 0 ≡ place = omega arith in
    x.item ∙ a.same x.other y.other number x.noted y.noted ∙ sym y.item ∙ ap (λ (p : ℕ). item_at kind t (value_place kind t base p)) z

-- ---- what is noted of values

-- nothing at first
pub alike-none : (kind : Kind) (t : List ℕ) (base : ℕ) (alike : List ℕ) → Blank alike → OneItem kind t base alike
alike-none kind t base alike b = record { same = λ p i l. absurd (omega (arith, l, b p)) }

-- the later ones of values that lead to one item
same-later : (kind : Kind) (t : List ℕ) (base place n first p : ℕ) → first ≤ n → p ≡ place + 2 * first → LeadToOne kind t base place n → LeadToOne kind t base p (n - first)
same-later kind t base place n first p h e s i l =
    let z : p + 2 * i ≡ place + 2 * (first + i) = omega arith in
    ap (λ (q : ℕ). item_at kind t (value_place kind t base q)) z
    ∙ s (first + i) (omega arith)
    ∙ sym (s first (omega arith))
    ∙ ap (λ (q : ℕ). item_at kind t (value_place kind t base q)) (sym e)

-- what is noted of such values is true
pub noted-alike : (kind : Kind) (t : List ℕ) (base place n : ℕ) (alike alike' : List ℕ) → Noted place n alike alike' → LeadToOne kind t base place n
    → OneItem kind t base alike → OneItem kind t base alike'
noted-alike kind t base place n alike alike' w s o =
    record {
      same = λ p i l.
          ⊎_elim
          (λ e. o.same p i (omega (arith, l, e)))
          (λ v. same-later kind t base place n (n - v.0) p (omega arith) (omega (arith, v.1, v.2)) s i (omega (arith, l, v.1, v.3)))
          (w.at p);
    }

-- ---- how far an item goes

module _ (kind : Kind) (t : List ℕ) (base start until place : ℕ) (array : Bool) (glyph : ℕ) (seen : List ℕ) (number e : ℕ) (u : glyph < until) where
  -- before the run
  pub alike-before : glyph < start → e ≡ min start until → AlikeUpto kind t base start until place array glyph seen number e
  alike-before h q =
      record {
        more = omega arith;
        most = omega arith;
        same = λ x a b k. absurd (k (place-before kind t base start place array x (omega arith) ∙ sym (place-before kind t base start place array glyph h)));
      }

  -- in a run with one value
  pub alike-one : start ≤ glyph → array ≡ false → e ≡ until → AlikeUpto kind t base start until place array glyph seen number e
  alike-one h o q =
      record {
        more = omega arith;
        most = omega arith;
        same = λ x a b k. absurd (k (sym (place-one kind t base start place array x (omega arith) o) ∙ place-one kind t base start place array glyph h o));
      }

  -- in an array, `c` more values of which are known to lead to the same
  pub alike-array : start ≤ glyph → array ≡ true → (p c : ℕ) → p ≡ place + 2 * (glyph + 1 - start) → c ≤ until - (glyph + 1)
      → Lead kind t base seen p number c → e ≡ glyph + 1 + c → AlikeUpto kind t base start until place array glyph seen number e
  alike-array h o p c s f w q =
      record {
        more = omega arith;
        most = omega arith;
        same = λ x a b k.
            let z : p + 2 * (x - (glyph + 1)) ≡ place + 2 * (x - start) = omega arith in
            subst (λ (y : ℕ). HasNumber kind t seen y number) (place-array kind t base start place array x (omega arith) o _ z) (w (x - (glyph + 1)) (omega arith));
      }
