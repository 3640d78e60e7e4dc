-- Laws of the walk that others cite: it ends in one way or never ends, within S × (glyphs + 1) entries; `walked` tells which. Assumes nothing.
use Prim.Native.Nat.{ℕ, zero, suc, ◌+◌, ◌≤◌, ◌<◌}
use mathlib.Core.Path.{◌≡◌, refl, sym, ◌∙◌, subst}
use mathlib.Core.Bool.{Bool, true, false, cond}
use Rattle.std.specs.Prelude.{Option, Some, None}
use mathlib.Core.List.{List, [], ◌∷◌}
use mathlib.Core.Logic.{◌⊎◌, inl, inr}
use native.Mathlib.Omega.{arith}
use native.Mathlib.Decide.{dec_lt, dec_le}
use lib.Dec.{eqb, ltb}
use lib.ListN.{length, get_or, set, replicate, length-replicate}
use Rattle.types.specs.declared.Entry.{Entry}
use Rattle.units.specs.Flags.{stays, mark_class, current_class}
use Rattle.class_walk.specs.Walk.{Machine, Line, Conf, Walk, going, stopped, Fits, glyphs, current, give, met, given_by, on_at, taken, step, begin, after, Ends, Never, most_entries, walked}
use Rattle.class_walk.proofs.Theory.{give-length, At, at_first, at-stays, at-moves, at_stops, at_most, stop-most, spent-never, still-at}

module _ (m : Machine) (l : Line) where
  -- a walk that ends does not go on for ever
  pub not-both : (cs : List ℕ) (k : ℕ) → Ends m l cs k → Never m l → ⊥
  unfolding Ends Never
  not-both cs k e n = n e.0 cs k e.1

  -- it ends with one answer: the classes and the count
  pub same_end : (cs cs' : List ℕ) (k k' : ℕ) → Ends m l cs k → Ends m l cs' k' → (cs ≡ cs') × (k ≡ k')
  unfolding Ends
  same_end cs cs' k k' a b = go (dec_le a.0 b.0)
    where
      go : Dec (a.0 ≤ b.0) → (cs ≡ cs') × (k ≡ k')
      go (yes h) =
          let e : stopped cs k ≡ stopped cs' k' = sym (still-at m l a.0 b.0 cs k h a.1) ∙ b.1 in
          (cc, cc)
      go (no h) =
          let e : stopped cs k ≡ stopped cs' k' = sym a.1 ∙ still-at m l b.0 a.0 cs' k' (omega arith) b.1 in
          (cc, cc)

  -- what has stopped by then has ended; this asks nothing of the machine
  pub walked-ends : (cs : List ℕ) (k : ℕ) → walked m l ≡ stopped cs k → Ends m l cs k
  unfolding Ends walked
  walked-ends cs k e = (most_entries m l, e)

  -- a walk that never ends is still going
  pub never_walked : Never m l → (s : Conf) × (walked m l ≡ going s)
  unfolding Never walked
  never_walked n = go (walked m l) refl
    where
      go : (w : Walk) → walked m l ≡ w → (s : Conf) × (walked m l ≡ going s)
      go (going s) e = (s, e)
      go (stopped cs k) e = absurd (n (most_entries m l) cs k e)

-- ---- the classes of a walk that ends

mark-class-low : (f : ℕ) → mark_class f < 128
mark-class-low f = omega arith

current-class-low : (f : ℕ) → current_class f < 128
current-class-low f = omega arith

-- what zeros have, and a list that is given a class keeps, the classes of a walk have
module _ (m : Machine) (l : Line) (P : List ℕ → Type 0) (zeros : P (replicate (glyphs l) 0)) (kept : (g : Option ℕ) (v : ℕ) (cs : List ℕ) → v < 128 → P cs → P (give g v cs)) where
  abbrev Has : Walk → Type 0
  Has (going s) = P s.given
  Has (stopped cs k) = P cs

  has-taken : (e : Entry) (s : Conf) → P s.given → Has (taken e l s)
  unfolding taken
  has-taken e s h = go (stays e.flags) (ltb s.place (glyphs l))
    where
      given : P (given_by e l s)
      given =
          kept (current (glyphs l) s.place) (current_class e.flags) (give s.mark (mark_class e.flags) s.given) (current-class-low e.flags)
          (kept s.mark (mark_class e.flags) s.given (mark-class-low e.flags) h)

      go : (a b : Bool) → Has (cond a (going (on_at s.place e l s)) (cond b (going (on_at (s.place + 1) e l s)) (stopped (given_by e l s) (s.count + 1))))
      go true b = given
      go false true = given
      go false false = given

  has-step : (w : Walk) → Has w → Has (step m l w)
  unfolding step
  has-step (going s) h = has-taken (met m l s) s h
  has-step (stopped cs k) h = h

  has-after : (n : ℕ) → Has (after m l n)
  unfolding after begin
  has-after zero = zeros
  has-after (suc n) = has-step (after m l n) (has-after n)

  has_end : (cs : List ℕ) (k : ℕ) → Ends m l cs k → P cs
  unfolding Ends
  has_end cs k e = subst Has e.1 (has-after e.0)

-- a class for each glyph
pub ends-length : (m : Machine) (l : Line) (cs : List ℕ) (k : ℕ) → Ends m l cs k → length cs ≡ glyphs l
ends-length m l =
    has_end m l (λ (cs : List ℕ). length cs ≡ glyphs l) (length-replicate (glyphs l) 0) (λ g v cs h e. give-length g v cs ∙ e)

-- each below 128
pub ends_low : (m : Machine) (l : Line) (cs : List ℕ) (k : ℕ) → Ends m l cs k → (place : ℕ) → get_or cs place 0 < 128
ends_low m l = has_end m l (λ (cs : List ℕ). (place : ℕ) → get_or cs place 0 < 128) (λ place. zeros-low (glyphs l) place) give-low
  where
    zeros-low : (n place : ℕ) → get_or (replicate n 0) place 0 < 128
    zeros-low zero place = omega arith
    zeros-low (suc n) zero = omega arith
    zeros-low (suc n) (suc place) = zeros-low n place

    set-low : (cs : List ℕ) (p v : ℕ) → v < 128 → ((place : ℕ) → get_or cs place 0 < 128) → (place : ℕ) → get_or (set cs p v) place 0 < 128
    set-low [] p v h e place = e place
    set-low (c ∷ cs) zero v h e zero = h
    set-low (c ∷ cs) zero v h e (suc place) = e (suc place)
    set-low (c ∷ cs) (suc p) v h e zero = e zero
    set-low (c ∷ cs) (suc p) v h e (suc place) = set-low cs p v h (λ i. e (suc i)) place

    give-low : (g : Option ℕ) (v : ℕ) (cs : List ℕ) → v < 128 → ((place : ℕ) → get_or cs place 0 < 128) → (place : ℕ) → get_or (give g v cs) place 0 < 128
    give-low None v cs h e place = e place
    give-low (Some p) v cs h e place = go (eqb v 0)
      where
        go : (b : Bool) → get_or (cond b cs (set cs p v)) place 0 < 128
        go true = e place
        go false = set-low cs p v h e place

-- ---- it ends or never ends

-- a stop after at most S × (glyphs + 1) steps, as many as entries
abbrev Stops : Machine → Line → Type 0
Stops m l = (cs : List ℕ) × (k : ℕ) × (k ≤ most_entries m l) × (after m l k ≡ stopped cs k)

module _ (m : Machine) (l : Line) (ok : Fits m l) where
  Stands : ℕ → Type 0
  Stands n = (s : Conf) × (spent : ℕ) × At m l m.rows s spent × (s.count ≡ n)

  -- n steps: still going by the rules, or it is settled already
  reach : (n : ℕ) → Stands n ⊎ (Stops m l ⊎ Never m l)
  unfolding Stands begin
  reach zero = inl (begin l, 0, at_first m l ok m.rows, refl)
  reach (suc n) = go (reach n)
    where
      Out : Type 0
      Out = Stands (suc n) ⊎ (Stops m l ⊎ Never m l)

      more : (s : Conf) → s.count ≡ n → s.count + 1 ≡ suc n
      more s e = omega arith

      moves : (s : Conf) (spent : ℕ) → At m l m.rows s spent → s.count ≡ n → spent < m.rows → stays (met m l s).flags ≡ false → Dec (s.place < glyphs l) → Out
      moves s spent a e few st (yes h) = inl (_, 0, at-moves m l ok m.rows s spent a few st h, more s e)
      moves s spent a e few st (no h) =
          inr (inl (_, _, stop-most m l ok s spent a few, at_stops m l ok m.rows s spent a few st (omega arith)))

      stay : (s : Conf) (spent : ℕ) → At m l m.rows s spent → s.count ≡ n → spent < m.rows → (b : Bool) → stays (met m l s).flags ≡ b → Out
      stay s spent a e few true st = inl (_, spent + 1, at-stays m l ok m.rows s spent a few st, more s e)
      stay s spent a e few false st = moves s spent a e few st (dec_lt s.place (glyphs l))

      spend : (s : Conf) (spent : ℕ) → At m l m.rows s spent → s.count ≡ n → Dec (spent < m.rows) → Out
      spend s spent a e (yes few) = stay s spent a e few (stays (met m l s).flags) refl
      spend s spent a e (no q) = inr (inr (spent-never m l ok m.rows s spent a (omega arith)))

      go : Stands n ⊎ (Stops m l ⊎ Never m l) → Out
      go (inr w) = inr w
      go (inl (s, spent, a, e)) = spend s spent a e (dec_lt spent m.rows)

  settled : Stops m l ⊎ Never m l
  unfolding Stands
  settled = go (reach (suc (most_entries m l)))
    where
      go : Stands (suc (most_entries m l)) ⊎ (Stops m l ⊎ Never m l) → Stops m l ⊎ Never m l
      go (inr w) = w
      go (inl (s, spent, a, e)) = absurd (omega (arith, at_most m l ok s spent a))

  -- it ends or never ends
  pub ends-or-never : ((cs : List ℕ) × (k : ℕ) × Ends m l cs k) ⊎ Never m l
  unfolding Ends
  ends-or-never = go settled
    where
      go : Stops m l ⊎ Never m l → ((cs : List ℕ) × (k : ℕ) × Ends m l cs k) ⊎ Never m l
      go (inl (cs, k, h, e)) = inl (cs, k, (k, e))
      go (inr n) = inr n

  -- a walk that ends takes at most S × (glyphs + 1) entries, and stops with the last of them
  pub ends-within : (cs : List ℕ) (k : ℕ) → Ends m l cs k → (k ≤ most_entries m l) × (after m l k ≡ stopped cs k)
  unfolding Ends
  ends-within cs k e = go settled
    where
      go : Stops m l ⊎ Never m l → (k ≤ most_entries m l) × (after m l k ≡ stopped cs k)
      go (inr n) = absurd (not-both m l cs k e n)
      go (inl (cs', k', h, e')) =
          let q : (cs ≡ cs') × (k ≡ k') = same_end m l cs cs' k k' e (k', e') in
          rw (q.0, q.1) (h, e')

  -- what ends has stopped by then
  pub ends-walked : (cs : List ℕ) (k : ℕ) → Ends m l cs k → walked m l ≡ stopped cs k
  unfolding walked
  ends-walked cs k e =
      let w : (k ≤ most_entries m l) × (after m l k ≡ stopped cs k) = ends-within cs k e in
      still-at m l k (most_entries m l) cs k w.0 w.1

  -- what is still going then never ends
  pub walked-never : (s : Conf) → walked m l ≡ going s → Never m l
  walked-never s e = go ends-or-never
    where
      go : ((cs : List ℕ) × (k : ℕ) × Ends m l cs k) ⊎ Never m l → Never m l
      go (inr n) = n
      go (inl (cs, k, w)) =
          let p : walked m l ≡ stopped cs k = ends-walked cs k w in
          let z : ◌≡◌ {A = ℕ} 0 1 = cc in
          absurd (omega arith)
