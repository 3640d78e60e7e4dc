-- What a caller may use of an action list: its length, what stands at a place, and of a list without fault the limits, and that what is read of it lies inside the table.
use Rattle.std.specs.Prelude.{None, Some}
use Prim.Native.Nat.{ℕ, zero, suc, ◌+◌, ◌-◌, ◌*◌, ◌≤◌, ◌<◌}
use mathlib.Core.Path.{◌≡◌, refl, ap, ap₂, sym, ◌∙◌, subst}
use mathlib.Core.Bool.{Bool, true, false, cond, ◌||◌}
use mathlib.Core.Logic.{◌⊎◌, inl, inr}
use mathlib.Core.Option.{none, some}
use mathlib.Core.List.{List, ◌∷◌}
use native.Mathlib.Omega.{arith}
use lib.ListN.{length, get_or, get_elem?, take, drop}
use lib.Seq.{take_all, drop-cons}
use lib.Dec.{ltb, eqb}
use borrow.Author.Tests.{leb-true, ltb-true, ltb-false, eqb-true}
use Rattle.fields.specs.Faults.{Clear}
use Rattle.fields.specs.declared.Refusal.TheVariants.{BadActions}
use Rattle.fields.specs.Field.{u16_at, u32_at, Bytes}
use Rattle.fields.specs.Walk.{walk}
use Rattle.fields.proofs.Laws.{then-first, then-second, rule-holds, inside-holds}
use Rattle.meaning.specs.Meaning.{Action}
use Rattle.actions.specs.declared.Stretch.{Stretch}
use Rattle.encoding.specs.Codes.{All}
use Rattle.encoding.specs.Upto.{from}
use Rattle.encoding.proofs.UptoLaws.{get_or-from, all_from}
use Rattle.meaning.specs.Limits.{OkContent, OkAction, OkActions}
use Rattle.actions.specs.Faults.{glyph_fault, added_fault, count_fault, glyphs_fault, type0_fault, type2_fault, type5_fault, data_fault, length_fault, action_fault, actions_fault, list_fault}
use Rattle.actions.specs.Actions.{bytes_at, content_at, action_at, actions_at, list_at, place_after, spot_in_list, components_at, clipped}
use Rattle.actions.proofs.Steps.{glyph-inside, data-0, components-some}
use Rattle.actions.proofs.Copies.{bytes-length}

-- ---- any list

module _ (t : List ℕ) where
  actions-length : (n at : ℕ) → length (actions_at t n at) ≡ n
  unfolding actions_at
  actions-length zero at = refl
  actions-length (suc n) at = ap suc (actions-length n (at + u32_at t (at + 4)))

  pub list_length : (at : ℕ) → length (list_at t at) ≡ u32_at t at
  unfolding list_at
  list_length at = actions-length (u32_at t at) (at + 4)

  action-there : (n at k : ℕ) → k < n → get_elem? (actions_at t n at) k ≡ some (action_at t (place_after t k at))
  unfolding actions_at place_after
  action-there zero at k h = absurd (omega arith)
  action-there (suc n) at zero h = refl
  action-there (suc n) at (suc k) h = action-there n (at + u32_at t (at + 4)) k (omega arith)

  action-past-all : (n at k : ℕ) → n ≤ k → get_elem? (actions_at t n at) k ≡ none
  unfolding actions_at
  action-past-all zero at k h = refl
  action-past-all (suc n) at zero h = absurd (omega arith)
  action-past-all (suc n) at (suc k) h = action-past-all n (at + u32_at t (at + 4)) k (omega arith)

  -- which number a place goes with, and where it is
  place-means : (at k p : ℕ) → spot_in_list t at k ≡ Some p → (k < u32_at t at) × (p ≡ place_after t k (at + 4))
  unfolding spot_in_list
  place-means at k p e = go (ltb k (u32_at t at)) refl e
    where
      go : (b : Bool) → ltb k (u32_at t at) ≡ b → cond b (Some (place_after t k (at + 4))) None ≡ Some p
          → (k < u32_at t at) × (p ≡ place_after t k (at + 4))
      go true q f = (ltb-true _ _ q, cc)
      go false q f = let z : ◌≡◌ {A = ℕ} 0 1 = cc in absurd (omega arith)

  pub place_at : (at k p : ℕ) → spot_in_list t at k ≡ Some p → get_elem? (list_at t at) k ≡ some (action_at t p)
  unfolding list_at
  place_at at k p e =
      let m = place-means at k p e in
      action-there (u32_at t at) (at + 4) k m.0 ∙ ap (λ (q : ℕ). some (action_at t q)) (sym m.1)

  pub place_none : (at k : ℕ) → spot_in_list t at k ≡ None → get_elem? (list_at t at) k ≡ none
  unfolding list_at spot_in_list
  place_none at k e = go (ltb k (u32_at t at)) refl e
    where
      go : (b : Bool) → ltb k (u32_at t at) ≡ b → cond b (Some (place_after t k (at + 4))) None ≡ None
          → get_elem? (actions_at t (u32_at t at) (at + 4)) k ≡ none
      go true q f = let z : ◌≡◌ {A = ℕ} 0 1 = cc in absurd (omega arith)
      go false q f = action-past-all (u32_at t at) (at + 4) k (ltb-false _ _ q)

  pub components-ordered : (at : ℕ) → (components_at t at).from ≤ (components_at t at).to
  unfolding components_at
  components-ordered at = go (eqb (u16_at t (at + 2)) 0)
    where
      pick : Bool → Stretch
      pick b = cond b (record { from = at + 20; to = at + 20 + 2 * u16_at t (at + 18) }) (record { from = 0; to = 0 })

      go : (b : Bool) → (pick b).from ≤ (pick b).to
      go true = omega arith
      go false = omega arith

-- data of at most 76 bytes is handed out whole
pub clipped-same : (a : Action) → length a.content ≤ 76 → clipped a ≡ a
clipped-same a h = ap (λ (l : List ℕ). record { class = a.class; ty = a.ty; content = l }) (take_all 76 a.content h)

pub clipped-ok : (n : ℕ) (a : Action) → OkAction n a → clipped a ≡ a
clipped-ok n a ok = clipped-same a ok.2

-- ---- bytes of the table

module _ (t : List ℕ) where
  byte_of : (at n k : ℕ) → k < n → get_or (bytes_at t at n) k 0 ≡ get_or t (at + k) 0
  unfolding bytes_at
  byte_of at n k h = get_or-from (λ i. get_or t i 0) n at k 0 h

  word_of : (at n k p : ℕ) → k + 1 < n → p ≡ at + k → u16_at (bytes_at t at n) k ≡ u16_at t p
  unfolding u16_at
  word_of at n k p h e =
      let a : get_or (bytes_at t at n) k 0 ≡ get_or t p 0 = byte_of at n k (omega arith) ∙ ap (λ (i : ℕ). get_or t i 0) (sym e) in
      let q : at + (k + 1) ≡ p + 1 = omega arith in
      let b : get_or (bytes_at t at n) (k + 1) 0 ≡ get_or t (p + 1) 0 = byte_of at n (k + 1) h ∙ ap (λ (i : ℕ). get_or t i 0) q in
      omega arith

  bytes-all : (at n : ℕ) → Bytes t → All (λ (b : ℕ). b < 256) (bytes_at t at n)
  unfolding bytes_at
  bytes-all at n w = all_from (λ i. get_or t i 0) (λ (b : ℕ). b < 256) n at (λ k _ _. w k)

  bytes_drop : (k n at : ℕ) → drop k (bytes_at t at (k + n)) ≡ bytes_at t (at + k) n
  unfolding bytes_at from
  bytes_drop zero n at =
      let e : 0 + n ≡ n = omega arith in
      let p : at ≡ at + 0 = omega arith in
      ap₂ (λ (i j : ℕ). bytes_at t i j) p e
  bytes_drop (suc k) n at =
      let e : suc k + n ≡ suc (k + n) = omega arith in
      let p : suc at + k ≡ at + suc k = omega arith in
      ap (λ (j : ℕ). drop (suc k) (bytes_at t at j)) e ∙ bytes_drop k n (suc at) ∙ ap (λ (i : ℕ). bytes_at t i n) p

  bytes-stretch : (n at : ℕ) → at + n ≤ length t → bytes_at t at n ≡ take n (drop at t)
  unfolding bytes_at from
  bytes-stretch zero at h = refl
  bytes-stretch (suc n) at h =
      ap (λ (l : List ℕ). get_or t at 0 ∷ l) (bytes-stretch n (suc at) (omega arith))
      ∙ ap (take (suc n)) (sym (drop-cons t at 0 (omega arith)))

-- ---- an action without fault

or_cases : (a b : Bool) → (a || b) ≡ true → (a ≡ true) ⊎ (b ≡ true)
or_cases true b e = inl refl
or_cases false b e = inr e

record Content (n ty : ℕ) (d : List ℕ) : Type 0 where
  short : length d ≤ 76
  bytes : All (λ (b : ℕ). b < 256) d
  ok : OkContent n ty d

module _ (t : List ℕ) (n : ℕ) where
  glyph-ok : (p : ℕ) → glyph_fault t n p ≡ Clear → u16_at t p < n
  unfolding glyph_fault
  glyph-ok p e = ltb-true _ _ (rule-holds _ BadActions p (then-second _ _ e))

  added-ok : (p : ℕ) → added_fault t n p ≡ Clear → (u16_at t p < n) ⊎ (u16_at t p ≡ 0xFFFF)
  unfolding added_fault
  added-ok p e = go (or_cases (eqb (u16_at t p) 0xFFFF) (ltb (u16_at t p) n) (rule-holds _ BadActions p (then-second _ _ e)))
    where
      go : (eqb (u16_at t p) 0xFFFF ≡ true) ⊎ (ltb (u16_at t p) n ≡ true) → (u16_at t p < n) ⊎ (u16_at t p ≡ 0xFFFF)
      go (inl q) = inr (eqb-true _ _ q)
      go (inr q) = inl (ltb-true _ _ q)

  glyphs-each : (m p k : ℕ) → glyphs_fault t n m p ≡ Clear → k < m → glyph_fault t n (p + 2 * k) ≡ Clear
  unfolding walk
  glyphs-each zero p k e h = absurd (omega arith)
  glyphs-each (suc m) p zero e h = let q : p + 2 * 0 ≡ p = omega arith in rw q (then-first _ _ e)
  glyphs-each (suc m) p (suc k) e h =
      let q : p + 2 * suc k ≡ p + 2 + 2 * k = omega arith in
      rw q (glyphs-each m (p + 2) k (then-second _ _ e) (omega arith))

  count-ok : (at : ℕ) → count_fault t at ≡ Clear → (1 ≤ u16_at t (at + 18)) × (u16_at t (at + 18) ≤ 32)
  unfolding count_fault
  count-ok at e = (
    leb-true _ _ (rule-holds _ BadActions (at + 18) (then-first _ _ (then-second _ _ e))),
    leb-true _ _ (rule-holds _ BadActions (at + 18) (then-first _ _ (then-second _ _ (then-second _ _ e)))),
  )

  module _ (at : ℕ) (w : Bytes t) where
    content0 : type0_fault t n at ≡ Clear → Content n 0 (content_at t at 0)
    unfolding type0_fault content_at
    content0 e =
        let e3 = then-second _ _ (then-second _ _ (then-second _ _ e)) in
        let count = count-ok at (then-first _ _ e3) in
        let m : ℕ = u16_at t (at + 18) in
        let c : u16_at (bytes_at t (at + 8) (12 + 2 * m)) 10 ≡ m = word_of t (at + 8) (12 + 2 * m) 10 (at + 18) (omega arith) (omega arith) in
        record {
          short = omega (arith, bytes-length t (at + 8) (12 + 2 * m), count.1);
          bytes = bytes-all t (at + 8) (12 + 2 * m) w;
          ok = (
            omega (arith, bytes-length t (at + 8) (12 + 2 * m), c),
            omega (arith, c, count.0),
            omega (arith, c, count.1),
            λ k h. let l : k < m = omega (arith, c, h) in
                rw (word_of t (at + 8) (12 + 2 * m) (12 + 2 * k) (at + 20 + 2 * k) (omega arith) (omega arith))
                (glyph-ok (at + 20 + 2 * k) (glyphs-each m (at + 20) k (then-second _ _ e3) l)),
          );
        }

    content1 : glyph_fault t n (at + 8) ≡ Clear → Content n 1 (content_at t at 1)
    unfolding content_at
    content1 e =
        record {
          short = omega (arith, bytes-length t (at + 8) 2);
          bytes = bytes-all t (at + 8) 2 w;
          ok = (bytes-length t (at + 8) 2, rw (word_of t (at + 8) 2 0 (at + 8) (omega arith) (omega arith)) (glyph-ok (at + 8) e));
        }

    content2 : type2_fault t n at ≡ Clear → Content n 2 (content_at t at 2)
    unfolding type2_fault content_at
    content2 e =
        let e1 = then-second _ _ e in
        record {
          short = omega (arith, bytes-length t (at + 8) 8);
          bytes = bytes-all t (at + 8) 8 w;
          ok = (
            bytes-length t (at + 8) 8,
            rw (word_of t (at + 8) 8 4 (at + 12) (omega arith) (omega arith)) (added-ok (at + 12) (then-first _ _ e1)),
            rw (word_of t (at + 8) 8 6 (at + 14) (omega arith) (omega arith)) (glyph-ok (at + 14) (then-second _ _ e1)),
          );
        }

    content3 : Content n 3 (content_at t at 3)
    unfolding content_at
    content3 = record { short = omega (arith, bytes-length t (at + 8) 0); bytes = bytes-all t (at + 8) 0 w; ok = bytes-length t (at + 8) 0 }

    content4 : Content n 4 (content_at t at 4)
    unfolding content_at
    content4 = record { short = omega (arith, bytes-length t (at + 8) 16); bytes = bytes-all t (at + 8) 16 w; ok = bytes-length t (at + 8) 16 }

    content5 : type5_fault t n at ≡ Clear → Content n 5 (content_at t at 5)
    unfolding type5_fault content_at u16_at
    content5 e =
        record {
          short = omega (arith, bytes-length t (at + 10) 2);
          bytes = (omega arith, (omega arith, bytes-all t (at + 10) 2 w));
          ok = (
            ap (λ (k : ℕ). suc (suc k)) (bytes-length t (at + 10) 2),
            refl,
            subst (λ (g : ℕ). g < n) (sym (word_of t (at + 10) 2 0 (at + 10) (omega arith) (omega arith))) (glyph-ok (at + 10) (then-second _ _ e)),
          );
        }

    content : (k : ℕ) → k ≤ 5 → data_fault t n at k ≡ Clear → Content n k (content_at t at k)
    unfolding data_fault
    content zero h e = content0 e
    content (suc zero) h e = content1 e
    content (suc (suc zero)) h e = content2 e
    content (suc (suc (suc zero))) h e = content3
    content (suc (suc (suc (suc zero)))) h e = content4
    content (suc (suc (suc (suc (suc zero))))) h e = content5 e
    content (suc (suc (suc (suc (suc (suc k)))))) h e = absurd (omega arith)

  pub action-ok : (at : ℕ) → Bytes t → action_fault t n at ≡ Clear → OkAction n (action_at t at)
  unfolding action_fault action_at
  action-ok at w e =
      let e1 = then-second _ _ e in
      let e3 = then-second _ _ (then-second _ _ e1) in
      let class : u16_at t at ≤ 127 = leb-true _ _ (rule-holds _ BadActions at (then-first _ _ e1)) in
      let ty : u16_at t (at + 2) ≤ 5 = leb-true _ _ (rule-holds _ BadActions (at + 2) (then-first _ _ e3)) in
      let c = content at w (u16_at t (at + 2)) ty (then-second _ _ (then-second _ _ e3)) in
      (omega arith, ty, c.short, c.bytes, c.ok)

  -- its class, type and length lie inside
  pub action-inside : (at : ℕ) → action_fault t n at ≡ Clear → at + 8 ≤ length t
  unfolding action_fault length_fault
  action-inside at e =
      omega (arith, inside-holds t (at + 4) 4 (then-first _ _ (then-first _ _ (then-second _ _ (then-second _ _ (then-second _ _ (then-second _ _ e)))))))

  -- and so do the glyphs of one of type 0
  type0-inside : (at : ℕ) → type0_fault t n at ≡ Clear → at + 20 + 2 * u16_at t (at + 18) ≤ length t
  unfolding type0_fault
  type0-inside at e =
      let e3 = then-second _ _ (then-second _ _ (then-second _ _ e)) in
      let m : ℕ = u16_at t (at + 18) in
      let some : 1 ≤ m = (count-ok at (then-first _ _ e3)).0 in
      let last = glyph-inside t n (at + 20 + 2 * (m - 1)) (glyphs-each m (at + 20) (m - 1) (then-second _ _ e3) (omega arith)) in
      omega arith

  pub type0-clear : (at : ℕ) → action_fault t n at ≡ Clear → u16_at t (at + 2) ≡ 0 → type0_fault t n at ≡ Clear
  unfolding action_fault
  type0-clear at e z =
      sym (data-0 t n at (u16_at t (at + 2)) z) ∙ then-second _ _ (then-second _ _ (then-second _ _ (then-second _ _ (then-second _ _ e))))

  pub components-inside : (at : ℕ) → action_fault t n at ≡ Clear → (components_at t at).to ≤ length t
  unfolding components_at
  components-inside at e = go (eqb (u16_at t (at + 2)) 0) refl
    where
      go : (b : Bool) → eqb (u16_at t (at + 2)) 0 ≡ b
          → (cond {A = Stretch} b (record { from = at + 20; to = at + 20 + 2 * u16_at t (at + 18) }) (record { from = 0; to = 0 })).to ≤ length t
      go true q = type0-inside at (type0-clear at e (eqb-true _ _ q))
      go false q = omega arith

  -- that stretch is what a type 0 action's data has after the count
  pub components-are : (at : ℕ) → action_fault t n at ≡ Clear → u16_at t (at + 2) ≡ 0
      → take ((components_at t at).to - (components_at t at).from) (drop (components_at t at).from t) ≡ drop 12 (action_at t at).content
  unfolding components_at action_at content_at
  components-are at e z =
      let m : ℕ = u16_at t (at + 18) in
      let w : at + 20 + 2 * m - (at + 20) ≡ 2 * m = omega arith in
      let p : at + 20 ≡ at + 8 + 12 = omega arith in
      ap (λ (s : Stretch). take (s.to - s.from) (drop s.from t)) (components-some t at (u16_at t (at + 2)) m refl refl z)
      ∙ ap (λ (j : ℕ). take j (drop (at + 20) t)) w
      ∙ sym (bytes-stretch t (2 * m) (at + 20) (type0-inside at (type0-clear at e z)))
      ∙ ap (λ (i : ℕ). bytes_at t i (2 * m)) p
      ∙ sym (bytes_drop t 12 (2 * m) (at + 8))
      ∙ ap (λ (k : ℕ). drop 12 (content_at t at k)) (sym z)

-- ---- a list without fault

module _ (t : List ℕ) (n : ℕ) where
  actions-each : (m p k : ℕ) → actions_fault t n m p ≡ Clear → k < m → action_fault t n (place_after t k p) ≡ Clear
  unfolding walk place_after
  actions-each zero p k e h = absurd (omega arith)
  actions-each (suc m) p zero e h = then-first _ _ e
  actions-each (suc m) p (suc k) e h = actions-each m (p + u32_at t (p + 4)) k (then-second _ _ e) (omega arith)

  actions-all : (m p : ℕ) → Bytes t → actions_fault t n m p ≡ Clear → All (OkAction n) (actions_at t m p)
  unfolding walk actions_at
  actions-all zero p w e = tt
  actions-all (suc m) p w e = (action-ok t n p w (then-first _ _ e), actions-all m (p + u32_at t (p + 4)) w (then-second _ _ e))

  pub list_count : (at : ℕ) → list_fault t n at ≡ Clear → u32_at t at ≤ 64
  unfolding list_fault
  list_count at e = leb-true _ _ (rule-holds _ BadActions at (then-first _ _ (then-second _ _ e)))

  pub list_inside : (at : ℕ) → list_fault t n at ≡ Clear → at + 4 ≤ length t
  unfolding list_fault
  list_inside at e = inside-holds t at 4 (then-first _ _ e)

  -- the action that is found in it is without fault
  pub list-each : (at k p : ℕ) → list_fault t n at ≡ Clear → spot_in_list t at k ≡ Some p → action_fault t n p ≡ Clear
  unfolding list_fault
  list-each at k p e f =
      let m = place-means t at k p f in
      rw m.1 (actions-each (u32_at t at) (at + 4) k (then-second _ _ (then-second _ _ e)) m.0)

  pub list-ok : (at : ℕ) → Bytes t → list_fault t n at ≡ Clear → OkActions n (list_at t at)
  unfolding list_fault list_at
  list-ok at w e =
      (omega (arith, actions-length t (u32_at t at) (at + 4), list_count at e), actions-all (u32_at t at) (at + 4) w (then-second _ _ (then-second _ _ e)))
