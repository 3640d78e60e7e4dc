-- The first fault of a table in plain words (document 01, "Numbers of refusal"): it is refused exactly when one of the listed faults holds, with the number and
-- the offset of the first; the header's refusals in terms of length, glyph count, version and format; horizontal before vertical.
use Rattle.fields.proofs.Laws.{bad-refusal, bad-at}
use Rattle.std.specs.Prelude.{Ok, Err}
use Prim.Native.Nat.{ℕ, zero, suc, ◌+◌, ◌≤◌, ◌<◌}
use mathlib.Core.Path.{◌≡◌, refl, sym, ap, ap₂, ◌∙◌, subst}
use mathlib.Core.Bool.{Bool, true, false}
use mathlib.Core.Logic.{◌⊎◌, inl, inr, ◌↔◌}
use mathlib.Core.List.{List, [], ◌∷◌}
use native.Mathlib.Omega.{arith}
use native.Mathlib.Decide.{ℕ_discrete}
use lib.ListN.{length}
use lib.Dec.{leb, eqb}
use borrow.Author.Tests.{leb-true, leb-false, le-leb, lt-leb, eqb-true, eqb-false, eq-eqb, ne_eqb}
use Rattle.fields.specs.declared.Refusal.{Refusal}
use Rattle.fields.specs.declared.Refusal.TheVariants.{TableLength, GlyphCount, Version}
use Rattle.fields.specs.Faults.{FirstFault}
use Rattle.fields.specs.Faults.{Clear, Bad}
use Rattle.fields.specs.Field.{u16_at, u32_at}
use Rattle.fields.specs.Faults.{◌then◌, rule}
use Rattle.fields.proofs.Laws.{then-assoc, then-clear, then-first, then-second, then-stop, then-go, rule-holds, rule-clear, rule-fails}
use Rattle.fields.specs.Walk.{walk, each}
use Rattle.lookup.specs.Lookup.{lookup_fault}
use Rattle.lookup_targets.specs.declared.Kind.{Kind}
use Rattle.lookup_targets.specs.Values.{target_fault, values_fault}
use Rattle.fields.specs.Refusals.{number_of, one_number}
use Rattle.answers.specs.Says.{accepted, barred, judged_by}
use Rattle.table.specs.Table.{present, header_fault, offsets_fault, direction_fault, table_fault, Accepted}
use Rattle.table_laws.specs.Order.{FirstIs, NoFault, FirstGlyph, table_parts, direction_parts, GoodHeader, BadHeader, length-fails, count-fails, version-fails}

-- ---- a chain of faults

-- the faults of a list, one after the other
abbrev pub chain : List FirstFault → FirstFault
chain [] = Clear
chain (f ∷ fs) = f then chain fs

pub clear-not-bad : {r : Refusal} {at : ℕ} {f : FirstFault} → f ≡ Clear → f ≡ Bad r at → ⊥
clear-not-bad {r} {at} {f} p q = let z : ◌≡◌ {A = ℕ} 0 1 = cc in omega arith

pub chain_first : (fs : List FirstFault) (r : Refusal) (at : ℕ) → chain fs ≡ Bad r at → FirstIs fs r at
chain_first [] r at e = clear-not-bad refl e
chain_first (f ∷ fs) r at e = go f refl (chain_first fs r at)
  where
    go : (g : FirstFault) → f ≡ g → (chain fs ≡ Bad r at → FirstIs fs r at) → (f ≡ Bad r at) ⊎ ((f ≡ Clear) × FirstIs fs r at)
    go (Ok u) p ih = inr (p, ih (sym (then-go (chain fs) p) ∙ e))
    go (Err f) p ih = inl (sym (then-stop (chain fs) p) ∙ e)

pub first-chain : (fs : List FirstFault) (r : Refusal) (at : ℕ) → FirstIs fs r at → chain fs ≡ Bad r at
first-chain [] r at h = absurd h
first-chain (f ∷ fs) r at (inl p) = then-stop (chain fs) p ∙ p
first-chain (f ∷ fs) r at (inr h) = then-go (chain fs) h.0 ∙ first-chain fs r at h.1

pub chain-free : (fs : List FirstFault) → chain fs ≡ Clear → NoFault fs
chain-free [] e = tt
chain-free (f ∷ fs) e = (then-first _ _ e, chain-free fs (then-second _ _ e))

pub free-chain : (fs : List FirstFault) → NoFault fs → chain fs ≡ Clear
free-chain [] h = refl
free-chain (f ∷ fs) h = then-go (chain fs) h.0 ∙ free-chain fs h.1

-- ---- the table

table-chain : (t : List ℕ) (n : ℕ) → table_fault t n ≡ chain (table_parts t n)
unfolding table_fault
table-chain t n = simp then-clear

-- a table is refused with r at `at` exactly when this is the fault of its first part, header, horizontal, vertical, that has one
pub first-fault : (t : List ℕ) (n : ℕ) (r : Refusal) (at : ℕ) → (table_fault t n ≡ Bad r at) ↔ FirstIs (table_parts t n) r at
first-fault t n r at =
    (λ e. chain_first (table_parts t n) r at (sym (table-chain t n) ∙ e), λ h. table-chain t n ∙ first-chain (table_parts t n) r at h)

-- it is accepted exactly when none of its parts has a fault
pub no-fault : (t : List ℕ) (n : ℕ) → Accepted t n ↔ NoFault (table_parts t n)
unfolding Accepted
no-fault t n = (λ e. chain-free (table_parts t n) (sym (table-chain t n) ∙ e), λ h. table-chain t n ∙ free-chain (table_parts t n) h)

-- horizontal is judged before vertical: where the horizontal direction has a fault, it is the table's, whatever the vertical direction is
pub horizontal-first : (t : List ℕ) (n : ℕ) (r : Refusal) (at : ℕ) → header_fault t n ≡ Clear → direction_fault t n (u16_at t 6) ≡ Bad r at
    → table_fault t n ≡ Bad r at
horizontal-first t n r at h e = (first-fault t n r at).1 (inr (h, inl e))

-- the vertical direction's fault is the table's where neither the header nor the horizontal direction has one
pub vertical-last : (t : List ℕ) (n : ℕ) (r : Refusal) (at : ℕ) → header_fault t n ≡ Clear → direction_fault t n (u16_at t 6) ≡ Clear
    → direction_fault t n (u16_at t 8) ≡ Bad r at → table_fault t n ≡ Bad r at
vertical-last t n r at h e f = (first-fault t n r at).1 (inr (h, inr (e, inl f)))

-- ---- a direction

-- a direction at offset 0 is absent, and has no fault
pub absent-clear : (t : List ℕ) (n at : ℕ) → at ≡ 0 → direction_fault t n at ≡ Clear
unfolding direction_fault present
absent-clear t n at e = simp (eq-eqb at 0 e)

direction-chain : (t : List ℕ) (n at : ℕ) → (at ≡ 0 → ⊥) → direction_fault t n at ≡ chain (direction_parts t n at)
unfolding direction_fault present offsets_fault
direction-chain t n at h = simp (ne_eqb at 0 h, then-clear, then-assoc)

-- a present direction has the fault of the first of its parts, in order, that has one
pub direction-first : (t : List ℕ) (n at : ℕ) (r : Refusal) (p : ℕ) → (at ≡ 0 → ⊥) → (direction_fault t n at ≡ Bad r p) ↔ FirstIs (direction_parts t n at) r p
direction-first t n at r p h =
    (λ e. chain_first (direction_parts t n at) r p (sym (direction-chain t n at h) ∙ e), λ f. direction-chain t n at h ∙ first-chain (direction_parts t n at) r p f)

-- and none exactly when none of them has one
pub direction-free : (t : List ℕ) (n at : ℕ) → (at ≡ 0 → ⊥) → (direction_fault t n at ≡ Clear) ↔ NoFault (direction_parts t n at)
direction-free t n at h =
    (λ e. chain-free (direction_parts t n at) (sym (direction-chain t n at h) ∙ e), λ f. direction-chain t n at h ∙ free-chain (direction_parts t n at) f)

-- ---- a lookup and what its values lead to

-- the first of n things from `at` on that has a fault
FirstFrom : (ℕ → FirstFault) → ℕ → ℕ → Refusal → ℕ → Type 0
FirstFrom one n at r p = (q : ℕ) × (at ≤ q) × (q < at + n) × ((j : ℕ) → at ≤ j → j < q → one j ≡ Clear) × (one q ≡ Bad r p)

each_first : (one : ℕ → FirstFault) (n at : ℕ) (r : Refusal) (p : ℕ) → each one (λ q. q + 1) n at ≡ Bad r p → FirstFrom one n at r p
unfolding walk FirstFrom
each_first one zero at r p e = absurd (clear-not-bad refl e)
each_first one (suc n) at r p e = go (one at) refl (each_first one n (at + 1) r p)
  where
    go : (f : FirstFault) → one at ≡ f → (each one (λ q. q + 1) n (at + 1) ≡ Bad r p → FirstFrom one n (at + 1) r p) → FirstFrom one (suc n) at r p
    go (Err f) q ih = (at, omega arith, omega arith, (λ j a b. absurd (omega arith)), sym (then-stop _ q) ∙ e)
    go (Ok u) q ih =
        let h = ih (sym (then-go _ q) ∙ e) in
        (h.0, omega (arith, h.1), omega (arith, h.2), (λ j a b. before h.3 j a b (ℕ_discrete j at)), h.4)
      where
        before : {k : ℕ} → ((j : ℕ) → at + 1 ≤ j → j < k → one j ≡ Clear) → (j : ℕ) → at ≤ j → j < k → Dec (j ≡ at) → one j ≡ Clear
        before c j a b (yes w) = ap one w ∙ q
        before c j a b (no w) = c j (omega arith) b

first-each : (one : ℕ → FirstFault) (n at : ℕ) (r : Refusal) (p : ℕ) → FirstFrom one n at r p → each one (λ q. q + 1) n at ≡ Bad r p
unfolding walk FirstFrom
first-each one zero at r p h = absurd (omega (arith, h.1, h.2))
first-each one (suc n) at r p h = go (ℕ_discrete h.0 at) (first-each one n (at + 1) r p)
  where
    go : Dec (h.0 ≡ at) → (FirstFrom one n (at + 1) r p → each one (λ q. q + 1) n (at + 1) ≡ Bad r p) → each one (λ q. q + 1) (suc n) at ≡ Bad r p
    go (yes w) ih = let e : one at ≡ Bad r p = ap one (sym w) ∙ h.4 in then-stop _ e ∙ e
    go (no w) ih =
        then-go _ (h.3 at (omega arith) (omega (arith, h.1, w)))
        ∙ ih (h.0, omega (arith, h.1, w), omega (arith, h.2), (λ j a b. h.3 j (omega arith) b), h.4)

-- a lookup comes before what its values lead to, and that is judged glyphs upward
pub values-first : (t : List ℕ) (n : ℕ) (kind : Kind) (at base : ℕ) (r : Refusal) (p : ℕ)
    → (values_fault t n kind at base ≡ Bad r p)
    ↔ ((lookup_fault t n at ≡ Bad r p) ⊎ ((lookup_fault t n at ≡ Clear) × FirstGlyph (target_fault t n kind at base) n r p))
unfolding values_fault FirstFrom
values-first t n kind at base r p = (there, back)
  where
    one : ℕ → FirstFault
    one = target_fault t n kind at base

    there : (lookup_fault t n at then each one (λ g. g + 1) n 0) ≡ Bad r p
        → (lookup_fault t n at ≡ Bad r p) ⊎ ((lookup_fault t n at ≡ Clear) × FirstGlyph one n r p)
    there e = go (lookup_fault t n at) refl
      where
        go : (f : FirstFault) → lookup_fault t n at ≡ f → (lookup_fault t n at ≡ Bad r p) ⊎ ((lookup_fault t n at ≡ Clear) × FirstGlyph one n r p)
        go (Err f) q = inl (sym (then-stop _ q) ∙ e)
        go (Ok u) q =
            let h = each_first one n 0 r p (sym (then-go _ q) ∙ e) in
            inr (q, (h.0, omega (arith, h.2), (λ j b. h.3 j (omega arith) b), h.4))

    back : (lookup_fault t n at ≡ Bad r p) ⊎ ((lookup_fault t n at ≡ Clear) × FirstGlyph one n r p)
        → (lookup_fault t n at then each one (λ g. g + 1) n 0) ≡ Bad r p
    back (inl e) = then-stop _ e ∙ e
    back (inr (c, h)) = then-go _ c ∙ first-each one n 0 r p (h.0, omega arith, omega (arith, h.1), (λ j a b. h.2 j b), h.3)

-- ---- what the call that checks a table answers

-- that the table is accepted, exactly when it is
pub check-accepts : (t : List ℕ) (n : ℕ) → (judged_by (table_fault t n) ≡ accepted) ↔ Accepted t n
unfolding Accepted
check-accepts t n = (λ e. go (table_fault t n) e, λ e. ap judged_by e)
  where
    go : (f : FirstFault) → judged_by f ≡ accepted → f ≡ Clear
    go (Ok u) e = refl
    go (Err f) e = let z : ◌≡◌ {A = ℕ} 0 1 = cc in absurd (omega arith)

-- a refusal's number and an offset, exactly when they are those of the first part with a fault
pub check-refuses : (t : List ℕ) (n : ℕ) (r : Refusal) (at : ℕ) → (judged_by (table_fault t n) ≡ barred (number_of r) at) ↔ FirstIs (table_parts t n) r at
check-refuses t n r at = (
  λ e. (first-fault t n r at).0 (go (table_fault t n) e),
  λ h. ap judged_by ((first-fault t n r at).1 h),
)
  where
    go : (f : FirstFault) → judged_by f ≡ barred (number_of r) at → f ≡ Bad r at
    go (Ok u) e = let z : ◌≡◌ {A = ℕ} 0 1 = cc in absurd (omega arith)
    go (Err f) e = let z : f.at ≡ at = cc in ap₂ Bad (one_number f.refusal r (cc)) z

-- ---- the header

pub rule-bad : (b : Bool) (r s : Refusal) (at p : ℕ) → rule b r at ≡ Bad s p → (b ≡ false) × (r ≡ s) × (at ≡ p)
unfolding rule
rule-bad true r s at p e = absurd (clear-not-bad refl e)
rule-bad false r s at p e = (refl, bad-refusal e, bad-at e)

-- length, length, count, count, version, format
abbrev header_parts : List ℕ → ℕ → List FirstFault
header_parts t n =
    rule (leb 10 (length t)) TableLength 0
    ∷ rule (leb (length t) 32768) TableLength 0
    ∷ rule (leb 1 n) GlyphCount 0
    ∷ rule (leb n 65535) GlyphCount 0
    ∷ rule (eqb (u32_at t 0) 0x00010000) Version 0
    ∷ rule (eqb (u16_at t 4) 0) Version 0
    ∷ []

module _ (t : List ℕ) (n : ℕ) where
  header-chain : header_fault t n ≡ chain (header_parts t n)
  unfolding header_fault
  header-chain = simp then-clear

  free-good : NoFault (header_parts t n) → GoodHeader t n
  free-good h =
      record {
        long = leb-true _ _ (rule-holds _ TableLength 0 h.0);
        short = leb-true _ _ (rule-holds _ TableLength 0 h.1.0);
        some = leb-true _ _ (rule-holds _ GlyphCount 0 h.1.1.0);
        few = leb-true _ _ (rule-holds _ GlyphCount 0 h.1.1.1.0);
        version = eqb-true _ _ (rule-holds _ Version 0 h.1.1.1.1.0);
        format = eqb-true _ _ (rule-holds _ Version 0 h.1.1.1.1.1.0);
      }

  long-clear : 10 ≤ length t → rule (leb 10 (length t)) TableLength 0 ≡ Clear
  long-clear h = rule-clear TableLength 0 (le-leb _ _ h)

  short-clear : length t ≤ 32768 → rule (leb (length t) 32768) TableLength 0 ≡ Clear
  short-clear h = rule-clear TableLength 0 (le-leb _ _ h)

  some-clear : 1 ≤ n → rule (leb 1 n) GlyphCount 0 ≡ Clear
  some-clear h = rule-clear GlyphCount 0 (le-leb _ _ h)

  few-clear : n ≤ 65535 → rule (leb n 65535) GlyphCount 0 ≡ Clear
  few-clear h = rule-clear GlyphCount 0 (le-leb _ _ h)

  good-free : GoodHeader t n → NoFault (header_parts t n)
  good-free h = (
    long-clear h.long,
    (
      short-clear h.short,
      (
        some-clear h.some,
        (
          few-clear h.few,
          (rule-clear Version 0 (eq-eqb _ _ h.version), (rule-clear Version 0 (eq-eqb _ _ h.format), tt)),
        ),
      ),
    ),
  )

  -- the header is without fault exactly when the length is 10 to 32,768, N is 1 to 65,535, the version is 0x00010000 and the format 0
  pub good-header : (header_fault t n ≡ Clear) ↔ GoodHeader t n
  good-header =
      (λ e. free-good (chain-free (header_parts t n) (sym header-chain ∙ e)), λ h. header-chain ∙ free-chain (header_parts t n) (good-free h))

  first-bad : (r : Refusal) (at : ℕ) → FirstIs (header_parts t n) r at → BadHeader t n r × (at ≡ 0)
  first-bad r at (inl e) =
      let b = rule-bad _ TableLength r 0 at e in
      (subst (BadHeader t n) b.1 (length-fails (inl (leb-false _ _ b.0))), sym b.2)
  first-bad r at (inr (c1, inl e)) =
      let b = rule-bad _ TableLength r 0 at e in
      (subst (BadHeader t n) b.1 (length-fails (inr (leb-false _ _ b.0))), sym b.2)
  first-bad r at (inr (c1, inr (c2, inl e))) =
      let b = rule-bad _ GlyphCount r 0 at e in
      (subst (BadHeader t n) b.1 (count-fails (leb-true _ _ (rule-holds _ _ _ c1)) (leb-true _ _ (rule-holds _ _ _ c2)) (inl (leb-false _ _ b.0))), sym b.2)
  first-bad r at (inr (c1, inr (c2, inr (c3, inl e)))) =
      let b = rule-bad _ GlyphCount r 0 at e in
      (subst (BadHeader t n) b.1 (count-fails (leb-true _ _ (rule-holds _ _ _ c1)) (leb-true _ _ (rule-holds _ _ _ c2)) (inr (leb-false _ _ b.0))), sym b.2)
  first-bad r at (inr (c1, inr (c2, inr (c3, inr (c4, inl e))))) =
      let b = rule-bad _ Version r 0 at e in (
        subst (BadHeader t n) b.1
            (version-fails (leb-true _ _ (rule-holds _ _ _ c1)) (leb-true _ _ (rule-holds _ _ _ c2)) (leb-true _ _ (rule-holds _ _ _ c3)) (leb-true _ _ (rule-holds _ _ _ c4))
            (inl (eqb-false _ _ b.0))),
        sym b.2,
      )
  first-bad r at (inr (c1, inr (c2, inr (c3, inr (c4, inr (c5, inl e)))))) =
      let b = rule-bad _ Version r 0 at e in (
        subst (BadHeader t n) b.1
            (version-fails (leb-true _ _ (rule-holds _ _ _ c1)) (leb-true _ _ (rule-holds _ _ _ c2)) (leb-true _ _ (rule-holds _ _ _ c3)) (leb-true _ _ (rule-holds _ _ _ c4))
            (inr (eqb-false _ _ b.0))),
        sym b.2,
      )
  first-bad r at (inr (c1, inr (c2, inr (c3, inr (c4, inr (c5, inr (c6, h))))))) = absurd h

  version-first : (b : Bool) → eqb (u32_at t 0) 0x00010000 ≡ b → (u32_at t 0 ≡ 0x00010000 → ⊥) ⊎ (u16_at t 4 ≡ 0 → ⊥)
      → FirstIs (rule (eqb (u32_at t 0) 0x00010000) Version 0 ∷ rule (eqb (u16_at t 4) 0) Version 0 ∷ []) Version 0
  version-first false q h = inl (rule-fails Version 0 q)
  version-first true q (inl h) = absurd (h (eqb-true _ _ q))
  version-first true q (inr h) = inr (rule-clear Version 0 q, inl (rule-fails Version 0 (ne_eqb _ _ h)))

  bad-first : (r : Refusal) → BadHeader t n r → FirstIs (header_parts t n) r 0
  bad-first r (length-fails (inl h)) = inl (rule-fails TableLength 0 (lt-leb _ _ h))
  bad-first r (length-fails (inr h)) = inr (long-clear (omega arith), inl (rule-fails TableLength 0 (lt-leb _ _ h)))
  bad-first r (count-fails a b (inl h)) = inr (long-clear a, inr (short-clear b, inl (rule-fails GlyphCount 0 (lt-leb _ _ h))))
  bad-first r (count-fails a b (inr h)) =
      inr (long-clear a, inr (short-clear b, inr (some-clear (omega arith), inl (rule-fails GlyphCount 0 (lt-leb _ _ h)))))
  bad-first r (version-fails a b c d h) =
      inr (long-clear a, inr (short-clear b, inr (some-clear c, inr (few-clear d, version-first (eqb (u32_at t 0) 0x00010000) refl h))))

  -- it has the fault r exactly when r's number is the first that bars it: 1 by the length, 2 by N, 3 by version or format
  pub bad-header : (r : Refusal) (at : ℕ) → (header_fault t n ≡ Bad r at) ↔ (BadHeader t n r × (at ≡ 0))
  bad-header r at = (
    λ e. first-bad r at (chain_first (header_parts t n) r at (sym header-chain ∙ e)),
    λ h. header-chain ∙ first-chain (header_parts t n) r 0 (bad-first r h.0) ∙ ap (Bad r) (sym h.1),
  )
