-- `look_up` finds the element of an index, and the turns of its loop.
use Prim.Native.Nat.{ℕ, zero, suc, ◌+◌, ◌-◌, ◌≤◌, ◌<◌, ◌^◌}
use Rattle.std.specs.Prelude.{Some, None}
use Rattle.std.specs.Option.{unwrap_or, option_map}
use mathlib.Core.Path.{◌≡◌, refl, sym, ap, ap₂, ◌∙◌}
use mathlib.Core.Logic.{ite, if_pos, if_neg}
use mathlib.Core.List.{List, [], ◌∷◌, ◌++◌}
use native.Mathlib.Decide.{dec_le, ℕ_discrete}
use native.Mathlib.Omega.{arith}
use lib.ListN.{length, get_or, drop, replicate, length-replicate, get_or-replicate, get_or-append}
use lib.Seq.{get_or-append-add}
use Rattle.fields.specs.Field.{u16_at, u32_at, Bytes}
use Rattle.encoding.specs.Codes.{All, counted, PrefixFree, items_at}
use Rattle.encoding.specs.Runs.{Run, runs, unrun, OkRuns}
use Rattle.encoding.proofs.CodeLaws.{many-free}
use Rattle.encoding.proofs.RunsLaws.{runs-ok, unrun-runs}
use Rattle.encoding.proofs.ReadLaws.{items-length, items-wide, items_at_lem}
use Rattle.sheet_sections.specs.RunSection.{run_at}
use Rattle.sheet_sections.proofs.SectionLaws.{items-cut}
use Rattle.sheet_sections.specs.Pool.{number_run_at}
use Rattle.sheet_seek.specs.LookUp.{value_at}
use Rattle.sheet_seek.proofs.PassLaws.{opened, items-there}

-- an element of a stretch, and one after it
in-stretch : (k j v d : ℕ) (ys : List ℕ) → j < k → get_or (replicate k v ++ ys) j d ≡ v
in-stretch k j v d ys h = get_or-append (replicate k v) ys d j (omega (arith, length-replicate k v)) ∙ get_or-replicate k j v d h

past-stretch : (k j v d : ℕ) (ys : List ℕ) → k ≤ j → get_or (replicate k v ++ ys) j d ≡ get_or ys (j - k) d
past-stretch k j v d ys h =
    let e : j ≡ length (replicate k v) + (j - k) = omega (arith, length-replicate k v) in
    ap (λ (x : ℕ). get_or (replicate k v ++ ys) x d) e ∙ get_or-append-add (replicate k v) ys (j - k) d

module _ (skip n g : ℕ) where
  look-unrun : (rs : List (Run ℕ)) (i w : ℕ) → OkRuns skip n i w rs → i ≤ g → get_or (unrun skip i n rs) (g - i) skip ≡ unwrap_or (value_at g rs) skip
  look-unrun [] i w o h = all-skip (n - i) (g - i)
    where
      all-skip : (k j : ℕ) → get_or (replicate k skip) j skip ≡ skip
      all-skip zero j = refl
      all-skip (suc k) zero = refl
      all-skip (suc k) (suc j) = all-skip k j
  look-unrun (r ∷ rs) i w o h = go (dec_le r.first g) (dec_le g r.last) (look-unrun rs (suc r.last) r.value o.5)
    where
      t : List ℕ
      t = unrun skip (suc r.last) n rs

      u : List ℕ
      u = replicate (suc r.last - r.first) r.value ++ t

      inside : r.first ≤ g → get_or (replicate (r.first - i) skip ++ u) (g - i) skip ≡ get_or u (g - r.first) skip
      inside p =
          let e : g - i - (r.first - i) ≡ g - r.first = omega (arith, o.0, p) in
          past-stretch (r.first - i) (g - i) skip skip u (omega (arith, o.0, p)) ∙ ap (λ (x : ℕ). get_or u x skip) e

      go : (a : Dec (r.first ≤ g)) (b : Dec (g ≤ r.last)) → (suc r.last ≤ g → get_or t (g - suc r.last) skip ≡ unwrap_or (value_at g rs) skip)
          → get_or (replicate (r.first - i) skip ++ u) (g - i) skip ≡ unwrap_or (ite a (ite b (Some r.value) (value_at g rs)) None) skip
      go (yes p) (yes q) ih = inside p ∙ in-stretch (suc r.last - r.first) (g - r.first) r.value skip t (omega (arith, p, q))
      go (yes p) (no q) ih =
          let e : g - r.first - (suc r.last - r.first) ≡ g - suc r.last = omega (arith, o.1, p, q) in
          inside p ∙ past-stretch (suc r.last - r.first) (g - r.first) r.value skip t (omega (arith, p, q))
          ∙ ap (λ (x : ℕ). get_or t x skip) e ∙ ih (omega (arith, q))
      go (no p) b ih = in-stretch (r.first - i) (g - i) skip skip u (omega (arith, p, h))

-- the element of an index, out of the runs of a list
pub element : (xs : List ℕ) (skip g : ℕ) → unwrap_or (value_at g (runs ℕ_discrete skip 0 xs)) skip ≡ get_or xs g skip
element xs skip g =
    let n : ℕ = length xs in
    let rs = runs ℕ_discrete skip 0 xs in
    let e : g - 0 ≡ g = omega arith in
    sym (look-unrun skip n g rs 0 skip (runs-ok ℕ_discrete skip xs n 0 (omega arith)) (omega arith))
    ∙ ap₂ (λ (l : List ℕ) (k : ℕ). get_or l k skip) (unrun-runs ℕ_discrete skip xs n 0 (omega arith)) e

-- ---- the loop's turns

module _ (s : List ℕ) (g place place' left left' : ℕ) (ep : place' ≡ place + 6) (el : left ≡ suc left') where
  whole : value_at g (items_at run_at 6 s place left) ≡ value_at g (run_at s place ∷ items_at run_at 6 s place' left')
  whole = ap (value_at g) (items-cut run_at 6 s place place' left left' ep el)

  pub look_stop : g < u16_at s place → value_at g (items_at run_at 6 s place left) ≡ None
  look_stop p = whole ∙ if_neg (dec_le (u16_at s place) g) (λ h. omega arith) _ _

  pub look-here : u16_at s place ≤ g → g ≤ u16_at s (place + 2) → value_at g (items_at run_at 6 s place left) ≡ Some (u16_at s (place + 4))
  look-here p q = whole ∙ if_pos (dec_le (u16_at s place) g) p _ _ ∙ if_pos (dec_le g (u16_at s (place + 2))) q _ _

  pub look-next : u16_at s place ≤ g → u16_at s (place + 2) < g → value_at g (items_at run_at 6 s place left) ≡ value_at g (items_at run_at 6 s place' left')
  look-next p q = whole ∙ if_pos (dec_le (u16_at s place) g) p _ _ ∙ if_neg (dec_le g (u16_at s (place + 2))) (λ h. omega arith) _ _

pub look-end : (s : List ℕ) (g place left : ℕ) → left ≡ 0 → value_at g (items_at run_at 6 s place left) ≡ None
look-end s g place left e = ap (λ (k : ℕ). value_at g (items_at run_at 6 s place k)) e

-- ---- numbers, which are written less one

pub number-at : (s : List ℕ) (g k p : ℕ) → value_at g (items_at number_run_at 6 s p k) ≡ option_map (λ v. v + 1) (value_at g (items_at run_at 6 s p k))
number-at s g zero p = refl
number-at s g (suc k) p = go (dec_le (u16_at s p) g) (dec_le g (u16_at s (p + 2))) (number-at s g k (p + 6))
  where
    go : (a : Dec (u16_at s p ≤ g)) (b : Dec (g ≤ u16_at s (p + 2)))
        → value_at g (items_at number_run_at 6 s (p + 6) k) ≡ option_map (λ v. v + 1) (value_at g (items_at run_at 6 s (p + 6) k))
        → ite a (ite b (Some (u16_at s (p + 4) + 1)) (value_at g (items_at number_run_at 6 s (p + 6) k))) None
        ≡ option_map (λ v. v + 1) (ite a (ite b (Some (u16_at s (p + 4))) (value_at g (items_at run_at 6 s (p + 6) k))) None)
    go (yes h) (yes i) ih = refl
    go (yes h) (no i) ih = ih
    go (no h) b ih = refl

-- ---- items that stand in a section are those that it is written for

module _ {A : Type 0} (code : A → List ℕ) (wide : A → Type 0) (free : PrefixFree code wide) (item : List ℕ → ℕ → A) (w : ℕ)
    (each : (a : A) → length (code a) ≡ w)
    (s : List ℕ) (bytes : Bytes s) (item-wide : (p : ℕ) → wide (item s p))
    (item-at : (p : ℕ) → p + w ≤ length s → drop p s ≡ code (item s p) ++ drop (p + w) s) where
  pub items-are : (at : ℕ) (xs : List A) (rest : List ℕ) → length xs < 2 ^ 32 → All wide xs → drop at s ≡ counted code xs ++ rest
      → items_at item w s (at + 4) (u32_at s at) ≡ xs
  items-are at xs rest l a e =
      let o = opened code wide s bytes at xs rest l e in
      (many-free code wide free (items_at item w s (at + 4) (u32_at s at)) xs _ rest (items-length item w s (u32_at s at) (at + 4) ∙ o.1)
      (items-wide code wide free item w each s bytes item-wide item-at (u32_at s at) (at + 4)) a
      (sym (items_at_lem code wide free item w each s bytes item-wide item-at (u32_at s at) (at + 4) (items-there code wide s bytes at w each xs rest l e)) ∙ o.2)).0
