-- Items that were scanned: one more, none more, distinct or not. For any kind of item.
use Prim.Native.Nat.{ℕ, zero, suc, ◌+◌, ◌-◌, ◌≤◌, ◌<◌, ◌^◌}
use mathlib.Core.Path.{◌≡◌, refl, sym, ap, ap₂, ◌∙◌, subst}
use mathlib.Core.List.{List, [], ◌∷◌, ◌++◌, append-nil, append_assoc}
use mathlib.Core.Logic.{if_neg}
use native.Mathlib.Decide.{dec_lt}
use native.Mathlib.Omega.{arith}
use lib.ListN.{length, get_or, take, drop, set, length-append, length-drop, take-append-drop, get_or-append}
use lib.Seq.{slice, drop-cons, length-take-le, get_or-set_same, get_or-set_other, get_or-append_seam, take_at}
use Rattle.fields.specs.Field.{be32, u32_at, Bytes}
use Rattle.fields.proofs.Laws.{u32_at-fits}
use Rattle.encoding.specs.Distinct.{index, Once}
use Rattle.encoding.specs.Codes.{All, many, counted, PrefixFree, Found, Absent}
use Rattle.encoding.proofs.ListLaws.{all_append, all-at}
use Rattle.encoding.proofs.DistinctLaws.{index-self}
use Rattle.encoding.proofs.CodeLaws.{be32-free, be32-at, many-free}
use Rattle.encoding.proofs.UptoLaws.{length_from, get_or-from}
use Rattle.sheet_sections.proofs.PoolLaws.{all-places}
use Rattle.sheet_sections.specs.Pool.{Items}
use Rattle.sheet_distinct.specs.Order.{stretch, Apart, up_from}
use Rattle.sheet_distinct.specs.Scan.{Scanned, NoItems}
use Rattle.sheet_distinct.proofs.OffsetLaws.{drop-take}

-- ---- no two alike, by their places

module _ {A B : Type 0} (f : A → B) (z : A) where
  pub apart-at : (xs : List A) → Apart f xs → (j k : ℕ) → j < k → k < length xs → f (get_or xs j z) ≡ f (get_or xs k z) → ⊥
  apart-at [] a j k h l e = omega arith
  apart-at (x ∷ xs) a j zero h l e = omega arith
  apart-at (x ∷ xs) a zero (suc k) h l e = all-at (λ (y : A). f x ≡ f y → ⊥) xs z k a.0 (omega arith) e
  apart-at (x ∷ xs) a (suc j) (suc k) h l e = apart-at xs a.1 j k (omega arith) (omega arith) e

  pub apart_from : (xs : List A) → ((j k : ℕ) → j < k → k < length xs → f (get_or xs j z) ≡ f (get_or xs k z) → ⊥) → Apart f xs
  apart_from [] h = tt
  apart_from (x ∷ xs) h = (
    all-places (λ (y : A). f x ≡ f y → ⊥) xs z (λ k l e. h 0 (suc k) (omega arith) (omega arith) e),
    apart_from xs (λ j k l m e. h (suc j) (suc k) (omega arith) (omega arith) e),
  )

module _ {A : Type 0} (eq : Discrete A) where
  pub apart-once : (ds : List A) → Apart (λ (x : A). x) ds → Once eq ds
  apart-once [] a k z h = absurd (omega arith)
  apart-once (d ∷ ds) a zero z h = index-self eq d ds
  apart-once (d ∷ ds) a (suc k) z h =
      if_neg (eq d (get_or ds k z)) (all-at (λ (y : A). d ≡ y → ⊥) ds z k a.0 (omega arith)) _ _ ∙ ap suc (apart-once ds a.1 k z (omega arith))

  pub once-apart : (z : A) (ds : List A) → Once eq ds → Apart (λ (x : A). x) ds
  once-apart z ds o = apart_from (λ (x : A). x) z ds (λ j k h l e. clash ds o j k h l e)
    where
      clash : (ds : List A) → Once eq ds → (j k : ℕ) → j < k → k < length ds → get_or ds j z ≡ get_or ds k z → ⊥
      clash ds o j k h l e =
          let a : index eq (get_or ds j z) ds ≡ j = o j z (omega arith) in
          let b : index eq (get_or ds k z) ds ≡ k = o k z l in
          let c : index eq (get_or ds j z) ds ≡ index eq (get_or ds k z) ds = ap (λ (x : A). index eq x ds) e in
          omega arith

pub up-length : (n i : ℕ) → length (up_from i n) ≡ n
up-length = length_from (λ (x : ℕ). x)

pub up_at : (n i k : ℕ) → k < n → get_or (up_from i n) k 0 ≡ i + k
up_at n i k h = get_or-from (λ (x : ℕ). x) n i k 0 h

-- ---- offsets

stretch-is : (s offsets : List ℕ) (k b q : ℕ) → get_or offsets k 0 ≡ b → get_or offsets (k + 1) 0 ≡ q → stretch s offsets k ≡ slice b q s
unfolding stretch
stretch-is s offsets k b q e f = ap₂ (λ (x y : ℕ). slice x y s) e f

stretch-kept : (s offsets : List ℕ) (j k v : ℕ) → k + 1 < j → stretch s (set offsets j v) k ≡ stretch s offsets k
unfolding stretch
stretch-kept s offsets j k v h =
    ap₂ (λ (x y : ℕ). slice x y s) (get_or-set_other offsets j k v 0 (λ e. omega (arith, e))) (get_or-set_other offsets j (k + 1) v 0 (λ e. omega (arith, e)))

many-append : {A : Type 0} (code : A → List ℕ) (xs ys : List A) → many code (xs ++ ys) ≡ many code xs ++ many code ys
many-append code [] ys = refl
many-append code (x ∷ xs) ys = ap (λ (l : List ℕ). code x ++ l) (many-append code xs ys) ∙ sym (append_assoc (code x) (many code xs) (many code ys))

all_take : {A : Type 0} (P : A → Type 0) (xs : List A) (k : ℕ) → All P xs → All P (take k xs)
all_take P xs zero h = tt
all_take P [] (suc k) h = tt
all_take P (x ∷ xs) (suc k) h = (h.0, all_take P xs k h.1)

-- ---- scanning

module _ {A : Type 0} (code : A → List ℕ) (ok : A → Type 0) (free : PrefixFree code ok) (z : A) (s : List ℕ) (p : ℕ) where
  pub scanned-none : (offsets : List ℕ) → p ≤ length s → get_or offsets 0 0 ≡ p → Scanned code ok s p 0 p offsets
  scanned-none offsets h e =
      record { ds = []; count = refl; good = tt; bound = h; bytes = refl; last = e; stretches = λ k y l. absurd (omega arith) }

  module _ (i b : ℕ) (offsets : List ℕ) (d : Scanned code ok s p i b offsets) where
    module _ (q : ℕ) (f : Found code ok s b q) (hm : i + 1 < length offsets) where
      le : b ≤ q
      le = omega (arith, ap length f.3, length-append (code f.0) (drop q s), length-drop b s, length-drop q s, f.2, d.bound)

      content : slice b q s ≡ code f.0
      content =
          drop-take q b s ∙ ap (λ (l : List ℕ). take (q - b) l) f.3
          ∙ take_at (code f.0) (drop q s) (q - b)
          (omega (arith, le, ap length f.3, length-append (code f.0) (drop q s), length-drop b s, length-drop q s, f.2, d.bound))

      new-stretch : stretch s (set offsets (i + 1) q) i ≡ code f.0
      new-stretch =
          stretch-is s (set offsets (i + 1) q) i b q (get_or-set_other offsets (i + 1) i q 0 (λ e. omega (arith, e)) ∙ d.last) (get_or-set_same offsets (i + 1) q 0 hm)
          ∙ content

      pub scanned-more : Scanned code ok s p (i + 1) q (set offsets (i + 1) q)
      scanned-more =
          let x = f.0 in
          record {
            ds = d.ds ++ (x ∷ []);
            count = length-append d.ds (x ∷ []) ∙ omega (arith, d.count);
            good = all_append ok d.ds (x ∷ []) d.good (f.1, tt);
            bound = f.2;
            bytes = d.bytes ∙ ap (λ (l : List ℕ). many code d.ds ++ l) f.3 ∙ sym (append_assoc (many code d.ds) (code x) (drop q s))
                ∙ ap (λ (l : List ℕ). l ++ drop q s) (ap (λ (l : List ℕ). many code d.ds ++ l) (sym (append-nil (code x))) ∙ sym (many-append code d.ds (x ∷ [])));
            last = get_or-set_same offsets (i + 1) q 0 hm;
            stretches = λ k y l. each k y (dec_lt k i) l;
          }
        where
          each : (k : ℕ) (y : A) → Dec (k < i) → k < i + 1 → stretch s (set offsets (i + 1) q) k ≡ code (get_or (d.ds ++ (f.0 ∷ [])) k y)
          each k y (yes h) l =
              stretch-kept s offsets (i + 1) k q (omega arith) ∙ d.stretches k y h ∙ ap code (sym (get_or-append d.ds (f.0 ∷ []) y k (omega (arith, h, d.count))))
          each k y (no h) l =
              let e : k ≡ i = omega arith in
              let g : k ≡ length d.ds = omega (arith, d.count) in
              ap (λ (j : ℕ). stretch s (set offsets (i + 1) q) j) e ∙ new-stretch
              ∙ ap code (sym (ap (λ (j : ℕ). get_or (d.ds ++ (f.0 ∷ [])) j y) g ∙ get_or-append_seam d.ds f.0 [] y))

    pub scan-ended : (m : ℕ) → i < m → Absent code ok s b → NoItems code ok s p m
    unfolding NoItems
    scan-ended m h n ys rest oky l ey =
        let j : ℕ = length d.ds in
        let lt : j < length ys = omega (arith, d.count) in
        let w : many code ys ≡ many code (take j ys) ++ many code (drop j ys) = ap (many code) (sym (take-append-drop j ys)) ∙ many-append code (take j ys) (drop j ys) in
        let f = many-free code ok free d.ds (take j ys) (drop b s) (many code (drop j ys) ++ rest) (sym (length-take-le j ys (omega arith))) d.good (all_take ok ys j oky)
        (sym d.bytes ∙ ey ∙ ap (λ (l : List ℕ). l ++ rest) w ∙ append_assoc (many code (take j ys)) (many code (drop j ys)) rest) in
        n (get_or ys j z) (many code (drop (suc j) ys) ++ rest) (all-at ok ys z j oky lt)
        (f.1 ∙ ap (λ (l : List A). many code l ++ rest) (drop-cons ys j z lt) ∙ append_assoc (code (get_or ys j z)) (many code (drop (suc j) ys)) rest)

    -- ---- distinct or not

    module _ (eq : Discrete A) where
      pub scanned-once : Apart (stretch s offsets) (up_from 0 i) → Once eq d.ds
      scanned-once a =
          apart-once eq d.ds (apart_from (λ (x : A). x) z d.ds (λ j k h l e. clash j k h l e))
        where
          at : (k : ℕ) → k < i → stretch s offsets (get_or (up_from 0 i) k 0) ≡ code (get_or d.ds k z)
          at k h = ap (stretch s offsets) (up_at i 0 k h ∙ zero-plus k) ∙ d.stretches k z h
            where
              zero-plus : (k : ℕ) → 0 + k ≡ k
              zero-plus k = omega arith

          clash : (j k : ℕ) → j < k → k < length d.ds → get_or d.ds j z ≡ get_or d.ds k z → ⊥
          clash j k h l e =
              apart-at (stretch s offsets) 0 (up_from 0 i) a j k h (omega (arith, up-length i 0, d.count))
              (at j (omega (arith, d.count)) ∙ ap code e ∙ sym (at k (omega (arith, d.count))))

      pub once-scanned : Once eq d.ds → Apart (stretch s offsets) (up_from 0 i)
      once-scanned o =
          apart_from (stretch s offsets) 0 (up_from 0 i) (λ j k h l e. clash j k h (omega (arith, up-length i 0)) e)
        where
          at : (k : ℕ) → k < i → stretch s offsets (get_or (up_from 0 i) k 0) ≡ code (get_or d.ds k z)
          at k h = ap (stretch s offsets) (up_at i 0 k h ∙ zero-plus k) ∙ d.stretches k z h
            where
              zero-plus : (k : ℕ) → 0 + k ≡ k
              zero-plus k = omega arith

          clash : (j k : ℕ) → j < k → k < i → stretch s offsets (get_or (up_from 0 i) j 0) ≡ stretch s offsets (get_or (up_from 0 i) k 0) → ⊥
          clash j k h l e =
              let g : code (get_or d.ds j z) ≡ code (get_or d.ds k z) = sym (at j (omega arith)) ∙ e ∙ at k l in
              let x = free (get_or d.ds j z) (get_or d.ds k z) [] [] (all-at ok d.ds z j d.good (omega (arith, d.count))) (all-at ok d.ds z k d.good (omega (arith, d.count)))
              (ap (λ (l : List ℕ). l ++ []) g) in
              apart-at (λ (x : A). x) z d.ds (once-apart eq z d.ds o) j k h (omega (arith, d.count)) x.0

-- ---- the section

module _ {A : Type 0} (code : A → List ℕ) (ok : A → Type 0) (free : PrefixFree code ok) (z : A) (eq : Discrete A) (n : ℕ) (hn : n < 2 ^ 32) (s : List ℕ) (at : ℕ) where
  pub items-short : length s < at + 4 → Absent (counted code) (Items eq ok n) s at
  items-short h xs rest g e = omega (arith, ap length e, length-drop at s)

  module _ (bytes : Bytes s) (room : at + 4 ≤ length s) where
    opened : (ys : List A) (rest : List ℕ) → Items eq ok n ys → drop at s ≡ counted code ys ++ rest → (u32_at s at ≡ length ys) × (drop (at + 4) s ≡ many code ys ++ rest)
    opened ys rest o e =
        be32-free (u32_at s at) (length ys) (drop (at + 4) s) (many code ys ++ rest) (u32_at-fits s at bytes) (omega (arith, o.0)) (sym (be32-at s bytes at room) ∙ e)

    pub items-many : n < u32_at s at → Absent (counted code) (Items eq ok n) s at
    items-many h ys rest o e = omega (arith, (opened ys rest o e).0, o.0)

    module _ (m : ℕ) (em : m ≡ u32_at s at) where
      pub items-none : NoItems code ok s (at + 4) m → Absent (counted code) (Items eq ok n) s at
      unfolding NoItems
      items-none h ys rest o e = let g = opened ys rest o e in h ys rest o.2 (sym g.0 ∙ sym em) g.1

      module _ (q : ℕ) (offsets : List ℕ) (d : Scanned code ok s (at + 4) m q offsets) where
        pub items-twice : (Apart (stretch s offsets) (up_from 0 m) → ⊥) → Absent (counted code) (Items eq ok n) s at
        items-twice h ys rest o e =
            let g = opened ys rest o e in
            let f = many-free code ok free d.ds ys (drop q s) rest (d.count ∙ em ∙ g.0) d.good o.2 (sym d.bytes ∙ g.1) in
            h (once-scanned code ok free z s (at + 4) m q offsets d eq (subst (λ (l : List A). Once eq l) (sym f.0) o.1))

        pub items-found : m ≤ n → Apart (stretch s offsets) (up_from 0 m) → Found (counted code) (Items eq ok n) s at q
        items-found h a =
            let l : u32_at s at ≡ length d.ds = sym em ∙ sym d.count in (
              d.ds,
              (omega (arith, d.count), scanned-once code ok free z s (at + 4) m q offsets d eq a, d.good),
              d.bound,
              be32-at s bytes at room ∙ ap₂ (λ (k : ℕ) (r : List ℕ). be32 k ++ r) l d.bytes,
            )
