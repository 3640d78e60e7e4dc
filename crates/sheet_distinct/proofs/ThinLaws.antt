-- Numbers set aside: as many are left to compare as share a slot with an earlier one.
use Prim.Native.Nat.{ℕ, zero, suc, ◌+◌, ◌≤◌, ◌<◌}
use mathlib.Core.Path.{◌≡◌, refl, sym, ap, ◌∙◌, subst}
use mathlib.Core.Bool.{Bool, true, false}
use mathlib.Core.Logic.{◌⊎◌, inl, inr, ⊎_elim}
use mathlib.Core.List.{List, [], ◌∷◌, ◌++◌}
use native.Mathlib.Decide.{ℕ_discrete}
use native.Mathlib.Omega.{arith}
use native.Mathlib.Numerals.{add-one}
use lib.ListN.{length, get_or, take, set, length-set}
use lib.Seq.{get_or-set_same, get_or-set_other}
use Rattle.encoding.specs.Codes.{All}
use Rattle.encoding.specs.Tests.{Says}
use Rattle.encoding.proofs.ListLaws.{all_append, all_map}
use Rattle.sheet_distinct.specs.Order.{Apart, up_from}
use Rattle.sheet_distinct.specs.Slots.{Unused, Thinned, Under, Thinner}
use Rattle.sheet_distinct.proofs.ScanLaws.{apart-at, apart_from, up-length, up_at}

-- ---- one more element at the end

all-cut : (P : ℕ → Type 0) (c : List ℕ) (k : ℕ) → All P (c ++ k ∷ []) → All P c × P k
all-cut P [] k h = (tt, h.0)
all-cut P (x ∷ c) k h = let r = all-cut P c k h.1 in ((h.0, r.0), r.1)

under-all : (c : List ℕ) (n : ℕ) → n ≤ 65535 → All (λ (x : ℕ). x < n) c → Under 65535 c
under-all [] n h a zero = omega arith
under-all [] n h a (suc i) = omega arith
under-all (x ∷ c) n h a zero = omega (arith, a.0)
under-all (x ∷ c) n h a (suc i) = under-all c n h a.1 i

take-two : (numbers : List ℕ) (y k : ℕ) → 2 ≤ length numbers → take 2 (set (set numbers 0 y) 1 k) ≡ y ∷ k ∷ []
take-two [] y k m = absurd (omega arith)
take-two (a ∷ []) y k m = absurd (omega arith)
take-two (a ∷ b ∷ l) y k m = refl

module _ (f : ℕ → List ℕ) where
  apart_more : (c : List ℕ) (k : ℕ) → Apart f c → All (λ (z : ℕ). f z ≡ f k → ⊥) c → Apart f (c ++ k ∷ [])
  apart_more [] k a n = (tt, tt)
  apart_more (x ∷ c) k a n = (all_append (λ (z : ℕ). f x ≡ f z → ⊥) c (k ∷ []) a.0 (n.0, tt), apart_more c k a.1 n.1)

  apart-less : (c : List ℕ) (k : ℕ) → Apart f (c ++ k ∷ []) → Apart f c × All (λ (z : ℕ). f z ≡ f k → ⊥) c
  apart-less [] k a = (tt, tt)
  apart-less (x ∷ c) k a =
      let r = apart-less c k a.1 in
      let p = all-cut (λ (z : ℕ). f x ≡ f z → ⊥) c k a.0 in
      ((p.0, r.0), (p.1, r.1))

  -- no two numbers below k are alike
  abbrev Below : ℕ → Type 0
  Below k = (x y : ℕ) → x < y → y < k → f x ≡ f y → ⊥

  at : (n j : ℕ) → j < n → f (get_or (up_from 0 n) j 0) ≡ f j
  at n j h = ap f (up_at n 0 j h ∙ plain j)
    where
      plain : (j : ℕ) → 0 + j ≡ j
      plain j = omega arith

  below_apart : (n : ℕ) → Below n → Apart f (up_from 0 n)
  below_apart n b =
      apart_from f 0 (up_from 0 n)
      (λ j k h l e.
      let m : k < n = omega (arith, up-length n 0) in
      b j k h m (sym (at n j (omega arith)) ∙ e ∙ at n k m))

  apart_below : (n : ℕ) → Apart f (up_from 0 n) → Below n
  apart_below n a x y h l e =
      apart-at f 0 (up_from 0 n) a x y h (omega (arith, up-length n 0)) (at n x (omega arith) ∙ e ∙ sym (at n y l))

  -- what is unlike all of c is unlike x
  abbrev Covered : List ℕ → ℕ → Type 0
  Covered c x = (y : ℕ) → All (λ (z : ℕ). f z ≡ f y → ⊥) c → f x ≡ f y → ⊥

  module _ (slot : ℕ → ℕ) where
    -- the numbers below k: each is the first of its slot, or set aside among c
    pub record Kept (k : ℕ) (firsts c : List ℕ) : Type 0 where
      pub taken : (x : ℕ) → x < k → 0 < get_or firsts (slot x) 0
      pub held : (x : ℕ) → x < k → (get_or firsts (slot x) 0 ≡ suc x) ⊎ Covered c x
      pub bound : (i : ℕ) → get_or firsts i 0 ≤ k
      pub aside : All (λ (x : ℕ). x < k) c
      pub to : Below k → Apart f c
      pub back : Apart f c → Below k

    pub kept-same : (k : ℕ) (firsts firsts' numbers numbers' : List ℕ) (left left' : ℕ) → firsts' ≡ firsts → numbers' ≡ numbers → left' ≡ left
        → Kept k firsts (take left numbers) → Kept k firsts' (take left' numbers')
    kept-same k firsts firsts' numbers numbers' left left' e f g h = rw (e, f, g) h

    pub kept-none : (firsts : List ℕ) → Unused firsts → Kept 0 firsts []
    kept-none firsts u =
        record {
          taken = λ x h. absurd (omega arith);
          held = λ x h. absurd (omega arith);
          bound = λ i. omega (arith, u i);
          aside = tt;
          to = λ b. tt;
          back = λ a x y p q e. omega arith;
        }

    module _ (same : (x y : ℕ) → f x ≡ f y → slot x ≡ slot y) (k : ℕ) (firsts c : List ℕ) (t : Kept k firsts c) where
      -- k is the first of its slot
      module _ (z : get_or firsts (slot k) 0 ≡ 0) (l : slot k < length firsts) where
        other : (x : ℕ) → x < k → slot x ≡ slot k → ⊥
        other x h e = omega (arith, t.taken x h, ap (λ (i : ℕ). get_or firsts i 0) e, z)

        now-first : (x : ℕ) → x ≡ k → get_or (set firsts (slot k) (k + 1)) (slot x) 0 ≡ suc x
        now-first x e =
            ap (λ (y : ℕ). get_or (set firsts (slot k) (k + 1)) (slot y) 0) e ∙ get_or-set_same firsts (slot k) (k + 1) 0 l ∙ add-one k ∙ ap suc (sym e)

        as_before : (x : ℕ) → x < k → get_or (set firsts (slot k) (k + 1)) (slot x) 0 ≡ get_or firsts (slot x) 0
        as_before x h = get_or-set_other firsts (slot k) (slot x) (k + 1) 0 (other x h)

        pub kept-first : Kept (k + 1) (set firsts (slot k) (k + 1)) c
        kept-first =
            record {
              taken = λ x h. taken x h (ℕ_discrete x k);
              held = λ x h. held x h (ℕ_discrete x k);
              bound = λ i. bound i (ℕ_discrete i (slot k));
              aside = all_map (λ (x : ℕ). x < k) (λ (x : ℕ). x < k + 1) (λ x p. omega arith) c t.aside;
              to = λ b. t.to (λ x y p q. b x y p (omega arith));
              back = λ a x y p q e. back a x y p q e (ℕ_discrete y k);
            }
          where
            taken : (x : ℕ) → x < k + 1 → Dec (x ≡ k) → 0 < get_or (set firsts (slot k) (k + 1)) (slot x) 0
            taken x h (yes e) = omega (arith, now-first x e)
            taken x h (no n) = let p : x < k = omega (arith, n) in omega (arith, as_before x p, t.taken x p)

            held : (x : ℕ) → x < k + 1 → Dec (x ≡ k) → (get_or (set firsts (slot k) (k + 1)) (slot x) 0 ≡ suc x) ⊎ Covered c x
            held x h (yes e) = inl (now-first x e)
            held x h (no n) = let p : x < k = omega (arith, n) in ⊎_elim (λ q. inl (as_before x p ∙ q)) (λ q. inr q) (t.held x p)

            bound : (i : ℕ) → Dec (i ≡ slot k) → get_or (set firsts (slot k) (k + 1)) i 0 ≤ k + 1
            bound i (yes e) =
                let v : get_or (set firsts (slot k) (k + 1)) i 0 ≡ k + 1 =
                ap (λ (y : ℕ). get_or (set firsts (slot k) (k + 1)) y 0) e ∙ get_or-set_same firsts (slot k) (k + 1) 0 l in
                omega (arith, v)
            bound i (no n) = omega (arith, get_or-set_other firsts (slot k) i (k + 1) 0 n, t.bound i)

            back : Apart f c → (x y : ℕ) → x < y → y < k + 1 → f x ≡ f y → Dec (y ≡ k) → ⊥
            back a x y p q e (yes d) = other x (omega (arith, d)) (same x k (e ∙ ap f d))
            back a x y p q e (no n) = t.back a x y p (omega (arith, n)) e

      module _ (y : ℕ) (z : get_or firsts (slot k) 0 ≡ suc y) where
        pub early : y < k
        early = omega (arith, t.bound (slot k), z)

        -- k is unlike the first of its slot
        pub kept-aside : (f y ≡ f k → ⊥) → Kept (k + 1) firsts (c ++ k ∷ [])
        kept-aside u =
            record {
              taken = λ x h. taken x h (ℕ_discrete x k);
              held = λ x h. held x h (ℕ_discrete x k);
              bound = λ i. omega (arith, t.bound i);
              aside = all_append (λ (x : ℕ). x < k + 1) c (k ∷ []) (all_map (λ (x : ℕ). x < k) (λ (x : ℕ). x < k + 1) (λ x p. omega arith) c t.aside) (omega arith, tt);
              to = λ b. apart_more c k (t.to (λ x y p q. b x y p (omega arith))) (all_map (λ (x : ℕ). x < k) (λ (x : ℕ). f x ≡ f k → ⊥) (λ x p. b x k p (omega arith)) c t.aside);
              back = λ a v w p q e. back (apart-less c k a) v w p q e (ℕ_discrete w k);
            }
          where
            taken : (x : ℕ) → x < k + 1 → Dec (x ≡ k) → 0 < get_or firsts (slot x) 0
            taken x h (yes e) = omega (arith, ap (λ (v : ℕ). get_or firsts (slot v) 0) e, z)
            taken x h (no n) = t.taken x (omega (arith, n))

            held : (x : ℕ) → x < k + 1 → Dec (x ≡ k) → (get_or firsts (slot x) 0 ≡ suc x) ⊎ Covered (c ++ k ∷ []) x
            held x h (yes e) = inr (λ v a q. (all-cut (λ (w : ℕ). f w ≡ f v → ⊥) c k a).1 (ap f (sym e) ∙ q))
            held x h (no n) =
                ⊎_elim (λ q. inl q) (λ q. inr (λ v a r. q v (all-cut (λ (w : ℕ). f w ≡ f v → ⊥) c k a).0 r)) (t.held x (omega (arith, n)))

            clash : (v : ℕ) → v < k → All (λ (w : ℕ). f w ≡ f k → ⊥) c → f v ≡ f k → ⊥
            clash v p a e =
                ⊎_elim
                (λ q.
                let d : v ≡ y = omega (arith, q, ap (λ (i : ℕ). get_or firsts i 0) (same v k e), z) in
                u (ap f (sym d) ∙ e))
                (λ q. q k a e)
                (t.held v p)

            back : Apart f c × All (λ (w : ℕ). f w ≡ f k → ⊥) c → (v w : ℕ) → v < w → w < k + 1 → f v ≡ f w → Dec (w ≡ k) → ⊥
            back a v w p q e (yes d) = clash v (omega (arith, d)) a.1 (e ∙ ap f d)
            back a v w p q e (no n) = t.back a.0 v w p (omega (arith, n)) e

        -- k is like it
        pub thinned-two : (n : ℕ) (numbers : List ℕ) → k < n → 2 ≤ length numbers → f y ≡ f k → Thinned f n 2 (set (set numbers 0 y) 1 k)
        thinned-two n numbers h m e =
            record {
              few = omega (arith, early);
              to = λ a. absurd (apart_below n a y k early h e);
              back = λ a. absurd ((subst (λ (l : List ℕ). Apart f l) (take-two numbers y k m) a).0.0 e);
            }

        pub under-two : (n : ℕ) (numbers : List ℕ) → k < n → 2 ≤ length numbers → n ≤ 65535 → Under 65535 (take 2 (set (set numbers 0 y) 1 k))
        under-two n numbers h m b =
            subst (λ (l : List ℕ). Under 65535 l) (sym (take-two numbers y k m)) (under-all (y ∷ k ∷ []) n b (omega (arith, early), (omega arith, tt)))

    pub kept-under : (n r : ℕ) (firsts numbers : List ℕ) → n ≤ 65535 → Kept n firsts (take r numbers) → Under 65535 (take r numbers)
    kept-under n r firsts numbers h t = under-all (take r numbers) n h t.aside

    -- all are judged
    pub thinned : (n r : ℕ) (firsts numbers : List ℕ) → r ≤ n → Kept n firsts (take r numbers) → Thinned f n r numbers
    thinned n r firsts numbers h t =
        record { few = h; to = λ a. t.to (apart_below n a); back = λ a. below_apart n (t.back a) }

-- one is apart, and none
pub apart-one : (f : ℕ → List ℕ) (n : ℕ) → n < 2 → Apart f (up_from 0 n)
apart-one f n h = below_apart f n (λ x y p q e. omega arith)

pub says-thinned : (f : ℕ → List ℕ) (n r : ℕ) (numbers : List ℕ) (b : Bool) → Thinned f n r numbers → Says b (Apart f (take r numbers)) → Says b (Apart f (up_from 0 n))
says-thinned f n r numbers true t h = t.back h
says-thinned f n r numbers false t h = λ a. h (t.to a)

-- ---- once more, of some numbers alone: by their places

module _ (f : ℕ → List ℕ) (xs : List ℕ) (slot : ℕ → ℕ) where
  abbrev g : ℕ → List ℕ
  g i = f (get_or xs i 0)

  abbrev place-slot : ℕ → ℕ
  place-slot i = slot (get_or xs i 0)

  abbrev picked : List ℕ → List ℕ
  picked [] = []
  picked (i ∷ c) = get_or xs i 0 ∷ picked c

  -- the numbers at the places below k: `firsts` tells, plus one, the number that stands at the first place of each slot
  pub record Again (k : ℕ) (firsts c : List ℕ) : Type 0 where
    pub places : List ℕ
    pub aside : List ℕ
    pub size : length places ≡ length firsts
    pub kept : Kept g place-slot k places aside
    pub none : (i : ℕ) → get_or firsts i 0 ≡ 0 → get_or places i 0 ≡ 0
    pub some : (i y : ℕ) → get_or firsts i 0 ≡ suc y → (p : ℕ) × (get_or places i 0 ≡ suc p) × (get_or xs p 0 ≡ y)
    pub left : c ≡ picked aside

  pub again-same : (k : ℕ) (firsts firsts' numbers numbers' : List ℕ) (left left' : ℕ) → firsts' ≡ firsts → numbers' ≡ numbers → left' ≡ left
      → Again k firsts (take left numbers) → Again k firsts' (take left' numbers')
  again-same k firsts firsts' numbers numbers' left left' e f g h = rw (e, f, g) h

  pub again-none : (firsts : List ℕ) → Unused firsts → Again 0 firsts []
  again-none firsts u =
      record {
        places = firsts;
        aside = [];
        size = refl;
        kept = kept-none g place-slot firsts u;
        none = λ i h. h;
        some = λ i y h. absurd (omega (arith, u i, h));
        left = refl;
      }

  same-slot : ((x y : ℕ) → f x ≡ f y → slot x ≡ slot y) → (x y : ℕ) → g x ≡ g y → place-slot x ≡ place-slot y
  same-slot same x y h = same (get_or xs x 0) (get_or xs y 0) h

  module _ (same : (x y : ℕ) → f x ≡ f y → slot x ≡ slot y) (k x : ℕ) (firsts c : List ℕ) (t : Again k firsts c) (ex : x ≡ get_or xs k 0) where
    pub again-first : get_or firsts (slot x) 0 ≡ 0 → slot x < length firsts → Again (k + 1) (set firsts (slot x) (x + 1)) c
    again-first z l =
        let e : slot x ≡ place-slot k = ap slot ex in
        record {
          places = set t.places (slot x) (k + 1);
          aside = t.aside;
          size = length-set t.places (slot x) (k + 1) ∙ t.size ∙ sym (length-set firsts (slot x) (x + 1));
          kept = subst (λ (i : ℕ). Kept g place-slot (k + 1) (set t.places i (k + 1)) t.aside) (sym e)
              (kept-first g place-slot (same-slot same) k t.places t.aside t.kept (ap (λ (i : ℕ). get_or t.places i 0) (sym e) ∙ t.none (slot x) z)
              (omega (arith, e, t.size, l)));
          none = λ i h. none i h (ℕ_discrete i (slot x));
          some = λ i y h. some i y h (ℕ_discrete i (slot x));
          left = t.left;
        }
      where
        at-slot : (l : List ℕ) (v i : ℕ) → i ≡ slot x → slot x < length l → get_or (set l (slot x) v) i 0 ≡ v
        at-slot l v i e h = ap (λ (j : ℕ). get_or (set l (slot x) v) j 0) e ∙ get_or-set_same l (slot x) v 0 h

        none : (i : ℕ) → get_or (set firsts (slot x) (x + 1)) i 0 ≡ 0 → Dec (i ≡ slot x) → get_or (set t.places (slot x) (k + 1)) i 0 ≡ 0
        none i h (yes e) = absurd (omega (arith, at-slot firsts (x + 1) i e l, h))
        none i h (no n) =
            get_or-set_other t.places (slot x) i (k + 1) 0 n ∙ t.none i (sym (get_or-set_other firsts (slot x) i (x + 1) 0 n) ∙ h)

        some : (i y : ℕ) → get_or (set firsts (slot x) (x + 1)) i 0 ≡ suc y → Dec (i ≡ slot x)
            → (p : ℕ) × (get_or (set t.places (slot x) (k + 1)) i 0 ≡ suc p) × (get_or xs p 0 ≡ y)
        some i y h (yes e) =
            let v = at-slot firsts (x + 1) i e l in
            (k, at-slot t.places (k + 1) i e (omega (arith, t.size, l)) ∙ add-one k, sym ex ∙ omega (arith, v, h))
        some i y h (no n) =
            let s = t.some i y (sym (get_or-set_other firsts (slot x) i (x + 1) 0 n) ∙ h) in
            (s.0, get_or-set_other t.places (slot x) i (k + 1) 0 n ∙ s.1, s.2)

    module _ (y : ℕ) (z : get_or firsts (slot x) 0 ≡ suc y) where
      -- where it stands
      place : (p : ℕ) × (get_or t.places (slot x) 0 ≡ suc p) × (get_or xs p 0 ≡ y)
      place = t.some (slot x) y z

      there : get_or t.places (place-slot k) 0 ≡ suc place.0
      there = ap (λ (v : ℕ). get_or t.places (slot v) 0) (sym ex) ∙ place.1

      alike : g place.0 ≡ g k → f y ≡ f x
      alike e = ap f (sym place.2) ∙ e ∙ ap f (sym ex)

      alike⁻ : f y ≡ f x → g place.0 ≡ g k
      alike⁻ e = ap f place.2 ∙ e ∙ ap f ex

      pub again-aside : (f y ≡ f x → ⊥) → Again (k + 1) firsts (c ++ x ∷ [])
      again-aside u =
          record {
            places = t.places;
            aside = t.aside ++ k ∷ [];
            size = t.size;
            kept = kept-aside g place-slot (same-slot same) k t.places t.aside t.kept place.0 there (λ e. u (alike e));
            none = t.none;
            some = t.some;
            left = ap (λ (l : List ℕ). l ++ x ∷ []) t.left ∙ more t.aside;
          }
        where
          more : (c : List ℕ) → picked c ++ x ∷ [] ≡ picked (c ++ k ∷ [])
          more [] = ap (λ (v : ℕ). v ∷ []) ex
          more (i ∷ c) = ap (λ (l : List ℕ). get_or xs i 0 ∷ l) (more c)

      pub again-alike : k < length xs → f y ≡ f x → Apart f xs → ⊥
      again-alike h e a =
          apart-at f 0 xs a place.0 k (early g place-slot (same-slot same) k t.places t.aside t.kept place.0 there) h (alike⁻ e)

  all-picked : (P : ℕ → Type 0) (c : List ℕ) → All (λ (i : ℕ). P (get_or xs i 0)) c → All P (picked c)
  all-picked P [] h = tt
  all-picked P (i ∷ c) h = (h.0, all-picked P c h.1)

  all-picked⁻ : (P : ℕ → Type 0) (c : List ℕ) → All P (picked c) → All (λ (i : ℕ). P (get_or xs i 0)) c
  all-picked⁻ P [] h = tt
  all-picked⁻ P (i ∷ c) h = (h.0, all-picked⁻ P c h.1)

  apart-picked : (c : List ℕ) → Apart g c → Apart f (picked c)
  apart-picked [] a = tt
  apart-picked (i ∷ c) a = (all-picked (λ (v : ℕ). f (get_or xs i 0) ≡ f v → ⊥) c a.0, apart-picked c a.1)

  apart-picked⁻ : (c : List ℕ) → Apart f (picked c) → Apart g c
  apart-picked⁻ [] a = tt
  apart-picked⁻ (i ∷ c) a = (all-picked⁻ (λ (v : ℕ). f (get_or xs i 0) ≡ f v → ⊥) c a.0, apart-picked⁻ c a.1)

  pub thinner : (r : ℕ) (firsts numbers : List ℕ) → r ≤ length xs → Again (length xs) firsts (take r numbers) → Thinner f xs r numbers
  thinner r firsts numbers h t =
      record {
        few = h;
        to = λ a. subst (λ (l : List ℕ). Apart f l) (sym t.left) (apart-picked t.aside (t.kept.to (λ x y p q e. apart-at f 0 xs a x y p q e)));
        back = λ a. let b = t.kept.back (apart-picked⁻ t.aside (subst (λ (l : List ℕ). Apart f l) t.left a)) in apart_from f 0 xs (λ j k p q e. b j k p q e);
      }

pub says-thinner : (f : ℕ → List ℕ) (xs : List ℕ) (r : ℕ) (numbers : List ℕ) (b : Bool) → Thinner f xs r numbers → Says b (Apart f (take r numbers)) → Says b (Apart f xs)
says-thinner f xs r numbers true t h = t.back h
says-thinner f xs r numbers false t h = λ a. h (t.to a)
