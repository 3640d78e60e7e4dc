-- Laws of the lists of sizes of specs/Share.antt, and of a share.
use mathlib.Core.Path.{◌≡◌, refl, sym, ap, ◌∙◌}
use mathlib.Core.List.{List, [], ◌∷◌}
use mathlib.Core.Bool.{false}
use Prim.Native.Nat.{ℕ, zero, suc, ◌+◌, ◌*◌, ◌/◌, ◌≤◌, ◌<◌}
use native.Mathlib.Omega.{arith}
use native.Mathlib.Nat.{le_refl, le_trans, le_of_eq, add_assoc, mul-le-mul_left, mul-zero, div-zero, zero-div, le-div_iff_mul-le, div-mul-le_self, mul-div_cancel, add-zero, zero-add, not-suc-le-zero, le_of_suc-le-suc}
use native.Mathlib.Numerals.{add-one}
use lib.Dec.{eqb}
use lib.Seq.{take_all}
use borrow.Author.Tests.{eq-eqb}
use lib.ListN.{length, take, get_or}
use Rattle.share.specs.Share.{total, still, plus, of_stage, share_at, shares_from, shares}

-- what a list gives to its first k places
abbrev pub upto : ℕ → List ℕ → ℕ
upto k l = total (take k l)

-- ---- plus and total

pub plus-upto : (k : ℕ) (xs ys : List ℕ) → upto k (plus xs ys) ≡ upto k xs + upto k ys
plus-upto zero xs ys = refl
plus-upto (suc k) [] [] = refl
plus-upto (suc k) [] (y ∷ ys) = omega arith
plus-upto (suc k) (x ∷ xs) [] = omega arith
plus-upto (suc k) (x ∷ xs) (y ∷ ys) = omega (arith, plus-upto k xs ys)

pub total-plus : (xs ys : List ℕ) → total (plus xs ys) ≡ total xs + total ys
total-plus [] ys = omega arith
total-plus (x ∷ xs) [] = omega arith
total-plus (x ∷ xs) (y ∷ ys) = omega (arith, total-plus xs ys)

pub plus_assoc : (xs ys zs : List ℕ) → plus (plus xs ys) zs ≡ plus xs (plus ys zs)
plus_assoc [] ys zs = refl
plus_assoc (x ∷ xs) [] zs = refl
plus_assoc (x ∷ xs) (y ∷ ys) [] = refl
plus_assoc (x ∷ xs) (y ∷ ys) (z ∷ zs) = rw (add_assoc x y z, plus_assoc xs ys zs)

-- what adds up to nothing changes nothing
pub plus-nothing : (xs ys : List ℕ) → total ys ≡ 0 → length ys ≤ length xs → plus xs ys ≡ xs
plus-nothing [] [] e h = refl
plus-nothing [] (y ∷ ys) e h = absurd (not-suc-le-zero h)
plus-nothing (x ∷ xs) [] e h = refl
plus-nothing (x ∷ xs) (y ∷ ys) e h =
    let z : x + y ≡ x = omega arith in
    let t : total ys ≡ 0 = omega arith in
    rw (z, plus-nothing xs ys t (le_of_suc-le-suc h))

pub length-plus : (n : ℕ) (xs ys : List ℕ) → length xs ≡ n → length ys ≡ n → length (plus xs ys) ≡ n
length-plus n [] ys a b = b
length-plus n (x ∷ xs) [] a b = a
length-plus zero (x ∷ xs) (y ∷ ys) a b = absurd (omega arith)
length-plus (suc n) (x ∷ xs) (y ∷ ys) a b = ap suc (length-plus n xs ys (omega arith) (omega arith))

pub get_or-plus : (i : ℕ) (xs ys : List ℕ) → get_or (plus xs ys) i 0 ≡ get_or xs i 0 + get_or ys i 0
get_or-plus i [] ys = omega arith
get_or-plus zero (x ∷ xs) [] = omega arith
get_or-plus (suc i) (x ∷ xs) [] = omega arith
get_or-plus zero (x ∷ xs) (y ∷ ys) = refl
get_or-plus (suc i) (x ∷ xs) (y ∷ ys) = get_or-plus i xs ys

pub get_or-le-total : (l : List ℕ) (i : ℕ) → get_or l i 0 ≤ total l
get_or-le-total [] i = omega arith
get_or-le-total (x ∷ l) zero = omega arith
get_or-le-total (x ∷ l) (suc i) = omega (arith, get_or-le-total l i)

pub upto-end : (i : ℕ) (l : List ℕ) → length l ≤ i → upto i l ≡ total l
upto-end i l h = ap total (take_all i l h)

-- one place more; and no more than the whole
pub upto_next : (i : ℕ) (l : List ℕ) → upto (i + 1) l ≡ upto i l + get_or l i 0
upto_next i l = rw (add-one) (next i l)
  where
    next : (i : ℕ) (l : List ℕ) → upto (suc i) l ≡ upto i l + get_or l i 0
    next zero [] = refl
    next (suc i) [] = refl
    next zero (x ∷ l) = omega arith
    next (suc i) (x ∷ l) = omega (arith, next i l)

pub upto_le : (i : ℕ) (l : List ℕ) → upto i l + get_or l i 0 ≤ total l
upto_le zero [] = omega arith
upto_le (suc i) [] = omega arith
upto_le zero (x ∷ l) = omega arith
upto_le (suc i) (x ∷ l) = omega (arith, upto_le i l)

-- ---- still and of_stage

pub total-still : (l : List ℕ) → total (still l) ≡ 0
total-still [] = refl
total-still (x ∷ l) = omega (arith, total-still l)

pub length-still : (l : List ℕ) → length (still l) ≡ length l
length-still [] = refl
length-still (x ∷ l) = ap suc (length-still l)

pub get_or-still : (l : List ℕ) (i : ℕ) → get_or (still l) i 0 ≡ 0
get_or-still [] i = refl
get_or-still (x ∷ l) zero = refl
get_or-still (x ∷ l) (suc i) = get_or-still l i

pub length-of_stage : (s n : ℕ) (ks vs : List ℕ) → length ks ≡ n → length vs ≡ n → length (of_stage s ks vs) ≡ n
length-of_stage s n [] vs a b = a
length-of_stage s n (k ∷ ks) [] a b = absurd (omega arith)
length-of_stage s zero (k ∷ ks) (v ∷ vs) a b = absurd (omega arith)
length-of_stage s (suc n) (k ∷ ks) (v ∷ vs) a b = ap suc (length-of_stage s n ks vs (omega arith) (omega arith))

-- a side of the stage counts for what it has, and one of another stage for nothing
pub of_stage-hit : (s i : ℕ) (ks vs : List ℕ) → i < length ks → get_or ks i 0 ≡ s → get_or (of_stage s ks vs) i 0 ≡ get_or vs i 0
of_stage-hit s i [] vs h e = absurd (not-suc-le-zero h)
of_stage-hit s i (k ∷ ks) [] h e = refl
of_stage-hit s zero (k ∷ ks) (v ∷ vs) h e = rw (eq-eqb k s e)
of_stage-hit s (suc i) (k ∷ ks) (v ∷ vs) h e = of_stage-hit s i ks vs (le_of_suc-le-suc h) e

pub of_stage-miss : (s d i : ℕ) (ks vs : List ℕ) → eqb (get_or ks i d) s ≡ false → get_or (of_stage s ks vs) i 0 ≡ 0
of_stage-miss s d i [] vs e = refl
of_stage-miss s d i (k ∷ ks) [] e = refl
of_stage-miss s d zero (k ∷ ks) (v ∷ vs) e = rw e
of_stage-miss s d (suc i) (k ∷ ks) (v ∷ vs) e = of_stage-miss s d i ks vs e

-- ---- shares

pub div_mono : (t : ℕ) {a b : ℕ} → a ≤ b → a / t ≤ b / t
div_mono zero {a} {b} h = rw (div-zero a, div-zero b) (omega arith)
div_mono (suc t) {a} {b} h =
    let p : 0 < suc t = omega arith in
    (le-div_iff_mul-le p).1 (le_trans (div-mul-le_self a (suc t)) h)

-- a part of the total takes at most the whole
pub part-le : (r : ℕ) {c t : ℕ} → 0 < t → c ≤ t → r * c / t ≤ r
part-le r {c} {t} p h = le_trans (div_mono t (mul-le-mul_left r h)) (le_of_eq (mul-div_cancel r p))

-- what stands at a running total rises with it
share-rises : (r t c w : ℕ) → r * c / t ≤ r * (c + w) / t
share-rises r t c w = let m : c ≤ c + w = omega arith in div_mono t (mul-le-mul_left r m)

-- no weight, no share
pub share-none : (r t c : ℕ) → share_at r t c 0 ≡ 0
share-none r t c = rw (add-zero c) (omega arith)

length-shares_from : (r t c : ℕ) (ws : List ℕ) → length (shares_from r t c ws) ≡ length ws
length-shares_from r t c [] = refl
length-shares_from r t c (w ∷ ws) = ap suc (length-shares_from r t (c + w) ws)

pub length-shares : (r : ℕ) (ws : List ℕ) → length (shares r ws) ≡ length ws
unfolding shares
length-shares r ws = length-shares_from r (total ws) 0 ws

get_or-shares_from : (r t c i : ℕ) (ws : List ℕ) → get_or (shares_from r t c ws) i 0 ≡ share_at r t (c + upto i ws) (get_or ws i 0)
get_or-shares_from r t c i [] = sym (share-none r t (c + upto i []))
get_or-shares_from r t c zero (w ∷ ws) = rw (add-zero c)
get_or-shares_from r t c (suc i) (w ∷ ws) =
    let e : c + w + upto i ws ≡ c + (w + upto i ws) = omega arith in
    get_or-shares_from r t (c + w) i ws ∙ ap (λ (n : ℕ). share_at r t n (get_or ws i 0)) e

-- a side's share stands at the running total of the sides ahead of it
pub get_or-shares : (r i : ℕ) (ws : List ℕ) → get_or (shares r ws) i 0 ≡ share_at r (total ws) (upto i ws) (get_or ws i 0)
unfolding shares
get_or-shares r i ws = get_or-shares_from r (total ws) 0 i ws ∙ ap (λ (n : ℕ). share_at r (total ws) n (get_or ws i 0)) (zero-add (upto i ws))

pub shares-none : (r i : ℕ) (ws : List ℕ) → get_or ws i 0 ≡ 0 → get_or (shares r ws) i 0 ≡ 0
shares-none r i ws e = get_or-shares r i ws ∙ ap (share_at r (total ws) (upto i ws)) e ∙ share-none r (total ws) (upto i ws)

-- the telescope: shares up to a place are what stands there less what stands at the start
tele : (r t c k : ℕ) (ws : List ℕ) → upto k (shares_from r t c ws) + r * c / t ≡ r * (c + upto k ws) / t
tele r t c zero ws = rw (add-zero) (omega arith)
tele r t c (suc k) [] = rw (add-zero) (omega arith)
tele r t c (suc k) (w ∷ ws) =
    let q : r * c / t ≤ r * (c + w) / t = share-rises r t c w in
    let i : upto k (shares_from r t (c + w) ws) + r * (c + w) / t ≡ r * (c + (w + upto k ws)) / t = tele r t (c + w) k ws ∙ ap (λ (n : ℕ). r * n / t) (omega arith) in
    omega arith

-- what the first k sides get, for every r, k and ws
pub shares-upto : (r k : ℕ) (ws : List ℕ) → upto k (shares r ws) ≡ r * upto k ws / total ws
unfolding shares
shares-upto r k ws =
    let t = total ws in
    let z : r * 0 / t ≡ 0 = simp (mul-zero, zero-div) in
    let e : r * (0 + upto k ws) / t ≡ r * upto k ws / t = ap (λ (n : ℕ). r * n / t) (omega arith) in
    omega (arith, tele r t 0 k ws)

total-upto : (r : ℕ) (ws : List ℕ) → total (shares r ws) ≡ r * total ws / total ws
total-upto r ws =
    sym (upto-end (length (shares r ws)) (shares r ws) (le_refl _)) ∙ ap (λ (n : ℕ). upto n (shares r ws)) (length-shares r ws) ∙ shares-upto r (length ws) ws
    ∙ ap (λ (n : ℕ). r * n / total ws) (upto-end (length ws) ws (le_refl _))

-- all of r is given where there is a total, and nothing where there is none
pub total-shares : (r : ℕ) (ws : List ℕ) → 0 < total ws → total (shares r ws) ≡ r
total-shares r ws p = total-upto r ws ∙ mul-div_cancel r p

pub no-shares : (r : ℕ) (ws : List ℕ) → total ws ≡ 0 → total (shares r ws) ≡ 0
no-shares r ws e = total-upto r ws ∙ ap (λ (n : ℕ). r * n / n) e ∙ div-zero (r * 0)

pub total-shares-le : (r : ℕ) (ws : List ℕ) → r ≤ total ws → total (shares r ws) ≡ r
total-shares-le r ws h = go (total ws) refl
  where
    go : (t : ℕ) → total ws ≡ t → total (shares r ws) ≡ r
    go zero e = let z = no-shares r ws e in omega arith
    go (suc t) e = total-shares r ws (omega arith)
