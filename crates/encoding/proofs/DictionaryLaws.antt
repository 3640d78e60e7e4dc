-- The dictionary's order: total, transitive, and two that come no later than each other are equal. What comes before what is told by the first
-- words that differ.
use Prim.Native.Nat.{ℕ, ◌≤◌, ◌<◌}
use mathlib.Core.Path.{◌≡◌, refl, sym, ap, ap₂, ◌∙◌, subst}
use mathlib.Core.Bool.{Bool, true, false, not}
use mathlib.Core.Logic.{inl, inr, ⊎_elim}
use mathlib.Core.List.{List, [], ◌∷◌, ◌++◌, append-nil, tail-eq_of_cons-eq, head-eq_of_cons-eq}
use native.Mathlib.Decide.{ℕ_discrete, dec_lt}
use native.Mathlib.Omega.{arith}
use lib.Dec.{ltb}
use borrow.Author.Tests.{ltb-true, ltb-false}
use Rattle.std.specs.Option.{is_some, MatchOption}
use Rattle.std.specs.declared.option.Option.{Option}
use Rattle.std.specs.declared.option.Option.TheVariants.{None, Some}
use Rattle.encoding.specs.Codes.{All, many}
use Rattle.encoding.specs.Dictionary.{Le, Before, Left, Apart, listed, Free}
use Rattle.encoding.specs.Tests.{Says}
use Rattle.encoding.proofs.CodeLaws.{many-free}

total-step : (x y : ℕ) (a b : List ℕ) → Dec (y < x) → Dec (x ≡ y) → (Le (x ∷ a) (y ∷ b) → ⊥) → ((Le a b → ⊥) → Le b a) → Le (y ∷ b) (x ∷ a)
total-step x y a b (yes p) e h f = inl p
total-step x y a b (no p) (yes q) h f = inr (sym q, f (λ k. h (inr (q, k))))
total-step x y a b (no p) (no q) h f = absurd (h (inl (omega arith)))

pub le_total : (a b : List ℕ) → (Le a b → ⊥) → Le b a
le_total [] b h = absurd (h tt)
le_total (x ∷ a) [] h = tt
le_total (x ∷ a) (y ∷ b) h = total-step x y a b (dec_lt y x) (ℕ_discrete x y) h (le_total a b)

trans-step : (x y z : ℕ) (a b c : List ℕ) → (Le a b → Le b c → Le a c) → Le (x ∷ a) (y ∷ b) → Le (y ∷ b) (z ∷ c) → Le (x ∷ a) (z ∷ c)
trans-step x y z a b c f (inl p) (inl q) = inl (omega arith)
trans-step x y z a b c f (inl p) (inr q) = inl (omega arith)
trans-step x y z a b c f (inr p) (inl q) = inl (omega arith)
trans-step x y z a b c f (inr p) (inr q) = inr (p.0 ∙ q.0, f p.1 q.1)

pub le_trans : (a b c : List ℕ) → Le a b → Le b c → Le a c
le_trans [] b c p q = tt
le_trans (x ∷ a) [] c p q = absurd p
le_trans (x ∷ a) (y ∷ b) [] p q = absurd q
le_trans (x ∷ a) (y ∷ b) (z ∷ c) p q = trans-step x y z a b c (le_trans a b c) p q

anti-step : (x y : ℕ) (a b : List ℕ) → (Le a b → Le b a → a ≡ b) → Le (x ∷ a) (y ∷ b) → Le (y ∷ b) (x ∷ a) → x ∷ a ≡ y ∷ b
anti-step x y a b f (inl p) (inl q) = absurd (omega arith)
anti-step x y a b f (inl p) (inr q) = absurd (omega arith)
anti-step x y a b f (inr p) (inl q) = absurd (omega arith)
anti-step x y a b f (inr p) (inr q) = ap₂ (λ (u : ℕ) (v : List ℕ). u ∷ v) p.0 (f p.1 q.1)

pub le-anti : (a b : List ℕ) → Le a b → Le b a → a ≡ b
le-anti [] [] p q = refl
le-anti [] (y ∷ b) p q = absurd q
le-anti (x ∷ a) [] p q = absurd p
le-anti (x ∷ a) (y ∷ b) p q = anti-step x y a b (le-anti a b) p q

pub le_same : (a : List ℕ) → Le a a
le_same [] = tt
le_same (x ∷ a) = inr (refl, le_same a)

-- ---- coming before

pub before-not : (a : List ℕ) → Before a a → ⊥
before-not a h = h (le_same a)

pub before-trans : (a b c : List ℕ) → Before a b → Before b c → Before a c
before-trans a b c p q = λ l. q (le_trans c a b l (le_total b a p))

pub before-total : (a b : List ℕ) → (Before a b → ⊥) → (a ≡ b → ⊥) → Before b a
before-total a b p n = λ l. p (λ m. n (le-anti a b l m))

-- ---- the words of items

all_any : {A : Type 0} (xs : List A) → All (λ x. Unit {0}) xs
all_any [] = tt
all_any (x ∷ xs) = (tt, all_any xs)

pub listed_free : {A : Type 0} (words : A → List ℕ) → Free words → Free (listed words)
listed_free words free xs ys s t p q e =
    many-free words (λ x. Unit {0}) free xs ys s t (head-eq_of_cons-eq e) (all_any xs) (all_any ys) (tail-eq_of_cons-eq e)

-- items that have the same words are the same
pub words_same : {A : Type 0} (words : A → List ℕ) → Free words → (x y : A) → words x ≡ words y → x ≡ y
words_same words free x y e = (free x y [] [] tt tt (ap (λ (l : List ℕ). l ++ []) e)).0

-- ---- which comes before, told by the first that differs

pub says-iff : (r : Bool) {P Q : Type 0} → (P → Q) → (Q → P) → Says r P → Says r Q
says-iff true f g p = f p
says-iff false f g p = λ q. p (g q)

-- whether one comes before another is whether one of two others does
abbrev Alike : List ℕ → List ℕ → List ℕ → List ℕ → Type 0
Alike a b c d = (Le a b → Le c d) × (Le c d → Le a b)

says-alike : (r : Bool) (a b c d : List ℕ) → Alike a b c d → Says r (Before b a) → Says r (Before d c)
says-alike r a b c d h s = says-iff r (λ f l. f (h.1 l)) (λ f l. f (h.0 l)) s

next-alike : (x y : ℕ) (a b c d : List ℕ) → (x ≡ y → Alike a b c d) → Alike (x ∷ a) (y ∷ b) (x ∷ c) (y ∷ d)
next-alike x y a b c d h = (
  (λ l. ⊎_elim inl (λ k. inr (k.0, (h k.0).0 k.1)) l),
  (λ l. ⊎_elim inl (λ k. inr (k.0, (h k.0).1 k.1)) l),
)

split : (u v a b : List ℕ) → ((s t : List ℕ) → u ++ s ≡ v ++ t → ⊥) → Alike u v (u ++ a) (v ++ b)
split [] v a b h = absurd (h v [] (sym (append-nil v)))
split (x ∷ u) [] a b h = absurd (h [] (x ∷ u) (append-nil (x ∷ u)))
split (x ∷ u) (y ∷ v) a b h =
    next-alike x y u v (u ++ a) (v ++ b) (λ e. split u v a b (λ s t g. h s t (ap₂ (λ (n : ℕ) (l : List ℕ). n ∷ l) e g)))

next-tells : (r : Bool) (x y : ℕ) (a b : List ℕ) → x ≡ y → Says r (Before a b) → Says r (Before (x ∷ a) (y ∷ b))
next-tells r x y a b e s = says-alike r b a (y ∷ b) (x ∷ a) ((λ l. inr (sym e, l)), (λ l. ⊎_elim (λ h. absurd (omega arith)) (λ k. k.1) l)) s

-- words that are the same leave it to what follows
pub shared-tells : (r : Bool) (u a b : List ℕ) → Says r (Before a b) → Says r (Before (u ++ a) (u ++ b))
shared-tells r [] a b s = s
shared-tells r (x ∷ u) a b s = next-tells r x x (u ++ a) (u ++ b) refl (shared-tells r u a b s)

module _ {A : Type 0} (words : A → List ℕ) where
  -- what was asked of two items that stand for two others
  pub told_of : (r : Bool) {x x' y y' : A} → x ≡ x' → y ≡ y' → Says r (Before (words x) (words y)) → Says r (Before (words x') (words y'))
  told_of r {x} {x'} {y} {y'} e f s = subst (λ (b : A). Says r (Before (words x') (words b))) f (subst (λ (a : A). Says r (Before (words a) (words y))) e s)

  -- items that are the same leave it to what follows
  pub rest-tells : (r : Bool) (x y : A) (a b : List ℕ) → x ≡ y → Says r (Before a b) → Says r (Before (words x ++ a) (words y ++ b))
  rest-tells r x y a b e s = subst (λ (z : A). Says r (Before (words x ++ a) (words z ++ b))) e (shared-tells r (words x) a b s)

  -- items that differ tell it, whatever follows
  pub first-tells : Free words → (r : Bool) (x y : A) (a b : List ℕ) → (x ≡ y → ⊥) → Says r (Before (words x) (words y))
      → Says r (Before (words x ++ a) (words y ++ b))
  first-tells free r x y a b n s = says-alike r (words y) (words x) (words y ++ b) (words x ++ a) (split (words y) (words x) b a (λ u v e. n (sym (free y x u v tt tt e).0))) s

-- items one after the other, xs and ys, of which x and y are the first
module _ {A : Type 0} (words : A → List ℕ) {xs xs' ys ys' : List A} {x y : A} (e : xs ≡ x ∷ xs') (f : ys ≡ y ∷ ys') (r : Bool) where
  pub item-skipped : x ≡ y → Says r (Before (many words xs') (many words ys')) → Says r (Before (many words xs) (many words ys))
  item-skipped h s = told_of (many words) r (sym e) (sym f) (rest-tells words r x y (many words xs') (many words ys') h s)

  pub item-tells : Free words → (x ≡ y → ⊥) → Says r (Before (words x) (words y)) → Says r (Before (many words xs) (many words ys))
  item-tells free n s = told_of (many words) r (sym e) (sym f) (first-tells words free r x y (many words xs') (many words ys') n s)

-- rows compared item by item: at the start all of them is left
module _ {A : Type 0} (words : A → List ℕ) {xs ys : List A} where
  pub all_left : {us vs : List A} → xs ≡ us → ys ≡ vs → Left words xs ys us vs
  all_left e f = record {
    same = λ g. e ∙ g ∙ sym f;
    rest = λ g. sym e ∙ g ∙ f;
    tells = λ r s. told_of (many words) r (sym e) (sym f) s;
  }

  -- of what is left, us and vs, x and y are the first
  module _ {us us' vs vs' : List A} {x y : A} (left : Left words xs ys us vs) (e : us ≡ x ∷ us') (f : vs ≡ y ∷ vs') where
    -- items that are the same are passed
    pub next_left : x ≡ y → Left words xs ys us' vs'
    next_left h = record {
      same = λ g. left.same (e ∙ ap₂ (λ (z : A) (l : List A). z ∷ l) h g ∙ sym f);
      rest = λ g. tail-eq_of_cons-eq (sym e ∙ left.rest g ∙ f);
      tells = λ r s. left.tells r (item-skipped words e f r h s);
    }

    -- and those that differ tell the rows apart
    pub left_apart : Free words → (x ≡ y → ⊥) → Apart words xs ys x y
    left_apart free n = record {
      differ = λ g. n (head-eq_of_cons-eq (sym e ∙ left.rest g ∙ f));
      tells = λ r s. left.tells r (item-tells words e f r free n s);
    }

-- what is so just where nothing was found is told by whether nothing was
pub says_none : {B : Type 0} {P : Type 0} {Q : B → Type 0} (found : Option B) (r : Bool) → is_some found ≡ not r → MatchOption found P Q
    → ((b : B) → Q b → P → ⊥) → Says r P
says_none None true e h n = h
says_none None false e h n = cc
says_none (Some b) true e h n = cc
says_none (Some b) false e h n = n b h

less : (x y : ℕ) (a b : List ℕ) → x < y → Before (x ∷ a) (y ∷ b)
less x y a b h l = ⊎_elim (λ p. omega arith) (λ p. omega (arith, p.0)) l

differ : (x y : ℕ) (a b : List ℕ) → (x ≡ y → ⊥) → Says (ltb x y) (Before (x ∷ a) (y ∷ b))
differ x y a b n = go (ltb x y) refl
  where
    go : (r : Bool) → ltb x y ≡ r → Says r (Before (x ∷ a) (y ∷ b))
    go true e = less x y a b (ltb-true x y e)
    go false e = let h : y ≤ x = ltb-false x y e in λ f. f (inl (omega (arith, n)))

-- numbers, read as x and y, that are the same leave it to what follows, and those that differ tell it
module _ {x x' y y' : ℕ} (e : x ≡ x') (f : y ≡ y') (a b : List ℕ) where
  pub number-skipped : (r : Bool) → x ≡ y → Says r (Before a b) → Says r (Before (x' ∷ a) (y' ∷ b))
  number-skipped r h s = next-tells r x' y' a b (sym e ∙ h ∙ f) s

  pub number-tells : (x ≡ y → ⊥) → Says (ltb x y) (Before (x' ∷ a) (y' ∷ b))
  number-tells n = subst (λ (d : ℕ). Says (ltb x y) (Before (x' ∷ a) (d ∷ b))) f (subst (λ (c : ℕ). Says (ltb x y) (Before (c ∷ a) (y ∷ b))) e (differ x y a b n))

-- lists that do not differ: none comes before the other
pub none_before : {A : Type 0} (words : A → List ℕ) {xs ys : List A} → xs ≡ ys → Before (many words xs) (many words ys) → ⊥
none_before words {xs} e = subst (λ (l : List _). Before (many words xs) (many words l) → ⊥) e (before-not (many words xs))
