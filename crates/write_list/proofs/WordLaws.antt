-- The words of an action list tell it, and which of two actions comes earlier is told by their first fields that differ.
use Prim.Native.Nat.{ℕ, ◌+◌, ◌≤◌, ◌<◌}
use native.Mathlib.Omega.{arith}
use mathlib.Core.Path.{◌≡◌, refl, sym, ap, ◌∙◌, subst}
use mathlib.Core.Bool.{Bool, true, false}
use mathlib.Core.List.{List, ◌∷◌, ◌++◌, head-eq_of_cons-eq, tail-eq_of_cons-eq}
use lib.Dec.{ltb}
use lib.ListN.{length, length-append}
use Rattle.std.proofs.lemmas.Bool.{ltb-true, ltb-false, lt-ltb, le-ltb}
use Rattle.fields.specs.Field.{u16_at}
use Rattle.encoding.specs.Codes.{many}
use Rattle.encoding.specs.Dictionary.{Before, listed, Free}
use Rattle.encoding.specs.Sections.{byte}
use Rattle.encoding.specs.Tests.{Says}
use Rattle.encoding.proofs.SectionLaws.{byte-free, many-byte}
use Rattle.encoding.proofs.DictionaryLaws.{listed_free, words_same, shared-tells, told_of, number-skipped, number-tells}
use Rattle.meaning.specs.Meaning.{Action}
use Rattle.actions.specs.Actions.{content_at, action_at}
use Rattle.write_list.specs.Words.{action_words, list_words}

pub action-free : Free action_words
action-free a b s t p q e =
    let f = tail-eq_of_cons-eq e in
    let g = listed_free byte byte-free a.content b.content s t tt tt (tail-eq_of_cons-eq f) in
    ((λ i. record { class = head-eq_of_cons-eq e i; ty = head-eq_of_cons-eq f i; content = g.0 i }), g.1)

pub list-words-same : (x y : List Action) → list_words x ≡ list_words y → x ≡ y
unfolding list_words
list-words-same x y e = words_same (listed action_words) (listed_free action_words action-free) x y e

-- the same number more on both sides
ltb-more : (z m n : ℕ) → ltb (z + m) (z + n) ≡ ltb m n
ltb-more z m n = go (ltb m n) refl
  where
    go : (r : Bool) → ltb m n ≡ r → ltb (z + m) (z + n) ≡ r
    go true e = let h : m < n = ltb-true m n e in lt-ltb (z + m) (z + n) (omega arith)
    go false e = let h : n ≤ m = ltb-false m n e in le-ltb (z + m) (z + n) (omega arith)

-- the data of two actions of one type, of which the same is left out
module _ {cs ds : List ℕ} (z xs ys : List ℕ) (e : cs ≡ z ++ xs) (f : ds ≡ z ++ ys) where
  -- the lengths of what is kept were read as m and n
  module _ {m n : ℕ} (em : m ≡ length xs) (en : n ≡ length ys) where
    whole : length z + m ≡ length cs
    whole = omega (arith, em, ap length e, length-append z xs)

    whole' : length z + n ≡ length ds
    whole' = omega (arith, en, ap length f, length-append z ys)

    pub sizes-tell : (m ≡ n → ⊥) → Says (ltb m n) (Before (listed byte cs) (listed byte ds))
    sizes-tell h =
        subst (λ (r : Bool). Says r (Before (listed byte cs) (listed byte ds))) (ltb-more (length z) m n)
        (number-tells whole whole' (many byte cs) (many byte ds) (λ g. h (omega arith)))

    pub kept-tells : (r : Bool) → m ≡ n → Says r (Before (many byte xs) (many byte ys)) → Says r (Before (listed byte cs) (listed byte ds))
    kept-tells r h s =
        number-skipped whole whole' (many byte cs) (many byte ds) r (ap (λ (k : ℕ). length z + k) h)
        (told_of (many byte) r (sym e) (sym f)
        (told_of (λ (l : List ℕ). l) r (sym (many-byte (z ++ xs))) (sym (many-byte (z ++ ys)))
        (shared-tells r z xs ys (told_of (λ (l : List ℕ). l) r (many-byte xs) (many-byte ys) s))))

-- what an action has after its class and its type
abbrev kept : List ℕ → ℕ → List ℕ
kept t at = listed byte (content_at t at (u16_at t (at + 2)))

-- two actions, whose classes were read as c and d
module _ (t : List ℕ) (a b : ℕ) {c d : ℕ} (ec : c ≡ u16_at t a) (ed : d ≡ u16_at t b) where
  pub class-tells : (c ≡ d → ⊥) → Says (ltb c d) (Before (action_words (action_at t a)) (action_words (action_at t b)))
  unfolding action_at
  class-tells n = number-tells ec ed (u16_at t (a + 2) ∷ kept t a) (u16_at t (b + 2) ∷ kept t b) n

  -- and their types as k and l
  module _ (same : c ≡ d) {k l : ℕ} (ek : k ≡ u16_at t (a + 2)) (el : l ≡ u16_at t (b + 2)) where
    pub ty-tells : (k ≡ l → ⊥) → Says (ltb k l) (Before (action_words (action_at t a)) (action_words (action_at t b)))
    unfolding action_at
    ty-tells n =
        number-skipped ec ed (u16_at t (a + 2) ∷ kept t a) (u16_at t (b + 2) ∷ kept t b) (ltb k l) same (number-tells ek el (kept t a) (kept t b) n)

    pub content-tells : (r : Bool) → k ≡ l → Says r (Before (listed byte (content_at t a k)) (listed byte (content_at t b k)))
        → Says r (Before (action_words (action_at t a)) (action_words (action_at t b)))
    unfolding action_at
    content-tells r h s =
        number-skipped ec ed (u16_at t (a + 2) ∷ kept t a) (u16_at t (b + 2) ∷ kept t b) r same
        (number-skipped ek el (kept t a) (kept t b) r h (told_of (listed byte) r (ap (content_at t a) ek) (ap (content_at t b) (h ∙ el)) s))
