-- Bytes and actions one after the other, and the bytes of an action and of a list.
use Prim.Native.Nat.{ℕ, zero, suc, ◌+◌, ◌-◌, ◌*◌, ◌%◌, ◌≤◌, ◌<◌, ◌^◌}
use mathlib.Core.Path.{◌≡◌, refl, sym, ap, ap₂, ◌∙◌}
use mathlib.Core.Bool.{Bool, true, false}
use mathlib.Core.List.{List, [], ◌∷◌, ◌++◌, head-eq_of_cons-eq, tail-eq_of_cons-eq}
use native.Mathlib.Omega.{arith}
use native.Mathlib.Decide.{ℕ_discrete, dec_lt}
use lib.ListN.{length, get_or, length-append}
use lib.Dec.{eqb}
use Rattle.std.specs.Prelude.{cond}
use borrow.Author.Tests.{eq-eqb, ne_eqb}
use Rattle.fields.specs.Field.{u16_at, u32_at, be16, be32, Bytes}
use Rattle.fields.proofs.Laws.{u16_at-fits, u32_at-past}
use Rattle.encoding.specs.Codes.{many, counted}
use Rattle.encoding.specs.Sections.{byte}
use Rattle.encoding.specs.Upto.{from}
use Rattle.encoding.proofs.CodeLaws.{half-bytes, word-halves}
use Rattle.encoding.proofs.SectionLaws.{many-byte}
use Rattle.meaning.specs.Meaning.{Action}
use Rattle.meaning.specs.Sheet.{action_code}
use Rattle.encoding.specs.Tests.{Says}
use Rattle.encoding.proofs.DictionaryLaws.{says-iff}
use Rattle.std.proofs.lemmas.List.{append_cancel_left}
use Rattle.actions.specs.Faults.{data_size}
use Rattle.actions.specs.Actions.{bytes_at, content_at, action_at, actions_at, list_at}
use Rattle.actions.proofs.Copies.{bytes-length}
use Rattle.actions.proofs.Laws.{list_length}
use Rattle.write_list.specs.Kept.{left_out}
use Rattle.write_list.specs.Hash.{weight, action_hash, actions_hash, list_hash}

module _ (t : List ℕ) where
  -- ---- bytes

  -- n bytes, of which m are left from p on after the first
  pub bytes-cons : (n m at p : ℕ) → n ≡ m + 1 → p ≡ at + 1 → bytes_at t at n ≡ get_or t at 0 ∷ bytes_at t p m
  unfolding bytes_at from
  bytes-cons n m at p e f =
      let k : n ≡ suc m = omega arith in
      let q : suc at ≡ p = omega arith in
      ap (bytes_at t at) k ∙ ap (λ (r : ℕ). get_or t at 0 ∷ bytes_at t r m) q

  pub bytes-none : (n at : ℕ) → n ≤ 0 → bytes_at t at n ≡ []
  unfolding bytes_at from
  bytes-none zero at h = refl
  bytes-none (suc n) at h = absurd (omega arith)

  -- the same after the first four
  bytes-four : (n m at p : ℕ) → n ≡ m + 4 → p ≡ at + 4
      → bytes_at t at n ≡ get_or t at 0 ∷ get_or t (at + 1) 0 ∷ get_or t (at + 2) 0 ∷ get_or t (at + 2 + 1) 0 ∷ bytes_at t p m
  bytes-four n m at p e f =
      let w = bytes-cons n (m + 3) at (at + 1) (omega arith) refl in
      let x = bytes-cons (m + 3) (m + 2) (at + 1) (at + 2) (omega arith) (omega arith) in
      let y = bytes-cons (m + 2) (m + 1) (at + 2) (at + 2 + 1) (omega arith) refl in
      let z = bytes-cons (m + 1) m (at + 2 + 1) p refl (omega arith) in
      w ∙ ap (λ (l : List ℕ). get_or t at 0 ∷ l) (x ∙ ap (λ (l : List ℕ). get_or t (at + 1) 0 ∷ l) (y ∙ ap (λ (l : List ℕ). get_or t (at + 2) 0 ∷ l) z))

  -- ---- the data of an action

  module _ (at ty : ℕ) where
    pub content-0 : ty ≡ 0 → content_at t at ty ≡ bytes_at t (at + 8) (12 + 2 * u16_at t (at + 18))
    unfolding content_at
    content-0 e = simp (eq-eqb ty 0 e)

    pub content-5 : ty ≡ 5 → content_at t at ty ≡ 0 ∷ 0 ∷ bytes_at t (at + 10) 2
    unfolding content_at
    content-5 e = simp e

    pub content-other : (ty ≡ 0 → ⊥) → (ty ≡ 5 → ⊥) → content_at t at ty ≡ bytes_at t (at + 8) (data_size ty)
    unfolding content_at
    content-other z f = simp (ne_eqb ty 0 z, ne_eqb ty 5 f)

    pub size-0 : (n : ℕ) → ty ≡ 0 → n ≡ u16_at t (at + 18) → 12 + 2 * n ≡ length (content_at t at ty)
    size-0 n z e = omega (arith, ap length (content-0 z), bytes-length t (at + 8) (12 + 2 * u16_at t (at + 18)))

    pub size-other : (s : ℕ) → (ty ≡ 0 → ⊥) → s ≡ data_size ty → s ≡ length (content_at t at ty)
    unfolding content_at bytes_at from
    size-other s z e = go (ℕ_discrete ty 5)
      where
        go : Dec (ty ≡ 5) → s ≡ length (content_at t at ty)
        go (yes p) = e ∙ ap data_size p ∙ ap (λ (k : ℕ). length (content_at t at k)) (sym p)
        go (no p) = e ∙ sym (bytes-length t (at + 8) (data_size ty)) ∙ ap length (sym (content-other z p))

    -- data that is not of type 5 stands in the table as it is written
    pub content-plain : (ty ≡ 5 → ⊥) → content_at t at ty ≡ bytes_at t (at + 8) (length (content_at t at ty))
    content-plain f = go (ℕ_discrete ty 0)
      where
        go : Dec (ty ≡ 0) → content_at t at ty ≡ bytes_at t (at + 8) (length (content_at t at ty))
        go (yes z) =
            content-0 z
            ∙ ap (bytes_at t (at + 8)) (sym (ap length (content-0 z) ∙ bytes-length t (at + 8) (12 + 2 * u16_at t (at + 18))))
        go (no z) =
            content-other z f ∙ ap (bytes_at t (at + 8)) (sym (ap length (content-other z f) ∙ bytes-length t (at + 8) (data_size ty)))

    -- the data as it is read
    pub kept-5 : ty ≡ 5 → content_at t at ty ≡ left_out ty ++ bytes_at t (at + 10) 2
    kept-5 e = content-5 e ∙ ap (λ (k : ℕ). left_out k ++ bytes_at t (at + 10) 2) (sym e)

    pub kept-other : (s : ℕ) → (ty ≡ 5 → ⊥) → s ≡ length (content_at t at ty) → content_at t at ty ≡ left_out ty ++ bytes_at t (at + 8) s
    kept-other s f e = content-plain f ∙ ap (bytes_at t (at + 8)) (sym e) ∙ simp (ne_eqb ty 5 f)

  -- ---- actions

  -- n actions, of which m are left from p on after the first
  pub actions-cons : (n m at p : ℕ) → n ≡ m + 1 → p ≡ at + u32_at t (at + 4) → actions_at t n at ≡ action_at t at ∷ actions_at t m p
  unfolding actions_at
  actions-cons n m at p e f =
      let k : n ≡ suc m = omega arith in
      ap (λ (j : ℕ). actions_at t j at) k ∙ ap (λ (q : ℕ). action_at t at ∷ actions_at t m q) (sym f)

  pub actions-none : (n at : ℕ) → n ≤ 0 → actions_at t n at ≡ []
  unfolding actions_at
  actions-none zero at h = refl
  actions-none (suc n) at h = absurd (omega arith)

  -- the next action stands near, where a length was read as `k`
  pub near : (at k : ℕ) → length t ≤ 2 ^ 15 → at < 2 ^ 33 → k ≡ u32_at t (at + 4) → k < 2 ^ 32 → at + k < 2 ^ 33
  near at k l h e f = go (dec_lt at (length t))
    where
      go : Dec (at < length t) → at + k < 2 ^ 33
      go (yes p) = omega arith
      go (no p) = let z : length t ≤ at + 4 = omega (arith, p) in omega (arith, u32_at-past t (at + 4) z)

  -- ---- bytes of actions

  pub action-bytes : (at k : ℕ) → k ≡ u16_at t (at + 2) → length (action_code (action_at t at)) ≡ 8 + length (content_at t at k)
  unfolding action_at
  action-bytes at k e =
      omega (arith, ap length (many-byte (content_at t at (u16_at t (at + 2)))), ap (λ (j : ℕ). length (content_at t at j)) e)

  -- class, type, length and data as they were read
  pub action-code : (at c k s : ℕ) → c ≡ u16_at t at → k ≡ u16_at t (at + 2) → s ≡ length (content_at t at k)
      → be16 c ++ (be16 k ++ (be32 s ++ content_at t at k)) ≡ action_code (action_at t at)
  unfolding action_at
  action-code at c k s ec ek es =
      ap (λ (j : ℕ). be16 c ++ (be16 k ++ (be32 j ++ content_at t at k))) es
      ∙ ap (λ (l : List ℕ). be16 c ++ (be16 k ++ (be32 (length (content_at t at k)) ++ l))) (sym (many-byte (content_at t at k)))
      ∙ ap₂ (λ (i j : ℕ). be16 i ++ (be16 j ++ counted byte (content_at t at j))) ec ek

  pub many-cons : (n m at p : ℕ) → n ≡ m + 1 → p ≡ at + u32_at t (at + 4)
      → many action_code (actions_at t n at) ≡ action_code (action_at t at) ++ many action_code (actions_at t m p)
  many-cons n m at p e f = ap (many action_code) (actions-cons n m at p e f)

  pub size-cons : (n m at p : ℕ) → n ≡ m + 1 → p ≡ at + u32_at t (at + 4)
      → length (many action_code (actions_at t n at)) ≡ length (action_code (action_at t at)) + length (many action_code (actions_at t m p))
  size-cons n m at p e f =
      ap length (many-cons n m at p e f) ∙ length-append (action_code (action_at t at)) (many action_code (actions_at t m p))

  pub size_none : (n at : ℕ) → n ≤ 0 → length (many action_code (actions_at t n at)) ≡ 0
  size_none n at h = ap (λ (l : List Action). length (many action_code l)) (actions-none n at h)

  -- a list's actions, its count as it was read
  pub list-actions : (at n : ℕ) → n ≡ u32_at t at → actions_at t n (at + 4) ≡ list_at t at
  unfolding list_at
  list-actions at n e = ap (λ (k : ℕ). actions_at t k (at + 4)) e

  -- the count as it was read, then so many actions
  pub list_code_lem : (at n : ℕ) → n ≡ u32_at t at → be32 n ++ many action_code (actions_at t n (at + 4)) ≡ counted action_code (list_at t at)
  list_code_lem at n e =
      ap (λ (l : List Action). be32 n ++ many action_code l) (list-actions at n e)
      ∙ ap (λ (k : ℕ). be32 k ++ many action_code (list_at t at)) (e ∙ sym (list_length t at))

  pub list-bytes : (at n k : ℕ) → n ≡ u32_at t at → k ≡ n → length (counted action_code (list_at t at)) ≡ 4 + length (many action_code (actions_at t k (at + 4)))
  list-bytes at n k e f = omega (arith, ap length (list_code_lem at n e), ap (λ (j : ℕ). length (many action_code (actions_at t j (at + 4)))) f)

-- bytes and actions of two tables, or of one taken twice
module _ (t u : List ℕ) where
  -- n bytes of each, of which m are left from p and from q on after the first four
  module _ (n m a b p q : ℕ) (en : n ≡ m + 4) (ep : p ≡ a + 4) (eq : q ≡ b + 4) where
    pub same-four : Bytes t → Bytes u → u32_at t a ≡ u32_at u b → bytes_at t p m ≡ bytes_at u q m → bytes_at t a n ≡ bytes_at u b n
    same-four bytes bytes' e f =
        let w = word-halves t u bytes bytes' a b e in
        let x = half-bytes t u bytes bytes' a b w.0 in
        let y = half-bytes t u bytes bytes' (a + 2) (b + 2) w.1 in
        bytes-four t n m a p en ep ∙ (λ i. x.0 i ∷ x.1 i ∷ y.0 i ∷ y.1 i ∷ f i) ∙ sym (bytes-four u n m b q en eq)

    pub four_same : bytes_at t a n ≡ bytes_at u b n → (u32_at t a ≡ u32_at u b) × (bytes_at t p m ≡ bytes_at u q m)
    unfolding u32_at u16_at
    four_same e =
        let v = sym (bytes-four t n m a p en ep) ∙ e ∙ bytes-four u n m b q en eq in
        let w = tail-eq_of_cons-eq v in
        let r = tail-eq_of_cons-eq w in
        let s = tail-eq_of_cons-eq r in
        ((λ i. (head-eq_of_cons-eq v i * 256 + head-eq_of_cons-eq w i) * 65536 + (head-eq_of_cons-eq r i * 256 + head-eq_of_cons-eq s i)), tail-eq_of_cons-eq s)

-- the n bytes from a on in the one and from b on in the other are the same just where those after the first 4 * i are
abbrev pub SameAfter : List ℕ → List ℕ → ℕ → ℕ → ℕ → ℕ → Type 0
SameAfter t u a b n i =
    (bytes_at t (a + 4 * i) (n - 4 * i) ≡ bytes_at u (b + 4 * i) (n - 4 * i) → bytes_at t a n ≡ bytes_at u b n)
    × (bytes_at t a n ≡ bytes_at u b n → bytes_at t (a + 4 * i) (n - 4 * i) ≡ bytes_at u (b + 4 * i) (n - 4 * i))

-- what is left to compare of two actions
pub same-held : (t u : List ℕ) (r : Bool) (a b k : ℕ) → u16_at t a ≡ u16_at u b → k ≡ u16_at t (a + 2) → k ≡ u16_at u (b + 2)
    → Says r (content_at t a k ≡ content_at u b k) → Says r (action_at t a ≡ action_at u b)
unfolding action_at
same-held t u true a b k c ka kb e =
    ap₂ (λ (x y : ℕ). record { class = x; ty = y; content = content_at t a y }) c (sym ka)
    ∙ ap (λ (l : List ℕ). record { class = u16_at u b; ty = k; content = l }) e
    ∙ ap (λ (y : ℕ). record { class = u16_at u b; ty = y; content = content_at u b y }) kb
same-held t u false a b k c ka kb f =
    λ e. f (ap (content_at t a) ka ∙ ap (λ (x : Action). x.content) e ∙ ap (content_at u b) (sym kb))

-- the same, where class and type were read as one number
module _ (t u : List ℕ) (bytes : Bytes t) (others : Bytes u) (r : Bool) (a b h k : ℕ) (ha : h ≡ u32_at t a) (hk : k ≡ h % 65536) where
  pub heads-apart : (i : ℕ) → i ≡ u32_at u b → (h ≡ i → ⊥) → action_at t a ≡ action_at u b → ⊥
  unfolding action_at u32_at
  heads-apart i e n q =
      n (ha ∙ ap₂ (λ (x y : ℕ). x * 65536 + y) (ap (λ (z : Action). z.class) q) (ap (λ (z : Action). z.ty) q) ∙ sym e)

  its-ty : (s : List ℕ) → Bytes s → (p : ℕ) → h ≡ u32_at s p → k ≡ u16_at s (p + 2)
  unfolding u32_at
  its-ty s fit p e = omega (arith, u16_at-fits s (p + 2) fit)

  pub heads-same : h ≡ u32_at u b → Says r (content_at t a k ≡ content_at u b k) → Says r (action_at t a ≡ action_at u b)
  heads-same e = same-held t u r a b k (word-halves t u bytes others a b (sym ha ∙ e)).0 (its-ty t bytes a ha) (its-ty u others b e)

-- type 3 has no data
pub no-data : (t u : List ℕ) (a b k : ℕ) → k ≡ 3 → content_at t a k ≡ content_at u b k
unfolding content_at
no-data t u a b k e = rw e (bytes-none t 0 (a + 8) (omega arith) ∙ sym (bytes-none u 0 (b + 8) (omega arith)))

-- the data of two actions of one type: the same is left out of both
module _ {cs ds : List ℕ} (z xs ys : List ℕ) (e : cs ≡ z ++ xs) (f : ds ≡ z ++ ys) where
  pub same-kept : (r : Bool) → Says r (xs ≡ ys) → Says r (cs ≡ ds)
  same-kept r s = says-iff r (λ g. e ∙ ap (λ (l : List ℕ). z ++ l) g ∙ sym f) (λ g. append_cancel_left z xs ys (sym e ∙ g ∙ f)) s

  pub sizes-kept : cs ≡ ds → length xs ≡ length ys
  sizes-kept g = ap length (append_cancel_left z xs ys (sym e ∙ g ∙ f))

-- ---- the number of a list

module _ (t : List ℕ) where
  pub weight-more : (n m at p sum total b : ℕ) → n ≡ m + 1 → p ≡ at + 1 → b ≡ get_or t at 0
      → weight (sum + b) (total + (sum + b)) (bytes_at t p m) ≡ weight sum total (bytes_at t at n)
  unfolding weight
  weight-more n m at p sum total b en ep e =
      ap (λ (k : ℕ). weight (sum + k) (total + (sum + k)) (bytes_at t p m)) e ∙ ap (weight sum total) (sym (bytes-cons t n m at p en ep))

  pub weight-none : (n at sum total : ℕ) → n ≤ 0 → weight sum total (bytes_at t at n) ≡ total
  unfolding weight
  weight-none n at sum total h = ap (weight sum total) (bytes-none t n at h)

  -- what is left out weighs nothing
  pub weight-kept : (ty : ℕ) {cs : List ℕ} (xs : List ℕ) → cs ≡ left_out ty ++ xs → weight 0 0 xs ≡ weight 0 0 cs
  unfolding weight
  weight-kept ty {cs} xs e = go (eqb ty 5) ∙ ap (weight 0 0) (sym e)
    where
      go : (b : Bool) → weight 0 0 xs ≡ weight 0 0 (cond b (0 ∷ 0 ∷ []) [] ++ xs)
      go true = refl
      go false = refl

  pub weight-3 : (at ty : ℕ) → ty ≡ 3 → 0 ≡ weight 0 0 (content_at t at ty)
  unfolding content_at weight
  weight-3 at ty e = rw e (sym (ap (weight 0 0) (bytes-none t 0 (at + 8) (omega arith))))

  -- class and type were read as one number
  pub action-hash : Bytes t → (at h k w : ℕ) → h ≡ u32_at t at → k ≡ h % 65536 → w ≡ weight 0 0 (content_at t at k) → h + w ≡ action_hash (action_at t at)
  unfolding action_at u32_at
  action-hash bytes at h k w eh ek ew =
      let e : k ≡ u16_at t (at + 2) = omega (arith, u16_at-fits t (at + 2) bytes) in
      ap₂ ◌+◌ eh (ew ∙ ap (λ (j : ℕ). weight 0 0 (content_at t at j)) e)

  pub hash-more : (n m at p hash w : ℕ) → n ≡ m + 1 → p ≡ at + u32_at t (at + 4) → w ≡ action_hash (action_at t at)
      → actions_hash ((31 * hash + w) % 4294967296) (actions_at t m p) ≡ actions_hash hash (actions_at t n at)
  unfolding actions_hash
  hash-more n m at p hash w en ep e =
      ap (λ (k : ℕ). actions_hash ((31 * hash + k) % 4294967296) (actions_at t m p)) e ∙ ap (actions_hash hash) (sym (actions-cons t n m at p en ep))

  pub hash-none : (n at hash : ℕ) → n ≤ 0 → actions_hash hash (actions_at t n at) ≡ hash
  unfolding actions_hash
  hash-none n at hash h = ap (actions_hash hash) (actions-none t n at h)

  pub hash-all : (at n k p : ℕ) → n ≡ u32_at t at → k ≡ n → p ≡ at + 4 → actions_hash n (actions_at t k p) ≡ list_hash (list_at t at)
  unfolding list_at
  hash-all at n k p e f g = ap₂ actions_hash (e ∙ sym (list_length t at)) (ap₂ (λ (m q : ℕ). actions_at t m q) (f ∙ e) g)
