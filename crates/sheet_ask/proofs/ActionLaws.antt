-- An action's fields and data stand in a sheet as they would in a table: what is read there as in a table is the action.
use Prim.Native.Nat.{ℕ, zero, suc, ◌+◌, ◌-◌, ◌*◌, ◌≤◌, ◌<◌}
use mathlib.Core.Path.{◌≡◌, refl, sym, ap, ap₂, ◌∙◌}
use mathlib.Core.List.{List, [], ◌∷◌, ◌++◌, append_assoc}
use native.Mathlib.Omega.{arith}
use lib.ListN.{length, get_or, get_elem?, take, drop, length-append, length-drop, get_or-append}
use lib.Seq.{get_or-drop, drop-drop, drop-cons, take_all}
use Rattle.fields.specs.Field.{be16, u16_at, u32_at, Bytes}
use Rattle.encoding.specs.Codes.{many, counted}
use Rattle.encoding.specs.Sections.{byte}
use Rattle.encoding.specs.Upto.{from}
use Rattle.encoding.proofs.ListLaws.{all-at, elem-none}
use Rattle.encoding.proofs.SectionLaws.{many-byte}
use Rattle.types.specs.declared.HeldAction.{HeldAction}
use Rattle.meaning.specs.Meaning.{Action}
use Rattle.meaning.specs.Limits.{OkContent, OkAction, OkActions}
use Rattle.meaning.specs.Sheet.{action_code}
use Rattle.meaning.specs.Ask.{maybe, nothing, act, held}
use Rattle.meaning.specs.Wide.{WideAction}
use Rattle.meaning.proofs.SheetLaws.{few-actions}
use Rattle.actions.specs.Actions.{bytes_at, content_at, action_at, clipped}
use Rattle.answers.proofs.Laws.{held-is}
use Rattle.std.specs.Prelude.{Option, None}
use Rattle.answers.specs.Says.{given, action_held}
use Rattle.sheet_list.specs.Action.{list_code}
use Rattle.sheet_seek.specs.Passes.{Reaches}
use Rattle.sheet_seek.proofs.PassLaws.{opened}
use Rattle.sheet_ask.specs.Places.{ActionIn}
use Rattle.sheet_ask.proofs.MachineLaws.{at_some}
use Rattle.sheet_ask.proofs.RecordLaws.{part-is, part_bytes, read16, read32}

-- ---- bytes that stand at a place

first-is : (t : List ℕ) (p x : ℕ) (l : List ℕ) → drop p t ≡ x ∷ l → (get_or t p 0 ≡ x) × (drop (suc p) t ≡ l)
first-is t p x l e =
    let q : p + 0 ≡ p = omega arith in
    let r : p + 1 ≡ suc p = omega arith in (
      ap (λ (k : ℕ). get_or t k 0) (sym q) ∙ sym (get_or-drop p t 0 0) ∙ ap (λ (k : List ℕ). get_or k 0 0) e,
      ap (λ (k : ℕ). drop k t) (sym r) ∙ sym (drop-drop 1 p t) ∙ ap (drop 1) e,
    )

bytes-are : (t : List ℕ) (l : List ℕ) (p : ℕ) (rest : List ℕ) → drop p t ≡ l ++ rest → bytes_at t p (length l) ≡ l
unfolding bytes_at from
bytes-are t [] p rest e = refl
bytes-are t (x ∷ l) p rest e =
    let f = first-is t p x (l ++ rest) e in
    ap₂ (λ (y : ℕ) (k : List ℕ). y ∷ k) f.0 (bytes-are t l (suc p) rest f.1)

field_in : (t : List ℕ) (l rest : List ℕ) (p k q : ℕ) → drop p t ≡ l ++ rest → q ≡ p + k → k + 2 ≤ length l → u16_at t q ≡ u16_at l k
unfolding u16_at
field_in t l rest p k q e eq h =
    let one : (j i : ℕ) → j ≡ p + i → i < length l → get_or t j 0 ≡ get_or l i 0 =
    λ j i ej li. ap (λ (x : ℕ). get_or t x 0) ej ∙ sym (get_or-drop p t i 0) ∙ ap (λ (x : List ℕ). get_or x i 0) e ∙ get_or-append l rest 0 i li in
    ap₂ (λ (a b : ℕ). a * 256 + b) (one q k eq (omega arith)) (one (q + 1) (k + 1) (omega arith) (omega arith))

-- ---- the data by its type

size_is : (t l rest : List ℕ) (k : ℕ) → k ≡ length l → drop 8 t ≡ l ++ rest → bytes_at t 8 k ≡ l
size_is t l rest k h e = ap (bytes_at t 8) h ∙ bytes-are t l 8 rest e

zeros : (t l rest : List ℕ) → length l ≡ 4 → u16_at l 0 ≡ 0 → drop 8 t ≡ l ++ rest → 0 ∷ 0 ∷ bytes_at t 10 2 ≡ l
unfolding u16_at
zeros t (a ∷ b ∷ c ∷ d ∷ []) rest h z e =
    let za : 0 ≡ a = omega (arith, z) in
    let zb : 0 ≡ b = omega (arith, z) in
    let f = first-is t 8 a (b ∷ c ∷ d ∷ rest) e in
    let g = first-is t 9 b (c ∷ d ∷ rest) f.1 in
    ap₂ (λ (x y : ℕ). x ∷ y ∷ bytes_at t 10 2) za zb ∙ ap (λ (k : List ℕ). a ∷ b ∷ k) (bytes-are t (c ∷ d ∷ []) 10 rest g.1)
zeros t [] rest h z e = absurd (omega arith)
zeros t (a ∷ []) rest h z e = absurd (omega arith)
zeros t (a ∷ b ∷ []) rest h z e = absurd (omega arith)
zeros t (a ∷ b ∷ c ∷ []) rest h z e = absurd (omega arith)
zeros t (a ∷ b ∷ c ∷ d ∷ x ∷ l) rest h z e = absurd (omega arith)

content-is : (n ty : ℕ) (t l rest : List ℕ) → OkContent n ty l → drop 8 t ≡ l ++ rest → content_at t 0 ty ≡ l
unfolding content_at
content-is n zero t l rest o e =
    let f : u16_at t 18 ≡ u16_at l 10 = field_in t l rest 8 10 18 e (omega arith) (omega (arith, o.0, o.1)) in
    size_is t l rest (12 + 2 * u16_at t 18) (omega (arith, f, o.0)) e
content-is n (suc zero) t l rest o e = size_is t l rest 2 (sym o.0) e
content-is n (suc (suc zero)) t l rest o e = size_is t l rest 8 (sym o.0) e
content-is n (suc (suc (suc zero))) t l rest o e = size_is t l rest 0 (sym o) e
content-is n (suc (suc (suc (suc zero)))) t l rest o e = size_is t l rest 16 (sym o) e
content-is n (suc (suc (suc (suc (suc zero))))) t l rest o e = zeros t l rest o.0 o.1 e
content-is n (suc (suc (suc (suc (suc (suc k)))))) t l rest o e = absurd o

-- ---- the action

action-is : (n : ℕ) (a : Action) (t : List ℕ) (bytes : Bytes t) (rest : List ℕ) → OkAction n a → t ≡ action_code a ++ rest → action_at t 0 ≡ a
unfolding action_at
action-is n a t bytes rest o e =
    let f = read16 t bytes 0 2 a.class _ refl (omega (arith, o.0)) e in
    let g = read16 t bytes 2 4 a.ty _ refl (omega (arith, o.1)) f.1 in
    let h = read32 t bytes 4 8 (length a.content) (many byte a.content ++ rest) refl (omega (arith, o.2)) g.1 in
    let c : content_at t 0 (u16_at t 2) ≡ a.content =
    ap (content_at t 0) g.0 ∙ content-is n a.ty t a.content rest o.4 (h.1 ∙ ap (λ (l : List ℕ). l ++ rest) (many-byte a.content)) in
    λ i. record { class = f.0 i; ty = g.0 i; content = c i }

clip : (a : Action) → length a.content ≤ 76 → clipped a ≡ a
clip a h = ap (λ (l : List ℕ). record { class = a.class; ty = a.ty; content = l }) (take_all 76 a.content h)

-- ---- of a list that stands at a place

module _ (s : List ℕ) (bytes : Bytes s) (at k : ℕ) where
  list-opened : (n : ℕ) (l : List Action) (rest : List ℕ) → OkActions n l → drop at s ≡ list_code l ++ rest → u32_at s at ≡ length l
  list-opened n l rest o e = (opened action_code WideAction s bytes at l rest (omega (arith, o.0)) e).1

  pub action-past : u32_at s at ≤ k → (n : ℕ) (l : List Action) (rest : List ℕ) → OkActions n l → drop at s ≡ list_code l ++ rest
      → given nothing ≡ given (maybe act (get_elem? l k))
  action-past h n l rest o e = ap given (sym (ap (maybe act) (elem-none l k (omega (arith, list-opened n l rest o e)))))

  module _ (below : k < u32_at s at) (q : ℕ) (f : Reaches action_code WideAction k s at q) where
    zero-action : Action
    zero-action = record { class = 0; ty = 0; content = [] }

    action-first : (n : ℕ) (l : List Action) (rest : List ℕ) → OkActions n l → drop at s ≡ list_code l ++ rest
        → drop q s ≡ action_code (get_or l k zero-action) ++ (many action_code (drop (suc k) l) ++ rest)
    action-first n l rest o e =
        let w = few-actions n l o in
        let b : k < length l = omega (arith, below, list-opened n l rest o e) in
        f l rest (omega arith, w.0, w.1) e
        ∙ ap (λ (x : List Action). many action_code x ++ rest) (drop-cons l k zero-action b)
        ∙ append_assoc (action_code (get_or l k zero-action)) (many action_code (drop (suc k) l)) rest

    pub action-inside : (n : ℕ) (l : List Action) (rest : List ℕ) → OkActions n l → drop at s ≡ list_code l ++ rest → length s < q → ⊥
    action-inside n l rest o e h =
        let a = get_or l k zero-action in
        omega (
          arith,
          ap length (action-first n l rest o e),
          length-drop q s,
          length-append (be16 a.class) ((be16 a.ty ++ counted byte a.content) ++ (many action_code (drop (suc k) l) ++ rest)),
        )

    pub action-there : (h : HeldAction) → h ≡ held (clipped (action_at (take (length s - q) (drop q s)) 0))
        → (n : ℕ) (l : List Action) (rest : List ℕ) → OkActions n l → drop at s ≡ list_code l ++ rest → given (act (action_held h)) ≡ given (maybe act (get_elem? l k))
    action-there h eh n l rest o e =
        let b : k < length l = omega (arith, below, list-opened n l rest o e) in
        let a = get_or l k zero-action in
        let oa : OkAction n a = all-at (OkAction n) l zero-action k o.1 b in
        let c : clipped (action_at (take (length s - q) (drop q s)) 0) ≡ a =
        ap clipped (ap (λ (x : List ℕ). action_at x 0) (part-is s q)
        ∙ action-is n a (drop q s) (part_bytes s q bytes) (many action_code (drop (suc k) l) ++ rest) oa (action-first n l rest o e)) ∙ clip a oa.2 in
        ap (λ (x : Action). given (act x)) (held-is _ eh ∙ c) ∙ ap given (sym (ap (maybe act) (at_some l k zero-action b)))

-- ---- no action

pub nothing-in : (s : List ℕ) (at k : ℕ) (r : Option HeldAction) → r ≡ None
    → ((n : ℕ) (l : List Action) (rest : List ℕ) → OkActions n l → drop at s ≡ list_code l ++ rest → given nothing ≡ given (maybe act (get_elem? l k)))
    → ActionIn s at k r
nothing-in s at k r e h =
    rw e (record { answer = h; room = refl })
