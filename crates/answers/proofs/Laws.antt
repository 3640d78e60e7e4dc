-- What the answers say: no two answers to one question say the same, and an action in its room is that action.
use Rattle.std.proofs.Common.{◌≡◌, ℕ, ◌-◌, List, length, replicate, Option, Some, None, Result, Ok, Err, ap, ap₂, ◌∙◌, arith}
use lib.Seq.{take-append_seam}
use Rattle.fields.specs.declared.Fault.{Fault}
use Rattle.fields.specs.Refusals.{one_number}
use Rattle.fields.proofs.Laws.{one-fault}
use Rattle.types.specs.declared.Entry.{Entry}
use Rattle.types.specs.declared.Pair.{Pair}
use Rattle.types.specs.declared.HeldAction.{HeldAction}
use Rattle.meaning.specs.Meaning.{Action}
use Rattle.meaning.specs.Ask.{Answer, nothing, held}
use Rattle.answers.specs.declared.Sizes.{Sizes}
use Rattle.answers.specs.Says.{says, action_held, says_count, says_sizes, says_class, says_cell, says_record}

-- no two parts have the same words, and none has those for nothing
pub one-says : {A : Type 0} (in_words : A → Answer) → ((x y : A) → in_words x ≡ in_words y → x ≡ y) → ((x : A) → in_words x ≡ nothing → ⊥)
    → (a b : Result (Option A) Fault) → says in_words a ≡ says in_words b → a ≡ b
one-says w one some (Ok (Some x)) (Ok (Some y)) i = let e : w x ≡ w y = cc in ap (λ z. Ok (Some z)) (one x y e)
one-says w one some (Ok (Some x)) (Ok None) i = let e : w x ≡ nothing = cc in absurd (some x e)
one-says w one some (Ok (Some x)) (Err g) i = cc
one-says w one some (Ok None) (Ok (Some y)) i = let e : w y ≡ nothing = cc in absurd (some y e)
one-says w one some (Ok None) (Ok None) i = cc
one-says w one some (Ok None) (Err g) i = cc
one-says w one some (Err f) (Ok (Some y)) i = cc
one-says w one some (Err f) (Ok None) i = cc
one-says w one some (Err f) (Err g) i = ap Err (one-fault f g (one_number f.refusal g.refusal (cc)) (cc))

pub one-count : (a b : Result ℕ Fault) → says_count a ≡ says_count b → a ≡ b
one-count (Ok n) (Ok m) i = cc
one-count (Ok n) (Err g) i = cc
one-count (Err f) (Ok m) i = cc
one-count (Err f) (Err g) i = ap Err (one-fault f g (one_number f.refusal g.refusal (cc)) (cc))

pub one-sizes : (a b : Result (Option Sizes) Fault) → says_sizes a ≡ says_sizes b → a ≡ b
one-sizes (Ok (Some x)) (Ok (Some y)) i =
    let r : x.rows ≡ y.rows = cc in
    let c : x.classes ≡ y.classes = cc in
    ap (λ (s : Sizes). Ok (Some s)) (ap₂ (λ (m n : ℕ). record { rows = m; classes = n }) r c)
one-sizes (Ok (Some x)) (Ok None) i = cc
one-sizes (Ok (Some x)) (Err g) i = cc
one-sizes (Ok None) (Ok (Some y)) i = cc
one-sizes (Ok None) (Ok None) i = cc
one-sizes (Ok None) (Err g) i = cc
one-sizes (Err f) (Ok (Some y)) i = cc
one-sizes (Err f) (Ok None) i = cc
one-sizes (Err f) (Err g) i = ap Err (one-fault f g (one_number f.refusal g.refusal (cc)) (cc))

pub one_class : (a b : Result (Option ℕ) Fault) → says_class a ≡ says_class b → a ≡ b
one_class = one-says _ (λ x y e. cc) (λ x e. cc)

pub one_cell : (a b : Result (Option Entry) Fault) → says_cell a ≡ says_cell b → a ≡ b
one_cell = one-says _ (λ x y e. cc) (λ x e. cc)

pub one-record : (a b : Result (Option Pair) Fault) → says_record a ≡ says_record b → a ≡ b
one-record = one-says _ (λ x y e. cc) (λ x e. cc)

-- an action in its room is that action
pub held-is : (a : Action) {h : HeldAction} → h ≡ held a → action_held h ≡ a
held-is a {h} e =
    ap action_held e
    ∙ ap (λ (l : List ℕ). record { class = a.class; ty = a.ty; content = l }) (take-append_seam a.content (replicate (76 - length a.content) 0))
