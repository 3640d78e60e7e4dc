-- Entries, width records and actions are compared field by field (document 01, "The sheet": what is distinct).
use Rattle.std.specs.Prelude.{ℕ, ◌≡◌, refl, get_or, drop}
use Rattle.std.proofs.Common.{sym, ap, ◌∙◌}
use mathlib.Core.List.{List, [], ◌∷◌, List-discrete}
use Rattle.std.proofs.Math.Decide.{ℕ_discrete}
use Rattle.types.specs.declared.Entry.{Entry}
use Rattle.types.specs.declared.Pair.{Pair}
use Rattle.meaning.specs.Meaning.{Action}

-- things that can be told from the numbers that they are made of
by-numbers : {A : Type 0} (f : A → List ℕ) (g : List ℕ → A) → ((a : A) → g (f a) ≡ a) → Discrete A
by-numbers f g r = λ a b. go a b (List-discrete ℕ_discrete (f a) (f b))
  where
    go : (a b : _) → Dec (f a ≡ f b) → Dec (a ≡ b)
    go a b (yes p) = yes (sym (r a) ∙ ap g p ∙ r b)
    go a b (no p) = no (λ e. p (ap f e))

pub Entry-discrete : Discrete Entry
Entry-discrete =
    by-numbers (λ (e : Entry). e.row ∷ e.flags ∷ []) (λ (l : List ℕ). record { row = get_or l 0 0; flags = get_or l 1 0 }) (λ (e : Entry). refl)

pub Pair-discrete : Discrete Pair
Pair-discrete =
    by-numbers
    (λ (p : Pair). p.class ∷ p.before.grow ∷ p.before.shrink ∷ p.after.grow ∷ p.after.shrink ∷ p.flags.grow ∷ p.flags.shrink ∷ [])
    (λ (l : List ℕ). record {
      class = get_or l 0 0;
      before = record { grow = get_or l 1 0; shrink = get_or l 2 0 };
      after = record { grow = get_or l 3 0; shrink = get_or l 4 0 };
      flags = record { grow = get_or l 5 0; shrink = get_or l 6 0 };
    })
    (λ (p : Pair). refl)

pub Action-discrete : Discrete Action
Action-discrete =
    by-numbers (λ (a : Action). a.class ∷ a.ty ∷ a.content) (λ (l : List ℕ). record { class = get_or l 0 0; ty = get_or l 1 0; content = drop 2 l })
    (λ (a : Action). refl)

pub cluster-discrete : Discrete (List Pair)
cluster-discrete = List-discrete Pair-discrete

pub list-discrete : Discrete (List Action)
list-discrete = List-discrete Action-discrete
