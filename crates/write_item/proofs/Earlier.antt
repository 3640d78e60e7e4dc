-- The order of items: nothing comes before itself, what comes before what comes before comes before, and of two that differ one comes before the other; the
-- counts tell which, and where they are the same what they count.
use Prim.Native.Nat.{ℕ, ◌+◌}
use mathlib.Core.Path.{◌≡◌, ap, sym, ◌∙◌}
use mathlib.Core.Bool.{Bool}
use mathlib.Core.List.{List}
use lib.Dec.{ltb}
use Rattle.fields.specs.Field.{u32_at}
use Rattle.encoding.specs.Codes.{many}
use Rattle.encoding.specs.Dictionary.{Before}
use Rattle.encoding.specs.Tests.{Says}
use Rattle.encoding.proofs.DictionaryLaws.{before-not, before-trans, before-total, told_of, number-skipped, number-tells}
use Rattle.cluster.specs.Pairs.{pairs_at, cluster_at}
use Rattle.cluster.proofs.Laws.{cluster-length}
use Rattle.actions.specs.Actions.{actions_at, list_at}
use Rattle.actions.proofs.Laws.{list_length}
use Rattle.write_cluster.specs.Words.{pair_words, cluster_words}
use Rattle.write_list.specs.Words.{action_words, list_words}
use Rattle.write_cluster.proofs.WordLaws.{cluster-words-same}
use Rattle.write_list.proofs.WordLaws.{list-words-same}
use Rattle.lookup_targets.specs.declared.Kind.{Kind}
use Rattle.lookup_targets.specs.declared.Kind.TheVariants.{Clusters, Lists}
use Rattle.write_item.specs.Items.{Item, item_at, item_words, Earlier}

words_same : (kind : Kind) (x y : Item kind) → item_words kind x ≡ item_words kind y → x ≡ y
unfolding item_words
words_same Clusters x y e = cluster-words-same x y e
words_same Lists x y e = list-words-same x y e

pub earlier-not : (kind : Kind) (x : Item kind) → Earlier kind x x → ⊥
unfolding Earlier
earlier-not kind x = before-not (item_words kind x)

pub earlier-trans : (kind : Kind) (x y z : Item kind) → Earlier kind x y → Earlier kind y z → Earlier kind x z
unfolding Earlier
earlier-trans kind x y z = before-trans (item_words kind x) (item_words kind y) (item_words kind z)

pub earlier-total : (kind : Kind) (x y : Item kind) → (Earlier kind x y → ⊥) → (x ≡ y → ⊥) → Earlier kind y x
unfolding Earlier
earlier-total kind x y p n = before-total (item_words kind x) (item_words kind y) p (λ e. n (words_same kind x y e))

-- two items with other counts: the lower count comes before the other
pub counts-tell : (kind : Kind) (t : List ℕ) (p q m n : ℕ) → m ≡ u32_at t p → n ≡ u32_at t q → (m ≡ n → ⊥)
    → Says (ltb m n) (Earlier kind (item_at kind t p) (item_at kind t q))
unfolding Earlier item_words item_at cluster_words list_words
counts-tell Clusters t p q m n e f d =
    number-tells (e ∙ sym (cluster-length t p)) (f ∙ sym (cluster-length t q)) (many pair_words (cluster_at t p)) (many pair_words (cluster_at t q)) d
counts-tell Lists t p q m n e f d =
    number-tells (e ∙ sym (list_length t p)) (f ∙ sym (list_length t q)) (many action_words (list_at t p)) (many action_words (list_at t q)) d

-- two clusters with one count: their pairs tell it
pub pairs-tell : (t : List ℕ) (p q m n : ℕ) (r : Bool) → m ≡ u32_at t p → n ≡ u32_at t q → m ≡ n
    → Says r (Before (many pair_words (pairs_at t m (p + 4))) (many pair_words (pairs_at t m (q + 4))))
    → Says r (Earlier Clusters (item_at Clusters t p) (item_at Clusters t q))
unfolding Earlier item_words item_at cluster_words cluster_at
pairs-tell t p q m n r e f d s =
    number-skipped (e ∙ sym (cluster-length t p)) (f ∙ sym (cluster-length t q)) (many pair_words (cluster_at t p)) (many pair_words (cluster_at t q)) r d
    (told_of (many pair_words) r (ap (λ (k : ℕ). pairs_at t k (p + 4)) e) (ap (λ (k : ℕ). pairs_at t k (q + 4)) (d ∙ f)) s)

-- two lists with one count: their actions tell it
pub actions-tell : (t : List ℕ) (p q m n : ℕ) (r : Bool) → m ≡ u32_at t p → n ≡ u32_at t q → m ≡ n
    → Says r (Before (many action_words (actions_at t m (p + 4))) (many action_words (actions_at t m (q + 4))))
    → Says r (Earlier Lists (item_at Lists t p) (item_at Lists t q))
unfolding Earlier item_words item_at list_words list_at
actions-tell t p q m n r e f d s =
    number-skipped (e ∙ sym (list_length t p)) (f ∙ sym (list_length t q)) (many action_words (list_at t p)) (many action_words (list_at t q)) r d
    (told_of (many action_words) r (ap (λ (k : ℕ). actions_at t k (p + 4)) e) (ap (λ (k : ℕ). actions_at t k (q + 4)) (d ∙ f)) s)
