-- The words of a cluster tell it, and which of two pairs comes earlier is told by their first fields that differ.
use mathlib.Core.Path.{◌≡◌}
use mathlib.Core.List.{List, ◌++◌, head-eq_of_cons-eq, tail-eq_of_cons-eq}
use Rattle.encoding.specs.Dictionary.{listed, Free}
use Rattle.encoding.proofs.DictionaryLaws.{listed_free, words_same}
use Rattle.types.specs.declared.Pair.{Pair}
use Rattle.write_cluster.specs.Words.{limits_words, flags_words, after_words, pair_words, cluster_words}

pub limits-free : Free limits_words
limits-free a b s t p q e =
    let f = tail-eq_of_cons-eq e in
    ((λ i. record { grow = head-eq_of_cons-eq e i; shrink = head-eq_of_cons-eq f i }), tail-eq_of_cons-eq f)

flags-free : Free flags_words
flags-free a b s t p q e =
    let f = tail-eq_of_cons-eq e in
    ((λ i. record { grow = head-eq_of_cons-eq e i; shrink = head-eq_of_cons-eq f i }), tail-eq_of_cons-eq f)

pub pair-free : Free pair_words
pair-free a b s t p q e =
    let f = limits-free a.before b.before (after_words a ++ s) (after_words b ++ t) tt tt (tail-eq_of_cons-eq e) in
    let g = limits-free a.after b.after (flags_words a.flags ++ s) (flags_words b.flags ++ t) tt tt f.1 in
    let h = flags-free a.flags b.flags s t tt tt g.1 in
    ((λ i. record { class = head-eq_of_cons-eq e i; before = f.0 i; after = g.0 i; flags = h.0 i }), h.1)

pub cluster-words-same : (x y : List Pair) → cluster_words x ≡ cluster_words y → x ≡ y
unfolding cluster_words
cluster-words-same x y e = words_same (listed pair_words) (listed_free pair_words pair-free) x y e
