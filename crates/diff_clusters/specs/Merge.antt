-- Two clusters of two tables, t and u, merged class by class: what is left of them is the pairs p of t and the pairs q of u.
use Rattle.std.specs.Prelude.{ℕ, suc, ◌+◌, ◌-◌, ◌*◌, ◌≤◌, ◌<◌, ◌≡◌, List, ◌++◌}
use Rattle.fields.specs.Field.{u32_at}
use Rattle.types.specs.declared.Direction.{Direction}
use Rattle.types.specs.declared.Pair.{Pair}
use Rattle.meaning.specs.Limits.{Rising}
use Rattle.cluster.specs.Pairs.{pairs_at}
use Rattle.diff_rule.specs.declared.Aspect.TheVariants.{Width}
use Rattle.diff_rule.specs.Differences.{noted, through, record_differs}
use Rattle.diff_clusters.specs.declared.Pairs.{Pairs}
use Rattle.diff_clusters.specs.declared.MergeStep.{MergeStep}

-- all pairs of the cluster at a place
abbrev pub pairs_in : List ℕ → ℕ → Pairs
pairs_in t place = record { at = place + 4; count = u32_at t place }

-- what they are
abbrev pub left_of : List ℕ → Pairs → List Pair
left_of t p = pairs_at t p.count p.at

-- all but the first
abbrev pub after_first : Pairs → Pairs
after_first p = record { at = p.at + 24; count = p.count - 1 }

-- a step gives the next class of the two and how it differs, and leaves the classes after it
pub record Steps (t u : List ℕ) (p q : Pairs) (r : MergeStep) : Type 0 where
  pub class : r.class < 128
  pub fewer : r.ones.count + r.others.count < p.count + q.count
  pub near : r.ones.at + 24 * r.ones.count ≤ p.at + 24 * p.count
  pub beside : r.others.at + 24 * r.others.count ≤ q.at + 24 * q.count
  pub ones : (i : ℕ) → Rising i (left_of t p) → Rising i (left_of u q) → Rising (suc r.class) (left_of t r.ones)
  pub others : (i : ℕ) → Rising i (left_of t p) → Rising i (left_of u q) → Rising (suc r.class) (left_of u r.others)
  pub next : (d : Direction) (g i n : ℕ) → i + n ≡ 128 → Rising i (left_of t p) → Rising i (left_of u q)
      → through (record_differs d g (left_of t p) (left_of u q)) n i
      ≡ (noted d Width g r.class r.mark
      ++ through (record_differs d g (left_of t r.ones) (left_of u r.others)) (128 - suc r.class) (suc r.class))
