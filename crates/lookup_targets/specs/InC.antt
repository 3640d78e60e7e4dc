-- A kind as a number, for programs in C and other languages.
use Rattle.std.specs.Prelude.{ℕ, cond, eqb}
use Rattle.lookup_targets.specs.declared.Kind.{Kind}
use Rattle.lookup_targets.specs.declared.Kind.TheVariants.{Clusters, Lists}

-- 0 is the width lookup, any other number the action lookup
abbrev pub kind_in : ℕ → Kind
kind_in n = cond (eqb n 0) Clusters Lists
