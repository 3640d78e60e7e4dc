-- What is not read of an action's data, as it is written: the flags of type 5, which are zero.
use Rattle.std.specs.Prelude.{ℕ, cond, eqb, List, [], ◌∷◌}

abbrev pub left_out : ℕ → List ℕ
left_out ty = cond (eqb ty 5) (0 ∷ 0 ∷ []) []
