-- The class table of a machine as the code holds it: what `class_at` reads of its head.
use Rattle.std.specs.Prelude.{ℕ, ◌+◌, ◌<◌, ◌^◌, ◌≡◌, List}
use Rattle.fields.specs.Field.{u16_at}
use Rattle.machine.specs.declared.ClassTable.{ClassTable}
use Rattle.machine.specs.Cells.{class_table}

-- its fields are as small as those of a table are
pub record Near (c : ClassTable) : Type 0 where
  pub at : c.at < 2 ^ 33
  pub first : c.first < 2 ^ 16
  pub count : c.count < 2 ^ 16

-- the class table of the machine at `here`
pub record ClassesAt (t : List ℕ) (here : ℕ) (c : ClassTable) : Type 0 where
  pub at : c.at ≡ class_table t here
  pub first : c.first ≡ u16_at t (class_table t here)
  pub count : c.count ≡ u16_at t (class_table t here + 2)
  pub near : Near c
