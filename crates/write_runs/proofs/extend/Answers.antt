-- `write_runs::extend` meets its contract.
use Rattle.write_runs.proofs.Stretch.{extended-new, extended-same}
use Rattle.encoding.specs.Tests.{Says}
use lib.ListN.{get_or}
use mathlib.Core.Bool.{Bool}
use mathlib.Core.Path.{◌≡◌, subst}
use Prim.Native.Nat.{◌-◌, ◌<◌}
use Rattle.write_runs.proofs.extend.Goals as goal

pub returns-then-goes_on : goal.returns-then-goes_on
returns-then-goes_on c = λ g r h.
    let a = c.args in
    let w = subst (λ (b : Bool). Says b ((0 < a.m) × (get_or a.nums.now (a.m - 1) 0 ≡ a.number))) c.if-goes_on.true c.goes_on.ensures in
    extended-same a.ends.now a.nums.now a.m g a.end a.number c.requires.0 c.requires.1 r h w.0 w.1

pub returns : goal.returns
returns c = λ g r h.
    let a = c.args in
    let w = subst (λ (b : Bool). Says b ((0 < a.m) × (get_or a.nums.now (a.m - 1) 0 ≡ a.number))) c.if-goes_on.false c.goes_on.ensures in
    extended-new a.ends.now a.nums.now a.m g a.end a.number c.requires.0 c.requires.1 r h w
