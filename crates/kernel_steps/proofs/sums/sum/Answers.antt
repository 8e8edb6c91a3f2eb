use Rattle.std.proofs.Common.{◌+ℤ◌, rules, w64}
use Rattle.std.proofs.lemmas.Int.{to_z-of_z}
use mir.Val.{SFits}
use Rattle.kernel_steps.proofs.Numbers.{some_long, no_long}
use Rattle.kernel_steps.proofs.sums.sum.Goals as goal

pub returns-in-Some : goal.returns-in-Some
returns-in-Some c =
    let f : SFits w64 c.args.m = search rules in
    let g : SFits w64 c.args.n = search rules in
    let h : SFits w64 c.in-Some.all = search rules in
    simp to_z-of_z (some_long c.in-Some.all (c.args.m +ℤ c.args.n) (simp to_z-of_z at c.in-Some.ensures))

pub returns-in-None : goal.returns-in-None
returns-in-None c =
    let f : SFits w64 c.args.m = search rules in
    let g : SFits w64 c.args.n = search rules in
    no_long (c.args.m +ℤ c.args.n) (simp to_z-of_z at c.in-None.ensures)
