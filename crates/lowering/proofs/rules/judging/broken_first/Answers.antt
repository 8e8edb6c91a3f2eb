use Rattle.std.specs.Option.{option_map}
use Rattle.std.proofs.Common.{ap, ◌∙◌}
use Rattle.loop_places.specs.FirstBroken.{first_broken}
use Rattle.lowering.specs.Lowers.{broken_in_code}
use Rattle.lowering.specs.InCode.Reading.{setting_in_code}
use Rattle.java_loops.specs.Kernel.KernelLists.{broken_lists, broken_depth}
use Rattle.java_loops.specs.Kernel.KernelLoop.{broken_loop}
use Rattle.java_loops.specs.Kernel.KernelStatements.{broken_statements}
use Rattle.lowering.proofs.Ruled.Judged.{rules_are}
use Rattle.lowering.proofs.rules.judging.broken_first.Goals as goal

pub returns : goal.returns
returns c =
    let w = setting_in_code c.args.w.now in
    ap (option_map broken_in_code) c.first_broken.ensures
    ∙ (λ i. option_map broken_in_code (first_broken (c.broken_loop.ensures i) (c.broken_lists.ensures i) (c.broken_depth.ensures i) (c.broken_statements.ensures i)))
    ∙ rules_are (broken_loop w) (broken_lists w) (broken_depth w) (broken_statements w)
