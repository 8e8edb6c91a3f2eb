use Rattle.java_ast.specs.Names.{names_lent}
use Rattle.lowering.specs.InCode.Reading.{setting_in_code}
use Rattle.lowering.proofs.Ruled.LoweredCounts.{many_loops}
use Rattle.lowering.proofs.rules.k8_sizes.counted.Goals as goal

pub returns-else-parts_are_few : goal.returns-else-parts_are_few
returns-else-parts_are_few c = many_loops (setting_in_code c.args.w.now) (names_lent c.args.accs.now) c.parts_are_few.result c.requires.accs c.parts_are_few.ensures c.if-parts_are_few.false
