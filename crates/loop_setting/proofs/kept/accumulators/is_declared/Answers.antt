use Rattle.std.proofs.Common.{◌∙◌}
use Rattle.java_ast.specs.Reading.{statements}
use Rattle.loop_setting.proofs.Updated.{declared_where}
use Rattle.loop_setting.proofs.kept.accumulators.is_declared.Goals as goal

pub returns : goal.returns
returns c = c.has.ensures ∙ declared_where c.args.f.now.types.now c.args.f.now.visible.now (statements c.args.f.now.run.now) c.args.x.now c.args.f.now.scoped
