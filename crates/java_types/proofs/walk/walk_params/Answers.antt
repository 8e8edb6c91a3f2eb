use Rattle.std.proofs.Common.{◌∙◌, ◌+◌, ap, drop}
use Rattle.std.specs.Option.{option_map}
use Rattle.java_ast.specs.Reading.{spelled}
use Rattle.java_mean.specs.Visible.{declared_in}
use Rattle.java_types.specs.Texts.{read_by}
use Rattle.java_types.proofs.Passed.{next_item, param_walked, with_param}
use Rattle.java_types.proofs.walk.walk_params.Goals as goal

pub loop-p-preserved : goal.loop-p-preserved
loop-p-preserved c =
    let next = next_item c.args.params.now c.loop-p.p-index c.p-item.result c.loop-p-test.true c.p-item.is in
    let seen = c.in_ok-declare.ensures ∙ ap (declared_in c.loop-p.scope c.p-item.result.name) c.type_spelled.ensures in
    record {
      so_far =
          param_walked c.args.schema.now (read_by c.args.schema.now) (option_map spelled c.args.result_type.now) c.loop-p.scope c.declare.new.self c.args.at c.p-item.result (drop (c.loop-p.p-index + 1) c.args.params.now) (drop c.loop-p.p-index c.args.params.now) c.loop-p.kept c.at_param.new.kept next seen c.at_param.ensures
          ∙ c.loop-p.invariant.so_far;
      visible =
          with_param c.args.schema.now c.loop-p.scope c.declare.new.self c.p-item.result (drop (c.loop-p.p-index + 1) c.args.params.now) (drop c.loop-p.p-index c.args.params.now) next seen
          ∙ c.loop-p.invariant.visible;
    }
