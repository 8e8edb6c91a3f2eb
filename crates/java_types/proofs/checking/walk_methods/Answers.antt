use Rattle.std.proofs.Common.{◌∙◌, ◌+◌, drop}
use Rattle.java_types.specs.Texts.{read_by}
use Rattle.java_types.proofs.Passed.{next_item, method_walked}
use Rattle.java_types.proofs.checking.walk_methods.Goals as goal

pub loop-m-preserved : goal.loop-m-preserved
loop-m-preserved c =
    method_walked c.args.schema.now (read_by c.args.schema.now) c.loop-m.names c.declare.new.self c.m-item.result (drop (c.loop-m.m-index + 1) c.args.methods.now) (drop c.loop-m.m-index c.args.methods.now) c.has.result c.loop-m.kept c.walk_method.new.kept
    (next_item c.args.methods.now c.loop-m.m-index c.m-item.result c.loop-m-test.true c.m-item.is)
    c.has.ensures
    c.in_ok-declare.ensures
    c.in_ok-walk_method.ensures
    ∙ c.loop-m.invariant
