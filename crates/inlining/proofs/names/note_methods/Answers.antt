use Rattle.std.proofs.Common.{◌≡◌, ◌+◌, List, drop, map, subst}
use Rattle.std.specs.List.{flat_map}
use Rattle.java_ast.specs.declared.tree.Method.{Method}
use Rattle.java_ast.specs.Reading.{method}
use Rattle.java_calls.specs.ProgramNames.{method_names}
use Rattle.call_rules.proofs.Numbers.{drop_item}
use Rattle.inlining.specs.Endings.{all_noted}
use Rattle.inlining.proofs.Noted.{one_listed}
use Rattle.inlining.proofs.names.note_methods.Goals as goal

pub loop-m-preserved : goal.loop-m-preserved
loop-m-preserved c =
    one_listed (method_names (method c.m-item.result)) (flat_map method_names (map method (drop (c.loop-m.m-index + 1) c.args.methods.now))) c.loop-m.tails c.note_method.new.tails (all_noted c.args.tails.now (flat_map method_names (map method c.args.methods.now))) c.in_ok-note_method.ensures
    (subst (λ (l : List Method). all_noted c.loop-m.tails (flat_map method_names (map method l)) ≡ all_noted c.args.tails.now (flat_map method_names (map method c.args.methods.now))) (drop_item c.args.methods.now c.loop-m.m-index c.m-item.result c.loop-m-test.true c.m-item.is) c.loop-m.invariant)
