use Rattle.std.proofs.Common.{◌≡◌, drop}
use Rattle.java_ast.specs.Reading.{expressions}
use Rattle.loop_setting.specs.Listed.{IsListed}
use Rattle.java_ast.specs.Names.{with_names, names_among, names_lent}
use Rattle.loop_setting.proofs.kept.mentioned.+names.Given as goal

abbrev pub invariant-put_all_names-loop-e : goal.invariant-put_all_names-loop-e
invariant-put_all_names-loop-e l = IsListed l.list × (with_names (names_lent l.list.names) (names_among (expressions (drop l.e-index l.es))) ≡ with_names (names_lent l.fn.list.names) (names_among (expressions l.es)))
