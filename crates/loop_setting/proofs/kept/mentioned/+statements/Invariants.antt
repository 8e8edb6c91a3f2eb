use Rattle.std.proofs.Common.{◌≡◌, drop}
use Rattle.java_ast.specs.Reading.{statements}
use Rattle.loop_setting.specs.Listed.{IsListed}
use Rattle.java_ast.specs.Names.{with_names, mentioned_among, names_lent}
use Rattle.loop_setting.proofs.kept.mentioned.+statements.Given as goal

abbrev pub invariant-put_all_mentioned-loop-s : goal.invariant-put_all_mentioned-loop-s
invariant-put_all_mentioned-loop-s l = IsListed l.list × (with_names (names_lent l.list.names) (mentioned_among (statements (drop l.s-index l.block))) ≡ with_names (names_lent l.fn.list.names) (mentioned_among (statements l.block)))
