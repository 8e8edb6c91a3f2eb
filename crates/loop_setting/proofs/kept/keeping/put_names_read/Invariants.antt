use Rattle.std.proofs.Common.{◌≡◌, drop}
use Rattle.loop_setting.specs.Listed.{IsListed}
use Rattle.java_ast.specs.Names.{names_read, with_names, names_lent}
use Rattle.loop_text.specs.Sites.Reading.{exprs_lent}
use Rattle.loop_setting.proofs.kept.keeping.put_names_read.Given as goal

abbrev pub invariant-loop-e : goal.invariant-loop-e
invariant-loop-e l = IsListed l.list × (with_names (names_lent l.list.names) (names_read (exprs_lent (drop l.e-index l.entries))) ≡ with_names (names_lent l.fn.list.names) (names_read (exprs_lent l.entries)))
