use Rattle.std.proofs.Common.{◌≡◌, drop}
use Rattle.java_ast.specs.Reading.{statements}
use Rattle.loop_setting.specs.Listed.{IsListed}
use Rattle.java_ast.specs.Names.{with_names, names_lent}
use Rattle.loop_setting.specs.Reading.{fragment_in_code}
use Rattle.loop_text.specs.Statements.Wanted.{mentioned_by_visible}
use Rattle.loop_setting.proofs.kept.keeping.put_all_visible.Given as goal

abbrev pub invariant-loop-s : goal.invariant-loop-s
invariant-loop-s l = IsListed l.list × (with_names (names_lent l.list.names) (mentioned_by_visible (fragment_in_code l.f) (statements (drop l.s-index l.f.run.now))) ≡ with_names (names_lent l.fn.list.names) (mentioned_by_visible (fragment_in_code l.f) (statements l.f.run.now)))
