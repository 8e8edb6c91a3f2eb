use Rattle.std.proofs.Common.{◌≡◌, drop, map}
use Rattle.java_ast.specs.Reading.{statement}
use Rattle.loop_setting.specs.Listed.{IsListed}
use Rattle.java_ast.specs.Names.{with_names, names_lent}
use Rattle.loop_text.specs.Statements.Wanted.{mentioned_in_all}
use Rattle.loop_setting.proofs.kept.setters.put_mentioned_in_all.Given as goal

abbrev pub invariant-loop-s : goal.invariant-loop-s
invariant-loop-s l = IsListed l.list × (with_names (names_lent l.list.names) (mentioned_in_all (map (λ s. statement s.now) (drop l.s-index l.all))) ≡ with_names (names_lent l.fn.list.names) (mentioned_in_all (map (λ s. statement s.now) l.all)))
