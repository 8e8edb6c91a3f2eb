use Rattle.std.proofs.Common.{◌≡◌, ◌++◌, drop}
use Rattle.std.specs.List.{filter}
use Rattle.loop_text.specs.Statements.Fragment.{is_live}
use Rattle.loop_setting.specs.Reading.{fragment_in_code}
use Rattle.java_ast.specs.Names.{names_lent}
use Rattle.loop_setting.proofs.kept.live.live_of_many.Given as goal

abbrev pub invariant-loop-x : goal.invariant-loop-x
invariant-loop-x l = names_lent l.live ++ filter (is_live (fragment_in_code l.f)) (names_lent (drop l.x-index l.names)) ≡ filter (is_live (fragment_in_code l.f)) (names_lent l.names)
