use Rattle.std.proofs.Common.{◌≡◌, drop}
use Rattle.java_ast.specs.Reading.{statements}
use Rattle.loop_setting.specs.Listed.{IsListed}
use Rattle.java_ast.specs.Names.{updated_among, names_lent}
use Rattle.loop_setting.specs.Reading.{fragment_in_code}
use Rattle.loop_text.specs.Statements.Updated.{outer_with}
use Rattle.loop_setting.proofs.kept.accumulators.+updates.Given as goal

abbrev pub invariant-put_all_updated-loop-s : goal.invariant-put_all_updated-loop-s
invariant-put_all_updated-loop-s l = IsListed l.list × (outer_with (fragment_in_code l.f) (names_lent l.list.names) (updated_among (statements (drop l.s-index l.block))) ≡ outer_with (fragment_in_code l.f) (names_lent l.fn.list.names) (updated_among (statements l.block)))
