use Rattle.std.proofs.Common.{◌≡◌, drop}
use Rattle.std.specs.Option.{option_map, option_copied}
use Rattle.java_ast.specs.Reading.{spelled, statements}
use Rattle.java_loops.specs.Lowering.Spelling.{spelled_past}
use Rattle.rewrite_core.proofs.spelling.spelled_past.Given as goal

abbrev pub invariant-loop-s : goal.invariant-loop-s
invariant-loop-s l = spelled_past l.x (option_map spelled (option_copied l.ty)) (statements (drop l.s-index l.block)) ≡ spelled_past l.x (option_map spelled (option_copied l.fn.before)) (statements l.block)
