use Rattle.std.proofs.Common.{◌≡◌, drop}
use Rattle.java_ast.specs.Reading.{statements}
use Rattle.loop_setting.specs.Reading.{fragment_in_code}
use Rattle.loop_setting.specs.Wanted.{all_dropped}
use Rattle.loop_setting.proofs.kept.keeping.drops_all.Given as goal

abbrev pub invariant-loop-s : goal.invariant-loop-s
invariant-loop-s l = all_dropped (fragment_in_code l.f) (statements (drop l.s-index l.f.run.now)) ≡ all_dropped (fragment_in_code l.f) (statements l.f.run.now)
