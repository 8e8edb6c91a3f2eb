use Rattle.std.specs.Prelude.{nat_eq}
use Rattle.std.specs.List.{filter}
use Rattle.std.proofs.Common.{◌≡◌, drop, map}
use Rattle.kernel_lang.specs.Plain.{guard_of}
use Rattle.lowering.specs.InCode.Contexts.{numbers_given, setting_given}
use Rattle.java_loops.specs.Lowering.Lowered.{guard_at, guard_joined}
use Rattle.loop_text.specs.Sites.Reading.{round_of, test_of}
use Rattle.loop_text.specs.Sites.Sites.{Test}
use Rattle.lowering.proofs.lowering.guards.guard_at.Given as goal

abbrev pub invariant-loop-t : goal.invariant-loop-t
invariant-loop-t l = guard_joined (setting_given l.context) (numbers_given l.context) (guard_of l.guard) (filter (λ (c : Test). nat_eq c.level l.level) (map test_of (drop l.t-index l.r.tests))) ≡ guard_at (setting_given l.context) (numbers_given l.context) (round_of l.r) l.level
