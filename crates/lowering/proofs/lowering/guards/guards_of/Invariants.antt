use Rattle.std.proofs.Common.{◌≡◌, ◌+◌, ◌++◌, drop, map}
use Rattle.kernel_lang.specs.Plain.{guard_of}
use Rattle.lowering.specs.InCode.Contexts.{numbers_given, setting_given}
use Rattle.java_loops.specs.Lowering.Lowered.{guards_from}
use Rattle.loop_text.specs.Sites.Reading.{round_of}
use Rattle.lowering.proofs.lowering.guards.guards_of.Given as goal

abbrev pub invariant-loop-level : goal.invariant-loop-level
invariant-loop-level l = map guard_of l.guards ++ guards_from (setting_given l.context) (numbers_given l.context) (round_of l.r) (l.level + 1) (drop l.level l.r.loops) ≡ guards_from (setting_given l.context) (numbers_given l.context) (round_of l.r) 1 l.r.loops
