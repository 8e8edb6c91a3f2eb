use Rattle.std.proofs.Common.{◌≡◌, drop, None}
use Rattle.std.specs.Option.{option_map}
use Rattle.java_ast.specs.Reading.{statements}
use Rattle.loop_text.specs.Kernel.KernelLists.{source_past}
use Rattle.loop_text.specs.Sites.Reading.{source_in_code}
use Rattle.loop_text.proofs.loops.lists.source_past.Given as goal

abbrev pub invariant-loop-s : goal.invariant-loop-s
invariant-loop-s l = source_past l.x (option_map source_in_code l.o) (statements (drop l.s-index l.run)) ≡ source_past l.x None (statements l.run)
