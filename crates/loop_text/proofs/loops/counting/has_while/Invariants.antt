use Rattle.std.proofs.Common.{◌≡◌, drop, map}
use Rattle.std.specs.List.{list_any}
use Rattle.loop_text.specs.Kernel.KernelLoop.{is_while}
use Rattle.loop_text.specs.Sites.Reading.{site_of}
use Rattle.loop_text.specs.Sites.Sites.{Site}
use Rattle.loop_text.proofs.loops.counting.has_while.Given as goal

abbrev pub invariant-loop-s : goal.invariant-loop-s
invariant-loop-s l = list_any (λ (s : Site). is_while s.statement) (map site_of (drop l.s-index l.all)) ≡ list_any (λ (s : Site). is_while s.statement) (map site_of l.all)
