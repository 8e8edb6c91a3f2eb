use Rattle.std.proofs.Common.{◌≡◌, drop, map}
use Rattle.loop_text.specs.Kernel.KernelStatements.{broken_statement}
use Rattle.loop_text.specs.Sites.Reading.{site_of}
use Rattle.loop_text.specs.Sites.Sites.{first_broken}
use Rattle.lowering.proofs.rules.k4_statements.broken_statements.Given as goal

abbrev pub invariant-loop-n : goal.invariant-loop-n
invariant-loop-n l = first_broken (broken_statement (map site_of l.w.sites.now)) l.n (map site_of (drop l.n l.w.sites.now)) ≡ first_broken (broken_statement (map site_of l.w.sites.now)) 0 (map site_of l.w.sites.now)
