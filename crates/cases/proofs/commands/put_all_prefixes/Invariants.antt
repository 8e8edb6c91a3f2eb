use Rattle.std.proofs.Common.{◌++◌, codes}
use Rattle.std.specs.String.{string_bytes}
use Rattle.cases.specs.Answers.{Extends}
use Rattle.cases.proofs.commands.put_all_prefixes.Given as goal

abbrev pub invariant-loop-command : goal.invariant-loop-command
invariant-loop-command l = Extends (string_bytes l.fn.out ++ codes "==== prefixes\n") (string_bytes l.out)
