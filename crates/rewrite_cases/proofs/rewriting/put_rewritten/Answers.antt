use Rattle.std.proofs.Common.{sym, subst}
use Rattle.rewrite_core.specs.Output.{IsSourceOf}
use Rattle.rewrite_cases.proofs.rewriting.put_rewritten.Goals as goal

pub put_typed-requires-clause-source : goal.put_typed-requires-clause-source
put_typed-requires-clause-source c = subst (IsSourceOf c.args.source.now) (sym c.in-Ok.ensures.same) c.requires
