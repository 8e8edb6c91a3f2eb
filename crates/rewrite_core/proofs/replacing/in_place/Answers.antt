use Rattle.std.proofs.Common.{◌≡◌, subst}
use Rattle.java_ast.specs.Path.{and_then}
use Rattle.java_ast.specs.Reading.{statements}
use Rattle.loop_text.specs.Statements.KeptStatements.{with_numbers}
use Rattle.java_ast.specs.Names.{Names}
use Rattle.rewrite_core.specs.LoopWithCandidate.{looped_in_code, asked_from, AreValidFrom}
use Rattle.rewrite_core.proofs.Pushed.{behind_kept}
use Rattle.rewrite_core.proofs.replacing.in_place.Goals as goal

pub returns-clause-exact : goal.returns-clause-exact
returns-clause-exact c schema read z w is there =
    behind_kept (looped_in_code c.args.l) (statements c.in_ok-all.all.items) (with_numbers c.args.l.lowered.now.kept c.args.l.lowered.now.first w.fragment.run) (statements c.push_asks.new.all.items) c.args.l.lowered.now.names
    (subst (λ (xs : Names). statements c.push_asks.new.all.items ≡ and_then (statements c.in_ok-all.all.items) (asked_from (looped_in_code c.args.l) 0 xs)) c.as_slice.ensures c.in_ok-push_asks.ensures.exact)
    (c.in_ok-all.ensures.kept schema read z w is there)

pub returns-clause-valid : goal.returns-clause-valid
returns-clause-valid c = subst (AreValidFrom (looped_in_code c.args.l) 0) c.as_slice.ensures c.in_ok-push_asks.ensures.valid
