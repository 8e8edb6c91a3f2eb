use Rattle.std.proofs.Common.{◌≡◌, subst}
use Rattle.java_ast.specs.Reading.{statement, statements}
use Rattle.kernel_lang.specs.Plain.{accumulator}
use Rattle.sql_emit.specs.declared.emission.Emitted.{Emitted}
use Rattle.sql_emit.specs.Reading.{emission_of}
use Rattle.rewrite_core.specs.LoopWithCandidate.{looped_in_code, statement_for}
use Rattle.rewrite_core.proofs.Pushed.{push_none, push_some, none_valid, some_valid}
use Rattle.rewrite_core.proofs.asking.push_ask.Goals as goal

pub returns-in-None-clause-exact : goal.returns-in-None-clause-exact
returns-in-None-clause-exact c = push_none (looped_in_code c.args.l) c.args.k c.args.x.now (statements c.args.all.now.items) c.in-None.ensures.found

pub returns-in-None-clause-valid : goal.returns-in-None-clause-valid
returns-in-None-clause-valid c = none_valid (looped_in_code c.args.l) c.args.k c.in-None.ensures.found

pub returns-in_ok-push-in-Some-clause-exact : goal.returns-in_ok-push-in-Some-clause-exact
returns-in_ok-push-in-Some-clause-exact c =
    push_some (looped_in_code c.args.l) c.args.k c.args.x.now (accumulator c.in-Some.acc.now) (emission_of c.in_ok-e-in-Some.e.value) c.args.all.now.items c.push.new.self.items c.in_ok-statement_for-in-Some.field-0
    c.in-Some.ensures.found c.in_ok-e-in-Some.ensures.exact
    (subst (λ (z : Emitted). statement c.in_ok-statement_for-in-Some.field-0 ≡ statement_for (looped_in_code c.args.l) c.args.x.now c.in-Some.acc.now.update (emission_of z)) c.deref.ensures c.in_ok-statement_for-in-Some.ensures)
    c.in_ok-push-in-Some.ensures.items

pub returns-in_ok-push-in-Some-clause-valid : goal.returns-in_ok-push-in-Some-clause-valid
returns-in_ok-push-in-Some-clause-valid c = some_valid (looped_in_code c.args.l) c.args.k (emission_of c.in_ok-e-in-Some.e.value) c.in_ok-e-in-Some.ensures.exact c.in_ok-e-in-Some.ensures.grammar
