use Rattle.std.proofs.lemmas.Result.{on_ok_weaker}
use Rattle.java_ast.specs.Reading.{statements}
use Rattle.rewrite_core.specs.LoopWithCandidate.{looped_in_code}
use Rattle.rewrite_core.proofs.Pushed.{push_end, push_all, end_valid, all_valid}
use Rattle.rewrite_core.proofs.asking.+push_asks.Goals as goal

pub returns-in_default-clause-exact : goal.returns-in_default-clause-exact
returns-in_default-clause-exact t c = push_end (looped_in_code c.args.l) c.args.k c.args.names.now (statements c.args.all.now.items) c.in_default.ensures.cases

pub returns-in_default-clause-valid : goal.returns-in_default-clause-valid
returns-in_default-clause-valid t c = end_valid (looped_in_code c.args.l) c.args.k c.args.names.now c.in_default.ensures.cases

pub returns-clause-exact : goal.returns-clause-exact
returns-clause-exact t c =
    on_ok_weaker c.push_asks.result
    (push_all (looped_in_code c.args.l) c.args.k c.in-Some-checked_add.next c.in-Some.x.now c.args.names.now c.in-Some.rest.now (statements c.args.all.now.items) (statements c.push_ask.new.all.items) (statements c.push_asks.new.all.items)
    c.in-Some.ensures.cases.0 c.in-Some-checked_add.ensures.1 c.in_ok-push_ask.ensures.exact)
    c.push_asks.ensures.exact

pub returns-clause-valid : goal.returns-clause-valid
returns-clause-valid t c =
    on_ok_weaker c.push_asks.result
    (all_valid (looped_in_code c.args.l) c.args.k c.in-Some-checked_add.next c.in-Some.x.now c.args.names.now c.in-Some.rest.now c.in-Some.ensures.cases.0 c.in-Some-checked_add.ensures.1 c.in_ok-push_ask.ensures.valid)
    c.push_asks.ensures.valid
