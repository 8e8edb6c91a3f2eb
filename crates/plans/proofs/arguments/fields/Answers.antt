use Rattle.std.proofs.Common.{◌≡◌, ◌<◌, length, subst, arith, add-one, None, Some, Option}
use Rattle.qbs_base.specs.declared.scalar.Scalar.{Scalar}
use Rattle.java_ast.specs.Reading.{param}
use Rattle.plans.specs.Words.{IsTaken}
use Rattle.plans.proofs.Called.{taking_on, taking_stops, taking_ends}
use Rattle.plans.proofs.arguments.fields.Goals as goal

pub returns-in-None : goal.returns-in-None
returns-in-None c =
    let few : c.loop-i.i < length c.args.words.now = omega (arith, c.requires, c.loop-i-test.true) in
    let taken : IsTaken None (param c.index-params-i.result) c.index-words-i.result = subst (λ (o : Option Scalar). IsTaken o (param c.index-params-i.result) c.index-words-i.result) c.in-None.is c.in_ok-x.ensures in
    taking_stops c.args.params.now c.args.words.now c.loop-i.i c.loop-i.taken c.index-params-i.result c.index-words-i.result c.loop-i-test.true c.index-params-i.is few c.index-words-i.is taken c.loop-i.invariant

pub loop-i-preserved : goal.loop-i-preserved
loop-i-preserved c =
    let few : c.loop-i.i < length c.args.words.now = omega (arith, c.requires, c.loop-i-test.true) in
    let taken : IsTaken (Some c.in-Some.x) (param c.index-params-i.result) c.index-words-i.result = subst (λ (o : Option Scalar). IsTaken o (param c.index-params-i.result) c.index-words-i.result) c.in-Some.is c.in_ok-x.ensures in
    rw add-one (taking_on c.args.params.now c.args.words.now c.loop-i.i c.loop-i.taken c.push.new.self c.index-params-i.result c.index-words-i.result c.in-Some.x c.in_ok-push-in-Some.ensures.ok c.loop-i-test.true c.index-params-i.is few c.index-words-i.is taken c.loop-i.invariant)

pub returns : goal.returns
returns c =
    let all : c.loop-i.i ≡ length c.args.params.now = omega (arith, c.loop-i-test.false, c.loop-i.auto.i-end) in
    taking_ends c.args.params.now c.args.words.now c.loop-i.i c.loop-i.taken all c.requires c.loop-i.invariant
