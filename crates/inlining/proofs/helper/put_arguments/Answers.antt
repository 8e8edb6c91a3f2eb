use Rattle.std.proofs.Common.{◌+◌, drop, refl, subst, sym, arith}
use borrow.Author.Tests.{ltb-true, ltb-false}
use Rattle.java_ast.specs.Reading.{spelled, expression, statements}
use Rattle.java_ast.specs.Tree.{Declare, Statements}
use Rattle.java_calls.specs.Renaming.{renamed}
use Rattle.renamed_copies.specs.Renamings.{renaming_of}
use Rattle.inlining.proofs.Arms.{one_full, one_pushed}
use Rattle.inlining.proofs.Arguments.{PutSoFar, put_none, put_next, put_full, put_done, rest_given, rest_next, rest_none, rest_all}
use Rattle.inlining.proofs.helper.put_arguments.Goals as goal

pub loop-i-init : goal.loop-i-init
loop-i-init c = put_none (rest_given c.args.span (renaming_of c.args.g.now) c.args.params.now (renaming_of c.args.f.now) c.args.arguments.now) c.args.counts.now (statements c.args.out.now.items)

pub returns-in-None : goal.returns-in-None
returns-in-None c =
    put_done (rest_given c.args.span (renaming_of c.args.g.now) c.args.params.now (renaming_of c.args.f.now) c.args.arguments.now)
    (rest_given c.args.span (renaming_of c.args.g.now) (drop c.loop-i.i c.args.params.now) (renaming_of c.args.f.now) (drop c.loop-i.i c.args.arguments.now)) c.args.counts.now c.loop-i.counts (statements c.args.out.now.items) (statements c.loop-i.out.items)
    (rest_none c.args.span (renaming_of c.args.g.now) (renaming_of c.args.f.now) c.args.params.now c.args.arguments.now c.loop-i.i (ltb-false _ _ (sym c.in-None.ensures.lookup.0))) c.loop-i.invariant

pub returns-in-Full : goal.returns-in-Full
returns-in-Full c =
    put_full (rest_given c.args.span (renaming_of c.args.g.now) c.args.params.now (renaming_of c.args.f.now) c.args.arguments.now)
    (rest_given c.args.span (renaming_of c.args.g.now) (drop (c.loop-i.i + 1) c.args.params.now) (renaming_of c.args.f.now) (drop (c.loop-i.i + 1) c.args.arguments.now))
    (Declare c.args.span (spelled c.index-params-i.result.ty) (renaming_of c.args.g.now c.index-params-i.result.name) (renamed (renaming_of c.args.f.now) (expression c.in-Some.e.now)))
    c.args.counts.now c.loop-i.counts (statements c.args.out.now.items) (statements c.loop-i.out.items) refl
    (subst (λ (l : Statements). PutSoFar (rest_given c.args.span (renaming_of c.args.g.now) c.args.params.now (renaming_of c.args.f.now) c.args.arguments.now) l c.args.counts.now c.loop-i.counts (statements c.args.out.now.items) (statements c.loop-i.out.items))
    (rest_next c.args.span (renaming_of c.args.g.now) (renaming_of c.args.f.now) c.args.params.now c.args.arguments.now c.loop-i.i c.index-params-i.result c.in-Some.e.now c.loop-i-test.true c.index-params-i.is (ltb-true _ _ (sym c.in-Some.ensures.lookup.0)) c.in-Some.ensures.lookup.1)
    c.loop-i.invariant)
    (one_full c.in_ok-push_giving-in-Some.field-0 _ c.loop-i.counts c.push_giving.new.counts (statements c.loop-i.out.items) (statements c.push_giving.new.out.items) c.in-Full.is c.in_ok-push_giving-in-Some.ensures)

pub loop-i-preserved : goal.loop-i-preserved
loop-i-preserved c =
    put_next (rest_given c.args.span (renaming_of c.args.g.now) c.args.params.now (renaming_of c.args.f.now) c.args.arguments.now)
    (rest_given c.args.span (renaming_of c.args.g.now) (drop (c.loop-i.i + 1) c.args.params.now) (renaming_of c.args.f.now) (drop (c.loop-i.i + 1) c.args.arguments.now))
    (Declare c.args.span (spelled c.index-params-i.result.ty) (renaming_of c.args.g.now c.index-params-i.result.name) (renamed (renaming_of c.args.f.now) (expression c.in-Some.e.now)))
    c.args.counts.now c.loop-i.counts c.push_giving.new.counts (statements c.args.out.now.items) (statements c.loop-i.out.items) (statements c.push_giving.new.out.items) refl
    (subst (λ (l : Statements). PutSoFar (rest_given c.args.span (renaming_of c.args.g.now) c.args.params.now (renaming_of c.args.f.now) c.args.arguments.now) l c.args.counts.now c.loop-i.counts (statements c.args.out.now.items) (statements c.loop-i.out.items))
    (rest_next c.args.span (renaming_of c.args.g.now) (renaming_of c.args.f.now) c.args.params.now c.args.arguments.now c.loop-i.i c.index-params-i.result c.in-Some.e.now c.loop-i-test.true c.index-params-i.is (ltb-true _ _ (sym c.in-Some.ensures.lookup.0)) c.in-Some.ensures.lookup.1)
    c.loop-i.invariant)
    (one_pushed c.in_ok-push_giving-in-Some.field-0 _ c.loop-i.counts c.push_giving.new.counts (statements c.loop-i.out.items) (statements c.push_giving.new.out.items) c.in-Pushed.is c.in_ok-push_giving-in-Some.ensures)

pub returns : goal.returns
returns c =
    put_done (rest_given c.args.span (renaming_of c.args.g.now) c.args.params.now (renaming_of c.args.f.now) c.args.arguments.now)
    (rest_given c.args.span (renaming_of c.args.g.now) (drop c.loop-i.i c.args.params.now) (renaming_of c.args.f.now) (drop c.loop-i.i c.args.arguments.now)) c.args.counts.now c.loop-i.counts (statements c.args.out.now.items) (statements c.loop-i.out.items)
    (rest_all c.args.span (renaming_of c.args.g.now) (renaming_of c.args.f.now) c.args.params.now c.args.arguments.now c.loop-i.i (omega (arith, c.loop-i-test.false))) c.loop-i.invariant
