use Rattle.std.proofs.Common.{◌≡◌, ◌<◌, ◌≤◌, List, map, length, get_or, subst}
use Rattle.std.proofs.lemmas.List.{drop_all}
use Rattle.java_ast.specs.declared.tree.Method.{Method}
use Rattle.java_ast.specs.Reading.{method, program}
use Rattle.inlining.specs.Walked.{most_open}
use Rattle.inlining.proofs.Methods.{AreSoFar, methods_all}
use Rattle.inlining.proofs.Listed.{listed_none, listed_past, listed_next}
use Rattle.inlining.proofs.inlined.inline_methods.Goals as goal

pub loop-m-init : goal.loop-m-init
loop-m-init c = listed_none most_open c.args.program.now c.new-all.result c.new-all.ensures

pub returns-in-None : goal.returns-in-None
returns-in-None c =
    listed_past most_open c.args.program.now c.in_ok-class.class c.in_ok-class.ensures c.loop-m.m-index c.m-item.result c.loop-m.counts c.inline_method.new.counts c.loop-m.all
    (subst (λ (l : List Method). c.loop-m.m-index < length l) c.as_slice-m-items.ensures c.loop-m-test.true) (subst (λ (l : List Method). c.m-item.result ≡ get_or l c.loop-m.m-index c.m-item.result) c.as_slice-m-items.ensures c.m-item.is) c.loop-m.invariant
    c.in_ok-inline_method.field-0 c.in_ok-inline_method.ensures c.in-None.is

pub loop-m-preserved : goal.loop-m-preserved
loop-m-preserved c =
    listed_next most_open c.args.program.now c.in_ok-class.class c.in_ok-class.ensures c.loop-m.m-index c.m-item.result c.loop-m.counts c.inline_method.new.counts c.loop-m.all
    (subst (λ (l : List Method). c.loop-m.m-index < length l) c.as_slice-m-items.ensures c.loop-m-test.true) (subst (λ (l : List Method). c.m-item.result ≡ get_or l c.loop-m.m-index c.m-item.result) c.as_slice-m-items.ensures c.m-item.is) c.loop-m.invariant
    c.in_ok-inline_method.field-0 c.in_ok-inline_method.ensures c.in-Some.made c.into_inner.result c.push.new.self c.in-Some.is c.in_ok-push-in-Some.ensures.ok c.into_inner.ensures

pub returns : goal.returns
returns c =
    methods_all most_open (program c.args.program.now) c.loop-m.m-index c.loop-m.counts (map method c.loop-m.all)
    (subst (λ (l : List Method). AreSoFar most_open (program c.args.program.now) c.loop-m.m-index (map method l) c.loop-m.counts (map method c.loop-m.all)) (drop_all c.loop-m.m-index c.args.program.now.methods (subst (λ (l : List Method). length l ≤ c.loop-m.m-index) c.as_slice-m-items.ensures c.loop-m-test.false)) c.loop-m.invariant)
