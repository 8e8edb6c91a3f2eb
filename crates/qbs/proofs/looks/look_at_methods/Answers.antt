use Rattle.std.proofs.Common.{◌≡◌, ◌+◌, List, ◌++◌, map, drop, sym, ap, subst, ◌∙◌, rules}
use Rattle.java_ast.specs.Reading.{program as plain_program}
use Rattle.view_statements.specs.declared.slice.Slice.{Slice}
use Rattle.view_slices.specs.Reading.{slices as plain_slices, all_sliced}
use Rattle.view_slices.specs.Slices.{file_of}
use Rattle.qbs.specs.Looks.{AreSeenBehind}
use Rattle.qbs.specs.SeenAgain.{Stood, stood_in, slices_in}
use Rattle.qbs.proofs.Looking.{next_method}
use Rattle.qbs.proofs.looks.look_at_methods.Goals as goal

pub loop-method-preserved : goal.loop-method-preserved
loop-method-preserved c = λ empty h.
    let same : c.as_slice-slices.result.now ≡ c.method-item.result.slices = search rules in
    let rest : List Stood = slices_in (all_sliced (drop (c.loop-method.method-index + 1) c.args.source.now.methods.now)) in
    let parts : slices_in (all_sliced (drop c.loop-method.method-index c.args.source.now.methods.now)) ≡ map (stood_in c.method-item.result.read) (plain_slices c.as_slice-slices.result.now) ++ rest =
    next_method c.args.source.now.methods.now c.loop-method.method-index c.method-item.result c.loop-method-test.true c.method-item.is
    ∙ ap (λ (ss : List Slice). map (stood_in c.method-item.result.read) (plain_slices ss) ++ rest) (sym same) in
    c.loop-method.invariant (c.in_ok-all.ensures.few empty)
    (subst (λ (ss : List Stood). AreSeenBehind c.args.source.now.map.now c.args.source.now.schema.now (file_of c.args.read.now) (file_of c.args.file.now) (plain_program c.args.source.now.left.now).methods c.args.spelled.now c.loop-method.reached ss) (sym parts)
    (c.in_ok-all.ensures.seen c.if-not-all.false empty c.method-item.result.read rest h))
