use Rattle.std.proofs.Common.{◌+◌, List, ◌++◌, map, drop, sym, subst}
use Rattle.java_ast.specs.Reading.{program as plain_program}
use Rattle.view_slices.specs.Reading.{slices as plain_slices}
use Rattle.view_slices.specs.Slices.{file_of}
use Rattle.qbs.specs.Looks.{AreSeenBehind}
use Rattle.qbs.specs.SeenAgain.{Stood, stood_in}
use Rattle.qbs.proofs.Looking.{next_slice}
use Rattle.qbs.proofs.looks.look_at_method.Goals as goal

pub loop-slice-preserved : goal.loop-slice-preserved
loop-slice-preserved c = record {
  round = c.in_ok-all.ensures.round;
  few = λ empty. c.loop-slice.invariant.few (c.in_ok-all.ensures.few empty);
  seen = λ empty in_method sts h. c.loop-slice.invariant.seen (c.in_ok-all.ensures.few empty) in_method sts
      (subst (λ (ss : List Stood). AreSeenBehind c.args.source.now.map.now c.args.source.now.schema.now (file_of c.args.read.now) (file_of c.args.file.now) (plain_program c.args.source.now.left.now).methods c.args.spelled.now c.loop-slice.reached ss)
      (sym (next_slice in_method c.args.slices.now c.loop-slice.slice-index c.slice-item.result sts c.loop-slice-test.true c.slice-item.is))
      ((c.in_ok-all.ensures.seen c.if-not-all.false empty).from in_method (map (stood_in in_method) (plain_slices (drop (c.loop-slice.slice-index + 1) c.args.slices.now)) ++ sts) h));
}
