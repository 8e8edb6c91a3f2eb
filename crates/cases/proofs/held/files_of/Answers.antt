use Rattle.std.proofs.Common.{ap, ◌∙◌}
use Rattle.qbs_base.specs.Named.{at_name}
use Rattle.cases.proofs.Files.{put_next, fresh_put}
use Rattle.cases.proofs.held.files_of.Goals as goal

pub loop-file-preserved : goal.loop-file-preserved
loop-file-preserved c = record {
  fresh = fresh_put _ _ _ c.in_ok-put.ensures.ok c.loop-file.invariant.fresh;
  held = λ name.
      ap (λ files. at_name files.files name) c.in_ok-put.ensures.ok
      ∙ put_next c.args.held.now c.loop-file.file-index c.file-item.result c.loop-file.files.files c.in_ok-name.name c.in_ok-name.bytes
      c.loop-file-test.true c.file-item.is (c.in_ok-name.ensures.0 ∙ c.as_str.ensures.value) (c.in_ok-name.ensures.1 ∙ c.as_slice.ensures.value) c.loop-file.invariant.held name;
}
