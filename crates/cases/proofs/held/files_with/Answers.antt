use Rattle.std.proofs.Common.{ap, ◌∙◌}
use Rattle.qbs_base.specs.Named.{at_name}
use Rattle.cases.proofs.Files.{put_over_held, fresh_put}
use Rattle.cases.proofs.held.files_with.Goals as goal

pub returns-clause-held : goal.returns-clause-held
returns-clause-held c other =
    ap (λ files. at_name files.files other) c.in_ok-put.ensures.ok
    ∙ put_over_held c.args.held.now c.in_ok-files.files.files c.in_ok-name.name c.args.name.now c.in_ok-name.bytes c.args.bytes.now
    c.in_ok-name.ensures.0 c.in_ok-name.ensures.1 c.in_ok-files.ensures.held other

pub returns-clause-fresh : goal.returns-clause-fresh
returns-clause-fresh c = fresh_put _ _ _ c.in_ok-put.ensures.ok c.in_ok-files.ensures.fresh
