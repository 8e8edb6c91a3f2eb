use Rattle.java_ast.specs.Reading.{program as plain_program}
use Rattle.view_slices.specs.Reading.{slice as plain_slice}
use Rattle.view_slices.specs.Slices.{file_of}
use Rattle.qbs.proofs.Looking.{seen_leads}
use Rattle.qbs.proofs.looks.look_at_slice.Goals as goal

pub returns-then-branch-clause-seen : goal.returns-then-branch-clause-seen
returns-then-branch-clause-seen c =
    λ is empty. seen_leads c.args.source.now.map.now c.args.source.now.schema.now (file_of c.args.read.now) (file_of c.args.file.now)
    (plain_program c.args.source.now.left.now).methods c.args.spelled.now c.args.reached.now c.in-Some-placed.behind (plain_slice c.args.slice.now)
    c.in-Some.patches.now c.in-Some-placed.at.from c.in-Some-placed.at.to c.in-Some.ensures c.in-Some-placed.ensures (c.in_ok-look_there.ensures.seen c.if-branch.true)
