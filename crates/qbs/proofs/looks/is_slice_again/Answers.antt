use Rattle.java_ast.specs.Reading.{program as plain_program}
use Rattle.view_slices.specs.Reading.{slice as plain_slice}
use Rattle.view_slices.specs.Slices.{file_of}
use Rattle.qbs.proofs.Looking.{answers_again}
use Rattle.qbs.proofs.looks.is_slice_again.Goals as goal

pub returns-then-branch : goal.returns-then-branch
returns-then-branch c =
    answers_again c.is_left.result c.args.source.now.map.now c.args.source.now.schema.now c.args.read.now.items.now (file_of c.args.file.now)
    (plain_program c.args.source.now.left.now).methods c.args.number (plain_slice c.args.slice.now) c.args.at.from c.args.at.to
    c.args.around.now.again.read c.args.around.now.standing c.args.around.now.tested (plain_slice c.args.again.now) c.requires.round
    (c.in_ok-is_there.ensures.from c.if-branch.true) (c.in_ok-is_there.ensures.to c.if-branch.true) (c.in_ok-is_there.ensures.same c.if-branch.true)
    (c.in_ok-is_there.ensures.is c.if-branch.true) c.is_left.ensures
