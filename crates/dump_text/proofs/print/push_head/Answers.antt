use Rattle.std.proofs.Common.{codes}
use Rattle.dump_text.proofs.Joined.{three}
use Rattle.dump_text.proofs.print.push_head.Goals as goal

pub returns : goal.returns
returns c =
    rw (← c.as_slice.ensures)
    (three (codes "CREATE TABLE ") c.as_slice.result.now (codes " (\n") c.args.out.now.items _ _ _
    c.in_ok-extend_from_slice.ensures.items c.in_ok-extend_from_slice-2.ensures.items c.in_ok-extend_from_slice-3.ensures.items)
