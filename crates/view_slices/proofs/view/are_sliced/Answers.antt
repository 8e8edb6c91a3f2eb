use Rattle.std.proofs.Common.{drop}
use Rattle.view_slices.specs.Slices.{file_of}
use Rattle.view_slices.proofs.Members.{nothing_left}
use Rattle.view_slices.proofs.view.are_sliced.Goals as goal

pub returns-in_default : goal.returns-in_default
returns-in_default c =
    nothing_left c.args.map.now c.args.tables.now (file_of c.args.file.now) c.loop-member.all (drop c.loop-member.member-index c.args.members.now)
    c.loop-member.rest.now _ c.loop-member.invariant c.in_default.len_below
