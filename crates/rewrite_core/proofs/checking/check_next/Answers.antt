use Rattle.std.proofs.Common.{subst}
use Rattle.java_ast.specs.Reading.{program as plain_program}
use Rattle.deriv_check.specs.Bundles.{entry_of}
use Rattle.rewrite_core.specs.Checked.{IsShown}
use Rattle.rewrite_core.specs.Checking.{shown}
use Rattle.rewrite_core.proofs.ShownLoops.{follows_on, shown_fits}
use Rattle.rewrite_core.proofs.checking.check_next.Goals as goal

pub put_instead-requires-clause-numbers : goal.put_instead-requires-clause-numbers
put_instead-requires-clause-numbers c =
    let h = subst (IsShown c.args.schema.now (plain_program c.args.typed.program) (shown c.args.schema.now (entry_of c.args.e.now) (plain_program c.args.typed.program))) c.in-Some.is c.in_ok-check_entry.ensures in
    shown_fits c.args.schema.now (plain_program c.args.typed.program) h.0 c.in-Some.shown h.2

pub returns-in_ok-next-in-Some : goal.returns-in_ok-next-in-Some
returns-in_ok-next-in-Some c =
    let h = subst (IsShown c.args.schema.now (plain_program c.args.typed.program) (shown c.args.schema.now (entry_of c.args.e.now) (plain_program c.args.typed.program))) c.in-Some.is c.in_ok-check_entry.ensures in
    follows_on c.args.schema.now (entry_of c.args.e.now) (plain_program c.args.typed.program) h.0 c.in-Some.shown (plain_program c.in_ok-next-in-Some.next.program) h.1 h.2 c.in_ok-next-in-Some.ensures
