use Rattle.std.proofs.Common.{sym, ap, ◌∙◌}
use Rattle.java_ast.specs.Reading.{program as plain_program}
use Rattle.java_ast.specs.declared.tree.Program.{Program}
use Rattle.loop_text.specs.Statements.Loops.{loops_of}
use Rattle.rewrite_core.proofs.ShownLoops.{found_is_loop}
use Rattle.rewrite_core.proofs.checking.check_entry.Goals as goal

pub check_loop-requires-clause-loops : goal.check_loop-requires-clause-loops
check_loop-requires-clause-loops c =
    found_is_loop c.args.e.now.line c.args.e.now.column (plain_program c.program.result.now) (plain_program c.args.typed.now.program) (loops_of (plain_program c.program.result.now)) c.in-Some.path
    (ap plain_program c.program.ensures) (ap (λ (p : Program). loops_of (plain_program p)) c.program.ensures) (sym c.in-Some.is ∙ c.in_ok-find_loop.ensures)
