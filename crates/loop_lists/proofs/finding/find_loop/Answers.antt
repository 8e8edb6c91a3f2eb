use Rattle.std.proofs.Common.{map, ap, ◌∙◌}
use Rattle.std.proofs.lemmas.Result.{IfOk-weaker}
use Rattle.java_ast.specs.declared.tree.Method.{Method}
use Rattle.java_ast.specs.Reading.{method, program as plain_program}
use Rattle.std.specs.Prelude.{List}
use Rattle.loop_lists.specs.Finding.{first_of_methods}
use Rattle.loop_lists.proofs.FirstLoops.{first_is_listed}
use Rattle.loop_lists.proofs.finding.find_loop.Goals as goal

pub returns : goal.returns
returns c =
    IfOk-weaker c.find_in_methods.result _ _
    (λ p found. found ∙ ap (λ (ms : List Method). first_of_methods c.args.line c.args.column 0 (map method ms)) c.as_slice.ensures ∙ first_is_listed c.args.line c.args.column (plain_program c.args.program.now))
    c.find_in_methods.ensures
