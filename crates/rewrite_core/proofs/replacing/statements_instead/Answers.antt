use Rattle.std.proofs.Common.{◌≡◌, IfOk, OnOk, Some, subst}
use Rattle.java_ast.specs.declared.tree.Program.{Program}
use Rattle.java_ast.specs.Path.{replaced_at}
use Rattle.java_ast.specs.Reading.{statements, program}
use Rattle.java_loops.specs.Kernel.Kernel.{setting_at}
use Rattle.java_loops.specs.Kernel.Setting.{Setting}
use Rattle.java_types.specs.Texts.{read_by}
use Rattle.rewrite_core.specs.Asked.{replaced}
use Rattle.rewrite_core.specs.Asking.{HasAsks}
use Rattle.rewrite_core.specs.Patches.{instead}
use Rattle.rewrite_core.proofs.replacing.statements_instead.Goals as goal

pub returns-clause-instead : goal.returns-clause-instead
returns-clause-instead c =
    subst
    (λ (p : Program). IfOk c.in_place_at.result (λ others. (w : Setting) → setting_at c.args.schema.now (read_by c.args.schema.now) c.args.path.now (program p) ≡ Some w
    → statements others.items ≡ instead (record { program = program p; path = c.args.path.now; setting = w; candidate = c.args.candidate.now })))
    c.program.ensures c.in_place_at.ensures.instead

pub returns-clause-exact : goal.returns-clause-exact
returns-clause-exact c =
    subst
    (λ (p : Program). IfOk c.in_place_at.result (λ others. (w : Setting) → setting_at c.args.schema.now (read_by c.args.schema.now) c.args.path.now (program p) ≡ Some w
    → replaced_at c.args.path.now c.args.lowered.now.first (statements others.items) (program p) ≡ replaced (record { program = program p; path = c.args.path.now; setting = w; candidate = c.args.candidate.now })))
    c.program.ensures c.in_place_at.ensures.exact

pub returns-clause-asks : goal.returns-clause-asks
returns-clause-asks c =
    subst
    (λ (p : Program). OnOk c.in_place_at.result ((w : Setting) → setting_at c.args.schema.now (read_by c.args.schema.now) c.args.path.now (program p) ≡ Some w
    → HasAsks c.args.schema.now (read_by c.args.schema.now) (program p) c.args.path.now w c.args.candidate.now))
    c.program.ensures c.in_place_at.ensures.asks
