use Rattle.std.proofs.Common.{◌≡◌, IfOk, Some, subst}
use Rattle.java_ast.specs.declared.tree.Program.{Program}
use Rattle.java_ast.specs.Reading.{program}
use Rattle.java_loops.specs.Kernel.Kernel.{setting_at}
use Rattle.java_loops.specs.Kernel.Setting.{Setting}
use Rattle.java_mean.specs.Keeps.{Keeps}
use Rattle.java_grammar.specs.InGrammar.{IsInGrammar}
use Rattle.java_grammar.specs.Written.{IsWritten}
use Rattle.java_types.specs.Texts.{read_by}
use Rattle.kernel_lang.specs.Whole.{fragment_of}
use Rattle.vc_gen.specs.Soundness.{EndsAnywhere}
use Rattle.rewrite_core.specs.Asked.{replaced}
use Rattle.rewrite_core.proofs.replacing.replace_loop.Goals as goal

pub returns-clause-exact : goal.returns-clause-exact
returns-clause-exact c =
    subst
    (λ (p : Program). IfOk c.replaced_in.result (λ q. (w : Setting) → setting_at c.args.schema.now (read_by c.args.schema.now) c.args.path.now (program p) ≡ Some w
    → program q ≡ replaced (record { program = program p; path = c.args.path.now; setting = w; candidate = c.args.candidate.now })))
    c.program.ensures c.replaced_in.ensures.exact

pub returns-clause-typed : goal.returns-clause-typed
returns-clause-typed c = c.replaced_in.ensures.typed

pub returns-clause-keeps : goal.returns-clause-keeps
returns-clause-keeps c =
    subst (λ (p : Program). IfOk c.replaced_in.result (λ q. EndsAnywhere (fragment_of c.args.lowered.now.frag) c.args.candidate.now → Keeps (program p) (program q) c.args.schema.now))
    c.program.ensures c.replaced_in.ensures.keeps

pub returns-clause-written : goal.returns-clause-written
returns-clause-written c =
    subst
    (λ (p : Program). IfOk c.replaced_in.result (λ q. IsInGrammar (program p) → IsWritten (program p) → IsInGrammar (program q) × IsWritten (program q)))
    c.program.ensures c.replaced_in.ensures.written
