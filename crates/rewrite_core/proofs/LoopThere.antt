-- A loop with a setting stands where its path leads.
use Rattle.std.proofs.Common.{◌≡◌, ℕ, List, Option, Some, ap, ◌∙◌}
use Rattle.qbs_base.specs.declared.span.Span.{Span}
use Rattle.qbs_base.specs.Values.{Schema}
use Rattle.sql_ast.specs.Tree.{PlainQuery}
use Rattle.java_ast.specs.Path.{statement_at}
use Rattle.java_ast.specs.Spans.{place_of}
use Rattle.java_ast.specs.Tree.{PlainProgram}
use Rattle.java_loops.specs.Kernel.Kernel.{setting_at}
use Rattle.java_loops.specs.Kernel.Setting.{Setting}
use Rattle.java_loops.proofs.Kept.KeptPath.{setting_stands}
use Rattle.rewrite_core.specs.LoopWithCandidate.{place_or_nowhere}
use Rattle.rewrite_core.proofs.GivenUp.{IsThere, is_there}
use Rattle.rewrite_core.proofs.StaysTyped.{first_there}

pub loop_there : (schema : Schema) (read : List ℕ → Option PlainQuery) (p : PlainProgram) (path : List ℕ) (w : Setting) → setting_at schema read path p ≡ Some w → statement_at path p ≡ Some w.fragment.loop
loop_there schema read p path w there =
    let found : IsThere schema p path w = is_there schema read p path w there in
    let begins = first_there path p w.fragment found.fragment_is in
    (setting_stands schema read p path w begins.0 there begins.1).there

-- where the statement stands to which the path leads is where the loop stands
pub place_is : (schema : Schema) (read : List ℕ → Option PlainQuery) (p q : PlainProgram) (path : List ℕ) (w : Setting) (at : Span) → q ≡ p → at ≡ place_or_nowhere (statement_at path q) → setting_at schema read path p ≡ Some w → at ≡ place_of w.fragment.loop
place_is schema read p q path w at same is there = is ∙ ap place_or_nowhere (ap (statement_at path) same ∙ loop_there schema read p path w there)
