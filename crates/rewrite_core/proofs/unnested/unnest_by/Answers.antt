use Rattle.std.proofs.Common.{sym, subst}
use Rattle.java_ast.specs.Path.{last_of, replaced_at}
use Rattle.java_ast.specs.Reading.{statements, program as plain_program}
use Rattle.java_ast.specs.Tree.{PlainProgram}
use Rattle.java_mean.specs.WellTyped.{IsWellTyped}
use Rattle.java_types.specs.Texts.{read_by}
use Rattle.loop_text.specs.Statements.Walking.{IsLoopOf}
use Rattle.rewrite_core.proofs.UnnestOutcomes.{begins_there, fits_there, unnested_there}
use Rattle.rewrite_core.proofs.unnested.unnest_by.Goals as goal

pub try_loop-requires-clause-typed : goal.try_loop-requires-clause-typed
try_loop-requires-clause-typed g c = subst (IsWellTyped c.args.schema.now (read_by c.args.schema.now)) (sym c.in_ok-typed.ensures) c.requires.tried.typed

pub try_loop-requires-clause-loops : goal.try_loop-requires-clause-loops
try_loop-requires-clause-loops g c = subst (λ (q : PlainProgram). IsLoopOf q c.args.path.now) (sym c.in_ok-typed.ensures) c.requires.tried.loops

pub unnested_by-requires-clause-numbers : goal.unnested_by-requires-clause-numbers
unnested_by-requires-clause-numbers g c = fits_there _ _ c.args.schema.now c.args.size c.args.budget (plain_program c.in_ok-typed.typed.program) c.args.path.now c.in_ok-outcome.outcome c.in_ok-typed.typed.numbers c.in_ok-outcome.ensures

pub unnested_by-requires-clause-begins : goal.unnested_by-requires-clause-begins
unnested_by-requires-clause-begins g c = begins_there _ _ c.args.schema.now c.args.size c.args.budget (plain_program c.in_ok-typed.typed.program) c.args.path.now c.in_ok-outcome.outcome c.in_ok-outcome.ensures

pub returns : goal.returns
returns g c =
    unnested_there _ _ c.args.schema.now c.args.size c.args.budget c.args.path.now (plain_program c.in_ok-typed.typed.program) (replaced_at c.args.path.now (last_of c.args.path.now) (statements c.args.spread.items) (plain_program c.args.program.now)) c.in_ok-outcome.outcome c.unnested_by.result
    c.in_ok-typed.ensures c.in_ok-outcome.ensures c.unnested_by.ensures
