use Rattle.std.proofs.Common.{IfOk, sym, ap, subst}
use Rattle.java_ast.specs.declared.tree.Program.{Program}
use Rattle.java_ast.specs.Path.{last_of, replaced_at}
use Rattle.java_ast.specs.Reading.{statements, program as plain_program}
use Rattle.rewrite_core.specs.UnnestingSteps.{MayBeTried, IsUnnestedIn}
use Rattle.rewrite_core.proofs.SpreadsTyped.{spreads_stay_typed}
use Rattle.rewrite_core.proofs.UnnestOne.{one_exact, one_typed, one_keeps, one_written}
use Rattle.rewrite_core.proofs.UnnestSteps.{made_there, none_made_there, program_unspread, spread_may_be_tried}
use Rattle.rewrite_core.proofs.WritesOne.{one_writes}
use Rattle.rewrite_core.proofs.unnested.unnest_past.Goals as goal

pub returns-in-None-clause-exact : goal.returns-in-None-clause-exact
returns-in-None-clause-exact g c = sym (program_unspread c.args.schema.now c.args.size c.args.budget (plain_program c.args.typed.now.program) c.args.path.now (none_made_there (λ b. statements b.items) c.args.schema.now (plain_program c.args.typed.now.program) (plain_program c.program.result.now) c.args.path.now c.in_ok-spread_there.field-0 (ap plain_program c.program.ensures) c.in_ok-spread_there.ensures c.in-None.is))

pub unnest_by-requires-clause-tried : goal.unnest_by-requires-clause-tried
unnest_by-requires-clause-tried g c =
    subst (λ (q : Program). MayBeTried c.args.schema.now c.args.path.now (statements c.in-Some.spread.items) (plain_program q)) (sym c.program-in-Some.ensures)
    (spread_may_be_tried c.args.schema.now (spreads_stay_typed c.args.schema.now) (plain_program c.args.typed.now.program) c.args.path.now c.requires.typed c.args.typed.now.numbers (statements c.in-Some.spread.items) (made_there (λ b. statements b.items) c.args.schema.now (plain_program c.args.typed.now.program) (plain_program c.program.result.now) c.args.path.now c.in_ok-spread_there.field-0 (ap plain_program c.program.ensures) c.in_ok-spread_there.ensures c.in-Some.spread c.in-Some.is))

pub returns-in-Some-clause-exact : goal.returns-in-Some-clause-exact
returns-in-Some-clause-exact g c =
    one_exact c.args.schema.now c.args.size c.args.budget (plain_program c.args.typed.now.program) c.args.path.now (statements c.in-Some.spread.items) (made_there (λ b. statements b.items) c.args.schema.now (plain_program c.args.typed.now.program) (plain_program c.program.result.now) c.args.path.now c.in_ok-spread_there.field-0 (ap plain_program c.program.ensures) c.in_ok-spread_there.ensures c.in-Some.spread c.in-Some.is) c.unnest_by.result
    (subst (λ (q : Program). IfOk c.unnest_by.result (IsUnnestedIn c.args.schema.now c.args.size c.args.budget c.args.path.now (replaced_at c.args.path.now (last_of c.args.path.now) (statements c.in-Some.spread.items) (plain_program q)))) c.program-in-Some.ensures c.unnest_by.ensures)

pub returns-in-Some-clause-typed : goal.returns-in-Some-clause-typed
returns-in-Some-clause-typed g c =
    one_typed c.args.schema.now c.args.size c.args.budget (plain_program c.args.typed.now.program) c.args.path.now (statements c.in-Some.spread.items) (made_there (λ b. statements b.items) c.args.schema.now (plain_program c.args.typed.now.program) (plain_program c.program.result.now) c.args.path.now c.in_ok-spread_there.field-0 (ap plain_program c.program.ensures) c.in_ok-spread_there.ensures c.in-Some.spread c.in-Some.is) c.unnest_by.result c.requires.typed c.args.typed.now.numbers
    (subst (λ (q : Program). IfOk c.unnest_by.result (IsUnnestedIn c.args.schema.now c.args.size c.args.budget c.args.path.now (replaced_at c.args.path.now (last_of c.args.path.now) (statements c.in-Some.spread.items) (plain_program q)))) c.program-in-Some.ensures c.unnest_by.ensures)

pub returns-in-Some-clause-keeps : goal.returns-in-Some-clause-keeps
returns-in-Some-clause-keeps g c =
    one_keeps c.args.schema.now c.args.size c.args.budget (plain_program c.args.typed.now.program) c.args.path.now (statements c.in-Some.spread.items) (made_there (λ b. statements b.items) c.args.schema.now (plain_program c.args.typed.now.program) (plain_program c.program.result.now) c.args.path.now c.in_ok-spread_there.field-0 (ap plain_program c.program.ensures) c.in_ok-spread_there.ensures c.in-Some.spread c.in-Some.is) c.unnest_by.result c.requires.typed c.args.typed.now.numbers
    (subst (λ (q : Program). IfOk c.unnest_by.result (IsUnnestedIn c.args.schema.now c.args.size c.args.budget c.args.path.now (replaced_at c.args.path.now (last_of c.args.path.now) (statements c.in-Some.spread.items) (plain_program q)))) c.program-in-Some.ensures c.unnest_by.ensures)

pub returns-in-Some-clause-written : goal.returns-in-Some-clause-written
returns-in-Some-clause-written g c =
    one_written c.args.schema.now c.args.size c.args.budget (plain_program c.args.typed.now.program) c.args.path.now (statements c.in-Some.spread.items) (made_there (λ b. statements b.items) c.args.schema.now (plain_program c.args.typed.now.program) (plain_program c.program.result.now) c.args.path.now c.in_ok-spread_there.field-0 (ap plain_program c.program.ensures) c.in_ok-spread_there.ensures c.in-Some.spread c.in-Some.is) c.unnest_by.result (one_writes c.args.schema.now (plain_program c.args.typed.now.program))
    (subst (λ (q : Program). IfOk c.unnest_by.result (IsUnnestedIn c.args.schema.now c.args.size c.args.budget c.args.path.now (replaced_at c.args.path.now (last_of c.args.path.now) (statements c.in-Some.spread.items) (plain_program q)))) c.program-in-Some.ensures c.unnest_by.ensures)
