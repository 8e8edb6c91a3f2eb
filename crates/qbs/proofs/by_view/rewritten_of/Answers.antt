use Rattle.std.proofs.Common.{ℕ, List, sym, ap, subst}
use Rattle.java_ast.specs.Reading.{program as plain_program}
use Rattle.java_mean.specs.WellTyped.{IsWellTyped}
use Rattle.java_types.specs.declared.checking.Typed.{Typed}
use Rattle.java_types.specs.Texts.{read_by}
use Rattle.rewrite_core.specs.Output.{IsSourceOf}
use Rattle.qbs.proofs.Rewrote.{is_source}
use Rattle.qbs.proofs.WrittenBack.{rewriting_held}
use Rattle.qbs.proofs.by_view.rewritten_of.Goals as goal

pub rewrite_past_store-requires-clause-typed : goal.rewrite_past_store-requires-clause-typed
rewrite_past_store-requires-clause-typed g c =
    subst (λ (t : Typed). IsWellTyped c.args.schema.now (read_by c.args.schema.now) (plain_program t.program)) (sym c.deref.ensures) c.requires.program.typed

pub rewrite_past_store-requires-clause-source : goal.rewrite_past_store-requires-clause-source
rewrite_past_store-requires-clause-source g c =
    subst (λ (text : List ℕ). IsSourceOf text (plain_program c.deref.result.now.program)) (sym c.as_slice.ensures)
    (subst (λ (t : Typed). IsSourceOf c.args.viewed.now.text (plain_program t.program)) (sym c.deref.ensures)
    (is_source c.args.schema.now c.args.viewed.now.text (plain_program c.args.viewed.now.typed.value.program) c.requires.program))

pub returns : goal.returns
returns g c =
    rewriting_held (λ b. b.value) _ _ c.args.schema.now c.size_of.result _ c.budget_of.result _ c.as_slice.result.now c.args.viewed.now.text (plain_program c.args.viewed.now.typed.value.program) _
    c.rewrite_past_store.result c.held.result c.size_of.ensures.is c.budget_of.ensures.is c.as_slice.ensures (ap (λ (t : Typed). plain_program t.program) c.deref.ensures) c.rewrite_past_store.ensures c.held.ensures
