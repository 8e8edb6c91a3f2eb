use Rattle.std.proofs.Common.{refl, sym, ap, ◌∙◌, subst}
use Rattle.std.specs.Option.{option_copied}
use Rattle.java_ast.specs.Reading.{statements, program as plain_program}
use Rattle.rewrite_core.specs.declared.stage.Stage.{Stage}
use Rattle.rewrite_core.specs.Stages.{IsStage}
use Rattle.rewrite_core.proofs.MethodsBefore.{methods_before_stay}
use Rattle.rewrite_core.proofs.stage.give_way.Goals as goal

pub stage_of-requires-clause-before : goal.stage_of-requires-clause-before
stage_of-requires-clause-before c =
    methods_before_stay (plain_program c.into_inner-typed.result.typed.program).methods c.into_inner-typed.result.standing c.into_inner-typed.result.listed (plain_program c.into_inner-typed.result.typed.program) (plain_program c.in_ok-typed-in-Some.typed.program)
    c.in-Some.path.now c.args.first (statements c.args.others.items) refl
    (subst (λ (s : Stage). IsStage s) (sym c.into_inner-typed.ensures) c.requires.lists)
    (sym c.next_in.ensures ∙ ap option_copied c.in-Some.is) c.in_ok-typed-in-Some.ensures
