use Rattle.std.specs.Prelude.{option_copied}
use Rattle.std.proofs.Common.{◌∙◌, sym, ap, refl}
use Rattle.java_ast.specs.Reading.{statements}
use Rattle.java_loops.specs.Lowering.Placing.{scope_past}
use Rattle.lowering.proofs.Located.Locations.{none_here, no_loop_here, found_here}
use Rattle.lowering.proofs.places.located.spot_here.Goals as goal

pub returns-in_default : goal.returns-in_default
returns-in_default c = none_here (option_copied c.args.schema) c.args.visible.now c.args.visible.now c.args.types.now c.args.number c.args.block.now c.in_default.ensures.lookup.3

pub returns-then-not-is_loop : goal.returns-then-not-is_loop
returns-then-not-is_loop c =
    no_loop_here (option_copied c.args.schema) c.args.visible.now c.args.visible.now c.args.types.now c.args.number c.args.block.now c.in-Some.looped.now c.in-Some.ensures.lookup.3.0 c.in-Some.ensures.lookup.1 (sym c.is_loop.ensures ∙ c.if-not-is_loop.true)

pub returns : goal.returns
returns c =
    found_here (option_copied c.args.schema) c.args.visible.now c.args.number c.args.block.now c.before_number-before.result.now c.split_run.result.0.now c.split_run.result.1.now c.in-Some.looped.now _ _ _
    c.in-Some.ensures.lookup.3.0 c.in-Some.ensures.lookup.1 (sym c.is_loop.ensures ∙ c.if-not-is_loop.false) c.before_number-before.ensures c.split_run.ensures.front c.split_run.ensures.run c.in_ok-declare_all.ensures
    (c.in_ok-declare_all-2.ensures ∙ ap (λ vs. scope_past (option_copied c.args.schema) vs (statements c.before_number-before.result.now)) c.requires)
    refl refl c.behind_number.ensures refl
