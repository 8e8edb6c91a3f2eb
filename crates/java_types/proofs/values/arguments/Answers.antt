use Rattle.std.proofs.Common.{◌∙◌, sym, ap, List}
use Rattle.qbs_base.specs.declared.span.Span.{Span}
use Rattle.std.specs.Iterator.Adapters.{zip_first, zip_second}
use Rattle.std.specs.Slice.Iter.{iter_rest}
use Rattle.std.proofs.lemmas.Slice.Zip.{either_empty_from_Zip}
use Rattle.java_mean.specs.WellTyped.{marked}
use Rattle.java_mean.specs.declared.rule.TypeRule.TheVariants as broken
use Rattle.java_mean.specs.Least.{least}
use Rattle.java_types.proofs.Passed.{no_arguments}
use Rattle.java_types.proofs.values.arguments.Goals as goal

pub returns : goal.returns
returns c =
    ap (λ (l : List Span). least c.loop-ty.kept (marked broken.Mismatch l))
    (sym (no_arguments c.args.schema.now c.args.scope.now (iter_rest (zip_first c.loop-ty.ty-iterator)) (iter_rest (zip_second c.loop-ty.ty-iterator))
    (either_empty_from_Zip c.loop-ty.ty-iterator c.next.new.self c.next.result c.in-None.is c.next.ensures.steps)))
    ∙ c.loop-ty.invariant
