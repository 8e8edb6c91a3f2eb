use Rattle.std.proofs.Common.{◌≡◌}
use Rattle.std.specs.Iterator.Adapters.{zip_first, zip_second}
use Rattle.std.specs.Slice.Iter.{iter_rest}
use Rattle.java_ast.specs.Reading.{expressions}
use Rattle.java_mean.specs.Rules as rules
use Rattle.java_mean.specs.WellTyped.{marked}
use Rattle.java_mean.specs.declared.rule.TypeRule.TheVariants as broken
use Rattle.java_mean.specs.Least.{least}
use Rattle.java_types.proofs.values.arguments.Given as goal

abbrev pub invariant-loop-ty : goal.invariant-loop-ty
invariant-loop-ty l = least l.kept (marked broken.Mismatch (rules.arguments l.schema l.scope (iter_rest (zip_first l.ty-iterator)) (expressions (iter_rest (zip_second l.ty-iterator))))) ≡ least l.initial.kept (marked broken.Mismatch (rules.arguments l.schema l.scope l.types (expressions l.args)))
