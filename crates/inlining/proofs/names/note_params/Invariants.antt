use Rattle.std.proofs.Common.{◌≡◌, ◌∷◌, drop, map}
use Rattle.std.specs.List.{flat_map}
use Rattle.java_ast.specs.Tree.{PlainParam}
use Rattle.java_ast.specs.Reading.{param}
use Rattle.java_calls.specs.ProgramNames.{type_names}
use Rattle.inlining.specs.Endings.{all_noted}
use Rattle.inlining.proofs.names.note_params.Given as goal

abbrev pub invariant-loop-p : goal.invariant-loop-p
invariant-loop-p l = all_noted l.tails (flat_map (λ (p : PlainParam). p.name ∷ type_names p.ty) (map param (drop l.p-index l.params))) ≡ all_noted l.fn.tails (flat_map (λ (p : PlainParam). p.name ∷ type_names p.ty) (map param l.params))
