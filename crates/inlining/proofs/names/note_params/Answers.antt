use Rattle.std.proofs.Common.{◌≡◌, ◌+◌, ◌∷◌, List, drop, map, subst}
use Rattle.std.specs.List.{flat_map}
use Rattle.java_ast.specs.declared.tree.Param.{Param}
use Rattle.java_ast.specs.Tree.{PlainParam}
use Rattle.java_ast.specs.Reading.{spelled, param}
use Rattle.java_calls.specs.ProgramNames.{type_names}
use Rattle.call_rules.proofs.Numbers.{drop_item}
use Rattle.inlining.specs.Endings.{all_noted}
use Rattle.inlining.proofs.Noted.{one_named}
use Rattle.inlining.proofs.names.note_params.Goals as goal

pub loop-p-preserved : goal.loop-p-preserved
loop-p-preserved c =
    one_named c.p-item.result.name (type_names (spelled c.p-item.result.ty)) (flat_map (λ (p : PlainParam). p.name ∷ type_names p.ty) (map param (drop (c.loop-p.p-index + 1) c.args.params.now))) c.loop-p.tails c.put.new.self c.note_type.new.tails
    (all_noted c.args.tails.now (flat_map (λ (p : PlainParam). p.name ∷ type_names p.ty) (map param c.args.params.now))) c.in_ok-put.ensures c.in_ok-note_type.ensures
    (subst (λ (l : List Param). all_noted c.loop-p.tails (flat_map (λ (p : PlainParam). p.name ∷ type_names p.ty) (map param l)) ≡ all_noted c.args.tails.now (flat_map (λ (p : PlainParam). p.name ∷ type_names p.ty) (map param c.args.params.now))) (drop_item c.args.params.now c.loop-p.p-index c.p-item.result c.loop-p-test.true c.p-item.is) c.loop-p.invariant)
