use Rattle.std.proofs.lemmas.Result.{on_ok_weaker}
use Rattle.std.proofs.Common.{◌∷◌, List, map, ap, ◌∙◌}
use Rattle.std.specs.List.{flat_map}
use Rattle.std.specs.Option.{option_map}
use Rattle.java_ast.specs.declared.tree.Param.{Param}
use Rattle.java_ast.specs.declared.tree.Stmt.{Stmt}
use Rattle.java_ast.specs.Tree.{PlainParam}
use Rattle.java_ast.specs.Reading.{spelled, param, statements}
use Rattle.java_calls.specs.ProgramNames.{type_names, block_names, result_names}
use Rattle.inlining.specs.Endings.{all_noted}
use Rattle.inlining.proofs.Noted.{method_noted}
use Rattle.inlining.proofs.names.note_method.Goals as goal

pub returns : goal.returns
returns c =
    on_ok_weaker c.note_block.result (λ e. method_noted c.args.m.now.name (result_names (option_map spelled c.args.m.now.result)) (flat_map (λ (p : PlainParam). p.name ∷ type_names p.ty) (map param c.args.m.now.params)) (block_names (statements c.args.m.now.body))
    c.args.tails.now c.put.new.self c.note_result.new.tails c.note_params.new.tails c.note_block.new.tails
    c.in_ok-put.ensures c.in_ok-note_result.ensures
    (c.in_ok-note_params.ensures ∙ ap (λ (l : List Param). all_noted c.note_result.new.tails (flat_map (λ (p : PlainParam). p.name ∷ type_names p.ty) (map param l))) c.as_slice.ensures)
    (e ∙ ap (λ (l : List Stmt). all_noted c.note_params.new.tails (block_names (statements l))) c.as_slice-2.ensures)) c.note_block.ensures
