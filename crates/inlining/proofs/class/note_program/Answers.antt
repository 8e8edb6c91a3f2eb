use Rattle.std.proofs.lemmas.Result.{on_ok_weaker}
use Rattle.std.proofs.Common.{ℕ, List, map, ap, ◌∙◌}
use Rattle.std.specs.List.{flat_map}
use Rattle.java_ast.specs.declared.tree.Method.{Method}
use Rattle.java_ast.specs.Reading.{method}
use Rattle.java_calls.specs.ProgramNames.{dotted_parts, package_names, method_names}
use Rattle.inlining.specs.Endings.{all_noted}
use Rattle.inlining.proofs.Noted.{program_noted}
use Rattle.inlining.proofs.class.note_program.Goals as goal

pub returns : goal.returns
returns c =
    on_ok_weaker c.note_methods.result (λ e. program_noted (package_names c.args.p.now.«package») (flat_map dotted_parts c.args.p.now.imports) c.args.p.now.name (flat_map method_names (map method c.args.p.now.methods))
    c.args.tails.now c.note_package.new.tails c.note_imports.new.tails c.put.new.self c.note_methods.new.tails
    c.in_ok-note_package.ensures
    (c.in_ok-note_imports.ensures ∙ ap (λ (l : List (List ℕ)). all_noted c.note_package.new.tails (flat_map dotted_parts l)) c.as_slice.ensures)
    c.in_ok-put.ensures
    (e ∙ ap (λ (l : List Method). all_noted c.put.new.self (flat_map method_names (map method l))) c.as_slice-2.ensures)) c.note_methods.ensures
