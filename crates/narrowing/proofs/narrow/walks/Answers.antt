use Rattle.std.proofs.Common.{rules, ◌∙◌, List, ℕ, ap}
use Rattle.std.specs.Prelude.{filter}
use Rattle.std.proofs.lemmas.Fn.{filter_same}
use Rattle.java_ast.specs.Path.{statement_at}
use Rattle.java_ast.specs.Reading.{program}
use Rattle.narrowing.specs.Narrowing.{is_walk}
use Rattle.narrowing.proofs.narrow.walks.Goals as goal

pub returns : goal.returns
returns c =
    c.from_vec.ensures
    ∙ filter_same _ _ _ (λ x b f' k. search rules) _ _ c.retain.ensures.filtered
    ∙ ap (λ (l : List (List ℕ)). filter (λ path. is_walk (statement_at path (program c.args.program.now))) l) (c.into_vec-paths.ensures ∙ c.in_ok-loops.ensures)
