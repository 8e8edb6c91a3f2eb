use Rattle.std.proofs.Common.{◌∙◌, ap, sym, Bor}
use Rattle.std.specs.Option.{option_copied, option_map}
use Rattle.std.specs.declared.option.Option.{Option}
use Rattle.sql_ast.specs.declared.tree.Query.{Query}
use Rattle.sql_ast.specs.Reading.{query}
use Rattle.java_mean.specs.Rules.{has_order}
use Rattle.java_mean.proofs.ordering.has_order.Goals as goal

pub returns-in-Some : goal.returns-in-Some
returns-in-Some c =
    c.order_complete.ensures
    ∙ ap (λ (o : Option (Bor Query)). has_order (option_map query (option_copied o))) (sym c.in-Some.is)
