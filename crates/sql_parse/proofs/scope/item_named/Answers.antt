use Rattle.std.proofs.Common.{sym, ap, ◌∙◌}
use Rattle.sql_ast.specs.InSight.{in_sight}
use Rattle.sql_ast.specs.Knowns.{knowns_of}
use Rattle.sql_ast.specs.Names.{item_named}
use Rattle.sql_parse.specs.Scopes.{scope_of}
use Rattle.sql_parse.proofs.Named.{unaliased}
use Rattle.sql_parse.proofs.scope.item_named.Goals as goal

pub returns-in-None : goal.returns-in-None
returns-in-None c =
    c.only.ensures
    ∙ sym (unaliased c.args.around (knowns_of (in_sight c.args.known.now)))
    ∙ ap (item_named (scope_of c.args.around (knowns_of (in_sight c.args.known.now)))) (sym c.in-None.is)
