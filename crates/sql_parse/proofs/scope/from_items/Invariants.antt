use Rattle.std.proofs.Common.{◌≡◌, ◌++◌, drop}
use Rattle.sql_ast.specs.Knowns.{knowns_of}
use Rattle.sql_ast.specs.Names.{froms_of}
use Rattle.sql_parse.proofs.scope.from_items.Given as goal

abbrev pub invariant-loop-item : goal.invariant-loop-item
invariant-loop-item l = l.items ++ froms_of (knowns_of (drop l.item-index l.own)) ≡ froms_of (knowns_of l.own)
