use Rattle.sql_ast.proofs.Hiding.{nothing_hides, nothing_found}
use Rattle.sql_ast.proofs.sight.Sight.new.Goals as goal

pub invariant_of-result : goal.invariant_of-result
invariant_of-result c = record {
  hiding = nothing_hides c.new.result.items c.new.ensures.items;
  found = nothing_found c.new-2.result c.new.result.items c.new.ensures.items c.new-2.ensures;
}
