use Rattle.std.proofs.Common.{◌∙◌, arith}
use Rattle.sql_ast.proofs.Hiding.{comes_hiding, comes_found}
use Rattle.sql_ast.proofs.sight.Sight.push.Goals as goal

pub invariant_of-self-in-Ok : goal.invariant_of-self-in-Ok
invariant_of-self-in-Ok c = record {
  hiding = comes_hiding c.args.self.now.held.items c.push.new.self.items _ c.in_ok-push.ensures.items c.args.self.now.hiding (c.get-hides.ensures ∙ c.args.self.now.found c.args.item.alias.now);
  found = comes_found c.args.self.now.places c.put.new.self c.args.self.now.held.items c.push.new.self.items _ c.len-number.result c.in_ok-push.ensures.items (omega (arith, c.len-number.ensures, c.push.new.self.ok.0)) c.args.self.now.found c.in-Ok.ensures.ok;
}
