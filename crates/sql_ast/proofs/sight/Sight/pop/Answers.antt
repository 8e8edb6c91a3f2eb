use Rattle.std.proofs.Common.{arith}
use Rattle.sql_ast.proofs.Hiding.{gone_last, goes_hiding, goes_found}
use Rattle.sql_ast.proofs.sight.Sight.pop.Goals as goal

pub invariant_of-self-2 : goal.invariant_of-self-2
invariant_of-self-2 c =
    let last = gone_last c.args.self.now.held.items c.deref.result.now c.pop.new.self.items c.in-Some.last.now c.args.self.now.held.len c.in-Some.ensures.value c.deref.ensures.value c.pop.ensures.rest (omega (arith, c.args.self.now.held.ok.0)) in
    record {
      hiding = goes_hiding c.pop.new.self.items c.args.self.now.held.items c.in-Some.last.now last c.args.self.now.hiding;
      found = goes_found c.args.self.now.places c.put.new.self c.pop.new.self.items c.args.self.now.held.items c.in-Some.last.now last c.args.self.now.hiding c.args.self.now.found c.in_ok-put.ensures.ok;
    }
