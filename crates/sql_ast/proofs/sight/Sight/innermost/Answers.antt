use Rattle.std.proofs.Common.{◌∙◌, arith}
use Rattle.sql_ast.proofs.Hiding.{plain_of, place_none, found_from, found_to, found_item}
use Rattle.sql_ast.proofs.sight.Sight.innermost.Goals as goal

pub returns-in-None : goal.returns-in-None
returns-in-None c = place_none c.args.alias.now (plain_of c.args.self.now.held.items) (c.in-None.ensures ∙ c.args.self.now.found c.args.alias.now)

pub overflow_sub-number : goal.overflow_sub-number
overflow_sub-number c = found_from c.args.alias.now c.args.self.now.held.items c.in-Some.number (c.in-Some.ensures ∙ c.args.self.now.found c.args.alias.now)

pub index-requires : goal.index-requires
index-requires c = omega (arith, found_to c.args.alias.now c.args.self.now.held.items c.in-Some.number (c.in-Some.ensures ∙ c.args.self.now.found c.args.alias.now), c.args.self.now.held.ok.0)

pub returns-in-Some : goal.returns-in-Some
returns-in-Some c = found_item c.args.alias.now c.args.self.now.held.items c.in-Some.number c.index.result.now (c.in-Some.ensures ∙ c.args.self.now.found c.args.alias.now) c.index.ensures
