use Rattle.java_ast.proofs.Numbered.{method_some, method_none}
use Rattle.narrowing.proofs.blocks.numbered_method.Goals as goal

pub returns-in-Some : goal.returns-in-Some
returns-in-Some c = method_some c.args.methods.now c.args.number c.in-Some.m.now c.in-Some.m.now c.in-Some.ensures.lookup.3.0 c.in-Some.ensures.lookup.1

pub returns-in-None : goal.returns-in-None
returns-in-None c = method_none c.args.methods.now c.args.number c.in-None.ensures.lookup.3
