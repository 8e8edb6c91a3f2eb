use Rattle.std.proofs.Common.{arith}
use Rattle.sql_ast.proofs.Hiding.{no_only, one_only}
use Rattle.sql_ast.proofs.sight.Sight.only.Goals as goal

pub returns-then-len-before-ne1 : goal.returns-then-len-before-ne1
returns-then-len-before-ne1 c = no_only c.args.before c.args.self.now.held.items c.len.result (omega (arith, c.len.ensures, c.args.self.now.held.ok.0)) c.if-len-before-ne1.true

pub returns : goal.returns
returns c = one_only c.args.before c.args.self.now.held.items c.len-2.result c.index.result.now (omega (arith, c.len-2.ensures, c.args.self.now.held.ok.0)) (omega (arith, c.if-len-before-ne1.false, c.len.ensures, c.len-2.ensures)) c.requires c.index.ensures
