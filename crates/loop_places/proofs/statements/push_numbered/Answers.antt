use Rattle.std.proofs.Common.{◌≡◌, subst}
use Rattle.java_ast.specs.Path.{and_then, numbered}
use Rattle.java_ast.specs.Reading.{statements}
use Rattle.java_ast.proofs.Numbered.{statement_some, statement_none}
use Rattle.loop_places.specs.AtNumbers.{alone}
use Rattle.loop_places.proofs.Numbers.{pushed_one, pushed_none}
use Rattle.loop_places.proofs.statements.push_numbered.Goals as goal

pub returns-in_default : goal.returns-in_default
returns-in_default c =
    subst (λ n. statements c.args.all.now.items ≡ and_then (statements c.args.all.now.items) (alone (numbered n (statements c.args.run.now)))) c.saturating_sub.ensures
    (pushed_none c.args.all.now.items c.args.run.now c.saturating_sub.result (statement_none c.args.run.now c.saturating_sub.result c.in_default.ensures.lookup.3))

pub returns : goal.returns
returns c =
    subst (λ n. statements c.push.new.self.items ≡ and_then (statements c.args.all.now.items) (alone (numbered n (statements c.args.run.now)))) c.saturating_sub.ensures
    (pushed_one c.args.all.now.items c.push.new.self.items c.args.run.now c.in_ok-copy_statement.field-0 c.in-Some.s.now c.saturating_sub.result c.in_ok-push.ensures.items c.in_ok-copy_statement.ensures
    (statement_some c.args.run.now c.saturating_sub.result c.in-Some.s.now c.in-Some.s.now c.in-Some.ensures.lookup.3.0 c.in-Some.ensures.lookup.1))
