use Rattle.java_ast.specs.Reading.{expression}
use Rattle.narrowing.proofs.Made.{both_made}
use Rattle.narrowing.proofs.instead.both.Goals as goal

pub returns : goal.returns
returns c =
    both_made c.in_ok-all.all.items c.push.new.self.items c.args.s.now c.args.t.now c.in_ok-first.first c.in_ok-second.second c.with_value.result (expression c.args.value.value)
    c.in_ok-first.ensures c.with_value.ensures c.in_ok-all.ensures c.in_ok-second.ensures c.in_ok-push.ensures.items
