use Rattle.std.proofs.Common.{refl}
use Rattle.vc_gen.proofs.Unguarded.{unguarded}
use Rattle.vc_gen.proofs.level.+add_levels.Goals as goal

pub returns-in_ok-push-in-None-split_first : goal.returns-in_ok-push-in-None-split_first
returns-in_ok-push-in-None-split_first t c =
    unguarded c.args.chain.now c.in-Some.loops.now c.args.guards.now c.in-Some.over.now c.args.all.now c.push-in-None-split_first.new.self _ c.add_levels-in-None-split_first.new.all c.add_levels-in-None-split_first.result c.in-Some.ensures.cases.0
    c.in-None-split_first.ensures.cases c.in_ok-push-in-None-split_first.ensures.ok refl c.add_levels-in-None-split_first.ensures
