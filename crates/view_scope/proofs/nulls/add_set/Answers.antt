use Rattle.std.proofs.Common.{◌≡◌, ◌<◌, ◌≤◌, ◌-◌, ◌++◌, arith, rules, ap, ◌∙◌}
use Rattle.view_scope.specs.Nulls.{listed}
use Rattle.view_scope.proofs.Sets.{set_first, null_first, least_first, set_none, null_none, least_none}
use Rattle.view_scope.proofs.nulls.add_set.Goals as goal

pub loop-left-init : goal.loop-left-init
loop-left-init c =
    let e : c.saturating_sub-left.result ≡ c.args.to - c.args.from = search rules in
    record {
      so_far = rw e (set_none c.args.items.now c.args.rounds.now c.args.from c.args.to c.args.list.now);
      null = rw e (null_none c.args.items.now c.args.from c.args.to);
      least = rw e (least_none c.args.items.now c.args.from c.args.to);
      room = omega (arith, e);
    }

pub loop-left-preserved : goal.loop-left-preserved
loop-left-preserved c =
    let some : 0 < c.loop-left.left = omega (arith, c.loop-left-test.true) in
    let room : c.loop-left.left ≤ c.args.to - c.args.from = c.loop-left.invariant.room in
    record {
      so_far =
          set_first c.args.items.now c.args.rounds.now c.args.from c.args.to c.loop-left.left c.args.list.now c.loop-left.list _ c.loop-left.null_behind _ c.loop-left.least
          c.loop-left.invariant.so_far c.loop-left.invariant.null c.loop-left.invariant.least some room c.is_behind-is_null_behind.ensures
          (c.in_ok-add_some.ensures ∙ ap (λ s. c.loop-left.list ++ listed s) c.set_at.ensures);
      null = null_first c.args.items.now c.args.from c.args.to c.loop-left.left c.loop-left.null_behind _ c.loop-left.invariant.null some room c.gives_null_from-null_behind.ensures;
      least = least_first c.args.items.now c.args.from c.args.to c.loop-left.left c.loop-left.least _ c.loop-left.invariant.least some room c.least_from-least.ensures;
      room = omega (arith, room);
    }
