use Rattle.std.proofs.Common.{◌≡◌, ◌-◌, ◌&&◌}
use Rattle.std.specs.List.{list_any}
use Rattle.view_shapes.specs.Mentions.{is_mention, is_set_at, numbers}
use Rattle.view_shapes.proofs.naming.may_be_set.Given as goal

abbrev pub invariant-loop-number : goal.invariant-loop-number
invariant-loop-number l =
    list_any (λ k. is_mention l.items l.name k && is_set_at l.items k) (numbers l.number (l.to - l.number))
    ≡ list_any (λ k. is_mention l.items l.name k && is_set_at l.items k) (numbers l.from (l.to - l.from))
