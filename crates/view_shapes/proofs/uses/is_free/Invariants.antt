use Rattle.std.proofs.Common.{◌≡◌, ◌-◌, ◌||◌, not}
use Rattle.std.specs.List.{list_all}
use Rattle.view_shapes.specs.Mentions.{numbers}
use Rattle.view_shapes.specs.Uses.{is_use, stands_alone}
use Rattle.view_shapes.proofs.uses.is_free.Given as goal

abbrev pub invariant-loop-number : goal.invariant-loop-number
invariant-loop-number l =
    list_all (λ k. not (stands_alone l.items l.name k) || is_use l.items l.closings l.rounds k) (numbers l.number (l.to - l.number))
    ≡ list_all (λ k. not (stands_alone l.items l.name k) || is_use l.items l.closings l.rounds k) (numbers l.from (l.to - l.from))
