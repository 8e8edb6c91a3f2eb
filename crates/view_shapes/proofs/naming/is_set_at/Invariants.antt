use Rattle.std.proofs.Common.{◌≡◌, ◌<◌, ◌-◌, ◌^◌, length}
use Rattle.view_shapes.specs.Mentions.{is_set_within}
use Rattle.view_shapes.proofs.naming.is_set_at.Given as goal

abbrev pub invariant-loop : goal.invariant-loop
invariant-loop l = record {
  so_far : is_set_within (l.end - l.counter) l.items l.first l.last ≡ is_set_within (length l.items) l.items l.fn.number l.fn.number;
  room : l.last < 2 ^ 63;
}
