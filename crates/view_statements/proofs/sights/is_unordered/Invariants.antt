use Rattle.std.proofs.Common.{◌≡◌, ◌-◌}
use Rattle.std.specs.List.{list_all}
use Rattle.view_shapes.specs.Mentions.{numbers}
use Rattle.view_statements.specs.Places.{is_unordered_at, frame_of}
use Rattle.view_statements.proofs.sights.is_unordered.Given as goal

abbrev pub invariant-loop-k : goal.invariant-loop-k
invariant-loop-k l =
    list_all (is_unordered_at (frame_of l.f).within l.name) (numbers l.k (l.f.end - l.k))
    ≡ list_all (is_unordered_at (frame_of l.f).within l.name) (numbers l.from (l.f.end - l.from))
