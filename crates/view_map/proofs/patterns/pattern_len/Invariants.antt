use Rattle.std.proofs.Common.{◌≡◌, ◌+◌, ◌≤◌, length}
use Rattle.view_map.specs.Patterns.{pattern_len, at_front}
use Rattle.view_map.proofs.Patterned.{added}
use Rattle.view_map.proofs.patterns.pattern_len.Given as goal

abbrev pub invariant-loop-rest : goal.invariant-loop-rest
invariant-loop-rest l = record {
  so_far : added l.len (pattern_len l.template l.before l.end l.rest) ≡ pattern_len l.template at_front l.end l.fn.items;
  left : l.len + length l.rest ≡ length l.fn.items;
  depth : l.before.depth + length l.rest ≤ length l.fn.items;
}

abbrev pub decreases-loop-rest : goal.decreases-loop-rest
decreases-loop-rest l = length l.rest
