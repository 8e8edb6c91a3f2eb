use Rattle.std.proofs.Common.{◌≡◌, ◌+◌, length}
use Rattle.sql_parse.specs.Negations.{negations}
use Rattle.sql_parse.specs.Seen.{tokens_of}
use Rattle.sql_parse.proofs.conditions.skip_nots.Given as goal

abbrev pub invariant-loop-behind : goal.invariant-loop-behind
invariant-loop-behind l = record {
  room : l.count + length l.rest ≡ length l.tokens;
  so_far : (l.count + (negations (tokens_of l.rest)).0, (negations (tokens_of l.rest)).1) ≡ negations (tokens_of l.tokens);
}

abbrev pub decreases-loop-behind : goal.decreases-loop-behind
decreases-loop-behind l = length l.rest
