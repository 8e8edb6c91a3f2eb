use Rattle.std.proofs.Common.{◌≡◌, ◌+◌, ◌≤◌, length, string_bytes}
use Rattle.java_grammar.specs.Marks.{all_strict}
use Rattle.java_grammar.specs.Dotted.{dotted_from}
use Rattle.java_grammar.proofs.dotted.dotted.Given as goal

abbrev pub invariant-loop : goal.invariant-loop
invariant-loop l = record {
  so_far : dotted_from l.star (string_bytes l.text) (all_strict l.rest) ≡ dotted_from l.star l.first (all_strict l.tokens);
  tokens_left : length l.rest + l.counter ≤ length l.tokens;
}
