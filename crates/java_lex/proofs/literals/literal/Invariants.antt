use Rattle.std.proofs.Common.{◌≡◌, ◌+◌, [], length}
use Rattle.std.specs.String.{string_bytes}
use Rattle.java_lex.specs.Pieces.{behind, body_from}
use Rattle.java_lex.proofs.literals.literal.Given as goal

abbrev pub invariant-loop-text : goal.invariant-loop-text
invariant-loop-text l = record {
  room : l.len + length l.rest ≡ 1 + length l.bytes;
  so_far : behind l.len (string_bytes l.text) (body_from 0 l.rest) ≡ behind 1 [] (body_from 0 l.bytes);
}

abbrev pub decreases-loop-text : goal.decreases-loop-text
decreases-loop-text l = length l.rest
