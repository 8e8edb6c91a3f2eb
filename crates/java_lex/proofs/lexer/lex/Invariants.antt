use Rattle.std.proofs.Common.{◌≡◌, length}
use Rattle.qbs_base.specs.Places.{HasRoom, place_after, first_place}
use Rattle.java_lex.specs.Lexing.{tokens_from}
use Rattle.java_lex.proofs.Steps.{with_tokens}
use Rattle.java_lex.proofs.lexer.lex.Given as goal

abbrev pub invariant-loop-rest : goal.invariant-loop-rest
invariant-loop-rest l = record {
  room : HasRoom l.place (length l.rest);
  so_far : with_tokens l.list (tokens_from l.place 0 l.rest) ≡ tokens_from first_place 0 l.fn.bytes;
  stands : place_after l.place l.rest ≡ place_after first_place l.fn.bytes;
}

abbrev pub decreases-loop-rest : goal.decreases-loop-rest
decreases-loop-rest l = length l.rest
