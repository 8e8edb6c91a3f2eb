use Rattle.std.proofs.Common.{◌≡◌, ◌++◌, length}
use Rattle.qbs_base.specs.Places.{HasRoom, first_place, place_after}
use Rattle.schema.specs.Tokens.{tokens_from, tokens_of}
use Rattle.schema_text.proofs.lexing.lex.Given as goal

abbrev pub invariant-loop-rest : goal.invariant-loop-rest
invariant-loop-rest l = record {
  room : HasRoom l.place (length l.rest);
  so_far : l.list.items ++ tokens_from l.place 0 l.rest ≡ tokens_of l.fn.text;
  last : place_after l.place l.rest ≡ place_after first_place l.fn.text;
}

abbrev pub decreases-loop-rest : goal.decreases-loop-rest
decreases-loop-rest l = length l.rest
