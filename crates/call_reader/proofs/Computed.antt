-- The worked calls compute.
use Rattle.std.proofs.Common.{◌≡◌, false, Ok, refl, codes}
use lib.Utf8.{encode}
use Rattle.std.specs.Str.{chars, is_utf8}
use Rattle.std.specs.Str.Lossy.{utf8_valid_len}
use Rattle.java_lex.specs.Cutting.{nodes_of}
use Rattle.java_lex.specs.Lexing.{lexed, tokens_from}
use Rattle.java_lex.specs.Pieces.{piece_of, part_of, body_from}
use Rattle.java_grammar.specs.Printed.{tokens_of as tokens_of_program}
use Rattle.java_grammar.specs.InGrammar.{InMethod, IsInGrammar}
use Rattle.java_grammar.specs.ReadBack.{SameProgram}
use Rattle.java_grammar.proofs.Methods.{tokens_have_program}
use Rattle.call_reader.specs.SpelledOut.{spelled_out, has_call}
use Rattle.call_reader.specs.Worked.{tokens_of, call, query, sum, no_value, class_tokens, first_body, second_body, method_of, class, text, text_tokens}

pub call_spelled : spelled_out (tokens_of call) ≡ tokens_of query
call_spelled = refl

pub sum_spelled : spelled_out (tokens_of sum) ≡ tokens_of no_value
sum_spelled = refl

pub query_has_none : has_call (tokens_of query) ≡ false
query_has_none = refl

first_in : InMethod (method_of (codes "g") first_body)
first_in = record { result = tt; name = refl; params = tt; body = (tt, tt) }

second_in : InMethod (method_of (codes "f") second_body)
second_in = record { result = tt; name = refl; params = tt; body = ((tt, refl, (tt, tt)), (refl, tt)) }

in_grammar : IsInGrammar class
in_grammar = record { «package» = tt; imports = tt; name = refl; methods = (first_in, (second_in, tt)) }

nodes : nodes_of (spelled_out (tokens_of class_tokens)) ≡ tokens_of_program class
nodes = refl

pub class_is_read : SameProgram (spelled_out (tokens_of class_tokens)) class
class_is_read = tokens_have_program (spelled_out (tokens_of class_tokens)) class in_grammar nodes

pub text_lexed : lexed text ≡ Ok text_tokens
unfolding tokens_from piece_of part_of body_from utf8_valid_len is_utf8 chars encode
text_lexed = refl

text_nodes : nodes_of (spelled_out text_tokens.list) ≡ tokens_of_program class
text_nodes = refl

pub text_is_read : SameProgram (spelled_out text_tokens.list) class
text_is_read = tokens_have_program (spelled_out text_tokens.list) class in_grammar text_nodes
