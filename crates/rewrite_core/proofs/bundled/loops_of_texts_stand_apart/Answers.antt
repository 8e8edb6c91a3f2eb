-- The loops of a program that a text has stand apart.
use Rattle.java_grammar.specs.Marks.{all_strict, all_free}
use Rattle.java_grammar.proofs.TwoPlaces.{strict_tokens, free_tokens, one_path}
use Rattle.rewrite_core.proofs.bundled.loops_of_texts_stand_apart.Goals as goal

pub returns-clause-readable : goal.returns-clause-readable
returns-clause-readable c = λ text tokens p lexes has m n a b first other l. one_path text tokens (all_strict tokens.list) p lexes (strict_tokens tokens.list) has a b l

pub returns-clause-of_grammar : goal.returns-clause-of_grammar
returns-clause-of_grammar c = λ text tokens p lexes has m n a b first other l. one_path text tokens (all_free tokens.list) p lexes (free_tokens tokens.list) has a b l
