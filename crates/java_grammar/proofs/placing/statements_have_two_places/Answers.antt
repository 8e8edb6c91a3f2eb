use Rattle.java_grammar.specs.Marks.{all_strict, all_free}
use Rattle.java_grammar.proofs.TwoPlaces.{strict_tokens, free_tokens, begins_with_token, one_path}
use Rattle.java_grammar.proofs.placing.statements_have_two_places.Goals as goal

pub returns-clause-one : goal.returns-clause-one
returns-clause-one c = λ text ts p a b lexes has l. one_path text ts (all_strict ts.list) p lexes (strict_tokens ts.list) has a b l

pub returns-clause-token : goal.returns-clause-token
returns-clause-token c = λ text ts p a s lexes has e. begins_with_token text ts (all_strict ts.list) p lexes (strict_tokens ts.list) has a s e

pub returns-clause-one_of_grammar : goal.returns-clause-one_of_grammar
returns-clause-one_of_grammar c = λ text ts p a b lexes has l. one_path text ts (all_free ts.list) p lexes (free_tokens ts.list) has a b l
