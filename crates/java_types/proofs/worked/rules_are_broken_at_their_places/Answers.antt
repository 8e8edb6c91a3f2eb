-- What reads a query's text.
use Rattle.std.proofs.Common.{refl}
use Rattle.sql_ast.specs.Lexer.{tokens_in}
use Rattle.sql_ast.specs.Reader.{listed_at, atom_at, negation_in, joined_from, conjunction_at, condition_at}
use Rattle.java_types.proofs.worked.rules_are_broken_at_their_places.Goals as goal

pub returns-clause-list_for_a_number : goal.returns-clause-list_for_a_number
unfolding tokens_in listed_at atom_at negation_in joined_from conjunction_at condition_at
returns-clause-list_for_a_number c = refl

pub returns-clause-least_number : goal.returns-clause-least_number
unfolding tokens_in listed_at atom_at negation_in joined_from conjunction_at condition_at
returns-clause-least_number c = refl

pub returns-clause-without_order : goal.returns-clause-without_order
unfolding tokens_in listed_at atom_at negation_in joined_from conjunction_at condition_at
returns-clause-without_order c = refl

pub returns-clause-argument_too_many : goal.returns-clause-argument_too_many
unfolding tokens_in listed_at atom_at negation_in joined_from conjunction_at condition_at
returns-clause-argument_too_many c = refl
