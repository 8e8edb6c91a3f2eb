-- The known queries that code holds.
use Rattle.std.proofs.Common.{◌≡◌, ℕ, ◌<◌, ◌^◌, List, [], ◌∷◌, ◌++◌, length, map, Option, Some, refl, sym, ap, ◌∙◌, subst}
use Rattle.std.specs.List.{AllByRecursion}
use Rattle.std.specs.Option.{option_map}
use Rattle.qbs_base.specs.Values.{Schema}
use Rattle.sql_ast.specs.declared.tree.Query.{Query}
use Rattle.sql_ast.specs.Reading.{query}
use Rattle.sql_ast.specs.Valid.{IsQueryOf}
use Rattle.sql_ast.proofs.InvertedQuery.{has_query_valid}
use Rattle.java_mean.proofs.Members.{all_added}
use Rattle.java_types.specs.Texts.{read_by}
use Rattle.java_types.proofs.Found.{found_exactly}
use Rattle.kernel_lang.specs.Plain as kernel
use Rattle.sql_parts.specs.Given.{AreKnownTo}
use Rattle.lowering.specs.Asked.{queries_in}

-- what a text in memory is read as is a query of the schema
pub read_valid : (schema : Schema) (text : List ℕ) (o : Option Query) (q : Query) → option_map query o ≡ read_by schema text → o ≡ Some q → length text < 2 ^ 64 → IsQueryOf schema (query q)
read_valid schema text o q read is short = has_query_valid schema text (query q) short ((found_exactly schema text (query q)).0 (sym read ∙ ap (option_map query) is))

-- one query more
pub valid_added : (schema : Schema) (qs all : List Query) (q : Query) → all ≡ qs ++ q ∷ [] → AllByRecursion (λ x. IsQueryOf schema (query x)) qs → IsQueryOf schema (query q) → AllByRecursion (λ x. IsQueryOf schema (query x)) all
valid_added schema qs all q is h k = subst (AllByRecursion (λ x. IsQueryOf schema (query x))) (sym is) (all_added (λ x. IsQueryOf schema (query x)) qs q h k)

pub queries_held : (schema : Schema) (qs : List Query) → AllByRecursion (λ x. IsQueryOf schema (query x)) qs → AllByRecursion (IsQueryOf schema) (queries_in (map (λ x. Some (query x)) qs))
queries_held schema [] h = tt
queries_held schema (q ∷ qs) h = (h.0, queries_held schema qs h.1)

all_found : (qs : List Query) → queries_in (map (λ x. Some (query x)) qs) ≡ map query qs
all_found [] = refl
all_found (q ∷ qs) = ap (λ rest. query q ∷ rest) (all_found qs)

pub known_held : (schema : Schema) (f : kernel.Fragment) (qs : List Query) (args : List (List ℕ)) → AreKnownTo schema f (queries_in (map (λ x. Some (query x)) qs)) args → AreKnownTo schema f (map query qs) args
known_held schema f qs args h = subst (λ known. AreKnownTo schema f known args) (all_found qs) h
