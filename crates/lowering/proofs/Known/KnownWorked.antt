-- The worked loop that tests a known list is of the kernel form, and its query is one of the schema.
use Rattle.std.proofs.Common.{◌≡◌, true, List, [], ◌∷◌, length, Option, Some, None, refl, sym, ap, ◌∙◌, subst, arith}
use Rattle.std.specs.List.{AllByRecursion}
use Rattle.std.specs.Option.{option_map}
use Rattle.sql_ast.specs.Lexer.{tokens_in}
use Rattle.sql_ast.specs.Reader.{listed_at, atom_at, negation_in, joined_from, conjunction_at, condition_at}
use Rattle.sql_ast.specs.Tree.{PlainQuery}
use Rattle.sql_ast.specs.Valid.{IsQueryOf}
use Rattle.sql_ast.specs.Worked.{staff_schema}
use Rattle.sql_ast.proofs.InvertedQuery.{has_query_valid}
use Rattle.java_ast.specs.Path.{found_in}
use Rattle.java_types.specs.Texts.{read_by}
use Rattle.java_types.proofs.Found.{found_exactly}
use Rattle.loop_text.specs.Statements.Setting.{is_found}
use Rattle.java_loops.specs.Kernel.Kernel.{broken, lowering, setting_at}
use Rattle.java_loops.specs.Kernel.Setting.{Setting}
use Rattle.lowering.specs.Asked.{queries_in}
use Rattle.lowering.specs.AskedWorked.{asked_text, asked_query, asking, AsksForRoles}

abbrev there : Option Setting
there = setting_at staff_schema (read_by staff_schema) (0 ∷ 2 ∷ []) asking

abbrev queries_there : Option Setting → Option (List PlainQuery)
queries_there = option_map (λ w. queries_in (lowering w).known)

setting_of_found : (o : Option Setting) → is_found o ≡ true → (w : Setting) × (o ≡ Some w)
setting_of_found (Some w) h = (w, refl)
setting_of_found None h = absurd cc

same_list : (a b : List PlainQuery) → Some a ≡ Some b → a ≡ b
same_list a b e = cc

asked_valid : IsQueryOf staff_schema asked_query
unfolding tokens_in listed_at atom_at negation_in joined_from conjunction_at condition_at
asked_valid =
    let many : length asked_text ≡ 58 = refl in
    has_query_valid staff_schema asked_text asked_query (omega (arith, many)) ((found_exactly staff_schema asked_text asked_query).0 refl)

pub asks_for_roles : (w : Setting) × AsksForRoles w
unfolding tokens_in listed_at atom_at negation_in joined_from conjunction_at condition_at
asks_for_roles =
    let found = setting_of_found there refl in
    let none : found_in broken there ≡ None = refl in
    let queries : queries_there there ≡ Some (asked_query ∷ []) = refl in
    let known : queries_in (lowering found.0).known ≡ asked_query ∷ [] = same_list (queries_in (lowering found.0).known) (asked_query ∷ []) (sym (ap queries_there found.1) ∙ queries) in (
      found.0,
      record {
        loop = record { typed = refl; numbers = refl; there = found.1; unbroken = sym (ap (found_in broken) found.1) ∙ none };
        asks = known;
        queries = subst (AllByRecursion (IsQueryOf staff_schema)) (sym known) (asked_valid, tt);
      },
    )
