-- A query call breaks no rule where its text has the query, its arguments break none, and its elements are spelled as the query
-- lists them.
use Rattle.std.proofs.Common.{◌≡◌, ℕ, Bool, true, not, List, [], ◌++◌, Option, Some, None, refl, ap, ap₂, ◌∙◌}
use Rattle.std.specs.Option.{option_map}
use Rattle.qbs_base.specs.declared.scalar.Ty.{Ty}
use Rattle.qbs_base.specs.declared.scalar.Ty.TheVariants as tys
use Rattle.qbs_base.specs.declared.span.Span.{Span}
use Rattle.qbs_base.specs.Values.{Schema}
use Rattle.sql_ast.specs.Answers.{is_order_complete}
use Rattle.sql_ast.specs.Tree.{PlainQuery, Listing, Number, Truth}
use Rattle.sql_ast.specs.Valid.{params_in}
use Rattle.sql_parts.proofs.Tools.{eq_itself}
use Rattle.java_ast.specs.Tree as tree
use Rattle.java_ast.specs.Tree.{Spelled, Expressions}
use Rattle.java_mean.specs.Asks.{element_type, answer_type}
use Rattle.java_mean.specs.declared.rule.TypeFault.{TypeFault}
use Rattle.java_mean.specs.declared.rule.TypeRule.TheVariants as rules
use Rattle.java_mean.specs.declared.types.JavaType.TheVariants.{Of, Listed, Distinct}
use Rattle.java_mean.specs.declared.types.Kindred.TheVariants.{Only}
use Rattle.java_mean.specs.declared.types.Single.{Single}
use Rattle.java_mean.specs.declared.types.Single.TheVariants.{ScalarOf, RowOf}
use Rattle.java_mean.specs.Places.{in_expression, in_expressions}
use Rattle.java_mean.specs.Rules.{type_of, set_of, lists_scalars, is_none, only_if, same_single, unless_passes, arguments, params_of, lists, is_single, is_number, is_truth, has_order, same_length, fits_query}
use Rattle.java_mean.specs.Types.{made_of, single_spelled}
use Rattle.java_mean.specs.Visible.{Visible}
use Rattle.java_mean.specs.WellTyped.{marked, faults_in}
use Rattle.rewrite_core.proofs.FaultlessArguments.{ty_itself, AreFine}

-- ---- The form of a query by what it answers

pub single_itself : (a : Single) → same_single a a ≡ true
single_itself (ScalarOf ty) = ty_itself ty
single_itself (RowOf n) = eq_itself n

lists_made : (a : Single) (o : Option Single) → made_of Listed o ≡ Some (Listed a) → is_single a o ≡ true
lists_made a (Some b) e = let same : b ≡ a = cc in ap (same_single a) same ∙ single_itself a
lists_made a None e = absurd cc

never_listed : (o : Option Single) (a : Single) → made_of Listed o ≡ Some (Of a) → ⊥
never_listed (Some b) a e = absurd cc
never_listed None a e = absurd cc

-- what answers a list lists its elements
lists_answer : (schema : Schema) (q : PlainQuery) (a : Single) → answer_type schema q ≡ Some (Listed a) → lists schema (Some a) (Some q) ≡ true
lists_answer schema (Listing q) a e = lists_made a (element_type schema q q.group) e
lists_answer schema (Number q) a e = absurd cc
lists_answer schema (Truth q) a e = absurd cc

-- what answers a number is a query of one, and what answers a truth value one of a truth value
number_answer : (schema : Schema) (q : PlainQuery) → answer_type schema q ≡ Some (Of (ScalarOf tys.Long)) → is_number (Some q) ≡ true
number_answer schema (Listing q) e = absurd (never_listed (element_type schema q q.group) (ScalarOf tys.Long) e)
number_answer schema (Number q) e = refl
number_answer schema (Truth q) e = absurd cc

truth_answer : (schema : Schema) (q : PlainQuery) → answer_type schema q ≡ Some (Of (ScalarOf tys.Bool)) → is_truth (Some q) ≡ true
truth_answer schema (Listing q) e = absurd (never_listed (element_type schema q q.group) (ScalarOf tys.Bool) e)
truth_answer schema (Number q) e = absurd cc
truth_answer schema (Truth q) e = refl

-- ---- Calls

module _ (schema : Schema) (read : List ℕ → Option PlainQuery) (r : Option Spelled) (vs : Visible) (at : Span) (text : List ℕ) (es : Expressions) (q : PlainQuery) (is : read text ≡ Some q) (fine : AreFine schema read r vs es (params_in q)) where
  -- faults of a call, but for its elements
  abbrev of_parts : List Span → Bool → Bool → Bool → List TypeFault
  of_parts ms l o n = marked rules.Mismatch ms ++ (marked rules.BadQuery (only_if (not l) at) ++ (marked rules.UnorderedQuery (only_if (not o) at) ++ (marked rules.Arity (only_if (not n) at) ++ [])))

  parts_none : (l o : Bool) → l ≡ true → o ≡ true → of_parts (arguments schema vs (params_in q) es) l o (same_length (params_in q) es) ≡ []
  parts_none l o e h =
      ap (λ ms. of_parts ms l o (same_length (params_in q) es)) fine.match ∙ ap (λ b. of_parts [] b o (same_length (params_in q) es)) e ∙ ap (λ b. of_parts [] true b (same_length (params_in q) es)) h ∙ ap (of_parts [] true true) fine.many

  -- of a call for a list
  abbrev of_query : Option Single → Option PlainQuery → List TypeFault
  of_query a o = marked rules.Unknown (only_if (is_none a) at) ++ of_parts (arguments schema vs (params_of o) es) (lists schema a o) (has_order o) (fits_query o es)

  -- A list query breaks no rule where its elements are spelled as it lists them, and its order is complete.
  pub query_none : (E : Spelled) (a : Single) → single_spelled schema E ≡ Some a → answer_type schema q ≡ Some (Listed a) → is_order_complete q ≡ true → faults_in schema read r (in_expression vs (tree.Query at E text es)) ≡ []
  query_none E a spelled answer order =
      ap (λ fs. fs ++ faults_in schema read r (in_expressions vs es)) (ap₂ of_query spelled is ∙ parts_none (lists schema (Some a) (Some q)) (is_order_complete q) (lists_answer schema q a answer) order)
      ∙ fine.none

  pub query_kind : (E : Spelled) (a : Single) → single_spelled schema E ≡ Some a → type_of schema vs (tree.Query at E text es) ≡ Some (Only (Listed a))
  query_kind E a spelled = ap (option_map (λ (b : Single). Only (Listed b))) spelled

  -- A set of a list of scalars breaks no rule either.
  pub set_none : (E : Spelled) (ty : Ty) → single_spelled schema E ≡ Some (ScalarOf ty) → answer_type schema q ≡ Some (Listed (ScalarOf ty)) → is_order_complete q ≡ true → faults_in schema read r (in_expression vs (tree.NewSetOf at (tree.Query at E text es))) ≡ []
  set_none E ty spelled answer order =
      ap (λ o. (marked rules.Mismatch (unless_passes lists_scalars o at) ++ []) ++ faults_in schema read r (in_expression vs (tree.Query at E text es))) (query_kind E (ScalarOf ty) spelled)
      ∙ query_none E (ScalarOf ty) spelled answer order

  pub set_kind : (E : Spelled) (ty : Ty) → single_spelled schema E ≡ Some (ScalarOf ty) → type_of schema vs (tree.NewSetOf at (tree.Query at E text es)) ≡ Some (Only (Distinct (ScalarOf ty)))
  set_kind E ty spelled = ap set_of (query_kind E (ScalarOf ty) spelled)

  -- of a call for a number or a truth value
  abbrev of_call : (Option PlainQuery → Bool) → Option PlainQuery → List TypeFault
  of_call test o = marked rules.Mismatch (arguments schema vs (params_of o) es) ++ (marked rules.BadQuery (only_if (not (test o)) at) ++ (marked rules.Arity (only_if (not (fits_query o es)) at) ++ []))

  call_none : (test : Option PlainQuery → Bool) → test (Some q) ≡ true → of_call test (read text) ≡ []
  call_none test h = ap (of_call test) is ∙ parts_none (test (Some q)) true h refl

  pub number_none : answer_type schema q ≡ Some (Of (ScalarOf tys.Long)) → faults_in schema read r (in_expression vs (tree.QueryLong at text es)) ≡ []
  number_none answer = ap (λ fs. fs ++ faults_in schema read r (in_expressions vs es)) (call_none is_number (number_answer schema q answer)) ∙ fine.none

  pub truth_none : answer_type schema q ≡ Some (Of (ScalarOf tys.Bool)) → faults_in schema read r (in_expression vs (tree.QueryBoolean at text es)) ≡ []
  truth_none answer = ap (λ fs. fs ++ faults_in schema read r (in_expressions vs es)) (call_none is_truth (truth_answer schema q answer)) ∙ fine.none
