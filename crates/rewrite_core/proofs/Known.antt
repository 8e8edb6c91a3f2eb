-- The whole answers of the known lists' queries at a loop are what emission asks for of the known lists.
use Rattle.std.proofs.Common.{◌≡◌, ℕ, List, [], ◌∷◌, map, slice_get, Option, Some, None, Result, Ok, refl, sym, ap, ap₂, ◌∙◌, subst}
use Rattle.std.specs.List.{AllByRecursion}
use Rattle.std.specs.Option.{option_map}
use Rattle.qbs_base.specs.declared.scalar.Scalar.{Scalar}
use Rattle.qbs_base.specs.declared.scalar.Value.{Value}
use Rattle.qbs_base.specs.declared.scalar.Value.TheVariants.{One}
use Rattle.qbs_base.specs.Values.{Database}
use Rattle.sql_ast.specs.Meaning.{Answered, Rows, query_answer}
use Rattle.sql_ast.specs.Tree.{PlainQuery}
use Rattle.sql_parts.specs.Given.{value_or, values_at, as_rows, AreAnswers}
use Rattle.java_ast.specs.Tree.{Expression, Expressions, NoMore, And}
use Rattle.java_mean.specs.declared.ending.Ending.{Ending}
use Rattle.java_mean.specs.Endings.{◌>>=◌}
use Rattle.java_mean.specs.Expression.{value_of, scalars_of, as_scalar, alone}
use Rattle.java_mean.specs.Statement.{State}
use Rattle.java_mean.specs.Store.{Store}
use Rattle.java_mean.specs.World.{World}
use Rattle.loop_text.specs.Kernel.KernelConditions.{Asked, asked_for}
use Rattle.java_ast.specs.Names.{Names}
use Rattle.java_loops.specs.Kernel.Setting.{Setting}
use Rattle.java_loops.specs.Lowering.Lowered.{query_asked, numbers_of_arguments}
use Rattle.java_loops.specs.Lowering.Numbering.{arguments, arguments_asked, entries_of}
use Rattle.java_loops.specs.Meant.Means.{AreMatched, HasScalar, IsWholeAnswer}
use Rattle.java_loops.proofs.Known.KnownGiven.{IsGivenKnown}
use Rattle.lowering.specs.Asked.{queries_in}

-- ---- Values

same_scalar : (o : Result Value Ending) (x y : Scalar) → o ≡ Ok (One x) → o ≡ Ok (One y) → x ≡ y
same_scalar o x y e h = cc

-- expressions have one list of scalars
pub one_matched : (world : World) (s : Store) (es : List Expression) (xs ys : List Scalar) → AreMatched (HasScalar world s) es xs → AreMatched (HasScalar world s) es ys → xs ≡ ys
one_matched world s [] [] [] m n = refl
one_matched world s (e ∷ es) (x ∷ xs) (y ∷ ys) m n = ap₂ (λ z zs. z ∷ zs) (same_scalar (value_of e world s) x y m.0 n.0) (one_matched world s es xs ys m.1 n.1)
one_matched world s [] [] (y ∷ ys) m n = absurd n
one_matched world s [] (x ∷ xs) ys m n = absurd m
one_matched world s (e ∷ es) [] ys m n = absurd m
one_matched world s (e ∷ es) (x ∷ xs) [] m n = absurd n

-- expressions with scalars have them together
matched_scalars : (world : World) (s : Store) (es : Expressions) (xs : List Scalar) → AreMatched (HasScalar world s) (arguments es) xs → scalars_of es world s ≡ Ok xs
matched_scalars world s NoMore [] m = refl
matched_scalars world s NoMore (x ∷ xs) m = absurd m
matched_scalars world s (And e es) [] m = absurd m
matched_scalars world s (And e es) (x ∷ xs) m =
    ap (λ o. o >>= λ u. as_scalar u >>= λ y. scalars_of es world s >>= λ zs. Ok (y ∷ zs)) m.0 ∙ ap (λ o. o >>= λ zs. Ok (x ∷ zs)) (matched_scalars world s es xs m.1)

same_list : (o : Result (List Scalar) Ending) (xs ys : List Scalar) → o ≡ Ok xs → o ≡ Ok ys → xs ≡ ys
same_list o xs ys e h = cc

-- what is found by numbers are the values at them
found_values : (values : List Scalar) (ks : List ℕ) (xs : List Scalar) → map (slice_get values) ks ≡ map Some xs → values_at values ks ≡ xs
found_values values [] [] h = refl
found_values values [] (x ∷ xs) h = absurd cc
found_values values (k ∷ ks) [] h = absurd cc
found_values values (k ∷ ks) (x ∷ xs) h =
    let both : slice_get values k ∷ map (slice_get values) ks ≡ Some x ∷ map Some xs = h in
    let first : slice_get values k ≡ Some x = cc in
    let rest : map (slice_get values) ks ≡ map Some xs = cc in
    ap₂ (λ z zs. z ∷ zs) (ap value_or first) (found_values values ks xs rest)

-- ---- One query

-- a text that answers has a query, which answers so
record HasQuery (read : List ℕ → Option PlainQuery) (db : Database) (text : List ℕ) (args : List Scalar) (answer : Answered) : Type 0 where
  query : PlainQuery
  is : read text ≡ Some query
  answers : query_answer db args query ≡ answer

has_query : (read : List ℕ → Option PlainQuery) (db : Database) (text : List ℕ) (args : List Scalar) (answer : Answered) (o : Option PlainQuery) → read text ≡ o → option_map (query_answer db args) o ≡ Some answer → HasQuery read db text args answer
has_query read db text args answer (Some q) e h = record { query = q; is = e; answers = cc }
has_query read db text args answer None e h = absurd cc

same_asked : (o : Option Asked) (a b : Asked) → o ≡ Some a → o ≡ Some b → a ≡ b
same_asked o a b e h = cc

-- ---- All

module _ (w : Setting) (world : World) (t : State) (asked : (text : List ℕ) (args : List Scalar) → world.ask text args ≡ option_map (query_answer world.db args) (w.read text)) (values : List Scalar) where
  abbrev queries_for : Names → List PlainQuery
  queries_for xs = queries_in (map (λ x. query_asked w.read (asked_for w.fragment.run x)) xs)

  abbrev numbers_for : Names → List (List ℕ)
  numbers_for xs = map (λ x. numbers_of_arguments (entries_of w) (arguments_asked (asked_for w.fragment.run x))) xs

  -- the query of a known list with the values at the numbers of its arguments answers the list
  record IsAnswered (x : List ℕ) (list : List Scalar) : Type 0 where
    asks : Asked
    found : asked_for w.fragment.run x ≡ Some asks
    query : PlainQuery
    is : w.read asks.text ≡ Some query
    answers : query_answer world.db (values_at values (numbers_of_arguments (entries_of w) (arguments asks.arguments))) query ≡ as_rows list

  is_answered : (x : List ℕ) (list : List Scalar) → IsGivenKnown w world t values x → IsWholeAnswer world t.store w.fragment.run x list → IsAnswered x list
  is_answered x list g h =
      let same : h.asked ≡ g.list.asked = same_asked (asked_for w.fragment.run x) h.asked g.list.asked h.found g.list.is in
      let have : scalars_of g.list.asked.arguments world t.store ≡ Ok h.values = ap (λ (a : Asked). scalars_of a.arguments world t.store) (sym same) ∙ matched_scalars world t.store h.asked.arguments h.values h.arguments in
      let args : g.holds.answer.arguments ≡ h.values = same_list (scalars_of g.list.asked.arguments world t.store) g.holds.answer.arguments h.values g.holds.answer.are have in
      let at_numbers : values_at values (numbers_of_arguments (entries_of w) (arguments g.list.asked.arguments)) ≡ h.values = found_values values (numbers_of_arguments (entries_of w) (arguments g.list.asked.arguments)) g.holds.answer.arguments g.arguments ∙ args in
      let answer : world.ask g.list.asked.text h.values ≡ Some (Rows (map alone list)) = ap (λ (a : Asked). world.ask a.text h.values) (sym same) ∙ h.answered in
      let q : HasQuery w.read world.db g.list.asked.text h.values (Rows (map alone list)) = has_query w.read world.db g.list.asked.text h.values (Rows (map alone list)) (w.read g.list.asked.text) refl (sym (asked g.list.asked.text h.values) ∙ answer) in
      record { asks = g.list.asked; found = g.list.is; query = q.query; is = q.is; answers = ap (λ zs. query_answer world.db zs q.query) at_numbers ∙ q.answers }

  -- Known lists that are whole answers are answers as emission asks for them.
  pub known_answers : (xs : Names) (lists : List (List Scalar)) → AllByRecursion (IsGivenKnown w world t values) xs → AreMatched (IsWholeAnswer world t.store w.fragment.run) xs lists → AreAnswers world.db values (queries_in (map (λ x. query_asked w.read (asked_for w.fragment.run x)) xs)) (map (λ x. numbers_of_arguments (entries_of w) (arguments_asked (asked_for w.fragment.run x))) xs) lists
  known_answers [] [] g m = tt
  known_answers [] (list ∷ lists) g m = absurd m
  known_answers (x ∷ xs) [] g m = absurd m
  known_answers (x ∷ xs) (list ∷ lists) g m =
      let a : IsAnswered x list = is_answered x list g.0 m.0 in
      let query : query_asked w.read (asked_for w.fragment.run x) ≡ Some a.query = ap (query_asked w.read) a.found ∙ a.is in
      subst (λ o. AreAnswers world.db values (queries_in (o ∷ map (λ x. query_asked w.read (asked_for w.fragment.run x)) xs)) (numbers_for (x ∷ xs)) (list ∷ lists)) (sym query)
      (subst (λ o. AreAnswers world.db values (a.query ∷ queries_for xs) (numbers_of_arguments (entries_of w) (arguments_asked o) ∷ numbers_for xs) (list ∷ lists)) (sym a.found) (a.answers, known_answers xs lists g.1 m.1))
