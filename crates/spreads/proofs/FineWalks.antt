-- A walk over a select has no fault as a walk over its table with the condition round the body, where it has none itself.
use Rattle.std.proofs.Common.{◌≡◌, ℕ, Bool, true, false, not, List, [], ◌∷◌, ◌++◌, Option, Some, refl, sym, ap, ◌∙◌, subst, arith}
use Rattle.std.specs.Prelude.{nat_eq}
use Rattle.std.specs.Option.{option_map}
use Rattle.std.specs.List.{AllByRecursion}
use Rattle.std.proofs.lemmas.Bool.Decides.{nat_tests}
use Rattle.qbs_base.specs.declared.span.Span.{Span}
use Rattle.qbs_base.specs.Columns.{table_number}
use Rattle.qbs_base.specs.Values.{Schema}
use Rattle.sql_ast.specs.declared.tree.SqlItem.TheVariants as items
use Rattle.sql_ast.specs.Tree.{Filter, Everything, Where, PlainListing, PlainQuery, Listing}
use Rattle.java_ast.specs.Names.{Names}
use Rattle.java_ast.specs.Tree as tree
use Rattle.java_ast.specs.Tree.{Spelled, Expression, Statements}
use Rattle.java_mean.specs.declared.rule.TypeRule.TheVariants as rules
use Rattle.java_mean.specs.declared.types.JavaType.{JavaType}
use Rattle.java_mean.specs.declared.types.JavaType.TheVariants.{Of, Listed}
use Rattle.java_mean.specs.declared.types.Kindred.{Kindred}
use Rattle.java_mean.specs.declared.types.Kindred.TheVariants.{Only}
use Rattle.java_mean.specs.declared.types.Single.{Single}
use Rattle.java_mean.specs.declared.types.Single.TheVariants.{RowOf}
use Rattle.java_mean.specs.Asks.{item_type, element_type}
use Rattle.java_mean.specs.Places.{Around, Place, around, step, value, walking, in_expression, in_expressions, in_statement, in_statements, in_for_each}
use Rattle.java_mean.specs.Queries.{Reader}
use Rattle.java_mean.specs.Rules.{of_bool, only_if, is_many_kindred, unless, unless_passes, unless_element, walked_element, set_of_rows, taken, type_of, at_of, same_type, lists, is_single, unknown_type, fits_query, params_of, arguments}
use Rattle.java_mean.specs.Types.{single_spelled, type_spelled}
use Rattle.java_mean.specs.Visible.{Visible, is_visible, declared_in}
use Rattle.java_mean.specs.WellTyped.{marked, faults_at, faults_in}
use Rattle.java_mean.proofs.Faultless.{none_both, none_in, none_at, fine, only_none, not_none, neither, got_some, same_single_is, same_type_is}
use Rattle.spreads.specs.Conditions.{condition_in}
use Rattle.spreads.specs.Spread.{Select, select_of, table_of, tested, walked}
use Rattle.spreads.proofs.Chosen.{SelectIs, select_is}
use Rattle.spreads.proofs.FineConditions.{Known, declared_known, WithRow, with_row, AreGiven, condition_fine}
use Rattle.spreads.proofs.Known.{IsFrom, FilterHas, text_known}
use Rattle.spreads.proofs.Selected.{FoundSelect, found_select}
use Rattle.spreads.proofs.Truth.{FilterIs}
use Rattle.spreads.proofs.Typed.{select_typed}
use Rattle.spreads.proofs.FewerWalked.{both_none, joined, outer_fewer, statements_fewer}

-- ---- Selects

-- what is known of a select that an expression is
pub record SelectKnown (schema : Schema) (read : List ℕ → Option PlainQuery) (assigned : Names) (e : Expression) (s : Select) : Type 0 where
  pub found : FoundSelect schema read assigned e s
  pub is : SelectIs schema s.query
  pub number : table_number schema (table_of s.query.from) ≡ Some is.from.table
  pub filter_ : FilterIs schema is.from.table s.query s.query.filter
  pub has : FilterHas schema s.query.from s.query.filter

pub select_known : (schema : Schema) (reader : Reader schema) (assigned : Names) (e : Expression) (s : Select) → select_of schema reader.read assigned e ≡ Some s → SelectKnown schema reader.read assigned e s
select_known schema reader assigned e s h =
    let f = found_select schema reader.read assigned e s h in
    let is = select_is schema s.query f.select in
    let known = text_known schema f.text (Listing s.query) ((reader.exact f.text (Listing s.query)).0 f.read_so) in
    let froms : AllByRecursion (IsFrom schema) (is.from ∷ []) = subst (AllByRecursion (IsFrom schema)) is.alone known.names.items in
    record {
      found = f;
      is = is;
      number = ap (λ z. table_number schema (table_of z)) is.alone ∙ froms.0;
      filter_ = select_typed schema s.query is known;
      has = known.names.filter_;
    }

same_number : (n : ℕ) → nat_eq n n ≡ true
same_number n = grind (arith, nat_tests)

is_there : (a : Single) (o : Option Single) (b : Single) → o ≡ Some b → is_single a o ≡ true → a ≡ b
is_there a o b e h = same_single_is a b (ap (is_single a) (sym e) ∙ h)

listed_there : (schema : Schema) (o : Option Single) (a b : Single) (q : PlainListing) → o ≡ Some a → element_type schema q q.group ≡ Some b → lists schema o (Some (Listing q)) ≡ true → a ≡ b
listed_there schema o a b q e k h = is_there a (element_type schema q q.group) b k (ap (λ z. lists schema z (Some (Listing q))) (sym e) ∙ h)

-- the type of a list of rows, as far as the rules go
abbrev pub rows : ℕ → Option Kindred
rows n = Some (Only (Listed (RowOf n)))

module _ (schema : Schema) (read : List ℕ → Option PlainQuery) (r : Option Spelled) where
  abbrev Fine : List Place → Type 0
  Fine ps = faults_in schema read r ps ≡ []

  -- the select's rows are those of its table, and its arguments have the types of its parameters
  pub record IsFineSelect (assigned : Names) (vs : Visible) (e : Expression) (s : Select) (n : ℕ) : Type 0 where
    pub type : type_of schema vs e ≡ rows n
    pub given : AreGiven schema read r assigned vs s.arguments s.query.params

  pub select_fine : (assigned : Names) (vs : Visible) (e : Expression) (s : Select) (k : SelectKnown schema read assigned e s) → Fine (in_expression vs e) → IsFineSelect assigned vs e s k.is.from.table
  select_fine assigned vs e s k h =
      let f = k.found in
      let query : Expression = tree.Query f.at (tree.Table f.name) f.text s.arguments in
      let here : Fine (in_expression vs query) = subst (λ z. Fine (in_expression vs z)) f.is h in
      let t = none_at schema read r (value vs query) (in_expressions vs s.arguments) here in
      let a = got_some (single_spelled schema (tree.Table f.name)) f.at t.left.known in
      let listed : lists schema (single_spelled schema (tree.Table f.name)) (read f.text) ≡ true = not_none (lists schema (single_spelled schema (tree.Table f.name)) (read f.text)) f.at t.left.queried in
      let element : element_type schema s.query s.query.group ≡ Some (RowOf k.is.from.table) =
      ap (element_type schema s.query) k.is.group ∙ ap (item_type schema s.query.from) k.is.whole ∙ ap (λ z. item_type schema z (items.Whole 1)) k.is.alone
      in
      let row : a.value ≡ RowOf k.is.from.table = listed_there schema (single_spelled schema (tree.Table f.name)) a.value (RowOf k.is.from.table) s.query a.is element (ap (lists schema (single_spelled schema (tree.Table f.name))) (sym f.read_so) ∙ listed) in
      let many : fits_query (read f.text) s.arguments ≡ true = not_none (fits_query (read f.text) s.arguments) f.at t.left.counted in
      record {
        type = ap (type_of schema vs) f.is ∙ ap (λ (o : Option Single). option_map (λ (a : Single). Only (Listed a)) o) (a.is ∙ ap (λ z. let o : Option Single = Some z in o) row);
        given = record {
          fine = t.right;
          matched = ap (λ o. arguments schema vs (params_of o) s.arguments) (sym f.read_so) ∙ t.left.matched;
          many = ap (λ o. fits_query o s.arguments) (sym f.read_so) ∙ many;
          stay = f.stay;
        };
      }

  -- ---- A walk over rows, as one over their table

  abbrev WalkStep : Visible → Around → Bool → Span → Spelled → List ℕ → Expression → Statements → Type 0
  WalkStep vs w last at ty x e body = faults_at schema read r (step vs w last (tree.ForEach at ty x e body)) ≡ []

  -- what is walked has this type
  row_spelled : (vs : Visible) (w : Around) (last : Bool) (at : Span) (ty : Spelled) (x : List ℕ) (e : Expression) (body : Statements) (n : ℕ) → type_of schema vs e ≡ rows n → WalkStep vs w last at ty x e body → type_spelled schema ty ≡ Some (Of (RowOf n))
  row_spelled vs w last at ty x e body n type h =
      let f = fine schema read r (step vs w last (tree.ForEach at ty x e body)) h in
      let k = got_some (type_spelled schema ty) at f.known in
      let a = none_both (set_of_rows ty at) _ f.matched in
      let b = none_both (unless_passes is_many_kindred (type_of schema vs e) (at_of e)) (unless_element (walked_element (type_of schema vs e)) (type_spelled schema ty) (at_of e)) a.right in
      let c : unless_element (Some (RowOf n)) (Some k.value) (at_of e) ≡ [] = ap (λ o. unless_element (Some (RowOf n)) o (at_of e)) (sym k.is) ∙ ap (λ o. unless_element (walked_element o) (type_spelled schema ty) (at_of e)) (sym type) ∙ b.right in
      k.is ∙ ap (λ z. let o : Option JavaType = Some z in o) (sym (same_type_is (Of (RowOf n)) k.value (not_none (same_type (Of (RowOf n)) k.value) (at_of e) c)))

  fetch_type : (vs : Visible) (at : Span) (name : List ℕ) (n : ℕ) → table_number schema name ≡ Some n → type_of schema vs (tree.Fetch at name) ≡ rows n
  fetch_type vs at name n e = ap (λ (o : Option ℕ). option_map (λ (n : ℕ). Only (Listed (RowOf n))) o) e

  fetch_fine : (vs : Visible) (at : Span) (name : List ℕ) (n : ℕ) → table_number schema name ≡ Some n → Fine (in_expression vs (tree.Fetch at name))
  fetch_fine vs at name n e = rw e refl

  fetch_step : (vs : Visible) (w : Around) (last : Bool) (at : Span) (ty : Spelled) (x : List ℕ) (e : Expression) (body : Statements) (name : List ℕ) (n : ℕ) → table_number schema name ≡ Some n → type_of schema vs e ≡ rows n → WalkStep vs w last at ty x e body → WalkStep vs w last at ty x (tree.Fetch at name) body
  fetch_step vs w last at ty x e body name n number type h =
      let f = fine schema read r (step vs w last (tree.ForEach at ty x e body)) h in
      let a = none_both (set_of_rows ty at) _ f.matched in
      let there = fetch_type vs at name n number in
      let spelled = row_spelled vs w last at ty x e body n type h in
      let many : unless_passes is_many_kindred (type_of schema vs (tree.Fetch at name)) at ≡ [] = ap (λ o. unless_passes is_many_kindred o at) there in
      let element : unless_element (walked_element (type_of schema vs (tree.Fetch at name))) (type_spelled schema ty) at ≡ [] =
      ap (λ o. unless_element (walked_element o) (type_spelled schema ty) at) there ∙ ap (λ o. unless_element (Some (RowOf n)) o at) spelled ∙ ap (λ b. only_if (not b) at) (same_number n)
      in
      let matched : set_of_rows ty at ++ (unless_passes is_many_kindred (type_of schema vs (tree.Fetch at name)) at ++ unless_element (walked_element (type_of schema vs (tree.Fetch at name))) (type_spelled schema ty) at) ≡ [] =
      both_none (set_of_rows ty at) _ a.left (both_none (unless_passes is_many_kindred (type_of schema vs (tree.Fetch at name)) at) _ many element)
      in
      both_none (marked rules.Unknown (unknown_type schema ty at)) _ (ap (marked rules.Unknown) f.known)
      (both_none (marked rules.Mismatch (set_of_rows ty at ++ (unless_passes is_many_kindred (type_of schema vs (tree.Fetch at name)) at ++ unless_element (walked_element (type_of schema vs (tree.Fetch at name))) (type_spelled schema ty) at))) _ (ap (marked rules.Mismatch) matched)
      (both_none (marked rules.DoubleName (only_if (taken vs x) at)) [] (ap (marked rules.DoubleName) f.single) refl))

  abbrev FineWalk : Visible → Around → Bool → Span → Spelled → List ℕ → Expression → Statements → Type 0
  FineWalk vs w last at ty x e body = Fine (in_statement schema vs w last (tree.ForEach at ty x e body))

  -- the step of a walk, its list and its body
  pub record WalkParts (vs : Visible) (w : Around) (last : Bool) (at : Span) (ty : Spelled) (x : List ℕ) (e : Expression) (body : Statements) : Type 0 where
    pub first : WalkStep vs w last at ty x e body
    pub list : Fine (in_expression vs e)
    pub inside : Fine (in_statements schema (declared_in vs x (type_spelled schema ty)) (in_for_each e w) body)

  pub walk_parts : (vs : Visible) (w : Around) (last : Bool) (at : Span) (ty : Spelled) (x : List ℕ) (e : Expression) (body : Statements) → FineWalk vs w last at ty x e body → WalkParts vs w last at ty x e body
  walk_parts vs w last at ty x e body h =
      let inner : List Place = in_statements schema (declared_in vs x (type_spelled schema ty)) (in_for_each e w) body in
      let t = none_both (faults_at schema read r (step vs w last (tree.ForEach at ty x e body))) (faults_in schema read r (in_expression vs e ++ inner)) h in
      let u = none_in schema read r (in_expression vs e) inner t.right in
      record { first = t.left; list = u.left; inside = u.right }

  pub walk_whole : (vs : Visible) (w : Around) (last : Bool) (at : Span) (ty : Spelled) (x : List ℕ) (e : Expression) (body : Statements) → WalkParts vs w last at ty x e body → FineWalk vs w last at ty x e body
  walk_whole vs w last at ty x e body p =
      let inner : List Place = in_statements schema (declared_in vs x (type_spelled schema ty)) (in_for_each e w) body in
      both_none (faults_at schema read r (step vs w last (tree.ForEach at ty x e body))) (faults_in schema read r (in_expression vs e ++ inner)) p.first (joined schema read r (in_expression vs e) inner p.list p.inside)

  pub over_table : (vs : Visible) (w : Around) (last : Bool) (at : Span) (ty : Spelled) (x : List ℕ) (e : Expression) (body : Statements) (name : List ℕ) (n : ℕ) → table_number schema name ≡ Some n → type_of schema vs e ≡ rows n → FineWalk vs w last at ty x e body → FineWalk vs w last at ty x (tree.Fetch at name) body
  over_table vs w last at ty x e body name n number type h =
      let p = walk_parts vs w last at ty x e body h in
      walk_whole vs w last at ty x (tree.Fetch at name) body
      (record {
        first = fetch_step vs w last at ty x e body name n number type p.first;
        list = fetch_fine vs at name n number;
        inside = statements_fewer schema read r body (declared_in vs x (type_spelled schema ty)) (walking e w.walked) w.walked true false (outer_fewer e w.walked) p.inside;
      })

  -- ---- The condition round the body

  tested_fine : (assigned : Names) (vs us : Visible) (walked : List (List ℕ)) (at : Span) (x : List ℕ) (n : ℕ) (s : Select) (f : Filter) (body : Statements) → Known vs → WithRow vs us x n → AreGiven schema read r assigned vs s.arguments s.query.params → FilterIs schema n s.query f → Fine (in_statements schema us (around walked true false) body) → Fine (in_statements schema us (around walked true false) (tested schema at x s f body))
  tested_fine assigned vs us walked at x n s Everything body known row given is h = h
  tested_fine assigned vs us walked at x n s (Where c) body known row given is h =
      let test : Expression = condition_in schema s.query at x s.arguments c in
      let k = condition_fine schema read r vs us x n known row at assigned s.query s.arguments given c is in
      let one : faults_at schema read r (step us (around walked true false) true (tree.If at test body)) ≡ [] = ap (λ o. marked rules.Mismatch (unless o of_bool (at_of test)) ++ []) k.type in
      let inner : List Place = in_statements schema us (around walked true false) body in
      joined schema read r (in_statement schema us (around walked true false) true (tree.If at test body)) []
      (both_none (faults_at schema read r (step us (around walked true false) true (tree.If at test body))) (faults_in schema read r (in_expression us test ++ inner)) one (joined schema read r (in_expression us test) inner k.fine h)) refl

  -- a walk over the table of a select, with another body inside of its condition
  pub walked_fine : (assigned : Names) (vs : Visible) (w : Around) (last : Bool) (at : Span) (ty : Spelled) (x : List ℕ) (s : Select) (n : ℕ) (body body' : Statements) → Known vs → table_number schema (table_of s.query.from) ≡ Some n → AreGiven schema read r assigned vs s.arguments s.query.params → FilterIs schema n s.query s.query.filter → ((us : Visible) (w : Around) → Known us → Fine (in_statements schema us w body) → Fine (in_statements schema us w body')) → FineWalk vs w last at ty x (tree.Fetch at (table_of s.query.from)) body → Fine (in_statement schema vs w last (walked schema at ty x s body'))
  walked_fine assigned vs w last at ty x s n body body' known number given is goes h =
      let fetching : Expression = tree.Fetch at (table_of s.query.from) in
      let p = walk_parts vs w last at ty x fetching body h in
      let spelled = row_spelled vs w last at ty x fetching body n (fetch_type vs at (table_of s.query.from) n number) p.first in
      let f = fine schema read r (step vs w last (tree.ForEach at ty x fetching body)) p.first in
      let new = neither (is_visible vs x) _ (only_none (taken vs x) at f.single) in
      let us : Visible = declared_in vs x (type_spelled schema ty) in
      let known' : Known us = declared_known vs x (type_spelled schema ty) (Of (RowOf n)) known new.left spelled in
      walk_whole vs w last at ty x fetching (tested schema at x s s.query.filter body')
      (record {
        first = p.first;
        list = p.list;
        inside = tested_fine assigned vs us w.walked at x n s s.query.filter body' known (with_row vs x n (type_spelled schema ty) new.left spelled) given is (goes us (around w.walked true false) known' p.inside);
      })
