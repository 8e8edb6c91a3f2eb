-- What statements keep where others stand in their place: no fault, literals of 64 bits, and whether they return.
use Rattle.std.proofs.Common.{◌≡◌, ℕ, Bool, true, false, ◌||◌, ◌&&◌, cond, List, [], ◌++◌, Option, Some, None, refl, sym, ap, ◌∙◌, subst}
use Rattle.std.specs.Prelude.{bytes_eq}
use Rattle.std.specs.Option.{option_map}
use Rattle.qbs_base.specs.declared.span.Span.{Span}
use Rattle.qbs_base.specs.Values.{Schema}
use Rattle.sql_ast.specs.Tree.{Filter, Everything, Where, PlainQuery}
use Rattle.java_ast.specs.Names.{Names}
use Rattle.java_ast.specs.Tree as tree
use Rattle.java_ast.specs.Tree.{Spelled, Expression, Statement, Statements, Nothing, Then}
use Rattle.java_mean.specs.declared.types.JavaType.{JavaType}
use Rattle.java_mean.specs.declared.types.JavaType.TheVariants.{Listed}
use Rattle.java_mean.specs.declared.types.Kindred.TheVariants.{Only}
use Rattle.java_mean.specs.declared.types.Single.TheVariants.{RowOf}
use Rattle.java_mean.specs.Fits.{IsSeenAlike}
use Rattle.java_mean.specs.Numbers.{expression_fits, expressions_fit, statement_fits, statements_fit}
use Rattle.java_mean.specs.Places.{Around, Place, step, in_expression, in_parts, in_statement, in_statements, in_branch, in_while, in_for_each, is_nothing}
use Rattle.java_mean.specs.Rules.{taken, set_of_rows, unless, unless_both, copied_row, type_of, at_of, same_type, returns, returns_in}
use Rattle.java_mean.specs.Types.{type_spelled, types_after}
use Rattle.java_mean.specs.Visible.{Visible, is_visible, type_at, declared_in, after}
use Rattle.java_mean.specs.WellTyped.{faults_at, faults_in}
use Rattle.java_mean.proofs.ByNames.{SameOn, statements_same}
use Rattle.java_mean.proofs.Faultless.{none_both, none_in, fine, only_none, not_none, neither, got_some, absent, same_type_is, new_type, new_visible}
use Rattle.java_mean.proofs.Fitting.{sees_after}
use Rattle.java_mean.proofs.Puts.{name_same}
use Rattle.spreads.specs.Spread.{Select, table_of, tested, walked}
use Rattle.spreads.proofs.Chosen.{both_so}
use Rattle.spreads.proofs.FineConditions.{Known, again, declared_known}
use Rattle.spreads.proofs.FineWalks.{SelectKnown, select_fine, walk_parts, walk_whole, over_table, walked_fine}
use Rattle.spreads.proofs.Literals.{both_true, tested_fits}
use Rattle.spreads.proofs.Named.{Other, AreOthers}
use Rattle.spreads.proofs.FewerWalked.{both_none, joined}

or_false : (b : Bool) → (b || false) ≡ b
or_false true = refl
or_false false = refl

-- ---- What is visible beside a name

seen_beside : (vs : Visible) (x y : List ℕ) (o : Option JavaType) (b : Bool) → is_visible vs x ≡ false → bytes_eq x y ≡ false → is_visible vs y ≡ b → IsSeenAlike (declared_in vs x o) vs y
seen_beside vs x y o true new other seen =
    record {
      visible = new_visible vs x y o new ∙ ap (λ b. b || bytes_eq x y) seen ∙ sym seen;
      type = new_type vs x y o new ∙ ap (λ b. cond b (type_at vs y) (cond (bytes_eq x y) o None)) seen;
    }
seen_beside vs x y o false new other seen =
    record {
      visible = new_visible vs x y o new ∙ ap (λ b. b || bytes_eq x y) seen ∙ other ∙ sym seen;
      type = new_type vs x y o new ∙ ap (λ b. cond b (type_at vs y) (cond (bytes_eq x y) o None)) seen ∙ ap (λ b. cond b o None) other ∙ sym (absent vs y seen);
    }

module _ (schema : Schema) (read : List ℕ → Option PlainQuery) (r : Option Spelled) where
  abbrev Fine : List Place → Type 0
  Fine ps = faults_in schema read r ps ≡ []

  -- the second statements may stand for the first in a block
  pub record Fares (p p' : Statements) : Type 0 where
    pub fine : (vs : Visible) (w : Around) → Known vs → Fine (in_statements schema vs w p) → Fine (in_statements schema vs w p')
    pub numbers : statements_fit p ≡ true → statements_fit p' ≡ true
    pub returned : returns p ≡ returns p'
    pub nothing : is_nothing p ≡ is_nothing p'

  -- the second statement may stand for the first
  pub record FaresOne (a a' : Statement) : Type 0 where
    pub fine : (vs : Visible) (w : Around) (last : Bool) → Known vs → Fine (in_statement schema vs w last a) → Fine (in_statement schema vs w last a')
    pub numbers : statement_fits a ≡ true → statement_fits a' ≡ true
    pub returned : returns_in a ≡ returns_in a'
    pub left : (vs : Visible) → after schema vs a ≡ after schema vs a'

  -- ---- Blocks

  pub fares_nothing : Fares Nothing Nothing
  fares_nothing = record { fine = λ vs w known h. refl; numbers = λ h. refl; returned = refl; nothing = refl }

  known_after : (vs : Visible) (w : Around) (last : Bool) (a : Statement) → Known vs → faults_at schema read r (step vs w last a) ≡ [] → Known (after schema vs a)
  known_after vs w last a known h = again (after schema vs a) (types_after schema (type_at vs) a) (sees_after schema read r vs (type_at vs) w last a known h)

  then_fine : (a a' : Statement) (p p' : Statements) → FaresOne a a' → Fares p p' → (vs : Visible) (w : Around) → Known vs → Fine (in_statements schema vs w (Then a p)) → Fine (in_statements schema vs w (Then a' p'))
  then_fine a a' p p' one rest vs w known h =
      let t = none_in schema read r (in_statement schema vs w (is_nothing p) a) (in_statements schema (after schema vs a) w p) h in
      let u = none_both (faults_at schema read r (step vs w (is_nothing p) a)) (faults_in schema read r (in_parts schema vs w a)) t.left in
      let later : Fine (in_statements schema (after schema vs a) w p') = rest.fine (after schema vs a) w (known_after vs w (is_nothing p) a known u.left) t.right in
      joined schema read r (in_statement schema vs w (is_nothing p') a') (in_statements schema (after schema vs a') w p')
      (one.fine vs w (is_nothing p') known (subst (λ b. Fine (in_statement schema vs w b a)) rest.nothing t.left))
      (subst (λ us. Fine (in_statements schema us w p')) (one.left vs) later)

  pub fares_then : (a a' : Statement) (p p' : Statements) → FaresOne a a' → Fares p p' → Fares (Then a p) (Then a' p')
  fares_then a a' p p' one rest =
      record {
        fine = then_fine a a' p p' one rest;
        numbers = λ h. (let both = both_so (statement_fits a) (statements_fit p) h in both_true (statement_fits a') (statements_fit p') (one.numbers both.0) (rest.numbers both.1));
        returned = ap (λ b. b || returns p) one.returned ∙ ap (λ b. returns_in a' || b) rest.returned;
        nothing = refl;
      }

  -- ---- Statements

  pub fares_itself : (a : Statement) → FaresOne a a
  fares_itself a = record { fine = λ vs w last known h. h; numbers = λ h. h; returned = refl; left = λ vs. refl }

  pub fares_if : (at : Span) (c : Expression) (p p' : Statements) → Fares p p' → FaresOne (tree.If at c p) (tree.If at c p')
  fares_if at c p p' k =
      record {
        fine = λ vs w last known h. (
            let t = none_both (faults_at schema read r (step vs w last (tree.If at c p))) (faults_in schema read r (in_expression vs c ++ in_statements schema vs (in_branch w) p)) h in
            let u = none_in schema read r (in_expression vs c) (in_statements schema vs (in_branch w) p) t.right in
            both_none (faults_at schema read r (step vs w last (tree.If at c p'))) (faults_in schema read r (in_expression vs c ++ in_statements schema vs (in_branch w) p')) t.left
            (joined schema read r (in_expression vs c) (in_statements schema vs (in_branch w) p') u.left (k.fine vs (in_branch w) known u.right)));
        numbers = λ h. (let both = both_so (expression_fits c) (statements_fit p) h in both_true (expression_fits c) (statements_fit p') both.0 (k.numbers both.1));
        returned = k.returned;
        left = λ vs. refl;
      }

  pub fares_choice : (at : Span) (c : Expression) (p p' q q' : Statements) → Fares p p' → Fares q q' → FaresOne (tree.IfElse at c p q) (tree.IfElse at c p' q')
  fares_choice at c p p' q q' k j =
      record {
        fine = λ vs w last known h. (
            let t = none_both (faults_at schema read r (step vs w last (tree.IfElse at c p q))) (faults_in schema read r (in_expression vs c ++ (in_statements schema vs (in_branch w) p ++ in_statements schema vs (in_branch w) q))) h in
            let u = none_in schema read r (in_expression vs c) (in_statements schema vs (in_branch w) p ++ in_statements schema vs (in_branch w) q) t.right in
            let v = none_in schema read r (in_statements schema vs (in_branch w) p) (in_statements schema vs (in_branch w) q) u.right in
            both_none (faults_at schema read r (step vs w last (tree.IfElse at c p' q'))) (faults_in schema read r (in_expression vs c ++ (in_statements schema vs (in_branch w) p' ++ in_statements schema vs (in_branch w) q'))) t.left
            (joined schema read r (in_expression vs c) (in_statements schema vs (in_branch w) p' ++ in_statements schema vs (in_branch w) q') u.left
            (joined schema read r (in_statements schema vs (in_branch w) p') (in_statements schema vs (in_branch w) q') (k.fine vs (in_branch w) known v.left) (j.fine vs (in_branch w) known v.right))));
        numbers = λ h. (
            let both = both_so (expression_fits c) (statements_fit p && statements_fit q) h in
            let more = both_so (statements_fit p) (statements_fit q) both.1 in
            both_true (expression_fits c) (statements_fit p' && statements_fit q') both.0 (both_true (statements_fit p') (statements_fit q') (k.numbers more.0) (j.numbers more.1)));
        returned = ap (λ b. b || returns q) k.returned ∙ ap (λ b. returns p' || b) j.returned;
        left = λ vs. refl;
      }

  pub fares_while : (at : Span) (c : Expression) (p p' : Statements) → Fares p p' → FaresOne (tree.While at c p) (tree.While at c p')
  fares_while at c p p' k =
      record {
        fine = λ vs w last known h. (
            let t = none_both (faults_at schema read r (step vs w last (tree.While at c p))) (faults_in schema read r (in_expression vs c ++ in_statements schema vs (in_while w) p)) h in
            let u = none_in schema read r (in_expression vs c) (in_statements schema vs (in_while w) p) t.right in
            both_none (faults_at schema read r (step vs w last (tree.While at c p'))) (faults_in schema read r (in_expression vs c ++ in_statements schema vs (in_while w) p')) t.left
            (joined schema read r (in_expression vs c) (in_statements schema vs (in_while w) p') u.left (k.fine vs (in_while w) known u.right)));
        numbers = λ h. (let both = both_so (expression_fits c) (statements_fit p) h in both_true (expression_fits c) (statements_fit p') both.0 (k.numbers both.1));
        returned = k.returned;
        left = λ vs. refl;
      }

  -- ---- Walks

  known_inside : (vs : Visible) (w : Around) (last : Bool) (at : Span) (ty : Spelled) (x : List ℕ) (e : Expression) (p : Statements) → Known vs → faults_at schema read r (step vs w last (tree.ForEach at ty x e p)) ≡ [] → Known (declared_in vs x (type_spelled schema ty))
  known_inside vs w last at ty x e p known h =
      let f = fine schema read r (step vs w last (tree.ForEach at ty x e p)) h in
      let k = got_some (type_spelled schema ty) at f.known in
      let new = neither (is_visible vs x) _ (only_none (taken vs x) at f.single) in
      declared_known vs x (type_spelled schema ty) k.value known new.left k.is

  pub fares_each : (at : Span) (ty : Spelled) (x : List ℕ) (e : Expression) (p p' : Statements) → Fares p p' → FaresOne (tree.ForEach at ty x e p) (tree.ForEach at ty x e p')
  fares_each at ty x e p p' k =
      record {
        fine = λ vs w last known h. (
            let t = walk_parts schema read r vs w last at ty x e p h in
            walk_whole schema read r vs w last at ty x e p' (record { first = t.first; list = t.list; inside = k.fine (declared_in vs x (type_spelled schema ty)) (in_for_each e w) (known_inside vs w last at ty x e p known t.first) t.inside }));
        numbers = λ h. (let both = both_so (expression_fits e) (statements_fit p) h in both_true (expression_fits e) (statements_fit p') both.0 (k.numbers both.1));
        returned = k.returned;
        left = λ vs. refl;
      }

  tested_returns : (at : Span) (x : List ℕ) (s : Select) (f : Filter) (p : Statements) → returns p ≡ returns (tested schema at x s f p)
  tested_returns at x s Everything p = refl
  tested_returns at x s (Where c) p = sym (or_false (returns p))

  module _ (assigned : Names) (e : Expression) (s : Select) (k : SelectKnown schema read assigned e s) where
    -- the literals in the select are those of its arguments
    select_fits : expression_fits e ≡ true → expressions_fit s.arguments ≡ true
    select_fits h = ap expression_fits (sym k.found.is) ∙ h

    walked_numbers : (at : Span) (ty : Spelled) (x : List ℕ) (p : Statements) → expression_fits e ≡ true → statements_fit p ≡ true → statement_fits (walked schema at ty x s p) ≡ true
    walked_numbers at ty x p h i = tested_fits assigned at schema s.query.from x s s.query.filter p k.found.stay (select_fits h) k.has i

    -- a walk over a select
    pub fares_walk : (at : Span) (ty : Spelled) (x : List ℕ) (p p' : Statements) → Fares p p' → FaresOne (tree.ForEach at ty x e p) (walked schema at ty x s p')
    fares_walk at ty x p p' j =
        record {
          fine = λ vs w last known h. (
              let t = walk_parts schema read r vs w last at ty x e p h in
              let z = select_fine schema read r assigned vs e s k t.list in
              walked_fine schema read r assigned vs w last at ty x s k.is.from.table p p' known k.number z.given k.filter_ j.fine (over_table schema read r vs w last at ty x e p (table_of s.query.from) k.is.from.table k.number z.type h));
          numbers = λ h. (let both = both_so (expression_fits e) (statements_fit p) h in walked_numbers at ty x p' both.0 (j.numbers both.1));
          returned = j.returned ∙ tested_returns at x s s.query.filter p';
          left = λ vs. refl;
        }

    -- ---- A select that is declared for a walk

    module _ (at : Span) (ty : Spelled) (x : List ℕ) (at2 : Span) (ty2 : Spelled) (y : List ℕ) (at3 : Span) (body body' p p' : Statements) (other : AreOthers x y body p) (inside : Fares body body') (behind : Fares p p') where
      abbrev pair : Statements
      pair = Then (tree.Declare at ty x e) (Then (tree.ForEach at2 ty2 y (tree.Var at3 x) body) p)

      -- the list has the type of the select's rows
      list_spelled : (vs : Visible) (w : Around) → type_of schema vs e ≡ Some (Only (Listed (RowOf k.is.from.table))) → faults_at schema read r (step vs w false (tree.Declare at ty x e)) ≡ [] → type_spelled schema ty ≡ Some (Listed (RowOf k.is.from.table))
      list_spelled vs w type h =
          let f = fine schema read r (step vs w false (tree.Declare at ty x e)) h in
          let got = got_some (type_spelled schema ty) at f.known in
          let a = none_both (set_of_rows ty at) _ f.matched in
          let b = none_both (unless_both (type_of schema vs e) (type_spelled schema ty) (at_of e)) (copied_row vs e) a.right in
          let c : unless (Some (Only (Listed (RowOf k.is.from.table)))) got.value (at_of e) ≡ [] = ap (λ o. unless o got.value (at_of e)) (sym type) ∙ ap (λ o. unless_both (type_of schema vs e) o (at_of e)) (sym got.is) ∙ b.left in
          got.is ∙ ap (λ z. let o : Option JavaType = Some z in o) (sym (same_type_is (Listed (RowOf k.is.from.table)) got.value (not_none (same_type (Listed (RowOf k.is.from.table)) got.value) (at_of e) c)))

      pair_fine : (vs : Visible) (w : Around) → Known vs → Fine (in_statements schema vs w pair) → Fine (in_statements schema vs w (Then (walked schema at2 ty2 y s body') p'))
      pair_fine vs w known h =
          let o : Option JavaType = type_spelled schema ty in
          let with_list : Visible = declared_in vs x o in
          let walk : Statement = tree.ForEach at2 ty2 y (tree.Var at3 x) body in
          let fetching : Statement = tree.ForEach at2 ty2 y (tree.Fetch at2 (table_of s.query.from)) body in
          let t = none_in schema read r (in_statement schema vs w false (tree.Declare at ty x e)) (in_statements schema with_list w (Then walk p)) h in
          let u = none_both (faults_at schema read r (step vs w false (tree.Declare at ty x e))) (faults_in schema read r (in_expression vs e)) t.left in
          let z = select_fine schema read r assigned vs e s k u.right in
          let f = fine schema read r (step vs w false (tree.Declare at ty x e)) u.left in
          let new = neither (is_visible vs x) _ (only_none (taken vs x) at f.single) in
          let type : type_at with_list x ≡ Some (Listed (RowOf k.is.from.table)) =
          new_type vs x x o new.left ∙ ap (λ b. cond b (type_at vs x) (cond (bytes_eq x x) o None)) new.left ∙ ap (λ b. cond b o None) (name_same x) ∙ list_spelled vs w z.type u.left
          in
          let v = none_in schema read r (in_statement schema with_list w (is_nothing p) walk) (in_statements schema with_list w p) t.right in
          let over = over_table schema read r with_list w (is_nothing p) at2 ty2 y (tree.Var at3 x) body (table_of s.query.from) k.is.from.table k.number (ap (λ (q : Option JavaType). option_map Only q) type) v.left in
          let both : Fine (in_statements schema with_list w (Then fetching p)) = joined schema read r (in_statement schema with_list w (is_nothing p) fetching) (in_statements schema with_list w p) over v.right in
          let alike : SameOn (Other x) with_list vs = record { alike = λ n d. seen_beside vs x n o (is_visible vs n) new.left d refl } in
          let before : Fine (in_statements schema vs w (Then fetching p)) =
          sym (statements_same schema read r (Other x) (Then fetching p) with_list vs w alike ((tt, other.inside), other.behind) ((other.row, other.declared_inside), other.declared_behind)) ∙ both
          in
          let last = none_in schema read r (in_statement schema vs w (is_nothing p) fetching) (in_statements schema vs w p) before in
          let one = walked_fine schema read r assigned vs w (is_nothing p) at2 ty2 y s k.is.from.table body body' known k.number z.given k.filter_ inside.fine last.left in
          joined schema read r (in_statement schema vs w (is_nothing p') (walked schema at2 ty2 y s body')) (in_statements schema vs w p')
          (subst (λ b. Fine (in_statement schema vs w b (walked schema at2 ty2 y s body'))) behind.nothing one) (behind.fine vs w known last.right)

      pub fares_pair : Fares pair (Then (walked schema at2 ty2 y s body') p')
      fares_pair =
          record {
            fine = pair_fine;
            numbers = λ h. (
                let both = both_so (expression_fits e) (statements_fit (Then (tree.ForEach at2 ty2 y (tree.Var at3 x) body) p)) h in
                let more = both_so (statements_fit body) (statements_fit p) both.1 in
                both_true (statement_fits (walked schema at2 ty2 y s body')) (statements_fit p') (walked_numbers at2 ty2 y body' both.0 (inside.numbers more.0)) (behind.numbers more.1));
            returned = ap (λ b. b || returns p) (inside.returned ∙ tested_returns at2 y s s.query.filter body') ∙ ap (λ b. returns_in (walked schema at2 ty2 y s body') || b) behind.returned;
            nothing = refl;
          }
