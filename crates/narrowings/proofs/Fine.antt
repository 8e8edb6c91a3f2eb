-- A query in place of a fetch breaks no rule where the fetch breaks none.
use Rattle.std.proofs.Common.{◌≡◌, ℕ, Bool, true, false, not, ◌&&◌, List, [], ◌++◌, Option, Some, refl, ap, ◌∙◌}
use Rattle.std.specs.Prelude.{nat_eq, slice_get}
use Rattle.std.proofs.Common.{arith}
use Rattle.std.proofs.lemmas.Bool.Decides.{nat_tests}
use Rattle.qbs_base.specs.declared.columns.Column.{Column}
use Rattle.qbs_base.specs.declared.scalar.Scalar.{Scalar}
use Rattle.qbs_base.specs.declared.scalar.Scalar.TheVariants as scalars
use Rattle.qbs_base.specs.declared.scalar.Ty.{Ty}
use Rattle.qbs_base.specs.declared.scalar.Ty.TheVariants as tys
use Rattle.qbs_base.specs.declared.span.Span.{Span}
use Rattle.qbs_base.specs.Columns.{columns_at, column_number, table_number, same_ty}
use Rattle.qbs_base.specs.Values.{Schema, HasTy}
use Rattle.sql_ast.specs.Tree.{Condition, PlainQuery}
use Rattle.java_ast.specs.Names.{Names}
use Rattle.java_ast.specs.Tree as tree
use Rattle.java_ast.specs.Tree.{Spelled, Expression, Expressions, NoMore, And, Statement, Statements, Nothing, Then, PlainMethod}
use Rattle.java_mean.specs.declared.types.JavaType.{JavaType}
use Rattle.java_mean.specs.declared.types.JavaType.TheVariants.{Of}
use Rattle.java_mean.specs.declared.types.Kindred.{Kindred}
use Rattle.java_mean.specs.declared.types.Kindred.TheVariants.{Only}
use Rattle.java_mean.specs.declared.types.Single.TheVariants.{ScalarOf, RowOf}
use Rattle.java_mean.specs.Asks.{frame_of}
use Rattle.java_mean.specs.Fits.{in_first}
use Rattle.java_mean.specs.Numbers.{literal_fits, expression_fits, expressions_fit}
use Rattle.java_mean.specs.Places.{Around, Place, value, step, in_expressions, in_expression, is_nothing, in_for_each, in_statements}
use Rattle.java_mean.specs.Rules.{ty_of, type_of, arguments, same_length, is_none}
use Rattle.java_mean.specs.Types.{Types, type_spelled}
use Rattle.java_mean.specs.Typing.{Frame, HasType, lit, var, field, binary, negated, equals, size, get, contains, fetch, query, query_long, query_boolean, new_list, new_set, new_set_of, HaveTypes, no_more, and}
use Rattle.java_mean.specs.Visible.{Visible, is_visible, type_at, declared_in}
use Rattle.java_mean.specs.WellTyped.{faults_at, faults_in}
use Rattle.java_mean.proofs.Faultless.{none_both, none_in, faults_in-append, Sees}
use Rattle.java_mean.proofs.Fitting.{visible_is_typed}
use Rattle.spreads.specs.Staying.{stays, all_stay}
use Rattle.narrowings.proofs.Loop.{text_of, IsAsked}
use Rattle.narrowings.proofs.Parts.{both_so}

same_itself : (ty : Ty) → same_ty ty ty ≡ true
same_itself tys.Long = refl
same_itself tys.Bool = refl
same_itself tys.Text = refl

same_number : (k : ℕ) → nat_eq k k ≡ true
same_number k = grind (arith, nat_tests)

type_of_literal : (ty : Ty) (y : Scalar) → HasTy ty y → ty_of y ≡ ty
type_of_literal tys.Long (scalars.Long i) h = refl
type_of_literal tys.Long (scalars.Bool b) h = absurd h
type_of_literal tys.Long (scalars.Text t) h = absurd h
type_of_literal tys.Bool (scalars.Long i) h = absurd h
type_of_literal tys.Bool (scalars.Bool b) h = refl
type_of_literal tys.Bool (scalars.Text t) h = absurd h
type_of_literal tys.Text (scalars.Long i) h = absurd h
type_of_literal tys.Text (scalars.Bool b) h = absurd h
type_of_literal tys.Text (scalars.Text t) h = refl

literal_fits_so : (ty : Ty) (y : Scalar) → HasTy ty y → literal_fits y ≡ true
literal_fits_so tys.Long (scalars.Long i) h = h
literal_fits_so tys.Long (scalars.Bool b) h = refl
literal_fits_so tys.Long (scalars.Text t) h = refl
literal_fits_so tys.Bool (scalars.Long i) h = absurd h
literal_fits_so tys.Bool (scalars.Bool b) h = refl
literal_fits_so tys.Bool (scalars.Text t) h = refl
literal_fits_so tys.Text (scalars.Long i) h = absurd h
literal_fits_so tys.Text (scalars.Bool b) h = refl
literal_fits_so tys.Text (scalars.Text t) h = refl

both_true : (a b : Bool) → a ≡ true → b ≡ true → (a && b) ≡ true
both_true true b e h = h
both_true false b e h = absurd cc

var_in : (c : Frame) (g : Types) (at : Span) (y : List ℕ) (k : JavaType) → HasType c g (tree.Var at y) k → g y ≡ Some k
var_in c g at y k (var _ _ _ e) = e

-- ---- Literals

field_fits : (assigned : Names) (at : Span) (e : Expression) (f : List ℕ) → stays assigned (tree.Field at e f) ≡ true → expression_fits (tree.Field at e f) ≡ true
field_fits assigned at (tree.Var at' y) f n = refl
field_fits assigned at e f n = absurd cc

argument_fits : (c : Frame) (g : Types) (assigned : Names) (e : Expression) (k : JavaType) → HasType c g e k → stays assigned e ≡ true → expression_fits e ≡ true
argument_fits c g assigned _ _ (lit at y ty h) n = literal_fits_so ty y h
argument_fits c g assigned _ _ (var at y j h) n = refl
argument_fits c g assigned _ _ (field at a f j i column h q r) n = field_fits assigned at a f n
argument_fits c g assigned _ _ (binary at op a b from to t h i) n = absurd cc
argument_fits c g assigned _ _ (negated at a h) n = absurd cc
argument_fits c g assigned _ _ (equals at a b h i) n = absurd cc
argument_fits c g assigned _ _ (size at y j a q has) n = absurd cc
argument_fits c g assigned _ _ (get at y a b q h) n = absurd cc
argument_fits c g assigned _ _ (contains at y a j ty q has h) n = absurd cc
argument_fits c g assigned _ _ (fetch at y j q) n = absurd cc
argument_fits c g assigned _ _ (query at sp text es q t h) n = absurd cc
argument_fits c g assigned _ _ (query_long at text es q t h) n = absurd cc
argument_fits c g assigned _ _ (query_boolean at text es q t h) n = absurd cc
argument_fits c g assigned _ _ (new_list at a) n = absurd cc
argument_fits c g assigned _ _ (new_set at a) n = absurd cc
argument_fits c g assigned _ _ (new_set_of at a b h) n = absurd cc

pub arguments_fit : (c : Frame) (g : Types) (assigned : Names) (es : Expressions) (types : List Ty) → HaveTypes c g es types → all_stay assigned es ≡ true → expressions_fit es ≡ true
arguments_fit c g assigned _ _ no_more n = refl
arguments_fit c g assigned _ _ (and e es ty types h rest) n =
    let both = both_so (stays assigned e) (all_stay assigned es) n in
    both_true (expression_fits e) (expressions_fit es) (argument_fits c g assigned e (Of (ScalarOf ty)) h both.0) (arguments_fit c g assigned es types rest both.1)

-- ---- Faults

module _ (schema : Schema) (read : List ℕ → Option PlainQuery) (r : Option Spelled) (m : PlainMethod) (g : Types) (vs : Visible) (sees : Sees vs g) where
  abbrev frame : Frame
  frame = frame_of schema read m

  abbrev Fine : List Place → Type 0
  Fine ps = faults_in schema read r ps ≡ []

  fine_both : (ps qs : List Place) → Fine ps → Fine qs → Fine (ps ++ qs)
  fine_both ps qs h k = faults_in-append schema read r ps qs ∙ rw (h, k) refl

  visible_so : (y : List ℕ) (k : JavaType) → g y ≡ Some k → is_visible vs y ≡ true
  visible_so y k e = visible_is_typed vs g y sees ∙ ap (λ (o : Option JavaType). not (is_none o)) e

  type_so : (y : List ℕ) (k : JavaType) → g y ≡ Some k → type_at vs y ≡ Some k
  type_so y k e = sees.same y ∙ e

  record ArgumentFine (e : Expression) (ty : Ty) : Type 0 where
    type : type_of schema vs e ≡ Some (Only (Of (ScalarOf ty)))
    fine : Fine (in_expression vs e)

  field_fine : (assigned : Names) (at : Span) (e : Expression) (f : List ℕ) (j i : ℕ) (column : Column) → HasType frame g e (Of (RowOf j)) → column_number (columns_at schema j) f ≡ Some i → slice_get (columns_at schema j) i ≡ Some column → stays assigned (tree.Field at e f) ≡ true → ArgumentFine (tree.Field at e f) column.ty
  field_fine assigned at (tree.Var at' y) f j i column t q h n =
      let here = var_in frame g at' y (Of (RowOf j)) t in
      let there = type_so y (Of (RowOf j)) here in
      let seen = visible_so y (Of (RowOf j)) here in
      record { type = rw (there, q, h) refl; fine = rw (there, q, h, seen) refl }
  field_fine assigned at e f j i column t q h n = absurd cc

  argument_fine : (assigned : Names) (e : Expression) (k : JavaType) → HasType frame g e k → (ty : Ty) → k ≡ Of (ScalarOf ty) → stays assigned e ≡ true → ArgumentFine e ty
  argument_fine assigned _ _ (lit at y ty' h) ty k n = record { type = ap (λ (z : Ty). (let o : Option Kindred = Some (Only (Of (ScalarOf z))) in o)) (type_of_literal ty' y h) ∙ ap (λ (z : JavaType). let o : Option Kindred = Some (Only z) in o) k; fine = refl }
  argument_fine assigned _ _ (var at y j h) ty k n =
      let there = type_so y j h in
      let seen = visible_so y j h in
      record { type = rw there (ap (λ (z : JavaType). let o : Option Kindred = Some (Only z) in o) k); fine = rw seen refl }
  argument_fine assigned _ _ (field at a f j i column h q u) ty k n = (let z = field_fine assigned at a f j i column h q u n in record { type = z.type ∙ ap (λ (z : JavaType). let o : Option Kindred = Some (Only z) in o) k; fine = z.fine })
  argument_fine assigned _ _ (binary at op a b from to t h i) ty k n = absurd cc
  argument_fine assigned _ _ (negated at a h) ty k n = absurd cc
  argument_fine assigned _ _ (equals at a b h i) ty k n = absurd cc
  argument_fine assigned _ _ (size at y j a q has) ty k n = absurd cc
  argument_fine assigned _ _ (get at y a b q h) ty k n = absurd cc
  argument_fine assigned _ _ (contains at y a j ty' q has h) ty k n = absurd cc
  argument_fine assigned _ _ (fetch at y j q) ty k n = absurd cc
  argument_fine assigned _ _ (query at sp text es q t h) ty k n = absurd cc
  argument_fine assigned _ _ (query_long at text es q t h) ty k n = absurd cc
  argument_fine assigned _ _ (query_boolean at text es q t h) ty k n = absurd cc
  argument_fine assigned _ _ (new_list at a) ty k n = absurd cc
  argument_fine assigned _ _ (new_set at a) ty k n = absurd cc
  argument_fine assigned _ _ (new_set_of at a b h) ty k n = absurd cc

  pub record AllFine (es : Expressions) (types : List Ty) : Type 0 where
    places : Fine (in_expressions vs es)
    matched : arguments schema vs types es ≡ []
    many : same_length types es ≡ true

  pub all_fine : (assigned : Names) (es : Expressions) (types : List Ty) → HaveTypes frame g es types → all_stay assigned es ≡ true → AllFine es types
  all_fine assigned _ _ no_more n = record { places = refl; matched = refl; many = refl }
  all_fine assigned _ _ (and e es ty types h rest) n =
      let both = both_so (stays assigned e) (all_stay assigned es) n in
      let one = argument_fine assigned e (Of (ScalarOf ty)) h ty refl both.0 in
      let more = all_fine assigned es types rest both.1 in
      let type = one.type in
      let same = same_itself ty in
      let others = more.matched in
      record { places = fine_both (in_expression vs e) (in_expressions vs es) one.fine more.places; matched = rw (type, same, others) refl; many = more.many }

  module _ (name : List ℕ) (table : ℕ) (number : table_number schema name ≡ Some table) (d : Condition) (types : List Ty) (asks : IsAsked schema read name table d types) (es : Expressions) (all : AllFine es types) (at1 : Span) where
    abbrev asking : Expression
    asking = tree.Query at1 (tree.Table name) (text_of name table d) es

    abbrev fetching : Expression
    fetching = tree.Fetch at1 name

    value_fine : faults_at schema read r (value vs asking) ≡ []
    value_fine =
        let read_so = asks.read_so in
        let matched = all.matched in
        let same = same_number table in
        let many = all.many in
        rw (number, read_so, matched, same, many) refl

    asking_fine : Fine (in_expression vs asking)
    asking_fine =
        let one = value_fine in
        let places = all.places in
        rw (one, places) refl

    each_step : (w : Around) (last : Bool) (at2 : Span) (ty : Spelled) (x : List ℕ) (body : Statements) → faults_at schema read r (step vs w last (tree.ForEach at2 ty x asking body)) ≡ faults_at schema read r (step vs w last (tree.ForEach at2 ty x fetching body))
    each_step w last at2 ty x body = rw number refl

    declare_step : (w : Around) (last : Bool) (at3 : Span) (ty3 : Spelled) (v : List ℕ) → faults_at schema read r (step vs w last (tree.Declare at3 ty3 v asking)) ≡ faults_at schema read r (step vs w last (tree.Declare at3 ty3 v fetching))
    declare_step w last at3 ty3 v = rw number refl

    abbrev each_first : Expression → Around → Bool → Span → Spelled → List ℕ → Statements → List Place
    each_first e w ends at2 ty x body = in_first schema vs w ends (Then (tree.ForEach at2 ty x e body) Nothing)

    pub each_fine : (w : Around) (ends : Bool) (at2 : Span) (ty : Spelled) (x : List ℕ) (body : Statements) → Fine (each_first fetching w ends at2 ty x body) → Fine (each_first asking w ends at2 ty x body)
    each_fine w ends at2 ty x body h =
        let inner : List Place = in_statements schema (declared_in vs x (type_spelled schema ty)) (in_for_each fetching w) body in
        let t = none_both (faults_at schema read r (step vs w ends (tree.ForEach at2 ty x fetching body))) (faults_in schema read r ((in_expression vs fetching ++ inner) ++ [])) h in
        let u = none_in schema read r (in_expression vs fetching ++ inner) [] t.right in
        let v = none_in schema read r (in_expression vs fetching) inner u.left in
        let one : faults_at schema read r (step vs w ends (tree.ForEach at2 ty x asking body)) ≡ [] = each_step w ends at2 ty x body ∙ t.left in
        let rest : Fine ((in_expression vs asking ++ inner) ++ []) = fine_both (in_expression vs asking ++ inner) [] (fine_both (in_expression vs asking) inner asking_fine v.right) refl in
        rw (one, rest) refl

    abbrev pair_first : Expression → Around → Bool → Span → Spelled → List ℕ → Statements → List Place
    pair_first e w ends at3 ty3 v rest = in_first schema vs w ends (Then (tree.Declare at3 ty3 v e) rest)

    pub pair_fine : (w : Around) (ends : Bool) (at3 : Span) (ty3 : Spelled) (v : List ℕ) (rest : Statements) → Fine (pair_first fetching w ends at3 ty3 v rest) → Fine (pair_first asking w ends at3 ty3 v rest)
    pair_fine w ends at3 ty3 v rest h =
        let later : List Place = in_first schema (declared_in vs v (type_spelled schema ty3)) w ends rest in
        let last : Bool = is_nothing rest && ends in
        let t = none_both (faults_at schema read r (step vs w last (tree.Declare at3 ty3 v fetching))) (faults_in schema read r (in_expression vs fetching ++ later)) h in
        let u = none_in schema read r (in_expression vs fetching) later t.right in
        let one : faults_at schema read r (step vs w last (tree.Declare at3 ty3 v asking)) ≡ [] = declare_step w last at3 ty3 v ∙ t.left in
        let more : Fine (in_expression vs asking ++ later) = fine_both (in_expression vs asking) later asking_fine u.right in
        rw (one, more) refl
