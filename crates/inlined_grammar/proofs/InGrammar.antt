-- Inlined programs are of the grammar.
use Rattle.std.proofs.Common.{◌≡◌, ◌+◌, ℕ, Bool, true, false, cond, not, List, [], ◌∷◌, ◌++◌, Option, Some, None, refl, ap, ◌∙◌, subst}
use Rattle.std.specs.List.{AllByRecursion}
use Rattle.std.specs.Option.{option_map}
use Rattle.std.specs.Prelude.{◌&&◌, ◌||◌, bytes_eq, codes, nat_eq, map}
use Rattle.std.specs.Int.Digits.{digits_of}
use Rattle.qbs_base.specs.Values.{Schema}
use Rattle.sql_ast.specs.Tree.{PlainQuery}
use Rattle.java_words.specs.Words as words
use Rattle.java_words.specs.Words.{reserved_words}
use Rattle.java_ast.specs.Path.{with_body, with_methods}
use Rattle.java_ast.specs.Tree.{Spelled, Int, Long, Boolean, String, Expression, Lit, Var, Field, Binary, Not, Equals, Size, Get, Contains, Fetch, Query, QueryLong, QueryBoolean, NewList, NewSet, NewSetOf, Expressions, NoMore, And, Statement, Declare, Assign, Add, Sort, If, IfElse, ForEach, While, Print, Return, Break, Statements, Nothing, Then, PlainParam, PlainMethod, PlainProgram}
use Rattle.java_mean.specs.WellTyped.{IsWellTyped}
use Rattle.java_mean.proofs.Puts.{names_equal}
use Rattle.java_grammar.specs.Words.{is_name, is_number_type}
use Rattle.java_grammar.specs.InGrammar.{IsName, IsVariable, IsScalarType, IsType, IsQuery, InExpression, InExpressions, AreKeys, IsSome, InStatement, InStatements, InParams, InMethod, InMethods, IsInGrammar}
use Rattle.call_parts.specs.Kinds.{is_scalar_type, are_one_type, is_unreadable}
use Rattle.call_parts.specs.Marks.{mark_of}
use Rattle.java_calls.specs.Called.{method_named}
use Rattle.java_calls.specs.Fitting.{AreFitting}
use Rattle.java_calls.specs.Inlining.{Made, AllMade, Expand, all_inlined, expand_at, made_method, inlined_methods, IsInlined}
use Rattle.java_calls.specs.ProgramNames.{names_of}
use Rattle.java_calls.specs.Renaming.{Renaming, as_they_are, marked_but, renamed, all_renamed}
use Rattle.java_calls.specs.Rules.{Result as ResultRule, Site, sites_of, may_take_from, returns_at_its_end, has_result_for, BreaksNone}
use Rattle.java_calls.proofs.Calls.{of_named}
use Rattle.java_calls.proofs.Fitted.{IsFitting, are_fitted}
use Rattle.java_calls.proofs.Keeping.{all_each}
use Rattle.inlined_types.proofs.Fit.{are_fitting}
use Rattle.inlined_grammar.proofs.Plain.{plain_types}
use Rattle.inlined_grammar.proofs.Shapes.{Each, All, Arguments, Params, OfTarget, IsReady, IsShape, IsOf, blocks_have}

some_is : {A : Type 0} (a b : A) → Some a ≡ Some b → a ≡ b
some_is a b e = cc

clash : (b : Bool) → b ≡ true → b ≡ false → ⊥
clash b e h = absurd cc

both_true : (a b : Bool) → (a && b) ≡ true → (a ≡ true) × (b ≡ true)
both_true true true h = (refl, refl)
both_true true false h = absurd cc
both_true false b h = absurd cc

both : (a b : Bool) → a ≡ true → b ≡ true → (a && b) ≡ true
both true b h i = i
both false b h i = absurd cc

no_either : (a b : Bool) → a ≡ false → b ≡ false → (a || b) ≡ false
no_either true b h i = absurd cc
no_either false b h i = i

neither : (a b : Bool) → (a || b) ≡ false → (a ≡ false) × (b ≡ false)
neither true b h = absurd cc
neither false b h = (refl, h)

-- ---- Names with a mark

abbrev has_underscore : List ℕ → Bool
has_underscore [] = false
has_underscore (b ∷ bs) = nat_eq b 95 || has_underscore bs

abbrev none_has : List (List ℕ) → Bool
none_has [] = true
none_has (text ∷ texts) = not (has_underscore text) && none_has texts

marked_has : (x m : List ℕ) → has_underscore (x ++ 95 ∷ m) ≡ true
marked_has [] m = refl
marked_has (b ∷ bs) m = by (nat_eq b 95) (marked_has bs m)
  where
    by : (c : Bool) → has_underscore (bs ++ 95 ∷ m) ≡ true → (c || has_underscore (bs ++ 95 ∷ m)) ≡ true
    by true h = refl
    by false h = h

is_not : (b : Bool) → not b ≡ true → b ≡ false
is_not true h = absurd cc
is_not false h = refl

not_among : (x : List ℕ) (texts : List (List ℕ)) → has_underscore x ≡ true → none_has texts ≡ true → words.is_among x texts ≡ false
not_among x [] h n = refl
not_among x (text ∷ texts) h n =
    let b = both_true (not (has_underscore text)) (none_has texts) n in
    no_either (bytes_eq x text) (words.is_among x texts) (by b.0 (bytes_eq x text) refl) (not_among x texts h b.1)
  where
    by : not (has_underscore text) ≡ true → (c : Bool) → bytes_eq x text ≡ c → bytes_eq x text ≡ false
    by n true e = absurd (clash (has_underscore x) h (ap has_underscore (names_equal x text e) ∙ is_not (has_underscore text) n))
    by n false e = e

pub marked_is_name : (x : List ℕ) (c : ℕ) → IsName (x ++ mark_of c)
marked_is_name x c = ap not (not_among (x ++ mark_of c) reserved_words (marked_has x (map (λ d. 48 + d) (digits_of 10 c))) refl)

marked_is_variable : (x : List ℕ) (c : ℕ) → IsVariable (x ++ mark_of c)
marked_is_variable x c =
    both (is_name (x ++ mark_of c)) (not (is_number_type (x ++ mark_of c))) (marked_is_name x c)
    (ap not (not_among (x ++ mark_of c) (codes "Long" ∷ codes "Integer" ∷ []) (marked_has x (map (λ d. 48 + d) (digits_of 10 c))) refl))

readable_name : (x : List ℕ) → IsName x → is_unreadable x ≡ false → IsVariable x
readable_name x n u =
    let b = neither (bytes_eq x (codes "Long")) (bytes_eq x (codes "Integer")) u in
    both (is_name x) (not (is_number_type x)) n (ap not (no_either (bytes_eq x (codes "Long")) (bytes_eq x (codes "Integer") || false) b.0 (no_either (bytes_eq x (codes "Integer")) false b.1 refl)))

-- ---- Renamings

record KeepsNames (f : Renaming) : Type 0 where
  name : (x : List ℕ) → IsName x → IsName (f x)
  variable : (x : List ℕ) → IsVariable x → IsVariable (f x)

module _ (f : Renaming) (r : KeepsNames f) where
  query_in : (e : Expression) → IsQuery e → IsQuery (renamed f e)
  query_in (Query at element text es) h = tt
  query_in (QueryLong at text es) h = tt
  query_in (QueryBoolean at text es) h = tt
  query_in _ h = absurd h

  mutual
    value_in : (e : Expression) → InExpression e → InExpression (renamed f e)
    value_in (Lit at value) h = tt
    value_in (Var at x) h = r.variable x h
    value_in (Field at row column) h = (value_in row h.0, h.1)
    value_in (Binary at op a b) h = (value_in a h.0, value_in b h.1)
    value_in (Not at e) h = value_in e h
    value_in (Equals at a b) h = (value_in a h.0, value_in b h.1)
    value_in (Size at x) h = r.variable x h
    value_in (Get at x e) h = (r.variable x h.0, value_in e h.1)
    value_in (Contains at x e) h = (r.variable x h.0, value_in e h.1)
    value_in (Fetch at table) h = h
    value_in (Query at element text es) h = (h.0, values_in es h.1)
    value_in (QueryLong at text es) h = values_in es h
    value_in (QueryBoolean at text es) h = values_in es h
    value_in (NewList at) h = tt
    value_in (NewSet at) h = tt
    value_in (NewSetOf at query) h = (query_in query h.0, value_in query h.1)

    values_in : (es : Expressions) → InExpressions es → InExpressions (all_renamed f es)
    values_in NoMore h = tt
    values_in (And e es) h = (value_in e h.0, values_in es h.1)

kept_variable_in : (to x : List ℕ) (c : ℕ) (b : Bool) → IsVariable to → IsVariable (cond b to (x ++ mark_of c))
kept_variable_in to x c true h = h
kept_variable_in to x c false h = marked_is_variable x c

kept_name_in : (to x : List ℕ) (c : ℕ) (b : Bool) → IsName to → IsName (cond b to (x ++ mark_of c))
kept_name_in to x c true h = h
kept_name_in to x c false h = marked_is_name x c

marked_in : (f : Renaming) → KeepsNames f → (x : List ℕ) → IsName x → (c : ℕ) (kept : Option (List ℕ)) → ((v : List ℕ) → kept ≡ Some v → is_unreadable x ≡ false) → KeepsNames (marked_but kept (f x) c)
marked_in f r x n c None h = record { name = λ y i. marked_is_name y c; variable = λ y i. marked_is_variable y c }
marked_in f r x n c (Some v) h =
    record {
      name = λ y i. kept_name_in (f x) y c (bytes_eq v y) (r.name x n);
      variable = λ y i. kept_variable_in (f x) y c (bytes_eq v y) (r.variable x (readable_name x n (h v refl)));
    }

abbrev KeysIn : List (List ℕ) → List Bool → Type 0
KeysIn keys downs = IsSome keys × AreKeys keys downs

arguments_in : (es : Expressions) → InExpressions es → Arguments IsType IsName KeysIn InExpression es
arguments_in NoMore h = tt
arguments_in (And e es) h = (h.0, arguments_in es h.1)

shape_in : IsShape IsType IsName KeysIn InExpression (λ x. is_unreadable x ≡ false) KeepsNames
shape_in =
    record {
      name = λ f r x n. r.name x n;
      value = λ f r e h. value_in f r e h;
      marked = marked_in;
      arguments = λ at text es h. arguments_in es h;
    }

-- ---- Statements of the grammar

abbrev EachIn : Statement → Type 0
EachIn = Each IsType IsName KeysIn InExpression

abbrev AllIn : Statements → Type 0
AllIn = All IsType IsName KeysIn InExpression

mutual
  each_of : (a : Statement) → InStatement a → EachIn a
  each_of (Declare at ty x e) h = h
  each_of (Assign at x e) h = h
  each_of (Add at x e) h = h
  each_of (Sort at x keys downs) h = (h.0, (h.1, h.2))
  each_of (If at c a) h = (h.0, all_of a h.1)
  each_of (IfElse at c a b) h = (h.0, all_of a h.1, all_of b h.2)
  each_of (ForEach at ty x e body) h = (h.0, h.1, h.2, all_of body h.3)
  each_of (While at c body) h = (h.0, all_of body h.1)
  each_of (Print at e) h = h
  each_of (Return at None) h = h
  each_of (Return at (Some e)) h = h
  each_of (Break at) h = h

  all_of : (p : Statements) → InStatements p → AllIn p
  all_of Nothing h = tt
  all_of (Then a p) h = (each_of a h.0, all_of p h.1)

mutual
  each_back : (a : Statement) → EachIn a → InStatement a
  each_back (Declare at ty x e) h = h
  each_back (Assign at x e) h = h
  each_back (Add at x e) h = h
  each_back (Sort at x keys downs) h = (h.0, h.1.0, h.1.1)
  each_back (If at c a) h = (h.0, all_back a h.1)
  each_back (IfElse at c a b) h = (h.0, all_back a h.1, all_back b h.2)
  each_back (ForEach at ty x e body) h = (h.0, h.1, h.2, all_back body h.3)
  each_back (While at c body) h = (h.0, all_back body h.1)
  each_back (Print at e) h = h
  each_back (Return at None) h = h
  each_back (Return at (Some e)) h = h
  each_back (Break at) h = h

  all_back : (p : Statements) → AllIn p → InStatements p
  all_back Nothing h = tt
  all_back (Then a p) h = (each_back a h.0, all_back p h.1)

-- ---- Methods

scalar_is_type : (ty : Spelled) → IsScalarType ty → IsType ty
scalar_is_type Int h = tt
scalar_is_type Long h = tt
scalar_is_type Boolean h = tt
scalar_is_type String h = tt
scalar_is_type _ h = absurd h

params_of : (ps : List PlainParam) → InParams ps → Params IsType IsName KeysIn InExpression ps
params_of [] h = tt
params_of (p ∷ ps) h = (scalar_is_type p.ty h.0, h.1, params_of ps h.2)

methods_of : (ms : List PlainMethod) → InMethods ms → AllByRecursion (IsOf IsType IsName KeysIn InExpression) ms
methods_of [] h = tt
methods_of (m ∷ ms) h = (record { params = params_of m.params h.0.params; body = all_of m.body h.0.body }, methods_of ms h.1)

-- a returned variable takes a name that can be read
taken_by : (o : Option Statement) (ty : Spelled) → is_scalar_type ty ≡ false → may_take_from (Some ty) o ≡ true → OfTarget IsType IsName KeysIn InExpression (λ x. is_unreadable x ≡ false) o
taken_by None ty many h = tt
taken_by (Some (Declare at declared x e)) ty many h = by (is_scalar_type ty) many (both_true (are_one_type ty declared) (is_scalar_type ty || not (is_unreadable x)) h).1
  where
    by : (b : Bool) → b ≡ false → (b || not (is_unreadable x)) ≡ true → is_unreadable x ≡ false
    by true m h = absurd cc
    by false m h = is_not (is_unreadable x) h
taken_by (Some (Assign at x e)) ty many h = absurd (clash (is_scalar_type ty) h many)
taken_by (Some _) ty many h = absurd cc

result_of : (o : Option Spelled) (w : Option Statement) → may_take_from o w ≡ true → (ty : Spelled) × (o ≡ Some ty) × (may_take_from (Some ty) w ≡ true)
result_of None w h = absurd cc
result_of (Some ty) w h = (ty, refl, h)

unless_false : (b : Bool) → (b ≡ false → ⊥) → b ≡ true
unless_false true h = refl
unless_false false h = absurd (h refl)

module _ (p : PlainProgram) (none : BreaksNone p) (fitting : AreFitting p.methods) where
  site_ready : (site : Site) → ((m : PlainMethod) → method_named site.call.name p.methods ≡ Some m → has_result_for site.whole m ≡ true) → IsReady IsType IsName KeysIn InExpression (λ x. is_unreadable x ≡ false) p.methods site
  site_ready site sound m v named kept =
      let b = both_true (returns_at_its_end m) (may_take_from m.result site.whole) (sound m named) in
      let t = result_of m.result site.whole b.1 in
      let fits = of_named (IsFitting p.methods) p.methods site.call.name m (are_fitted p.methods fitting) named in
      taken_by site.whole t.0 (fits.many v t.0 kept t.1) t.2

  program_ready : AllByRecursion (λ (m : PlainMethod). AllByRecursion (IsReady IsType IsName KeysIn InExpression (λ x. is_unreadable x ≡ false) p.methods) (sites_of m.body)) p.methods
  program_ready =
      all_each (λ (m : PlainMethod). AllByRecursion (IsReady IsType IsName KeysIn InExpression (λ x. is_unreadable x ≡ false) p.methods) (sites_of m.body)) p.methods (λ i m there.
      all_each (IsReady IsType IsName KeysIn InExpression (λ x. is_unreadable x ≡ false) p.methods) (sites_of m.body) (λ n site calls.
      site_ready site (λ called is. unless_false (has_result_for site.whole called) (λ wrong. none ResultRule site.at (record { i = i; method = m; there = there; n = n; site = site; calls = calls; breaks = (called, is, wrong); place = refl })))))

module _ (all : List PlainMethod) (expand : Expand) (keeps : (k : ℕ) (p : Statements) (made : Made) → InStatements p → AllByRecursion (IsReady IsType IsName KeysIn InExpression (λ x. is_unreadable x ≡ false) all) (sites_of p) → all_inlined expand as_they_are k p ≡ Some made → InStatements made.block) where
  abbrev AreReady : List PlainMethod → Type 0
  AreReady ms = AllByRecursion (λ (m : PlainMethod). AllByRecursion (IsReady IsType IsName KeysIn InExpression (λ x. is_unreadable x ≡ false) all) (sites_of m.body)) ms

  rest_in : (m : PlainMethod) (made : Made) (o : Option AllMade) (rs : AllMade) → InMethod m → InStatements made.block → ((ss : AllMade) → o ≡ Some ss → InMethods ss.methods)
      → option_map (λ (all : AllMade). record { methods = with_body m made.block ∷ all.methods; taken = all.taken }) o ≡ Some rs → InMethods rs.methods
  rest_in m made None rs h b ih q = absurd cc
  rest_in m made (Some ss) rs h b ih q = subst (λ (rs : AllMade). InMethods rs.methods) (some_is _ rs q) (record { result = h.result; name = h.name; params = h.params; body = b }, ih ss refl)

  one_in : (m : PlainMethod) (rest : List PlainMethod) (k : ℕ) (o : Option Made) (rs : AllMade) → InMethod m → AllByRecursion (IsReady IsType IsName KeysIn InExpression (λ x. is_unreadable x ≡ false) all) (sites_of m.body)
      → ((j : ℕ) (ss : AllMade) → inlined_methods expand j rest ≡ Some ss → InMethods ss.methods)
      → all_inlined expand as_they_are k m.body ≡ o → made_method m o (λ j. inlined_methods expand j rest) ≡ Some rs → InMethods rs.methods
  one_in m rest k None rs h y ih is q = absurd cc
  one_in m rest k (Some made) rs h y ih is q = rest_in m made (inlined_methods expand made.taken rest) rs h (keeps k m.body made h.body y is) (ih made.taken) q

  methods_in : (ms : List PlainMethod) (k : ℕ) (rs : AllMade) → InMethods ms → AreReady ms → inlined_methods expand k ms ≡ Some rs → InMethods rs.methods
  methods_in [] k rs h y q = subst (λ (rs : AllMade). InMethods rs.methods) (some_is _ rs q) tt
  methods_in (m ∷ ms) k rs h y q = one_in m ms k (all_inlined expand as_they_are k m.body) rs h.0 y.0 (λ j ss i. methods_in ms j ss h.1 y.1 i) refl q

-- ---- Programs

itself_in : KeepsNames as_they_are
itself_in = record { name = λ x h. h; variable = λ x h. h }

blocks_in : (p : PlainProgram) → IsInGrammar p → BreaksNone p → AreFitting p.methods → (e k : ℕ) (b : Statements) (made : Made) → InStatements b → AllByRecursion (IsReady IsType IsName KeysIn InExpression (λ x. is_unreadable x ≡ false) p.methods) (sites_of b)
    → all_inlined (expand_at e (names_of p) p.methods) as_they_are k b ≡ Some made → InStatements made.block
blocks_in p h none fitting e k b made i y q =
    all_back made.block (blocks_have IsType IsName KeysIn InExpression (λ x. is_unreadable x ≡ false) KeepsNames shape_in (names_of p) p.methods (methods_of p.methods h.methods) (program_ready p none fitting) e as_they_are k b made itself_in (all_of b i) y q)

within_in : (p q : PlainProgram) (e : ℕ) (o : Option AllMade) → IsInGrammar p → BreaksNone p → AreFitting p.methods → inlined_methods (expand_at e (names_of p) p.methods) 0 p.methods ≡ o
    → option_map (λ (all : AllMade). with_methods p all.methods) o ≡ Some q → IsInGrammar q
within_in p q e None h none fitting is i = absurd cc
within_in p q e (Some all) h none fitting is i =
    subst IsInGrammar (some_is (with_methods p all.methods) q i)
    (record { «package» = h.«package»; imports = h.imports; name = h.name; methods = methods_in p.methods (expand_at e (names_of p) p.methods) (blocks_in p h none fitting e) p.methods 0 all h.methods (program_ready p none fitting) is })

pub in_grammar : (p q : PlainProgram) → IsInGrammar p → BreaksNone p → AreFitting p.methods → IsInlined p q → IsInGrammar q
in_grammar p q h none fitting is = within_in p q is.0 (inlined_methods (expand_at is.0 (names_of p) p.methods) 0 p.methods) h none fitting refl is.1

-- where it is well typed the helpers fit
pub typed_in_grammar : (schema : Schema) (read : List ℕ → Option PlainQuery) (p q : PlainProgram) → IsInGrammar p → BreaksNone p → IsInlined p q → IsWellTyped schema read q → IsInGrammar q
typed_in_grammar schema read p q h none is typed = in_grammar p q h none (are_fitting schema read p q (plain_types p h) none is typed) is
