-- Inlined programs can be written.
use Rattle.std.proofs.Common.{◌≡◌, ℕ, Bool, true, false, cond, List, [], ◌∷◌, ◌++◌, ◌+◌, ◌<◌, Option, Some, None, refl, subst, arith}
use Rattle.std.specs.List.{AllByRecursion}
use Rattle.std.specs.Option.{option_map}
use Rattle.std.specs.Prelude.{◌&&◌, ◌||◌, bytes_eq, nat_le, map}
use Rattle.std.specs.Int.Digits.{digits_of}
use Rattle.std.proofs.lemmas.Bool.Decides.{nat_tests}
use Rattle.std.proofs.lemmas.Int.Digits.{all_below_base_digits_of}
use Rattle.qbs_base.specs.Bytes.{is_name_start, is_name_part, is_digit}
use Rattle.java_ast.specs.Path.{with_body, with_methods}
use Rattle.java_ast.specs.Tree.{Expression, Lit, Var, Field, Binary, Not, Equals, Size, Get, Contains, Fetch, Query, QueryLong, QueryBoolean, NewList, NewSet, NewSetOf, Expressions, NoMore, And, Statement, Declare, Assign, Add, Sort, If, IfElse, ForEach, While, Print, Return, Break, Statements, Nothing, Then, PlainParam, PlainMethod, PlainProgram}
use Rattle.java_grammar.specs.Written.{are_name_parts, IsWord, WrittenType, WrittenExpression, WrittenExpressions, WrittenKeys, WrittenStatement, WrittenStatements, WrittenParams, WrittenResult, WrittenMethods, IsWritten}
use Rattle.call_parts.specs.Marks.{mark_of}
use Rattle.java_calls.specs.Inlining.{Made, AllMade, Expand, all_inlined, expand_at, made_method, inlined_methods, IsInlined}
use Rattle.java_calls.specs.ProgramNames.{names_of}
use Rattle.java_calls.specs.Renaming.{Renaming, as_they_are, marked_but, renamed, all_renamed}
use Rattle.java_calls.specs.Rules.{Site, sites_of}
use Rattle.inlined_grammar.proofs.Shapes.{Each, All, Arguments, Params, OfTarget, IsReady, IsShape, IsOf, blocks_have}

some_is : {A : Type 0} (a b : A) → Some a ≡ Some b → a ≡ b
some_is a b e = cc

both_true : (a b : Bool) → (a && b) ≡ true → (a ≡ true) × (b ≡ true)
both_true true true h = (refl, refl)
both_true true false h = absurd cc
both_true false b h = absurd cc

both : (a b : Bool) → a ≡ true → b ≡ true → (a && b) ≡ true
both true b h i = i
both false b h i = absurd cc

or_second : (a b : Bool) → b ≡ true → (a || b) ≡ true
or_second true b h = refl
or_second false b h = h

-- ---- Words with a mark

digit_from : (d : ℕ) → d < 10 → nat_le 48 (48 + d) ≡ true
digit_from d h = grind (arith, nat_tests, h)

digit_to : (d : ℕ) → d < 10 → nat_le (48 + d) 57 ≡ true
digit_to d h = grind (arith, nat_tests, h)

digits_are_parts : (ds : List ℕ) → AllByRecursion (λ d. d < 10) ds → are_name_parts (map (λ d. 48 + d) ds) ≡ true
digits_are_parts [] h = refl
digits_are_parts (d ∷ ds) h =
    both (is_name_part (48 + d)) (are_name_parts (map (λ d. 48 + d) ds))
    (or_second (is_name_start (48 + d)) (is_digit (48 + d)) (both (nat_le 48 (48 + d)) (nat_le (48 + d) 57) (digit_from d h.0) (digit_to d h.0)))
    (digits_are_parts ds h.1)

parts_joined : (xs ys : List ℕ) → are_name_parts xs ≡ true → are_name_parts ys ≡ true → are_name_parts (xs ++ ys) ≡ true
parts_joined [] ys h i = i
parts_joined (x ∷ xs) ys h i = let b = both_true (is_name_part x) (are_name_parts xs) h in both (is_name_part x) (are_name_parts (xs ++ ys)) b.0 (parts_joined xs ys b.1 i)

mark_is_parts : (c : ℕ) → are_name_parts (mark_of c) ≡ true
mark_is_parts c = digits_are_parts (digits_of 10 c) (all_below_base_digits_of 10 c (omega arith))

marked_is_word : (x : List ℕ) (c : ℕ) → IsWord x → IsWord (x ++ mark_of c)
marked_is_word [] c h = absurd cc
marked_is_word (b ∷ bs) c h = let i = both_true (is_name_start b) (are_name_parts bs) h in both (is_name_start b) (are_name_parts (bs ++ mark_of c)) i.0 (parts_joined bs (mark_of c) i.1 (mark_is_parts c))

-- ---- Renamings

abbrev KeepsWords : Renaming → Type 0
KeepsWords f = (x : List ℕ) → IsWord x → IsWord (f x)

module _ (f : Renaming) (r : KeepsWords f) where
  mutual
    value_written : (e : Expression) → WrittenExpression e → WrittenExpression (renamed f e)
    value_written (Lit at value) h = h
    value_written (Var at x) h = r x h
    value_written (Field at row column) h = (value_written row h.0, h.1)
    value_written (Binary at op a b) h = (value_written a h.0, value_written b h.1)
    value_written (Not at e) h = value_written e h
    value_written (Equals at a b) h = (value_written a h.0, value_written b h.1)
    value_written (Size at x) h = r x h
    value_written (Get at x e) h = (r x h.0, value_written e h.1)
    value_written (Contains at x e) h = (r x h.0, value_written e h.1)
    value_written (Fetch at table) h = h
    value_written (Query at element text es) h = (h.0, h.1, values_written es h.2)
    value_written (QueryLong at text es) h = (h.0, values_written es h.1)
    value_written (QueryBoolean at text es) h = (h.0, values_written es h.1)
    value_written (NewList at) h = tt
    value_written (NewSet at) h = tt
    value_written (NewSetOf at query) h = value_written query h

    values_written : (es : Expressions) → WrittenExpressions es → WrittenExpressions (all_renamed f es)
    values_written NoMore h = tt
    values_written (And e es) h = (value_written e h.0, values_written es h.1)

kept_word : (to x : List ℕ) (c : ℕ) (b : Bool) → IsWord to → IsWord x → IsWord (cond b to (x ++ mark_of c))
kept_word to x c true h i = h
kept_word to x c false h i = marked_is_word x c i

-- nothing more is asked of a variable that takes a call's value
abbrev Anything : List ℕ → Type 0
Anything x = Unit {0}

marked_words : (f : Renaming) → KeepsWords f → (x : List ℕ) → IsWord x → (c : ℕ) (kept : Option (List ℕ)) → ((v : List ℕ) → kept ≡ Some v → Anything x) → KeepsWords (marked_but kept (f x) c)
marked_words f r x n c None h = λ y i. marked_is_word y c i
marked_words f r x n c (Some v) h = λ y i. kept_word (f x) y c (bytes_eq v y) (r x n) i

arguments_written : (es : Expressions) → WrittenExpressions es → Arguments WrittenType IsWord WrittenKeys WrittenExpression es
arguments_written NoMore h = tt
arguments_written (And e es) h = (h.0, arguments_written es h.1)

shape_written : IsShape WrittenType IsWord WrittenKeys WrittenExpression Anything KeepsWords
shape_written =
    record {
      name = λ f r x n. r x n;
      value = λ f r e h. value_written f r e h;
      marked = marked_words;
      arguments = λ at text es h. arguments_written es h.1;
    }

-- ---- Statements

abbrev EachWritten : Statement → Type 0
EachWritten = Each WrittenType IsWord WrittenKeys WrittenExpression

abbrev AllWritten : Statements → Type 0
AllWritten = All WrittenType IsWord WrittenKeys WrittenExpression

mutual
  each_of : (a : Statement) → WrittenStatement a → EachWritten a
  each_of (Declare at ty x e) h = h
  each_of (Assign at x e) h = h
  each_of (Add at x e) h = h
  each_of (Sort at x keys downs) h = h
  each_of (If at c a) h = (h.0, all_of a h.1)
  each_of (IfElse at c a b) h = (h.0, all_of a h.1, all_of b h.2)
  each_of (ForEach at ty x e body) h = (h.0, h.1, h.2, all_of body h.3)
  each_of (While at c body) h = (h.0, all_of body h.1)
  each_of (Print at e) h = h
  each_of (Return at None) h = h
  each_of (Return at (Some e)) h = h
  each_of (Break at) h = h

  all_of : (p : Statements) → WrittenStatements p → AllWritten p
  all_of Nothing h = tt
  all_of (Then a p) h = (each_of a h.0, all_of p h.1)

mutual
  each_back : (a : Statement) → EachWritten a → WrittenStatement a
  each_back (Declare at ty x e) h = h
  each_back (Assign at x e) h = h
  each_back (Add at x e) h = h
  each_back (Sort at x keys downs) h = h
  each_back (If at c a) h = (h.0, all_back a h.1)
  each_back (IfElse at c a b) h = (h.0, all_back a h.1, all_back b h.2)
  each_back (ForEach at ty x e body) h = (h.0, h.1, h.2, all_back body h.3)
  each_back (While at c body) h = (h.0, all_back body h.1)
  each_back (Print at e) h = h
  each_back (Return at None) h = h
  each_back (Return at (Some e)) h = h
  each_back (Break at) h = h

  all_back : (p : Statements) → AllWritten p → WrittenStatements p
  all_back Nothing h = tt
  all_back (Then a p) h = (each_back a h.0, all_back p h.1)

-- ---- Methods

params_of : (ps : List PlainParam) → WrittenParams ps → Params WrittenType IsWord WrittenKeys WrittenExpression ps
params_of [] h = tt
params_of (p ∷ ps) h = (h.0, h.1, params_of ps h.2)

methods_of : (ms : List PlainMethod) → WrittenMethods ms → AllByRecursion (IsOf WrittenType IsWord WrittenKeys WrittenExpression) ms
methods_of [] h = tt
methods_of (m ∷ ms) h = (record { params = params_of m.params h.0.2; body = all_of m.body h.0.3 }, methods_of ms h.1)

of_anything : (o : Option Statement) → OfTarget WrittenType IsWord WrittenKeys WrittenExpression Anything o
of_anything None = tt
of_anything (Some s) = tt

abbrev Ready : List PlainMethod → List Site → Type 0
Ready ms sites = AllByRecursion (IsReady WrittenType IsWord WrittenKeys WrittenExpression Anything ms) sites

all_ready : (ms : List PlainMethod) (sites : List Site) → Ready ms sites
all_ready ms [] = tt
all_ready ms (site ∷ sites) = (λ m v named kept. of_anything site.whole, all_ready ms sites)

methods_ready : (all ms : List PlainMethod) → AllByRecursion (λ (m : PlainMethod). Ready all (sites_of m.body)) ms
methods_ready all [] = tt
methods_ready all (m ∷ ms) = (all_ready all (sites_of m.body), methods_ready all ms)

module _ (expand : Expand) (keeps : (k : ℕ) (p : Statements) (made : Made) → WrittenStatements p → all_inlined expand as_they_are k p ≡ Some made → WrittenStatements made.block) where
  rest_written : (m : PlainMethod) (made : Made) (o : Option AllMade) (rs : AllMade) → WrittenResult m.result → IsWord m.name → WrittenParams m.params → WrittenStatements made.block → ((ss : AllMade) → o ≡ Some ss → WrittenMethods ss.methods)
      → option_map (λ (all : AllMade). record { methods = with_body m made.block ∷ all.methods; taken = all.taken }) o ≡ Some rs → WrittenMethods rs.methods
  rest_written m made None rs r n ps b ih q = absurd cc
  rest_written m made (Some ss) rs r n ps b ih q = subst (λ (rs : AllMade). WrittenMethods rs.methods) (some_is _ rs q) ((r, n, ps, b), ih ss refl)

  one_written : (m : PlainMethod) (rest : List PlainMethod) (k : ℕ) (o : Option Made) (rs : AllMade) → WrittenMethods (m ∷ rest) → ((j : ℕ) (ss : AllMade) → inlined_methods expand j rest ≡ Some ss → WrittenMethods ss.methods)
      → all_inlined expand as_they_are k m.body ≡ o → made_method m o (λ j. inlined_methods expand j rest) ≡ Some rs → WrittenMethods rs.methods
  one_written m rest k None rs h ih is q = absurd cc
  one_written m rest k (Some made) rs h ih is q = rest_written m made (inlined_methods expand made.taken rest) rs h.0.0 h.0.1 h.0.2 (keeps k m.body made h.0.3 is) (ih made.taken) q

  methods_written : (ms : List PlainMethod) (k : ℕ) (rs : AllMade) → WrittenMethods ms → inlined_methods expand k ms ≡ Some rs → WrittenMethods rs.methods
  methods_written [] k rs h q = subst (λ (rs : AllMade). WrittenMethods rs.methods) (some_is _ rs q) tt
  methods_written (m ∷ ms) k rs h q = one_written m ms k (all_inlined expand as_they_are k m.body) rs h (λ j ss i. methods_written ms j ss h.1 i) refl q

-- ---- Programs

blocks_written : (p : PlainProgram) → IsWritten p → (e k : ℕ) (b : Statements) (made : Made) → WrittenStatements b → all_inlined (expand_at e (names_of p) p.methods) as_they_are k b ≡ Some made → WrittenStatements made.block
blocks_written p h e k b made i q =
    all_back made.block (blocks_have WrittenType IsWord WrittenKeys WrittenExpression Anything KeepsWords shape_written (names_of p) p.methods (methods_of p.methods h.methods) (methods_ready p.methods p.methods) e as_they_are k b made (λ x n. n) (all_of b i) (all_ready p.methods (sites_of b)) q)

within_written : (p q : PlainProgram) (e : ℕ) (o : Option AllMade) → IsWritten p → inlined_methods (expand_at e (names_of p) p.methods) 0 p.methods ≡ o → option_map (λ (all : AllMade). with_methods p all.methods) o ≡ Some q → IsWritten q
within_written p q e None h is i = absurd cc
within_written p q e (Some all) h is i =
    subst IsWritten (some_is (with_methods p all.methods) q i)
    (record { «package» = h.«package»; imports = h.imports; name = h.name; methods = methods_written (expand_at e (names_of p) p.methods) (blocks_written p h e) p.methods 0 all h.methods is })

pub is_written : (p q : PlainProgram) → IsWritten p → IsInlined p q → IsWritten q
is_written p q h is = within_written p q is.0 (inlined_methods (expand_at is.0 (names_of p) p.methods) 0 p.methods) h refl is.1
