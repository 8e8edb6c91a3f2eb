-- What known lists hold at the loop: the scalars that the query of each answers to the values that its arguments have
-- there, in a set each once.
use Rattle.std.proofs.Common.{◌≡◌, ℕ, Bool, true, false, not, ◌&&◌, ◌||◌, List, Option, Some, None, refl, sym, ap, ◌∙◌, subst, cond}
use Rattle.std.specs.Prelude.{bytes_eq}
use Rattle.std.proofs.lemmas.Bool.{and_parts, or_parts, or_left, or_right}
use Rattle.std.proofs.lemmas.List.Folds.{list_any-append}
use Rattle.qbs_base.specs.declared.span.Span.{Span}
use Rattle.java_ast.specs.Tree as tree
use Rattle.java_ast.specs.Tree.{Spelled, Expression, Expressions, NoMore, And, Statement, Statements, Nothing, Then, PlainMethod}
use Rattle.java_mean.specs.declared.types.JavaType.{JavaType}
use Rattle.java_mean.specs.Refines.{followed_by}
use Rattle.java_mean.specs.Types.{Types}
use Rattle.java_mean.proofs.Puts.{names_equal}
use Rattle.java_loops.specs.Walks.Runs.{is_set_in, Gives, declares, assigns}
use Rattle.loop_text.specs.Statements.Fragment.{set_by, is_simple, are_simple}
use Rattle.java_loops.specs.Kernel.KernelConditions.{is_scalar_type, is_row_type, is_steady, is_entry, is_column_query, are_entries, is_known_query, is_known}
use Rattle.loop_text.specs.Kernel.KernelConditions.{Asked, asked_by_query, asked_by, asked_in, first_setting, behind_setting, sets_some, sets_one, asked_in_found, asked_for}
use Rattle.java_ast.specs.Names.{Names, is_among, names_in, names_among}
use Rattle.java_loops.specs.Kernel.Setting.{Setting}
use Rattle.loop_text.specs.Statements.Setting.{is_found}
use Rattle.java_loops.proofs.Nested.NestRules.{false_from_not}

-- ---- The statement that asks

-- a known list's expression: the query, or a set of what it answers
pub data AsksBy (a : Asked) : Bool → Expression → Type 0 where
  as_list : (at : Span) (ty : Spelled) → AsksBy a false (tree.Query at ty a.text a.arguments)
  as_set : (at at' : Span) (ty : Spelled) → AsksBy a true (tree.NewSetOf at (tree.Query at' ty a.text a.arguments))

pub record IsAskedBy (a : Asked) (e : Expression) : Type 0 where
  pub set : Bool
  pub form : AsksBy a set e

query_asks : (at : Span) (ty : Spelled) (text : List ℕ) (es : Expressions) (a : Asked) → Some (record { text = text; arguments = es }) ≡ Some a → IsAskedBy a (tree.Query at ty text es)
query_asks at ty text es a h =
    let plain : Asked = record { text = text; arguments = es } in
    let same : plain ≡ a = (let l : Some plain ≡ Some a = h in cc) in
    subst (λ (z : Asked). IsAskedBy z (tree.Query at ty text es)) same (record { set = false; form = as_list at ty })

set_asks : (at : Span) (e : Expression) (a : Asked) → asked_by_query e ≡ Some a → IsAskedBy a (tree.NewSetOf at e)
set_asks at (tree.Query at' ty text es) a h =
    let plain : Asked = record { text = text; arguments = es } in
    let same : plain ≡ a = (let l : Some plain ≡ Some a = h in cc) in
    subst (λ (z : Asked). IsAskedBy z (tree.NewSetOf at (tree.Query at' ty text es))) same (record { set = true; form = as_set at at' ty })
set_asks at (tree.Lit at' x) a h = absurd cc
set_asks at (tree.Var at' x) a h = absurd cc
set_asks at (tree.Field at' e n) a h = absurd cc
set_asks at (tree.Binary at' op b c) a h = absurd cc
set_asks at (tree.Not at' e) a h = absurd cc
set_asks at (tree.Equals at' b c) a h = absurd cc
set_asks at (tree.Size at' x) a h = absurd cc
set_asks at (tree.Get at' x e) a h = absurd cc
set_asks at (tree.Contains at' x e) a h = absurd cc
set_asks at (tree.Fetch at' n) a h = absurd cc
set_asks at (tree.QueryLong at' text es) a h = absurd cc
set_asks at (tree.QueryBoolean at' text es) a h = absurd cc
set_asks at (tree.NewList at') a h = absurd cc
set_asks at (tree.NewSet at') a h = absurd cc
set_asks at (tree.NewSetOf at' e) a h = absurd cc

asks : (e : Expression) (a : Asked) → asked_by e ≡ Some a → IsAskedBy a e
asks (tree.Query at ty text es) a h = query_asks at ty text es a h
asks (tree.NewSetOf at e) a h = set_asks at e a h
asks (tree.Lit at x) a h = absurd cc
asks (tree.Var at x) a h = absurd cc
asks (tree.Field at e n) a h = absurd cc
asks (tree.Binary at op b c) a h = absurd cc
asks (tree.Not at e) a h = absurd cc
asks (tree.Equals at b c) a h = absurd cc
asks (tree.Size at x) a h = absurd cc
asks (tree.Get at x e) a h = absurd cc
asks (tree.Contains at x e) a h = absurd cc
asks (tree.Fetch at n) a h = absurd cc
asks (tree.QueryLong at text es) a h = absurd cc
asks (tree.QueryBoolean at text es) a h = absurd cc
asks (tree.NewList at) a h = absurd cc
asks (tree.NewSet at) a h = absurd cc

-- One statement of a run sets the variable, and gives it an expression that asks.
pub record IsAskedFor (run : Statements) (ids : List ℕ) (a : Asked) : Type 0 where
  pub before : Statements
  pub statement : Statement
  pub is : run ≡ followed_by before (Then statement (behind_setting ids run))
  pub once : is_set_in (behind_setting ids run) ids ≡ false
  pub value : Expression
  pub gives : Gives statement ids value
  pub asks : IsAskedBy a value

record FirstSet (x : List ℕ) (p : Statements) (s : Statement) : Type 0 where
  before : Statements
  is : p ≡ followed_by before (Then s (behind_setting x p))
  sets : bytes_eq (set_by s) x ≡ true

first_step : (x : List ℕ) (a : Statement) (p : Statements) (s : Statement) (t : Bool) → bytes_eq (set_by a) x ≡ t → cond t (Some a) (first_setting x p) ≡ Some s → (first_setting x p ≡ Some s → FirstSet x p s) → FirstSet x (Then a p) s
first_step x a p s true e h ih =
    let same : a ≡ s = (let l : Some a ≡ Some s = h in cc) in
    record { before = Nothing; is = ap (λ z. Then z p) same ∙ ap (λ b. Then s (cond b p (behind_setting x p))) (sym e); sets = ap (λ z. bytes_eq (set_by z) x) (sym same) ∙ e }
first_step x a p s false e h ih =
    let k : FirstSet x p s = ih h in
    record { before = Then a k.before; is = ap (Then a) (k.is ∙ ap (λ b. followed_by k.before (Then s (cond b p (behind_setting x p)))) (sym e)); sets = k.sets }

first_set : (x : List ℕ) (p : Statements) (s : Statement) → first_setting x p ≡ Some s → FirstSet x p s
first_set x Nothing s h = absurd cc
first_set x (Then a p) s h = first_step x a p s (bytes_eq (set_by a) x) refl h (first_set x p s)

unset_step : (x : List ℕ) (a : Statement) (p : Statements) (t : Bool) → bytes_eq (set_by a) x ≡ t → cond t (Some a) (first_setting x p) ≡ None → (first_setting x p ≡ None → is_set_in p x ≡ false) → is_set_in (Then a p) x ≡ false
unset_step x a p true e h ih = absurd cc
unset_step x a p false e h ih = ap (λ b. b || is_set_in p x) e ∙ ih h

never_set : (x : List ℕ) (p : Statements) → first_setting x p ≡ None → is_set_in p x ≡ false
never_set x Nothing h = refl
never_set x (Then a p) h = unset_step x a p (bytes_eq (set_by a) x) refl h (never_set x p)

record GivesAsked (s : Statement) (a : Asked) : Type 0 where
  value : Expression
  gives : Gives s (set_by s) value
  asks : IsAskedBy a value

gives_asked : (s : Statement) (a : Asked) → asked_in s ≡ Some a → GivesAsked s a
gives_asked (tree.Declare at ty x e) a h = record { value = e; gives = declares at ty x e; asks = asks e a h }
gives_asked (tree.Assign at x e) a h = record { value = e; gives = assigns at x e; asks = asks e a h }
gives_asked (tree.Add at x e) a h = absurd cc
gives_asked (tree.Sort at x keys downs) a h = absurd cc
gives_asked (tree.If at c p) a h = absurd cc
gives_asked (tree.IfElse at c p q) a h = absurd cc
gives_asked (tree.ForEach at ty x e p) a h = absurd cc
gives_asked (tree.While at c p) a h = absurd cc
gives_asked (tree.Print at e) a h = absurd cc
gives_asked (tree.Return at e) a h = absurd cc
gives_asked (tree.Break at) a h = absurd cc

asked_so : (run : Statements) (ids : List ℕ) (a : Asked) (o : Option Statement) → first_setting ids run ≡ o → asked_in_found o ≡ Some a → is_set_in (behind_setting ids run) ids ≡ false → IsAskedFor run ids a
asked_so run ids a None e h n = absurd cc
asked_so run ids a (Some s) e h n =
    let k : FirstSet ids run s = first_set ids run s e in
    let g : GivesAsked s a = gives_asked s a h in
    record { before = k.before; statement = s; is = k.is; once = n; value = g.value; gives = subst (λ z. Gives s z g.value) (names_equal (set_by s) ids k.sets) g.gives; asks = g.asks }

-- ---- What is known of it by the rule

-- The query has one column and no limit, its arguments are entries, and nothing behind it sets what they mention.
pub record IsKnownList (w : Setting) (n : ℕ) (ids : List ℕ) : Type 0 where
  pub asked : Asked
  pub is : asked_for w.fragment.run ids ≡ Some asked
  pub column : is_column_query (w.read asked.text) ≡ true
  pub entries : are_entries w n asked.arguments ≡ true
  pub still : sets_some (names_among asked.arguments) (behind_setting ids w.fragment.run) ≡ false
  pub asks : IsAskedFor w.fragment.run ids asked

not_found : {A : Type 0} (o : Option A) → not (is_found o) ≡ true → o ≡ None
not_found None e = refl
not_found (Some x) e = absurd cc

known_so : (w : Setting) (n : ℕ) (ids : List ℕ) (o : Option Asked) → asked_for w.fragment.run ids ≡ o → first_setting ids (behind_setting ids w.fragment.run) ≡ None → is_known_query w n (behind_setting ids w.fragment.run) o ≡ true → IsKnownList w n ids
known_so w n ids None e u h = absurd cc
known_so w n ids (Some a) e u h =
    let two = and_parts (is_column_query (w.read a.text)) (are_entries w n a.arguments && not (sets_some (names_among a.arguments) (behind_setting ids w.fragment.run))) h in
    let more = and_parts (are_entries w n a.arguments) (not (sets_some (names_among a.arguments) (behind_setting ids w.fragment.run))) two.1 in
    record {
      asked = a;
      is = e;
      column = two.0;
      entries = more.0;
      still = false_from_not (sets_some (names_among a.arguments) (behind_setting ids w.fragment.run)) more.1;
      asks = asked_so w.fragment.run ids a (first_setting ids w.fragment.run) refl e (never_set ids (behind_setting ids w.fragment.run) u);
    }

pub known_list : (w : Setting) (n : ℕ) (ids : List ℕ) → is_known w n ids ≡ true → IsKnownList w n ids
known_list w n ids h =
    let two = and_parts (not (is_found (first_setting ids (behind_setting ids w.fragment.run)))) (is_known_query w n (behind_setting ids w.fragment.run) (asked_for w.fragment.run ids)) h in
    known_so w n ids (asked_for w.fragment.run ids) refl (not_found (first_setting ids (behind_setting ids w.fragment.run)) two.0) two.1

-- ---- Arguments that nothing sets

unset_here : (names : Names) (x y : List ℕ) (t : Bool) → bytes_eq y x ≡ t → is_among names y ≡ false → is_among names x ≡ true → bytes_eq y x ≡ false
unset_here names x y true e n h = let same : is_among names y ≡ is_among names x = ap (is_among names) (names_equal y x e) in absurd cc
unset_here names x y false e n h = e

unset_one : (names : Names) (s : Statement) (x : List ℕ) → is_simple s ≡ true → sets_one names s ≡ false → is_among names (set_by s) ≡ false
unset_one names (tree.Declare at ty y e) x simple n = n
unset_one names (tree.Assign at y e) x simple n = n
unset_one names (tree.Sort at y keys downs) x simple n = n
unset_one names (tree.Add at y e) x simple n = absurd cc
unset_one names (tree.If at c a) x simple n = absurd cc
unset_one names (tree.IfElse at c a o) x simple n = absurd cc
unset_one names (tree.ForEach at ty y e body) x simple n = absurd cc
unset_one names (tree.While at c body) x simple n = absurd cc
unset_one names (tree.Print at e) x simple n = absurd cc
unset_one names (tree.Return at e) x simple n = absurd cc
unset_one names (tree.Break at) x simple n = absurd cc

pub unset_names : (names : Names) (p : Statements) (x : List ℕ) → are_simple p ≡ true → sets_some names p ≡ false → is_among names x ≡ true → is_set_in p x ≡ false
unset_names names Nothing x simple n h = refl
unset_names names (Then s p) x simple n h =
    let two = or_parts (sets_one names s) (sets_some names p) n in
    let each = and_parts (is_simple s) (are_simple p) simple in
    ap (λ b. b || is_set_in p x) (unset_here names x (set_by s) (bytes_eq (set_by s) x) refl (unset_one names s x each.0 two.0) h) ∙ unset_names names p x each.1 two.1 h

-- ---- Arguments are no lists

abbrev is_single_type : Option JavaType → Bool
is_single_type o = is_scalar_type o || is_row_type o

only_name : (types : Types) (x y : List ℕ) → bytes_eq y x ≡ true → is_single_type (types x) ≡ true → is_single_type (types y) ≡ true
only_name types x y e h = ap (λ z. is_single_type (types z)) (names_equal y x e) ∙ h

or_false_is : (b : Bool) → (b || false) ≡ true → b ≡ true
or_false_is true e = refl
or_false_is false e = absurd cc

entry_single : (w : Setting) (n : ℕ) (e : Expression) (y : List ℕ) → is_entry w n e ≡ true → is_among (names_in e) y ≡ true → is_single_type (w.types y) ≡ true
entry_single w n (tree.Var at x) y h i = only_name w.types x y (or_false_is (bytes_eq y x) i) (or_left (is_scalar_type (w.types x)) (is_row_type (w.types x)) (and_parts (is_scalar_type (w.types x)) (is_steady w n x) h).0)
entry_single w n (tree.Field at (tree.Var at' x) f) y h i = only_name w.types x y (or_false_is (bytes_eq y x) i) (or_right (is_scalar_type (w.types x)) (is_row_type (w.types x)) (and_parts (is_row_type (w.types x)) (is_steady w n x) h).0)
entry_single w n (tree.Field at (tree.Lit at' x) f) y h i = absurd cc
entry_single w n (tree.Field at (tree.Field at' e m) f) y h i = absurd cc
entry_single w n (tree.Field at (tree.Binary at' op a b) f) y h i = absurd cc
entry_single w n (tree.Field at (tree.Not at' e) f) y h i = absurd cc
entry_single w n (tree.Field at (tree.Equals at' a b) f) y h i = absurd cc
entry_single w n (tree.Field at (tree.Size at' x) f) y h i = absurd cc
entry_single w n (tree.Field at (tree.Get at' x e) f) y h i = absurd cc
entry_single w n (tree.Field at (tree.Contains at' x e) f) y h i = absurd cc
entry_single w n (tree.Field at (tree.Fetch at' m) f) y h i = absurd cc
entry_single w n (tree.Field at (tree.Query at' ty text es) f) y h i = absurd cc
entry_single w n (tree.Field at (tree.QueryLong at' text es) f) y h i = absurd cc
entry_single w n (tree.Field at (tree.QueryBoolean at' text es) f) y h i = absurd cc
entry_single w n (tree.Field at (tree.NewList at') f) y h i = absurd cc
entry_single w n (tree.Field at (tree.NewSet at') f) y h i = absurd cc
entry_single w n (tree.Field at (tree.NewSetOf at' e) f) y h i = absurd cc
entry_single w n (tree.Lit at x) y h i = absurd cc
entry_single w n (tree.Binary at op a b) y h i = absurd cc
entry_single w n (tree.Not at e) y h i = absurd cc
entry_single w n (tree.Equals at a b) y h i = absurd cc
entry_single w n (tree.Size at x) y h i = absurd cc
entry_single w n (tree.Get at x e) y h i = absurd cc
entry_single w n (tree.Contains at x e) y h i = absurd cc
entry_single w n (tree.Fetch at m) y h i = absurd cc
entry_single w n (tree.Query at ty text es) y h i = absurd cc
entry_single w n (tree.QueryLong at text es) y h i = absurd cc
entry_single w n (tree.QueryBoolean at text es) y h i = absurd cc
entry_single w n (tree.NewList at) y h i = absurd cc
entry_single w n (tree.NewSet at) y h i = absurd cc
entry_single w n (tree.NewSetOf at e) y h i = absurd cc

either_true : (a b : Bool) (P : Type 0) → (a || b) ≡ true → (a ≡ true → P) → (b ≡ true → P) → P
either_true true b P e f g = f refl
either_true false b P e f g = g e

pub arguments_single : (w : Setting) (n : ℕ) (es : Expressions) (y : List ℕ) → are_entries w n es ≡ true → is_among (names_among es) y ≡ true → is_single_type (w.types y) ≡ true
arguments_single w n NoMore y h i = absurd cc
arguments_single w n (And e es) y h i =
    let two = and_parts (is_entry w n e) (are_entries w n es) h in
    either_true (is_among (names_in e) y) (is_among (names_among es) y) (is_single_type (w.types y) ≡ true) (sym (list_any-append (bytes_eq y) (names_in e) (names_among es)) ∙ i) (λ k. entry_single w n e y two.0 k) (λ k. arguments_single w n es y two.1 k)
