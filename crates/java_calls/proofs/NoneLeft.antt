-- In the inlined program no call is left.
use Rattle.std.proofs.Common.{◌≡◌, ℕ, zero, suc, Bool, true, false, cond, ◌&&◌, List, [], ◌∷◌, ◌++◌, Option, Some, None, refl, sym, ap, ap₂, ◌∙◌, subst, option_map, slice_get, position, append_assoc}
use Rattle.std.specs.List.{AllByRecursion}
use Rattle.std.specs.Prelude.{bytes_eq}
use Rattle.qbs_base.specs.declared.span.Span.{Span}
use Rattle.java_ast.specs.Names.{Names}
use Rattle.java_ast.specs.Path.{with_body, with_methods}
use Rattle.java_ast.specs.Spans.{place_of}
use Rattle.java_ast.specs.Tree.{Spelled, Expression, Lit, Var, Field, Binary, Not, Equals, Size, Get, Contains, Fetch, Query, QueryLong, QueryBoolean, NewList, NewSet, NewSetOf, Expressions, NoMore, And, Statement, Declare, Assign, Add, Sort, If, IfElse, ForEach, While, Print, Return, Break, Statements, Nothing, Then, PlainParam, PlainMethod, PlainProgram}
use Rattle.java_mean.specs.Refines.{followed_by}
use Rattle.call_parts.specs.Called.{is_single_name}
use Rattle.call_parts.specs.Marks.{next_number}
use Rattle.java_calls.specs.Called.{Call, call_of, call_at, method_named}
use Rattle.java_calls.specs.Inlining.{Made, AllMade, Expand, alone, made_of, both_made, then_made, expanded, inlined, all_inlined, expand_with, expand_at, without_last, returned_by, last_value, kept_variable, arguments_given, ended, target_of, made_method, inlined_methods, inlined_within, IsInlined}
use Rattle.java_calls.specs.Inlining as inlining
use Rattle.java_calls.specs.ProgramNames.{names_of}
use Rattle.java_calls.specs.Renaming.{Renaming, as_they_are, marked_but, renamed, all_renamed}
use Rattle.java_calls.specs.Rules.{HelperRule, NoMethod, Result as ResultRule, Site, site_of, sites_in, sites_among, sites_returned, sites_at, sites_of, may_take_from, returns_at_its_end, has_result_for, Broken, BreaksNone}
use Rattle.java_calls.proofs.Calls.{of_named, expand_step, expand_zero}
use Rattle.java_calls.proofs.Keeping.{all_each}
use Rattle.java_calls.proofs.Replacing.{all_left, all_right}

some_is : {A : Type 0} (a b : A) → Some a ≡ Some b → a ≡ b
some_is a b e = cc

-- each call is the whole value of a statement
abbrev pub IsWhole : Site → Type 0
IsWhole site = (site.whole ≡ None → ⊥)

abbrev AreNone : List Site → Type 0
AreNone sites = AllByRecursion (λ (site : Site). site.whole ≡ None) sites

none_both : (xs ys : List Site) → AreNone xs → AreNone ys → AreNone (xs ++ ys)
none_both [] ys h i = i
none_both (x ∷ xs) ys h i = (h.0, none_both xs ys h.1 i)

none_here : (at : Span) (o : Option Call) → AreNone (site_of None at o)
none_here at None = tt
none_here at (Some call) = (refl, tt)

-- within a value no call is the whole value of a statement
mutual
  none_in : (e : Expression) → AreNone (sites_in None e)
  none_in (Field at row column) = none_in row
  none_in (Binary at op a b) = none_both (sites_in None a) (sites_in None b) (none_in a) (none_in b)
  none_in (Not at e) = none_in e
  none_in (Equals at a b) = none_both (sites_in None a) (sites_in None b) (none_in a) (none_in b)
  none_in (Get at x e) = none_in e
  none_in (Contains at x e) = none_in e
  none_in (Query at element text es) = none_among es
  none_in (QueryLong at text es) = none_both (site_of None at (call_of (QueryLong at text es))) (sites_among es) (none_here at (call_of (QueryLong at text es))) (none_among es)
  none_in (QueryBoolean at text es) = none_among es
  none_in (NewSetOf at query) = none_in query
  none_in (Lit at value) = tt
  none_in (Var at x) = tt
  none_in (Size at x) = tt
  none_in (Fetch at table) = tt
  none_in (NewList at) = tt
  none_in (NewSet at) = tt

  none_among : (es : Expressions) → AreNone (sites_among es)
  none_among NoMore = tt
  none_among (And e es) = none_both (sites_in None e) (sites_among es) (none_in e) (none_among es)

-- so where each call is one, there is none
no_sites : (sites : List Site) → AreNone sites → AllByRecursion IsWhole sites → sites ≡ []
no_sites [] n h = refl
no_sites (site ∷ sites) n h = absurd (h.0 n.0)

none_value : (whole : Option Statement) (at : Span) (text : List ℕ) (es : Expressions) (o : Option Call) → o ≡ None → AreNone (site_of whole at o ++ sites_among es)
none_value whole at text es None h = none_among es
none_value whole at text es (Some call) h = absurd cc

-- nor where a value is no call
none_given : (whole : Option Statement) (e : Expression) → call_of e ≡ None → AreNone (sites_in whole e)
none_given whole (QueryLong at text es) h = none_value whole at text es (call_of (QueryLong at text es)) h
none_given whole (Field at row column) h = none_in (Field at row column)
none_given whole (Binary at op a b) h = none_in (Binary at op a b)
none_given whole (Not at e) h = none_in (Not at e)
none_given whole (Equals at a b) h = none_in (Equals at a b)
none_given whole (Get at x e) h = none_in (Get at x e)
none_given whole (Contains at x e) h = none_in (Contains at x e)
none_given whole (Query at element text es) h = none_among es
none_given whole (QueryBoolean at text es) h = none_among es
none_given whole (NewSetOf at query) h = none_in query
none_given whole (Lit at value) h = tt
none_given whole (Var at x) h = tt
none_given whole (Size at x) h = tt
none_given whole (Fetch at table) h = tt
none_given whole (NewList at) h = tt
none_given whole (NewSet at) h = tt

-- ---- Renamed values

no_first : {A : Type 0} (xs ys : List A) → xs ++ ys ≡ [] → xs ≡ []
no_first [] ys h = refl
no_first (x ∷ xs) ys h = absurd cc

no_second : {A : Type 0} (xs ys : List A) → xs ++ ys ≡ [] → ys ≡ []
no_second [] ys h = h
no_second (x ∷ xs) ys h = absurd cc

no_both : {A : Type 0} (xs ys : List A) → xs ≡ [] → ys ≡ [] → xs ++ ys ≡ []
no_both xs ys h i = ap₂ (λ a b. a ++ b) h i

named_so : (w v : Option Statement) (at : Span) (text : List ℕ) (es fs : Expressions) (b : Bool) → site_of w at (cond b (Some (record { name = text; arguments = es })) None) ≡ [] → site_of v at (cond b (Some (record { name = text; arguments = fs })) None) ≡ []
named_so w v at text es fs true h = absurd cc
named_so w v at text es fs false h = refl

module _ (f : Renaming) where
  mutual
    renamed_in : (w v : Option Statement) (e : Expression) → sites_in w e ≡ [] → sites_in v (renamed f e) ≡ []
    renamed_in w v (Field at row column) h = renamed_in None None row h
    renamed_in w v (Binary at op a b) h = no_both (sites_in None (renamed f a)) (sites_in None (renamed f b)) (renamed_in None None a (no_first (sites_in None a) (sites_in None b) h)) (renamed_in None None b (no_second (sites_in None a) (sites_in None b) h))
    renamed_in w v (Not at e) h = renamed_in None None e h
    renamed_in w v (Equals at a b) h = no_both (sites_in None (renamed f a)) (sites_in None (renamed f b)) (renamed_in None None a (no_first (sites_in None a) (sites_in None b) h)) (renamed_in None None b (no_second (sites_in None a) (sites_in None b) h))
    renamed_in w v (Get at x e) h = renamed_in None None e h
    renamed_in w v (Contains at x e) h = renamed_in None None e h
    renamed_in w v (Query at element text es) h = renamed_among es h
    renamed_in w v (QueryLong at text es) h =
        no_both (site_of v at (call_of (QueryLong at text (all_renamed f es)))) (sites_among (all_renamed f es))
        (named_so w v at text es (all_renamed f es) (is_single_name text) (no_first (site_of w at (call_of (QueryLong at text es))) (sites_among es) h))
        (renamed_among es (no_second (site_of w at (call_of (QueryLong at text es))) (sites_among es) h))
    renamed_in w v (QueryBoolean at text es) h = renamed_among es h
    renamed_in w v (NewSetOf at query) h = renamed_in None None query h
    renamed_in w v (Lit at value) h = refl
    renamed_in w v (Var at x) h = refl
    renamed_in w v (Size at x) h = refl
    renamed_in w v (Fetch at table) h = refl
    renamed_in w v (NewList at) h = refl
    renamed_in w v (NewSet at) h = refl

    renamed_among : (es : Expressions) → sites_among es ≡ [] → sites_among (all_renamed f es) ≡ []
    renamed_among NoMore h = refl
    renamed_among (And e es) h = no_both (sites_in None (renamed f e)) (sites_among (all_renamed f es)) (renamed_in None None e (no_first (sites_in None e) (sites_among es) h)) (renamed_among es (no_second (sites_in None e) (sites_among es) h))

  renamed_value : (e : Expression) → AllByRecursion IsWhole (sites_in None e) → sites_in None (renamed f e) ≡ []
  renamed_value e h = renamed_in None None e (no_sites (sites_in None e) (none_in e) h)

  renamed_returned : (o : Option Expression) → AllByRecursion IsWhole (sites_returned o) → sites_returned (option_map (renamed f) o) ≡ []
  renamed_returned None h = refl
  renamed_returned (Some e) h = renamed_value e h

  given_left : (at : Span) (g : Renaming) (ps : List PlainParam) (es : Expressions) → sites_among es ≡ [] → sites_of (arguments_given at g ps f es) ≡ []
  given_left at g [] es h = refl
  given_left at g (p ∷ ps) NoMore h = refl
  given_left at g (p ∷ ps) (And e es) h =
      no_both (sites_in (Some (Declare at p.ty (g p.name) (renamed f e))) (renamed f e)) (sites_of (arguments_given at g ps f es))
      (renamed_in None (Some (Declare at p.ty (g p.name) (renamed f e))) e (no_first (sites_in None e) (sites_among es) h)) (given_left at g ps es (no_second (sites_in None e) (sites_among es) h))

-- ---- Blocks

sites_followed : (a b : Statements) → sites_of (followed_by a b) ≡ sites_of a ++ sites_of b
sites_followed Nothing b = refl
sites_followed (Then s a) b = ap (λ x. sites_at s ++ x) (sites_followed a b) ∙ sym (append_assoc (sites_at s) (sites_of a) (sites_of b))

left_followed : (a b : Statements) → sites_of a ≡ [] → sites_of b ≡ [] → sites_of (followed_by a b) ≡ []
left_followed a b h i = sites_followed a b ∙ no_both (sites_of a) (sites_of b) h i

left_alone : (s : Statement) → sites_at s ≡ [] → sites_of (Then s Nothing) ≡ []
left_alone s h = no_both (sites_at s) [] h refl

made_is : (m made : Made) → Some m ≡ Some made → sites_of m.block ≡ [] → sites_of made.block ≡ []
made_is m made e h = subst (λ (m : Made). sites_of m.block ≡ []) (some_is m made e) h

module _ (expand : Expand) (f : Renaming)
    (calls : (k : ℕ) (s : Statement) (call : Call) (made : Made) → AllByRecursion IsWhole (sites_at s) → call_at s ≡ Some call → expand k f s call ≡ Some made → sites_of made.block ≡ []) where
  value_left : (k : ℕ) (made : Made) (s other : Statement) (e : Expression) (o : Option Call) → call_at s ≡ call_of e → call_of e ≡ o → AllByRecursion IsWhole (sites_at s) → sites_at s ≡ sites_in (Some s) e → sites_at other ≡ sites_in (Some other) (renamed f e) → expanded expand k f s o other ≡ Some made → sites_of made.block ≡ []
  value_left k made s other e (Some call) c is h here there q = calls k s call made h (c ∙ is) q
  value_left k made s other e None c is h here there q =
      made_is (alone other k) made q (left_alone other (there ∙ renamed_in f (Some s) (Some other) e
      (no_sites (sites_in (Some s) e) (none_given (Some s) e is) (subst (AllByRecursion IsWhole) here h))))

  one_left : (k : ℕ) (made : Made) (s : Statement) → sites_at s ≡ [] → Some (alone s k) ≡ Some made → sites_of made.block ≡ []
  one_left k made s h q = made_is (alone s k) made q (left_alone s h)

  body_left : (made : Made) (wrap : Statements → Statement) (o : Option Made) → ((m : Made) → o ≡ Some m → sites_at (wrap m.block) ≡ []) → made_of wrap o ≡ Some made → sites_of made.block ≡ []
  body_left made wrap None h q = absurd cc
  body_left made wrap (Some m) h q = made_is (alone (wrap m.block) m.taken) made q (left_alone (wrap m.block) (h m refl))

  bodies_left : (made m : Made) (wrap : Statements → Statements → Statement) (o : Option Made) → ((n : Made) → o ≡ Some n → sites_at (wrap m.block n.block) ≡ []) → option_map (λ (n : Made). alone (wrap m.block n.block) n.taken) o ≡ Some made → sites_of made.block ≡ []
  bodies_left made m wrap None h q = absurd cc
  bodies_left made m wrap (Some n) h q = made_is (alone (wrap m.block n.block) n.taken) made q (left_alone (wrap m.block n.block) (h n refl))

  both_left : (made : Made) (wrap : Statements → Statements → Statement) (o : Option Made) (further : ℕ → Option Made) → ((m n : Made) → o ≡ Some m → further m.taken ≡ Some n → sites_at (wrap m.block n.block) ≡ []) → both_made wrap o further ≡ Some made → sites_of made.block ≡ []
  both_left made wrap None further h q = absurd cc
  both_left made wrap (Some m) further h q = bodies_left made m wrap (further m.taken) (λ n e. h m n refl e) q

  after_left : (made m : Made) (o : Option Made) → sites_of m.block ≡ [] → ((n : Made) → o ≡ Some n → sites_of n.block ≡ []) → option_map (λ (n : Made). record { block = followed_by m.block n.block; taken = n.taken }) o ≡ Some made → sites_of made.block ≡ []
  after_left made m None h i q = absurd cc
  after_left made m (Some n) h i q = made_is (record { block = followed_by m.block n.block; taken = n.taken }) made q (left_followed m.block n.block h (i n refl))

  then_left : (made : Made) (o : Option Made) (further : ℕ → Option Made) → ((m : Made) → o ≡ Some m → sites_of m.block ≡ []) → ((k : ℕ) (n : Made) → further k ≡ Some n → sites_of n.block ≡ []) → then_made o further ≡ Some made → sites_of made.block ≡ []
  then_left made None further h i q = absurd cc
  then_left made (Some m) further h i q = after_left made m (further m.taken) (h m refl) (i m.taken) q

  mutual
    statement_left : (k : ℕ) (s : Statement) (made : Made) → AllByRecursion IsWhole (sites_at s) → inlined expand f k s ≡ Some made → sites_of made.block ≡ []
    statement_left k (Declare at ty x e) made h q = value_left k made (Declare at ty x e) (Declare at ty (f x) (renamed f e)) e (call_of e) refl refl h refl refl q
    statement_left k (Assign at x e) made h q = value_left k made (Assign at x e) (Assign at (f x) (renamed f e)) e (call_of e) refl refl h refl refl q
    statement_left k (Add at x e) made h q = one_left k made (Add at (f x) (renamed f e)) (renamed_value f e h) q
    statement_left k (Sort at x keys downs) made h q = one_left k made (Sort at (f x) keys downs) refl q
    statement_left k (If at c a) made h q =
        body_left made (If at (renamed f c)) (all_inlined expand f k a) (λ m e. no_both (sites_in None (renamed f c)) (sites_of m.block) (renamed_value f c (all_left IsWhole (sites_in None c) (sites_of a) h)) (block_left k a m (all_right IsWhole (sites_in None c) (sites_of a) h) e)) q
    statement_left k (IfElse at c a b) made h q =
        let i = all_right IsWhole (sites_in None c) (sites_of a ++ sites_of b) h in
        both_left made (IfElse at (renamed f c)) (all_inlined expand f k a) (λ j. all_inlined expand f j b)
        (λ m n e e'. no_both (sites_in None (renamed f c)) (sites_of m.block ++ sites_of n.block) (renamed_value f c (all_left IsWhole (sites_in None c) (sites_of a ++ sites_of b) h))
        (no_both (sites_of m.block) (sites_of n.block) (block_left k a m (all_left IsWhole (sites_of a) (sites_of b) i) e) (block_left m.taken b n (all_right IsWhole (sites_of a) (sites_of b) i) e'))) q
    statement_left k (ForEach at ty x e body) made h q =
        body_left made (ForEach at ty (f x) (renamed f e)) (all_inlined expand f k body) (λ m e'. no_both (sites_in None (renamed f e)) (sites_of m.block) (renamed_value f e (all_left IsWhole (sites_in None e) (sites_of body) h)) (block_left k body m (all_right IsWhole (sites_in None e) (sites_of body) h) e')) q
    statement_left k (While at c body) made h q =
        body_left made (While at (renamed f c)) (all_inlined expand f k body) (λ m e'. no_both (sites_in None (renamed f c)) (sites_of m.block) (renamed_value f c (all_left IsWhole (sites_in None c) (sites_of body) h)) (block_left k body m (all_right IsWhole (sites_in None c) (sites_of body) h) e')) q
    statement_left k (Print at e) made h q = one_left k made (Print at (renamed f e)) (renamed_value f e h) q
    statement_left k (Return at o) made h q = one_left k made (Return at (option_map (renamed f) o)) (renamed_returned f o h) q
    statement_left k (Break at) made h q = one_left k made (Break at) refl q

    block_left : (k : ℕ) (p : Statements) (made : Made) → AllByRecursion IsWhole (sites_of p) → all_inlined expand f k p ≡ Some made → sites_of made.block ≡ []
    block_left k Nothing made h q = made_is (record { block = Nothing; taken = k }) made q refl
    block_left k (Then s p) made h q =
        then_left made (inlined expand f k s) (λ j. all_inlined expand f j p) (λ m e. statement_left k s m (all_left IsWhole (sites_at s) (sites_of p) h) e) (λ j n e. block_left j p n (all_right IsWhole (sites_at s) (sites_of p) h) e) q

-- ---- Helpers

front_sites : (P : Site → Type 0) (p : Statements) → AllByRecursion P (sites_of p) → AllByRecursion P (sites_of (without_last p))
front_sites P Nothing h = h
front_sites P (Then s Nothing) h = tt
front_sites P (Then s (Then a p)) h = site_both P (sites_at s) (sites_of (without_last (Then a p))) (all_left P (sites_at s) (sites_of (Then a p)) h) (front_sites P (Then a p) (all_right P (sites_at s) (sites_of (Then a p)) h))
  where
    site_both : (P : Site → Type 0) (xs ys : List Site) → AllByRecursion P xs → AllByRecursion P ys → AllByRecursion P (xs ++ ys)
    site_both P [] ys h i = i
    site_both P (x ∷ xs) ys h i = (h.0, site_both P xs ys h.1 i)

returned_sites : (s : Statement) (e : Expression) → returned_by s ≡ Some e → AllByRecursion IsWhole (sites_at s ++ []) → sites_in None e ≡ []
returned_sites (Return at o) e h i = by o h (all_left IsWhole (sites_returned o) [] i)
  where
    by : (o : Option Expression) → o ≡ Some e → AllByRecursion IsWhole (sites_returned o) → sites_in None e ≡ []
    by None h i = absurd cc
    by (Some e') h i = subst (λ z. sites_in None z ≡ []) (some_is e' e h) (no_sites (sites_in None e') (none_in e') i)
returned_sites s e h i = absurd cc

last_sites : (p : Statements) (e : Expression) → last_value p ≡ Some e → AllByRecursion IsWhole (sites_of p) → sites_in None e ≡ []
last_sites Nothing e h i = absurd cc
last_sites (Then s Nothing) e h i = returned_sites s e h i
last_sites (Then s (Then a p)) e h i = last_sites (Then a p) e h (all_right IsWhole (sites_at s) (sites_of (Then a p)) i)

-- the call's own statement with the value
put_left : (f g : Renaming) (s : Statement) (call : Call) (e : Expression) → call_at s ≡ Some call → sites_in None e ≡ [] → sites_of (Then (inlining.with_value f s (renamed g e)) Nothing) ≡ []
put_left f g (Declare at ty x v) call e h i = left_alone (Declare at ty (f x) (renamed g e)) (renamed_in g None (Some (Declare at ty (f x) (renamed g e))) e i)
put_left f g (Assign at x v) call e h i = left_alone (Assign at (f x) (renamed g e)) (renamed_in g None (Some (Assign at (f x) (renamed g e))) e i)
put_left f g s call e h i = absurd cc

end_left : (f g : Renaming) (s : Statement) (call : Call) (kept : Option (List ℕ)) (o : Option Expression) → call_at s ≡ Some call → ((e : Expression) → o ≡ Some e → sites_in None e ≡ []) → sites_of (ended f s g kept o) ≡ []
end_left f g s call (Some v) o h i = refl
end_left f g s call None None h i = refl
end_left f g s call None (Some e) h i = put_left f g s call e h (i e refl)

args_by : (s : Statement) (at : Span) (text : List ℕ) (es : Expressions) (call : Call) (b : Bool) → cond b (Some (record { name = text; arguments = es })) None ≡ Some call → AllByRecursion IsWhole (site_of (Some s) at (cond b (Some (record { name = text; arguments = es })) None) ++ sites_among es) → sites_among call.arguments ≡ []
args_by s at text es call true e h = subst (λ (c : Call). sites_among c.arguments ≡ []) (some_is (record { name = text; arguments = es }) call e) (no_sites (sites_among es) (none_among es) h.1)
args_by s at text es call false e h = absurd cc

args_of : (s : Statement) (e : Expression) (call : Call) → call_of e ≡ Some call → AllByRecursion IsWhole (sites_in (Some s) e) → sites_among call.arguments ≡ []
args_of s (QueryLong at text es) call h i = args_by s at text es call (is_single_name text) h i
args_of s e call h i = absurd cc

args_left : (s : Statement) (call : Call) → call_at s ≡ Some call → AllByRecursion IsWhole (sites_at s) → sites_among call.arguments ≡ []
args_left (Declare at ty x e) call h i = args_of (Declare at ty x e) e call h i
args_left (Assign at x e) call h i = args_of (Assign at x e) e call h i
args_left s call h i = absurd cc

module _ (names : Names) (ms : List PlainMethod) (all : AllByRecursion (λ (m : PlainMethod). AllByRecursion IsWhole (sites_of m.body)) ms) where
  abbrev Leaves : ℕ → Type 0
  Leaves e = (f : Renaming) (k : ℕ) (p : Statements) (made : Made) → AllByRecursion IsWhole (sites_of p) → all_inlined (expand_at e names ms) f k p ≡ Some made → sites_of made.block ≡ []

  module _ (e : ℕ) (ih : Leaves e) (f : Renaming) (k : ℕ) (s : Statement) (call : Call) (made : Made) (h : AllByRecursion IsWhole (sites_at s)) (is_call : call_at s ≡ Some call) where
    abbrev g_of : PlainMethod → Renaming
    g_of m = marked_but (kept_variable m) (f (target_of s)) (next_number names k)

    abbrev made_with : PlainMethod → Made → Made
    made_with m n =
        record {
          block = followed_by (arguments_given (place_of s) (g_of m) m.params f call.arguments) (followed_by n.block (ended f s (g_of m) (kept_variable m) (last_value m.body)));
          taken = n.taken;
        }

    inner_left : (m : PlainMethod) → AllByRecursion IsWhole (sites_of m.body) → (o : Option Made) → all_inlined (expand_at e names ms) (g_of m) (next_number names k) (without_last m.body) ≡ o → option_map (made_with m) o ≡ Some made → sites_of made.block ≡ []
    inner_left m whole None is q = absurd cc
    inner_left m whole (Some n) is q =
        made_is (made_with m n) made q
        (left_followed (arguments_given (place_of s) (g_of m) m.params f call.arguments) (followed_by n.block (ended f s (g_of m) (kept_variable m) (last_value m.body)))
        (given_left f (place_of s) (g_of m) m.params call.arguments (args_left s call is_call h))
        (left_followed n.block (ended f s (g_of m) (kept_variable m) (last_value m.body)) (ih (g_of m) (next_number names k) (without_last m.body) n (front_sites IsWhole m.body whole) is)
        (end_left f (g_of m) s call (kept_variable m) (last_value m.body) is_call (λ v is_value. last_sites m.body v is_value whole))))

    method_left : (o : Option PlainMethod) → method_named call.name ms ≡ o → expand_with (expand_at e names ms) (next_number names k) f s call o ≡ Some made → sites_of made.block ≡ []
    method_left None is q = absurd cc
    method_left (Some m) is q = inner_left m (of_named (λ (m : PlainMethod). AllByRecursion IsWhole (sites_of m.body)) ms call.name m all is) (all_inlined (expand_at e names ms) (g_of m) (next_number names k) (without_last m.body)) refl q

    call_left : expand_at (suc e) names ms k f s call ≡ Some made → sites_of made.block ≡ []
    call_left q = method_left (method_named call.name ms) refl (sym (expand_step e names ms k f s call) ∙ q)

  none_some : (made : Made) → None ≡ Some made → ⊥
  none_some made e = absurd cc

  all_left_out : (e : ℕ) → Leaves e
  all_left_out zero f k p made h q = block_left (expand_at zero names ms) f (λ k s call made h' c q'. absurd (none_some made (sym (expand_zero names ms k f s call) ∙ q'))) k p made h q
  all_left_out (suc e) f k p made h q = block_left (expand_at (suc e) names ms) f (λ k s call made h' c q'. call_left e (all_left_out e) f k s call made h' c q') k p made h q

  rest_left : (m : PlainMethod) (made : Made) (o : Option AllMade) (all : AllMade) → sites_of made.block ≡ [] → ((rs : AllMade) → o ≡ Some rs → AllByRecursion (λ (m : PlainMethod). sites_of m.body ≡ []) rs.methods)
      → option_map (λ (all : AllMade). record { methods = with_body m made.block ∷ all.methods; taken = all.taken }) o ≡ Some all → AllByRecursion (λ (m : PlainMethod). sites_of m.body ≡ []) all.methods
  rest_left m made None all h ih q = absurd cc
  rest_left m made (Some rs) all h ih q = subst (λ (all : AllMade). AllByRecursion (λ (m : PlainMethod). sites_of m.body ≡ []) all.methods) (some_is _ all q) (h, ih rs refl)

  made_left : (e k : ℕ) (m : PlainMethod) (rest : List PlainMethod) (o : Option Made) (all : AllMade) → AllByRecursion IsWhole (sites_of m.body)
      → ((k : ℕ) (rs : AllMade) → inlined_methods (expand_at e names ms) k rest ≡ Some rs → AllByRecursion (λ (m : PlainMethod). sites_of m.body ≡ []) rs.methods)
      → all_inlined (expand_at e names ms) as_they_are k m.body ≡ o → made_method m o (λ k. inlined_methods (expand_at e names ms) k rest) ≡ Some all → AllByRecursion (λ (m : PlainMethod). sites_of m.body ≡ []) all.methods
  made_left e k m rest None all h ih is q = absurd cc
  made_left e k m rest (Some made) all h ih is q = rest_left m made (inlined_methods (expand_at e names ms) made.taken rest) all (all_left_out e as_they_are k m.body made h is) (ih made.taken) q

  methods_left : (e k : ℕ) (rest : List PlainMethod) (all : AllMade) → AllByRecursion (λ (m : PlainMethod). AllByRecursion IsWhole (sites_of m.body)) rest → inlined_methods (expand_at e names ms) k rest ≡ Some all → AllByRecursion (λ (m : PlainMethod). sites_of m.body ≡ []) all.methods
  methods_left e k [] all h q = subst (λ (all : AllMade). AllByRecursion (λ (m : PlainMethod). sites_of m.body ≡ []) all.methods) (some_is _ all q) tt
  methods_left e k (m ∷ rest) all h q = made_left e k m rest (all_inlined (expand_at e names ms) as_they_are k m.body) all h.0 (λ k rs q'. methods_left e k rest rs h.1 q') refl q

-- ---- Programs

no_result : (o : Option Spelled) → may_take_from o None ≡ false
no_result None = refl
no_result (Some ty) = refl

and_false : (a b : Bool) → b ≡ false → a && b ≡ false
and_false true b h = h
and_false false b h = refl

module _ (p : PlainProgram) (none : BreaksNone p) where
  site_whole : (i : ℕ) (m : PlainMethod) → slice_get p.methods i ≡ Some m → (n : ℕ) (site : Site) → slice_get (sites_of m.body) n ≡ Some site → IsWhole site
  site_whole i m there n site calls is = by (method_named site.call.name p.methods) refl
    where
      by : (o : Option PlainMethod) → method_named site.call.name p.methods ≡ o → ⊥
      by None e = none NoMethod site.at (record { i = i; method = m; there = there; n = n; site = site; calls = calls; breaks = e; place = refl })
      by (Some called) e =
          let wrong : has_result_for site.whole called ≡ false = subst (λ w. has_result_for w called ≡ false) (sym is) (and_false (returns_at_its_end called) (may_take_from called.result None) (no_result called.result)) in
          none ResultRule site.at (record { i = i; method = m; there = there; n = n; site = site; calls = calls; breaks = (called, e, wrong); place = refl })

  program_whole : AllByRecursion (λ (m : PlainMethod). AllByRecursion IsWhole (sites_of m.body)) p.methods
  program_whole = all_each (λ (m : PlainMethod). AllByRecursion IsWhole (sites_of m.body)) p.methods (λ i m there. all_each IsWhole (sites_of m.body) (site_whole i m there))

  left_within : (q : PlainProgram) (e : ℕ) (o : Option AllMade) → inlined_methods (expand_at e (names_of p) p.methods) 0 p.methods ≡ o → option_map (λ (all : AllMade). with_methods p all.methods) o ≡ Some q → AllByRecursion (λ (m : PlainMethod). sites_of m.body ≡ []) q.methods
  left_within q e None is h = absurd cc
  left_within q e (Some all) is h = subst (λ (q : PlainProgram). AllByRecursion (λ (m : PlainMethod). sites_of m.body ≡ []) q.methods) (some_is (with_methods p all.methods) q h) (methods_left (names_of p) p.methods program_whole e 0 p.methods all program_whole is)

  -- no call is left
  pub none_left : (q : PlainProgram) → IsInlined p q → AllByRecursion (λ (m : PlainMethod). sites_of m.body ≡ []) q.methods
  none_left q is = left_within q is.0 (inlined_methods (expand_at is.0 (names_of p) p.methods) 0 p.methods) refl is.1
