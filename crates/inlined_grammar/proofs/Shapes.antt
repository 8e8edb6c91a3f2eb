-- What is asked of each part of a program holds of the program in which calls are replaced, where renamings keep it.
use Rattle.std.proofs.Common.{◌≡◌, ℕ, zero, suc, Bool, true, false, cond, List, [], ◌∷◌, ◌++◌, Option, Some, None, refl, sym, ap, ◌∙◌, subst}
use Rattle.std.specs.List.{AllByRecursion}
use Rattle.std.specs.Option.{option_map}
use Rattle.qbs_base.specs.declared.span.Span.{Span}
use Rattle.java_ast.specs.Names.{Names}
use Rattle.java_ast.specs.Spans.{place_of}
use Rattle.java_ast.specs.Tree.{Spelled, Expression, QueryLong, Expressions, NoMore, And, Statement, Declare, Assign, Add, Sort, If, IfElse, ForEach, While, Print, Return, Break, Statements, Nothing, Then, PlainParam, PlainMethod}
use Rattle.java_mean.specs.Refines.{followed_by}
use Rattle.call_parts.specs.Called.{is_single_name}
use Rattle.call_parts.specs.Marks.{next_number}
use Rattle.java_calls.specs.Called.{Call, call_of, call_at, method_named}
use Rattle.java_calls.specs.Inlining.{Made, alone, made_of, both_made, then_made, expanded, inlined, all_inlined, expand_with, expand_at, without_last, returned_by, last_value, kept_variable, arguments_given, ended, target_of}
use Rattle.java_calls.specs.Inlining as inlining
use Rattle.java_calls.specs.Renaming.{Renaming, marked_but, renamed}
use Rattle.java_calls.specs.Rules.{Site, site_of, sites_in, sites_among, sites_at, sites_of}
use Rattle.java_calls.proofs.Calls.{of_named, expand_step, expand_zero}
use Rattle.java_calls.proofs.Replacing.{all_left, all_right}

some_is : {A : Type 0} (a b : A) → Some a ≡ Some b → a ≡ b
some_is a b e = cc

-- ---- What is asked of statements

module _ (T : Spelled → Type 0) (N : List ℕ → Type 0) (K : List (List ℕ) → List Bool → Type 0) (E : Expression → Type 0) where
  abbrev pub Returned : Option Expression → Type 0
  Returned None = Unit {0}
  Returned (Some e) = E e

  abbrev mutual
    pub Each : Statement → Type 0
    Each (Declare at ty x e) = T ty × N x × E e
    Each (Assign at x e) = N x × E e
    Each (Add at x e) = N x × E e
    Each (Sort at x keys downs) = N x × K keys downs
    Each (If at c a) = E c × All a
    Each (IfElse at c a b) = E c × All a × All b
    Each (ForEach at ty x e body) = T ty × N x × E e × All body
    Each (While at c body) = E c × All body
    Each (Print at e) = E e
    Each (Return at o) = Returned o
    Each (Break at) = Unit {0}

    pub All : Statements → Type 0
    All Nothing = Unit {0}
    All (Then a p) = Each a × All p

  abbrev pub Arguments : Expressions → Type 0
  Arguments NoMore = Unit {0}
  Arguments (And e es) = E e × Arguments es

  abbrev pub Params : List PlainParam → Type 0
  Params [] = Unit {0}
  Params (p ∷ ps) = T p.ty × N p.name × Params ps

  all_both : (p q : Statements) → All p → All q → All (followed_by p q)
  all_both Nothing q h i = i
  all_both (Then a p) q h i = (h.0, all_both p q h.1 i)

  all_front : (p : Statements) → All p → All (without_last p)
  all_front Nothing h = tt
  all_front (Then a Nothing) h = tt
  all_front (Then a (Then c p)) h = (h.0, all_front (Then c p) h.1)

  returned_value : (a : Statement) (e : Expression) → Each a → returned_by a ≡ Some e → E e
  returned_value (Return at o) e h i = by o i h
    where
      by : (o : Option Expression) → o ≡ Some e → Returned o → E e
      by None i h = absurd cc
      by (Some z) i h = subst E (some_is z e i) h
  returned_value _ e h i = absurd cc

  last_has : (p : Statements) (e : Expression) → All p → last_value p ≡ Some e → E e
  last_has Nothing e h i = absurd cc
  last_has (Then a Nothing) e h i = returned_value a e h.0 i
  last_has (Then a (Then c p)) e h i = last_has (Then c p) e h.1 i

  target_has : (s : Statement) (call : Call) → call_at s ≡ Some call → Each s → N (target_of s)
  target_has (Declare at ty x e) call c h = h.1
  target_has (Assign at x e) call c h = h.0
  target_has _ call c h = absurd cc

  -- of the variable of a statement, where there is one
  abbrev pub OfTarget : (List ℕ → Type 0) → Option Statement → Type 0
  OfTarget U None = Unit {0}
  OfTarget U (Some s) = U (target_of s)

  abbrev pub IsReady : (List ℕ → Type 0) → List PlainMethod → Site → Type 0
  IsReady U ms site = (m : PlainMethod) (v : List ℕ) → method_named site.call.name ms ≡ Some m → kept_variable m ≡ Some v → OfTarget U site.whole

  -- what renamings keep
  pub record IsShape (U : List ℕ → Type 0) (R : Renaming → Type 0) : Type 0 where
    pub name : (f : Renaming) → R f → (x : List ℕ) → N x → N (f x)
    pub value : (f : Renaming) → R f → (e : Expression) → E e → E (renamed f e)
    pub marked : (f : Renaming) → R f → (x : List ℕ) → N x → (c : ℕ) (kept : Option (List ℕ)) → ((v : List ℕ) → kept ≡ Some v → U x) → R (marked_but kept (f x) c)
    pub arguments : (at : Span) (text : List ℕ) (es : Expressions) → E (QueryLong at text es) → Arguments es

  pub record IsOf (m : PlainMethod) : Type 0 where
    pub params : Params m.params
    pub body : All m.body

  module _ (U : List ℕ → Type 0) (R : Renaming → Type 0) (shape : IsShape U R) (names : Names) (ms : List PlainMethod)
      (methods : AllByRecursion IsOf ms) (ready : AllByRecursion (λ (m : PlainMethod). AllByRecursion (IsReady U ms) (sites_of m.body)) ms) where
    abbrev CallsHave : ℕ → Type 0
    CallsHave e = (f : Renaming) (k : ℕ) (s : Statement) (call : Call) (made : Made) → R f → call_at s ≡ Some call → Each s → AllByRecursion (IsReady U ms) (sites_at s) → expand_at e names ms k f s call ≡ Some made → All made.block

    abbrev BlocksHave : ℕ → Type 0
    BlocksHave e = (f : Renaming) (k : ℕ) (p : Statements) (made : Made) → R f → All p → AllByRecursion (IsReady U ms) (sites_of p) → all_inlined (expand_at e names ms) f k p ≡ Some made → All made.block

    made_has : (m made : Made) → Some m ≡ Some made → All m.block → All made.block
    made_has m made q h = subst (λ (m : Made). All m.block) (some_is m made q) h

    one_has : (s : Statement) (k : ℕ) (made : Made) → Some (alone s k) ≡ Some made → Each s → All made.block
    one_has s k made q h = made_has (alone s k) made q (h, tt)

    body_has : (g : Statements → Statement) (o : Option Made) (made : Made) → made_of g o ≡ Some made → ((m : Made) → o ≡ Some m → Each (g m.block)) → All made.block
    body_has g None made q h = absurd cc
    body_has g (Some m) made q h = one_has (g m.block) m.taken made q (h m refl)

    bodies_has : (g : Statements → Statements → Statement) (o : Option Made) (further : ℕ → Option Made) (made : Made) → both_made g o further ≡ Some made → ((m n : Made) → o ≡ Some m → further m.taken ≡ Some n → Each (g m.block n.block)) → All made.block
    bodies_has g None further made q h = absurd cc
    bodies_has g (Some m) further made q h = by (further m.taken) refl q
      where
        by : (p : Option Made) → further m.taken ≡ p → option_map (λ (n : Made). alone (g m.block n.block) n.taken) p ≡ Some made → All made.block
        by None e q = absurd cc
        by (Some n) e q = one_has (g m.block n.block) n.taken made q (h m n refl e)

    two_have : (o : Option Made) (further : ℕ → Option Made) (made : Made) → then_made o further ≡ Some made → ((m : Made) → o ≡ Some m → All m.block) → ((k : ℕ) (n : Made) → further k ≡ Some n → All n.block) → All made.block
    two_have None further made q h i = absurd cc
    two_have (Some m) further made q h i = by (further m.taken) refl q
      where
        by : (p : Option Made) → further m.taken ≡ p → option_map (λ (n : Made). record { block = followed_by m.block n.block; taken = n.taken }) p ≡ Some made → All made.block
        by None e q = absurd cc
        by (Some n) e q = made_has (record { block = followed_by m.block n.block; taken = n.taken }) made q (all_both m.block n.block (h m refl) (i m.taken n e))

    returned_renamed : (f : Renaming) → R f → (o : Option Expression) → Returned o → Returned (option_map (renamed f) o)
    returned_renamed f r None h = tt
    returned_renamed f r (Some e) h = shape.value f r e h

    module _ (e : ℕ) (calls : CallsHave e) (f : Renaming) (r : R f) where
      given_has : (k : ℕ) (made : Made) (s other : Statement) (o : Option Call) → call_at s ≡ o → Each s → AllByRecursion (IsReady U ms) (sites_at s) → Each other → expanded (expand_at e names ms) k f s o other ≡ Some made → All made.block
      given_has k made s other None c h y i q = one_has other k made q i
      given_has k made s other (Some call) c h y i q = calls f k s call made r c h y q

      mutual
        each_has : (k : ℕ) (a : Statement) (made : Made) → Each a → AllByRecursion (IsReady U ms) (sites_at a) → inlined (expand_at e names ms) f k a ≡ Some made → All made.block
        each_has k (Declare at ty x v) made h y q = given_has k made (Declare at ty x v) (Declare at ty (f x) (renamed f v)) (call_of v) refl h y (h.0, shape.name f r x h.1, shape.value f r v h.2) q
        each_has k (Assign at x v) made h y q = given_has k made (Assign at x v) (Assign at (f x) (renamed f v)) (call_of v) refl h y (shape.name f r x h.0, shape.value f r v h.1) q
        each_has k (Add at x v) made h y q = one_has (Add at (f x) (renamed f v)) k made q (shape.name f r x h.0, shape.value f r v h.1)
        each_has k (Sort at x keys downs) made h y q = one_has (Sort at (f x) keys downs) k made q (shape.name f r x h.0, h.1)
        each_has k (If at c a) made h y q =
            body_has (If at (renamed f c)) (all_inlined (expand_at e names ms) f k a) made q (λ m i. (shape.value f r c h.0, all_have k a m h.1 (all_right (IsReady U ms) (sites_in None c) (sites_of a) y) i))
        each_has k (IfElse at c a b) made h y q =
            let z = all_right (IsReady U ms) (sites_in None c) (sites_of a ++ sites_of b) y in
            bodies_has (IfElse at (renamed f c)) (all_inlined (expand_at e names ms) f k a) (λ j. all_inlined (expand_at e names ms) f j b) made q
            (λ m n i j. (shape.value f r c h.0, all_have k a m h.1 (all_left (IsReady U ms) (sites_of a) (sites_of b) z) i, all_have m.taken b n h.2 (all_right (IsReady U ms) (sites_of a) (sites_of b) z) j))
        each_has k (ForEach at ty x v body) made h y q =
            body_has (ForEach at ty (f x) (renamed f v)) (all_inlined (expand_at e names ms) f k body) made q
            (λ m i. (h.0, shape.name f r x h.1, shape.value f r v h.2, all_have k body m h.3 (all_right (IsReady U ms) (sites_in None v) (sites_of body) y) i))
        each_has k (While at c body) made h y q =
            body_has (While at (renamed f c)) (all_inlined (expand_at e names ms) f k body) made q (λ m i. (shape.value f r c h.0, all_have k body m h.1 (all_right (IsReady U ms) (sites_in None c) (sites_of body) y) i))
        each_has k (Print at v) made h y q = one_has (Print at (renamed f v)) k made q (shape.value f r v h)
        each_has k (Return at o) made h y q = one_has (Return at (option_map (renamed f) o)) k made q (returned_renamed f r o h)
        each_has k (Break at) made h y q = one_has (Break at) k made q tt

        all_have : (k : ℕ) (p : Statements) (made : Made) → All p → AllByRecursion (IsReady U ms) (sites_of p) → all_inlined (expand_at e names ms) f k p ≡ Some made → All made.block
        all_have k Nothing made h y q = made_has (record { block = Nothing; taken = k }) made q tt
        all_have k (Then a p) made h y q =
            two_have (inlined (expand_at e names ms) f k a) (λ j. all_inlined (expand_at e names ms) f j p) made q (λ m i. each_has k a m h.0 (all_left (IsReady U ms) (sites_at a) (sites_of p) y) i)
            (λ j n i. all_have j p n h.1 (all_right (IsReady U ms) (sites_at a) (sites_of p) y) i)

    -- ---- One call

    site_both : (P : Site → Type 0) (xs ys : List Site) → AllByRecursion P xs → AllByRecursion P ys → AllByRecursion P (xs ++ ys)
    site_both P [] ys h i = i
    site_both P (x ∷ xs) ys h i = (h.0, site_both P xs ys h.1 i)

    front_sites : (P : Site → Type 0) (p : Statements) → AllByRecursion P (sites_of p) → AllByRecursion P (sites_of (without_last p))
    front_sites P Nothing h = h
    front_sites P (Then s Nothing) h = tt
    front_sites P (Then s (Then a p)) h = site_both P (sites_at s) (sites_of (without_last (Then a p))) (all_left P (sites_at s) (sites_of (Then a p)) h) (front_sites P (Then a p) (all_right P (sites_at s) (sites_of (Then a p)) h))

    args_by : (at : Span) (text : List ℕ) (es : Expressions) (call : Call) (b : Bool) → cond b (Some (record { name = text; arguments = es })) None ≡ Some call → Arguments es → Arguments call.arguments
    args_by at text es call true c h = subst (λ (call : Call). Arguments call.arguments) (some_is (record { name = text; arguments = es }) call c) h
    args_by at text es call false c h = absurd cc

    args_have : (v : Expression) (call : Call) → call_of v ≡ Some call → E v → Arguments call.arguments
    args_have (QueryLong at text es) call c h = args_by at text es call (is_single_name text) c (shape.arguments at text es h)
    args_have _ call c h = absurd cc

    args_at : (s : Statement) (call : Call) → call_at s ≡ Some call → Each s → Arguments call.arguments
    args_at (Declare at ty x v) call c h = args_have v call c h.2
    args_at (Assign at x v) call c h = args_have v call c h.1
    args_at _ call c h = absurd cc

    ready_by : (s : Statement) (at : Span) (text : List ℕ) (es : Expressions) (call : Call) (m : PlainMethod) (v : List ℕ) (b : Bool) → cond b (Some (record { name = text; arguments = es })) None ≡ Some call
        → AllByRecursion (IsReady U ms) (site_of (Some s) at (cond b (Some (record { name = text; arguments = es })) None) ++ sites_among es) → method_named call.name ms ≡ Some m → kept_variable m ≡ Some v → U (target_of s)
    ready_by s at text es call m v true c y is k = y.0 m v (ap (λ (c : Call). method_named c.name ms) (some_is (record { name = text; arguments = es }) call c) ∙ is) k
    ready_by s at text es call m v false c y is k = absurd cc

    ready_in : (s : Statement) (e : Expression) (call : Call) (m : PlainMethod) (v : List ℕ) → call_of e ≡ Some call → AllByRecursion (IsReady U ms) (sites_in (Some s) e) → method_named call.name ms ≡ Some m → kept_variable m ≡ Some v → U (target_of s)
    ready_in s (QueryLong at text es) call m v c y is k = ready_by s at text es call m v (is_single_name text) c y is k
    ready_in s _ call m v c y is k = absurd cc

    ready_at : (s : Statement) (call : Call) (m : PlainMethod) (v : List ℕ) → call_at s ≡ Some call → AllByRecursion (IsReady U ms) (sites_at s) → method_named call.name ms ≡ Some m → kept_variable m ≡ Some v → U (target_of s)
    ready_at (Declare at ty x e) call m v c y is k = ready_in (Declare at ty x e) e call m v c y is k
    ready_at (Assign at x e) call m v c y is k = ready_in (Assign at x e) e call m v c y is k
    ready_at _ call m v c y is k = absurd cc

    given_params : (at : Span) (f g : Renaming) → R f → R g → (ps : List PlainParam) (es : Expressions) → Params ps → Arguments es → All (arguments_given at g ps f es)
    given_params at f g r s [] es h i = tt
    given_params at f g r s (p ∷ ps) NoMore h i = tt
    given_params at f g r s (p ∷ ps) (And e es) h i = ((h.0, shape.name g s p.name h.1, shape.value f r e i.0), given_params at f g r s ps es h.2 i.1)

    put_has : (f g : Renaming) (s : Statement) (call : Call) (e : Expression) → R f → R g → call_at s ≡ Some call → Each s → E e → All (Then (inlining.with_value f s (renamed g e)) Nothing)
    put_has f g (Declare at ty x v) call e r t c h i = ((h.0, shape.name f r x h.1, shape.value g t e i), tt)
    put_has f g (Assign at x v) call e r t c h i = ((shape.name f r x h.0, shape.value g t e i), tt)
    put_has f g _ call e r t c h i = absurd cc

    end_has : (f g : Renaming) (s : Statement) (call : Call) (kept : Option (List ℕ)) (o : Option Expression) → R f → R g → call_at s ≡ Some call → Each s → ((e : Expression) → o ≡ Some e → E e) → All (ended f s g kept o)
    end_has f g s call (Some v) o r t c h i = tt
    end_has f g s call None None r t c h i = tt
    end_has f g s call None (Some e) r t c h i = put_has f g s call e r t c h (i e refl)

    module _ (e : ℕ) (ih : BlocksHave e) (f : Renaming) (k : ℕ) (s : Statement) (call : Call) (made : Made) (r : R f) (is_call : call_at s ≡ Some call) (h : Each s) (y : AllByRecursion (IsReady U ms) (sites_at s)) where
      abbrev g_of : PlainMethod → Renaming
      g_of m = marked_but (kept_variable m) (f (target_of s)) (next_number names k)

      abbrev made_with : PlainMethod → Made → Made
      made_with m n =
          record {
            block = followed_by (arguments_given (place_of s) (g_of m) m.params f call.arguments) (followed_by n.block (ended f s (g_of m) (kept_variable m) (last_value m.body)));
            taken = n.taken;
          }

      inner_has : (m : PlainMethod) → method_named call.name ms ≡ Some m → (o : Option Made) → all_inlined (expand_at e names ms) (g_of m) (next_number names k) (without_last m.body) ≡ o → option_map (made_with m) o ≡ Some made → All made.block
      inner_has m is None i q = absurd cc
      inner_has m is (Some n) i q =
          let of = of_named IsOf ms call.name m methods is in
          let sites = of_named (λ (m : PlainMethod). AllByRecursion (IsReady U ms) (sites_of m.body)) ms call.name m ready is in
          let t : R (g_of m) = shape.marked f r (target_of s) (target_has s call is_call h) (next_number names k) (kept_variable m) (λ v kept. ready_at s call m v is_call y is kept) in
          made_has (made_with m n) made q
          (all_both (arguments_given (place_of s) (g_of m) m.params f call.arguments) (followed_by n.block (ended f s (g_of m) (kept_variable m) (last_value m.body)))
          (given_params (place_of s) f (g_of m) r t m.params call.arguments of.params (args_at s call is_call h))
          (all_both n.block (ended f s (g_of m) (kept_variable m) (last_value m.body)) (ih (g_of m) (next_number names k) (without_last m.body) n t (all_front m.body of.body) (front_sites (IsReady U ms) m.body sites) i)
          (end_has f (g_of m) s call (kept_variable m) (last_value m.body) r t is_call h (λ v is_value. last_has m.body v of.body is_value))))

      method_has : (o : Option PlainMethod) → method_named call.name ms ≡ o → expand_with (expand_at e names ms) (next_number names k) f s call o ≡ Some made → All made.block
      method_has None is q = absurd cc
      method_has (Some m) is q = inner_has m is (all_inlined (expand_at e names ms) (g_of m) (next_number names k) (without_last m.body)) refl q

    none_some : (made : Made) → None ≡ Some made → ⊥
    none_some made e = absurd cc

    calls_have : (e : ℕ) → CallsHave e
    calls_have zero f k s call made r c h y q = absurd (none_some made (sym (expand_zero names ms k f s call) ∙ q))
    calls_have (suc e) f k s call made r c h y q =
        method_has e (λ g j p n t i z o. all_have e (calls_have e) g t j p n i z o) f k s call made r c h y (method_named call.name ms) refl (sym (expand_step e names ms k f s call) ∙ q)

    pub blocks_have : (e : ℕ) → BlocksHave e
    blocks_have e f k p made r h y q = all_have e (calls_have e) f r k p made h y q
