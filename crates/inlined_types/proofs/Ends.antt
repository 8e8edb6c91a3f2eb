-- Where a variable that the program with calls declares is declared in the inlined program, and with which type.
use Rattle.std.proofs.Common.{◌≡◌, inl, ℕ, zero, suc, Bool, true, false, cond, not, List, [], ◌∷◌, ◌++◌, Option, Some, None, refl, sym, ap, ◌∙◌, subst}
use Rattle.std.specs.List.{AllByRecursion}
use Rattle.std.specs.Prelude.{◌&&◌, ◌||◌, bytes_eq}
use Rattle.std.specs.Option.{option_map}
use Rattle.qbs_base.specs.declared.span.Span.{Span}
use Rattle.java_ast.specs.Names.{Names}
use Rattle.java_ast.specs.Spans.{place_of}
use Rattle.java_ast.specs.Tree.{Spelled, Expression, Var, QueryLong, Expressions, Statement, Declare, If, IfElse, ForEach, While, Return, Statements, Nothing, Then, PlainMethod, PlainProgram}
use Rattle.java_mean.specs.Refines.{followed_by}
use Rattle.java_mean.specs.Rules.{is_none, returns}
use Rattle.java_mean.proofs.Puts.{names_equal, name_same}
use Rattle.call_parts.specs.Called.{is_single_name}
use Rattle.call_parts.specs.Kinds.{is_scalar_type, are_one_type, is_unreadable}
use Rattle.call_parts.specs.Marks.{mark_of, next_number}
use Rattle.java_calls.specs.Called.{Call, call_of, method_named}
use Rattle.java_calls.specs.Fitting.{declares, declares_among}
use Rattle.java_calls.specs.Inlining.{Made, alone, made_of, both_made, then_made, expanded, inlined, all_inlined, expand_with, expand_at, without_last, returned_by, last_value, declared_type, unless_scalar, kept_by, kept_variable, arguments_given, ended}
use Rattle.java_calls.specs.Renaming.{Renaming, marked_but, renamed}
use Rattle.java_calls.specs.Rules.{Result as ResultRule, Site, site_of, sites_in, sites_among, sites_at, sites_of, returns_at_its_end, may_take_from, has_result_for, BreaksNone}
use Rattle.java_calls.proofs.Calls.{of_named, expand_step, expand_zero}
use Rattle.java_calls.proofs.Keeping.{all_each}
use Rattle.java_calls.proofs.Replacing.{all_left, all_right}
use Rattle.inlined_types.proofs.Typed.{or_first, or_second, DeclaresAs, as_left, as_right, then_declares}

some_is : {A : Type 0} (a b : A) → Some a ≡ Some b → a ≡ b
some_is a b e = cc

both_true : (a b : Bool) → (a && b) ≡ true → (a ≡ true) × (b ≡ true)
both_true true true h = (refl, refl)
both_true true false h = absurd cc
both_true false b h = absurd cc

-- ---- The first declaration of a variable in a block itself

pub record Declared : Type 0 where
  pub ty : Spelled
  pub value : Expression

abbrev pub declared_by : List ℕ → Statement → Option Declared
declared_by v (Declare at ty x e) = cond (bytes_eq x v) (Some (record { ty = ty; value = e })) None
declared_by v _ = None

abbrev pub or_else : Option Declared → Option Declared → Option Declared
or_else (Some d) o = Some d
or_else None o = o

abbrev pub declaration : List ℕ → Statements → Option Declared
declaration v Nothing = None
declaration v (Then a p) = or_else (declared_by v a) (declaration v p)

type_by : (v : List ℕ) (ty z : Spelled) (e : Expression) (p : Statements) (b : Bool) → (declared_type v p ≡ Some z → (d : Declared) × (declaration v p ≡ Some d) × (d.ty ≡ z)) → cond b (Some ty) (declared_type v p) ≡ Some z
    → (d : Declared) × (or_else (cond b (Some (record { ty = ty; value = e })) None) (declaration v p) ≡ Some d) × (d.ty ≡ z)
type_by v ty z e p true ih h = (record { ty = ty; value = e }, refl, some_is ty z h)
type_by v ty z e p false ih h = ih h

type_declared : (v : List ℕ) (z : Spelled) (p : Statements) → declared_type v p ≡ Some z → (d : Declared) × (declaration v p ≡ Some d) × (d.ty ≡ z)
type_declared v z Nothing h = absurd cc
type_declared v z (Then (Declare at ty x e) p) h = type_by v ty z e p (bytes_eq x v) (type_declared v z p) h
type_declared v z (Then _ p) h = type_declared v z p h

last_declares_none : (v : List ℕ) (a : Statement) (e : Expression) → returned_by a ≡ Some e → or_else (declared_by v a) None ≡ None
last_declares_none v (Return at o) e h = refl
last_declares_none v _ e h = absurd cc

-- the last statement, which returns, declares none
pub front_declaration : (v : List ℕ) (p : Statements) (e : Expression) → last_value p ≡ Some e → declaration v (without_last p) ≡ declaration v p
front_declaration v Nothing e h = refl
front_declaration v (Then a Nothing) e h = sym (last_declares_none v a e h)
front_declaration v (Then a (Then c p)) e h = ap (or_else (declared_by v a)) (front_declaration v (Then c p) e h)

-- the returned variable of a helper, and its declaration
pub record Kept (m : PlainMethod) (v : List ℕ) : Type 0 where
  pub at : Span
  pub last : last_value m.body ≡ Some (Var at v)
  pub declared : Declared
  pub there : declaration v m.body ≡ Some declared
  pub many : is_scalar_type declared.ty ≡ false

record KeptBy (body : Statements) (o : Option Expression) (v : List ℕ) : Type 0 where
  at : Span
  last : o ≡ Some (Var at v)
  ty : Spelled
  there : declared_type v body ≡ Some ty
  many : is_scalar_type ty ≡ false

kept_so : (body : Statements) (at : Span) (x v : List ℕ) (ty : Spelled) → declared_type x body ≡ Some ty → (b : Bool) → is_scalar_type ty ≡ b → cond b None (Some x) ≡ Some v → KeptBy body (Some (Var at x)) v
kept_so body at x v ty d true s h = absurd cc
kept_so body at x v ty d false s h =
    let is : x ≡ v = some_is x v h in
    record { at = at; last = ap (λ z. Some (Var at z)) is; ty = ty; there = ap (λ z. declared_type z body) (sym is) ∙ d; many = s }

kept_typed : (body : Statements) (at : Span) (x v : List ℕ) (o : Option Spelled) → declared_type x body ≡ o → unless_scalar x o ≡ Some v → KeptBy body (Some (Var at x)) v
kept_typed body at x v None d h = absurd cc
kept_typed body at x v (Some ty) d h = kept_so body at x v ty d (is_scalar_type ty) refl h

kept_parts : (body : Statements) (o : Option Expression) (v : List ℕ) → kept_by body o ≡ Some v → KeptBy body o v
kept_parts body (Some (Var at x)) v h = kept_typed body at x v (declared_type x body) refl h
kept_parts body _ v h = absurd cc

pub is_kept : (m : PlainMethod) (v : List ℕ) → kept_variable m ≡ Some v → Kept m v
is_kept m v h =
    let k = kept_parts m.body (last_value m.body) v h in
    let d = type_declared v k.ty m.body k.there in
    record { at = k.at; last = k.last; declared = d.0; there = d.1; many = ap is_scalar_type d.2 ∙ k.many }

-- ---- From a call to the declaration that stands for it

abbrev pub kept_declaration : PlainMethod → Option (List ℕ) → Option Declared
kept_declaration m None = None
kept_declaration m (Some v) = declaration v m.body

abbrev pub kept_of : Option PlainMethod → Option Declared
kept_of None = None
kept_of (Some m) = kept_declaration m (kept_variable m)

-- the declaration in a helper of the variable that takes the name of the call's
abbrev pub kept_in : List PlainMethod → Option Call → Option Declared
kept_in ms None = None
kept_in ms (Some call) = kept_of (method_named call.name ms)

-- the type at the end of so many declarations, each of which has a call of the next one's helper for its value
pub ends_by : List PlainMethod → ℕ → Spelled → Option Declared → Option Spelled
ends_by ms n ty None = Some ty
ends_by ms zero ty (Some d) = None
ends_by ms (suc n) ty (Some d) = ends_by ms n d.ty (kept_in ms (call_of d.value))

pub one_end : (ms : List PlainMethod) (n k : ℕ) (ty : Spelled) (o : Option Declared) (a b : Spelled) → ends_by ms n ty o ≡ Some a → ends_by ms k ty o ≡ Some b → a ≡ b
unfolding ends_by
one_end ms n k ty None a b h i = some_is a b (sym h ∙ i)
one_end ms zero k ty (Some d) a b h i = absurd cc
one_end ms (suc n) zero ty (Some d) a b h i = absurd cc
one_end ms (suc n) (suc k) ty (Some d) a b h i = one_end ms n k d.ty (kept_in ms (call_of d.value)) a b h i

pub ends_here : (ms : List PlainMethod) (n : ℕ) (ty z : Spelled) → ends_by ms n ty None ≡ Some z → ty ≡ z
unfolding ends_by
ends_here ms zero ty z h = some_is ty z h
ends_here ms (suc n) ty z h = some_is ty z h

pub ends_further : (ms : List PlainMethod) (n : ℕ) (ty z : Spelled) (d : Declared) → ends_by ms n ty (Some d) ≡ Some z → (k : ℕ) × (ends_by ms k d.ty (kept_in ms (call_of d.value)) ≡ Some z)
unfolding ends_by
ends_further ms zero ty z d h = absurd cc
ends_further ms (suc n) ty z d h = (n, h)

no_end : (ms : List PlainMethod) (ty : Spelled) → ends_by ms 0 ty None ≡ Some ty
unfolding ends_by
no_end ms ty = refl

one_further : (ms : List PlainMethod) (n : ℕ) (ty z : Spelled) (d : Declared) → ends_by ms n d.ty (kept_in ms (call_of d.value)) ≡ Some z → ends_by ms (suc n) ty (Some d) ≡ Some z
unfolding ends_by
one_further ms n ty z d h = h

-- ---- Calls that break no rule

abbrev pub IsGood : List PlainMethod → Site → Type 0
IsGood ms site = (m : PlainMethod) → method_named site.call.name ms ≡ Some m → has_result_for site.whole m ≡ true

-- what a helper that may stand in for a call has
pub record Gives (m : PlainMethod) (ty : Spelled) : Type 0 where
  pub result : Spelled
  pub is : m.result ≡ Some result
  pub one : are_one_type result ty ≡ true
  pub value : Expression
  pub last : last_value m.body ≡ Some value

taken_by : (o : Option Spelled) (at : Span) (ty : Spelled) (x : List ℕ) (e : Expression) → may_take_from o (Some (Declare at ty x e)) ≡ true → (z : Spelled) × (o ≡ Some z) × (are_one_type z ty ≡ true)
taken_by None at ty x e h = absurd cc
taken_by (Some z) at ty x e h = (z, refl, (both_true (are_one_type z ty) (is_scalar_type z || not (is_unreadable x)) h).0)

has_value : (o : Option Expression) → not (is_none o) ≡ true → (e : Expression) × (o ≡ Some e)
has_value None h = absurd cc
has_value (Some e) h = (e, refl)

gives : (m : PlainMethod) (at : Span) (ty : Spelled) (x : List ℕ) (e : Expression) → has_result_for (Some (Declare at ty x e)) m ≡ true → Gives m ty
gives m at ty x e h =
    let b = both_true (returns_at_its_end m) (may_take_from m.result (Some (Declare at ty x e))) h in
    let t = taken_by m.result at ty x e b.1 in
    let v = has_value (last_value m.body) (both_true (not (is_none (last_value m.body))) (not (returns (without_last m.body))) b.0).0 in
    record { result = t.0; is = t.1; one = t.2; value = v.0; last = v.1 }

unless_false : (b : Bool) → (b ≡ false → ⊥) → b ≡ true
unless_false true h = refl
unless_false false h = absurd (h refl)

abbrev pub AreGood : List PlainMethod → List PlainMethod → Type 0
AreGood all ms = AllByRecursion (λ (m : PlainMethod). AllByRecursion (IsGood all) (sites_of m.body)) ms

pub program_good : (p : PlainProgram) → BreaksNone p → AreGood p.methods p.methods
program_good p none =
    all_each (λ (m : PlainMethod). AllByRecursion (IsGood p.methods) (sites_of m.body)) p.methods (λ i m there.
    all_each (IsGood p.methods) (sites_of m.body) (λ n site calls called is.
    unless_false (has_result_for site.whole called) (λ wrong. none ResultRule site.at (record { i = i; method = m; there = there; n = n; site = site; calls = calls; breaks = (called, is, wrong); place = refl }))))

site_both : (P : Site → Type 0) (xs ys : List Site) → AllByRecursion P xs → AllByRecursion P ys → AllByRecursion P (xs ++ ys)
site_both P [] ys h i = i
site_both P (x ∷ xs) ys h i = (h.0, site_both P xs ys h.1 i)

front_sites : (P : Site → Type 0) (p : Statements) → AllByRecursion P (sites_of p) → AllByRecursion P (sites_of (without_last p))
front_sites P Nothing h = h
front_sites P (Then s Nothing) h = tt
front_sites P (Then s (Then a p)) h = site_both P (sites_at s) (sites_of (without_last (Then a p))) (all_left P (sites_at s) (sites_of (Then a p)) h) (front_sites P (Then a p) (all_right P (sites_at s) (sites_of (Then a p)) h))

module _ (ms : List PlainMethod) where
  site_by : (s : Statement) (at : Span) (text : List ℕ) (es : Expressions) (call : Call) (m : PlainMethod) (b : Bool) → cond b (Some (record { name = text; arguments = es })) None ≡ Some call
      → AllByRecursion (IsGood ms) (site_of (Some s) at (cond b (Some (record { name = text; arguments = es })) None) ++ sites_among es) → method_named call.name ms ≡ Some m → has_result_for (Some s) m ≡ true
  site_by s at text es call m true e h is = h.0 m (ap (λ (c : Call). method_named c.name ms) (some_is (record { name = text; arguments = es }) call e) ∙ is)
  site_by s at text es call m false e h is = absurd cc

  site_good : (s : Statement) (e : Expression) (call : Call) (m : PlainMethod) → call_of e ≡ Some call → AllByRecursion (IsGood ms) (sites_in (Some s) e) → method_named call.name ms ≡ Some m → has_result_for (Some s) m ≡ true
  site_good s (QueryLong at text es) call m c h is = site_by s at text es call m (is_single_name text) c h is
  site_good s _ call m c h is = absurd cc

  -- a helper that a declaration calls has its type
  pub call_gives : (at : Span) (ty : Spelled) (x : List ℕ) (e : Expression) (call : Call) (m : PlainMethod) → call_of e ≡ Some call → AllByRecursion (IsGood ms) (sites_in (Some (Declare at ty x e)) e) → method_named call.name ms ≡ Some m → Gives m ty
  call_gives at ty x e call m c h is = gives m at ty x e (site_good (Declare at ty x e) e call m c h is)

  -- and so has one that the first declaration of a variable calls
  abbrev pub MayCall : Declared → Type 0
  MayCall d = (call : Call) (m : PlainMethod) → call_of d.value ≡ Some call → method_named call.name ms ≡ Some m → Gives m d.ty

  may_by : (v : List ℕ) (a : Statement) (d : Declared) → AllByRecursion (IsGood ms) (sites_at a) → declared_by v a ≡ Some d → MayCall d
  may_by v (Declare at ty x e) d h is = by (bytes_eq x v) is
    where
      by : (b : Bool) → cond b (Some (record { ty = ty; value = e })) None ≡ Some d → MayCall d
      by true i = subst MayCall (some_is (record { ty = ty; value = e }) d i) (λ call m c named. call_gives at ty x e call m c h named)
      by false i = absurd cc
  may_by v _ d h is = absurd cc

  pub may_call : (v : List ℕ) (p : Statements) (d : Declared) → AllByRecursion (IsGood ms) (sites_of p) → declaration v p ≡ Some d → MayCall d
  may_call v Nothing d h is = absurd cc
  may_call v (Then a p) d h is = by (declared_by v a) refl (may_call v p d (all_right (IsGood ms) (sites_at a) (sites_of p) h)) is
    where
      by : (o : Option Declared) → declared_by v a ≡ o → (declaration v p ≡ Some d → MayCall d) → or_else o (declaration v p) ≡ Some d → MayCall d
      by None e ih i = ih i
      by (Some f) e ih i = may_by v a d (all_left (IsGood ms) (sites_at a) (sites_of p) h) (e ∙ i)

-- ---- What is made of blocks

pub record MadeOfTwo (o : Option Made) (further : ℕ → Option Made) (made : Made) : Type 0 where
  pub first : Made
  pub is : o ≡ Some first
  pub second : Made
  pub after : further first.taken ≡ Some second
  pub block : made.block ≡ followed_by first.block second.block

pub two_made : (o : Option Made) (further : ℕ → Option Made) (made : Made) → then_made o further ≡ Some made → MadeOfTwo o further made
two_made None further made h = absurd cc
two_made (Some m) further made h = by (further m.taken) refl h
  where
    by : (q : Option Made) → further m.taken ≡ q → option_map (λ (n : Made). record { block = followed_by m.block n.block; taken = n.taken }) q ≡ Some made → MadeOfTwo (Some m) further made
    by None e i = absurd cc
    by (Some n) e i = record { first = m; is = refl; second = n; after = e; block = ap (λ (m : Made). m.block) (sym (some_is _ made i)) }

alone_made : (s : Statement) (k : ℕ) (made : Made) → Some (alone s k) ≡ Some made → made.block ≡ Then s Nothing
alone_made s k made h = ap (λ (m : Made). m.block) (sym (some_is (alone s k) made h))

body_made : (g : Statements → Statement) (o : Option Made) (made : Made) → made_of g o ≡ Some made → (m : Made) × (o ≡ Some m) × (made.block ≡ Then (g m.block) Nothing)
body_made g None made h = absurd cc
body_made g (Some m) made h = (m, refl, alone_made (g m.block) m.taken made h)

bodies_made : (g : Statements → Statements → Statement) (o : Option Made) (further : ℕ → Option Made) (made : Made) → both_made g o further ≡ Some made → (m n : Made) × (o ≡ Some m) × (further m.taken ≡ Some n) × (made.block ≡ Then (g m.block n.block) Nothing)
bodies_made g None further made h = absurd cc
bodies_made g (Some m) further made h = by (further m.taken) refl h
  where
    by : (q : Option Made) → further m.taken ≡ q → option_map (λ (n : Made). alone (g m.block n.block) n.taken) q ≡ Some made → (l n : Made) × (Some m ≡ Some l) × (further l.taken ≡ Some n) × (made.block ≡ Then (g l.block n.block) Nothing)
    by None e i = absurd cc
    by (Some n) e i = (m, n, refl, e, alone_made (g m.block n.block) n.taken made i)

-- ---- Where a declaration comes to stand

module _ (names : Names) (ms : List PlainMethod) (good : AreGood ms ms) where
  -- the variable is declared in the block itself, with the type at the end of the declarations
  pub record Ends (f : Renaming) (v : List ℕ) (d : Declared) (block : Statements) : Type 0 where
    pub type : Spelled
    pub there : DeclaresAs (f v) type block
    pub depth : ℕ
    pub ends : ends_by ms depth d.ty (kept_in ms (call_of d.value)) ≡ Some type

  ends_is : (f : Renaming) (v : List ℕ) (d : Declared) (p q : Statements) → q ≡ p → Ends f v d p → Ends f v d q
  ends_is f v d p q e = subst (Ends f v d) (sym e)

  -- a declaration whose value is a call
  abbrev CallsEnd : ℕ → Type 0
  CallsEnd e = (f : Renaming) (k : ℕ) (at : Span) (ty : Spelled) (x : List ℕ) (value : Expression) (call : Call) (made : Made) → call_of value ≡ Some call
      → AllByRecursion (IsGood ms) (sites_in (Some (Declare at ty x value)) value) → expand_at e names ms k f (Declare at ty x value) call ≡ Some made → Ends f x (record { ty = ty; value = value }) made.block

  abbrev BlocksEnd : ℕ → Type 0
  BlocksEnd e = (f : Renaming) (k : ℕ) (p : Statements) (made : Made) (v : List ℕ) (d : Declared) → AllByRecursion (IsGood ms) (sites_of p) → all_inlined (expand_at e names ms) f k p ≡ Some made → declaration v p ≡ Some d → Ends f v d made.block

  module _ (e : ℕ) (calls : CallsEnd e) where
    given_by : (f : Renaming) (k : ℕ) (at : Span) (ty : Spelled) (x : List ℕ) (value : Expression) (made : Made) (o : Option Call) → call_of value ≡ o → AllByRecursion (IsGood ms) (sites_in (Some (Declare at ty x value)) value)
        → expanded (expand_at e names ms) k f (Declare at ty x value) o (Declare at ty (f x) (renamed f value)) ≡ Some made → Ends f x (record { ty = ty; value = value }) made.block
    given_by f k at ty x value made None c h i =
        ends_is f x (record { ty = ty; value = value }) (Then (Declare at ty (f x) (renamed f value)) Nothing) made.block (alone_made (Declare at ty (f x) (renamed f value)) k made i)
        (record { type = ty; there = inl (refl, refl); depth = 0; ends = ap (λ o. ends_by ms 0 ty (kept_in ms o)) c ∙ no_end ms ty })
    given_by f k at ty x value made (Some call) c h i = calls f k at ty x value call made c h i

    pub declare_ends : (f : Renaming) (k : ℕ) (at : Span) (ty : Spelled) (x : List ℕ) (value : Expression) (made : Made) → AllByRecursion (IsGood ms) (sites_at (Declare at ty x value)) → inlined (expand_at e names ms) f k (Declare at ty x value) ≡ Some made → Ends f x (record { ty = ty; value = value }) made.block
    declare_ends f k at ty x value made h i = given_by f k at ty x value made (call_of value) refl h i

    pub it_ends : (f : Renaming) (k : ℕ) (a : Statement) (made : Made) (v : List ℕ) (d : Declared) → AllByRecursion (IsGood ms) (sites_at a) → inlined (expand_at e names ms) f k a ≡ Some made → declared_by v a ≡ Some d → Ends f v d made.block
    it_ends f k (Declare at ty x value) made v d h i is = by (bytes_eq x v) refl is
      where
        by : (b : Bool) → bytes_eq x v ≡ b → cond b (Some (record { ty = ty; value = value })) None ≡ Some d → Ends f v d made.block
        by true s j =
            subst (λ (d : Declared). Ends f v d made.block) (some_is (record { ty = ty; value = value }) d j)
            (subst (λ z. Ends f z (record { ty = ty; value = value }) made.block) (names_equal x v s) (declare_ends f k at ty x value made h i))
        by false s j = absurd cc
    it_ends f k _ made v d h i is = absurd cc

    ends_left : (f : Renaming) (v : List ℕ) (d : Declared) (p q : Statements) → Ends f v d p → Ends f v d (followed_by p q)
    ends_left f v d p q t = record { type = t.type; there = as_left (f v) t.type p q t.there; depth = t.depth; ends = t.ends }

    ends_right : (f : Renaming) (v : List ℕ) (d : Declared) (p q : Statements) → Ends f v d q → Ends f v d (followed_by p q)
    ends_right f v d p q t = record { type = t.type; there = as_right (f v) t.type p q t.there; depth = t.depth; ends = t.ends }

    block_ends : BlocksEnd e
    block_ends f k Nothing made v d h i is = absurd cc
    block_ends f k (Then a p) made v d h i is =
        let two = two_made (inlined (expand_at e names ms) f k a) (λ j. all_inlined (expand_at e names ms) f j p) made i in
        ends_is f v d (followed_by two.first.block two.second.block) made.block two.block
        (by (declared_by v a) refl two.first.block two.second.block (λ s. it_ends f k a two.first v d (all_left (IsGood ms) (sites_at a) (sites_of p) h) two.is s) (block_ends f two.first.taken p two.second v d (all_right (IsGood ms) (sites_at a) (sites_of p) h) two.after) is)
      where
        by : (o : Option Declared) → declared_by v a ≡ o → (b c : Statements) → (declared_by v a ≡ Some d → Ends f v d b) → (declaration v p ≡ Some d → Ends f v d c) → or_else o (declaration v p) ≡ Some d → Ends f v d (followed_by b c)
        by None s b c first second j = ends_right f v d b c (second j)
        by (Some z) s b c first second j = ends_left f v d b c (first (s ∙ j))

    -- what is declared somewhere in a block is declared in what is made of it
    declares_is : (w : List ℕ) (p q : Statements) → q ≡ p → declares_among w p ≡ true → declares_among w q ≡ true
    declares_is w p q e h = ap (declares_among w) e ∙ h

    declares_left : (w : List ℕ) (p q : Statements) → declares_among w p ≡ true → declares_among w (followed_by p q) ≡ true
    declares_left w Nothing q h = absurd cc
    declares_left w (Then a p) q h = by (declares w a) h (declares_left w p q)
      where
        by : (b : Bool) → (b || declares_among w p) ≡ true → (declares_among w p ≡ true → declares_among w (followed_by p q) ≡ true) → (b || declares_among w (followed_by p q)) ≡ true
        by true i ih = refl
        by false i ih = ih i

    declares_right : (w : List ℕ) (p q : Statements) → declares_among w q ≡ true → declares_among w (followed_by p q) ≡ true
    declares_right w Nothing q h = h
    declares_right w (Then a p) q h = or_second (declares w a) (declares_among w (followed_by p q)) (declares_right w p q h)

    either : {A : Type 0} (a b : Bool) → (a || b) ≡ true → (a ≡ true → A) → (b ≡ true → A) → A
    either true b h f g = f refl
    either false b h f g = g h

    only_first : (b : Bool) → b ≡ true → (b || false) ≡ true
    only_first b h = or_first b false h

    mutual
      pub still_declares : (f : Renaming) (k : ℕ) (a : Statement) (made : Made) (v : List ℕ) → AllByRecursion (IsGood ms) (sites_at a) → inlined (expand_at e names ms) f k a ≡ Some made → declares v a ≡ true → declares_among (f v) made.block ≡ true
      still_declares f k (Declare at ty x value) made v h i d =
          let t = declare_ends f k at ty x value made h i in
          ap (λ z. declares_among (f z) made.block) (sym (names_equal x v d)) ∙ then_declares (f x) t.type made.block t.there
      still_declares f k (If at c a) made v h i d =
          let b = body_made (If at (renamed f c)) (all_inlined (expand_at e names ms) f k a) made i in
          declares_is (f v) (Then (If at (renamed f c) b.0.block) Nothing) made.block b.2
          (only_first (declares_among (f v) b.0.block) (all_still_declare f k a b.0 v (all_right (IsGood ms) (sites_in None c) (sites_of a) h) b.1 d))
      still_declares f k (IfElse at c a o) made v h i d =
          let b = bodies_made (IfElse at (renamed f c)) (all_inlined (expand_at e names ms) f k a) (λ j. all_inlined (expand_at e names ms) f j o) made i in
          let g = all_right (IsGood ms) (sites_in None c) (sites_of a ++ sites_of o) h in
          declares_is (f v) (Then (IfElse at (renamed f c) b.0.block b.1.block) Nothing) made.block b.4
          (only_first (declares_among (f v) b.0.block || declares_among (f v) b.1.block)
          (either (declares_among v a) (declares_among v o) d
          (λ y. or_first (declares_among (f v) b.0.block) (declares_among (f v) b.1.block) (all_still_declare f k a b.0 v (all_left (IsGood ms) (sites_of a) (sites_of o) g) b.2 y))
          (λ y. or_second (declares_among (f v) b.0.block) (declares_among (f v) b.1.block) (all_still_declare f b.0.taken o b.1 v (all_right (IsGood ms) (sites_of a) (sites_of o) g) b.3 y))))
      still_declares f k (ForEach at ty x list body) made v h i d =
          let b = body_made (ForEach at ty (f x) (renamed f list)) (all_inlined (expand_at e names ms) f k body) made i in
          declares_is (f v) (Then (ForEach at ty (f x) (renamed f list) b.0.block) Nothing) made.block b.2
          (only_first (bytes_eq (f x) (f v) || declares_among (f v) b.0.block)
          (either (bytes_eq x v) (declares_among v body) d
          (λ y. or_first (bytes_eq (f x) (f v)) (declares_among (f v) b.0.block) (ap (λ z. bytes_eq (f z) (f v)) (names_equal x v y) ∙ name_same (f v)))
          (λ y. or_second (bytes_eq (f x) (f v)) (declares_among (f v) b.0.block) (all_still_declare f k body b.0 v (all_right (IsGood ms) (sites_in None list) (sites_of body) h) b.1 y))))
      still_declares f k (While at c body) made v h i d =
          let b = body_made (While at (renamed f c)) (all_inlined (expand_at e names ms) f k body) made i in
          declares_is (f v) (Then (While at (renamed f c) b.0.block) Nothing) made.block b.2
          (only_first (declares_among (f v) b.0.block) (all_still_declare f k body b.0 v (all_right (IsGood ms) (sites_in None c) (sites_of body) h) b.1 d))
      still_declares f k _ made v h i d = absurd cc

      pub all_still_declare : (f : Renaming) (k : ℕ) (p : Statements) (made : Made) (v : List ℕ) → AllByRecursion (IsGood ms) (sites_of p) → all_inlined (expand_at e names ms) f k p ≡ Some made → declares_among v p ≡ true → declares_among (f v) made.block ≡ true
      all_still_declare f k Nothing made v h i d = absurd cc
      all_still_declare f k (Then a p) made v h i d =
          let two = two_made (inlined (expand_at e names ms) f k a) (λ j. all_inlined (expand_at e names ms) f j p) made i in
          declares_is (f v) (followed_by two.first.block two.second.block) made.block two.block
          (either (declares v a) (declares_among v p) d
          (λ y. declares_left (f v) two.first.block two.second.block (still_declares f k a two.first v (all_left (IsGood ms) (sites_at a) (sites_of p) h) two.is y))
          (λ y. declares_right (f v) two.first.block two.second.block (all_still_declare f two.first.taken p two.second v (all_right (IsGood ms) (sites_at a) (sites_of p) h) two.after y)))

  -- ---- Calls

  module _ (e : ℕ) (ih : BlocksEnd e) (f : Renaming) (k : ℕ) (at : Span) (ty : Spelled) (x : List ℕ) (value : Expression) (call : Call) (made : Made) (is_call : call_of value ≡ Some call) where
    abbrev this : Statement
    this = Declare at ty x value

    abbrev it : Declared
    it = record { ty = ty; value = value }

    abbrev g_of : Option (List ℕ) → Renaming
    g_of kept = marked_but kept (f x) (next_number names k)

    abbrev with_kept : PlainMethod → Option (List ℕ) → Made → Made
    with_kept m kept n =
        record {
          block = followed_by (arguments_given (place_of this) (g_of kept) m.params f call.arguments) (followed_by n.block (ended f this (g_of kept) kept (last_value m.body)));
          taken = n.taken;
        }

    kept_call : (m : PlainMethod) → method_named call.name ms ≡ Some m → kept_in ms (call_of value) ≡ kept_declaration m (kept_variable m)
    kept_call m is = ap (kept_in ms) is_call ∙ ap kept_of is

    put_there : (g : Renaming) (o : Option Expression) (v : Expression) → o ≡ Some v → DeclaresAs (f x) ty (ended f this g None o)
    put_there g None v h = absurd cc
    put_there g (Some z) v h = inl (refl, refl)

    module _ (m : PlainMethod) (is : method_named call.name ms ≡ Some m) (sound : Gives m ty) (n : Made) where
      ends_with : (kept : Option (List ℕ)) → kept_variable m ≡ kept → all_inlined (expand_at e names ms) (g_of kept) (next_number names k) (without_last m.body) ≡ Some n → Ends f x it (with_kept m kept n).block
      ends_with None q i =
          record {
            type = ty;
            there = as_right (f x) ty (arguments_given (place_of this) (g_of None) m.params f call.arguments) (followed_by n.block (ended f this (g_of None) None (last_value m.body)))
                (as_right (f x) ty n.block (ended f this (g_of None) None (last_value m.body)) (put_there (g_of None) (last_value m.body) sound.value sound.last));
            depth = 0;
            ends = ap (ends_by ms 0 ty) (kept_call m is ∙ ap (kept_declaration m) q) ∙ no_end ms ty;
          }
      ends_with (Some v) q i =
          let kept = is_kept m v q in
          let t = ih (g_of (Some v)) (next_number names k) (without_last m.body) n v kept.declared (front_sites (IsGood ms) m.body (of_named (λ (m : PlainMethod). AllByRecursion (IsGood ms) (sites_of m.body)) ms call.name m good is)) i (front_declaration v m.body (Var kept.at v) kept.last ∙ kept.there) in
          record {
            type = t.type;
            there = as_right (f x) t.type (arguments_given (place_of this) (g_of (Some v)) m.params f call.arguments) (followed_by n.block (ended f this (g_of (Some v)) (Some v) (last_value m.body)))
                (as_left (f x) t.type n.block (ended f this (g_of (Some v)) (Some v) (last_value m.body)) (subst (λ z. DeclaresAs z t.type n.block) (name_of v) t.there));
            depth = suc t.depth;
            ends = ap (ends_by ms (suc t.depth) ty) (kept_call m is ∙ ap (kept_declaration m) q ∙ kept.there) ∙ one_further ms t.depth ty t.type kept.declared t.ends;
          }
        where
          name_of : (v : List ℕ) → g_of (Some v) v ≡ f x
          name_of v = ap (λ b. cond b (f x) (v ++ mark_of (next_number names k))) (name_same v)

    inner_ends : (m : PlainMethod) → method_named call.name ms ≡ Some m → Gives m ty → (o : Option Made) → all_inlined (expand_at e names ms) (g_of (kept_variable m)) (next_number names k) (without_last m.body) ≡ o
        → option_map (with_kept m (kept_variable m)) o ≡ Some made → Ends f x it made.block
    inner_ends m is sound None i q = absurd cc
    inner_ends m is sound (Some n) i q =
        ends_is f x it (with_kept m (kept_variable m) n).block made.block (ap (λ (m : Made). m.block) (sym (some_is (with_kept m (kept_variable m) n) made q))) (ends_with m is sound n (kept_variable m) refl i)

    method_ends : (o : Option PlainMethod) → method_named call.name ms ≡ o → ((m : PlainMethod) → method_named call.name ms ≡ Some m → Gives m ty) → expand_with (expand_at e names ms) (next_number names k) f this call o ≡ Some made → Ends f x it made.block
    method_ends None is sound q = absurd cc
    method_ends (Some m) is sound q = inner_ends m is (sound m is) (all_inlined (expand_at e names ms) (g_of (kept_variable m)) (next_number names k) (without_last m.body)) refl q

  none_some : (made : Made) → None ≡ Some made → ⊥
  none_some made e = absurd cc

  pub calls_end : (e : ℕ) → CallsEnd e
  calls_end zero f k at ty x value call made c h i = absurd (none_some made (sym (expand_zero names ms k f (Declare at ty x value) call) ∙ i))
  calls_end (suc e) f k at ty x value call made c h i =
      method_ends e (block_ends e (calls_end e)) f k at ty x value call made c (method_named call.name ms) refl (λ m is. call_gives ms at ty x value call m c h is) (sym (expand_step e names ms k f (Declare at ty x value) call) ∙ i)

  pub blocks_end : (e : ℕ) → BlocksEnd e
  blocks_end e = block_ends e (calls_end e)
