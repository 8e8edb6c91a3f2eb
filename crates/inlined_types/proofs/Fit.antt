-- Helpers of a well-typed inlined program fit.
use Rattle.std.proofs.Common.{◌≡◌, ℕ, Bool, true, false, cond, not, List, [], ◌∷◌, Option, Some, None, refl, sym, ap, ◌∙◌, subst}
use Rattle.std.specs.List.{AllByRecursion, list_all}
use Rattle.std.specs.Prelude.{◌&&◌, ◌||◌, bytes_eq}
use Rattle.std.specs.Option.{option_map}
use Rattle.qbs_base.specs.declared.scalar.Ty.TheVariants as tys
use Rattle.qbs_base.specs.declared.span.Span.{Span}
use Rattle.qbs_base.specs.Columns.{table_number}
use Rattle.qbs_base.specs.Values.{Schema}
use Rattle.sql_ast.specs.Tree.{PlainQuery}
use Rattle.java_ast.specs.Names.{Names, is_among, names_of_params}
use Rattle.java_ast.specs.Path.{with_body, with_methods}
use Rattle.java_ast.specs.Tree.{Spelled, Int, Long, Boolean, String, BoxedInteger, BoxedLong, BoxedBoolean, Table, ListOf, SetOf, Expression, Var, Statement, Declare, Return, Statements, Nothing, Then, PlainParam, PlainMethod, PlainProgram}
use Rattle.java_mean.specs.declared.types.JavaType.{JavaType}
use Rattle.java_mean.specs.declared.types.JavaType.TheVariants.{Of, Listed, Distinct}
use Rattle.java_mean.specs.declared.types.Single.{Single}
use Rattle.java_mean.specs.declared.types.Single.TheVariants.{ScalarOf, RowOf}
use Rattle.java_mean.specs.Places.{whole, in_method, in_body}
use Rattle.java_mean.specs.Refines.{followed_by}
use Rattle.java_mean.specs.Statement.{is_set_type}
use Rattle.java_mean.specs.Types as types
use Rattle.java_mean.specs.Types.{single_spelled, type_spelled, is_distinct}
use Rattle.java_mean.specs.Visible.{Visible, is_visible, declared_in, with_params}
use Rattle.java_mean.specs.WellTyped.{faults_in, faults_in_methods, IsWellTyped}
use Rattle.java_mean.proofs.Faultless.{none_both}
use Rattle.java_mean.proofs.Puts.{names_equal}
use Rattle.call_parts.specs.Kinds.{is_scalar_type, one_type, same_spelled, are_one_type}
use Rattle.java_calls.specs.Called.{Call, call_of, method_named}
use Rattle.java_calls.specs.Fitting.{declares, declares_among, both_or_none, declares_so, ends_declared, are_apart, fits_kept, is_fitting, AreFitting}
use Rattle.java_calls.specs.Inlining.{Made, AllMade, Expand, alone, returned_by, all_inlined, inlined, expand_at, without_last, last_value, kept_variable, made_method, inlined_methods, IsInlined}
use Rattle.java_calls.specs.KeepsCalls.{KeepsCalls}
use Rattle.java_calls.specs.ProgramNames.{names_of}
use Rattle.java_calls.specs.Renaming.{as_they_are, renamed}
use Rattle.java_calls.specs.Rules.{sites_at, sites_of, BreaksNone}
use Rattle.java_calls.proofs.Calls.{of_named}
use Rattle.java_calls.proofs.Keeping.{inlined_keeps}
use Rattle.java_calls.proofs.Replacing.{all_left, all_right}
use Rattle.inlined_types.specs.PlainTypes.{is_boxed, declares_unboxed, has_plain_types, HavePlainTypes}
use Rattle.inlined_types.proofs.Typed.{clash, or_first, or_second, DeclaresAs, AreFine, fine_behind, undeclared_behind, declared_returned, params_apart, no_parameter, IsFineMethod, method_fine}
use Rattle.inlined_types.proofs.Ends.{Declared, declared_by, or_else, declaration, Kept, is_kept, kept_declaration, kept_of, kept_in, ends_by, one_end, ends_here, ends_further, IsGood, AreGood, program_good, MayCall, may_call, front_declaration, two_made, it_ends, all_still_declare, calls_end, blocks_end}

some_is : {A : Type 0} (a b : A) → Some a ≡ Some b → a ≡ b
some_is a b e = cc

both_true : (a b : Bool) → (a && b) ≡ true → (a ≡ true) × (b ≡ true)
both_true true true h = (refl, refl)
both_true true false h = absurd cc
both_true false b h = absurd cc

-- ---- Types that are one

same_is : (a b : Spelled) → same_spelled a b ≡ true → a ≡ b
same_is Int Int h = refl
same_is Long Long h = refl
same_is Boolean Boolean h = refl
same_is String String h = refl
same_is BoxedInteger BoxedInteger h = refl
same_is BoxedLong BoxedLong h = refl
same_is BoxedBoolean BoxedBoolean h = refl
same_is (Table a) (Table b) h = ap Table (names_equal a b h)
same_is (ListOf a) (ListOf b) h = ap ListOf (same_is a b h)
same_is (SetOf a) (SetOf b) h = ap SetOf (same_is a b h)
same_is _ _ h = absurd cc

one_single : (schema : Schema) (ty : Spelled) → single_spelled schema (one_type ty) ≡ single_spelled schema ty
one_single schema Int = refl
one_single schema BoxedInteger = refl
one_single schema (ListOf e) = refl
one_single schema (SetOf e) = refl
one_single schema _ = refl

one_spelled : (schema : Schema) (ty : Spelled) → type_spelled schema (one_type ty) ≡ type_spelled schema ty
one_spelled schema (ListOf e) = ap (λ o. types.made_of Listed o) (one_single schema e)
one_spelled schema (SetOf e) = ap (λ o. types.made_of Distinct o) (one_single schema e)
one_spelled schema Int = refl
one_spelled schema BoxedInteger = refl
one_spelled schema _ = refl

same_types : (schema : Schema) (a b : Spelled) → are_one_type a b ≡ true → type_spelled schema a ≡ type_spelled schema b
same_types schema a b h = sym (one_spelled schema a) ∙ ap (type_spelled schema) (same_is (one_type a) (one_type b) h) ∙ one_spelled schema b

-- ---- What a type that is spelled says

set_single : (o : Option Single) (k : JavaType) → types.made_of Of o ≡ Some k → is_distinct k ≡ false
set_single None k h = absurd cc
set_single (Some a) k h = ap is_distinct (sym (some_is (Of a) k h))

set_spelled : (schema : Schema) (ty : Spelled) (k : JavaType) → type_spelled schema ty ≡ Some k → is_set_type ty ≡ is_distinct k
set_spelled schema (ListOf e) k h = by (single_spelled schema e) h
  where
    by : (o : Option Single) → types.made_of Listed o ≡ Some k → false ≡ is_distinct k
    by None i = absurd cc
    by (Some a) i = ap is_distinct (some_is (Listed a) k i)
set_spelled schema (SetOf e) k h = by (single_spelled schema e) h
  where
    by : (o : Option Single) → types.made_of Distinct o ≡ Some k → true ≡ is_distinct k
    by None i = absurd cc
    by (Some a) i = ap is_distinct (some_is (Distinct a) k i)
set_spelled schema Int k h = sym (set_single (single_spelled schema Int) k h)
set_spelled schema Long k h = sym (set_single (single_spelled schema Long) k h)
set_spelled schema Boolean k h = sym (set_single (single_spelled schema Boolean) k h)
set_spelled schema String k h = sym (set_single (single_spelled schema String) k h)
set_spelled schema BoxedInteger k h = sym (set_single (single_spelled schema BoxedInteger) k h)
set_spelled schema BoxedLong k h = sym (set_single (single_spelled schema BoxedLong) k h)
set_spelled schema BoxedBoolean k h = sym (set_single (single_spelled schema BoxedBoolean) k h)
set_spelled schema (Table name) k h = sym (set_single (single_spelled schema (Table name)) k h)

-- a value of a scalar type, boxed or not
abbrev is_one : JavaType → Bool
is_one (Of (ScalarOf ty)) = true
is_one _ = false

many_row : (o : Option ℕ) (k : JavaType) → types.made_of Of (types.row_type o) ≡ Some k → is_one k ≡ false
many_row None k h = absurd cc
many_row (Some n) k h = ap is_one (sym (some_is (Of (RowOf n)) k h))

many_spelled : (schema : Schema) (ty : Spelled) (k : JavaType) → is_scalar_type ty ≡ false → is_boxed ty ≡ false → type_spelled schema ty ≡ Some k → is_one k ≡ false
many_spelled schema (Table name) k s b h = many_row (table_number schema name) k h
many_spelled schema (ListOf e) k s b h = by (single_spelled schema e) h
  where
    by : (o : Option Single) → types.made_of Listed o ≡ Some k → is_one k ≡ false
    by None i = absurd cc
    by (Some a) i = ap is_one (sym (some_is (Listed a) k i))
many_spelled schema (SetOf e) k s b h = by (single_spelled schema e) h
  where
    by : (o : Option Single) → types.made_of Distinct o ≡ Some k → is_one k ≡ false
    by None i = absurd cc
    by (Some a) i = ap is_one (sym (some_is (Distinct a) k i))
many_spelled schema _ k s b h = absurd cc

one_scalar : (schema : Schema) (ty : Spelled) (k : JavaType) → is_scalar_type ty ≡ true → type_spelled schema ty ≡ Some k → is_one k ≡ true
one_scalar schema Int k s h = ap is_one (sym (some_is (Of (ScalarOf tys.Long)) k h))
one_scalar schema Long k s h = ap is_one (sym (some_is (Of (ScalarOf tys.Long)) k h))
one_scalar schema Boolean k s h = ap is_one (sym (some_is (Of (ScalarOf tys.Bool)) k h))
one_scalar schema String k s h = ap is_one (sym (some_is (Of (ScalarOf tys.Text)) k h))
one_scalar schema _ k s h = absurd cc

-- ---- What is declared

declares_by : (v : List ℕ) (a : Statement) (d : Declared) → declared_by v a ≡ Some d → declares v a ≡ true
declares_by v (Declare at ty x e) d h = by (bytes_eq x v) refl h
  where
    by : (b : Bool) → bytes_eq x v ≡ b → cond b (Some (record { ty = ty; value = e })) None ≡ Some d → bytes_eq x v ≡ true
    by true s i = s
    by false s i = absurd cc
declares_by v _ d h = absurd cc

declares_some : (v : List ℕ) (p : Statements) (d : Declared) → declaration v p ≡ Some d → declares_among v p ≡ true
declares_some v Nothing d h = absurd cc
declares_some v (Then a p) d h = by (declared_by v a) refl (declares_some v p d) h
  where
    by : (o : Option Declared) → declared_by v a ≡ o → (declaration v p ≡ Some d → declares_among v p ≡ true) → or_else o (declaration v p) ≡ Some d → (declares v a || declares_among v p) ≡ true
    by None s ih i = or_second (declares v a) (declares_among v p) (ih i)
    by (Some f) s ih i = or_first (declares v a) (declares_among v p) (declares_by v a f s)

as_declared : (v : List ℕ) (a : Statement) (d : Declared) (set : Bool) → declared_by v a ≡ Some d → is_set_type d.ty ≡ set → declares_so set v a ≡ true
as_declared v (Declare at ty x e) d set h i = by (bytes_eq x v) h
  where
    same_mark : (a b : Bool) → b ≡ a → both_or_none a b ≡ true
    same_mark true b e = e
    same_mark false b e = ap not e

    by : (b : Bool) → cond b (Some (record { ty = ty; value = e })) None ≡ Some d → (b && both_or_none set (is_set_type ty)) ≡ true
    by true j = same_mark set (is_set_type ty) (ap (λ (d : Declared). is_set_type d.ty) (some_is (record { ty = ty; value = e }) d j) ∙ i)
    by false j = absurd cc
as_declared v _ d set h i = absurd cc

or_none : (a b : Bool) → (a || b) ≡ false → (a ≡ false) × (b ≡ false)
or_none true b h = absurd cc
or_none false b h = (refl, h)

none_or : (a b : Bool) → a ≡ false → b ≡ false → (a || b) ≡ false
none_or true b h i = absurd cc
none_or false b h i = i

front_none : (v : List ℕ) (p : Statements) → declares_among v p ≡ false → declares_among v (without_last p) ≡ false
front_none v Nothing h = refl
front_none v (Then a Nothing) h = refl
front_none v (Then a (Then c p)) h = let b = or_none (declares v a) (declares_among v (Then c p)) h in none_or (declares v a) (declares_among v (without_last (Then c p))) b.0 (front_none v (Then c p) b.1)

unboxed_by : (v : List ℕ) (a : Statement) (p : Statements) (d : Declared) → declares_unboxed (Then a p) ≡ true → declared_by v a ≡ Some d → is_boxed d.ty ≡ false
unboxed_by v (Declare at ty x e) p d h i = by (bytes_eq x v) i
  where
    is_not : (b : Bool) → not b ≡ true → b ≡ false
    is_not true h = absurd cc
    is_not false h = refl

    by : (b : Bool) → cond b (Some (record { ty = ty; value = e })) None ≡ Some d → is_boxed d.ty ≡ false
    by true j = ap (λ (d : Declared). is_boxed d.ty) (sym (some_is (record { ty = ty; value = e }) d j)) ∙ is_not (is_boxed ty) (both_true (not (is_boxed ty)) (declares_unboxed p) h).0
    by false j = absurd cc
unboxed_by v _ p d h i = absurd cc

unboxed_rest : (a : Statement) (p : Statements) → declares_unboxed (Then a p) ≡ true → declares_unboxed p ≡ true
unboxed_rest (Declare at ty x e) p h = (both_true (not (is_boxed ty)) (declares_unboxed p) h).1
unboxed_rest _ p h = h

unboxed : (v : List ℕ) (p : Statements) (d : Declared) → declares_unboxed p ≡ true → declaration v p ≡ Some d → is_boxed d.ty ≡ false
unboxed v Nothing d h i = absurd cc
unboxed v (Then a p) d h i = by (declared_by v a) refl (unboxed v p d (unboxed_rest a p h)) i
  where
    by : (o : Option Declared) → declared_by v a ≡ o → (declaration v p ≡ Some d → is_boxed d.ty ≡ false) → or_else o (declaration v p) ≡ Some d → is_boxed d.ty ≡ false
    by None s ih j = ih j
    by (Some f) s ih j = unboxed_by v a p d h (s ∙ j)

-- ---- The last statement of what is made

last_then : (a : Statement) (p : Statements) (e : Expression) → last_value p ≡ Some e → last_value (Then a p) ≡ Some e
last_then a Nothing e h = absurd cc
last_then a (Then c p) e h = h

last_joined : (p q : Statements) (e : Expression) → last_value q ≡ Some e → last_value (followed_by p q) ≡ Some e
last_joined Nothing q e h = h
last_joined (Then a p) q e h = last_then a (followed_by p q) e (last_joined p q e h)

nothing_more : (p : Statements) → followed_by p Nothing ≡ p
nothing_more Nothing = refl
nothing_more (Then a p) = ap (Then a) (nothing_more p)

return_made : (expand : Expand) (k : ℕ) (a : Statement) (made : Made) (at : Span) (v : List ℕ) → returned_by a ≡ Some (Var at v) → inlined expand as_they_are k a ≡ Some made → last_value made.block ≡ Some (Var at v)
return_made expand k (Return to o) made at v h i = ap (λ (m : Made). last_value m.block) (sym (some_is (alone (Return to (option_map (renamed as_they_are) o)) k) made i)) ∙ ap (option_map (renamed as_they_are)) h
return_made expand k _ made at v h i = absurd cc

last_made : (expand : Expand) (k : ℕ) (p : Statements) (made : Made) (at : Span) (v : List ℕ) → last_value p ≡ Some (Var at v) → all_inlined expand as_they_are k p ≡ Some made → last_value made.block ≡ Some (Var at v)
last_made expand k Nothing made at v h i = absurd cc
last_made expand k (Then a Nothing) made at v h i =
    let two = two_made (inlined expand as_they_are k a) (λ j. all_inlined expand as_they_are j Nothing) made i in
    let none : two.second.block ≡ Nothing = ap (λ (m : Made). m.block) (sym (some_is (record { block = Nothing; taken = two.first.taken }) two.second two.after)) in
    ap last_value (two.block ∙ ap (followed_by two.first.block) none ∙ nothing_more two.first.block) ∙ return_made expand k a two.first at v h two.is
last_made expand k (Then a (Then c p)) made at v h i =
    let two = two_made (inlined expand as_they_are k a) (λ j. all_inlined expand as_they_are j (Then c p)) made i in
    ap last_value two.block ∙ last_joined two.first.block two.second.block (Var at v) (last_made expand two.first.taken (Then c p) two.second at v h two.after)

-- ---- The methods of the inlined program

module _ (schema : Schema) (read : List ℕ → Option PlainQuery) (expand : Expand) where
  -- a method's own copy in the inlined program, none of whose places has a fault
  record IsCopied (m : PlainMethod) : Type 0 where
    taken : ℕ
    made : Made
    is : all_inlined expand as_they_are taken m.body ≡ Some made
    fine : IsFineMethod schema read (with_body m made.block)

  copied_rest : (m : PlainMethod) (rest : List PlainMethod) (k : ℕ) (made : Made) (o : Option AllMade) (all : AllMade) (vs : Visible) → all_inlined expand as_they_are k m.body ≡ Some made
      → ((rs : AllMade) (us : Visible) → o ≡ Some rs → faults_in_methods schema read us rs.methods ≡ [] → AllByRecursion IsCopied rest)
      → option_map (λ (all : AllMade). record { methods = with_body m made.block ∷ all.methods; taken = all.taken }) o ≡ Some all → faults_in_methods schema read vs all.methods ≡ [] → AllByRecursion IsCopied (m ∷ rest)
  copied_rest m rest k made None all vs is ih q h = absurd cc
  copied_rest m rest k made (Some rs) all vs is ih q h =
      let none : faults_in_methods schema read vs (with_body m made.block ∷ rs.methods) ≡ [] = ap (λ (all : AllMade). faults_in_methods schema read vs all.methods) (some_is _ all q) ∙ h in
      let two = none_both (faults_in schema read m.result (whole (is_visible vs m.name) (with_body m made.block) ∷ in_method schema (with_body m made.block))) (faults_in_methods schema read (declared_in vs m.name None) rs.methods) none in
      (record { taken = k; made = made; is = is; fine = method_fine schema read (is_visible vs m.name) (with_body m made.block) two.left }, ih rs (declared_in vs m.name None) refl two.right)

  copied_one : (m : PlainMethod) (rest : List PlainMethod) (k : ℕ) (o : Option Made) (all : AllMade) (vs : Visible) → all_inlined expand as_they_are k m.body ≡ o
      → ((j : ℕ) (rs : AllMade) (us : Visible) → inlined_methods expand j rest ≡ Some rs → faults_in_methods schema read us rs.methods ≡ [] → AllByRecursion IsCopied rest)
      → made_method m o (λ j. inlined_methods expand j rest) ≡ Some all → faults_in_methods schema read vs all.methods ≡ [] → AllByRecursion IsCopied (m ∷ rest)
  copied_one m rest k None all vs is ih q h = absurd cc
  copied_one m rest k (Some made) all vs is ih q h = copied_rest m rest k made (inlined_methods expand made.taken rest) all vs is (ih made.taken) q h

  copied : (rest : List PlainMethod) (k : ℕ) (all : AllMade) (vs : Visible) → inlined_methods expand k rest ≡ Some all → faults_in_methods schema read vs all.methods ≡ [] → AllByRecursion IsCopied rest
  copied [] k all vs q h = tt
  copied (m ∷ rest) k all vs q h = copied_one m rest k (all_inlined expand as_they_are k m.body) all vs refl (copied rest) q h

-- ---- Helpers

-- the helper that a value calls, with the declaration of the variable that takes the caller's name
record IsHelper (ms : List PlainMethod) (value : Expression) (d : Declared) : Type 0 where
  call : Call
  calls : call_of value ≡ Some call
  method : PlainMethod
  named : method_named call.name ms ≡ Some method
  variable : List ℕ
  kept : kept_variable method ≡ Some variable
  there : declaration variable method.body ≡ Some d

helper_kept : (ms : List PlainMethod) (value : Expression) (d : Declared) (call : Call) (m : PlainMethod) (o : Option (List ℕ)) → call_of value ≡ Some call → method_named call.name ms ≡ Some m → kept_variable m ≡ o → kept_declaration m o ≡ Some d → IsHelper ms value d
helper_kept ms value d call m None c n k h = absurd cc
helper_kept ms value d call m (Some v) c n k h = record { call = call; calls = c; method = m; named = n; variable = v; kept = k; there = h }

helper_named : (ms : List PlainMethod) (value : Expression) (d : Declared) (call : Call) (o : Option PlainMethod) → call_of value ≡ Some call → method_named call.name ms ≡ o → kept_of o ≡ Some d → IsHelper ms value d
helper_named ms value d call None c n h = absurd cc
helper_named ms value d call (Some m) c n h = helper_kept ms value d call m (kept_variable m) c n refl h

helper_of : (ms : List PlainMethod) (value : Expression) (d : Declared) (o : Option Call) → call_of value ≡ o → kept_in ms o ≡ Some d → IsHelper ms value d
helper_of ms value d None c h = absurd cc
helper_of ms value d (Some call) c h = helper_named ms value d call (method_named call.name ms) c refl h

module _ (schema : Schema) (read : List ℕ → Option PlainQuery) (names : Names) (ms : List PlainMethod) (e : ℕ) (good : AreGood ms ms) (all_copied : AllByRecursion (IsCopied schema read (expand_at e names ms)) ms) where
  abbrev IsHere : PlainMethod → Type 0
  IsHere = IsCopied schema read (expand_at e names ms)

  -- what is known of the variable that a helper returns, by its own copy
  record Back (m : PlainMethod) (copy : IsHere m) (v : List ℕ) (d : Declared) : Type 0 where
    type : Spelled
    there : DeclaresAs v type copy.made.block
    depth : ℕ
    ends : ends_by ms depth d.ty (kept_in ms (call_of d.value)) ≡ Some type
    result : Spelled
    is : m.result ≡ Some result
    same : type_spelled schema result ≡ type_spelled schema type

  back : (m : PlainMethod) (copy : IsHere m) → AllByRecursion (IsGood ms) (sites_of m.body) → (v : List ℕ) (kept : Kept m v) → Back m copy v kept.declared
  back m copy sound v kept =
      let t = blocks_end names ms good e as_they_are copy.taken m.body copy.made v kept.declared sound copy.is kept.there in
      let r = declared_returned schema read m.result copy.fine.result copy.made.block (with_params schema [] m.params) in_body kept.at v t.type t.there copy.fine.body (last_made (expand_at e names ms) copy.taken m.body copy.made kept.at v kept.last copy.is) in
      record { type = t.type; there = t.there; depth = t.depth; ends = t.ends; result = r.result; is = r.is; same = r.same }

  -- the type at the end of the declarations is that of the first of them
  through_call : (d : Declared) (z : Spelled) (n : ℕ) (further : Declared) → MayCall ms d → IsHelper ms d.value further → ends_by ms n d.ty (Some further) ≡ Some z → type_spelled schema d.ty ≡ type_spelled schema z
  through_call d z n further may h ends =
      let m = h.method in
      let copy = of_named IsHere ms h.call.name m all_copied h.named in
      let kept = is_kept m h.variable h.kept in
      let b = back m copy (of_named (λ (m : PlainMethod). AllByRecursion (IsGood ms) (sites_of m.body)) ms h.call.name m good h.named) h.variable kept in
      let g = may h.call m h.calls h.named in
      let one : kept.declared ≡ further = some_is kept.declared further (sym kept.there ∙ h.there) in
      let more = ends_further ms n d.ty z further ends in
      let there : ends_by ms b.depth further.ty (kept_in ms (call_of further.value)) ≡ Some b.type = subst (λ (d : Declared). ends_by ms b.depth d.ty (kept_in ms (call_of d.value)) ≡ Some b.type) one b.ends in
      let end : b.type ≡ z = one_end ms b.depth more.0 further.ty (kept_in ms (call_of further.value)) b.type z there more.1 in
      let result : b.result ≡ g.result = some_is b.result g.result (sym b.is ∙ g.is) in
      sym (same_types schema g.result d.ty g.one) ∙ ap (type_spelled schema) (sym result) ∙ b.same ∙ ap (type_spelled schema) end

  ends_same : (d : Declared) (z : Spelled) (n : ℕ) (o : Option Declared) → MayCall ms d → kept_in ms (call_of d.value) ≡ o → ends_by ms n d.ty o ≡ Some z → type_spelled schema d.ty ≡ type_spelled schema z
  ends_same d z n None may k ends = ap (type_spelled schema) (ends_here ms n d.ty z ends)
  ends_same d z n (Some further) may k ends = through_call d z n further may (helper_of ms d.value further (call_of d.value) refl k) ends

  -- ---- The last declaration

  none_some : {A : Type 0} (a : A) → None ≡ Some a → ⊥
  none_some a e = absurd cc

  not_true : (b : Bool) → (b ≡ true → ⊥) → b ≡ false
  not_true true h = absurd (h refl)
  not_true false h = refl

  module _ (r : Option Spelled) (v : List ℕ) (d : Declared) (set : Bool) (mark : is_set_type d.ty ≡ set) where
    first_ends : (k : ℕ) (a : Statement) (p : Statements) (made : Made) (vs : Visible) → AllByRecursion (IsGood ms) (sites_of (Then a p)) → all_inlined (expand_at e names ms) as_they_are k (Then a p) ≡ Some made → AreFine schema read r vs in_body made.block
        → declared_by v a ≡ Some d → declares_among v p ≡ false
    first_ends k a p made vs sound i fine h =
        let two = two_made (inlined (expand_at e names ms) as_they_are k a) (λ j. all_inlined (expand_at e names ms) as_they_are j p) made i in
        let t = it_ends names ms good e (calls_end names ms good e) as_they_are k a two.first v d (all_left (IsGood ms) (sites_at a) (sites_of p) sound) two.is h in
        let none = undeclared_behind schema read r two.first.block two.second.block vs in_body v t.type t.there (subst (AreFine schema read r vs in_body) two.block fine) in
        not_true (declares_among v p) (λ y. clash (declares_among v two.second.block) (all_still_declare names ms good e (calls_end names ms good e) as_they_are two.first.taken p two.second v (all_right (IsGood ms) (sites_at a) (sites_of p) sound) two.after y) none)

    ends_so : (k : ℕ) (p : Statements) (made : Made) (vs : Visible) (value : Expression) → AllByRecursion (IsGood ms) (sites_of p) → all_inlined (expand_at e names ms) as_they_are k p ≡ Some made → AreFine schema read r vs in_body made.block
        → declaration v p ≡ Some d → last_value p ≡ Some value → ends_declared set v (without_last p) ≡ true
    ends_so k Nothing made vs value sound i fine h l = absurd cc
    ends_so k (Then a Nothing) made vs value sound i fine h l = absurd (none_some d (front_declaration v (Then a Nothing) value l ∙ h))
    ends_so k (Then a (Then c p)) made vs value sound i fine h l =
        let two = two_made (inlined (expand_at e names ms) as_they_are k a) (λ j. all_inlined (expand_at e names ms) as_they_are j (Then c p)) made i in
        let behind = fine_behind schema read r two.first.block two.second.block vs in_body (subst (AreFine schema read r vs in_body) two.block fine) in
        by (declared_by v a) refl (ends_so two.first.taken (Then c p) two.second behind.0 value (all_right (IsGood ms) (sites_at a) (sites_of (Then c p)) sound) two.after behind.1) h
      where
        by : (o : Option Declared) → declared_by v a ≡ o → (declaration v (Then c p) ≡ Some d → last_value (Then c p) ≡ Some value → ends_declared set v (without_last (Then c p)) ≡ true) → or_else o (declaration v (Then c p)) ≡ Some d
            → cond (declares_among v (without_last (Then c p))) (ends_declared set v (without_last (Then c p))) (declares_so set v a) ≡ true
        by None s ih j =
            ap (λ b. cond b (ends_declared set v (without_last (Then c p))) (declares_so set v a)) (declares_some v (without_last (Then c p)) d (front_declaration v (Then c p) value l ∙ j)) ∙ ih j l
        by (Some f) s ih j =
            ap (λ b. cond b (ends_declared set v (without_last (Then c p))) (declares_so set v a)) (front_none v (Then c p) (first_ends k a (Then c p) made vs sound i fine (s ∙ j))) ∙ as_declared v a d set (s ∙ j) mark

  -- ---- A method

  both : (a b : Bool) → a ≡ true → b ≡ true → (a && b) ≡ true
  both true b h i = i
  both false b h i = absurd cc

  module _ (m : PlainMethod) (copy : IsHere m) (sound : AllByRecursion (IsGood ms) (sites_of m.body)) (plain : has_plain_types m ≡ true) where
    plain_parts : (list_all (λ (p : PlainParam). not (is_set_type p.ty)) m.params ≡ true) × (declares_unboxed m.body ≡ true)
    plain_parts = both_true (list_all (λ (p : PlainParam). not (is_set_type p.ty)) m.params) (declares_unboxed m.body) plain

    many_result : (d : Declared) (ty : Spelled) (k : JavaType) → is_scalar_type d.ty ≡ false → is_boxed d.ty ≡ false → type_spelled schema d.ty ≡ Some k → type_spelled schema ty ≡ Some k → is_scalar_type ty ≡ false
    many_result d ty k s b h i = not_true (is_scalar_type ty) (λ y. clash (is_one k) (one_scalar schema ty k y i) (many_spelled schema d.ty k s b h))

    fits_variable : (v : List ℕ) → kept_variable m ≡ Some v → fits_kept m.result (names_of_params m.params) (without_last m.body) (Some v) ≡ true
    fits_variable v q =
        let kept = is_kept m v q in
        let b = back m copy sound v kept in
        let k = copy.fine.result b.result b.is in
        let same : type_spelled schema kept.declared.ty ≡ Some k.value = ends_same kept.declared b.type b.depth (kept_in ms (call_of kept.declared.value)) (may_call ms v m.body kept.declared sound kept.there) refl b.ends ∙ sym b.same ∙ k.is in
        let mark : is_set_type kept.declared.ty ≡ is_set_type b.result = set_spelled schema kept.declared.ty k.value same ∙ sym (set_spelled schema b.result k.value k.is) in
        ap (λ o. fits_kept o (names_of_params m.params) (without_last m.body) (Some v)) b.is
        ∙ both (not (is_among (names_of_params m.params) v)) (not (is_scalar_type b.result) && ends_declared (is_set_type b.result) v (without_last m.body))
        (ap not (no_parameter schema read m.result m.params copy.made.block in_body v b.type b.there copy.fine.body))
        (both (not (is_scalar_type b.result)) (ends_declared (is_set_type b.result) v (without_last m.body))
        (ap not (many_result kept.declared b.result k.value kept.many (unboxed v m.body kept.declared plain_parts.1 kept.there) same k.is))
        (ends_so m.result v kept.declared (is_set_type b.result) mark copy.taken m.body copy.made (with_params schema [] m.params) (Var kept.at v) sound copy.is copy.fine.body kept.there kept.last))

    fits_by : (o : Option (List ℕ)) → kept_variable m ≡ o → fits_kept m.result (names_of_params m.params) (without_last m.body) o ≡ true
    fits_by None q = refl
    fits_by (Some v) q = fits_variable v q

    fits : is_fitting m ≡ true
    fits =
        both (are_apart (names_of_params m.params)) (list_all (λ (p : PlainParam). not (is_set_type p.ty)) m.params && fits_kept m.result (names_of_params m.params) (without_last m.body) (kept_variable m))
        (params_apart schema read m.result m.params [] m.span copy.fine.params)
        (both (list_all (λ (p : PlainParam). not (is_set_type p.ty)) m.params) (fits_kept m.result (names_of_params m.params) (without_last m.body) (kept_variable m)) plain_parts.0 (fits_by (kept_variable m) refl))

  all_fit : (rest : List PlainMethod) → AllByRecursion IsHere rest → AreGood ms rest → HavePlainTypes rest → AreFitting rest
  all_fit [] c g h = tt
  all_fit (m ∷ rest) c g h = (fits m c.0 g.0 h.0, all_fit rest c.1 g.1 h.1)

-- ---- Programs

fitting_within : (schema : Schema) (read : List ℕ → Option PlainQuery) (p q : PlainProgram) (e : ℕ) (o : Option AllMade) → HavePlainTypes p.methods → BreaksNone p → inlined_methods (expand_at e (names_of p) p.methods) 0 p.methods ≡ o
    → option_map (λ (all : AllMade). with_methods p all.methods) o ≡ Some q → IsWellTyped schema read q → AreFitting p.methods
fitting_within schema read p q e None plain none is h typed = absurd cc
fitting_within schema read p q e (Some all) plain none is h typed =
    let good = program_good p none in
    let well : faults_in_methods schema read [] all.methods ≡ [] = ap (λ (q : PlainProgram). faults_in_methods schema read [] q.methods) (some_is (with_methods p all.methods) q h) ∙ typed in
    let here = copied schema read (expand_at e (names_of p) p.methods) p.methods 0 all [] is well in
    all_fit schema read (names_of p) p.methods e good here p.methods here good plain

-- where the inlined program is well typed, the helpers fit
pub are_fitting : (schema : Schema) (read : List ℕ → Option PlainQuery) (p q : PlainProgram) → HavePlainTypes p.methods → BreaksNone p → IsInlined p q → IsWellTyped schema read q → AreFitting p.methods
are_fitting schema read p q plain none is typed = fitting_within schema read p q is.0 (inlined_methods (expand_at is.0 (names_of p) p.methods) 0 p.methods) plain none refl is.1 typed

pub kept : (schema : Schema) (read : List ℕ → Option PlainQuery) (p q : PlainProgram) → HavePlainTypes p.methods → BreaksNone p → IsInlined p q → IsWellTyped schema read q → KeepsCalls p q schema
kept schema read p q plain none is typed = inlined_keeps schema p q none (are_fitting schema read p q plain none is typed) is
