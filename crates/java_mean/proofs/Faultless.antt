-- What it says that a place has no fault, and that types and variables are known there.
use Rattle.std.proofs.Common.{◌≡◌, ℕ, Bool, true, false, not, List, [], ◌∷◌, ◌++◌, Option, Some, None, refl, sym, ap, ◌∙◌, subst, cond, append_assoc, arith}
use Rattle.std.specs.Prelude.{◌&&◌, ◌||◌, bytes_eq, nat_eq}
use Rattle.std.proofs.lemmas.Bool.Decides.{nat_tests}
use Rattle.qbs_base.specs.declared.span.Span.{Span}
use Rattle.qbs_base.specs.declared.scalar.Ty.{Ty}
use Rattle.qbs_base.specs.declared.scalar.Ty.TheVariants as tys
use Rattle.qbs_base.specs.Values.{Schema}
use Rattle.qbs_base.specs.Columns.{same_ty}
use Rattle.sql_ast.specs.Tree.{PlainQuery}
use Rattle.java_ast.specs.Tree.{Spelled, PlainParam}
use Rattle.java_mean.specs.declared.rule.TypeRule.{TypeRule}
use Rattle.java_mean.specs.declared.rule.TypeFault.{TypeFault}
use Rattle.java_mean.specs.Places.{Place, param, in_params}
use Rattle.java_mean.specs.Rules as broken
use Rattle.java_mean.specs.Rules.{only_if, is_none, same_single, same_type, taken}
use Rattle.java_mean.specs.Types.{Single, ScalarOf, RowOf, JavaType, Of, Listed, Distinct, Types, with_type, type_spelled, types_of_params}
use Rattle.java_mean.specs.Visible.{Visible, is_visible, type_at, declared_in, with_params}
use Rattle.java_mean.specs.WellTyped.{marked, faults_at, faults_in}
use Rattle.java_mean.proofs.Puts.{names_equal, name_same}

-- ---- No fault

pub record Both (A B : Type 0) : Type 0 where
  pub left : A
  pub right : B

pub none_both : {A : Type 0} (xs ys : List A) → xs ++ ys ≡ [] → Both (xs ≡ []) (ys ≡ [])
none_both [] ys p = record { left = refl; right = p }
none_both (x ∷ xs) ys p = absurd cc

none_marked : (rule : TypeRule) (xs : List Span) → marked rule xs ≡ [] → xs ≡ []
none_marked rule [] p = refl
none_marked rule (x ∷ xs) p = absurd cc

-- the rules, each of which gives nothing at a place
pub record IsFine (schema : Schema) (read : List ℕ → Option PlainQuery) (r : Option Spelled) (p : Place) : Type 0 where
  pub known : broken.unknown schema p ≡ []
  pub matched : broken.mismatch schema read r p ≡ []
  pub single : broken.double_name p ≡ []
  pub no_identity : broken.text_identity schema p ≡ []
  pub queried : broken.bad_query schema read p ≡ []
  pub counted : broken.arity read p ≡ []
  pub in_loop : broken.break_place p ≡ []

pub fine : (schema : Schema) (read : List ℕ → Option PlainQuery) (r : Option Spelled) (p : Place) → faults_at schema read r p ≡ [] → IsFine schema read r p
fine schema read r p h =
    let a = none_both (marked _ (broken.unknown schema p)) _ h in
    let b = none_both (marked _ (broken.mismatch schema read r p)) _ a.right in
    let c = none_both (marked _ (broken.double_name p)) _ b.right in
    let d = none_both (marked _ (broken.text_identity schema p)) _ c.right in
    let e = none_both (marked _ (broken.list_alias schema p)) _ d.right in
    let f = none_both (marked _ (broken.modified_in_loop p)) _ e.right in
    let g = none_both (marked _ (broken.bad_query schema read p)) _ f.right in
    let i = none_both (marked _ (broken.unordered_query read p)) _ g.right in
    let j = none_both (marked _ (broken.return_place p)) _ i.right in
    let k = none_both (marked _ (broken.arity read p)) _ j.right in
    record {
      known = none_marked _ _ a.left;
      matched = none_marked _ _ b.left;
      single = none_marked _ _ c.left;
      no_identity = none_marked _ _ d.left;
      queried = none_marked _ _ g.left;
      counted = none_marked _ _ k.left;
      in_loop = none_marked _ _ k.right;
    }

pub faults_in-append : (schema : Schema) (read : List ℕ → Option PlainQuery) (r : Option Spelled) (ps qs : List Place) → faults_in schema read r (ps ++ qs) ≡ faults_in schema read r ps ++ faults_in schema read r qs
faults_in-append schema read r [] qs = refl
faults_in-append schema read r (p ∷ ps) qs = ap (λ (l : List TypeFault). faults_at schema read r p ++ l) (faults_in-append schema read r ps qs) ∙ sym (append_assoc (faults_at schema read r p) (faults_in schema read r ps) (faults_in schema read r qs))

pub none_in : (schema : Schema) (read : List ℕ → Option PlainQuery) (r : Option Spelled) (ps qs : List Place) → faults_in schema read r (ps ++ qs) ≡ [] → Both (faults_in schema read r ps ≡ []) (faults_in schema read r qs ≡ [])
none_in schema read r ps qs h = none_both (faults_in schema read r ps) (faults_in schema read r qs) (sym (faults_in-append schema read r ps qs) ∙ h)

-- a place, and what comes after it
pub none_at : (schema : Schema) (read : List ℕ → Option PlainQuery) (r : Option Spelled) (p : Place) (ps : List Place) → faults_in schema read r (p ∷ ps) ≡ [] → Both (IsFine schema read r p) (faults_in schema read r ps ≡ [])
none_at schema read r p ps h =
    let two = none_both (faults_at schema read r p) (faults_in schema read r ps) h in
    record { left = fine schema read r p two.left; right = two.right }

pub only_none : (b : Bool) (at : Span) → only_if b at ≡ [] → b ≡ false
only_none true at p = absurd cc
only_none false at p = refl

pub not_false : (b : Bool) → not b ≡ false → b ≡ true
not_false true p = refl
not_false false p = absurd cc

pub not_none : (b : Bool) (at : Span) → only_if (not b) at ≡ [] → b ≡ true
not_none b at p = not_false b (only_none (not b) at p)

pub both_true : (a b : Bool) → (a && b) ≡ true → Both (a ≡ true) (b ≡ true)
both_true true b p = record { left = refl; right = p }
both_true false b p = absurd cc

pub neither : (a b : Bool) → (a || b) ≡ false → Both (a ≡ false) (b ≡ false)
neither true b p = absurd cc
neither false b p = record { left = refl; right = p }

-- ---- What is known

pub record Got {A : Type 0} (o : Option A) : Type 0 where
  pub value : A
  pub is : o ≡ Some value

pub got : {A : Type 0} (o : Option A) → is_none o ≡ false → Got o
got None p = absurd cc
got (Some x) p = record { value = x; is = refl }

pub got_some : {A : Type 0} (o : Option A) (at : Span) → only_if (is_none o) at ≡ [] → Got o
got_some o at p = got o (only_none (is_none o) at p)

-- ---- Equal types

pub same_ty_is : (a b : Ty) → same_ty a b ≡ true → a ≡ b
same_ty_is tys.Long tys.Long p = refl
same_ty_is tys.Bool tys.Bool p = refl
same_ty_is tys.Text tys.Text p = refl
same_ty_is _ _ p = absurd cc

same_number : (m n : ℕ) → nat_eq m n ≡ true → m ≡ n
same_number m n p = grind (arith, nat_tests)

pub same_single_is : (a b : Single) → same_single a b ≡ true → a ≡ b
same_single_is (ScalarOf a) (ScalarOf b) p = ap ScalarOf (same_ty_is a b p)
same_single_is (RowOf m) (RowOf n) p = ap RowOf (same_number m n p)
same_single_is _ _ p = absurd cc

pub same_type_is : (j k : JavaType) → same_type j k ≡ true → j ≡ k
same_type_is (Of a) (Of b) p = ap Of (same_single_is a b p)
same_type_is (Listed a) (Listed b) p = ap Listed (same_single_is a b p)
same_type_is (Distinct a) (Distinct b) p = ap Distinct (same_single_is a b p)
same_type_is _ _ p = absurd cc

-- ---- Variables

name_back : (x y : List ℕ) → bytes_eq x y ≡ true → bytes_eq y x ≡ true
name_back x y p = ap (bytes_eq y) (names_equal x y p) ∙ name_same y

bool_same : (a b : Bool) → (a ≡ true → b ≡ true) → (b ≡ true → a ≡ true) → a ≡ b
bool_same true b f g = sym (f refl)
bool_same false true f g = g refl
bool_same false false f g = refl

names_back : (x y : List ℕ) → bytes_eq x y ≡ bytes_eq y x
names_back x y = bool_same (bytes_eq x y) (bytes_eq y x) (name_back x y) (name_back y x)

absent_by : (b v : Bool) (o t : Option JavaType) → (v ≡ false → t ≡ None) → cond b true v ≡ false → cond b o t ≡ None
absent_by true v o t f p = absurd cc
absent_by false v o t f p = f p

pub absent : (vs : Visible) (x : List ℕ) → is_visible vs x ≡ false → type_at vs x ≡ None
absent [] x p = refl
absent (v ∷ vs) x p = absent_by (bytes_eq x v.0) (is_visible vs x) v.1 (type_at vs x) (absent vs x) p

end_by : (b v : Bool) (o t s u : Option JavaType) → s ≡ cond v t u → cond b o s ≡ cond (cond b true v) (cond b o t) u
end_by true v o t s u p = refl
end_by false v o t s u p = p

type_at_end : (vs : Visible) (x y : List ℕ) (o : Option JavaType) → type_at (vs ++ (x, o) ∷ []) y ≡ cond (is_visible vs y) (type_at vs y) (cond (bytes_eq y x) o None)
type_at_end [] x y o = refl
type_at_end (v ∷ vs) x y o = end_by (bytes_eq y v.0) (is_visible vs y) v.1 (type_at vs y) (type_at (vs ++ (x, o) ∷ []) y) (cond (bytes_eq y x) o None) (type_at_end vs x y o)

seen_by : (b v s u : Bool) → s ≡ (v || u) → cond b true s ≡ (cond b true v || u)
seen_by true v s u p = refl
seen_by false v s u p = p

cond_self : (b : Bool) → cond b true false ≡ b
cond_self true = refl
cond_self false = refl

visible_at_end : (vs : Visible) (x y : List ℕ) (o : Option JavaType) → is_visible (vs ++ (x, o) ∷ []) y ≡ (is_visible vs y || bytes_eq y x)
visible_at_end [] x y o = cond_self (bytes_eq y x)
visible_at_end (v ∷ vs) x y o = seen_by (bytes_eq y v.0) (is_visible vs y) (is_visible (vs ++ (x, o) ∷ []) y) (bytes_eq y x) (visible_at_end vs x y o)

-- a new name stands at the end
pub declared_new : (vs : Visible) (x : List ℕ) (o : Option JavaType) → is_visible vs x ≡ false → declared_in vs x o ≡ vs ++ (x, o) ∷ []
declared_new vs x o p = ap (λ (b : Bool). cond b vs (vs ++ (x, o) ∷ [])) p

pub new_type : (vs : Visible) (x y : List ℕ) (o : Option JavaType) → is_visible vs x ≡ false → type_at (declared_in vs x o) y ≡ cond (is_visible vs y) (type_at vs y) (cond (bytes_eq x y) o None)
new_type vs x y o p = ap (λ (ws : Visible). type_at ws y) (declared_new vs x o p) ∙ type_at_end vs x y o ∙ ap (λ (b : Bool). cond (is_visible vs y) (type_at vs y) (cond b o None)) (names_back y x)

pub new_visible : (vs : Visible) (x y : List ℕ) (o : Option JavaType) → is_visible vs x ≡ false → is_visible (declared_in vs x o) y ≡ (is_visible vs y || bytes_eq x y)
new_visible vs x y o p = ap (λ (ws : Visible). is_visible ws y) (declared_new vs x o p) ∙ visible_at_end vs x y o ∙ ap (λ (b : Bool). is_visible vs y || b) (names_back y x)

-- What is visible has types, and these.
pub record Sees (vs : Visible) (g : Types) : Type 0 where
  pub same : (x : List ℕ) → type_at vs x ≡ g x
  pub known : (x : List ℕ) → is_visible vs x ≡ true → Got (type_at vs x)

pub seen : (vs : Visible) (g : Types) (x : List ℕ) → Sees vs g → is_visible vs x ≡ true → Got (g x)
seen vs g x s p = let t = s.known x p in record { value = t.value; is = sym (s.same x) ∙ t.is }

pub unseen : (vs : Visible) (g : Types) (x : List ℕ) → Sees vs g → is_visible vs x ≡ false → g x ≡ None
unseen vs g x s p = sym (s.same x) ∙ absent vs x p

-- the name that is new is not one that is visible
new_is_other : (vs : Visible) (x y : List ℕ) → is_visible vs x ≡ false → is_visible vs y ≡ true → bytes_eq x y ≡ true → ⊥
new_is_other vs x y p q e = let same : is_visible vs x ≡ is_visible vs y = ap (is_visible vs) (names_equal x y e) in absurd cc

same_after : (vs : Visible) (g : Types) (x y : List ℕ) (o : Option JavaType) → Sees vs g → is_visible vs x ≡ false → (v b : Bool) → is_visible vs y ≡ v → bytes_eq x y ≡ b → cond v (type_at vs y) (cond b o None) ≡ cond b o (g y)
same_after vs g x y o s p true true q r = absurd (new_is_other vs x y p q r)
same_after vs g x y o s p true false q r = s.same y
same_after vs g x y o s p false true q r = refl
same_after vs g x y o s p false false q r = sym (unseen vs g y s q)

known_after : (vs : Visible) (g : Types) (x y : List ℕ) (o : Option JavaType) (k : JavaType) → Sees vs g → is_visible vs x ≡ false → o ≡ Some k → (v b : Bool) → is_visible vs y ≡ v → bytes_eq x y ≡ b → (v || b) ≡ true → Got (cond v (type_at vs y) (cond b o None))
known_after vs g x y o k s p e true b q r h = s.known y q
known_after vs g x y o k s p e false true q r h = record { value = k; is = e }
known_after vs g x y o k s p e false false q r h = absurd cc

pub sees_declared : (vs : Visible) (g : Types) (x : List ℕ) (o : Option JavaType) (k : JavaType) → Sees vs g → is_visible vs x ≡ false → o ≡ Some k → Sees (declared_in vs x o) (with_type x o g)
sees_declared vs g x o k s p e =
    record {
      same = λ y. new_type vs x y o p ∙ same_after vs g x y o s p (is_visible vs y) (bytes_eq x y) refl refl;
      known = λ y h. subst Got (sym (new_type vs x y o p)) (known_after vs g x y o k s p e (is_visible vs y) (bytes_eq x y) refl refl (sym (new_visible vs x y o p) ∙ h));
    }

-- ---- Parameters

-- what is visible has the types of the first, and the rest those of the second
abbrev over : Visible → Types → Types → Types
over vs g h = λ y. cond (is_visible vs y) (g y) (h y)

over_by : (vs : Visible) (g : Types) (x y : List ℕ) (o t : Option JavaType) → is_visible vs x ≡ false → (v b : Bool) → is_visible vs y ≡ v → bytes_eq x y ≡ b → cond (v || b) (cond b o (g y)) t ≡ cond v (g y) (cond b o t)
over_by vs g x y o t p true true q r = absurd (new_is_other vs x y p q r)
over_by vs g x y o t p true false q r = refl
over_by vs g x y o t p false true q r = refl
over_by vs g x y o t p false false q r = refl

sees_more : (schema : Schema) (vs : Visible) (g : Types) (p : PlainParam) (ps : List PlainParam) (ws : Visible) → is_visible vs p.name ≡ false → Sees ws (over (declared_in vs p.name (type_spelled schema p.ty)) (with_type p.name (type_spelled schema p.ty) g) (types_of_params schema ps)) → Sees ws (over vs g (types_of_params schema (p ∷ ps)))
sees_more schema vs g p ps ws n s =
    record {
      same = λ y. s.same y ∙ ap (λ (b : Bool). cond b (with_type p.name (type_spelled schema p.ty) g y) (types_of_params schema ps y)) (new_visible vs p.name y (type_spelled schema p.ty) n) ∙ over_by vs g p.name y (type_spelled schema p.ty) (types_of_params schema ps y) n (is_visible vs y) (bytes_eq p.name y) refl refl;
      known = s.known;
    }

over_nothing : (vs : Visible) (g : Types) (y : List ℕ) → Sees vs g → (v : Bool) → is_visible vs y ≡ v → g y ≡ cond v (g y) None
over_nothing vs g y s true q = refl
over_nothing vs g y s false q = unseen vs g y s q

pub sees_params : (schema : Schema) (read : List ℕ → Option PlainQuery) (r : Option Spelled) (vs : Visible) (g : Types) (at : Span) (ps : List PlainParam) → Sees vs g → faults_in schema read r (in_params schema vs at ps) ≡ [] → Sees (with_params schema vs ps) (over vs g (types_of_params schema ps))
sees_params schema read r vs g at [] s h = record { same = λ y. s.same y ∙ over_nothing vs g y s (is_visible vs y) refl; known = s.known }
sees_params schema read r vs g at (p ∷ ps) s h =
    let n = none_at schema read r (param vs at p) (in_params schema (declared_in vs p.name (type_spelled schema p.ty)) at ps) h in
    let k = got_some (type_spelled schema p.ty) at n.left.known in
    let new = neither (is_visible vs p.name) _ (only_none (taken vs p.name) at n.left.single) in
    sees_more schema vs g p ps (with_params schema vs (p ∷ ps)) new.left (sees_params schema read r (declared_in vs p.name (type_spelled schema p.ty)) (with_type p.name (type_spelled schema p.ty) g) at ps (sees_declared vs g p.name (type_spelled schema p.ty) k.value s new.left k.is) n.right)
