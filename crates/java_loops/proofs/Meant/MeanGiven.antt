-- The entry of a lowered fragment at its loop: the values of its entries and its known lists, by number.
use Rattle.std.proofs.Common.{◌≡◌, ℕ, zero, suc, Bool, true, false, List, [], ◌∷◌, length, Option, Some, None, Ok, refl, sym, ap, ◌∙◌, subst, cond}
use Rattle.std.specs.Prelude.{map, bytes_eq, slice_get, get_or}
use Rattle.std.specs.List.{AllByRecursion, list_any}
use Rattle.std.specs.Option.{option_map}
use Rattle.std.proofs.lemmas.Option.{slice_get-map}
use Rattle.qbs_base.specs.declared.scalar.Row.{Row}
use Rattle.qbs_base.specs.declared.scalar.Scalar.{Scalar}
use Rattle.qbs_base.specs.declared.scalar.Ty.{Ty}
use Rattle.qbs_base.specs.declared.scalar.Value.{Value}
use Rattle.qbs_base.specs.declared.scalar.Value.TheVariants.{One, Many}
use Rattle.qbs_base.specs.Named.{at_name}
use Rattle.qbs_base.specs.Values.{Schema, HasTy, AreOf}
use Rattle.java_ast.specs.Tree.{Expression}
use Rattle.java_mean.specs.declared.types.JavaType.{JavaType}
use Rattle.java_mean.specs.declared.types.Single.TheVariants.{ScalarOf}
use Rattle.java_mean.specs.Expression.{value_of, alone}
use Rattle.java_mean.specs.Statement.{State}
use Rattle.java_mean.specs.Store.{Store, Variable}
use Rattle.java_mean.specs.Types.{IsOf, IsVariableOf, IsTyped}
use Rattle.java_mean.specs.World.{World}
use Rattle.java_mean.proofs.Puts.{names_equal}
use Rattle.kernel_lang.specs.declared.parts.Entry.{Entry}
use Rattle.java_loops.specs.Walks.Matched.{entry_value, HoldsScalar, HoldsScalars}
use Rattle.java_loops.specs.Lowering.Lowered.{type_of_entry}
use Rattle.java_loops.specs.Meant.Members.{AreMatched}
use Rattle.java_loops.specs.Meant.Means.{HasScalar, HasScalars}
use Rattle.java_ast.specs.Names.{Names}
use Rattle.java_loops.specs.Lowering.Numbering.{number_where, same_entry, entries_of, known_of}
use Rattle.java_loops.specs.Kernel.Setting.{Setting}
use Rattle.java_loops.proofs.Known.KnownAnswers.{many_of, scalars_are, HoldsKnown}
use Rattle.java_loops.proofs.Known.KnownGiven.{same_value, IsGivenKnown, AreGiven}
use Rattle.java_loops.proofs.Numbers.NumberLists.{found_where, Numbered, numbered}
use Rattle.java_loops.proofs.Numbers.Numberings.{entry_named, type_of_members}

-- ---- Numbers that are found

found_step : {A : Type 0} (test : A → Bool) (xs : List A) (n : ℕ) (b : Bool) → list_any test xs ≡ b → cond b (Some (number_where test xs)) None ≡ Some n → (list_any test xs ≡ true) × (number_where test xs ≡ n)
found_step test xs n true e h = (e, cc)
found_step test xs n false e h = absurd cc

-- a number that is found is that of a member that passes
pub record Found {A : Type 0} (test : A → Bool) (xs : List A) (n : ℕ) : Type 0 where
  pub item : A
  pub there : slice_get xs n ≡ Some item
  pub passes : test item ≡ true

pub found_there : {A : Type 0} (test : A → Bool) (xs : List A) (n : ℕ) → found_where test xs ≡ Some n → Found test xs n
found_there test xs n h =
    let two = found_step test xs n (list_any test xs) refl h in
    let k : Numbered test xs = numbered test xs two.0 in
    record { item = k.item; there = ap (slice_get xs) (sym two.1) ∙ k.there; passes = k.passes }

-- what the mapped list has at a number
pub mapped_there : {A B : Type 0} (f : A → B) (xs : List A) (n : ℕ) (x : A) (y : B) → slice_get xs n ≡ Some x → slice_get (map f xs) n ≡ Some y → f x ≡ y
mapped_there f xs n x y e h = let k : Some (f x) ≡ Some y = sym (slice_get-map f xs n ∙ ap (option_map f) e) ∙ h in cc

-- ---- Entries

values_matched : (world : World) (s : Store) (f : Expression → Ty) (es : List Expression) (ys : List Scalar) → AreOf (map f es) ys → ((k : ℕ) (e : Expression) → slice_get es k ≡ Some e → (y : Scalar) × (slice_get ys k ≡ Some y) × (value_of e world s ≡ Ok (One y))) → AreMatched (HasScalar world s) es ys
values_matched world s f [] [] h each = tt
values_matched world s f [] (y ∷ ys) h each = absurd h
values_matched world s f (e ∷ es) [] h each = absurd h
values_matched world s f (e ∷ es) (y ∷ ys) h each =
    let k = each 0 e refl in
    let same : k.0 ≡ y = (let i : Some y ≡ Some k.0 = k.1 in cc) in
    (k.2 ∙ ap (λ z. Ok (One z)) same, values_matched world s f es ys h.1 (λ n d i. each (suc n) d i))

-- the values of the entries, one for each
pub entries_matched : (w : Setting) (world : World) (t : State) (g : AreGiven w world t) → AreMatched (HasScalar world t.store) (entries_of w) g.entries.values
entries_matched w world t g = values_matched world t.store (type_of_entry w.schema w.types) (entries_of w) g.entries.values g.entries.typed (λ k e i. let h = g.entries.each k e i in (h.0, h.1, h.2))

-- a variable or a field of one has the value that the expression has
named_value : (world : World) (s : Store) (x : List ℕ) (f : Option (List ℕ)) → entry_value world s x f ≡ value_of (entry_named x f) world s
named_value world s x None = refl
named_value world s x (Some f) = refl

-- an entry value by its number
pub entry_held : (w : Setting) (world : World) (t : State) (g : AreGiven w world t) (x : List ℕ) (f : Option (List ℕ)) (n : ℕ) (ty : Ty) → found_where (same_entry (entry_named x f)) (entries_of w) ≡ Some n → slice_get (map (type_of_entry w.schema w.types) (entries_of w)) n ≡ Some ty → HoldsScalar ty (slice_get g.entries.values n) (entry_value world t.store x f)
entry_held w world t g x f n ty h typed =
    let k : Found (same_entry (entry_named x f)) (entries_of w) n = found_there (same_entry (entry_named x f)) (entries_of w) n h in
    let v = g.entries.each n k.item k.there in
    let type : type_of_entry w.schema w.types k.item ≡ ty = mapped_there (type_of_entry w.schema w.types) (entries_of w) n k.item ty k.there typed in
    record {
      scalar = v.0;
      is = named_value world t.store x f ∙ same_value (entry_named x f) k.item world t.store k.passes ∙ v.2;
      at = v.1;
      typed = subst (λ z. HasTy z v.0) type v.3;
    }

-- ---- Known lists

-- the variable holds scalars of the type of its members
record KnownHeld (w : Setting) (t : State) (x : List ℕ) : Type 0 where
  scalars : List Scalar
  value : HasScalars t.store x scalars
  held : HoldsScalars (type_of_members (w.types x)) scalars (at_name t.store x)

-- a list or a set of rows that are scalars of this type
record ScalarsIn (ty : Ty) (v : Value) : Type 0 where
  scalars : List Scalar
  are : v ≡ Many (map alone scalars)
  typed : AllByRecursion (HasTy ty) scalars

scalars_in : (schema : Schema) (ty : Ty) (set : Bool) (v : Value) (rows : List Row) → v ≡ Many rows → IsOf schema (many_of set (ScalarOf ty)) (Many rows) → ScalarsIn ty v
scalars_in schema ty true v rows e h = let k = scalars_are schema ty rows h.0 in record { scalars = k.0; are = e ∙ ap (λ z. Many z) k.1; typed = k.2 }
scalars_in schema ty false v rows e h = let k = scalars_are schema ty rows h in record { scalars = k.0; are = e ∙ ap (λ z. Many z) k.1; typed = k.2 }

members_type : (o : Option JavaType) (set : Bool) (ty : Ty) → o ≡ Some (many_of set (ScalarOf ty)) → type_of_members o ≡ ty
members_type o true ty e = ap type_of_members e
members_type o false ty e = ap type_of_members e

same_held : (o : Option Variable) (a b : Variable) → o ≡ Some a → o ≡ Some b → a ≡ b
same_held o a b e h = cc

known_held : (w : Setting) (world : World) (t : State) (values : List Scalar) (x : List ℕ) → IsTyped w.schema w.types t.store → IsGivenKnown w world t values x → KnownHeld w t x
known_held w world t values x typed k =
    let h : HoldsKnown world k.list.asked x w.types t = k.holds in
    let v : (v : Variable) × (at_name t.store x ≡ Some v) × IsVariableOf w.schema (many_of h.set (ScalarOf h.ty)) v = typed.held x (many_of h.set (ScalarOf h.ty)) h.typed in
    let same : v.0 ≡ h.held = same_held (at_name t.store x) v.0 h.held v.1 h.left in
    let is : IsOf w.schema (many_of h.set (ScalarOf h.ty)) h.held.value = subst (λ (z : Variable). IsOf w.schema (many_of h.set (ScalarOf h.ty)) z.value) same v.2.value in
    let s : ScalarsIn h.ty h.held.value = scalars_in w.schema h.ty h.set h.held.value _ h.value (subst (IsOf w.schema (many_of h.set (ScalarOf h.ty))) h.value is) in
    record {
      scalars = s.scalars;
      value = record { held = h.held; there = h.left; is = s.are };
      held = record {
        rows = record { is_set = h.held.is_set; is = h.left ∙ ap (λ z. Some (record { value = z; is_set = h.held.is_set })) s.are };
        typed = subst (λ z. AllByRecursion (HasTy z) s.scalars) (sym (members_type (w.types x) h.set h.ty h.typed)) s.typed;
      };
    }

-- Known lists by number, one for each variable.
pub record HaveKnown (w : Setting) (t : State) (ids : Names) : Type 0 where
  pub lists : List (List Scalar)
  pub matched : AreMatched (HasScalars t.store) ids lists
  pub each : (k : ℕ) (x : List ℕ) → slice_get ids k ≡ Some x → HoldsScalars (type_of_members (w.types x)) (get_or lists k []) (at_name t.store x)
  pub count : length lists ≡ length ids

each_known : (w : Setting) (t : State) (x : List ℕ) (ids : Names) (h : KnownHeld w t x) (rest : HaveKnown w t ids) (k : ℕ) (y : List ℕ) → slice_get (x ∷ ids) k ≡ Some y → HoldsScalars (type_of_members (w.types y)) (get_or (h.scalars ∷ rest.lists) k []) (at_name t.store y)
each_known w t x ids h rest zero y e = let same : x ≡ y = cc in subst (λ z. HoldsScalars (type_of_members (w.types z)) h.scalars (at_name t.store z)) same h.held
each_known w t x ids h rest (suc k) y e = rest.each k y e

all_known : (w : Setting) (world : World) (t : State) (values : List Scalar) (ids : Names) → IsTyped w.schema w.types t.store → AllByRecursion (IsGivenKnown w world t values) ids → HaveKnown w t ids
all_known w world t values [] typed h = record { lists = []; matched = tt; each = λ k x e. absurd cc; count = refl }
all_known w world t values (x ∷ ids) typed h =
    let first : KnownHeld w t x = known_held w world t values x typed h.0 in
    let rest : HaveKnown w t ids = all_known w world t values ids typed h.1 in
    record { lists = first.scalars ∷ rest.lists; matched = (first.value, rest.matched); each = each_known w t x ids first rest; count = ap suc rest.count }

pub known_given : (w : Setting) (world : World) (t : State) → IsTyped w.schema w.types t.store → AreGiven w world t → HaveKnown w t (known_of w)
known_given w world t typed g = all_known w world t g.entries.values (known_of w) typed g.known

-- a known list by its number
pub known_at : (w : Setting) (t : State) (k : HaveKnown w t (known_of w)) (x : List ℕ) (n : ℕ) (ty : Ty) → found_where (bytes_eq x) (known_of w) ≡ Some n → slice_get (map (λ y. type_of_members (w.types y)) (known_of w)) n ≡ Some ty → HoldsScalars ty (get_or k.lists n []) (at_name t.store x)
known_at w t k x n ty h typed =
    let f : Found (bytes_eq x) (known_of w) n = found_there (bytes_eq x) (known_of w) n h in
    let type : type_of_members (w.types f.item) ≡ ty = mapped_there (λ y. type_of_members (w.types y)) (known_of w) n f.item ty f.there typed in
    let same : x ≡ f.item = names_equal x f.item f.passes in
    subst (λ z. HoldsScalars z (get_or k.lists n []) (at_name t.store x)) type (subst (λ z. HoldsScalars (type_of_members (w.types f.item)) (get_or k.lists n []) (at_name t.store z)) (sym same) (k.each n f.item f.there))

-- What the fragment is given where these entries have values and these variables hold known lists.
abbrev pub entry_given : (w : Setting) (world : World) (t : State) → AreGiven w world t → HaveKnown w t (known_of w) → Entry
entry_given w world t g k = record { values = g.entries.values; known = k.lists }
