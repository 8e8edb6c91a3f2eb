-- In a well-typed program no visible set has rows: none is spelled so.
use Rattle.std.proofs.Common.{◌≡◌, ℕ, zero, suc, Bool, true, false, List, [], ◌∷◌, ◌++◌, Option, Some, None, sym, ap, subst, cond, bytes_eq, slice_get}
use Rattle.qbs_base.specs.declared.scalar.Ty.{Ty}
use Rattle.qbs_base.specs.declared.scalar.Ty.TheVariants as tys
use Rattle.qbs_base.specs.declared.span.Span.{Span}
use Rattle.qbs_base.specs.Values.{Schema}
use Rattle.qbs_base.specs.Columns.{table_number}
use Rattle.sql_ast.specs.Tree.{PlainQuery}
use Rattle.java_ast.specs.Tree as tree
use Rattle.java_ast.specs.Tree.{Spelled, Expression, Statement, Statements, Nothing, Then, PlainParam, PlainMethod, PlainProgram}
use Rattle.java_mean.specs.declared.types.JavaType.{JavaType}
use Rattle.java_mean.specs.declared.types.JavaType.TheVariants.{Of, Listed, Distinct}
use Rattle.java_mean.specs.declared.types.Single.{Single}
use Rattle.java_mean.specs.declared.types.Single.TheVariants.{ScalarOf, RowOf}
use Rattle.java_mean.specs.Places as places
use Rattle.java_mean.specs.Places.{param, step, whole, in_expression, in_statements, in_params, in_method, in_branch, in_while, in_for_each, in_body, is_nothing}
use Rattle.java_mean.specs.Refines.{Hole, Here, Past, InIf, InThen, InElse, InEach, InWhile, followed_by, fill, types_at}
use Rattle.java_mean.specs.Rules.{type_of, at_of, is_many_kindred, is_set_of_rows, set_of_rows, given, unless_passes, unless_element, walked_element}
use Rattle.java_mean.specs.Types.{Types, with_type, type_spelled, single_spelled, row_type, made_of, types_of_params, types_after, types_past}
use Rattle.java_mean.specs.Visible.{Visible, is_visible, declared_in, after, with_params}
use Rattle.java_mean.specs.WellTyped.{IsWellTyped, faults_in, faults_in_methods}
use Rattle.java_mean.proofs.Bridge.{nth_seen}
use Rattle.java_mean.proofs.Faultless.{none_both, none_in, none_at, only_none}
use Rattle.java_loops.specs.Walks.Replacing.{run_and_loop}
use Rattle.loop_text.specs.Statements.Fragment.{Fragment}
use Rattle.java_loops.proofs.Listed.ListedSeen.{IsClean, AreClean, SeenAt, first_clean, seen_at, branch_clean, branches_clean, turn_clean}
use Rattle.java_loops.proofs.Placing.Place.{rest_of, followed_by-assoc}
use Rattle.java_loops.proofs.Placing.PlaceTyped.{FragmentThere}

-- ---- Spelled types

abbrev pub is_row_set : JavaType → Bool
is_row_set (Distinct (RowOf n)) = true
is_row_set _ = false

one_plain : (o : Option Single) (k : JavaType) → made_of Of o ≡ Some k → is_row_set k ≡ false
one_plain (Some a) k e = let same : Of a ≡ k = cc in ap is_row_set (sym same)
one_plain None k e = absurd cc

list_plain : (o : Option Single) (k : JavaType) → made_of Listed o ≡ Some k → is_row_set k ≡ false
list_plain (Some a) k e = let same : Listed a ≡ k = cc in ap is_row_set (sym same)
list_plain None k e = absurd cc

scalar_plain : (ty : Ty) (k : JavaType) → Some (Distinct (ScalarOf ty)) ≡ Some k → is_row_set k ≡ false
scalar_plain ty k e = let same : Distinct (ScalarOf ty) ≡ k = cc in ap is_row_set (sym same)

spelled_plain : (schema : Schema) (ty : Spelled) (k : JavaType) → is_set_of_rows ty ≡ false → type_spelled schema ty ≡ Some k → is_row_set k ≡ false
spelled_plain schema (tree.Table name) k r e = one_plain (row_type (table_number schema name)) k e
spelled_plain schema (tree.ListOf el) k r e = list_plain (single_spelled schema el) k e
spelled_plain schema (tree.SetOf (tree.Table name)) k r e = absurd cc
spelled_plain schema (tree.SetOf (tree.ListOf el)) k r e = absurd cc
spelled_plain schema (tree.SetOf (tree.SetOf el)) k r e = absurd cc
spelled_plain schema (tree.SetOf tree.Int) k r e = scalar_plain tys.Long k e
spelled_plain schema (tree.SetOf tree.Long) k r e = scalar_plain tys.Long k e
spelled_plain schema (tree.SetOf tree.Boolean) k r e = scalar_plain tys.Bool k e
spelled_plain schema (tree.SetOf tree.String) k r e = scalar_plain tys.Text k e
spelled_plain schema (tree.SetOf tree.BoxedInteger) k r e = scalar_plain tys.Long k e
spelled_plain schema (tree.SetOf tree.BoxedLong) k r e = scalar_plain tys.Long k e
spelled_plain schema (tree.SetOf tree.BoxedBoolean) k r e = scalar_plain tys.Bool k e
spelled_plain schema tree.Int k r e = one_plain (Some (ScalarOf tys.Long)) k e
spelled_plain schema tree.Long k r e = one_plain (Some (ScalarOf tys.Long)) k e
spelled_plain schema tree.Boolean k r e = one_plain (Some (ScalarOf tys.Bool)) k e
spelled_plain schema tree.String k r e = one_plain (Some (ScalarOf tys.Text)) k e
spelled_plain schema tree.BoxedInteger k r e = one_plain (Some (ScalarOf tys.Long)) k e
spelled_plain schema tree.BoxedLong k r e = one_plain (Some (ScalarOf tys.Long)) k e
spelled_plain schema tree.BoxedBoolean k r e = one_plain (Some (ScalarOf tys.Bool)) k e

-- ---- Visible names

-- no visible set has rows
pub record ScalarSets (g : Types) : Type 0 where
  pub by : (x : List ℕ) (k : JavaType) → g x ≡ Some k → is_row_set k ≡ false

by_either : (q : Bool) (o p : Option JavaType) (k : JavaType) → (o ≡ Some k → is_row_set k ≡ false) → (p ≡ Some k → is_row_set k ≡ false) → cond q o p ≡ Some k → is_row_set k ≡ false
by_either true o p k f g h = f h
by_either false o p k f g h = g h

declared_sets : (schema : Schema) (g : Types) (y : List ℕ) (ty : Spelled) → is_set_of_rows ty ≡ false → ScalarSets g → ScalarSets (with_type y (type_spelled schema ty) g)
declared_sets schema g y ty plain s = record { by = λ x k e. by_either (bytes_eq y x) (type_spelled schema ty) (g x) k (λ h. spelled_plain schema ty k plain h) (λ h. s.by x k h) e }

module _ (schema : Schema) (read : List ℕ → Option PlainQuery) (r : Option Spelled) where
  sets_after : (vs : Visible) (g : Types) (w : places.Around) (last : Bool) (a : Statement) → IsClean schema read r vs w last a → ScalarSets g → ScalarSets (types_after schema g a)
  sets_after vs g w last (tree.Declare at ty x e) h s =
      let n = none_at schema read r (step vs w last (tree.Declare at ty x e)) (in_expression vs e) h in
      let m = none_both (set_of_rows ty at) (given schema vs (type_spelled schema ty) e) n.left.matched in
      declared_sets schema g x ty (only_none (is_set_of_rows ty) at m.left) s
  sets_after vs g w last (tree.Assign at x e) h s = s
  sets_after vs g w last (tree.Add at x e) h s = s
  sets_after vs g w last (tree.Sort at x keys down) h s = s
  sets_after vs g w last (tree.If at c p) h s = s
  sets_after vs g w last (tree.IfElse at c p q) h s = s
  sets_after vs g w last (tree.ForEach at ty x e p) h s = s
  sets_after vs g w last (tree.While at c p) h s = s
  sets_after vs g w last (tree.Print at e) h s = s
  sets_after vs g w last (tree.Return at e) h s = s
  sets_after vs g w last (tree.Break at) h s = s

  sets_past : (p q : Statements) (vs : Visible) (g : Types) (w : places.Around) → AreClean schema read r vs w (followed_by p q) → ScalarSets g → ScalarSets (types_past schema g p)
  sets_past Nothing q vs g w h s = s
  sets_past (Then a p) q vs g w h s =
      let two = first_clean schema read r vs w a (followed_by p q) h in
      sets_past p q (after schema vs a) (types_after schema g a) w two.1 (sets_after vs g w (is_nothing (followed_by p q)) a two.0 s)

  -- in a for-each
  sets_walked : (vs : Visible) (g : Types) (w : places.Around) (last : Bool) (at : Span) (ty : Spelled) (x : List ℕ) (e : Expression) (p : Statements) → IsClean schema read r vs w last (tree.ForEach at ty x e p) → ScalarSets g → ScalarSets (with_type x (type_spelled schema ty) g) × AreClean schema read r (declared_in vs x (type_spelled schema ty)) (in_for_each e w) p
  sets_walked vs g w last at ty x e p h s =
      let n = none_at schema read r (step vs w last (tree.ForEach at ty x e p)) (in_expression vs e ++ in_statements schema (declared_in vs x (type_spelled schema ty)) (in_for_each e w) p) h in
      let two = none_in schema read r (in_expression vs e) (in_statements schema (declared_in vs x (type_spelled schema ty)) (in_for_each e w) p) n.right in
      let m = none_both (set_of_rows ty at) (unless_passes is_many_kindred (type_of schema vs e) (at_of e) ++ unless_element (walked_element (type_of schema vs e)) (type_spelled schema ty) (at_of e)) n.left.matched in
      (declared_sets schema g x ty (only_none (is_set_of_rows ty) at m.left) s, two.right)

  sets_at : (hole : Hole) (p : Statements) (vs : Visible) (g : Types) (w : places.Around) → AreClean schema read r vs w (fill hole p) → ScalarSets g → ScalarSets (types_at schema g hole)
  sets_at (Here q) p vs g w h s = s
  sets_at (Past a k) p vs g w h s =
      let two = first_clean schema read r vs w a (fill k p) h in
      sets_at k p (after schema vs a) (types_after schema g a) w two.1 (sets_after vs g w (is_nothing (fill k p)) a two.0 s)
  sets_at (InIf at e k q) p vs g w h s =
      let two = first_clean schema read r vs w (tree.If at e (fill k p)) q h in
      sets_at k p vs g (in_branch w) (branch_clean schema read r vs w (is_nothing q) at e (fill k p) two.0) s
  sets_at (InThen at e k b q) p vs g w h s =
      let two = first_clean schema read r vs w (tree.IfElse at e (fill k p) b) q h in
      sets_at k p vs g (in_branch w) (branches_clean schema read r vs w (is_nothing q) at e (fill k p) b two.0).0 s
  sets_at (InElse at e b k q) p vs g w h s =
      let two = first_clean schema read r vs w (tree.IfElse at e b (fill k p)) q h in
      sets_at k p vs g (in_branch w) (branches_clean schema read r vs w (is_nothing q) at e b (fill k p) two.0).1 s
  sets_at (InEach at ty x e k q) p vs g w h s =
      let two = first_clean schema read r vs w (tree.ForEach at ty x e (fill k p)) q h in
      let n = sets_walked vs g w (is_nothing q) at ty x e (fill k p) two.0 s in
      sets_at k p (declared_in vs x (type_spelled schema ty)) (with_type x (type_spelled schema ty) g) (in_for_each e w) n.1 n.0
  sets_at (InWhile at e k q) p vs g w h s =
      let two = first_clean schema read r vs w (tree.While at e (fill k p)) q h in
      sets_at k p vs g (in_while w) (turn_clean schema read r vs w (is_nothing q) at e (fill k p) two.0) s

  sets_of_params : (vs : Visible) (at : Span) (ps : List PlainParam) → faults_in schema read r (in_params schema vs at ps) ≡ [] → ScalarSets (types_of_params schema ps)
  sets_of_params vs at [] h = record { by = λ x k e. absurd cc }
  sets_of_params vs at (p ∷ ps) h =
      let n = none_at schema read r (param vs at p) (in_params schema (declared_in vs p.name (type_spelled schema p.ty)) at ps) h in
      declared_sets schema (types_of_params schema ps) p.name p.ty (only_none (is_set_of_rows p.ty) at n.left.matched) (sets_of_params (declared_in vs p.name (type_spelled schema p.ty)) at ps n.right)

-- ---- In a program

some_method : (a b : PlainMethod) → Some a ≡ Some b → a ≡ b
some_method a b e = cc

method_sets : (schema : Schema) (read : List ℕ → Option PlainQuery) (double : Bool) (m : PlainMethod) → faults_in schema read m.result (whole double m ∷ in_method schema m) ≡ [] → ScalarSets (types_of_params schema m.params)
method_sets schema read double m h =
    let n = none_at schema read m.result (whole double m) (in_method schema m) h in
    let two = none_in schema read m.result (in_params schema [] m.span m.params) (in_statements schema (with_params schema [] m.params) in_body m.body) n.right in
    sets_of_params schema read m.result [] m.span m.params two.left

nth_sets : (schema : Schema) (read : List ℕ → Option PlainQuery) (ms : List PlainMethod) (names : Visible) (n : ℕ) (m : PlainMethod) → faults_in_methods schema read names ms ≡ [] → slice_get ms n ≡ Some m → ScalarSets (types_of_params schema m.params)
nth_sets schema read [] names n m h e = absurd cc
nth_sets schema read (k ∷ ms) names zero m h e =
    let two = none_both (faults_in schema read k.result (whole (is_visible names k.name) k ∷ in_method schema k)) (faults_in_methods schema read (declared_in names k.name None) ms) h in
    subst (λ (z : PlainMethod). ScalarSets (types_of_params schema z.params)) (some_method k m e) (method_sets schema read (is_visible names k.name) k two.left)
nth_sets schema read (k ∷ ms) names (suc n) m h e =
    let two = none_both (faults_in schema read k.result (whole (is_visible names k.name) k ∷ in_method schema k)) (faults_in_methods schema read (declared_in names k.name None) ms) h in
    nth_sets schema read ms (declared_in names k.name None) n m two.right e

-- No set that is visible at the loop of a fragment has rows.
pub fragment_sets : (schema : Schema) (read : List ℕ → Option PlainQuery) (p : PlainProgram) (path : List ℕ) (f : Fragment) (g : Types) → IsWellTyped schema read p → FragmentThere schema read p path f g → ScalarSets g
fragment_sets schema read p path f g t k =
    let m : PlainMethod = k.place.method in
    let hole : Hole = k.place.placed.hole in
    let start : Types = types_of_params schema m.params in
    let vs : Visible = with_params schema [] m.params in
    let seen = nth_seen schema read p.methods [] k.place.number m t k.place.found in
    let clean : AreClean schema read m.result vs in_body (fill hole (run_and_loop f.run f.loop)) = subst (AreClean schema read m.result vs in_body) k.place.placed.is seen.body in
    let before : ScalarSets (types_at schema start hole) = sets_at schema read m.result hole (run_and_loop f.run f.loop) vs start in_body clean (nth_sets schema read p.methods [] k.place.number m t k.place.found) in
    let there : SeenAt schema read m.result (types_at schema start hole) (followed_by f.run (Then f.loop (rest_of hole))) = subst (SeenAt schema read m.result (types_at schema start hole)) (followed_by-assoc f.run (Then f.loop Nothing) (rest_of hole)) (seen_at schema read m.result hole (run_and_loop f.run f.loop) vs start in_body seen.params clean) in
    subst ScalarSets (sym k.is) (sets_past schema read m.result f.run (Then f.loop (rest_of hole)) there.visible (types_at schema start hole) there.around there.clean before)
