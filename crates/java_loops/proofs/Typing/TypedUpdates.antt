-- The columns that the updates of a lowered fragment take are in the schema, sums and best values are of numbers, and each needed
-- variable has the type of what its update collects.
use Rattle.std.proofs.Common.{◌≡◌, ℕ, Bool, true, false, ◌&&◌, List, [], Option, Some, None, refl, sym, ap, ◌∙◌, subst, cond, slice_get}
use Rattle.std.specs.List.{AllByRecursion, flat_map, list_all}
use Rattle.std.proofs.lemmas.Option.{slice_get_within}
use Rattle.qbs_base.specs.declared.scalar.Scalar.{Scalar}
use Rattle.qbs_base.specs.declared.scalar.Scalar.TheVariants as scalars
use Rattle.qbs_base.specs.declared.scalar.Ty.{Ty}
use Rattle.qbs_base.specs.declared.scalar.Ty.TheVariants as tys
use Rattle.java_ast.specs.declared.tree.Op.{Op}
use Rattle.java_ast.specs.Tree as tree
use Rattle.java_ast.specs.Tree.{Expression, Statement}
use Rattle.java_mean.specs.declared.types.JavaType.{JavaType}
use Rattle.java_mean.specs.declared.types.JavaType.TheVariants.{Of, Listed, Distinct}
use Rattle.java_mean.specs.declared.types.Single.{Single}
use Rattle.java_mean.specs.declared.types.Single.TheVariants.{ScalarOf, RowOf}
use Rattle.java_mean.specs.Rules.{ty_of}
use Rattle.java_mean.specs.Types.{Types, made_of}
use Rattle.java_mean.specs.Typing as typing
use Rattle.java_mean.specs.Typing.{Frame, Has, HasType, Takes, TypedStatement, bool}
use Rattle.kernel_lang.specs.declared.parts.Update.{Update}
use Rattle.kernel_lang.specs.Fitting.{element_places}
use Rattle.kernel_lang.specs.Plain.{Accumulator}
use Rattle.kernel_lang.specs.Typed.{place_type, operand_type, is_type, update_is_typed, place_is_there}
use Rattle.kernel_lang.specs.Validity.{element_of}
use Rattle.tor_terms.specs.declared.term.Elem.{Elem}
use Rattle.loop_text.specs.Statements.Fragment.{needed_of}
use Rattle.java_loops.specs.Kernel.Kernel.{lowering}
use Rattle.loop_text.specs.Kernel.KernelForms.{Taken, whole, column, Form, adds, counts, sums, takes, marks, other, adds_taken, sums_column, takes_column, literal_form, sum_form, assigned_form, form_of}
use Rattle.java_loops.specs.Kernel.KernelForms.{is_distinct}
use Rattle.loop_text.specs.Kernel.KernelStarts.{Numbered, update_of, form_found, may_start}
use Rattle.java_loops.specs.Lowering.Collected.{row_of_list, scalar_in_column, element_type, collected_type}
use Rattle.java_loops.specs.Lowering.Lowered.{added, lists_of, update_with}
use Rattle.java_loops.specs.Lowering.Lowered as lowered
use Rattle.java_ast.specs.Names.{is_among}
use Rattle.java_loops.specs.Lowering.Numbering.{loop_number, table_of_loop, table_of_site, column_of, operand_of_column}
use Rattle.java_loops.specs.Kernel.Setting.{Setting}
use Rattle.loop_text.specs.Statements.Setting.{is_add, is_variable, is_literal_number, is_found}
use Rattle.loop_text.specs.Sites.Sites.{Site, Round, RowColumn, row_at, row_column_at, target_of}
use Rattle.java_loops.proofs.Chained.ChainTurned.{Updated}
use Rattle.java_loops.proofs.Formed.FormTyping.{literal_typed}
use Rattle.java_loops.proofs.Lowering.LowerStarts.{long}
use Rattle.java_loops.proofs.Standing.StandingRules.{get_same}
use Rattle.java_loops.proofs.Typing.TypedPlaces.{flat_passes, typed_place}
use Rattle.java_loops.proofs.Valid.ValidAccumulators.{Comes, needed, flagged, all_come}
use Rattle.java_loops.proofs.Valid.ValidColumns.{OfTable, list_at, column_typed}
use Rattle.java_loops.proofs.Valid.ValidCounts.{needed_started}
use Rattle.java_loops.proofs.Valid.ValidFlags.{FlagStands, flag_stands}
use Rattle.java_loops.proofs.Valid.ValidLoop.{Checked, site_visited}
use Rattle.java_loops.proofs.Valid.ValidOperands.{all_to_test}
use Rattle.java_loops.proofs.Valid.ValidScope.{Walked}
use Rattle.java_loops.proofs.Valid.ValidShapes.{RowSeen, row_seen, column_seen}
use Rattle.java_loops.proofs.Valid.ValidStarts.{Started}
use Rattle.java_loops.proofs.Valid.ValidTyped.{RowsWalked, table_first, table_nested}
use Rattle.java_loops.proofs.Valid.ValidUpdates.{update_is}
use Rattle.java_loops.proofs.Valid.ValidVisits.{all_weaker, Visited}

-- ---- Columns

-- the type of the place of a loop's column
abbrev place_of_column : Setting → RowColumn → Option Ty
place_of_column w q = place_type w.schema (lowering w).fragment (loop_number w.sites q.loop, column_of w q)

-- a column has its type, which is also that of the program
record ColumnTyped (w : Setting) (q : RowColumn) (k : JavaType) : Type 0 where
  type : Ty
  is : place_of_column w q ≡ Some type
  of : k ≡ Of (ScalarOf type)

same_scalar : (a b : Ty) → Of (ScalarOf a) ≡ Of (ScalarOf b) → a ≡ b
same_scalar a b e = cc

column_long : (w : Setting) (q : RowColumn) → ColumnTyped w q long → place_of_column w q ≡ Some tys.Long
column_long w q h = h.is ∙ ap Some (same_scalar h.type tys.Long (sym h.of))

-- ---- Forms

-- what is added is a member of what has this type
record MemberTyped (w : Setting) (k : JavaType) (t : Taken) : Type 0 where
  member : Single
  has : Has k member
  is : element_type w.schema (lowering w).fragment (lowered.element_of w t) ≡ Some member

-- The columns that a form takes are there: what is added is a member of the variable, what is counted and summed up is a number, what
-- is taken has the type of the variable, and flags are truth values.
abbrev FormTyped : Setting → JavaType → Form → Type 0
FormTyped w k (adds t) = MemberTyped w k t
FormTyped w k counts = k ≡ long
FormTyped w k (sums q) = (k ≡ long) × ColumnTyped w q long
FormTyped w k (takes q) = ColumnTyped w q k
FormTyped w k (marks b) = k ≡ bool
FormTyped w k other = Unit {0}

counts_or : (w : Setting) (k : JavaType) (b : Bool) (f : Form) → k ≡ long → FormTyped w k f → FormTyped w k (cond b counts f)
counts_or w k true f e h = e
counts_or w k false f e h = h

either_sum : (w : Setting) (k : JavaType) (a b : Bool) (f g : Form) → FormTyped w k f → FormTyped w k g → FormTyped w k (cond a f (cond b g other))
either_sum w k true b f g h i = h
either_sum w k false true f g h i = i
either_sum w k false false f g h i = tt

where_added : (w : Setting) (k : JavaType) (b : Bool) (f : Form) → (b ≡ true → FormTyped w k f) → FormTyped w k (cond b f other)
where_added w k true f h = h refl
where_added w k false f h = tt

literal_marks : (w : Setting) (k : JavaType) (x : Scalar) → k ≡ Of (ScalarOf (ty_of x)) → FormTyped w k (literal_form x)
literal_marks w k (scalars.Long n) h = tt
literal_marks w k (scalars.Bool b) h = h
literal_marks w k (scalars.Text t) h = tt

-- sums are of numbers
add_long : (op : Op) (from to : Ty) → Takes op from to → is_add op ≡ true → (from ≡ tys.Long) × (to ≡ tys.Long)
add_long _ _ _ typing.add_takes h = (refl, refl)
add_long _ _ _ typing.or_takes h = absurd cc
add_long _ _ _ typing.and_takes h = absurd cc
add_long _ _ _ typing.eq_longs h = absurd cc
add_long _ _ _ typing.eq_bools h = absurd cc
add_long _ _ _ typing.ne_longs h = absurd cc
add_long _ _ _ typing.ne_bools h = absurd cc
add_long _ _ _ typing.lt_takes h = absurd cc
add_long _ _ _ typing.le_takes h = absurd cc
add_long _ _ _ typing.gt_takes h = absurd cc
add_long _ _ _ typing.ge_takes h = absurd cc
add_long _ _ _ typing.sub_takes h = absurd cc
add_long _ _ _ typing.mul_takes h = absurd cc

module _ (w : Setting) (c : Frame) (is : Checked w c) (n : ℕ) (v : Visited (OfTable w) c w.types w.sites n) where
  column_here : (e : Expression) (k : JavaType) (q : RowColumn) → HasType c v.now e k → row_column_at w.sites n e ≡ Some q → ColumnTyped w q k
  column_here e k q t h =
      let s : RowSeen (OfTable w) c w.sites v.site.round q k = column_seen (OfTable w) c w.types w.sites n v e k q t h in
      record {
        type = s.column.ty;
        is = ap (λ o. operand_type w.schema (lowering w).fragment (operand_of_column w [] e o)) (sym h) ∙ column_typed w c is n v [] e s.column.ty (subst (HasType c v.now e) s.type t) (ap is_found h);
        of = s.type;
      }

  member_of : (a b : Single) → Of a ≡ Of b → a ≡ b
  member_of a b e = cc

  -- a row of a loop is one of its list's table
  row_here : (e : Expression) (a : Single) (j : ℕ) → HasType c v.now e (Of a) → row_at w.sites n e ≡ Some j → row_of_list (slice_get (lists_of w w.sites) (loop_number w.sites j)) ≡ Some a
  row_here e a j t h =
      let s = row_seen (OfTable w) c w.types w.sites n v e (Of a) j t h in
      let walked : Walked w.sites v.site.round j = s.0 in
      let table : table_of_site w.schema (slice_get w.sites j) ≡ table_of_loop w.schema walked.site.statement = ap (table_of_site w.schema) walked.there in
      ap row_of_list (list_at w w.sites j walked.site walked.there walked.loops)
      ∙ ap (λ i. Some (RowOf i)) (sym table)
      ∙ ap Some (sym (member_of a (RowOf (table_of_site w.schema (slice_get w.sites j))) s.1))

  taken_typed : (k : JavaType) (e : Expression) (a : Single) (o : Option RowColumn) (p : Option ℕ) → Has k a → HasType c v.now e (Of a) → row_column_at w.sites n e ≡ o → row_at w.sites n e ≡ p → FormTyped w k (adds_taken p o)
  taken_typed k e a (Some q) p has t h i =
      let s : ColumnTyped w q (Of a) = column_here e (Of a) q t h in
      record { member = a; has = has; is = ap scalar_in_column s.is ∙ ap Some (sym (member_of a (ScalarOf s.type) s.of)) }
  taken_typed k e a None (Some j) has t h i = record { member = a; has = has; is = row_here e a j t i }
  taken_typed k e a None None has t h i = tt

  sums_typed : (k : JavaType) (e : Expression) (o : Option RowColumn) → k ≡ long → HasType c v.now e long → row_column_at w.sites n e ≡ o → FormTyped w k (sums_column o)
  sums_typed k e (Some q) is_long t h = (is_long, column_here e long q t h)
  sums_typed k e None is_long t h = tt

  takes_typed : (k : JavaType) (e : Expression) (o : Option RowColumn) → HasType c v.now e k → row_column_at w.sites n e ≡ o → FormTyped w k (takes_column o)
  takes_typed k e (Some q) t h = column_here e k q t h
  takes_typed k e None t h = tt

  sum_typed : (k : JavaType) (x : List ℕ) (a b : Expression) → k ≡ long → HasType c v.now a long → HasType c v.now b long → FormTyped w k (sum_form w.sites n x a b)
  sum_typed k x a b is_long t u =
      either_sum w k (is_variable x a) (is_variable x b) (cond (is_literal_number 1 b) counts (sums_column (row_column_at w.sites n b))) (cond (is_literal_number 1 a) counts (sums_column (row_column_at w.sites n a)))
      (counts_or w k (is_literal_number 1 b) (sums_column (row_column_at w.sites n b)) is_long (sums_typed k b (row_column_at w.sites n b) is_long u refl))
      (counts_or w k (is_literal_number 1 a) (sums_column (row_column_at w.sites n a)) is_long (sums_typed k a (row_column_at w.sites n a) is_long t refl))

  assigned_typed : (x : List ℕ) (e : Expression) (k : JavaType) → HasType c v.now e k → FormTyped w k (assigned_form w.sites n x e)
  assigned_typed x _ _ (typing.lit at y ty h) = literal_marks w (Of (ScalarOf ty)) y (literal_typed c v.now at y (Of (ScalarOf ty)) (typing.lit at y ty h))
  assigned_typed x _ _ (typing.field at e f m i col t h u) = takes_typed (Of (ScalarOf col.ty)) (tree.Field at e f) (row_column_at w.sites n (tree.Field at e f)) (typing.field at e f m i col t h u) refl
  assigned_typed x _ _ (typing.binary at op a b from to z t u) =
      where_added w (Of (ScalarOf to)) (is_add op) (sum_form w.sites n x a b)
      (λ h. let two = add_long op from to z h in
      sum_typed (Of (ScalarOf to)) x a b (ap (λ ty. Of (ScalarOf ty)) two.1) (subst (λ ty. HasType c v.now a (Of (ScalarOf ty))) two.0 t) (subst (λ ty. HasType c v.now b (Of (ScalarOf ty))) two.0 u))
  assigned_typed x _ _ (typing.var at y k h) = tt
  assigned_typed x _ _ (typing.negated at q t) = tt
  assigned_typed x _ _ (typing.equals at a b t u) = tt
  assigned_typed x _ _ (typing.size at y k a h has) = tt
  assigned_typed x _ _ (typing.get at y q a h t) = tt
  assigned_typed x _ _ (typing.contains at y q k ty h has t) = tt
  assigned_typed x _ _ (typing.fetch at t m h) = tt
  assigned_typed x _ _ (typing.query at ty text es q h t) = tt
  assigned_typed x _ _ (typing.query_long at text es q h t) = tt
  assigned_typed x _ _ (typing.query_boolean at text es q h t) = tt
  assigned_typed x _ _ (typing.new_list at a) = tt
  assigned_typed x _ _ (typing.new_set at a) = tt
  assigned_typed x _ _ (typing.new_set_of at q a t) = tt

  -- the form of an update of a variable with this type
  statement_typed : (l : Option Types) (now h : Types) (s : Statement) → now ≡ v.now → TypedStatement c l now s h → (x : List ℕ) (k : JavaType) → target_of s ≡ Some x → now x ≡ Some k → FormTyped w k (form_of w.sites n s)
  statement_typed _ _ _ _ same (typing.assign l now at y e j i t) x k target seen =
      let name : y ≡ x = cc in
      let two : Some j ≡ Some k = sym i ∙ ap now name ∙ seen in
      let type : j ≡ k = cc in
      subst (λ z. FormTyped w z (assigned_form w.sites n y e)) type (assigned_typed y e j (subst (λ z. HasType c z e j) same t))
  statement_typed _ _ _ _ same (typing.add l now at y e j a i has t) x k target seen =
      let name : y ≡ x = cc in
      let two : Some j ≡ Some k = sym i ∙ ap now name ∙ seen in
      let type : j ≡ k = cc in
      taken_typed k e a (row_column_at w.sites n e) (row_at w.sites n e) (subst (λ z. Has z a) type has) (subst (λ z. HasType c z e (Of a)) same t) refl refl
  statement_typed _ _ _ _ same (typing.declare l now at ty y e j new q t) x k target seen = absurd cc
  statement_typed _ _ _ _ same (typing.sort l now at y keys down a i) x k target seen = absurd cc
  statement_typed _ _ _ _ same (typing.when l now h at e p t u) x k target seen = absurd cc
  statement_typed _ _ _ _ same (typing.choose l now h h' at e p q t u z) x k target seen = absurd cc
  statement_typed _ _ _ _ same (typing.for_each l now h at ty y e p j a new t has u) x k target seen = absurd cc
  statement_typed _ _ _ _ same (typing.for_each_new l now h at ty y e p j new q isnew u) x k target seen = absurd cc
  statement_typed _ _ _ _ same (typing.while_true l now h at e p t u) x k target seen = absurd cc
  statement_typed _ _ _ _ same (typing.print l now at e ty t) x k target seen = absurd cc
  statement_typed _ _ _ _ same (typing.return_none l now at i) x k target seen = absurd cc
  statement_typed _ _ _ _ same (typing.return_value l now at e j i t) x k target seen = absurd cc
  statement_typed _ _ _ _ same (typing.leave b now at ex) x k target seen = absurd cc

-- ---- Updates

-- the column that an update takes is there, and is a number where numbers are asked for
record UpdateTyped (w : Setting) (u : Update) : Type 0 where
  places : list_all (place_is_there w.schema (lowering w).fragment) (element_places (element_of u)) ≡ true
  typed : update_is_typed w.schema (lowering w).fragment u ≡ true

added_typed : (w : Setting) (b : Bool) (e : Elem) → list_all (place_is_there w.schema (lowering w).fragment) (element_places (Some e)) ≡ true → UpdateTyped w (added b e)
added_typed w true e h = record { places = h; typed = refl }
added_typed w false e h = record { places = h; typed = refl }

column_passes : (w : Setting) (q : RowColumn) (k : JavaType) → ColumnTyped w q k → (place_is_there w.schema (lowering w).fragment (loop_number w.sites q.loop, column_of w q) && true) ≡ true
column_passes w q k h = ap (λ b. b && true) (typed_place w.schema (lowering w).fragment (loop_number w.sites q.loop, column_of w q) h.type h.is)

member_passes : (w : Setting) (q : RowColumn) (a : Single) (o : Option Ty) → place_of_column w q ≡ o → scalar_in_column o ≡ Some a → (place_is_there w.schema (lowering w).fragment (loop_number w.sites q.loop, column_of w q) && true) ≡ true
member_passes w q a (Some ty) e h = ap (λ b. b && true) (typed_place w.schema (lowering w).fragment (loop_number w.sites q.loop, column_of w q) ty e)
member_passes w q a None e h = absurd cc

form_passes : (w : Setting) (x : List ℕ) (r : Round) (k : JavaType) (f : Form) → FormTyped w k f → ((q : RowColumn) → f ≡ takes q → k ≡ long) → UpdateTyped w (update_with w x r f)
form_passes w x r k (adds (whole j)) h number = added_typed w (is_distinct (w.types x)) (lowered.element_of w (whole j)) refl
form_passes w x r k (adds (column q)) h number = added_typed w (is_distinct (w.types x)) (lowered.element_of w (column q)) (member_passes w q h.member (place_of_column w q) refl h.is)
form_passes w x r k counts h number = record { places = refl; typed = refl }
form_passes w x r k (sums q) h number = record { places = column_passes w q long h.1; typed = ap (is_type tys.Long) (column_long w q h.1) }
form_passes w x r k (takes q) h number = record { places = column_passes w q k h; typed = ap (is_type tys.Long) (column_long w q (subst (ColumnTyped w q) (number q refl) h)) }
form_passes w x r k (marks b) h number = record { places = refl; typed = refl }
form_passes w x r k other h number = record { places = refl; typed = refl }

mark_passes : (w : Setting) (x : List ℕ) (r : Round) (f : Form) (b : Bool) → f ≡ marks b → UpdateTyped w (update_with w x r f)
mark_passes w x r f b e = subst (λ z. UpdateTyped w (update_with w x r z)) (sym e) (record { places = refl; typed = refl })

-- each needed variable is visible at the loop, and is a number where it is a best value
abbrev pub NeededUpdated : Setting → Type 0
NeededUpdated w = (x : List ℕ) (u : Numbered) → is_among (needed_of w.fragment) x ≡ true → update_of w.sites x ≡ Some u → Updated w x u

-- the update of a needed variable is typed as the variable is
update_typed : (w : Setting) (c : Frame) → Checked w c → RowsWalked w c → (x : List ℕ) (u : Numbered) (d : Updated w x u) → FormTyped w d.type (form_found w.sites (Some u))
update_typed w c is walked x u d =
    let p = update_is w.sites x u d.is in
    let v : Visited (OfTable w) c w.types w.sites u.number = site_visited (OfTable w) w c is (table_first w c is) (table_nested w c is walked) u.number (slice_get_within w.sites u.number u.site p.0) in
    let same : v.site ≡ u.site = get_same w.sites u.number v.site u.site v.there p.0 in
    let typed : FormTyped w d.type (form_of w.sites u.number v.site.statement) = statement_typed w c is u.number v v.at_body v.now v.after v.site.statement refl v.typed x d.type (ap (λ (z : Site). target_of z.statement) same ∙ p.1) (v.scope.extends x d.type d.visible) in
    subst (λ (z : Site). FormTyped w d.type (form_of w.sites u.number z.statement)) same typed

update_passes : (w : Setting) (c : Frame) → Checked w c → RowsWalked w c → NeededUpdated w → (a : Accumulator) → Comes w a → UpdateTyped w a.update
update_passes w c is walked updated _ (needed x u h found) =
    let d : Updated w x u = updated x u h found in
    form_passes w x u.site.round d.type (form_found w.sites (Some u)) (update_typed w c is walked x u d) d.long
update_passes w c is walked updated _ (flagged x d s u there name found) =
    let f : FlagStands w c d s u x = flag_stands w c is d s u x there name found in
    mark_passes w x u.site.round (form_found w.sites (Some u)) f.value f.form

all_pass : (w : Setting) (c : Frame) → Checked w c → RowsWalked w c → NeededUpdated w → AllByRecursion (λ (a : Accumulator). UpdateTyped w a.update) (lowering w).fragment.accs
all_pass w c is walked updated = all_weaker (Comes w) (λ (a : Accumulator). UpdateTyped w a.update) (lowering w).fragment.accs (update_passes w c is walked updated) (all_come w)

-- The columns that updates take are there.
pub elements_there : (w : Setting) (c : Frame) → Checked w c → RowsWalked w c → NeededUpdated w → list_all (place_is_there w.schema (lowering w).fragment) (flat_map (λ (a : Accumulator). element_places (element_of a.update)) (lowering w).fragment.accs) ≡ true
elements_there w c is walked updated =
    let test = place_is_there w.schema (lowering w).fragment in
    flat_passes test (λ (a : Accumulator). element_places (element_of a.update)) (lowering w).fragment.accs
    (all_weaker (λ (a : Accumulator). UpdateTyped w a.update) (λ (a : Accumulator). list_all test (element_places (element_of a.update)) ≡ true) (lowering w).fragment.accs (λ a h. h.places) (all_pass w c is walked updated))

-- Sums and best values are of numbers.
pub updates_typed : (w : Setting) (c : Frame) → Checked w c → RowsWalked w c → NeededUpdated w → list_all (λ (a : Accumulator). update_is_typed w.schema (lowering w).fragment a.update) (lowering w).fragment.accs ≡ true
updates_typed w c is walked updated =
    all_to_test (λ (a : Accumulator). update_is_typed w.schema (lowering w).fragment a.update) (lowering w).fragment.accs
    (all_weaker (λ (a : Accumulator). UpdateTyped w a.update) (λ (a : Accumulator). update_is_typed w.schema (lowering w).fragment a.update ≡ true) (lowering w).fragment.accs (λ a h. h.typed) (all_pass w c is walked updated))

-- ---- What is collected

added_collects : (w : Setting) (o : Option JavaType) (k : JavaType) (a : Single) (e : Elem) → o ≡ Some k → Has k a → element_type w.schema (lowering w).fragment e ≡ Some a → collected_type w.schema (lowering w).fragment (added (is_distinct o) e) ≡ Some k
added_collects w o _ _ e h (typing.listed a) i = ap (λ z. collected_type w.schema (lowering w).fragment (added (is_distinct z) e)) h ∙ ap (made_of Listed) i
added_collects w o _ _ e h (typing.distinct a) i = ap (λ z. collected_type w.schema (lowering w).fragment (added (is_distinct z) e)) h ∙ ap (made_of Distinct) i

form_collects : (w : Setting) (x : List ℕ) (r : Round) (k : JavaType) (f : Form) (start : Expression) → w.types x ≡ Some k → FormTyped w k f → ((q : RowColumn) → f ≡ takes q → k ≡ long) → may_start f start ≡ true → collected_type w.schema (lowering w).fragment (update_with w x r f) ≡ Some k
form_collects w x r k (adds t) start seen h number may = added_collects w (w.types x) k h.member (lowered.element_of w t) seen h.has h.is
form_collects w x r k counts start seen h number may = ap Some (sym h)
form_collects w x r k (sums q) start seen h number may = ap Some (sym h.0)
form_collects w x r k (takes q) start seen h number may = ap Some (sym (number q refl))
form_collects w x r k (marks b) start seen h number may = ap Some (sym h)
form_collects w x r k other start seen h number may = absurd cc

-- A needed variable has the type of what its update collects.
pub needed_collects : (w : Setting) (c : Frame) → Checked w c → RowsWalked w c → (x : List ℕ) (u : Numbered) → is_among (needed_of w.fragment) x ≡ true → (d : Updated w x u) → collected_type w.schema (lowering w).fragment (update_with w x u.site.round (form_found w.sites (Some u))) ≡ Some d.type
needed_collects w c is walked x u h d =
    let s : Started w.sites x w.fragment.run = needed_started w c is x h in
    form_collects w x u.site.round d.type (form_found w.sites (Some u)) s.value d.visible (update_typed w c is walked x u d) d.long (ap (λ o. may_start (form_found w.sites o) s.value) (sym d.is) ∙ s.may)
