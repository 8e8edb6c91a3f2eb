-- The numbers of arguments: each parameter of the condition has the type of its argument, and each argument is compared with a column.
use Rattle.std.proofs.Common.{◌≡◌, ℕ, zero, suc, ◌+◌, ◌≤◌, ◌<◌, Bool, true, false, ◌||◌, ◌&&◌, cond, List, [], ◌∷◌, ◌++◌, length, Option, Some, None, refl, sym, ap, ◌∙◌, subst, arith, length-append}
use Rattle.std.specs.Prelude.{bytes_eq, nat_eq, slice_get}
use Rattle.std.specs.List.{AllByRecursion, list_any}
use Rattle.std.specs.Option.{option_map}
use Rattle.std.proofs.lemmas.Bool.Decides.{nat_tests}
use Rattle.qbs_base.specs.declared.columns.Column.{Column}
use Rattle.qbs_base.specs.declared.columns.Table.{Table}
use Rattle.qbs_base.specs.declared.scalar.Ty.{Ty}
use Rattle.qbs_base.specs.declared.scalar.Ty.TheVariants as tys
use Rattle.qbs_base.specs.declared.span.Span.{Span}
use Rattle.qbs_base.specs.Columns.{columns_at, column_number}
use Rattle.qbs_base.specs.Values.{Schema}
use Rattle.sql_ast.specs.declared.tree.Cmp.{Cmp}
use Rattle.sql_ast.specs.declared.tree.Cmp.TheVariants as tests
use Rattle.sql_ast.specs.declared.tree.FromItem.{FromItem}
use Rattle.sql_ast.specs.declared.tree.SqlCol.{SqlCol}
use Rattle.sql_ast.specs.declared.tree.SqlColumn.TheVariants as columns
use Rattle.sql_ast.specs.declared.tree.SqlOpnd.{SqlOpnd}
use Rattle.sql_ast.specs.declared.tree.SqlOpnd.TheVariants as opnds
use Rattle.sql_ast.specs.Meaning.{nth}
use Rattle.sql_ast.specs.Names.{◌>>=◌}
use Rattle.sql_ast.specs.Tree as sql
use Rattle.sql_ast.specs.Tree.{Condition}
use Rattle.sql_ast.specs.Typing.{ty_of_column, ty_of_col, ty_beside, tys_beside}
use Rattle.java_ast.specs.declared.tree.Op.TheVariants as ops
use Rattle.java_ast.specs.Tree as tree
use Rattle.java_ast.specs.Tree.{Expression}
use Rattle.java_mean.specs.declared.types.JavaType.{JavaType}
use Rattle.java_mean.specs.declared.types.JavaType.TheVariants.{Of, Listed, Distinct}
use Rattle.java_mean.specs.declared.types.Single.TheVariants.{ScalarOf, RowOf}
use Rattle.java_mean.specs.Types.{Types}
use Rattle.java_mean.specs.Typing.{Frame, HasType, var, field, HaveTypes, and}
use Rattle.java_mean.proofs.Puts.{names_equal, name_same}
use Rattle.spreads.specs.Narrowed.{is_column, same_argument, Arguments, with_argument, with_operand, with_part, all_read, number_of, both_there, condition_of, conditions_of, taken_condition, expressions}
use Rattle.narrowings.proofs.Conjuncts.{no_condition}
use Rattle.narrowings.proofs.Parts.{both_so, some_is, mapped, is_col, named_col, ComparedBy, by_op, by_equals, OperandIs, of_literal, of_column, of_argument, PartIs, both_parts, either_part, not_part, compared_part, true_part}

-- ---- Types of arguments

record FieldIs (c : Frame) (g : Types) (e : Expression) (f : List ℕ) (k : JavaType) : Type 0 where
  table : ℕ
  number : ℕ
  column : Column
  row : HasType c g e (Of (RowOf table))
  there : column_number (columns_at c.schema table) f ≡ Some number
  held : slice_get (columns_at c.schema table) number ≡ Some column
  is : k ≡ Of (ScalarOf column.ty)

field_in : (c : Frame) (g : Types) (at : Span) (e : Expression) (f : List ℕ) (k : JavaType) → HasType c g (tree.Field at e f) k → FieldIs c g e f k
field_in c g at e f _ (field _ _ _ n i column h q r) = record { table = n; number = i; column = column; row = h; there = q; held = r; is = refl }

var_in : (c : Frame) (g : Types) (at : Span) (y : List ℕ) (k : JavaType) → HasType c g (tree.Var at y) k → g y ≡ Some k
var_in c g at y k (var _ _ _ e) = e

scalar_is : (a b : Ty) → Of (ScalarOf a) ≡ Of (ScalarOf b) → a ≡ b
scalar_is a b e = ap (λ (k : JavaType). elim k as (λ _. Ty) [ Of (ScalarOf z) ↦ z | Of (RowOf z) ↦ a | Listed z ↦ a | Distinct z ↦ a ]) e

row_is : (a b : ℕ) → Of (RowOf a) ≡ Of (RowOf b) → a ≡ b
row_is a b e = ap (λ (k : JavaType). elim k as (λ _. ℕ) [ Of (RowOf z) ↦ z | Of (ScalarOf ty) ↦ a | Listed z ↦ a | Distinct z ↦ a ]) e

module _ (c : Frame) (g : Types) where
  same_var : (y z : List ℕ) (k j : JavaType) → y ≡ z → g y ≡ Some k → g z ≡ Some j → k ≡ j
  same_var y z k j q h i = some_is k j (sym h ∙ ap g q ∙ i)

  same_types : (e a : Expression) → same_argument e a ≡ true → (ty ty' : Ty) → HasType c g e (Of (ScalarOf ty)) → HasType c g a (Of (ScalarOf ty')) → ty ≡ ty'
  same_types (tree.Var at y) (tree.Var at' z) s ty ty' h i = scalar_is ty ty' (same_var y z (Of (ScalarOf ty)) (Of (ScalarOf ty')) (names_equal y z s) (var_in c g at y (Of (ScalarOf ty)) h) (var_in c g at' z (Of (ScalarOf ty')) i))
  same_types (tree.Field at (tree.Var at2 y) f) (tree.Field at' (tree.Var at3 z) f') s ty ty' h i =
      let both = both_so (bytes_eq y z) (bytes_eq f f') s in
      let u = field_in c g at (tree.Var at2 y) f (Of (ScalarOf ty)) h in
      let v = field_in c g at' (tree.Var at3 z) f' (Of (ScalarOf ty')) i in
      let table : u.table ≡ v.table = row_is u.table v.table (same_var y z (Of (RowOf u.table)) (Of (RowOf v.table)) (names_equal y z both.0) (var_in c g at2 y (Of (RowOf u.table)) u.row) (var_in c g at3 z (Of (RowOf v.table)) v.row)) in
      let number : u.number ≡ v.number = some_is u.number v.number (sym u.there ∙ ap (λ (k : ℕ). column_number (columns_at c.schema k) f) table ∙ ap (column_number (columns_at c.schema v.table)) (names_equal f f' both.1) ∙ v.there) in
      let column : u.column ≡ v.column = some_is u.column v.column (sym u.held ∙ ap (λ (k : ℕ). slice_get (columns_at c.schema k) u.number) table ∙ ap (slice_get (columns_at c.schema v.table)) number ∙ v.held) in
      scalar_is ty u.column.ty u.is ∙ ap (λ (k : Column). k.ty) column ∙ sym (scalar_is ty' v.column.ty v.is)
  same_types e a s ty ty' h i = absurd cc

  later : (t : Ty) (ts : List Ty) (k : ℕ) (ty : Ty) → nth ts k ≡ Some ty → nth (t ∷ ts) (suc k) ≡ Some ty
  later t ts zero ty e = absurd cc
  later t ts (suc k) ty e = e

  typed_by : (e a : Expression) (args : Arguments) (t : Ty) (ts : List Ty) (ty : Ty) → HasType c g e (Of (ScalarOf ty)) → HasType c g a (Of (ScalarOf t)) → ((i : ℕ) → number_of e args ≡ Some i → nth ts i ≡ Some ty) → (k : ℕ) (b : Bool) → same_argument e a ≡ b → cond b (Some 1) (option_map (λ (i : ℕ). suc i) (number_of e args)) ≡ Some k → nth (t ∷ ts) k ≡ Some ty
  typed_by e a args t ts ty h i rest k true s m = ap (nth (t ∷ ts)) (sym (some_is 1 k m)) ∙ ap (λ (z : Ty). let o : Option Ty = Some z in o) (sym (same_types e a s ty t h i))
  typed_by e a args t ts ty h i rest k false s m =
      let r = mapped (λ (j : ℕ). suc j) (number_of e args) k m in
      ap (nth (t ∷ ts)) (sym r.2) ∙ later t ts r.0 ty (rest r.0 r.1)

  pub number_typed : (e : Expression) (args : Arguments) (types : List Ty) → HaveTypes c g (expressions args) types → (ty : Ty) → HasType c g e (Of (ScalarOf ty)) → (k : ℕ) → number_of e args ≡ Some k → nth types k ≡ Some ty
  number_typed e [] types t ty h k m = absurd cc
  number_typed e (a ∷ args) _ (and _ _ t ts i rest) ty h k m = typed_by e a args t ts ty h i (λ j n. number_typed e args ts rest ty h j n) k (same_argument e a) refl m

bounds_by : (e a : Expression) (args : Arguments) → ((i : ℕ) → number_of e args ≡ Some i → (1 ≤ i) × (i ≤ length args)) → (k : ℕ) (b : Bool) → cond b (Some 1) (option_map (λ (i : ℕ). suc i) (number_of e args)) ≡ Some k → (1 ≤ k) × (k ≤ suc (length args))
bounds_by e a args rest k true m = (let q : 1 ≡ k = some_is 1 k m in (omega (arith, q), omega (arith, q)))
bounds_by e a args rest k false m =
    let r = mapped (λ (j : ℕ). suc j) (number_of e args) k m in
    let i = rest r.0 r.1 in
    let q = r.2 in
    let low = i.0 in
    let high = i.1 in
    (omega (arith, q), omega (arith, q, high))

pub number_bounds : (e : Expression) (args : Arguments) (k : ℕ) → number_of e args ≡ Some k → (1 ≤ k) × (k ≤ length args)
number_bounds e [] k m = absurd cc
number_bounds e (a ∷ args) k m = bounds_by e a args (λ i n. number_bounds e args i n) k (same_argument e a) m

itself : (e a : Expression) → same_argument e a ≡ true → same_argument e e ≡ true
itself (tree.Var at y) (tree.Var at' z) s = name_same y
itself (tree.Field at (tree.Var at2 y) f) (tree.Field at' (tree.Var at3 z) f') s = ap (λ b. b && bytes_eq f f) (name_same y) ∙ name_same f
itself e a s = absurd cc

itself_by : (e a : Expression) (args : Arguments) → ((i : ℕ) → number_of e args ≡ Some i → same_argument e e ≡ true) → (k : ℕ) (b : Bool) → same_argument e a ≡ b → cond b (Some 1) (option_map (λ (i : ℕ). suc i) (number_of e args)) ≡ Some k → same_argument e e ≡ true
itself_by e a args rest k true s m = itself e a s
itself_by e a args rest k false s m = (let r = mapped (λ (j : ℕ). suc j) (number_of e args) k m in rest r.0 r.1)

numbered_itself : (e : Expression) (args : Arguments) (k : ℕ) → number_of e args ≡ Some k → same_argument e e ≡ true
numbered_itself e [] k m = absurd cc
numbered_itself e (a ∷ args) k m = itself_by e a args (λ i n. numbered_itself e args i n) k (same_argument e a) refl m

neither : (a b : Bool) → (a || b) ≡ false → (a ≡ false) × (b ≡ false)
neither true b e = absurd cc
neither false b e = (refl, e)

-- the number of an argument behind others that are none of it
number_at : (e : Expression) → same_argument e e ≡ true → (us bs : Arguments) → list_any (same_argument e) us ≡ false → number_of e ((us ++ e ∷ []) ++ bs) ≡ Some (suc (length us))
number_at e s [] bs n = ap (λ b. cond b (Some 1) (option_map (λ (i : ℕ). suc i) (number_of e bs))) s
number_at e s (a ∷ us) bs n =
    let both = neither (same_argument e a) (list_any (same_argument e) us) n in
    ap (λ b. cond b (Some 1) (option_map (λ (i : ℕ). suc i) (number_of e ((us ++ e ∷ []) ++ bs)))) both.0 ∙ ap (option_map (λ (i : ℕ). suc i)) (number_at e s us bs both.1)

-- ---- Arguments are put behind others

nil_more : (us : Arguments) → us ≡ us ++ []
nil_more [] = refl
nil_more (a ∷ us) = ap (λ z. a ∷ z) (nil_more us)

in_three : (us bs cs : Arguments) → (us ++ bs) ++ cs ≡ us ++ (bs ++ cs)
in_three [] bs cs = refl
in_three (a ∷ us) bs cs = ap (λ z. a ∷ z) (in_three us bs cs)

abbrev More : Arguments → Arguments → Type 0
More us cs = (bs : Arguments) × (cs ≡ us ++ bs)

no_more_here : (us : Arguments) → More us us
no_more_here us = ([], nil_more us)

more_more : (us bs cs : Arguments) → More us bs → More bs cs → More us cs
more_more us bs cs h k = (h.0 ++ k.0, k.1 ∙ ap (λ z. z ++ k.0) h.1 ∙ in_three us h.0 k.0)

maybe_more : (us : Arguments) (e : Expression) (b : Bool) → More us (cond b us (us ++ e ∷ []))
maybe_more us e true = no_more_here us
maybe_more us e false = (e ∷ [], refl)

column_or_more : (us : Arguments) (e : Expression) (b : Bool) → More us (cond b us (with_argument us e))
column_or_more us e true = no_more_here us
column_or_more us e false = maybe_more us e (list_any (same_argument e) us)

module _ (x : List ℕ) where
  operand_more : (us : Arguments) (e : Expression) → More us (with_operand x us e)
  operand_more us (tree.Lit at v) = no_more_here us
  operand_more us e = column_or_more us e (is_column x e)

  two_more : (us : Arguments) (a b : Expression) → More us (with_operand x (with_operand x us a) b)
  two_more us a b = more_more us (with_operand x us a) (with_operand x (with_operand x us a) b) (operand_more us a) (operand_more (with_operand x us a) b)

  part_more : (e : Expression) (us : Arguments) → More us (with_part x us e)
  part_more (tree.Binary at ops.And a b) us = more_more us (with_part x us a) (with_part x (with_part x us a) b) (part_more a us) (part_more b (with_part x us a))
  part_more (tree.Binary at ops.Or a b) us = more_more us (with_part x us a) (with_part x (with_part x us a) b) (part_more a us) (part_more b (with_part x us a))
  part_more (tree.Binary at op a b) us = two_more us a b
  part_more (tree.Not at a) us = part_more a us
  part_more (tree.Equals at a b) us = two_more us a b
  part_more e us = no_more_here us

  pub read_more : (es : List Expression) (us : Arguments) → More us (all_read x us es)
  read_more [] us = no_more_here us
  read_more (e ∷ es) us = more_more us (with_part x us e) (all_read x (with_part x us e) es) (part_more e us) (read_more es (with_part x us e))

-- ---- Each argument is compared with a column

abbrev pub NonEmpty : List Ty → Type 0
NonEmpty [] = ⊥
NonEmpty (ty ∷ types) = Unit {0}

first_there : (xs ys : List Ty) → NonEmpty xs → NonEmpty (xs ++ ys)
first_there [] ys h = absurd h
first_there (z ∷ xs) ys h = tt

second_there : (xs ys : List Ty) → NonEmpty ys → NonEmpty (xs ++ ys)
second_there [] ys h = h
second_there (z ∷ xs) ys h = tt

data Split (k m : ℕ) : Type 0 where
  low : k ≤ m → Split k m
  high : m < k → Split k m

split_more : (k m : ℕ) → Split k m → Split (suc k) (suc m)
split_more k m (low h) = low (omega (arith, h))
split_more k m (high h) = high (omega (arith, h))

split : (k m : ℕ) → Split k m
split zero m = low (omega arith)
split (suc k) zero = high (omega arith)
split (suc k) (suc m) = split_more k m (split k m)

pub columns_known : (schema : Schema) (n : ℕ) (table : Table) → slice_get schema n ≡ Some table → columns_at schema n ≡ table.columns
columns_known [] n table e = absurd cc
columns_known (t ∷ ts) zero table e = ap (λ (z : Table). z.columns) (some_is t table e)
columns_known (t ∷ ts) (suc n) table e = columns_known ts n table e

same_number : (k : ℕ) → nat_eq k k ≡ true
same_number k = grind (arith, nat_tests)

module _ (c : Frame) (g : Types) (x : List ℕ) (n : ℕ) (args : Arguments) (name : List ℕ) (t : Table) (held : slice_get c.schema n ≡ Some t) where
  abbrev pub froms : List FromItem
  froms = record { name = name; table = n } ∷ []

  pub col_type : (f : List ℕ) (i : ℕ) (column : Column) → slice_get (columns_at c.schema n) i ≡ Some column → ty_of_col c.schema froms (named_col f i) ≡ Some column.ty
  col_type f i column e =
      let here : slice_get t.columns i ≡ Some column = ap (λ z. slice_get z i) (sym (columns_known c.schema n t held)) ∙ e in
      ap (λ o. o >>= λ (table : Table). ty_of_column table.columns (columns.Named f i)) held ∙ ap (λ o. o >>= λ (k : Column). (let z : Option Ty = Some k.ty in z)) here

  abbrev one_or_none : Option Ty → List Ty
  one_or_none o = elim o as (λ _. List Ty) [ Some ty ↦ ty ∷ [] | None ↦ [] ]

  beside : (k : ℕ) (ty : Ty) (e : Expression) (o : SqlOpnd) → OperandIs c g x n args ty e o → is_col o ≡ true → NonEmpty (ty_beside c.schema froms k (opnds.Param k) o)
  beside k _ _ _ (of_literal at y ty h) col = absurd cc
  beside k _ _ _ (of_column at at' y f i column same there here) col =
      subst (λ b. NonEmpty (cond b (one_or_none (ty_of_col c.schema froms (named_col f i))) [])) (sym (same_number k)) (subst (λ o. NonEmpty (one_or_none o)) {x = Some column.ty} {y = ty_of_col c.schema froms (named_col f i)} (sym (col_type f i column here)) tt)
  beside k _ _ _ (of_argument ty e j h m) col = absurd cc

  -- the number of an argument that is new here
  abbrev Numbers : SqlOpnd → Arguments → Arguments → Type 0
  Numbers o us bs = (k : ℕ) → length us < k → k ≤ length bs → o ≡ opnds.Param k

  nothing_new : (o : SqlOpnd) (us : Arguments) → Numbers o us us
  nothing_new o us k h i = absurd (omega (arith, h, i))

  argument_new : (e : Expression) (j : ℕ) → number_of e args ≡ Some j → (us bs : Arguments) (b : Bool) → list_any (same_argument e) us ≡ b → args ≡ cond b us (us ++ e ∷ []) ++ bs → Numbers (opnds.Param j) us (cond b us (us ++ e ∷ []))
  argument_new e j m us bs true s q k h i = nothing_new (opnds.Param j) us k h i
  argument_new e j m us bs false s q k h i =
      let one : length (us ++ e ∷ []) ≡ length us + 1 = length-append us (e ∷ []) in
      let at : k ≡ suc (length us) = omega (arith, h, i, one) in
      let there : number_of e args ≡ Some (suc (length us)) = ap (number_of e) q ∙ number_at e (numbered_itself e args j m) us bs s in
      ap opnds.Param (some_is j (suc (length us)) (sym m ∙ there) ∙ sym at)

  column_new : (e : Expression) (o : SqlOpnd) (us bs : Arguments) (b : Bool) → (b ≡ false → (d : Bool) → list_any (same_argument e) us ≡ d → args ≡ cond d us (us ++ e ∷ []) ++ bs → Numbers o us (cond d us (us ++ e ∷ []))) → args ≡ cond b us (with_argument us e) ++ bs → Numbers o us (cond b us (with_argument us e))
  column_new e o us bs true f q = nothing_new o us
  column_new e o us bs false f q = f refl (list_any (same_argument e) us) refl q

  argument_operand : (e : Expression) (j : ℕ) → number_of e args ≡ Some j → (us bs : Arguments) → args ≡ with_operand x us e ++ bs → Numbers (opnds.Param j) us (with_operand x us e)
  argument_operand (tree.Lit at v) j m us bs q = nothing_new (opnds.Param j) us
  argument_operand e j m us bs q = column_new e (opnds.Param j) us bs (is_column x e) (λ col d s r. argument_new e j m us bs d s r) q

  col_operand : (at at' : Span) (y f : List ℕ) (o : SqlOpnd) (us : Arguments) (b : Bool) → b ≡ true → Numbers o us (cond b us (with_argument us (tree.Field at (tree.Var at' y) f)))
  col_operand at at' y f o us true e = nothing_new o us
  col_operand at at' y f o us false e = absurd cc

  operand_new : (ty : Ty) (e : Expression) (o : SqlOpnd) → OperandIs c g x n args ty e o → (us bs : Arguments) → args ≡ with_operand x us e ++ bs → Numbers o us (with_operand x us e)
  operand_new _ _ _ (of_literal at y ty h) us bs q = nothing_new (opnds.Lit y) us
  operand_new _ _ _ (of_column at at' y f i column same there here) us bs q = col_operand at at' y f (opnds.Column (named_col f i)) us (bytes_eq x y) same
  operand_new _ _ _ (of_argument ty e j h m) us bs q = argument_operand e j m us bs q

  abbrev pub BesideOf : ℕ → Condition → List Ty
  BesideOf k d = tys_beside c.schema froms k d

  abbrev Covers : Condition → Arguments → Arguments → Type 0
  Covers d us bs = (k : ℕ) → length us < k → k ≤ length bs → NonEmpty (BesideOf k d)

  with_compared : (a b e : Expression) (cmp : Cmp) (ty : Ty) → ComparedBy a b cmp ty e → (us : Arguments) → with_part x us e ≡ with_operand x (with_operand x us a) b
  with_compared a b _ _ _ (by_op at tests.Eq ty may plain) us = refl
  with_compared a b _ _ _ (by_op at tests.Ne ty may plain) us = refl
  with_compared a b _ _ _ (by_op at tests.Lt ty may plain) us = refl
  with_compared a b _ _ _ (by_op at tests.Le ty may plain) us = refl
  with_compared a b _ _ _ (by_op at tests.Gt ty may plain) us = refl
  with_compared a b _ _ _ (by_op at tests.Ge ty may plain) us = refl
  with_compared a b _ _ _ (by_equals at) us = refl

  other_col : (o p : SqlOpnd) (k : ℕ) → o ≡ opnds.Param k → (is_col o || is_col p) ≡ true → is_col p ≡ true
  other_col o p k e h = ap (λ z. is_col z || is_col p) (sym e) ∙ h

  first_col : (o p : SqlOpnd) (k : ℕ) → p ≡ opnds.Param k → (is_col o || is_col p) ≡ true → is_col o ≡ true
  first_col o p k e h = or_none (is_col o) (is_col p) (ap is_col e) h
    where
      or_none : (a b : Bool) → b ≡ false → (a || b) ≡ true → a ≡ true
      or_none true b e h = refl
      or_none false true e h = absurd cc
      or_none false false e h = absurd cc

  compared_covers : (a b : Expression) (cmp : Cmp) (ty : Ty) (o p : SqlOpnd) → OperandIs c g x n args ty a o → OperandIs c g x n args ty b p → (is_col o || is_col p) ≡ true → (us bs : Arguments) → args ≡ with_operand x (with_operand x us a) b ++ bs → Covers (sql.Compare cmp o p) us (with_operand x (with_operand x us a) b)
  compared_covers a b cmp ty o p first second one us bs q k h i =
      by_split (split k (length (with_operand x us a)))
    where
      by_split : Split k (length (with_operand x us a)) → NonEmpty (BesideOf k (sql.Compare cmp o p))
      by_split (low j) =
          let m = operand_more x (with_operand x us a) b in
          let there : args ≡ with_operand x us a ++ (m.0 ++ bs) = q ∙ ap (λ z. z ++ bs) m.1 ∙ in_three (with_operand x us a) m.0 bs in
          let is : o ≡ opnds.Param k = operand_new ty a o first us (m.0 ++ bs) there k h j in
          first_there (ty_beside c.schema froms k o p) (ty_beside c.schema froms k p o) (subst (λ z. NonEmpty (ty_beside c.schema froms k z p)) (sym is) (beside k ty b p second (other_col o p k is one)))
      by_split (high j) =
          let is : p ≡ opnds.Param k = operand_new ty b p second (with_operand x us a) bs q k j i in
          second_there (ty_beside c.schema froms k o p) (ty_beside c.schema froms k p o) (subst (λ z. NonEmpty (ty_beside c.schema froms k z o)) (sym is) (beside k ty a o first (first_col o p k is one)))

  true_with : (ty : Ty) (e : Expression) (col : SqlCol) (o : SqlOpnd) → o ≡ opnds.Column col → OperandIs c g x n args ty e o → (us : Arguments) → with_part x us e ≡ us
  true_with _ _ col _ z (of_literal at y ty h) us = absurd cc
  true_with _ _ col _ z (of_column at at' y f i column same there here) us = refl
  true_with _ _ col _ z (of_argument ty e j h m) us = absurd cc

  both_covers : (d f : Condition) (us bs cs : Arguments) → Covers d us bs → Covers f bs cs → (k : ℕ) → length us < k → k ≤ length cs → NonEmpty (BesideOf k d ++ BesideOf k f)
  both_covers d f us bs cs u v k h i = by_split (split k (length bs))
    where
      by_split : Split k (length bs) → NonEmpty (BesideOf k d ++ BesideOf k f)
      by_split (low j) = first_there (BesideOf k d) (BesideOf k f) (u k h j)
      by_split (high j) = second_there (BesideOf k d) (BesideOf k f) (v k j i)

  part_covers : (e : Expression) (d : Condition) → PartIs c g x n args e d → (us bs : Arguments) → args ≡ with_part x us e ++ bs → Covers d us (with_part x us e)
  part_covers _ _ (both_parts at a b d f p r) us bs q =
      let m = part_more x b (with_part x us a) in
      let there : args ≡ with_part x us a ++ (m.0 ++ bs) = q ∙ ap (λ z. z ++ bs) m.1 ∙ in_three (with_part x us a) m.0 bs in
      both_covers d f us (with_part x us a) (with_part x (with_part x us a) b) (part_covers a d p us (m.0 ++ bs) there) (part_covers b f r (with_part x us a) bs q)
  part_covers _ _ (either_part at a b d f p r) us bs q =
      let m = part_more x b (with_part x us a) in
      let there : args ≡ with_part x us a ++ (m.0 ++ bs) = q ∙ ap (λ z. z ++ bs) m.1 ∙ in_three (with_part x us a) m.0 bs in
      both_covers d f us (with_part x us a) (with_part x (with_part x us a) b) (part_covers a d p us (m.0 ++ bs) there) (part_covers b f r (with_part x us a) bs q)
  part_covers _ _ (not_part at a d p) us bs q = part_covers a d p us bs q
  part_covers _ _ (compared_part e a b cmp ty o p by first second one) us bs q =
      let is = with_compared a b e cmp ty by us in
      subst (Covers (sql.Compare cmp o p) us) (sym is) (compared_covers a b cmp ty o p first second one us bs (q ∙ ap (λ z. z ++ bs) is))
  part_covers _ _ (true_part e col is) us bs q = λ k h i. (
      let same : length (with_part x us e) ≡ length us = ap (λ (z : Arguments). length z) (true_with tys.Bool e col (opnds.Column col) refl is us) in
      absurd (omega (arith, h, i, same)))

  abbrev Parts : List Expression → Type 0
  Parts es = AllByRecursion (λ (e : Expression). (d : Condition) → condition_of (columns_at c.schema n) x args e ≡ Some d → PartIs c g x n args e d) es

  abbrev CoversAll : Condition → Arguments → Type 0
  CoversAll d us = (k : ℕ) → 1 ≤ k → k ≤ length us → NonEmpty (BesideOf k d)

  no_such : (es : List Expression) (d : Condition) → conditions_of (columns_at c.schema n) x args None es ≡ Some d → ⊥
  no_such es d h = no_condition (columns_at c.schema n) x args (λ (z : Condition). Unit {0}) (λ a b u v. tt) es d h

  both_all : (a f : Condition) (us bs : Arguments) → CoversAll a us → Covers f us bs → CoversAll (sql.Both a f) bs
  both_all a f us bs u v k one i = by_split (split k (length us))
    where
      by_split : Split k (length us) → NonEmpty (BesideOf k a ++ BesideOf k f)
      by_split (low j) = first_there (BesideOf k a) (BesideOf k f) (u k one j)
      by_split (high j) = second_there (BesideOf k a) (BesideOf k f) (v k j i)

  covered_by : (e : Expression) (es : List Expression) (us : Arguments) (a : Condition) → CoversAll a us → ((f : Condition) → condition_of (columns_at c.schema n) x args e ≡ Some f → PartIs c g x n args e f) → args ≡ all_read x (with_part x us e) es → ((b : Condition) → CoversAll b (with_part x us e) → (d : Condition) → conditions_of (columns_at c.schema n) x args (Some b) es ≡ Some d → CoversAll d args) → (o : Option Condition) → condition_of (columns_at c.schema n) x args e ≡ o → (d : Condition) → conditions_of (columns_at c.schema n) x args (both_there sql.Both (Some a) o) es ≡ Some d → CoversAll d args
  covered_by e es us a u part q rest (Some f) is d h =
      let m = read_more x es (with_part x us e) in
      rest (sql.Both a f) (both_all a f us (with_part x us e) u (part_covers e f (part f is) us m.0 (q ∙ m.1))) d h
  covered_by e es us a u part q rest None is d h = absurd (no_such es d h)

  covered : (es : List Expression) (us : Arguments) (a : Condition) → CoversAll a us → Parts es → args ≡ all_read x us es → (d : Condition) → conditions_of (columns_at c.schema n) x args (Some a) es ≡ Some d → CoversAll d args
  covered [] us a u parts q d h = subst (λ z. CoversAll z args) (some_is a d h) (subst (CoversAll a) (sym q) u)
  covered (e ∷ es) us a u parts q d h = covered_by e es us a u parts.0 q (λ b v f i. covered es (with_part x us e) b v parts.1 q f i) (condition_of (columns_at c.schema n) x args e) refl d h

  first_covers : (e : Expression) (es : List Expression) → ((f : Condition) → condition_of (columns_at c.schema n) x args e ≡ Some f → PartIs c g x n args e f) × Parts es → args ≡ all_read x (with_part x [] e) es → (o : Option Condition) → condition_of (columns_at c.schema n) x args e ≡ o → (d : Condition) → conditions_of (columns_at c.schema n) x args o es ≡ Some d → CoversAll d args
  first_covers e es parts q (Some f) is d h =
      let m = read_more x es (with_part x [] e) in
      covered es (with_part x [] e) f (λ k one i. part_covers e f (parts.0 f is) [] m.0 (q ∙ m.1) k (omega (arith, one)) i) parts.1 q d h
  first_covers e es parts q None is d h = absurd (no_such es d h)

  -- each argument is compared with a column
  pub all_covered : (es : List Expression) → Parts es → args ≡ all_read x [] es → (d : Condition) → taken_condition (columns_at c.schema n) x args es ≡ Some d → CoversAll d args
  all_covered [] parts q d h = absurd cc
  all_covered (e ∷ es) parts q d h = first_covers e es parts q (condition_of (columns_at c.schema n) x args e) refl d h
