-- The query of a narrowed walk is one of the schema, and its text is read as it.
use Rattle.std.proofs.Common.{◌≡◌, ℕ, zero, suc, ◌≤◌, ◌<◌, Bool, true, false, not, ◌&&◌, cond, List, [], ◌∷◌, ◌++◌, length, codes, position, Option, Some, None, refl, sym, ap, ◌∙◌, subst, arith, nat_lt}
use Rattle.std.specs.Prelude.{bytes_eq, nat_eq, slice_get, max}
use Rattle.std.specs.List.{AllByRecursion, list_all}
use Rattle.std.proofs.Math.Nat.{le-max_left, le-max_right, max-le}
use Rattle.std.proofs.lemmas.Bool.Decides.{nat_tests}
use Rattle.qbs_base.specs.declared.columns.Column.{Column}
use Rattle.qbs_base.specs.declared.columns.Table.{Table}
use Rattle.qbs_base.specs.declared.scalar.Scalar.{Scalar}
use Rattle.qbs_base.specs.declared.scalar.Scalar.TheVariants as scalars
use Rattle.qbs_base.specs.declared.scalar.Ty.{Ty}
use Rattle.qbs_base.specs.declared.scalar.Ty.TheVariants as tys
use Rattle.qbs_base.specs.declared.span.Span.{Span}
use Rattle.qbs_base.specs.Columns.{columns_at, column_number, table_number, same_ty}
use Rattle.qbs_base.specs.Values.{Schema, HasTy}
use Rattle.sql_ast.specs.declared.tree.Cmp.{Cmp}
use Rattle.sql_ast.specs.declared.tree.Cmp.TheVariants as tests
use Rattle.sql_ast.specs.declared.tree.FromItem.{FromItem}
use Rattle.sql_ast.specs.declared.tree.SqlColumn.{SqlColumn}
use Rattle.sql_ast.specs.declared.tree.SqlColumn.TheVariants as columns
use Rattle.sql_ast.specs.declared.tree.SqlOpnd.{SqlOpnd}
use Rattle.sql_ast.specs.declared.tree.SqlOpnd.TheVariants as opnds
use Rattle.sql_ast.specs.Meaning.{nth}
use Rattle.sql_ast.specs.Names.{◌>>=◌}
use Rattle.sql_ast.specs.Tree as sql
use Rattle.sql_ast.specs.Tree.{Condition, PlainListing, Listing}
use Rattle.sql_ast.specs.Typing.{ty_of_scalar, ty_of_col, ty_beside, tys_beside, one_ty, ty_of_param, orders, is_compared_by, pair_fits, ty_of_opnd, condition_fits, opnd_param, last_param, tys_up_to}
use Rattle.sql_ast.specs.Valid.{IsWord, IsColOf, FitsScalar, IsOpndOf, IsConditionOf, IsQueryOf}
use Rattle.sql_ast.proofs.CanonicalQuery.{canonical_has_query}
use Rattle.sql_ast.proofs.Tools.{all_at}
use Rattle.java_ast.specs.Names.{Names}
use Rattle.java_ast.specs.Tree.{Expression, Statements, PlainMethod}
use Rattle.java_mean.specs.declared.types.JavaType.TheVariants.{Of}
use Rattle.java_mean.specs.declared.types.Single.TheVariants.{ScalarOf, RowOf}
use Rattle.java_mean.specs.Asks.{frame_of}
use Rattle.java_mean.specs.Queries.{Reader}
use Rattle.java_mean.specs.Types.{Types, with_type}
use Rattle.java_mean.specs.Typing.{Frame, HasType, HaveTypes, no_more, and, TypedStatements}
use Rattle.java_mean.proofs.Numbered.{Found, first, later, position_step}
use Rattle.java_mean.proofs.Puts.{names_equal}
use Rattle.select_parts.specs.Selects.{is_plain_operand, is_plain_condition, is_text, is_text_operand, is_select}
use Rattle.spreads.specs.Narrowed.{Arguments, parts_of, with_part, is_plain, is_taken, taken, all_read, number_of, condition_of, taken_condition, expressions}
use Rattle.spreads.specs.Staying.{assigned_among}
use Rattle.narrowings.specs.Words.{IsColumnWord, HasWords}
use Rattle.narrowings.proofs.Conjuncts.{all_joined, all_mapped, all_conditions}
use Rattle.narrowings.proofs.Loop.{asked, text_of, parts_are}
use Rattle.narrowings.proofs.Numbers.{NonEmpty, columns_known, col_type, number_typed, number_bounds, all_covered}
use Rattle.narrowings.proofs.Parts.{both_so, some_is, named_col, ComparedBy, by_op, by_equals, OperandIs, of_literal, of_column, of_argument, PartIs, both_parts, either_part, not_part, compared_part, true_part}
use Rattle.narrowings.proofs.Program.{AllAsked, body_of, parts_in, read_in}

-- ---- Small facts

both_true : (a b : Bool) → a ≡ true → b ≡ true → (a && b) ≡ true
both_true true b e h = h
both_true false b e h = absurd cc

and_false : (a : Bool) → not (a && false) ≡ true
and_false true = refl
and_false false = refl

record At {X : Type 0} (f : X → Bool) (xs : List X) (n : ℕ) : Type 0 where
  one : X
  there : slice_get xs n ≡ Some one
  so : f one ≡ true

at_step : {X : Type 0} (f : X → Bool) (y : X) (ys : List X) (n : ℕ) → ((k : ℕ) → position f ys ≡ Some k → At f ys k) → Found f y ys n → At f (y ∷ ys) n
at_step f y ys n rest (first t z) = record { one = y; there = ap (slice_get (y ∷ ys)) z; so = t }
at_step f y ys n rest (later k t z r) = (let i = rest k r in record { one = i.one; there = ap (slice_get (y ∷ ys)) z ∙ i.there; so = i.so })

position_at : {X : Type 0} (f : X → Bool) (xs : List X) (n : ℕ) → position f xs ≡ Some n → At f xs n
position_at f [] n e = absurd cc
position_at f (y ∷ ys) n e = at_step f y ys n (λ k r. position_at f ys k r) (position_step f y ys n e)

same_itself : (ty : Ty) → same_ty ty ty ≡ true
same_itself tys.Long = refl
same_itself tys.Bool = refl
same_itself tys.Text = refl

ty_of_literal : (ty : Ty) (y : Scalar) → HasTy ty y → ty_of_scalar y ≡ ty
ty_of_literal tys.Long (scalars.Long i) h = refl
ty_of_literal tys.Long (scalars.Bool b) h = absurd h
ty_of_literal tys.Long (scalars.Text t) h = absurd h
ty_of_literal tys.Bool (scalars.Long i) h = absurd h
ty_of_literal tys.Bool (scalars.Bool b) h = refl
ty_of_literal tys.Bool (scalars.Text t) h = absurd h
ty_of_literal tys.Text (scalars.Long i) h = absurd h
ty_of_literal tys.Text (scalars.Bool b) h = absurd h
ty_of_literal tys.Text (scalars.Text t) h = refl

fits_scalar : (ty : Ty) (y : Scalar) → HasTy ty y → FitsScalar y
fits_scalar tys.Long (scalars.Long i) h = h
fits_scalar tys.Long (scalars.Bool b) h = tt
fits_scalar tys.Long (scalars.Text t) h = tt
fits_scalar tys.Bool (scalars.Long i) h = absurd h
fits_scalar tys.Bool (scalars.Bool b) h = tt
fits_scalar tys.Bool (scalars.Text t) h = tt
fits_scalar tys.Text (scalars.Long i) h = absurd h
fits_scalar tys.Text (scalars.Bool b) h = tt
fits_scalar tys.Text (scalars.Text t) h = tt

has_many : (c : Frame) (g : Types) (args : Arguments) (types : List Ty) → HaveTypes c g (expressions args) types → length types ≡ length args
has_many c g [] _ no_more = refl
has_many c g (a ∷ args) _ (and _ _ t ts h rest) = ap (λ (n : ℕ). suc n) (has_many c g args ts rest)

there_split : (xs ys : List Ty) (P : Type 0) → NonEmpty (xs ++ ys) → (NonEmpty xs → P) → (NonEmpty ys → P) → P
there_split [] ys P h f g = g h
there_split (x ∷ xs) ys P h f g = f tt

all_same : (o : Option Ty) (ty : Ty) (types : List Ty) → o ≡ Some ty → AllByRecursion (λ z. o ≡ Some z) types → list_all (same_ty ty) types ≡ true
all_same o ty [] e h = refl
all_same o ty (z ∷ types) e h = both_true (same_ty ty z) (list_all (same_ty ty) types) (subst (λ k. same_ty ty k ≡ true) (some_is ty z (sym e ∙ h.0)) (same_itself ty)) (all_same o ty types e h.1)

one_there : (o : Option Ty) (types : List Ty) → NonEmpty types → AllByRecursion (λ z. o ≡ Some z) types → one_ty types ≡ o
one_there o [] n h = absurd n
one_there o (ty ∷ types) n h = ap (λ b. cond b (Some ty) None) (all_same o ty types h.0 h.1) ∙ sym h.0

-- the first n
abbrev front : ℕ → List Ty → List Ty
front zero types = []
front (suc n) [] = []
front (suc n) (ty ∷ types) = ty ∷ front n types

front_more : (n : ℕ) (types : List Ty) (ty : Ty) → slice_get types n ≡ Some ty → front n types ++ ty ∷ [] ≡ front (suc n) types
front_more n [] ty e = absurd cc
front_more zero (t ∷ types) ty e = ap (λ z. z ∷ []) (sym (some_is t ty e))
front_more (suc n) (t ∷ types) ty e = ap (λ z. t ∷ z) (front_more n types ty e)

front_all : (types : List Ty) → front (length types) types ≡ types
front_all [] = refl
front_all (ty ∷ types) = ap (λ z. ty ∷ z) (front_all types)

got : (types : List Ty) (n : ℕ) → n < length types → (ty : Ty) × (slice_get types n ≡ Some ty)
got [] n h = absurd (omega (arith, h))
got (ty ∷ types) zero h = (ty, refl)
got (ty ∷ types) (suc n) h = got types n (omega (arith, h))

up_to : (params : ℕ → Option Ty) (types : List Ty) → ((k : ℕ) → 1 ≤ k → k ≤ length types → params k ≡ nth types k) → (n : ℕ) → n ≤ length types → tys_up_to params n ≡ Some (front n types)
up_to params types each zero h = refl
up_to params types each (suc n) h =
    let t = got types n (omega (arith, h)) in
    ap (λ o. o >>= λ ts. params (suc n) >>= λ ty. (let z : Option (List Ty) = Some (ts ++ ty ∷ []) in z)) (up_to params types each n (omega (arith, h)))
    ∙ ap (λ o. o >>= λ ty. (let z : Option (List Ty) = Some (front n types ++ ty ∷ []) in z)) (each (suc n) (omega arith) h ∙ t.1)
    ∙ ap (λ z. let o : Option (List Ty) = Some z in o) (front_more n types t.0 t.1)

up_all : (params : ℕ → Option Ty) (types : List Ty) → ((k : ℕ) → 1 ≤ k → k ≤ length types → params k ≡ nth types k) → (n : ℕ) → n ≡ length types → tys_up_to params n ≡ Some types
up_all params types each n e = up_to params types each n (omega (arith, e)) ∙ ap (λ (k : ℕ). let o : Option (List Ty) = Some (front k types) in o) e ∙ ap (λ z. let o : Option (List Ty) = Some z in o) (front_all types)

-- there are nine arguments at most
few_taken : (assigned : Names) (x : List ℕ) (es : List Expression) (us : Arguments) → length us < 10 → length (all_read x us (taken assigned x us es)) < 10
few_taken assigned x [] us h = h
few_taken assigned x (e ∷ es) us h = by_taken (is_taken assigned x us e) refl (λ i. few_taken assigned x es (with_part x us e) i) (few_taken assigned x es us h)
  where
    less : (n : ℕ) → nat_lt n 10 ≡ true → n < 10
    less n q = grind (arith, nat_tests)

    by_taken : (b : Bool) → is_taken assigned x us e ≡ b → (length (with_part x us e) < 10 → length (all_read x (with_part x us e) (taken assigned x (with_part x us e) es)) < 10) → length (all_read x us (taken assigned x us es)) < 10 → length (all_read x us (cond b (e ∷ taken assigned x (with_part x us e) es) (taken assigned x us es))) < 10
    by_taken true i j k = j (less (length (with_part x us e)) (both_so (is_plain assigned x e) (nat_lt (length (with_part x us e)) 10) i).1)
    by_taken false i j k = k

-- ---- The condition

module _ (c : Frame) (g : Types) (x : List ℕ) (n : ℕ) (args : Arguments) (name : List ℕ) (t : Table) (held : slice_get c.schema n ≡ Some t) (named : table_number c.schema name ≡ Some n) (words : HasWords c.schema) (types : List Ty) (have : HaveTypes c g (expressions args) types) (few : length args < 10) (same_name : bytes_eq t.name name ≡ true) where
  abbrev froms : List FromItem
  froms = record { name = name; table = n } ∷ []

  abbrev Is : Ty → Expression → SqlOpnd → Type 0
  Is ty e o = OperandIs c g x n args ty e o

  abbrev Part : Expression → Condition → Type 0
  Part e d = PartIs c g x n args e d

  -- ---- Names

  known : columns_at c.schema n ≡ t.columns
  known = columns_known c.schema n t held

  column_words : AllByRecursion IsColumnWord t.columns
  column_words = all_at (λ (z : Table). AllByRecursion IsColumnWord z.columns) c.schema n t words.columns held

  col_of : (f : List ℕ) (i : ℕ) → column_number (columns_at c.schema n) f ≡ Some i → IsColOf c.schema froms (named_col f i)
  col_of f i e =
      let there : column_number t.columns f ≡ Some i = ap (λ z. column_number z f) (sym known) ∙ e in
      let u = position_at (λ (k : Column). bytes_eq k.name f) t.columns i there in
      let same : u.one.name ≡ f = names_equal u.one.name f u.so in
      let word : IsColumnWord u.one = all_at IsColumnWord t.columns i u.one column_words u.there in
      let other : bytes_eq f (codes "_pos") ≡ false = subst (λ (z : List ℕ). bytes_eq z (codes "_pos") ≡ false) same word.1 in
      record {
        from = record { name = name; table = n };
        item = refl;
        table = t;
        held = held;
        column = ap (λ b. cond b (Some columns.Pos) (column_number t.columns f >>= λ number. (let z : Option SqlColumn = Some (columns.Named f number) in z))) other ∙ ap (λ o. o >>= λ number. (let z : Option SqlColumn = Some (columns.Named f number) in z)) there;
        word = subst IsWord same word.0;
      }

  operand_valid : (ty : Ty) (e : Expression) (o : SqlOpnd) → Is ty e o → IsOpndOf c.schema froms o
  operand_valid _ _ _ (of_literal at y ty h) = fits_scalar ty y h
  operand_valid _ _ _ (of_column at at' y f i column same there here) = col_of f i there
  operand_valid _ _ _ (of_argument ty e k h m) = (let b = number_bounds e args k m in let low = b.0 in let high = b.1 in (low, omega (arith, high, few)))

  part_valid : (e : Expression) (d : Condition) → Part e d → IsConditionOf c.schema froms d
  part_valid _ _ (both_parts at a b d f p r) = (part_valid a d p, part_valid b f r)
  part_valid _ _ (either_part at a b d f p r) = (part_valid a d p, part_valid b f r)
  part_valid _ _ (not_part at a d p) = part_valid a d p
  part_valid _ _ (compared_part e a b cmp ty o p by one two col) = (operand_valid ty a o one, operand_valid ty b p two)
  part_valid _ _ (true_part e col is) = (operand_valid tys.Bool e (opnds.Column col) is, tt)

  -- ---- Types

  -- parameters have the types of their arguments
  abbrev Fit : (ℕ → Option Ty) → Type 0
  Fit params = (e : Expression) (k : ℕ) (ty : Ty) → HasType c g e (Of (ScalarOf ty)) → number_of e args ≡ Some k → params k ≡ Some ty

  types_fit_so : Fit (nth types)
  types_fit_so e k ty h m = number_typed c g e args types have ty h k m

  operand_type : (params : ℕ → Option Ty) → Fit params → (ty : Ty) (e : Expression) (o : SqlOpnd) → Is ty e o → ty_of_opnd params c.schema froms o ≡ Some ty
  operand_type params fit _ _ _ (of_literal at y ty h) = ap (λ z. let o : Option Ty = Some z in o) (ty_of_literal ty y h)
  operand_type params fit _ _ _ (of_column at at' y f i column same there here) = col_type c g x n args name t held f i column here
  operand_type params fit _ _ _ (of_argument ty e k h m) = fit e k ty h m

  compared_may : (a b e : Expression) (cmp : Cmp) (ty : Ty) → ComparedBy a b cmp ty e → is_compared_by cmp ty ≡ true
  compared_may a b _ _ _ (by_op at cmp ty may plain) = may
  compared_may a b _ _ _ (by_equals at) = refl

  part_fits : (params : ℕ → Option Ty) → Fit params → (e : Expression) (d : Condition) → Part e d → condition_fits params c.schema froms d ≡ true
  part_fits params fit _ _ (both_parts at a b d f p r) = both_true (condition_fits params c.schema froms d) (condition_fits params c.schema froms f) (part_fits params fit a d p) (part_fits params fit b f r)
  part_fits params fit _ _ (either_part at a b d f p r) = both_true (condition_fits params c.schema froms d) (condition_fits params c.schema froms f) (part_fits params fit a d p) (part_fits params fit b f r)
  part_fits params fit _ _ (not_part at a d p) = part_fits params fit a d p
  part_fits params fit _ _ (compared_part e a b cmp ty o p by one two col) =
      ap (λ z. pair_fits cmp z (ty_of_opnd params c.schema froms p)) (operand_type params fit ty a o one)
      ∙ ap (pair_fits cmp (Some ty)) (operand_type params fit ty b p two)
      ∙ both_true (same_ty ty ty) (is_compared_by cmp ty) (same_itself ty) (compared_may a b e cmp ty by)
  part_fits params fit _ _ (true_part e col is) = ap (λ z. pair_fits tests.Eq z (let o : Option Ty = Some tys.Bool in o)) (operand_type params fit tys.Bool e (opnds.Column col) is)

  -- ---- No positions, and texts by `=`

  operand_plain : (ty : Ty) (e : Expression) (o : SqlOpnd) → Is ty e o → is_plain_operand o ≡ true
  operand_plain _ _ _ (of_literal at y ty h) = refl
  operand_plain _ _ _ (of_column at at' y f i column same there here) = refl
  operand_plain _ _ _ (of_argument ty e k h m) = refl

  abbrev query_of : Condition → PlainListing
  query_of d = asked name n d types

  text_so : (d : Condition) (ty : Ty) (e : Expression) (o : SqlOpnd) → Is ty e o → is_text_operand c.schema (query_of d) o ≡ same_ty ty tys.Text
  text_so d ty e o is = ap is_text (operand_type (nth types) types_fit_so ty e o is)

  not_ordered : (b : Bool) (a a' e : Expression) (cmp : Cmp) (ty : Ty) → ComparedBy a a' cmp ty e → b ≡ same_ty ty tys.Text → not (orders cmp && b) ≡ true
  not_ordered b a a' _ _ _ (by_op at cmp ty may plain) h = ap (λ z. not (orders cmp && z)) (h ∙ plain) ∙ and_false (orders cmp)
  not_ordered b a a' _ _ _ (by_equals at) h = refl

  part_plain : (whole : Condition) (e : Expression) (d : Condition) → Part e d → is_plain_condition c.schema (query_of whole) d ≡ true
  part_plain whole _ _ (both_parts at a b d f p r) = both_true (is_plain_condition c.schema (query_of whole) d) (is_plain_condition c.schema (query_of whole) f) (part_plain whole a d p) (part_plain whole b f r)
  part_plain whole _ _ (either_part at a b d f p r) = both_true (is_plain_condition c.schema (query_of whole) d) (is_plain_condition c.schema (query_of whole) f) (part_plain whole a d p) (part_plain whole b f r)
  part_plain whole _ _ (not_part at a d p) = part_plain whole a d p
  part_plain whole _ _ (compared_part e a b cmp ty o p by one two col) =
      both_true (is_plain_operand o) (is_plain_operand p && not (orders cmp && is_text_operand c.schema (query_of whole) o)) (operand_plain ty a o one)
      (both_true (is_plain_operand p) (not (orders cmp && is_text_operand c.schema (query_of whole) o)) (operand_plain ty b p two) (not_ordered (is_text_operand c.schema (query_of whole) o) a b e cmp ty by (text_so whole ty a o one)))
  part_plain whole _ _ (true_part e col is) = both_true (is_plain_operand (opnds.Column col)) true (operand_plain tys.Bool e (opnds.Column col) is) refl

  -- ---- Types of parameters

  abbrev TypeAt : ℕ → Ty → Type 0
  TypeAt k ty = nth types k ≡ Some ty

  abbrev one_or_none : Option Ty → List Ty
  one_or_none o = elim o as (λ _. List Ty) [ Some ty ↦ ty ∷ [] | None ↦ [] ]

  by_number : (j k : ℕ) (ty : Ty) → nth types j ≡ Some ty → (o : Option Ty) → o ≡ Some ty → (b : Bool) → nat_eq j k ≡ b → AllByRecursion (TypeAt k) (cond b (one_or_none o) [])
  by_number j k ty h o is false e = tt
  by_number j k ty h o is true e =
      let same : j ≡ k = grind (arith, nat_tests) in
      subst (λ z. AllByRecursion (TypeAt k) (one_or_none z)) {x = Some ty} {y = o} (sym is) (subst (λ (i : ℕ). nth types i ≡ Some ty) same h, tt)

  beside_column : (j k : ℕ) (ty : Ty) → nth types j ≡ Some ty → (ty' : Ty) (e : Expression) (p : SqlOpnd) → Is ty' e p → ty' ≡ ty → AllByRecursion (TypeAt k) (ty_beside c.schema froms k (opnds.Param j) p)
  beside_column j k ty h _ _ _ (of_literal at y ty' i) same = tt
  beside_column j k ty h _ _ _ (of_column at at' y f i column q there here) same = by_number j k ty h (ty_of_col c.schema froms (named_col f i)) (col_type c g x n args name t held f i column here ∙ ap (λ z. let o : Option Ty = Some z in o) same) (nat_eq j k) refl
  beside_column j k ty h _ _ _ (of_argument ty' e i u m) same = tt

  beside_typed : (k : ℕ) (ty : Ty) (a b : Expression) (o p : SqlOpnd) → Is ty a o → Is ty b p → AllByRecursion (TypeAt k) (ty_beside c.schema froms k o p)
  beside_typed k _ _ b _ p (of_literal at y ty h) two = tt
  beside_typed k _ _ b _ p (of_column at at' y f i column q there here) two = tt
  beside_typed k _ _ b _ p (of_argument ty e j h m) two = beside_column j k ty (types_fit_so e j ty h m) ty b p two refl

  part_typed : (k : ℕ) (e : Expression) (d : Condition) → Part e d → AllByRecursion (TypeAt k) (tys_beside c.schema froms k d)
  part_typed k _ _ (both_parts at a b d f p r) = all_joined (TypeAt k) (tys_beside c.schema froms k d) (tys_beside c.schema froms k f) (part_typed k a d p) (part_typed k b f r)
  part_typed k _ _ (either_part at a b d f p r) = all_joined (TypeAt k) (tys_beside c.schema froms k d) (tys_beside c.schema froms k f) (part_typed k a d p) (part_typed k b f r)
  part_typed k _ _ (not_part at a d p) = part_typed k a d p
  part_typed k _ _ (compared_part e a b cmp ty o p by one two col) = all_joined (TypeAt k) (ty_beside c.schema froms k o p) (ty_beside c.schema froms k p o) (beside_typed k ty a b o p one two) (beside_typed k ty b a p o two one)
  part_typed k _ _ (true_part e col is) = tt

  -- ---- The last parameter

  operand_last : (ty : Ty) (e : Expression) (o : SqlOpnd) → Is ty e o → opnd_param o ≤ length args
  operand_last _ _ _ (of_literal at y ty h) = omega arith
  operand_last _ _ _ (of_column at at' y f i column same there here) = omega arith
  operand_last _ _ _ (of_argument ty e k h m) = (number_bounds e args k m).1

  part_last : (e : Expression) (d : Condition) → Part e d → last_param d ≤ length args
  part_last _ _ (both_parts at a b d f p r) = max-le (part_last a d p) (part_last b f r)
  part_last _ _ (either_part at a b d f p r) = max-le (part_last a d p) (part_last b f r)
  part_last _ _ (not_part at a d p) = part_last a d p
  part_last _ _ (compared_part e a b cmp ty o p by one two col) = max-le (operand_last ty a o one) (operand_last ty b p two)
  part_last _ _ (true_part e col is) = omega arith

  ty_by : (j k : ℕ) (xs : List Ty) (b : Bool) → nat_eq j k ≡ b → NonEmpty (cond b xs []) → k ≤ j
  ty_by j k xs true e h = (let same : j ≡ k = grind (arith, nat_tests) in omega (arith, same))
  ty_by j k xs false e h = absurd h

  ty_last : (k : ℕ) (o p : SqlOpnd) → NonEmpty (ty_beside c.schema froms k o p) → k ≤ opnd_param o
  ty_last k (opnds.Param j) (opnds.Column col) h = ty_by j k (one_or_none (ty_of_col c.schema froms col)) (nat_eq j k) refl h
  ty_last k o p h = absurd h

  under_first : (k a b : ℕ) → k ≤ a → k ≤ max a b
  under_first k a b h = omega (arith, h, le-max_left a b)

  under_second : (k a b : ℕ) → k ≤ b → k ≤ max a b
  under_second k a b h = omega (arith, h, le-max_right a b)

  abbrev Reaches : ℕ → Condition → Type 0
  Reaches k d = NonEmpty (tys_beside c.schema froms k d) → k ≤ last_param d

  both_reach : (k : ℕ) (d f : Condition) → Reaches k d → Reaches k f → NonEmpty (tys_beside c.schema froms k d ++ tys_beside c.schema froms k f) → k ≤ max (last_param d) (last_param f)
  both_reach k d f u v h = there_split (tys_beside c.schema froms k d) (tys_beside c.schema froms k f) (k ≤ max (last_param d) (last_param f)) h (λ i. under_first k (last_param d) (last_param f) (u i)) (λ i. under_second k (last_param d) (last_param f) (v i))

  part_reaches : (k : ℕ) (e : Expression) (d : Condition) → Part e d → Reaches k d
  part_reaches k _ _ (both_parts at a b d f p r) h = both_reach k d f (part_reaches k a d p) (part_reaches k b f r) h
  part_reaches k _ _ (either_part at a b d f p r) h = both_reach k d f (part_reaches k a d p) (part_reaches k b f r) h
  part_reaches k _ _ (not_part at a d p) h = part_reaches k a d p h
  part_reaches k _ _ (compared_part e a b cmp ty o p by one two col) h = there_split (ty_beside c.schema froms k o p) (ty_beside c.schema froms k p o) (k ≤ max (opnd_param o) (opnd_param p)) h (λ i. under_first k (opnd_param o) (opnd_param p) (ty_last k o p i)) (λ i. under_second k (opnd_param o) (opnd_param p) (ty_last k p o i))
  part_reaches k _ _ (true_part e col is) h = absurd h

  -- ---- The whole

  module _ (es : List Expression) (parts : AllByRecursion (λ (e : Expression). (d : Condition) → condition_of (columns_at c.schema n) x args e ≡ Some d → Part e d) es) (read : args ≡ all_read x [] es) (d : Condition) (is : taken_condition (columns_at c.schema n) x args es ≡ Some d) where
    by_parts : (Q : Condition → Type 0) → ((a b : Condition) → Q a → Q b → Q (sql.Both a b)) → ((e : Expression) (f : Condition) → Part e f → Q f) → Q d
    by_parts Q joins from =
        all_conditions (columns_at c.schema n) x args Q joins es (all_mapped (λ (e : Expression). (f : Condition) → condition_of (columns_at c.schema n) x args e ≡ Some f → Part e f) (λ (e : Expression). (f : Condition) → condition_of (columns_at c.schema n) x args e ≡ Some f → Q f) (λ e h f i. from e f (h f i)) es parts) d is

    abbrev params : ℕ → Option Ty
    params = ty_of_param c.schema froms (sql.Where d)

    many : length types ≡ length args
    many = has_many c g args types have

    reaches : (k : ℕ) → Reaches k d
    reaches k = by_parts (Reaches k) (λ a b u v h. both_reach k a b u v h) (part_reaches k)

    beside_there : (k : ℕ) → 1 ≤ k → k ≤ length args → NonEmpty (tys_beside c.schema froms k d)
    beside_there k one h = all_covered c g x n args name t held es parts read d is k one h

    param_is : (k : ℕ) → 1 ≤ k → k ≤ length args → params k ≡ nth types k
    param_is k one h = one_there (nth types k) (tys_beside c.schema froms k d) (beside_there k one h) (by_parts (λ f. AllByRecursion (TypeAt k) (tys_beside c.schema froms k f)) (λ a b u v. all_joined (TypeAt k) (tys_beside c.schema froms k a) (tys_beside c.schema froms k b) u v) (part_typed k))

    last_by : (m : ℕ) → m ≡ length args → m ≤ last_param d
    last_by zero e = omega arith
    last_by (suc m) e = reaches (suc m) (beside_there (suc m) (omega arith) (omega (arith, e)))

    last_is : last_param d ≡ length types
    last_is =
        let high : last_param d ≤ length args = by_parts (λ f. last_param f ≤ length args) (λ a b u v. max-le u v) part_last in
        let low : length args ≤ last_param d = last_by (length args) refl in
        let same = many in
        omega (arith, high, low, same)

    params_fit : Fit params
    params_fit e k ty h m = (let b = number_bounds e args k m in param_is k b.0 b.1 ∙ types_fit_so e k ty h m)

    valid : IsQueryOf c.schema (Listing (query_of d))
    valid = record {
      names = record {
        items = record { some = omega arith; few = omega arith; each = (record { table = t; number = named; held = held; word = subst IsWord (names_equal t.name name same_name) (all_at (λ (z : Table). IsWord z.name) c.schema n t words.tables held) }, tt) };
        item = record { from = record { name = name; table = n }; item = refl };
        filter_ = by_parts (IsConditionOf c.schema froms) (λ a b u v. (u, v)) part_valid;
        group = tt;
        keys = ((record { from = record { name = name; table = n }; item = refl; table = t; held = held; column = refl; word = (refl, refl) }, refl), tt);
        limit = tt;
      };
      types = by_parts (λ f. condition_fits params c.schema froms f ≡ true) (λ a b u v. both_true (condition_fits params c.schema froms a) (condition_fits params c.schema froms b) u v) (part_fits params params_fit);
      groups = refl;
      params = up_all params types (λ k one h. (let same = many in param_is k one (omega (arith, h, same)))) (last_param d) last_is;
    }

    selects : is_select c.schema (query_of d) ≡ true
    selects = by_parts (λ f. is_plain_condition c.schema (query_of d) f ≡ true) (λ a b u v. both_true (is_plain_condition c.schema (query_of d) a) (is_plain_condition c.schema (query_of d) b) u v) (part_plain d)

-- ---- The selects that are written

module _ (schema : Schema) (words : HasWords schema) (reader : Reader schema) (m : PlainMethod) (g : Types) (x name : List ℕ) (table : ℕ) (number : table_number schema name ≡ Some table) (at : Span) (test : Expression) (inside : Statements) (new : g x ≡ None) (end : Types) (typed : TypedStatements (frame_of schema reader.read m) (Some (with_type x (Some (Of (RowOf table))) g)) (with_type x (Some (Of (RowOf table))) g) (body_of at test inside) end) (d : Condition) (is : taken_condition (columns_at schema table) x (all_read x [] (parts_in x at test inside)) (parts_in x at test inside) ≡ Some d) (types : List Ty) (have : HaveTypes (frame_of schema reader.read m) g (read_in x at test inside) types) where
  abbrev framed : Frame
  framed = frame_of schema reader.read m

  abbrev parts_here : List Expression
  parts_here = parts_in x at test inside

  abbrev args_here : Arguments
  args_here = all_read x [] parts_here

  table_at : At (λ (t : Table). bytes_eq t.name name) schema table
  table_at = position_at (λ (t : Table). bytes_eq t.name name) schema table number

  nine : length args_here < 10
  nine = few_taken (assigned_among (body_of at test inside)) x (parts_of test) [] (omega arith)

  pub asked_valid : IsQueryOf schema (Listing (asked name table d types))
  asked_valid = valid framed g x table args_here name table_at.one table_at.there number words types have nine table_at.so parts_here (parts_are schema reader m g x name table number at test inside new end typed) refl d is

  asked_selects : is_select schema (asked name table d types) ≡ true
  asked_selects = selects framed g x table args_here name table_at.one table_at.there number words types have nine table_at.so parts_here (parts_are schema reader m g x name table number at test inside new end typed) refl d is

-- each is read as it
pub all_asked : (schema : Schema) → HasWords schema → AllAsked schema
all_asked schema words reader m g x name table number at test inside new end typed d is types have =
    record {
      read_so = (reader.exact (text_of name table d) (Listing (asked name table d types))).1 (canonical_has_query schema (Listing (asked name table d types)) (asked_valid schema words reader m g x name table number at test inside new end typed d is types have));
      select = asked_selects schema words reader m g x name table number at test inside new end typed d is types have;
    }
