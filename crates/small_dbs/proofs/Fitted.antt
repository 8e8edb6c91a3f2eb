-- Where a fragment fits the schema, its parts fit each small database.
use Rattle.std.proofs.Common.{◌≡◌, ℕ, zero, suc, ℤ, pos, ◌+ℤ◌, ◌-ℤ◌, codes, ◌+◌, ◌*◌, ◌%◌, ◌<◌, ◌^◌, Bool, true, false, cond, not, ◌&&◌, ◌||◌, IsTrue, List, [], ◌∷◌, ◌++◌, length, take, Option, Some, None, nat_eq, nat_lt, slice_get, get_or, refl, sym, ap, subst, ◌∙◌, arith, eqb-true}
use Rattle.std.specs.Prelude.{slice_index_or}
use Rattle.std.specs.List.{AllByRecursion, Contains, flat_map, list_all}
use Rattle.std.proofs.lemmas.Bool.Decides.{nat_tests}
use Rattle.qbs_base.specs.declared.columns.Column.{Column}
use Rattle.qbs_base.specs.declared.scalar.Row.{Row}
use Rattle.qbs_base.specs.declared.scalar.Scalar.{Scalar}
use Rattle.qbs_base.specs.declared.scalar.Scalar.TheVariants as scalars
use Rattle.qbs_base.specs.declared.scalar.Ty.{Ty}
use Rattle.qbs_base.specs.declared.scalar.Ty.TheVariants as tys
use Rattle.qbs_base.specs.Scalar.{scalar_before, scalar_same}
use Rattle.qbs_base.specs.Sort.{put_in, stable_sort}
use Rattle.qbs_base.specs.Tables.{rows_of}
use Rattle.qbs_base.specs.Values.{Schema, Database, HasTy, AreCells, IsRowOf, AreTables, IsDatabaseOf, AreOf, fits_long}
use Rattle.tor_terms.specs.declared.term.Atom.{Atom}
use Rattle.tor_terms.specs.declared.term.Atom.TheVariants as atoms
use Rattle.tor_terms.specs.declared.term.Elem.TheVariants as elems
use Rattle.tor_terms.specs.declared.term.Operand.{Operand}
use Rattle.tor_terms.specs.declared.term.Operand.TheVariants as operands
use Rattle.tor_terms.specs.Truth.{World, operand_at, same_variant}
use Rattle.kernel_lang.specs.declared.parts.Entry.{Entry}
use Rattle.kernel_lang.specs.declared.parts.ListDef.{ListDef}
use Rattle.kernel_lang.specs.declared.parts.Update.{Update}
use Rattle.kernel_lang.specs.declared.parts.Update.TheVariants as updates
use Rattle.kernel_lang.specs.Fitting.{Place, operand_places, named_places, is_of, table_at, ColumnFits, comparable, of_one_variant, of_variant_of_all, AreRows, AtomFits, UpdateFits, PartsFit}
use Rattle.kernel_lang.specs.Given.{before, cut, list_at, world_given}
use Rattle.kernel_lang.specs.Plain.{Accumulator, Fragment}
use Rattle.kernel_lang.specs.Typed.{column_type, table_column, list_column, place_type, scalar_type, operand_type, same_type, is_type, atom_is_typed, members_agree, update_is_typed, place_is_there, is_typed}
use Rattle.kernel_lang.specs.Validity.{is_field}
use Rattle.std.specs.Prelude.{IfOk}
use Rattle.std.specs.declared.result.Result.{Result}
use Rattle.std.specs.declared.result.Result.TheVariants.{Ok, Err}
use Rattle.qbs_base.specs.declared.memory.NoMemory.{NoMemory}
use Rattle.small_dbs.specs.declared.small.SmallDb.{SmallDb}
use Rattle.small_dbs.specs.Chosen.{Choice, value_at, cells, rows, tables, entries, type_or_long, member_type, members, known}
use Rattle.kernel_steps.specs.Put.{put}
use Rattle.small_dbs.specs.Literals.{literals_of_atoms, literals_of_starts, long_within, near, texts_of, put_all, candidates, values}
use Rattle.small_dbs.specs.Small.{small, smalls}

-- ---- lists of which something is so

all_map : {X : Type 0} (P Q : X → Type 0) → ((x : X) → P x → Q x) → (xs : List X) → AllByRecursion P xs → AllByRecursion Q xs
all_map P Q g [] h = tt
all_map P Q g (x ∷ xs) h = (g x h.0, all_map P Q g xs h.1)

all_both : {X : Type 0} (P : X → Type 0) (xs ys : List X) → AllByRecursion P xs → AllByRecursion P ys → AllByRecursion P (xs ++ ys)
all_both P [] ys h g = g
all_both P (x ∷ xs) ys h g = (h.0, all_both P xs ys h.1 g)

all_flat : {X Y : Type 0} (P : Y → Type 0) (g : X → List Y) → ((x : X) → AllByRecursion P (g x)) → (xs : List X) → AllByRecursion P (flat_map g xs)
all_flat P g h [] = tt
all_flat P g h (x ∷ xs) = all_both P (g x) (flat_map g xs) (h x) (all_flat P g h xs)

all_get : {X : Type 0} (P : X → Type 0) (xs : List X) (k : ℕ) (d : X) → AllByRecursion P xs → P d → P (get_or xs k d)
all_get P [] k d h g = g
all_get P (x ∷ xs) zero d h g = h.0
all_get P (x ∷ xs) (suc k) d h g = all_get P xs k d h.1 g

all_at : {X : Type 0} (P : X → Type 0) (xs : List X) (k : ℕ) (d : X) → AllByRecursion P xs → k < length xs → P (slice_index_or xs k d)
all_at P [] k d h l = absurd (omega (arith, l))
all_at P (x ∷ xs) zero d h l = h.0
all_at P (x ∷ xs) (suc k) d h l = all_at P xs k d h.1 (omega (arith, l))

contained : {X : Type 0} (P : X → Type 0) (xs : List X) (x : X) → AllByRecursion P xs → Contains xs x → P x
contained P xs x h c = subst P c.2 (all_at P xs c.0 x h c.1)

all_put_in : {X : Type 0} (P : X → Type 0) (lt : X → X → Bool) (x : X) (xs : List X) → P x → AllByRecursion P xs → AllByRecursion P (put_in lt x xs)
all_put_in P lt x [] p h = (p, tt)
all_put_in P lt x (y ∷ ys) p h = go (lt y x) (all_put_in P lt x ys p h.1)
  where
    go : (b : Bool) → AllByRecursion P (put_in lt x ys) → AllByRecursion P (cond b (y ∷ put_in lt x ys) (x ∷ y ∷ ys))
    go true k = (h.0, k)
    go false k = (p, h)

all_sorted : {X : Type 0} (P : X → Type 0) (lt : X → X → Bool) (xs : List X) → AllByRecursion P xs → AllByRecursion P (stable_sort lt xs)
all_sorted P lt [] h = tt
all_sorted P lt (x ∷ xs) h = all_put_in P lt x (stable_sort lt xs) h.0 (all_sorted P lt xs h.1)

all_take : {X : Type 0} (P : X → Type 0) (n : ℕ) (xs : List X) → AllByRecursion P xs → AllByRecursion P (take n xs)
all_take P zero xs h = tt
all_take P (suc n) [] h = tt
all_take P (suc n) (x ∷ xs) h = (h.0, all_take P n xs h.1)

all_cut : (P : Row → Type 0) (limit : Option ℕ) (rs : List Row) → AllByRecursion P rs → AllByRecursion P (cut limit rs)
all_cut P None rs h = h
all_cut P (Some n) rs h = all_take P n rs h

-- ---- values of a type

abbrev NonEmpty : List Scalar → Type 0
NonEmpty [] = ⊥
NonEmpty (x ∷ xs) = Unit {0}

module _ (P : Scalar → Type 0) where
  all_put : (x : Scalar) (ys : List Scalar) → P x → AllByRecursion P ys → AllByRecursion P (put x ys)
  all_put x [] p h = (p, tt)
  all_put x (y ∷ ys) p h = go (scalar_before x y) (scalar_same x y) (all_put x ys p h.1)
    where
      go : (a b : Bool) → AllByRecursion P (put x ys) → AllByRecursion P (cond a (x ∷ y ∷ ys) (cond b (y ∷ ys) (y ∷ put x ys)))
      go true b k = (p, h)
      go false true k = h
      go false false k = (h.0, k)

  all_puts : (xs ys : List Scalar) → AllByRecursion P xs → AllByRecursion P ys → AllByRecursion P (put_all xs ys)
  all_puts [] ys h g = g
  all_puts (x ∷ xs) ys h g = all_puts xs (put x ys) h.1 (all_put x ys h.0 g)

one_put : (x : Scalar) (ys : List Scalar) → NonEmpty (put x ys)
one_put x [] = tt
one_put x (y ∷ ys) = go (scalar_before x y) (scalar_same x y)
  where
    go : (a b : Bool) → NonEmpty (cond a (x ∷ y ∷ ys) (cond b (y ∷ ys) (y ∷ put x ys)))
    go true b = tt
    go false true = tt
    go false false = tt

some_puts : (xs ys : List Scalar) → NonEmpty ys → NonEmpty (put_all xs ys)
some_puts [] ys h = h
some_puts (x ∷ xs) ys h = some_puts xs (put x ys) (one_put x ys)

within_typed : (n : ℤ) → AllByRecursion (HasTy tys.Long) (long_within n)
within_typed n = go (fits_long n) refl
  where
    go : (b : Bool) → fits_long n ≡ b → AllByRecursion (HasTy tys.Long) (cond b (scalars.Long n ∷ []) [])
    go true e = (e, tt)
    go false e = tt

near_typed : (x : Scalar) → AllByRecursion (HasTy tys.Long) (near x)
near_typed (scalars.Long n) = all_both (HasTy tys.Long) (long_within (n -ℤ pos 1)) (long_within n ++ long_within (n +ℤ pos 1)) (within_typed (n -ℤ pos 1)) (all_both (HasTy tys.Long) (long_within n) (long_within (n +ℤ pos 1)) (within_typed n) (within_typed (n +ℤ pos 1)))
near_typed (scalars.Bool b) = tt
near_typed (scalars.Text t) = tt

texts_typed : (x : Scalar) → AllByRecursion (HasTy tys.Text) (texts_of x)
texts_typed (scalars.Text t) = (tt, tt)
texts_typed (scalars.Long n) = tt
texts_typed (scalars.Bool b) = tt

candidates_typed : (f : Fragment) (ty : Ty) → AllByRecursion (HasTy ty) (candidates f ty)
candidates_typed f tys.Long = (refl, (refl, all_flat (HasTy tys.Long) near near_typed (literals_of_atoms f.atoms ++ literals_of_starts f.accs)))
candidates_typed f tys.Bool = (tt, (tt, tt))
candidates_typed f tys.Text = (tt, (tt, all_flat (HasTy tys.Text) texts_of texts_typed (literals_of_atoms f.atoms)))

values_typed : (f : Fragment) (ty : Ty) → AllByRecursion (HasTy ty) (values f ty)
values_typed f ty = all_puts (HasTy ty) (candidates f ty) [] (candidates_typed f ty) tt

values_there : (f : Fragment) (ty : Ty) → NonEmpty (values f ty)
values_there f tys.Long = some_puts (scalars.Long (pos 1) ∷ flat_map near (literals_of_atoms f.atoms ++ literals_of_starts f.accs)) (put (scalars.Long (pos 0)) []) (one_put (scalars.Long (pos 0)) [])
values_there f tys.Bool = some_puts (scalars.Bool true ∷ []) (put (scalars.Bool false) []) (one_put (scalars.Bool false) [])
values_there f tys.Text = some_puts (scalars.Text (codes "a") ∷ flat_map texts_of (literals_of_atoms f.atoms)) (put (scalars.Text []) []) (one_put (scalars.Text []) [])

at_typed : (P : Scalar → Type 0) (xs : List Scalar) (k : ℕ) → AllByRecursion P xs → NonEmpty xs → P (value_at xs k)
at_typed P [] k h n = absurd n
at_typed P (x ∷ xs) k h n = all_get P (x ∷ xs) (k % length (x ∷ xs)) x h h.0

-- a choice has values of each type
abbrev pub IsChoice : Choice → Type 0
IsChoice v = (ty : Ty) (k : ℕ) → HasTy ty (value_at (v ty) k)

pub is_choice : (f : Fragment) → IsChoice (values f)
is_choice f ty k = at_typed (HasTy ty) (values f ty) k (values_typed f ty) (values_there f ty)

-- ---- what is made of them

module _ (v : Choice) (chosen : IsChoice v) where
  are_cells : (k : ℕ) (columns : List Column) → AreCells columns (cells v k columns)
  are_cells k [] = tt
  are_cells k (column ∷ columns) = (chosen column.ty k, are_cells (k + 1) columns)

  are_rows : (k t : ℕ) (columns : List Column) (n : ℕ) → AllByRecursion (IsRowOf t columns) (rows v k t columns n)
  are_rows k t columns zero = tt
  are_rows k t columns (suc n) = ((refl, are_cells k columns), are_rows (k + 5) t columns n)

  as_many : (k t : ℕ) (columns : List Column) (n : ℕ) → length (rows v k t columns n) ≡ n
  as_many k t columns zero = refl
  as_many k t columns (suc n) = ap suc (as_many (k + 5) t columns n)

  are_tables : (d t : ℕ) (schema : Schema) → AreTables t schema (tables v d t schema)
  are_tables d t [] = tt
  are_tables d t (table ∷ rest) = (
    refl,
    (let l : length (rows v (d + 3 * t) t table.columns (d % 4)) ≡ d % 4 = as_many (d + 3 * t) t table.columns (d % 4) in omega (arith, l)),
    are_rows (d + 3 * t) t table.columns (d % 4),
    subst (λ m. AreTables m rest (tables v d (t + 1) rest)) (let e : t + 1 ≡ suc t = omega arith in e) (are_tables d (t + 1) rest),
  )

  are_entries : (k : ℕ) (types : List Ty) → AreOf types (entries v k types)
  are_entries k [] = tt
  are_entries k (ty ∷ rest) = (chosen ty k, are_entries (k + 2) rest)

  pub members_typed : (ty : Ty) (k n : ℕ) → AllByRecursion (HasTy ty) (members (v ty) k n)
  members_typed ty k zero = tt
  members_typed ty k (suc n) = (chosen ty k, members_typed ty (k + 1) n)

  known_many : (schema : Schema) (f : Fragment) (d q n : ℕ) → length (known schema f v d q n) ≡ n
  known_many schema f d q zero = refl
  known_many schema f d q (suc n) = ap suc (known_many schema f d (q + 1) n)

  known_typed : (schema : Schema) (f : Fragment) (d q n i : ℕ) → AllByRecursion (HasTy (member_type schema f (q + i) f.atoms)) (get_or (known schema f v d q n) i [])
  known_typed schema f d q zero i = tt
  known_typed schema f d q (suc n) zero = subst (λ m. AllByRecursion (HasTy (member_type schema f m f.atoms)) (members (v (member_type schema f q f.atoms)) (d + q) (d % 3))) (let e : q ≡ q + 0 = omega arith in e) (members_typed (member_type schema f q f.atoms) (d + q) (d % 3))
  known_typed schema f d q (suc n) (suc i) =
      subst (λ m. AllByRecursion (HasTy (member_type schema f m f.atoms)) (get_or (known schema f v d (q + 1) n) i [])) (let e : (q + 1) + i ≡ q + suc i = omega arith in e) (known_typed schema f d (q + 1) n i)

-- ---- types of what is there

of_type : (ty : Ty) (x : Scalar) → HasTy ty x → is_of ty (Some x) ≡ true
of_type tys.Long (scalars.Long n) h = refl
of_type tys.Bool (scalars.Bool b) h = refl
of_type tys.Text (scalars.Text t) h = refl
of_type tys.Long (scalars.Bool b) h = absurd h
of_type tys.Long (scalars.Text t) h = absurd h
of_type tys.Bool (scalars.Long n) h = absurd h
of_type tys.Bool (scalars.Text t) h = absurd h
of_type tys.Text (scalars.Long n) h = absurd h
of_type tys.Text (scalars.Bool b) h = absurd h

cell_typed : (columns : List Column) (xs : List Scalar) (c : ℕ) (ty : Ty) → AreCells columns xs → column_type (slice_get columns c) ≡ Some ty → is_of ty (slice_get xs c) ≡ true
cell_typed [] xs c ty h e = absurd cc
cell_typed (column ∷ columns) [] c ty h e = absurd h
cell_typed (column ∷ columns) (x ∷ xs) zero ty h e = let same : column.ty ≡ ty = cc in subst (λ t. is_of t (Some x) ≡ true) same (of_type column.ty x h.0)
cell_typed (column ∷ columns) (x ∷ xs) (suc c) ty h e = cell_typed columns xs c ty h.1 e

abbrev Typed : Ty → ℕ → Row → Type 0
Typed ty c r = IsTrue (is_of ty (slice_get r.cells c))

rows_typed : (m : ℕ) (schema : Schema) (db : Database) (n c : ℕ) (ty : Ty) → AreTables m schema db → table_column (slice_get schema n) c ≡ Some ty → AllByRecursion (Typed ty c) (rows_of db n)
rows_typed m [] db n c ty h e = absurd cc
rows_typed m (table ∷ schema) [] n c ty h e = absurd h
rows_typed m (table ∷ schema) (held ∷ db) zero c ty h e = all_map (IsRowOf m table.columns) (Typed ty c) (λ r k. cell_typed table.columns r.cells c ty k.1 e) held.1 h.2
rows_typed m (table ∷ schema) (held ∷ db) (suc n) c ty h e = rows_typed (suc m) schema db n c ty h.3 e

same_length : (m : ℕ) (schema : Schema) (db : Database) → AreTables m schema db → length db ≡ length schema
same_length m [] [] h = refl
same_length m [] (held ∷ db) h = absurd h
same_length m (table ∷ schema) [] h = absurd h
same_length m (table ∷ schema) (held ∷ db) h = ap suc (same_length (suc m) schema db h.3)

-- two types that are one
pub record AreOne (a b : Option Ty) : Type 0 where
  pub ty : Ty
  pub left : a ≡ Some ty
  pub right : b ≡ Some ty

one_type : (a b : Option Ty) → same_type a b ≡ true → AreOne a b
one_type (Some tys.Long) (Some tys.Long) h = record { ty = tys.Long; left = refl; right = refl }
one_type (Some tys.Bool) (Some tys.Bool) h = record { ty = tys.Bool; left = refl; right = refl }
one_type (Some tys.Text) (Some tys.Text) h = record { ty = tys.Text; left = refl; right = refl }
one_type (Some tys.Long) (Some tys.Bool) h = absurd cc
one_type (Some tys.Long) (Some tys.Text) h = absurd cc
one_type (Some tys.Bool) (Some tys.Long) h = absurd cc
one_type (Some tys.Bool) (Some tys.Text) h = absurd cc
one_type (Some tys.Text) (Some tys.Long) h = absurd cc
one_type (Some tys.Text) (Some tys.Bool) h = absurd cc
one_type None b h = absurd cc
one_type (Some tys.Long) None h = absurd cc
one_type (Some tys.Bool) None h = absurd cc
one_type (Some tys.Text) None h = absurd cc

left_true : (a b : Bool) → (a && b) ≡ true → a ≡ true
left_true true b e = refl
left_true false b e = absurd cc

right_true : (a b : Bool) → (a && b) ≡ true → b ≡ true
right_true true b e = e
right_true false b e = absurd cc

all_true : {X : Type 0} (p : X → Bool) (xs : List X) → list_all p xs ≡ true → AllByRecursion (λ x. p x ≡ true) xs
all_true p [] h = tt
all_true p (x ∷ xs) h = (left_true (p x) (list_all p xs) h, all_true p xs (right_true (p x) (list_all p xs) h))

five_true : (a b c d e : Bool) → (a && b && c && d && e) ≡ true → (a ≡ true) × (b ≡ true) × (c ≡ true) × (d ≡ true) × (e ≡ true)
five_true true true true true true h = (refl, refl, refl, refl, refl)
five_true false b c d e h = absurd cc
five_true true false c d e h = absurd cc
five_true true true false d e h = absurd cc
five_true true true true false e h = absurd cc
five_true true true true true false h = absurd cc

both_are : (ty : Ty) (o p : Option Scalar) → is_of ty o ≡ true → is_of ty p ≡ true → of_one_variant o p ≡ true
both_are tys.Long (Some (scalars.Long x)) (Some (scalars.Long y)) h g = refl
both_are tys.Bool (Some (scalars.Bool x)) (Some (scalars.Bool y)) h g = refl
both_are tys.Text (Some (scalars.Text x)) (Some (scalars.Text y)) h g = refl
both_are ty None p h g = absurd (no_type ty h)
  where
    no_type : (ty : Ty) → is_of ty None ≡ true → ⊥
    no_type tys.Long e = cc
    no_type tys.Bool e = cc
    no_type tys.Text e = cc
both_are ty (Some x) None h g = absurd (no_type ty g)
  where
    no_type : (ty : Ty) → is_of ty None ≡ true → ⊥
    no_type tys.Long e = cc
    no_type tys.Bool e = cc
    no_type tys.Text e = cc
both_are tys.Long (Some (scalars.Bool x)) (Some p) h g = absurd cc
both_are tys.Long (Some (scalars.Text x)) (Some p) h g = absurd cc
both_are tys.Long (Some (scalars.Long x)) (Some (scalars.Bool y)) h g = absurd cc
both_are tys.Long (Some (scalars.Long x)) (Some (scalars.Text y)) h g = absurd cc
both_are tys.Bool (Some (scalars.Long x)) (Some p) h g = absurd cc
both_are tys.Bool (Some (scalars.Text x)) (Some p) h g = absurd cc
both_are tys.Bool (Some (scalars.Bool x)) (Some (scalars.Long y)) h g = absurd cc
both_are tys.Bool (Some (scalars.Bool x)) (Some (scalars.Text y)) h g = absurd cc
both_are tys.Text (Some (scalars.Long x)) (Some p) h g = absurd cc
both_are tys.Text (Some (scalars.Bool x)) (Some p) h g = absurd cc
both_are tys.Text (Some (scalars.Text x)) (Some (scalars.Long y)) h g = absurd cc
both_are tys.Text (Some (scalars.Text x)) (Some (scalars.Bool y)) h g = absurd cc

are_comparable : (ty : Ty) (o p : Option Scalar) → is_type tys.Bool (Some ty) ≡ false → of_one_variant o p ≡ true → is_of ty o ≡ true → comparable o p ≡ true
are_comparable tys.Long (Some (scalars.Long x)) (Some (scalars.Long y)) n h g = refl
are_comparable tys.Text (Some (scalars.Text x)) (Some (scalars.Text y)) n h g = refl
are_comparable tys.Bool o p n h g = absurd cc
are_comparable tys.Long None p n h g = absurd cc
are_comparable tys.Long (Some (scalars.Bool x)) p n h g = absurd cc
are_comparable tys.Long (Some (scalars.Text x)) p n h g = absurd cc
are_comparable tys.Long (Some (scalars.Long x)) None n h g = absurd cc
are_comparable tys.Long (Some (scalars.Long x)) (Some (scalars.Bool y)) n h g = absurd cc
are_comparable tys.Long (Some (scalars.Long x)) (Some (scalars.Text y)) n h g = absurd cc
are_comparable tys.Text None p n h g = absurd cc
are_comparable tys.Text (Some (scalars.Long x)) p n h g = absurd cc
are_comparable tys.Text (Some (scalars.Bool x)) p n h g = absurd cc
are_comparable tys.Text (Some (scalars.Text x)) None n h g = absurd cc
are_comparable tys.Text (Some (scalars.Text x)) (Some (scalars.Long y)) n h g = absurd cc
are_comparable tys.Text (Some (scalars.Text x)) (Some (scalars.Bool y)) n h g = absurd cc

all_variant : (ty : Ty) (o : Option Scalar) (xs : List Scalar) → is_of ty o ≡ true → AllByRecursion (HasTy ty) xs → of_variant_of_all o xs ≡ true
all_variant tys.Long None xs h g = absurd cc
all_variant tys.Bool None xs h g = absurd cc
all_variant tys.Text None xs h g = absurd cc
all_variant ty (Some x) [] h g = refl
all_variant ty (Some x) (y ∷ ys) h g = let e : same_variant x y ≡ true = both_are ty (Some x) (Some y) h (of_type ty y g.0) in rw e (all_variant ty (Some x) ys h g.1)

entry_typed : (types : List Ty) (xs : List Scalar) (k : ℕ) (ty : Ty) → AreOf types xs → slice_get types k ≡ Some ty → is_of ty (slice_get xs k) ≡ true
entry_typed [] xs k ty h e = absurd cc
entry_typed (t ∷ types) [] k ty h e = absurd h
entry_typed (t ∷ types) (x ∷ xs) zero ty h e = let same : t ≡ ty = cc in subst (λ u. is_of u (Some x) ≡ true) same (of_type t x h.0)
entry_typed (t ∷ types) (x ∷ xs) (suc k) ty h e = entry_typed types xs k ty h.1 e

scalar_typed : (x : Scalar) → is_of (scalar_type x) (Some x) ≡ true
scalar_typed (scalars.Long n) = refl
scalar_typed (scalars.Bool b) = refl
scalar_typed (scalars.Text t) = refl

-- the type of a known list is that of what is looked up in it
found_type : (schema : Schema) (f : Fragment) (a : Operand) (q : ℕ) (ty : Ty) (tests : List Atom) (k : ℕ) → operand_type schema f a ≡ Some ty → list_all (members_agree schema f (atoms.Member a q)) tests ≡ true → slice_get tests k ≡ Some (atoms.Member a q) → member_type schema f q tests ≡ ty
found_type schema f a q ty [] k t h e = absurd cc
found_type schema f a q ty (atoms.Member b r ∷ rest) k t h e = go (nat_eq r q) refl k e (λ j i. found_type schema f a q ty rest j t (right_true (members_agree schema f (atoms.Member a q) (atoms.Member b r)) (list_all (members_agree schema f (atoms.Member a q)) rest) h) i)
  where
    agree : members_agree schema f (atoms.Member a q) (atoms.Member b r) ≡ true
    agree = left_true (members_agree schema f (atoms.Member a q) (atoms.Member b r)) (list_all (members_agree schema f (atoms.Member a q)) rest) h

    own : (same : Bool) → nat_eq q r ≡ same → same ≡ true → (not same || same_type (operand_type schema f a) (operand_type schema f b)) ≡ true → type_or_long (operand_type schema f b) ≡ ty
    own true s n g = let one = one_type (operand_type schema f a) (operand_type schema f b) g in let same : one.ty ≡ ty = (let x : Some one.ty ≡ Some ty = sym one.left ∙ t in cc) in ap type_or_long one.right ∙ same
    own false s n g = absurd cc

    go : (b' : Bool) → nat_eq r q ≡ b' → (k : ℕ) → slice_get (atoms.Member b r ∷ rest) k ≡ Some (atoms.Member a q) → ((j : ℕ) → slice_get rest j ≡ Some (atoms.Member a q) → member_type schema f q rest ≡ ty)
        → cond b' (type_or_long (operand_type schema f b)) (member_type schema f q rest) ≡ ty
    go true s k e ih = let x : nat_eq q r ≡ true = (let y : r ≡ q = eqb-true r q s in grind (arith, nat_tests, y)) in own (nat_eq q r) refl x agree
    go false s zero e ih = absurd (let y : r ≡ q = cc in let x : nat_eq r q ≡ true = grind (arith, nat_tests, y) in cc)
    go false s (suc k) e ih = ih k e
found_type schema f a q ty (atoms.Less x y ∷ rest) zero t h e = absurd cc
found_type schema f a q ty (atoms.Less x y ∷ rest) (suc k) t h e = found_type schema f a q ty rest k t h e
found_type schema f a q ty (atoms.Same x y ∷ rest) zero t h e = absurd cc
found_type schema f a q ty (atoms.Same x y ∷ rest) (suc k) t h e = found_type schema f a q ty rest k t h e
found_type schema f a q ty (atoms.Truth x ∷ rest) zero t h e = absurd cc
found_type schema f a q ty (atoms.Truth x ∷ rest) (suc k) t h e = found_type schema f a q ty rest k t h e
found_type schema f a q ty (atoms.Flag j loops ∷ rest) zero t h e = absurd cc
found_type schema f a q ty (atoms.Flag j loops ∷ rest) (suc k) t h e = found_type schema f a q ty rest k t h e

-- ---- the parts fit

module _ (schema : Schema) (f : Fragment) (db : Database) (entry : Entry) (database : IsDatabaseOf schema db) (given : AreOf f.entries entry.values)
    (lists_known : (q : ℕ) → AllByRecursion (HasTy (member_type schema f q f.atoms)) (get_or entry.known q [])) where
  abbrev here : World
  here = world_given f db entry

  place_typed : (o : Option ListDef) (c : ℕ) (ty : Ty) → list_column schema o c ≡ Some ty → AllByRecursion (Typed ty c) (table_at db o)
  place_typed None c ty e = tt
  place_typed (Some d) c ty e = rows_typed 0 schema db d.table c ty database e

  list_typed : (o : Option ListDef) (c : ℕ) (ty : Ty) → list_column schema o c ≡ Some ty → AllByRecursion (Typed ty c) (list_at db o)
  list_typed None c ty e = tt
  list_typed (Some d) c ty e = all_cut (Typed ty c) d.limit (stable_sort (before d.keys) (rows_of db d.table)) (all_sorted (Typed ty c) (before d.keys) (rows_of db d.table) (rows_typed 0 schema db d.table c ty database e))

  column_fits : (place : Place) → place_is_there schema f place ≡ true → ColumnFits f db place
  column_fits place h = let one = one_type (place_type schema f place) (place_type schema f place) h in (one.ty, place_typed (slice_get f.lists place.0) place.1 one.ty one.left)

  update_fits : (u : Update) → update_is_typed schema f u ≡ true → UpdateFits here u
  update_fits (updates.Plus (elems.Field j c)) h = let one = one_type (Some tys.Long) (place_type schema f (j, c)) h in let same : one.ty ≡ tys.Long = (let x : Some tys.Long ≡ Some one.ty = one.left in cc) in list_typed (slice_get f.lists j) c tys.Long (one.right ∙ ap (λ (t : Ty). Some t) same)
  update_fits (updates.Best way (elems.Field j c)) h = let one = one_type (Some tys.Long) (place_type schema f (j, c)) h in let same : one.ty ≡ tys.Long = (let x : Some tys.Long ≡ Some one.ty = one.left in cc) in list_typed (slice_get f.lists j) c tys.Long (one.right ∙ ap (λ (t : Ty). Some t) same)
  update_fits (updates.Plus (elems.Whole j)) h = tt
  update_fits (updates.Best way (elems.Whole j)) h = tt
  update_fits (updates.Push e) h = tt
  update_fits (updates.PushNew e) h = tt
  update_fits updates.Tick h = tt
  update_fits updates.Mark h = tt

  operand_typed : (rs : ℕ → Row) (a : Operand) (ty : Ty) → operand_type schema f a ≡ Some ty → AreRows here rs (operand_places a) → is_of ty (operand_at here rs a) ≡ true
  operand_typed rs (operands.Field j c) ty e h = contained (Typed ty c) (list_at db (slice_get f.lists j)) (rs j) (list_typed (slice_get f.lists j) c ty e) h.0
  operand_typed rs (operands.Entry k) ty e h = entry_typed f.entries entry.values k ty given e
  operand_typed rs (operands.Lit x) ty e h = let same : scalar_type x ≡ ty = cc in subst (λ t. is_of t (Some x) ≡ true) same (scalar_typed x)

  first_rows : (rs : ℕ → Row) (ps qs : List Place) → AreRows here rs (ps ++ qs) → AreRows here rs ps
  first_rows rs [] qs h = tt
  first_rows rs (p ∷ ps) qs h = (h.0, first_rows rs ps qs h.1)

  last_rows : (rs : ℕ → Row) (ps qs : List Place) → AreRows here rs (ps ++ qs) → AreRows here rs qs
  last_rows rs [] qs h = h
  last_rows rs (p ∷ ps) qs h = last_rows rs ps qs h.1

  not_true : (b : Bool) → not b ≡ true → b ≡ false
  not_true true e = absurd cc
  not_true false e = refl

  one_fits : (k : ℕ) (a : Atom) → slice_get f.atoms k ≡ Some a → atom_is_typed schema f a ≡ true → list_all (members_agree schema f a) f.atoms ≡ true → AtomFits here a
  one_fits k (atoms.Less a b) e h m rs r =
      let one = one_type (operand_type schema f a) (operand_type schema f b) (left_true (same_type (operand_type schema f a) (operand_type schema f b)) (not (is_type tys.Bool (operand_type schema f a))) h) in
      let n : is_type tys.Bool (Some one.ty) ≡ false = ap (is_type tys.Bool) (sym one.left) ∙ not_true (is_type tys.Bool (operand_type schema f a)) (right_true (same_type (operand_type schema f a) (operand_type schema f b)) (not (is_type tys.Bool (operand_type schema f a))) h) in
      let x = operand_typed rs a one.ty one.left (first_rows rs (operand_places a) (operand_places b) r) in
      let y = operand_typed rs b one.ty one.right (last_rows rs (operand_places a) (operand_places b) r) in
      are_comparable one.ty (operand_at here rs a) (operand_at here rs b) n (both_are one.ty (operand_at here rs a) (operand_at here rs b) x y) x
  one_fits k (atoms.Same a b) e h m rs r =
      let one = one_type (operand_type schema f a) (operand_type schema f b) h in
      both_are one.ty (operand_at here rs a) (operand_at here rs b) (operand_typed rs a one.ty one.left (first_rows rs (operand_places a) (operand_places b) r)) (operand_typed rs b one.ty one.right (last_rows rs (operand_places a) (operand_places b) r))
  one_fits k (atoms.Truth a) e h m rs r = let one = one_type (Some tys.Bool) (operand_type schema f a) h in let same : one.ty ≡ tys.Bool = (let x : Some tys.Bool ≡ Some one.ty = one.left in cc) in operand_typed rs a tys.Bool (one.right ∙ ap (λ (t : Ty). Some t) same) r
  one_fits k (atoms.Member a q) e h m rs r =
      let one = one_type (operand_type schema f a) (operand_type schema f a) (right_true (is_field a) (same_type (operand_type schema f a) (operand_type schema f a)) h) in
      let t : member_type schema f q f.atoms ≡ one.ty = found_type schema f a q one.ty f.atoms k one.left m e in
      all_variant one.ty (operand_at here rs a) (get_or entry.known q []) (operand_typed rs a one.ty one.left r) (subst (λ ty. AllByRecursion (HasTy ty) (get_or entry.known q [])) t (lists_known q))
  one_fits k (atoms.Flag j loops) e h m rs r = refl

  all_fit : (n : ℕ) (tests : List Atom) → ((k : ℕ) (a : Atom) → slice_get tests k ≡ Some a → slice_get f.atoms (n + k) ≡ Some a) → AllByRecursion (λ a. atom_is_typed schema f a ≡ true) tests → AllByRecursion (λ a. list_all (members_agree schema f a) f.atoms ≡ true) tests → AllByRecursion (AtomFits here) tests
  all_fit n [] at h m = tt
  all_fit n (a ∷ rest) at h m = (
    one_fits (n + 0) a (at 0 a refl) h.0 m.0,
    all_fit (n + 1) rest (λ k b e. subst (λ i. slice_get f.atoms i ≡ Some b) (let x : n + suc k ≡ (n + 1) + k = omega arith in x) (at (suc k) b e)) h.1 m.1,
  )

  below : (l n : ℕ) → length schema ≡ n → nat_lt l (length schema) ≡ true → l < n
  below l n e h = grind (arith, nat_tests, e, h)

  pub parts_fit : is_typed schema f ≡ true → length entry.known ≡ f.known → PartsFit f db entry
  parts_fit typed many =
      let five = five_true (list_all (λ d. nat_lt d.table (length schema)) f.lists) (list_all (place_is_there schema f) (named_places f)) (list_all (atom_is_typed schema f) f.atoms) (list_all (λ a. list_all (members_agree schema f a) f.atoms) f.atoms) (list_all (λ a. update_is_typed schema f a.update) f.accs) typed in
      record {
        tables = all_map (λ (d : ListDef). nat_lt d.table (length schema) ≡ true) (λ d. d.table < length db) (λ d h. below d.table (length db) (sym (same_length 0 schema db database)) h) f.lists (all_true (λ (d : ListDef). nat_lt d.table (length schema)) f.lists five.0);
        columns = all_map (λ p. place_is_there schema f p ≡ true) (ColumnFits f db) column_fits (named_places f) (all_true (place_is_there schema f) (named_places f) five.1);
        tests = all_fit 0 f.atoms (λ k a e. subst (λ i. slice_get f.atoms i ≡ Some a) (let x : k ≡ 0 + k = omega arith in x) e) (all_true (atom_is_typed schema f) f.atoms five.2) (all_true (λ a. list_all (members_agree schema f a) f.atoms) f.atoms five.3);
        numbers = all_map (λ (a : Accumulator). update_is_typed schema f a.update ≡ true) (λ a. UpdateFits here a.update) (λ a h. update_fits a.update h) f.accs (all_true (λ (a : Accumulator). update_is_typed schema f a.update) f.accs five.4);
        known = many;
        values = given;
      }

-- ---- small databases

pub small_is_of : (schema : Schema) (f : Fragment) (d : ℕ) → IsDatabaseOf schema (small schema f d).db
small_is_of schema f d = are_tables (values f) (is_choice f) d 0 schema

pub small_fits : (schema : Schema) (f : Fragment) (d : ℕ) → is_typed schema f ≡ true → PartsFit f (small schema f d).db (small schema f d).entry
small_fits schema f d typed =
    parts_fit schema f (small schema f d).db (small schema f d).entry (small_is_of schema f d) (are_entries (values f) (is_choice f) d f.entries) (λ q. subst (λ i. AllByRecursion (HasTy (member_type schema f i f.atoms)) (get_or (known schema f (values f) d 0 f.known) q [])) (let e : 0 + q ≡ q = omega arith in e) (known_typed (values f) (is_choice f) schema f d 0 f.known q)) typed (known_many (values f) (is_choice f) schema f d 0 f.known)

-- and what a call answers
pub smalls_made : (schema : Schema) (f : Fragment) (r : Result (List SmallDb) NoMemory) → IfOk r (λ all. all ≡ smalls schema f) → IfOk r (λ all. AllByRecursion (λ (s : SmallDb). IsDatabaseOf schema s.db) all)
smalls_made schema f (Ok all) h =
    subst (AllByRecursion (λ (s : SmallDb). IsDatabaseOf schema s.db)) (sym h)
    (small_is_of schema f 0, (small_is_of schema f 1, (small_is_of schema f 2, (small_is_of schema f 3, (small_is_of schema f 4, (small_is_of schema f 5, (small_is_of schema f 6, (small_is_of schema f 7, tt))))))))
smalls_made schema f (Err x) h = tt

pub smalls_fit : (schema : Schema) (f : Fragment) (r : Result (List SmallDb) NoMemory) → is_typed schema f ≡ true → IfOk r (λ all. all ≡ smalls schema f) → IfOk r (λ all. AllByRecursion (λ (s : SmallDb). PartsFit f s.db s.entry) all)
smalls_fit schema f (Ok all) t h =
    subst (AllByRecursion (λ (s : SmallDb). PartsFit f s.db s.entry)) (sym h)
    (small_fits schema f 0 t, (small_fits schema f 1 t, (small_fits schema f 2 t, (small_fits schema f 3 t, (small_fits schema f 4 t, (small_fits schema f 5 t, (small_fits schema f 6 t, (small_fits schema f 7 t, tt))))))))
smalls_fit schema f (Err x) t h = tt
