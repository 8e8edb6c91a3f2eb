-- No name breaks a rule exactly where the tables are as the rules ask.
use Rattle.std.proofs.Common.{◌≡◌, ℕ, ◌+◌, ◌≤◌, Bool, true, false, ◌||◌, cond, List, [], ◌∷◌, ◌++◌, length, Option, Some, None, map, refl, sym, subst, append_assoc, arith}
use Rattle.std.specs.Prelude.{nat_le}
use Rattle.std.specs.List.{AllByRecursion, IsDistinct}
use Rattle.std.specs.Str.{bytes_eq}
use Rattle.std.proofs.lemmas.List.{append-nil, length-append, length-map}
use Rattle.std.proofs.lemmas.Bool.Decides.{nat_tests}
use Rattle.readers.specs.Reading.{option_cases}
use Rattle.qbs_base.specs.declared.columns.Column.{Column}
use Rattle.qbs_base.specs.declared.columns.Table.{Table}
use Rattle.schema.specs.declared.token.Token.{Token}
use Rattle.schema.specs.declared.names.Where.TheVariants.{Create}
use Rattle.schema.specs.declared.names.Seen.{Seen}
use Rattle.schema.specs.declared.fault.SchemaRule.{SchemaRule}
use Rattle.schema.specs.declared.fault.SchemaRule.TheVariants.{DoubleTable, DoubleColumn, NameReserved, TooManyTables, TooManyColumns}
use Rattle.schema.specs.declared.fault.SchemaFault.{SchemaFault}
use Rattle.schema.specs.Words.{is_among, is_reserved, is_reserved_table}
use Rattle.schema.specs.Tokens.{kinds_of}
use Rattle.schema.specs.Grammar.{HasSchema}
use Rattle.schema.specs.Naming.{Declared, declared_before, nothing_seen, seen_with, broken_by, first_broken}
use Rattle.schema.specs.Rules.{AreColumns, IsSchema}
use Rattle.schema_text.proofs.Agreement.{Plain, plain_of, columns_names, tables_names, names_agree}

-- ---- names one after the other

-- each name of a list breaks no rule behind those before it
abbrev Fine : Seen → List Plain → Type 0
Fine s [] = Unit {0}
Fine s (p ∷ ps) = (broken_by s p.0 p.1 ≡ None) × Fine (seen_with s p.0 p.1) ps

none_first : (o : Option SchemaRule) (rest : Option SchemaFault) (f : SchemaRule → SchemaFault) → option_cases o rest (λ r. Some (f r)) ≡ None → (o ≡ None) × (rest ≡ None)
none_first None rest f e = (refl, e)
none_first (Some r) rest f e = absurd cc

fine_of : (s : Seen) (ds : List Declared) → first_broken s ds ≡ None → Fine s (map plain_of ds)
unfolding first_broken
fine_of s [] e = tt
fine_of s (d ∷ ds) e =
    let h = none_first (broken_by s d.role d.name) (first_broken (seen_with s d.role d.name) ds) (λ rule. record { rule = rule; at = d.span }) e in
    (h.0, fine_of (seen_with s d.role d.name) ds h.1)

of_fine : (s : Seen) (ds : List Declared) → Fine s (map plain_of ds) → first_broken s ds ≡ None
unfolding first_broken
of_fine s [] h = refl
of_fine s (d ∷ ds) h = rw h.0 (of_fine (seen_with s d.role d.name) ds h.1)

-- ---- three tests in a row

three : (a b c : Bool) (x y z : SchemaRule) → cond a (Some x) (cond b (Some y) (cond c (Some z) None)) ≡ None → (a ≡ false) × (b ≡ false) × (c ≡ false)
three true b c x y z e = absurd cc
three false true c x y z e = absurd cc
three false false true x y z e = absurd cc
three false false false x y z e = (refl, refl, refl)

-- names of one kind, behind those of it before: none twice, none that is reserved, no more than so many
abbrev Each : ℕ → (List ℕ → Bool) → List (List ℕ) → List (List ℕ) → Type 0
Each most reserved earlier [] = Unit {0}
Each most reserved earlier (n ∷ ns) = (is_among bytes_eq earlier n ≡ false) × (reserved n ≡ false) × (nat_le most (length earlier) ≡ false) × Each most reserved (earlier ++ n ∷ []) ns

-- ---- different names

neither : (a b : Bool) → (a || b) ≡ false → (a ≡ false) × (b ≡ false)
neither true b e = absurd cc
neither false b e = (refl, e)

push_all : (P : List ℕ → Type 0) (ns : List (List ℕ)) (n : List ℕ) → AllByRecursion P ns → P n → AllByRecursion P (ns ++ n ∷ [])
push_all P [] n h p = (p, tt)
push_all P (m ∷ ns) n h p = (h.0, push_all P ns n h.1 p)

last_of_all : (P : List ℕ → Type 0) (ns ms : List (List ℕ)) (n : List ℕ) → AllByRecursion P (ns ++ n ∷ ms) → P n
last_of_all P [] ms n h = h.0
last_of_all P (m ∷ ns) ms n h = last_of_all P ns ms n h.1

distinct_push : (ns : List (List ℕ)) (n : List ℕ) → IsDistinct bytes_eq ns → is_among bytes_eq ns n ≡ false → IsDistinct bytes_eq (ns ++ n ∷ [])
unfolding IsDistinct
distinct_push [] n h e = (tt, tt)
distinct_push (m ∷ ns) n h e =
    let parts = neither (bytes_eq m n) (is_among bytes_eq ns n) e in
    (push_all (λ k. bytes_eq m k ≡ false) ns n h.0 parts.0, distinct_push ns n h.1 parts.1)

distinct_before : (ns ms : List (List ℕ)) (n : List ℕ) → IsDistinct bytes_eq (ns ++ n ∷ ms) → is_among bytes_eq ns n ≡ false
unfolding IsDistinct
distinct_before [] ms n h = refl
distinct_before (m ∷ ns) ms n h =
    let first = last_of_all (λ k. bytes_eq m k ≡ false) ns ms n h.0 in
    let others = distinct_before ns ms n h.1 in
    rw (first, others) refl

-- ---- names of one kind

below : (most n : ℕ) → nat_le most n ≡ false → n + 1 ≤ most
below most n e = grind (arith, nat_tests, e)

not_above : (most n : ℕ) → n + 1 ≤ most → nat_le most n ≡ false
not_above most n le = grind (arith, nat_tests, le)

module _ (most : ℕ) (reserved : List ℕ → Bool) where
  each_free : (earlier ns : List (List ℕ)) → Each most reserved earlier ns → AllByRecursion (λ n. reserved n ≡ false) ns
  each_free earlier [] h = tt
  each_free earlier (n ∷ ns) h = (h.1, each_free (earlier ++ n ∷ []) ns h.3)

  each_distinct : (earlier ns : List (List ℕ)) → IsDistinct bytes_eq earlier → Each most reserved earlier ns → IsDistinct bytes_eq (earlier ++ ns)
  unfolding IsDistinct
  each_distinct earlier [] d h = subst (IsDistinct bytes_eq) (sym (append-nil earlier)) d
  each_distinct earlier (n ∷ ns) d h = subst (IsDistinct bytes_eq) (append_assoc earlier (n ∷ []) ns) (each_distinct (earlier ++ n ∷ []) ns (distinct_push earlier n d h.0) h.3)

  each_few : (earlier ns : List (List ℕ)) → length earlier ≤ most → Each most reserved earlier ns → length earlier + length ns ≤ most
  each_few earlier [] le h = omega arith
  each_few earlier (n ∷ ns) le h =
      let one = length-append earlier (n ∷ []) in
      let first = below most (length earlier) h.2 in
      let others = each_few (earlier ++ n ∷ []) ns (omega (arith, one, first)) h.3 in
      omega (arith, one, others)

  each_of : (earlier ns : List (List ℕ)) → IsDistinct bytes_eq (earlier ++ ns) → AllByRecursion (λ n. reserved n ≡ false) ns → length earlier + length ns ≤ most → Each most reserved earlier ns
  unfolding IsDistinct
  each_of earlier [] d f le = tt
  each_of earlier (n ∷ ns) d f le =
      let one = length-append earlier (n ∷ []) in (
        distinct_before earlier ns n d,
        f.0,
        not_above most (length earlier) (omega arith),
        each_of (earlier ++ n ∷ []) ns (subst (IsDistinct bytes_eq) (sym (append_assoc earlier (n ∷ []) ns)) d) f.1 (omega (arith, one)),
      )

-- ---- tables and their columns

abbrev names_of : List Column → List (List ℕ)
names_of columns = map (λ c. c.name) columns

fine_columns : (tables earlier : List (List ℕ)) (columns : List Column) (ps : List Plain) → Fine (record { tables = tables; columns = earlier }) (columns_names columns ++ ps)
    → Each 32 is_reserved earlier (names_of columns) × Fine (record { tables = tables; columns = earlier ++ names_of columns }) ps
fine_columns tables earlier [] ps h = (tt, subst (λ (ns : List (List ℕ)). Fine (record { tables = tables; columns = ns }) ps) (sym (append-nil earlier)) h)
fine_columns tables earlier (c ∷ columns) ps h =
    let tests = three (is_among bytes_eq earlier c.name) (is_reserved c.name) (nat_le 32 (length earlier)) DoubleColumn NameReserved TooManyColumns h.0 in
    let others = fine_columns tables (earlier ++ c.name ∷ []) columns ps h.1 in
    ((tests.0, tests.1, tests.2, others.0), subst (λ (ns : List (List ℕ)). Fine (record { tables = tables; columns = ns }) ps) (append_assoc earlier (c.name ∷ []) (names_of columns)) others.1)

columns_fine : (tables earlier : List (List ℕ)) (columns : List Column) (ps : List Plain) → Each 32 is_reserved earlier (names_of columns) → Fine (record { tables = tables; columns = earlier ++ names_of columns }) ps
    → Fine (record { tables = tables; columns = earlier }) (columns_names columns ++ ps)
columns_fine tables earlier [] ps h f = subst (λ (ns : List (List ℕ)). Fine (record { tables = tables; columns = ns }) ps) (append-nil earlier) f
columns_fine tables earlier (c ∷ columns) ps h f = (
  rw (h.0, h.1, h.2) refl,
  columns_fine tables (earlier ++ c.name ∷ []) columns ps h.3 (subst (λ (ns : List (List ℕ)). Fine (record { tables = tables; columns = ns }) ps) (sym (append_assoc earlier (c.name ∷ []) (names_of columns))) f),
)

-- whatever columns stand before, tables and their columns
abbrev EachTable : List (List ℕ) → List Table → Type 0
EachTable earlier tables = Each 64 is_reserved_table earlier (map (λ t. t.name) tables) × AllByRecursion (λ t. Each 32 is_reserved [] (names_of t.columns)) tables

fine_tables : (earlier columns : List (List ℕ)) (tables : List Table) → Fine (record { tables = earlier; columns = columns }) (tables_names tables) → EachTable earlier tables
fine_tables earlier columns [] h = (tt, tt)
fine_tables earlier columns (t ∷ tables) h =
    let tests = three (is_among bytes_eq earlier t.name) (is_reserved_table t.name) (nat_le 64 (length earlier)) DoubleTable NameReserved TooManyTables h.0 in
    let inner = fine_columns (earlier ++ t.name ∷ []) [] t.columns (tables_names tables) h.1 in
    let others = fine_tables (earlier ++ t.name ∷ []) (names_of t.columns) tables inner.1 in
    ((tests.0, tests.1, tests.2, others.0), (inner.0, others.1))

tables_fine : (earlier columns : List (List ℕ)) (tables : List Table) → EachTable earlier tables → Fine (record { tables = earlier; columns = columns }) (tables_names tables)
tables_fine earlier columns [] h = tt
tables_fine earlier columns (t ∷ tables) h = (
  rw (h.0.0, h.0.1, h.0.2) refl,
  columns_fine (earlier ++ t.name ∷ []) [] t.columns (tables_names tables) h.1.0 (tables_fine (earlier ++ t.name ∷ []) (names_of t.columns) tables (h.0.3, h.1.1)),
)

-- ---- what the rules ask

map_all : {A B : Type 0} (f : A → B) (P : B → Type 0) (xs : List A) → AllByRecursion P (map f xs) → AllByRecursion (λ x. P (f x)) xs
map_all f P [] h = tt
map_all f P (x ∷ xs) h = (h.0, map_all f P xs h.1)

all_map : {A B : Type 0} (f : A → B) (P : B → Type 0) (xs : List A) → AllByRecursion (λ x. P (f x)) xs → AllByRecursion P (map f xs)
all_map f P [] h = tt
all_map f P (x ∷ xs) h = (h.0, all_map f P xs h.1)

each_columns : (tables : List Table) → AllByRecursion (λ t. Each 32 is_reserved [] (names_of t.columns)) tables → AllByRecursion (λ t. AreColumns t.columns) tables
unfolding IsDistinct
each_columns [] h = tt
each_columns (t ∷ tables) h =
    let few = each_few 32 is_reserved [] (names_of t.columns) (omega arith) h.0 in (
      record {
        few = omega (arith, few, length-map t.columns (λ c. c.name));
        distinct = each_distinct 32 is_reserved [] (names_of t.columns) tt h.0;
        free = map_all (λ c. c.name) (λ n. is_reserved n ≡ false) t.columns (each_free 32 is_reserved [] (names_of t.columns) h.0);
      },
      each_columns tables h.1,
    )

columns_each : (tables : List Table) → AllByRecursion (λ t. AreColumns t.columns) tables → AllByRecursion (λ t. Each 32 is_reserved [] (names_of t.columns)) tables
unfolding IsDistinct
columns_each [] h = tt
columns_each (t ∷ tables) h =
    let few = h.0.few in (
      each_of 32 is_reserved [] (names_of t.columns) h.0.distinct (all_map (λ c. c.name) (λ n. is_reserved n ≡ false) t.columns h.0.free) (omega (arith, few, length-map t.columns (λ c. c.name))),
      columns_each tables h.1,
    )

-- where no name breaks a rule
pub sound : (ts : List Token) (tables : List Table) → HasSchema (kinds_of ts) tables → first_broken nothing_seen (declared_before 0 Create ts) ≡ None → IsSchema tables
unfolding IsDistinct
sound ts tables h e =
    let fine : Fine nothing_seen (tables_names tables) = subst (Fine nothing_seen) (names_agree ts tables h) (fine_of nothing_seen (declared_before 0 Create ts) e) in
    let each = fine_tables [] [] tables fine in
    let few = each_few 64 is_reserved_table [] (map (λ t. t.name) tables) (omega arith) each.0 in
    record {
      few = omega (arith, few, length-map tables (λ t. t.name));
      distinct = each_distinct 64 is_reserved_table [] (map (λ t. t.name) tables) tt each.0;
      free = map_all (λ t. t.name) (λ n. is_reserved_table n ≡ false) tables (each_free 64 is_reserved_table [] (map (λ t. t.name) tables) each.0);
      columns = each_columns tables each.1;
    }

-- where the tables are as the rules ask
pub unbroken : (ts : List Token) (tables : List Table) → HasSchema (kinds_of ts) tables → IsSchema tables → first_broken nothing_seen (declared_before 0 Create ts) ≡ None
unbroken ts tables h s =
    let few = s.few in
    let each : EachTable [] tables = (
      each_of 64 is_reserved_table [] (map (λ t. t.name) tables) s.distinct (all_map (λ t. t.name) (λ n. is_reserved_table n ≡ false) tables s.free) (omega (arith, few, length-map tables (λ t. t.name))),
      columns_each tables s.columns,
    ) in
    of_fine nothing_seen (declared_before 0 Create ts) (subst (Fine nothing_seen) (sym (names_agree ts tables h)) (tables_fine [] [] tables each))
