-- The tables of a lowered fragment, and the columns that it names by keys and in tests, are in the schema.
use Rattle.std.proofs.Common.{◌≡◌, ℕ, suc, ◌+◌, ◌<◌, Bool, true, not, ◌&&◌, List, [], ◌∷◌, ◌++◌, map, length, nat_lt, Option, Some, None, refl, sym, ap, ◌∙◌, arith, slice_get}
use Rattle.std.specs.List.{AllByRecursion, flat_map, list_all}
use Rattle.std.proofs.lemmas.Bool.{and_parts, lt-ltb}
use Rattle.std.proofs.lemmas.List.Folds.{list_all-append}
use Rattle.qbs_base.specs.declared.columns.Column.{Column}
use Rattle.qbs_base.specs.declared.scalar.Ty.{Ty}
use Rattle.qbs_base.specs.declared.scalar.Ty.TheVariants as tys
use Rattle.qbs_base.specs.Values.{Schema}
use Rattle.qbs_base.specs.Columns.{columns_at}
use Rattle.sql_ast.proofs.Combinations.{all_append}
use Rattle.sql_ast.specs.Tree.{PlainQuery}
use Rattle.java_mean.specs.Types.{Types}
use Rattle.java_loops.specs.Walks.ChainStarts.{HasColumnAt}
use Rattle.kernel_lang.specs.declared.parts.Col.{Col}
use Rattle.kernel_lang.specs.declared.parts.ListDef.{ListDef}
use Rattle.kernel_lang.specs.Fitting.{Place, operand_places, atom_places, key_places}
use Rattle.kernel_lang.specs.Plain as kernel
use Rattle.kernel_lang.specs.Typed.{table_column, list_column, place_type, operand_type, same_type, is_type, atom_is_typed, place_is_there}
use Rattle.kernel_lang.specs.Validity.{is_field}
use Rattle.tor_terms.specs.declared.term.Atom.{Atom}
use Rattle.tor_terms.specs.declared.term.Atom.TheVariants as atoms
use Rattle.tor_terms.specs.declared.term.Operand.{Operand}
use Rattle.tor_terms.specs.declared.term.Operand.TheVariants as operands
use Rattle.loop_text.specs.Statements.Fragment.{Fragment}
use Rattle.java_loops.specs.Kernel.Kernel.{lowering}
use Rattle.java_loops.specs.Lowering.Lowered.{lists_of}
use Rattle.java_loops.specs.Kernel.Setting.{Setting, setting_of}
use Rattle.loop_text.specs.Sites.Sites.{sites_of}
use Rattle.java_loops.proofs.Listed.ListedRows.{IsSeenFragment}
use Rattle.java_loops.proofs.Meant.MeanLists.{list_table}
use Rattle.java_loops.proofs.Meant.MeanTables.{tables_known, keys_known}
use Rattle.java_loops.proofs.Nested.NestRules.{Unbroken}
use Rattle.java_loops.proofs.Numbers.Numberings.{numbering}
use Rattle.java_loops.proofs.Valid.ValidColumns.{column_there}
use Rattle.java_loops.proofs.Valid.ValidOperands.{all_to_test}
use Rattle.java_loops.proofs.Valid.ValidThere.{zip_all}
use Rattle.java_loops.proofs.Valid.ValidTyped.{type_self}
use Rattle.java_loops.proofs.Valid.ValidVisits.{all_weaker}

-- ---- Tests of all members

-- each member passes what all pass
pub each_passes : {A : Type 0} (test : A → Bool) (xs : List A) → list_all test xs ≡ true → AllByRecursion (λ x. test x ≡ true) xs
each_passes test [] h = tt
each_passes test (x ∷ xs) h = let two = and_parts (test x) (list_all test xs) h in (two.0, each_passes test xs two.1)

-- what all parts of all members pass
pub flat_passes : {A B : Type 0} (test : B → Bool) (parts : A → List B) (xs : List A) → AllByRecursion (λ x. list_all test (parts x) ≡ true) xs → list_all test (flat_map parts xs) ≡ true
flat_passes test parts [] a = refl
flat_passes test parts (x ∷ xs) a = list_all-append test (parts x) (flat_map parts xs) ∙ rw (a.0, flat_passes test parts xs a.1) refl

-- ---- Types

pub same_left : (a b : Option Ty) → same_type a b ≡ true → same_type a a ≡ true
same_left (Some tys.Long) b h = refl
same_left (Some tys.Bool) b h = refl
same_left (Some tys.Text) b h = refl
same_left None b h = absurd cc

pub same_right : (a b : Option Ty) → same_type a b ≡ true → same_type b b ≡ true
same_right a (Some tys.Long) h = refl
same_right a (Some tys.Bool) h = refl
same_right a (Some tys.Text) h = refl
same_right (Some tys.Long) None h = absurd cc
same_right (Some tys.Bool) None h = absurd cc
same_right (Some tys.Text) None h = absurd cc
same_right None None h = absurd cc

-- a place with a type is there
pub typed_place : (schema : Schema) (f : kernel.Fragment) (place : Place) (ty : Ty) → place_type schema f place ≡ Some ty → place_is_there schema f place ≡ true
typed_place schema f place ty h = ap (λ o. same_type o o) h ∙ type_self ty

-- ---- Columns of lists

-- a column of the table of a list's loop has its type
pub known_place : (w : Setting) (j i : ℕ) (d : ListDef) (column : Column) → slice_get (lists_of w w.sites) j ≡ Some d → slice_get (columns_at w.schema ((numbering w).tables j)) i ≡ Some column → place_type w.schema (lowering w).fragment (j, i) ≡ Some column.ty
known_place w j i d column get there =
    ap (λ o. list_column w.schema o i) get
    ∙ ap (λ n. table_column (slice_get w.schema n) i) (list_table w j d get)
    ∙ column_there w.schema ((numbering w).tables j) i column there

-- the list of a place
record ListAt (all : List ListDef) (place : Place) : Type 0 where
  list : ListDef
  there : slice_get all place.0 ≡ Some list

list_listed : (all : List ListDef) (j : ℕ) (d : ListDef) (keys : List Col) → slice_get all j ≡ Some d → AllByRecursion (ListAt all) (map (λ (key : Col). (j, key.column)) keys)
list_listed all j d [] h = tt
list_listed all j d (key ∷ keys) h = (record { list = d; there = h }, list_listed all j d keys h)

keys_listed : (all : List ListDef) (j : ℕ) (ds : List ListDef) → ((i m : ℕ) (d : ListDef) → j + i ≡ m → slice_get ds i ≡ Some d → slice_get all m ≡ Some d) → AllByRecursion (ListAt all) (key_places j ds)
keys_listed all j [] h = tt
keys_listed all j (d ∷ ds) h =
    all_append (ListAt all) (map (λ (key : Col). (j, key.column)) d.keys) (key_places (suc j) ds)
    (list_listed all j d d.keys (h 0 j d (omega arith) refl))
    (keys_listed all (suc j) ds (λ i m e q get. h (suc i) m e (omega (arith, q)) get))

same_list : (all : List ListDef) (i m : ℕ) (d : ListDef) → 0 + i ≡ m → slice_get all i ≡ Some d → slice_get all m ≡ Some d
same_list all i m d e get = let same : i ≡ m = omega (arith, e) in ap (slice_get all) (sym same) ∙ get

key_there : (w : Setting) (place : Place) → HasColumnAt (numbering w) place → ListAt (lists_of w w.sites) place → place_is_there w.schema (lowering w).fragment place ≡ true
key_there w place h l = typed_place w.schema (lowering w).fragment place h.column.ty (known_place w place.0 place.1 l.list h.column l.there h.there)

module _ (schema : Schema) (read : List ℕ → Option PlainQuery) (f : Fragment) (g : Types) (k : IsSeenFragment schema read f g) (u : Unbroken (setting_of schema read g f)) where
  abbrev w : Setting
  w = setting_of schema read g f

  abbrev lists : List ListDef
  lists = lists_of w w.sites

  -- the tables of all lists are in the schema
  pub tables_there : list_all (λ (d : ListDef). nat_lt d.table (length schema)) (lists_of (setting_of schema read g f) (sites_of f.loop)) ≡ true
  tables_there =
      all_to_test (λ (d : ListDef). nat_lt d.table (length schema)) lists
      (all_weaker (λ (d : ListDef). d.table < length schema) (λ (d : ListDef). nat_lt d.table (length schema) ≡ true) lists (λ d h. lt-ltb d.table (length schema) h) (tables_known schema read f g k u))

  -- and so are the columns of their keys
  pub keys_there : list_all (place_is_there schema (lowering (setting_of schema read g f)).fragment) (key_places 0 (lists_of (setting_of schema read g f) (sites_of f.loop))) ≡ true
  keys_there =
      let test : Place → Bool = place_is_there schema (lowering w).fragment in
      all_to_test test (key_places 0 lists)
      (all_weaker (λ place. HasColumnAt (numbering w) place × ListAt lists place) (λ place. test place ≡ true) (key_places 0 lists) (λ place h. key_there w place h.0 h.1)
      (zip_all (HasColumnAt (numbering w)) (ListAt lists) (key_places 0 lists) (keys_known schema read f g k u) (keys_listed lists 0 lists (same_list lists))))

-- ---- Columns in tests

operand_there : (schema : Schema) (f : kernel.Fragment) (a : Operand) → same_type (operand_type schema f a) (operand_type schema f a) ≡ true → list_all (place_is_there schema f) (operand_places a) ≡ true
operand_there schema f (operands.Field j c) h = ap (λ b. b && true) h
operand_there schema f (operands.Entry k) h = refl
operand_there schema f (operands.Lit x) h = refl

operands_there : (schema : Schema) (f : kernel.Fragment) (a b : Operand) → same_type (operand_type schema f a) (operand_type schema f b) ≡ true → list_all (place_is_there schema f) (operand_places a ++ operand_places b) ≡ true
operands_there schema f a b h =
    list_all-append (place_is_there schema f) (operand_places a) (operand_places b)
    ∙ rw (operand_there schema f a (same_left (operand_type schema f a) (operand_type schema f b) h), operand_there schema f b (same_right (operand_type schema f a) (operand_type schema f b) h)) refl

-- the columns of a typed test
atom_there : (schema : Schema) (f : kernel.Fragment) (a : Atom) → atom_is_typed schema f a ≡ true → list_all (place_is_there schema f) (atom_places a) ≡ true
atom_there schema f (atoms.Less a b) h = operands_there schema f a b (and_parts (same_type (operand_type schema f a) (operand_type schema f b)) (not (is_type tys.Bool (operand_type schema f a))) h).0
atom_there schema f (atoms.Same a b) h = operands_there schema f a b h
atom_there schema f (atoms.Truth a) h = operand_there schema f a (same_right (Some tys.Bool) (operand_type schema f a) h)
atom_there schema f (atoms.Member a q) h = operand_there schema f a (and_parts (is_field a) (same_type (operand_type schema f a) (operand_type schema f a)) h).1
atom_there schema f (atoms.Flag k loops) h = refl

-- Where tests are typed, their columns are in the schema.
pub tests_there : (schema : Schema) (f : kernel.Fragment) → list_all (atom_is_typed schema f) f.atoms ≡ true → list_all (place_is_there schema f) (flat_map atom_places f.atoms) ≡ true
tests_there schema f h =
    flat_passes (place_is_there schema f) atom_places f.atoms
    (all_weaker (λ a. atom_is_typed schema f a ≡ true) (λ a. list_all (place_is_there schema f) (atom_places a) ≡ true) f.atoms (atom_there schema f) (each_passes (atom_is_typed schema f) f.atoms h))
