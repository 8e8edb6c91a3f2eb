-- Where a fragment begins: what it is given is in the store and in the database.
use Rattle.std.specs.Prelude.{◌≡◌, ℕ, ◌<◌, Bool, List, [], Option, Some, None, slice_get, get_or, length}
use Rattle.std.specs.List.{AllByRecursion}
use Rattle.qbs_base.specs.declared.columns.Column.{Column}
use Rattle.qbs_base.specs.declared.scalar.Ty.{Ty}
use Rattle.qbs_base.specs.Named.{at_name}
use Rattle.qbs_base.specs.Values.{IsDatabaseOf, AreOf}
use Rattle.qbs_base.specs.Columns.{table_number, columns_at}
use Rattle.java_ast.specs.Tree.{Expression, Statement}
use Rattle.java_mean.specs.Store.{Store}
use Rattle.java_mean.specs.World as java
use Rattle.tor_terms.specs.declared.term.Atom.{Atom}
use Rattle.tor_terms.specs.Plain.{Form}
use Rattle.kernel_lang.specs.declared.parts.Entry.{Entry}
use Rattle.kernel_lang.specs.declared.parts.ListDef.{ListDef}
use Rattle.kernel_lang.specs.Given.{list_at}
use Rattle.kernel_lang.specs.Fitting.{Place, key_places}
use Rattle.kernel_lang.specs.Plain.{Accumulator, Fragment}
use Rattle.kernel_lang.specs.Running.{Layer}
use Rattle.java_loops.specs.Walks.Chains.{By, IsChain}
use Rattle.java_loops.specs.Walks.Forms.{IsAtom}
use Rattle.java_loops.specs.Walks.Matched.{entry_value, HoldsScalar, HoldsRows, HoldsScalars}
use Rattle.java_loops.specs.Walks.Numbering.{FromTable, FromVariable, Numbering, Flags, with_loops}

-- the whole table, in the order in which it is
abbrev pub whole_list : ℕ → ListDef
whole_list table = record { table = table; keys = []; limit = None }

-- Each list is of its loop's table, a table that is fetched stands whole, a variable holds its list, and the entry
-- values and known lists are those of the store. No loop is in sight.
pub record Begins (n : Numbering) (f : Fragment) (w : java.World) (env : Store) (entry : Entry) : Type 0 where
  pub schema : w.schema ≡ n.schema
  pub database : IsDatabaseOf n.schema w.db
  pub tables : (j : ℕ) (d : ListDef) → slice_get f.lists j ≡ Some d → d.table ≡ n.tables j
  pub fetched : (j : ℕ) (t : List ℕ) → n.sources j ≡ Some (FromTable t) → (table_number n.schema t ≡ Some (n.tables j)) × (slice_get f.lists j ≡ Some (whole_list (n.tables j)))
  pub variables : (j : ℕ) (x : List ℕ) → n.sources j ≡ Some (FromVariable x) → HoldsRows (list_at w.db (slice_get f.lists j)) (at_name env x)
  pub loops : (x : List ℕ) → n.loops x ≡ None
  pub entries : (x : List ℕ) (g : Option (List ℕ)) (e : ℕ) (ty : Ty) → n.entries x g ≡ Some e → slice_get n.entry_types e ≡ Some ty → HoldsScalar ty (slice_get entry.values e) (entry_value w env x g)
  pub known : (x : List ℕ) (q : ℕ) (ty : Ty) → n.known x ≡ Some q → slice_get n.known_types q ≡ Some ty → HoldsScalars ty (get_or entry.known q []) (at_name env x)

-- ---- Fragments whose parts stand for conditions and statements

pub record StandsForCondition (n : Numbering) (a : Atom) : Type 0 where
  pub loops : List ℕ → Option ℕ
  pub flags : Flags
  pub condition : Expression
  pub truth : Bool
  pub is : IsAtom (with_loops loops n) flags condition a truth

pub record StandsForStatement (f : Fragment) (n : Numbering) (acc : Accumulator) : Type 0 where
  pub quiet : Bool
  pub loops : List ℕ → Option ℕ
  pub flags : Flags
  pub statement : Statement
  pub variable : List ℕ
  pub conditions : List Form
  pub layers : List Layer
  pub is : IsChain f quiet (with_loops loops n) flags statement variable conditions layers (By acc.update acc.opposite)

-- the column of the loop's table
pub record HasColumnAt (n : Numbering) (place : Place) : Type 0 where
  pub column : Column
  pub there : slice_get (columns_at n.schema (n.tables place.0)) place.1 ≡ Some column

pub record IsMade (f : Fragment) (n : Numbering) (entry : Entry) : Type 0 where
  pub tests : AllByRecursion (StandsForCondition n) f.atoms
  pub updates : AllByRecursion (StandsForStatement f n) f.accs
  pub keys : AllByRecursion (HasColumnAt n) (key_places 0 f.lists)
  pub tables : AllByRecursion (λ d. d.table < length n.schema) f.lists
  pub known : length entry.known ≡ f.known
  pub values : AreOf f.entries entry.values
