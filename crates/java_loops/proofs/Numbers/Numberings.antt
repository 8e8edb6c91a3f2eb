-- The numbering of a fragment, and what is known of the names that are visible at a site.
use Rattle.std.proofs.Common.{◌≡◌, ℕ, true, List, Option, Some, None, map, bytes_eq, slice_get}
use Rattle.std.specs.List.{filter}
use Rattle.qbs_base.specs.declared.scalar.Ty.{Ty}
use Rattle.qbs_base.specs.declared.scalar.Ty.TheVariants as tys
use Rattle.qbs_base.specs.declared.span.Span.{Span}
use Rattle.java_ast.specs.Tree as tree
use Rattle.java_ast.specs.Tree.{Expression, Statement}
use Rattle.java_mean.specs.declared.types.JavaType.{JavaType}
use Rattle.java_mean.specs.declared.types.JavaType.TheVariants.{Of, Listed, Distinct}
use Rattle.java_mean.specs.declared.types.Single.TheVariants.{ScalarOf, RowOf}
use Rattle.java_mean.specs.Types.{Types}
use Rattle.java_mean.specs.Typing.{bool}
use Rattle.java_loops.specs.Walks.Numbering.{Source, FromTable, FromVariable, Numbering, Reads, Flags}
use Rattle.loop_text.specs.Kernel.KernelConditions.{may_read}
use Rattle.loop_text.specs.Statements.Loops.{is_loop}
use Rattle.java_loops.specs.Lowering.Lowered.{type_of_entry}
use Rattle.java_loops.specs.Lowering.Numbering.{loop_number, table_of_loop, table_of_site, same_entry, entries_of, known_of, flag_number, starts_true}
use Rattle.java_loops.specs.Kernel.Setting.{Setting}
use Rattle.loop_text.specs.declared.sites.bindings.Binding.TheVariants.{Row, Local, Outer}
use Rattle.loop_text.specs.Sites.Sites.{Site, binding_at}
use Rattle.java_loops.proofs.Numbers.NumberLists.{found_where}

-- ---- The numbering

abbrev pub loop_sites : List Site → List Site
loop_sites sites = filter (λ (s : Site). is_loop s.statement) sites

abbrev pub source_of_list : Expression → Option Source
source_of_list (tree.Fetch at t) = Some (FromTable t)
source_of_list (tree.Var at x) = Some (FromVariable x)
source_of_list _ = None

-- a loop that counts may cut its list, which is then in no variable
abbrev pub source_of_loop : Statement → Option Source
source_of_loop (tree.ForEach at ty x e b) = source_of_list e
source_of_loop _ = None

abbrev pub source_of_site : Option Site → Option Source
source_of_site (Some s) = source_of_loop s.statement
source_of_site None = None

-- A variable, or a field of one. Where it stands doesn't matter.
abbrev pub nowhere : Span
nowhere = record { line = 0; column = 0; start = 0; end = 0 }

abbrev pub entry_named : List ℕ → Option (List ℕ) → Expression
entry_named x None = tree.Var nowhere x
entry_named x (Some f) = tree.Field nowhere (tree.Var nowhere x) f

-- the type of the scalars of a list or a set
abbrev pub type_of_members : Option JavaType → Ty
type_of_members (Some (Listed (ScalarOf ty))) = ty
type_of_members (Some (Distinct (ScalarOf ty))) = ty
type_of_members _ = tys.Long

-- Loops have their numbers and tables among the loops, entry values and known lists theirs among those of the
-- conditions. No loop is in sight.
abbrev pub numbering : Setting → Numbering
numbering w =
    record {
      schema = w.schema;
      tables = λ j. table_of_site w.schema (slice_get (loop_sites w.sites) j);
      sources = λ j. source_of_site (slice_get (loop_sites w.sites) j);
      loops = λ x. None;
      entries = λ x f. found_where (same_entry (entry_named x f)) (entries_of w);
      entry_types = map (type_of_entry w.schema w.types) (entries_of w);
      known = λ x. found_where (bytes_eq x) (known_of w);
      known_types = map (λ x. type_of_members (w.types x)) (known_of w);
    }

-- ---- What is visible at a site

-- a name of this type is the row of the loop with this number among the sites
pub record RowSeen (w : Setting) (loops : List ℕ → Option ℕ) (x : List ℕ) (k : JavaType) (j : ℕ) : Type 0 where
  pub number : loops x ≡ Some (loop_number w.sites j)
  pub site : Site
  pub there : slice_get w.sites j ≡ Some site
  pub is_loop : is_loop site.statement ≡ true
  pub type : k ≡ Of (RowOf (table_of_loop w.schema site.statement))

-- Of the names that are visible with these types at the site with this number: those that are rows have their
-- loops' numbers, those from outside have the types that they have there, and the others are truth values.
pub record Sighted (w : Setting) (n : ℕ) (g : Types) (loops : List ℕ → Option ℕ) : Type 0 where
  pub rows : (x : List ℕ) (k : JavaType) (j : ℕ) → g x ≡ Some k → binding_at w.sites n x ≡ Row j → RowSeen w loops x k j
  pub outer : (x : List ℕ) (k : JavaType) → g x ≡ Some k → binding_at w.sites n x ≡ Outer → w.types x ≡ Some k
  pub locals : (x : List ℕ) (k : JavaType) (d : ℕ) → g x ≡ Some k → binding_at w.sites n x ≡ Local d → k ≡ bool

-- each visible flag that the `if` with this number may read is read as its accumulator
pub record FlagsSeen (w : Setting) (n : ℕ) (g : Types) (flags : Flags) : Type 0 where
  pub by : (x : List ℕ) (k : JavaType) (d : ℕ) (s : Site) → g x ≡ Some k → binding_at w.sites n x ≡ Local d → slice_get w.sites d ≡ Some s → may_read w.sites n d ≡ true → flags x ≡ Some (Reads (flag_number w d) (starts_true s.statement) (map (loop_number w.sites) s.round.loops))
