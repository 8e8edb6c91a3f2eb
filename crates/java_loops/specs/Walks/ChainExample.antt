-- A loop with branches, a flag, an entry value and a known list, and the fragment that has its chains.
use Rattle.std.specs.Prelude.{◌≡◌, ℕ, true, false, List, [], ◌∷◌, Option, Some, None, codes, nat_eq, if◌then◌else◌}
use Rattle.std.specs.Str.{bytes_eq}
use Rattle.std.specs.Option.{option_map}
use Rattle.qbs_base.specs.declared.scalar.Scalar.TheVariants as scalars
use Rattle.qbs_base.specs.declared.scalar.Ty.TheVariants as tys
use Rattle.qbs_base.specs.declared.scalar.Value.{Value}
use Rattle.qbs_base.specs.declared.scalar.Value.TheVariants.{One, Many}
use Rattle.java_ast.specs.declared.tree.Op.{Op}
use Rattle.java_ast.specs.declared.tree.Op.TheVariants as ops
use Rattle.java_ast.specs.Tree as tree
use Rattle.java_ast.specs.Tree.{Expression, Statement, Statements}
use Rattle.java_mean.specs.Expression.{alone}
use Rattle.java_mean.specs.Store.{Store, plainly}
use Rattle.sql_ast.specs.Worked.{staff_schema, role}
use Rattle.java_mean.specs.Worked.{somewhere, staff, User, Role, block, field, for_each, u, out, long}
use Rattle.tor_terms.specs.declared.term.Atom.TheVariants as atoms
use Rattle.tor_terms.specs.declared.term.Elem.TheVariants as elems
use Rattle.tor_terms.specs.declared.term.Operand.TheVariants as operands
use Rattle.tor_terms.specs.declared.term.Way.TheVariants as ways
use Rattle.tor_terms.specs.Plain.{Is, Both, Either}
use Rattle.kernel_lang.specs.declared.parts.Entry.{Entry}
use Rattle.kernel_lang.specs.declared.parts.Update.TheVariants as updates
use Rattle.kernel_lang.specs.Plain.{Accumulator, Fragment}
use Rattle.kernel_lang.specs.Given.{world_given}
use Rattle.kernel_lang.specs.Running.{ends_as}
use Rattle.kernel_lang.specs.Validity.{broken}
use Rattle.kernel_lang.specs.Worked.{all_of, over_one}
use Rattle.java_loops.specs.Walks.ChainLaws.{IsAccumulator, start_of, value_in, AreAccumulators}
use Rattle.java_loops.specs.Walks.ChainStarts.{Begins, IsMade}
use Rattle.java_loops.specs.Walks.Effects.{effect}
use Rattle.java_loops.specs.Walks.Numbering.{FromTable, FromVariable, Numbering}

abbrev pub r : List ℕ
r = codes "r"

abbrev pub roles : List ℕ
roles = codes "roles"

abbrev pub ids : List ℕ
ids = codes "ids"

abbrev pub limit : List ℕ
limit = codes "limit"

abbrev pub oldest : List ℕ
oldest = codes "oldest"

abbrev pub count : List ℕ
count = codes "count"

abbrev pub without : List ℕ
without = codes "without"

abbrev pub var : List ℕ → Expression
var x = tree.Var somewhere x

abbrev pub binary : Op → Expression → Expression → Expression
binary op a b = tree.Binary somewhere op a b

abbrev pub has_role : Expression
has_role = binary ops.Eq (field u (codes "roleId")) (field r (codes "id"))

abbrev pub is_kept : Expression
is_kept = binary ops.And (field u (codes "active")) (tree.Not somewhere (var without))

abbrev pub is_older : Expression
is_older = binary ops.And (binary ops.Gt (field u (codes "age")) (var oldest)) (tree.Contains somewhere ids (field u (codes "id")))

abbrev pub is_grown : Expression
is_grown = tree.Not somewhere (binary ops.Le (field u (codes "age")) (var limit))

-- for (Role r : roles) { if (u.roleId == r.id) { without = false; } }
abbrev pub flagging : Statement
flagging = for_each Role r (var roles) (tree.If somewhere has_role (block (tree.Assign somewhere without (tree.Lit somewhere (scalars.Bool false)) ∷ [])) ∷ [])

-- if (u.active && !without) { out.add(u.name); }
-- else { if (u.age > oldest && ids.contains(u.id)) { oldest = u.age; } }
abbrev pub branches : Statement
branches =
    tree.IfElse somewhere is_kept (block (tree.Add somewhere out (field u (codes "name")) ∷ []))
    (block (tree.If somewhere is_older (block (tree.Assign somewhere oldest (field u (codes "age")) ∷ [])) ∷ []))

-- if (!(u.age <= limit)) { count = count + 1; }
abbrev pub counting : Statement
counting = tree.If somewhere is_grown (block (tree.Assign somewhere count (binary ops.Add (var count) (tree.Lit somewhere (long 1))) ∷ []))

-- for (User u : db.fetch(User.class)) { boolean without = true; .. }
abbrev pub loop : Statement
loop =
    for_each User u (tree.Fetch somewhere User)
    (tree.Declare somewhere tree.Boolean without (tree.Lit somewhere (scalars.Bool true)) ∷ flagging ∷ branches ∷ counting ∷ [])

abbrev pub numbers : Numbering
numbers =
    record {
      schema = staff_schema;
      tables = λ j. j;
      sources = λ j. if nat_eq j 0 then Some (FromTable User) else if nat_eq j 1 then Some (FromVariable roles) else None;
      loops = λ y. None;
      entries = λ y f. elim f as (λ _. Option ℕ) [ None ↦ if bytes_eq limit y then Some 0 else None | Some g ↦ None ];
      entry_types = tys.Long ∷ [];
      known = λ y. if bytes_eq ids y then Some 0 else None;
      known_types = tys.Long ∷ [];
    }

abbrev pub names_kept : Accumulator
names_kept = over_one (Some (Both (Is 1 true) (Is 2 true))) (updates.Push (elems.Field 0 1)) None false []

abbrev pub oldest_kept : Accumulator
oldest_kept = over_one (Some (Both (Either (Is 1 false) (Is 2 false)) (Is 3 true))) (updates.Best ways.Max (elems.Field 0 3)) (Some (long 0)) false []

abbrev pub counted : Accumulator
counted = over_one (Some (Is 4 true)) updates.Tick (Some (long 0)) false []

abbrev pub flag : Accumulator
flag =
    record {
      chain = 0 ∷ 1 ∷ [];
      base = 1;
      guards = None ∷ Some (Is 0 true) ∷ [];
      update = updates.Mark;
      start = Some (scalars.Bool false);
      opposite = true;
      pool = [];
    }

abbrev pub fragment : Fragment
fragment =
    record {
      lists = all_of 0 ∷ all_of 1 ∷ [];
      atoms =
          atoms.Same (operands.Field 0 2) (operands.Field 1 0)
          ∷ atoms.Truth (operands.Field 0 4)
          ∷ atoms.Flag 3 (0 ∷ [])
          ∷ atoms.Member (operands.Field 0 0) 0
          ∷ atoms.Less (operands.Entry 0) (operands.Field 0 3)
          ∷ [];
      accs = names_kept ∷ oldest_kept ∷ counted ∷ flag ∷ [];
      entries = tys.Long ∷ [];
      known = 1;
    }

pub record WorkedChains : Type 0 where
  pub valid : broken fragment ≡ None
  pub pushed : IsAccumulator fragment numbers loop out names_kept
  pub best : IsAccumulator fragment numbers loop oldest oldest_kept
  pub ticked : IsAccumulator fragment numbers loop count counted
  pub all : AreAccumulators fragment numbers loop ((out, names_kept) ∷ (oldest, oldest_kept) ∷ (count, counted) ∷ []) fragment.accs

-- ---- On the worked tables

abbrev pub store : Store
store =
    (roles, plainly (Many (role 1 (codes "admin") ∷ role 2 (codes "staff") ∷ role 2 (codes "crew") ∷ [])))
    ∷ (ids, plainly (Many (alone (long 1) ∷ alone (long 3) ∷ alone (long 4) ∷ [])))
    ∷ (limit, plainly (One (long 20)))
    ∷ []

abbrev pub given : Entry
given = record { values = long 20 ∷ []; known = (long 1 ∷ long 3 ∷ long 4 ∷ []) ∷ [] }

abbrev pub becomes : List ℕ → Accumulator → Option Value
becomes a acc = option_map value_in (effect loop staff a store (start_of acc))

abbrev pub ends : Accumulator → Option Value
ends acc = ends_as fragment (world_given fragment staff.db given) acc

abbrev pub two_names : Value
two_names = Many (alone (scalars.Text (codes "ann")) ∷ alone (scalars.Text (codes "cat")) ∷ [])

pub record WorkedRuns : Type 0 where
  pub begins : Begins numbers fragment staff store given
  pub made : IsMade fragment numbers given
  pub names : becomes out names_kept ≡ Some two_names
  pub names_end : ends names_kept ≡ Some two_names
  pub greatest : becomes oldest oldest_kept ≡ Some (One (long 19))
  pub greatest_ends : ends oldest_kept ≡ Some (One (long 19))
  pub number : becomes count counted ≡ Some (One (long 4))
  pub number_ends : ends counted ≡ Some (One (long 4))
