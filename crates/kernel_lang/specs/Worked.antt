-- Fragments that show what the definitions say, and the tables that they run on.
use Rattle.std.specs.Prelude.{ℕ, ℤ, pos, Bool, true, false, List, [], ◌∷◌, map, Some, None, codes}
use Rattle.std.specs.declared.option.Option.{Option}
use Rattle.qbs_base.specs.declared.scalar.Kind.TheVariants as kinds
use Rattle.qbs_base.specs.declared.scalar.Row.{Row}
use Rattle.qbs_base.specs.declared.scalar.Scalar.{Scalar}
use Rattle.qbs_base.specs.declared.scalar.Scalar.TheVariants as scalars
use Rattle.qbs_base.specs.declared.scalar.Ty.TheVariants as tys
use Rattle.qbs_base.specs.declared.scalar.Value.{Value}
use Rattle.qbs_base.specs.declared.scalar.Value.TheVariants as values
use Rattle.qbs_base.specs.Values.{Database}
use Rattle.tor_terms.specs.declared.term.Atom.{Atom}
use Rattle.tor_terms.specs.declared.term.Atom.TheVariants as atoms
use Rattle.tor_terms.specs.declared.term.Elem.TheVariants as elems
use Rattle.tor_terms.specs.declared.term.Operand.TheVariants as operands
use Rattle.tor_terms.specs.declared.term.Way.TheVariants as ways
use Rattle.tor_terms.specs.Plain.{Form, Is, Both}
use Rattle.kernel_lang.specs.declared.parts.Entry.{Entry}
use Rattle.kernel_lang.specs.declared.parts.ListDef.{ListDef}
use Rattle.kernel_lang.specs.declared.parts.Update.{Update}
use Rattle.kernel_lang.specs.declared.parts.Update.TheVariants as updates
use Rattle.kernel_lang.specs.Plain.{Accumulator, Fragment}

-- ---- Tables

abbrev pub long : ℕ → Scalar
long n = scalars.Long (pos n)

abbrev pub user : ℕ → List ℕ → ℕ → ℕ → Bool → Row
user id name role age active =
    record { kind = kinds.Table 0; cells = long id ∷ scalars.Text name ∷ long role ∷ long age ∷ scalars.Bool active ∷ [] }

-- a user of whom only the age matters
abbrev pub user_aged : ℤ → Row
user_aged age =
    record { kind = kinds.Table 0; cells = long 1 ∷ scalars.Text (codes "a") ∷ long 2 ∷ scalars.Long age ∷ scalars.Bool true ∷ [] }

abbrev pub role : ℕ → List ℕ → Row
role id label = record { kind = kinds.Table 1; cells = long id ∷ scalars.Text label ∷ [] }

abbrev pub ann : Row
ann = user 1 (codes "ann") 2 30 true

abbrev pub bob : Row
bob = user 2 (codes "bob") 1 25 false

abbrev pub cat : Row
cat = user 3 (codes "cat") 2 41 true

abbrev pub ann_again : Row
ann_again = user 4 (codes "ann") 3 19 true

abbrev pub dan : Row
dan = user 5 (codes "dan") 1 25 false

-- five users and three roles
abbrev pub staff : Database
staff =
    (codes "User", ann ∷ bob ∷ cat ∷ ann_again ∷ dan ∷ [])
    ∷ (codes "Role", role 1 (codes "admin") ∷ role 2 (codes "staff") ∷ role 2 (codes "crew") ∷ [])
    ∷ []

-- one user, whose role is 1
abbrev pub bob_alone : Database
bob_alone = (codes "User", bob ∷ []) ∷ []

-- users with these ages
abbrev pub aged : List ℤ → Database
aged ages = (codes "User", map user_aged ages) ∷ []

abbrev pub given : List Scalar → List (List Scalar) → Entry
given values known = record { values = values; known = known }

abbrev pub nothing : Entry
nothing = given [] []

-- ---- Fragments

abbrev pub all_of : ℕ → ListDef
all_of table = record { table = table; keys = []; limit = None }

abbrev pub from_one : List Atom → Accumulator → Fragment
from_one tests a = record { lists = all_of 0 ∷ []; atoms = tests; accs = a ∷ []; entries = []; known = 0 }

abbrev pub over_one : Option Form → Update → Option Scalar → Bool → List Form → Accumulator
over_one guard update start opposite pool =
    record { chain = 0 ∷ []; base = 0; guards = guard ∷ []; update = update; start = start; opposite = opposite; pool = pool }

-- x0.roleId == 2 adds the user
abbrev pub class_A : Fragment
class_A =
    from_one (atoms.Same (operands.Field 0 2) (operands.Lit (long 2)) ∷ [])
    (over_one (Some (Is 0 true)) (updates.Push (elems.Whole 0)) None false (Is 0 true ∷ Is 0 false ∷ []))

-- x0.active && x0.age > 20 adds the user
abbrev pub two_conjuncts : Fragment
two_conjuncts =
    from_one (atoms.Truth (operands.Field 0 4) ∷ atoms.Less (operands.Lit (long 20)) (operands.Field 0 3) ∷ [])
    (over_one (Some (Both (Is 0 true) (Is 1 true))) (updates.Push (elems.Whole 0)) None false (Is 0 true ∷ Is 0 false ∷ Is 1 true ∷ Is 1 false ∷ []))

-- x0.roleId == x1.id adds the user
abbrev pub class_B : Fragment
class_B =
    record {
      lists = all_of 0 ∷ all_of 1 ∷ [];
      atoms = atoms.Same (operands.Field 0 2) (operands.Field 1 0) ∷ [];
      accs =
          record {
            chain = 0 ∷ 1 ∷ [];
            base = 0;
            guards = None ∷ Some (Is 0 true) ∷ [];
            update = updates.Push (elems.Whole 0);
            start = None;
            opposite = false;
            pool = Is 0 true ∷ Is 0 false ∷ [];
          }
          ∷ [];
      entries = [];
      known = 0;
    }

-- the greatest age, at least 10
abbrev pub class_C : Fragment
class_C = from_one [] (over_one None (updates.Best ways.Max (elems.Field 0 3)) (Some (long 10)) false [])

-- the sum of ages
abbrev pub class_D : Fragment
class_D = from_one [] (over_one None (updates.Plus (elems.Field 0 3)) (Some (long 0)) false [])

-- whether a user has a role, as a loop over roles sets it
abbrev pub role_flag : Accumulator
role_flag =
    record {
      chain = 0 ∷ 1 ∷ [];
      base = 1;
      guards = None ∷ Some (Is 0 true) ∷ [];
      update = updates.Mark;
      start = Some (scalars.Bool false);
      opposite = false;
      pool = Is 0 true ∷ Is 0 false ∷ [];
    }

-- users with a role, by a flag that a loop over roles sets
abbrev pub class_E : Fragment
class_E =
    record {
      lists = all_of 0 ∷ all_of 1 ∷ [];
      atoms = atoms.Same (operands.Field 0 2) (operands.Field 1 0) ∷ atoms.Flag 1 (0 ∷ []) ∷ [];
      accs =
          over_one (Some (Is 1 true)) (updates.Push (elems.Whole 0)) None false (Is 1 true ∷ Is 1 false ∷ [])
          ∷ role_flag
          ∷ [];
      entries = [];
      known = 0;
    }

-- users whose role is in a known list
abbrev pub class_F : Fragment
class_F =
    record (
    from_one (atoms.Member (operands.Field 0 2) 0 ∷ [])
    (over_one (Some (Is 0 true)) (updates.Push (elems.Whole 0)) None false (Is 0 true ∷ Is 0 false ∷ [])))
    { known = 1 }

-- the first users by name
abbrev pub class_H : ℕ → Bool → Fragment
class_H limit down =
    record (from_one [] (over_one None (updates.Push (elems.Whole 0)) None false []))
    { lists = record { table = 0; keys = record { column = 1; down = down } ∷ []; limit = Some limit } ∷ [] }

-- how many roles have the number that is given
abbrev pub class_J : Fragment
class_J =
    record (
    from_one (atoms.Same (operands.Field 0 0) (operands.Entry 0) ∷ [])
    (over_one (Some (Is 0 true)) updates.Tick (Some (long 0)) false (Is 0 true ∷ Is 0 false ∷ [])))
    { lists = all_of 1 ∷ []; entries = tys.Long ∷ [] }

-- whether all users are active
abbrev pub class_V : Fragment
class_V =
    from_one (atoms.Truth (operands.Field 0 4) ∷ [])
    (over_one (Some (Is 0 false)) updates.Mark (Some (scalars.Bool false)) true (Is 0 false ∷ Is 0 true ∷ []))

-- users in the order of three loops over roles, where the roles differ
abbrev pub three_loops : Fragment
three_loops =
    record {
      lists = all_of 0 ∷ all_of 1 ∷ all_of 1 ∷ [];
      atoms = atoms.Same (operands.Field 0 2) (operands.Field 1 0) ∷ atoms.Less (operands.Field 1 0) (operands.Field 2 0) ∷ [];
      accs =
          record {
            chain = 0 ∷ 1 ∷ 2 ∷ [];
            base = 0;
            guards = None ∷ Some (Is 0 true) ∷ Some (Is 1 true) ∷ [];
            update = updates.Push (elems.Field 2 1);
            start = None;
            opposite = false;
            pool = Is 0 true ∷ Is 0 false ∷ Is 1 true ∷ Is 1 false ∷ [];
          }
          ∷ [];
      entries = [];
      known = 0;
    }

-- active users without a role, by a flag that starts as true and is read where the user is active
abbrev pub flag_under_a_guard : Fragment
flag_under_a_guard =
    record {
      lists = all_of 0 ∷ all_of 1 ∷ [];
      atoms = atoms.Truth (operands.Field 0 4) ∷ atoms.Same (operands.Field 0 2) (operands.Field 1 0) ∷ atoms.Flag 1 (0 ∷ []) ∷ [];
      accs =
          over_one (Some (Both (Is 0 true) (Is 2 false))) (updates.Push (elems.Field 0 1)) None false (Is 0 true ∷ Is 0 false ∷ Is 2 false ∷ Is 2 true ∷ [])
          ∷ record {
            chain = 0 ∷ 1 ∷ [];
            base = 1;
            guards = Some (Is 0 true) ∷ Some (Is 1 true) ∷ [];
            update = updates.Mark;
            start = Some (scalars.Bool false);
            opposite = true;
            pool = Is 0 true ∷ Is 0 false ∷ Is 1 true ∷ Is 1 false ∷ [];
          }
          ∷ [];
      entries = [];
      known = 0;
    }

-- the different names
abbrev pub name_set : Fragment
name_set = from_one [] (over_one None (updates.PushNew (elems.Field 0 1)) None false [])

-- ---- Ends

abbrev pub rows_done : List Row → Option (List Value)
rows_done rows = Some (values.Many rows ∷ [])

abbrev pub scalar_done : Scalar → Option (List Value)
scalar_done x = Some (values.One x ∷ [])

abbrev pub texts : List (List ℕ) → List Row
texts [] = []
texts (t ∷ ts) = record { kind = kinds.Plain; cells = scalars.Text t ∷ [] } ∷ texts ts
