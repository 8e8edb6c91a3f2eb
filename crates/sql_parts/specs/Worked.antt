-- The queries of worked fragments, by their canonical texts.
use Rattle.std.specs.Prelude.{◌≡◌, ℕ, true, false, List, [], ◌∷◌, ◌++◌, codes, negsuc}
use Rattle.std.specs.declared.option.Option.{Option}
use Rattle.std.specs.declared.option.Option.TheVariants.{Some, None}
use Rattle.qbs_base.specs.declared.scalar.Scalar.TheVariants as scalars
use Rattle.qbs_base.specs.declared.scalar.Ty.{Ty}
use Rattle.qbs_base.specs.declared.scalar.Ty.TheVariants as tys
use Rattle.tor_terms.specs.declared.term.Atom.{Atom}
use Rattle.tor_terms.specs.declared.term.Atom.TheVariants as atoms
use Rattle.tor_terms.specs.declared.term.Elem.TheVariants as elems
use Rattle.tor_terms.specs.declared.term.Operand.{Operand}
use Rattle.tor_terms.specs.declared.term.Operand.TheVariants as operands
use Rattle.tor_terms.specs.declared.term.Way.TheVariants as ways
use Rattle.tor_terms.specs.Plain.{Form, Is, Both, Either}
use Rattle.kernel_lang.specs.declared.parts.Update.TheVariants as updates
use Rattle.kernel_lang.specs.Plain.{Fragment}
use Rattle.kernel_lang.specs.Worked.{long, all_of, from_one, over_one, class_A, class_B, class_C, class_D, class_E, class_F, class_H, class_J, class_V, role_flag, two_conjuncts, three_loops, flag_under_a_guard, name_set}
use Rattle.sql_ast.specs.declared.tree.Cmp.TheVariants as tests
use Rattle.sql_ast.specs.declared.tree.SqlColumn.TheVariants as columns
use Rattle.sql_ast.specs.declared.tree.SqlItem.TheVariants as items
use Rattle.sql_ast.specs.declared.tree.SqlOpnd.{SqlOpnd}
use Rattle.sql_ast.specs.declared.tree.SqlOpnd.TheVariants as opnds
use Rattle.sql_ast.specs.Canonical.{canonical}
use Rattle.sql_ast.specs.Tree.{PlainQuery, Listing, Compare, Where}
use Rattle.sql_ast.specs.Worked.{staff_schema}
use Rattle.sql_build.specs.Keys.{position_key}
use Rattle.sql_parts.specs.Given.{TextsAreUtf8}
use Rattle.sql_parts.specs.Numbered.{Emission, emitted}

abbrev pub text_of : Option Emission → List ℕ
text_of None = []
text_of (Some e) = canonical e.query

abbrev pub entries_of : Option Emission → List ℕ
entries_of None = []
entries_of (Some e) = e.entries

-- the text and the entries of the query for the accumulator 0
pub record Has (f : Fragment) (cand : List ℕ) (known : List PlainQuery) (args : List (List ℕ)) (text entries : List ℕ) : Type 0 where
  pub text_is : text_of (emitted staff_schema f cand 0 known args) ≡ text
  pub entries_are : entries_of (emitted staff_schema f cand 0 known args) ≡ entries

-- without known queries and entries
abbrev pub Emits : Fragment → List ℕ → List ℕ → Type 0
Emits f cand text = Has f cand [] [] text []

-- the numbers of the roles whose label is this
abbrev pub roles_labelled : SqlOpnd → List Ty → PlainQuery
roles_labelled label params =
    Listing (
    record {
      item = items.Column (record { item = 1; column = columns.Named (codes "id") 0 });
      from = record { name = codes "Role"; table = 1 } ∷ [];
      filter = Where (Compare tests.Eq (opnds.Column (record { item = 1; column = columns.Named (codes "label") 1 })) label);
      group = None;
      keys = position_key false 1 ∷ [];
      limit = None;
      params = params;
    })

-- users for whom the formulas of a pool are chosen
abbrev pub users_where : List Atom → List Form → List Ty → Fragment
users_where tests pool entries = record (from_one tests (over_one None (updates.Push (elems.Whole 0)) None false pool)) { entries = entries }

abbrev pub field : ℕ → Operand
field c = operands.Field 0 c

-- the first users, in the order of the table
abbrev pub first_users : ℕ → Fragment
first_users limit = record (users_where [] [] []) { lists = record { table = 0; keys = []; limit = Some limit } ∷ [] }

-- users who are named like a text with both quotes, a backslash and a letter of two bytes
abbrev pub quoted : Fragment
quoted = users_where (atoms.Same (field 1) (operands.Lit (scalars.Text (79 ∷ 39 ∷ 78 ∷ 34 ∷ 92 ∷ 195 ∷ 169 ∷ []))) ∷ []) (Is 0 true ∷ []) []

-- the age or the role is the first entry, and the id is not
abbrev pub entry_twice : Fragment
entry_twice =
    users_where (atoms.Same (field 3) (operands.Entry 0) ∷ atoms.Same (field 2) (operands.Entry 0) ∷ atoms.Same (field 0) (operands.Entry 0) ∷ [])
    (Either (Is 0 true) (Is 1 true) ∷ Is 2 false ∷ []) (tys.Long ∷ [])

-- the second entry stands first
abbrev pub other_order : Fragment
other_order =
    users_where (atoms.Same (field 1) (operands.Entry 0) ∷ atoms.Less (field 3) (operands.Entry 1) ∷ [])
    (Both (Is 1 true) (Is 0 true) ∷ []) (tys.Text ∷ tys.Long ∷ [])

-- users whose role has the label that is the second entry, and whose name is the first
abbrev pub known_with_entry : Fragment
known_with_entry =
    record (users_where (atoms.Member (field 2) 0 ∷ atoms.Same (field 1) (operands.Entry 0) ∷ []) (Is 0 true ∷ Is 0 false ∷ Is 1 true ∷ []) (tys.Text ∷ tys.Text ∷ [])) { known = 1 }

-- fields on the right, on both sides and on the left
abbrev pub compared : Fragment
compared =
    users_where
    (atoms.Less (operands.Lit (long 20)) (field 3) ∷ atoms.Less (field 0) (field 2) ∷ atoms.Less (field 3) (operands.Lit (long 40)) ∷ [])
    (Is 0 true ∷ Is 0 false ∷ Is 1 true ∷ Is 1 false ∷ Is 2 true ∷ Is 2 false ∷ []) []

-- a choice under two conditions
abbrev pub nested : Fragment
nested =
    users_where (atoms.Truth (field 4) ∷ atoms.Same (field 3) (operands.Lit (long 25)) ∷ [])
    (Both (Either (Is 0 true) (Is 1 true)) (Is 1 false) ∷ Either (Both (Is 0 true) (Is 1 true)) (Is 0 false) ∷ []) []

-- the least age below -1, and a flag in a nest that has the loop of the flag
abbrev pub least : Fragment
least = from_one [] (over_one None (updates.Best ways.Min (elems.Field 0 3)) (Some (scalars.Long (negsuc 0))) false [])

abbrev pub flag_in_its_nest : Fragment
flag_in_its_nest =
    record {
      lists = all_of 0 ∷ all_of 1 ∷ [];
      atoms = atoms.Same (operands.Field 0 2) (operands.Field 1 0) ∷ atoms.Flag 1 (0 ∷ []) ∷ [];
      accs =
          record {
            chain = 0 ∷ 1 ∷ [];
            base = 0;
            guards = None ∷ None ∷ [];
            update = updates.Push (elems.Field 1 1);
            start = None;
            opposite = false;
            pool = Is 1 true ∷ Is 1 false ∷ Is 0 false ∷ [];
          }
          ∷ role_flag
          ∷ [];
      entries = [];
      known = 0;
    }

pub record WorkedLists : Type 0 where
  pub selected : Emits class_A (0 ∷ []) (codes "SELECT t1.* FROM User t1 WHERE t1.roleId = 2 ORDER BY t1._pos")
  pub others : Emits class_A (1 ∷ []) (codes "SELECT t1.* FROM User t1 WHERE t1.roleId <> 2 ORDER BY t1._pos")
  pub all : Emits class_A [] (codes "SELECT t1.* FROM User t1 ORDER BY t1._pos")
  pub joined : Emits class_B (0 ∷ []) (codes "SELECT t1.* FROM User t1, Role t2 WHERE t1.roleId = t2.id ORDER BY t1._pos, t2._pos")
  pub three : Emits three_loops (0 ∷ 2 ∷ []) (codes "SELECT t3.label FROM User t1, Role t2, Role t3 WHERE t1.roleId = t2.id AND t2.id < t3.id ORDER BY t1._pos, t2._pos, t3._pos")
  pub two : Emits two_conjuncts (0 ∷ 2 ∷ []) (codes "SELECT t1.* FROM User t1 WHERE t1.active = TRUE AND t1.age > 20 ORDER BY t1._pos")
  pub two_opposites : Emits two_conjuncts (1 ∷ 3 ∷ []) (codes "SELECT t1.* FROM User t1 WHERE t1.active = FALSE AND t1.age <= 20 ORDER BY t1._pos")
  pub sorted : Emits (class_H 3 false) [] (codes "SELECT t1.* FROM User t1 ORDER BY t1.name, t1._pos LIMIT 3")
  pub sorted_down : Emits (class_H 9 true) [] (codes "SELECT t1.* FROM User t1 ORDER BY t1.name DESC, t1._pos LIMIT 9")
  pub sorted_none : Emits (class_H 0 false) [] (codes "SELECT t1.* FROM User t1 ORDER BY t1.name, t1._pos LIMIT 0")
  pub first : Emits (first_users 3) [] (codes "SELECT t1.* FROM User t1 WHERE t1._pos < 3 ORDER BY t1._pos")
  pub first_none : Emits (first_users 0) [] (codes "SELECT t1.* FROM User t1 WHERE t1._pos < 0 ORDER BY t1._pos")
  pub first_nine : Emits (first_users 9) [] (codes "SELECT t1.* FROM User t1 WHERE t1._pos < 9 ORDER BY t1._pos")
  pub set : Emits name_set [] (codes "SELECT t1.name FROM User t1 GROUP BY t1.name ORDER BY MIN(t1._pos)")
  pub quotes : Emits quoted (0 ∷ []) (codes "SELECT t1.* FROM User t1 WHERE t1.name = 'O''N" ++ (34 ∷ 92 ∷ 195 ∷ 169 ∷ []) ++ codes "' ORDER BY t1._pos")
  pub tests : Emits compared (0 ∷ 2 ∷ 4 ∷ []) (codes "SELECT t1.* FROM User t1 WHERE t1.age > 20 AND t1.id < t1.roleId AND t1.age < 40 ORDER BY t1._pos")
  pub opposite_tests : Emits compared (1 ∷ 3 ∷ 5 ∷ []) (codes "SELECT t1.* FROM User t1 WHERE t1.age <= 20 AND t1.id >= t1.roleId AND t1.age >= 40 ORDER BY t1._pos")
  pub either_under_both : Emits nested (0 ∷ []) (codes "SELECT t1.* FROM User t1 WHERE (t1.active = TRUE OR t1.age = 25) AND t1.age <> 25 ORDER BY t1._pos")
  pub both_under_either : Emits nested (1 ∷ []) (codes "SELECT t1.* FROM User t1 WHERE t1.active = TRUE AND t1.age = 25 OR t1.active = FALSE ORDER BY t1._pos")
  pub both : Emits nested (0 ∷ 1 ∷ []) (codes "SELECT t1.* FROM User t1 WHERE (t1.active = TRUE OR t1.age = 25) AND t1.age <> 25 AND (t1.active = TRUE AND t1.age = 25 OR t1.active = FALSE) ORDER BY t1._pos")

pub record WorkedFlags : Type 0 where
  pub flagged : Emits class_E (0 ∷ 2 ∷ []) (codes "SELECT t1.* FROM User t1 WHERE EXISTS (SELECT 1 FROM Role t2 WHERE t1.roleId = t2.id) ORDER BY t1._pos")
  pub not_flagged : Emits class_E (1 ∷ []) (codes "SELECT t1.* FROM User t1 WHERE NOT EXISTS (SELECT 1 FROM Role t2) ORDER BY t1._pos")
  pub guarded : Emits flag_under_a_guard (0 ∷ 2 ∷ 4 ∷ 6 ∷ []) (codes "SELECT t1.name FROM User t1 WHERE t1.active = TRUE AND NOT EXISTS (SELECT 1 FROM Role t2 WHERE t1.active = TRUE AND t1.roleId = t2.id) ORDER BY t1._pos")
  pub in_its_nest : Emits flag_in_its_nest (0 ∷ 2 ∷ 3 ∷ []) (codes "SELECT t2.label FROM User t1, Role t2 WHERE EXISTS (SELECT 1 FROM Role t3 WHERE t1.roleId = t3.id) AND t1.roleId <> t2.id ORDER BY t1._pos, t2._pos")

pub record WorkedNumbers : Type 0 where
  pub greatest : Emits class_C [] (codes "SELECT COALESCE(MAX(t1.age), 10) FROM User t1 WHERE t1.age > 10")
  pub smallest : Emits least [] (codes "SELECT COALESCE(MIN(t1.age), -1) FROM User t1 WHERE t1.age < -1")
  pub sum : Emits class_D [] (codes "SELECT COALESCE(SUM(t1.age), 0) FROM User t1")
  pub count : Has class_J (0 ∷ []) [] [] (codes "SELECT COUNT(*) FROM Role t1 WHERE t1.id = ?1") (0 ∷ [])
  pub opposite : Emits class_V (0 ∷ []) (codes "SELECT NOT EXISTS (SELECT 1 FROM User t1 WHERE t1.active = FALSE)")

pub record WorkedParameters : Type 0 where
  pub known : Has class_F (0 ∷ []) (roles_labelled (opnds.Lit (scalars.Text (codes "staff"))) [] ∷ []) ([] ∷ []) (codes "SELECT t1.* FROM User t1 WHERE t1.roleId IN (SELECT t2.id FROM Role t2 WHERE t2.label = 'staff') ORDER BY t1._pos") []
  pub not_known : Has class_F (1 ∷ []) (roles_labelled (opnds.Lit (scalars.Text (codes "staff"))) [] ∷ []) ([] ∷ []) (codes "SELECT t1.* FROM User t1 WHERE t1.roleId NOT IN (SELECT t2.id FROM Role t2 WHERE t2.label = 'staff') ORDER BY t1._pos") []
  pub known_entry : Has known_with_entry (0 ∷ 2 ∷ []) (roles_labelled (opnds.Param 1) (tys.Text ∷ []) ∷ []) ((1 ∷ []) ∷ []) (codes "SELECT t1.* FROM User t1 WHERE t1.roleId IN (SELECT t2.id FROM Role t2 WHERE t2.label = ?1) AND t1.name = ?2 ORDER BY t1._pos") (1 ∷ 0 ∷ [])
  pub twice : Has entry_twice (0 ∷ 1 ∷ []) [] [] (codes "SELECT t1.* FROM User t1 WHERE (t1.age = ?1 OR t1.roleId = ?1) AND t1.id <> ?1 ORDER BY t1._pos") (0 ∷ [])
  pub second_first : Has other_order (0 ∷ []) [] [] (codes "SELECT t1.* FROM User t1 WHERE t1.age < ?1 AND t1.name = ?2 ORDER BY t1._pos") (1 ∷ 0 ∷ [])

-- literals with a letter of two bytes, in a fragment and in a known query
pub record WorkedTexts : Type 0 where
  pub quotes : TextsAreUtf8 quoted (roles_labelled (opnds.Lit (scalars.Text (195 ∷ 169 ∷ []))) [] ∷ [])

-- fragments with the texts of their queries, for the schema of the worked queries
pub record WorkedQueries : Type 0 where
  pub lists : WorkedLists
  pub flags : WorkedFlags
  pub numbers : WorkedNumbers
  pub parameters : WorkedParameters
  pub texts : WorkedTexts
