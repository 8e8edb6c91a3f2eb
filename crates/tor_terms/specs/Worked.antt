-- A small environment, and what terms are evaluated to in it.
use Rattle.std.specs.Prelude.{◌≡◌, ℕ, ◌^◌, ◌-◌, pos, Bool, true, false, List, [], ◌∷◌}
use Rattle.std.specs.declared.option.Option.{Option}
use Rattle.std.specs.declared.option.Option.TheVariants.{Some, None}
use Rattle.qbs_base.specs.declared.scalar.Kind.TheVariants as kinds
use Rattle.qbs_base.specs.declared.scalar.Row.{Row}
use Rattle.qbs_base.specs.declared.scalar.Scalar.{Scalar}
use Rattle.qbs_base.specs.declared.scalar.Scalar.TheVariants.{Long, Bool as Truth, Text}
use Rattle.qbs_base.specs.declared.scalar.Value.{Value}
use Rattle.qbs_base.specs.declared.scalar.Value.TheVariants.{One as Single_value, Whole as Whole_value, Many}
use Rattle.tor_terms.specs.declared.env.Env.{Env}
use Rattle.tor_terms.specs.declared.term.Atom.{Atom}
use Rattle.tor_terms.specs.declared.term.Atom.TheVariants as atoms
use Rattle.tor_terms.specs.declared.term.Elem.TheVariants.{Whole, Field}
use Rattle.tor_terms.specs.declared.term.Index.TheVariants.{Zero, At, Next, Len}
use Rattle.tor_terms.specs.declared.term.Operand.TheVariants as operands
use Rattle.tor_terms.specs.declared.term.Way.TheVariants.{Max, Min}
use Rattle.tor_terms.specs.Plain.{Is, Both, Either, Tree, Nil, Walk, Top, One, Single, Cat, Join, Sel, Proj, Uniq, Insert, Hold, Lit, Item, Count, Sum, Any, Best, Pick, Add, Or}
use Rattle.tor_terms.specs.Fits.{eval_of}

abbrev number : ℕ → Scalar
number n = Long (pos n)

-- a row of table 0: an id, a role's id, and whether it is active
abbrev user : ℕ → ℕ → Bool → Row
user id role active = record { kind = kinds.Table 0; cells = number id ∷ number role ∷ Truth active ∷ [] }

-- a row of table 1: an id and a label of one letter
abbrev role : ℕ → ℕ → Row
role id letter = record { kind = kinds.Table 1; cells = number id ∷ Text (letter ∷ []) ∷ [] }

abbrev cell : Scalar → Row
cell x = record { kind = kinds.Plain; cells = x ∷ [] }

-- loop 0 is in its second turn, loop 1 in its first
abbrev env : Env
env =
    record {
      lists = (user 1 2 true ∷ user 2 1 false ∷ user 3 2 true ∷ []) ∷ (role 1 97 ∷ role 2 98 ∷ []) ∷ [];
      at = 1 ∷ 0 ∷ [];
      cur = user 2 1 false ∷ role 1 97 ∷ [];
      entries = number 2 ∷ [];
      known = (number 1 ∷ number 3 ∷ []) ∷ [];
      holds = Many (cell (number 2) ∷ []) ∷ Single_value (number 7) ∷ Whole_value (role 1 97) ∷ [];
      flags = record { rows = (user 2 1 false ∷ []) ∷ (user 2 1 false ∷ []) ∷ (user 3 2 true ∷ []) ∷ []; truths = true ∷ false ∷ [] } ∷ [];
    }

-- active; of the entry's role; the id is known; the role's id is the user's; the flag; an entry that isn't
-- there; truth values aren't ordered
abbrev tests : List Atom
tests =
    atoms.Truth (operands.Field 0 2)
    ∷ atoms.Same (operands.Field 0 1) (operands.Entry 0)
    ∷ atoms.Member (operands.Field 0 0) 0
    ∷ atoms.Same (operands.Field 0 1) (operands.Field 1 0)
    ∷ atoms.Flag 0 (0 ∷ [])
    ∷ atoms.Less (operands.Field 0 0) (operands.Entry 9)
    ∷ atoms.Less (operands.Lit (Truth false)) (operands.Field 0 2)
    ∷ []

abbrev result : Tree → Option Value
result t = eval_of env tests t

abbrev chosen : ℕ → Tree
chosen k = Sel (Is k true ∷ []) (Walk 0)

abbrev roles : Tree
roles = Proj (Field 0 1) (Walk 0)

pub record WorkedLists : Type 0 where
  pub walked : result (Walk 1) ≡ Some (Many (role 1 97 ∷ role 2 98 ∷ []))
  pub no_turn : result (Top Zero (Walk 0)) ≡ Some (Many [])
  pub turns_done : result (Top (At 0) (Walk 0)) ≡ Some (Many (user 1 2 true ∷ []))
  pub turn_more : result (Top (Next 0) (Walk 0)) ≡ Some (Many (user 1 2 true ∷ user 2 1 false ∷ []))
  pub all_turns : result (Top (Len 1) (Walk 1)) ≡ result (Walk 1)
  pub current : result (One (0 ∷ [])) ≡ Some (Many (user 2 1 false ∷ []))
  pub both_current : result (One (1 ∷ 0 ∷ [])) ≡ Some (Many (record { kind = kinds.Plain; cells = number 1 ∷ Text (97 ∷ []) ∷ number 2 ∷ number 1 ∷ Truth false ∷ [] } ∷ []))
  pub joined : result (Proj (Field 1 1) (Sel (Is 3 true ∷ []) (Join (Walk 0) (Walk 1)))) ≡ Some (Many (cell (Text (98 ∷ [])) ∷ cell (Text (97 ∷ [])) ∷ cell (Text (98 ∷ [])) ∷ []))
  pub first_slowest : result (Proj (Field 0 0) (Join (Walk 0) (Walk 1))) ≡ Some (Many (cell (number 1) ∷ cell (number 1) ∷ cell (number 2) ∷ cell (number 2) ∷ cell (number 3) ∷ cell (number 3) ∷ []))
  pub uniq : result (Uniq roles) ≡ Some (Many (cell (number 2) ∷ cell (number 1) ∷ []))
  pub inserted : result (Insert (Hold 0) (Field 0 1)) ≡ Some (Many (cell (number 2) ∷ cell (number 1) ∷ []))
  pub not_inserted : result (Insert (Hold 0) (Field 0 0)) ≡ Some (Many (cell (number 2) ∷ []))
  pub after : result (Cat (Hold 0) (Single (Field 0 0))) ≡ Some (Many (cell (number 2) ∷ cell (number 2) ∷ []))

pub record WorkedTests : Type 0 where
  pub active : result (chosen 0) ≡ Some (Many (user 1 2 true ∷ user 3 2 true ∷ []))
  pub of_entry : result (chosen 1) ≡ Some (Many (user 1 2 true ∷ user 3 2 true ∷ []))
  pub known : result (chosen 2) ≡ Some (Many (user 1 2 true ∷ user 3 2 true ∷ []))
  pub flagged : result (chosen 4) ≡ Some (Many (user 2 1 false ∷ []))
  pub no_entry : result (chosen 5) ≡ Some (Many [])
  pub no_order : result (chosen 6) ≡ Some (Many [])
  pub negated : result (Sel (Is 0 false ∷ []) (Walk 0)) ≡ Some (Many (user 2 1 false ∷ []))
  pub both : result (Sel (Both (Is 0 true) (Is 4 false) ∷ []) (Walk 0)) ≡ Some (Many (user 1 2 true ∷ user 3 2 true ∷ []))
  pub either : result (Sel (Either (Is 0 false) (Is 4 true) ∷ []) (Walk 0)) ≡ Some (Many (user 2 1 false ∷ []))

pub record WorkedScalars : Type 0 where
  pub count : result (Count (chosen 0)) ≡ Some (Single_value (number 2))
  pub sum : result (Sum roles) ≡ Some (Single_value (number 5))
  pub greatest : result (Best Max (Lit (number 2)) (Proj (Field 0 0) (Walk 0))) ≡ Some (Single_value (number 3))
  pub least : result (Best Min (Lit (number 2)) (Proj (Field 0 0) (Walk 0))) ≡ Some (Single_value (number 1))
  pub lesser : result (Pick Min (Hold 1) (Item (Field 0 0))) ≡ Some (Single_value (number 2))
  pub added : result (Add (Hold 1) (Count Nil)) ≡ Some (Single_value (number 7))
  pub any : result (Any (chosen 6)) ≡ Some (Single_value (Truth false))
  pub disjunction : result (Or (Any (chosen 6)) (Any (Walk 0))) ≡ Some (Single_value (Truth true))

-- terms that don't fit, or with a number of more than 64 bits
pub record WorkedNone : Type 0 where
  pub loop_twice : result (Join (Walk 0) (Walk 0)) ≡ None
  pub no_loop : result (Walk 2) ≡ None
  pub other_loops : result (Cat (Walk 0) (Walk 1)) ≡ None
  pub whole_held : result (Hold 2) ≡ None
  pub no_atom : result (Sel (Is 7 true ∷ []) Nil) ≡ None
  pub loop_outside : result (Sel (Is 3 true ∷ []) (Walk 0)) ≡ None
  pub no_column : result (Proj (Field 0 3) (Walk 0)) ≡ None
  pub two_loops : result (Count (Join (Walk 0) (Walk 1))) ≡ None
  pub whole_rows : result (Sum (Proj (Whole 0) (Walk 0))) ≡ None
  pub truths : result (Sum (Proj (Field 0 2) (Walk 0))) ≡ None
  pub item_of_whole : result (Item (Whole 0)) ≡ None
  pub not_truth : result (Or (Lit (number 0)) (Lit (Truth true))) ≡ None
  pub too_large : result (Add (Lit (number (2 ^ 63 - 1))) (Lit (number 1))) ≡ None
  pub part_too_large : result (Pick Min (Lit (number 0)) (Add (Lit (number (2 ^ 63 - 1))) (Lit (number 1)))) ≡ None

pub record Worked : Type 0 where
  pub lists : WorkedLists
  pub tests : WorkedTests
  pub scalars : WorkedScalars
  pub none : WorkedNone
