-- The numbers that a fragment gives to what its loops name, and which names stay free of them.
use Rattle.std.specs.Prelude.{◌≡◌, ℕ, Bool, false, List, Option, Some, None, if◌then◌else◌, nat_eq, slice_get}
use Rattle.std.specs.Str.{bytes_eq}
use Rattle.qbs_base.specs.declared.scalar.Ty.{Ty}
use Rattle.qbs_base.specs.Values.{Schema}
use Rattle.tor_terms.specs.Truth.{has_loop}

-- where the list of a loop is from: a table by its name, or a variable
pub data Source : Type 0 where
  FromTable : List ℕ → Source
  FromVariable : List ℕ → Source

-- Of each loop the number of its table and the source of its list; of each loop variable its loop; of each
-- entry value, which is a variable or a field of one, its number; of each known list or set its number. The
-- types of entry values and of the members of known lists go by number.
pub record Numbering : Type 0 where
  pub schema : Schema
  pub tables : ℕ → ℕ
  pub sources : ℕ → Option Source
  pub loops : List ℕ → Option ℕ
  pub entries : List ℕ → Option (List ℕ) → Option ℕ
  pub entry_types : List Ty
  pub known : List ℕ → Option ℕ
  pub known_types : List Ty

-- A local flag: it still has the value that it was declared with, or its statement has set it, and it is read as
-- the accumulator with this number, or the opposite of it, at the rows of these loops.
pub data Flag : Type 0 where
  Starts : Bool → Flag
  Reads : ℕ → Bool → List ℕ → Flag

-- the local flags that are in sight
abbrev pub Flags : Type 0
Flags = List ℕ → Option Flag

abbrev pub no_flags : Flags
no_flags = λ y. None

abbrev pub with_flag : List ℕ → Option Flag → Flags → Flags
with_flag b flag flags = λ y. if bytes_eq b y then flag else flags y

abbrev pub with_loop : List ℕ → ℕ → Numbering → Numbering
with_loop x j n = record n { loops = λ y. if bytes_eq x y then Some j else n.loops y }

-- the same numbers, with other loops in sight
abbrev pub with_loops : (List ℕ → Option ℕ) → Numbering → Numbering
with_loops loops n = record n { loops = loops }

-- the name has no number
pub record IsApart (n : Numbering) (a : List ℕ) : Type 0 where
  pub loops : n.loops a ≡ None
  pub entries : (f : Option (List ℕ)) → n.entries a f ≡ None
  pub known : n.known a ≡ None
  pub sources : (j : ℕ) (x : List ℕ) → n.sources j ≡ Some (FromVariable x) → bytes_eq a x ≡ false

abbrev pub is_at_other_loops : ℕ → Flag → Type 0
is_at_other_loops j (Starts t) = Unit {0}
is_at_other_loops j (Reads k opposite loops) = has_loop loops j ≡ false

-- no variable in sight has this loop, and no flag is read at its rows
pub record IsNewLoop (n : Numbering) (flags : Flags) (j : ℕ) : Type 0 where
  pub loops : (y : List ℕ) (i : ℕ) → n.loops y ≡ Some i → nat_eq j i ≡ false
  pub in_sight : (y : List ℕ) (flag : Flag) → flags y ≡ Some flag → is_at_other_loops j flag

-- the second gives all numbers that the first gives
pub record Extends (n n' : Numbering) : Type 0 where
  pub schema : n'.schema ≡ n.schema
  pub tables : (x : List ℕ) (j : ℕ) → n.loops x ≡ Some j → n'.tables j ≡ n.tables j
  pub loops : (x : List ℕ) (j : ℕ) → n.loops x ≡ Some j → n'.loops x ≡ Some j
  pub entries : (x : List ℕ) (f : Option (List ℕ)) (e : ℕ) → n.entries x f ≡ Some e → n'.entries x f ≡ Some e
  pub entry_types : (e : ℕ) (ty : Ty) → slice_get n.entry_types e ≡ Some ty → slice_get n'.entry_types e ≡ Some ty
  pub known : (x : List ℕ) (q : ℕ) → n.known x ≡ Some q → n'.known x ≡ Some q
  pub known_types : (q : ℕ) (ty : Ty) → slice_get n.known_types q ≡ Some ty → slice_get n'.known_types q ≡ Some ty
