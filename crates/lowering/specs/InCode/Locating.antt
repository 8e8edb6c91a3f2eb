-- The loop to which a path leads, as the code finds it.
use Rattle.std.specs.Prelude.{◌≡◌, ℕ, List}
use Rattle.std.specs.declared.option.Option.{Option}
use Rattle.std.specs.declared.option.Option.TheVariants.{Some, None}
use Rattle.qbs_base.specs.Values.{Schema}
use Rattle.java_ast.specs.Reading.{statement, statements}
use Rattle.java_ast.specs.Tree.{Statements, PlainProgram}
use Rattle.java_mean.specs.Visible.{Visible, names_seen}
use Rattle.loop_text.specs.Statements.Fragment.{Fragment, fragment_in}
use Rattle.loop_text.specs.Statements.KeptStatements.{first_in, first_at}
use Rattle.java_ast.specs.Names.{with_names, declared_among}
use Rattle.java_loops.specs.Lowering.Placing.{scope_in, scope_at, fragment_once_at}
use Rattle.lowering.specs.declared.places.position.Located.{Located}
use Rattle.lowering.specs.declared.places.position.Spot.{Spot}

abbrev pub fragment_located : Located → Fragment
fragment_located q =
    record { visible = names_seen q.visible; run = statements q.run.now; loop = statement q.looped.now; behind = statements q.behind.now }

abbrev pub fragment_spotted : Visible → Spot → Fragment
fragment_spotted before q =
    record { visible = names_seen before; run = statements q.run.now; loop = statement q.looped.now; behind = statements q.behind.now }

-- It is the fragment of the loop to which the path leads behind the number n of a statement of this block, with the number of
-- the run's first statement and what is visible at the loop.
pub record IsLocatedIn (o : Option Schema) (vs : Visible) (path : List ℕ) (n : ℕ) (block : Statements) (q : Located) : Type 0 where
  pub fragment : fragment_in (names_seen vs) path n block ≡ Some (fragment_located q)
  pub first : first_in path n block ≡ Some q.first
  pub types : scope_in o vs path n block ≡ Some q.types

-- the same, and none where the path leads to no loop
abbrev pub IsFoundIn : Option Schema → Visible → List ℕ → ℕ → Statements → Option Located → Type 0
IsFoundIn o vs path n block (Some q) = IsLocatedIn o vs path n block q
IsFoundIn o vs path n block None = fragment_in (names_seen vs) path n block ≡ None

-- The same with what is visible before the run, and what is visible at the loop: its types are those of the loop, and its names
-- those of before and what the run declares.
pub record IsSpottedIn (o : Option Schema) (vs : Visible) (path : List ℕ) (n : ℕ) (block : Statements) (before there : Visible) (q : Spot) : Type 0 where
  pub fragment : fragment_in (names_seen vs) path n block ≡ Some (fragment_spotted before q)
  pub first : first_in path n block ≡ Some q.first
  pub types : scope_in o vs path n block ≡ Some there
  pub scoped : names_seen there ≡ with_names (names_seen before) (declared_among (statements q.run.now))

-- the same, and none where the path leads to no loop
abbrev pub IsSeenIn : Option Schema → Visible → List ℕ → ℕ → Statements → Visible → Visible → Option Spot → Type 0
IsSeenIn o vs path n block before there (Some q) = IsSpottedIn o vs path n block before there q
IsSeenIn o vs path n block before there None = fragment_in (names_seen vs) path n block ≡ None

-- the same in a program
pub record IsLocatedAt (o : Option Schema) (path : List ℕ) (p : PlainProgram) (q : Located) : Type 0 where
  pub fragment : fragment_once_at path p ≡ Some (fragment_located q)
  pub first : first_at path p ≡ Some q.first
  pub types : scope_at o path p ≡ Some q.types

abbrev pub IsFoundAt : Option Schema → List ℕ → PlainProgram → Option Located → Type 0
IsFoundAt o path p (Some q) = IsLocatedAt o path p q
IsFoundAt o path p None = fragment_once_at path p ≡ None
