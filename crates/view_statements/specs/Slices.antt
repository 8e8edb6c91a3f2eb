-- The plain form of slices and of methods with slices.
use Rattle.std.specs.Prelude.{ℕ, Bool, List, map}
use Rattle.view_map.specs.declared.model.ScalarKind.{ScalarKind}
use Rattle.view_shapes.specs.declared.members.Stretch.{Stretch}
use Rattle.view_rules.specs.declared.sight.Param.{Param}
use Rattle.view_rules.specs.declared.sight.Sighted.{Sighted}
use Rattle.view_statements.specs.declared.slice.Ending.{Ending}
use Rattle.view_statements.specs.declared.slice.Ending.TheVariants as endings
use Rattle.view_statements.specs.declared.slice.Group.{Group}
use Rattle.view_statements.specs.declared.slice.Printed.{Printed}
use Rattle.view_statements.specs.declared.slice.Read.{Read}
use Rattle.view_statements.specs.declared.slice.Slice.{Slice}
use Rattle.view_statements.specs.declared.slice.Sliced.{Sliced}
use Rattle.view_statements.specs.Reading.{statement, statements}
use Rattle.view_statements.specs.Tree.{PlainStatement, PlainStatements}

pub record PlainGroup : Type 0 where
  pub variable : List ℕ
  pub value : Bool
  pub walk : PlainStatement

-- what stands behind the statements: nothing, a group, or the `return` of a variable
pub data PlainEnding : Type 0 where
  Open : PlainEnding
  Grouped : PlainGroup → PlainEnding
  Returned : List ℕ → PlainEnding

pub record PlainSlice : Type 0 where
  pub from : ℕ
  pub to : ℕ
  pub block : Stretch
  pub outside : List Sighted
  pub declared : List ℕ
  pub params : List Param
  pub kinds : List ScalarKind
  pub tested : List (List ℕ)
  pub gets : Bool
  pub prints : List Printed
  pub each : List ℕ
  pub statements : PlainStatements
  pub ending : PlainEnding

-- a method, what may be read in it, and its slices
pub record PlainSliced : Type 0 where
  pub read : Read
  pub slices : List PlainSlice

-- ---- As code has them

abbrev pub group : Group → PlainGroup
group g = record { variable = g.variable; value = g.value; walk = statement g.walk }

abbrev pub ending : Ending → PlainEnding
ending endings.Open = Open
ending (endings.Grouped g) = Grouped (group g)
ending (endings.Returned variable) = Returned variable

abbrev pub slice : Slice → PlainSlice
slice s =
    record {
      from = s.from;
      to = s.to;
      block = s.block;
      outside = s.outside;
      declared = s.declared;
      params = s.params;
      kinds = s.kinds;
      tested = s.tested;
      gets = s.gets;
      prints = s.prints;
      each = s.each;
      statements = statements s.statements;
      ending = ending s.ending;
    }

abbrev pub slices : List Slice → List PlainSlice
slices ss = map slice ss

-- a method with its slices
abbrev pub sliced : Sliced → PlainSliced
sliced s = record { read = s.read; slices = slices s.slices }

abbrev pub all_sliced : List Sliced → List PlainSliced
all_sliced ss = map sliced ss
