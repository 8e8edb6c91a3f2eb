-- Statements that fit in at a place of a method, as far as the type rules go.
use Rattle.std.specs.Prelude.{◌≡◌, ℕ, Bool, true, false, ◌&&◌, List, [], ◌∷◌, ◌++◌}
use Rattle.std.specs.declared.option.Option.{Option}
use Rattle.qbs_base.specs.Values.{Schema}
use Rattle.sql_ast.specs.Tree.{PlainQuery}
use Rattle.java_ast.specs.Tree.{Statements, Nothing, Then, PlainMethod}
use Rattle.java_mean.specs.Mentions.{EachMentioned, EachDeclared}
use Rattle.java_mean.specs.Places.{Around, Place, step, is_nothing, in_parts, in_statements, in_for_each, in_while, in_branch, in_body}
use Rattle.java_mean.specs.Refines.{Hole, Here, Past, InIf, InThen, InElse, InEach, InWhile, behind, types_at}
use Rattle.java_mean.specs.Rules.{returns}
use Rattle.java_mean.specs.Types.{type_spelled, types_of_params, types_past}
use Rattle.java_mean.specs.Visible.{Visible, is_visible, type_at, declared_in, after, with_params}
use Rattle.java_mean.specs.WellTyped.{faults_in}

-- a variable is visible in both lists with the same type, or in neither
pub record IsSeenAlike (vs us : Visible) (x : List ℕ) : Type 0 where
  pub visible : is_visible vs x ≡ is_visible us x
  pub type : type_at vs x ≡ type_at us x

-- what is visible after statements of a block
abbrev pub visible_past : Schema → Visible → Statements → Visible
visible_past schema vs Nothing = vs
visible_past schema vs (Then a p) = visible_past schema (after schema vs a) p

-- what is visible at a place, where the first are visible before all
abbrev pub visible_before : Schema → Visible → Hole → Visible
visible_before schema vs (Here q) = vs
visible_before schema vs (Past a h) = visible_before schema (after schema vs a) h
visible_before schema vs (InIf at e h q) = visible_before schema vs h
visible_before schema vs (InThen at e h b q) = visible_before schema vs h
visible_before schema vs (InElse at e a h q) = visible_before schema vs h
visible_before schema vs (InEach at ty x e h q) = visible_before schema (declared_in vs x (type_spelled schema ty)) h
visible_before schema vs (InWhile at e h q) = visible_before schema vs h

-- what stands round the block of a place
abbrev pub around_place : Around → Hole → Around
around_place w (Here q) = w
around_place w (Past a h) = around_place w h
around_place w (InIf at e h q) = around_place (in_branch w) h
around_place w (InThen at e h b q) = around_place (in_branch w) h
around_place w (InElse at e a h q) = around_place (in_branch w) h
around_place w (InEach at ty x e h q) = around_place (in_for_each e w) h
around_place w (InWhile at e h q) = around_place (in_while w) h

-- the places of the first statements of a block, which they end or not
abbrev pub in_first : Schema → Visible → Around → Bool → Statements → List Place
in_first schema vs w ends Nothing = []
in_first schema vs w ends (Then a p) = (step vs w (is_nothing p && ends) a ∷ in_parts schema vs w a) ++ in_first schema (after schema vs a) w ends p

-- statements have no fault at a place of a method, with what is visible there
abbrev pub IsFineAt : Schema → (List ℕ → Option PlainQuery) → PlainMethod → Hole → Statements → Type 0
IsFineAt schema read m hole part =
    faults_in schema read m.result (in_first schema (visible_before schema (with_params schema [] m.params) hole) (around_place in_body hole) (is_nothing (behind hole)) part) ≡ []

-- what stands behind a place in its block has no fault, with what the statements there leave visible
abbrev pub IsFineBehind : Schema → (List ℕ → Option PlainQuery) → PlainMethod → Hole → Statements → Type 0
IsFineBehind schema read m hole part =
    faults_in schema read m.result (in_statements schema (visible_past schema (visible_before schema (with_params schema [] m.params) hole) part) (around_place in_body hole) (behind hole)) ≡ []

-- both leave a variable invisible, or visible with the same type
abbrev pub IsLeftAlike : Schema → PlainMethod → Hole → Statements → Statements → List ℕ → Type 0
IsLeftAlike schema m hole old new x = types_past schema (types_at schema (types_of_params schema m.params) hole) old x ≡ types_past schema (types_at schema (types_of_params schema m.params) hole) new x

-- Statements fit in where others stand that aren't nothing: they have no fault there, they return where the others
-- do, and what is mentioned or declared behind the place in its block is left alike.
pub record FitsIn (schema : Schema) (read : List ℕ → Option PlainQuery) (m : PlainMethod) (hole : Hole) (old new : Statements) : Type 0 where
  pub there : is_nothing old ≡ false
  pub returned : returns old ≡ true → returns new ≡ true
  pub fine : IsFineAt schema read m hole new
  pub mentioned : EachMentioned (IsLeftAlike schema m hole old new) (behind hole)
  pub declared : EachDeclared (IsLeftAlike schema m hole old new) (behind hole)
