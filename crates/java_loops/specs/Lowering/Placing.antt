-- What is visible on the way to a statement of a program: names in the order of their declarations, each with its type
-- where a schema is given.
use Rattle.std.specs.Prelude.{ℕ, List, [], ◌∷◌, slice_get}
use Rattle.std.specs.declared.option.Option.{Option}
use Rattle.std.specs.declared.option.Option.TheVariants.{Some, None}
use Rattle.qbs_base.specs.Values.{Schema}
use Rattle.java_ast.specs.Path.{found_in, numbered, branch_of, first_of}
use Rattle.java_ast.specs.Tree.{Spelled, Statement, Statements, Nothing, Then, PlainParam, PlainMethod, PlainProgram}
use Rattle.java_ast.specs.Tree as plain
use Rattle.java_mean.specs.Types.{type_spelled}
use Rattle.java_mean.specs.Visible.{Visible, declared_in}
use Rattle.java_mean.specs.declared.types.JavaType.{JavaType}
use Rattle.loop_text.specs.Statements.Fragment.{Fragment, fragment_in}
use Rattle.java_ast.specs.Names.{with_names, names_of_params}

-- the type that is spelled so, where a schema is given
abbrev pub type_under : Option Schema → Spelled → Option JavaType
type_under (Some schema) ty = type_spelled schema ty
type_under None ty = None

-- what is visible behind a statement of a block
abbrev pub scope_after : Option Schema → Visible → Statement → Visible
scope_after o vs (plain.Declare at ty x e) = declared_in vs x (type_under o ty)
scope_after o vs _ = vs

-- what is visible behind statements of a block
abbrev pub scope_past : Option Schema → Visible → Statements → Visible
scope_past o vs Nothing = vs
scope_past o vs (Then s ss) = scope_past o (scope_after o vs s) ss

-- what is visible in the branches of a statement
abbrev pub scope_inside : Option Schema → Visible → Statement → Visible
scope_inside o vs (plain.ForEach at ty x e b) = declared_in vs x (type_under o ty)
scope_inside o vs _ = vs

-- what is visible in the branches of a statement of a block, behind some first ones
abbrev pub scope_within : Option Schema → Visible → Statements → Statement → Visible
scope_within o vs before s = scope_inside o (scope_past o vs before) s

-- what is visible before the statement to which a path leads behind the number n of a statement of this block
abbrev pub scope_in : Option Schema → Visible → List ℕ → ℕ → Statements → Option Visible
scope_in o vs [] n block = Some (scope_past o vs (first_of n block))
scope_in o vs (b ∷ []) n block = None
scope_in o vs (b ∷ m ∷ path) n block =
    found_in (λ s. found_in (scope_in o (scope_within o vs (first_of n block) s) path m) (branch_of b s)) (numbered n block)

-- the parameters of a method are visible in its body
abbrev pub scope_of_params : Option Schema → Visible → List PlainParam → Visible
scope_of_params o vs [] = vs
scope_of_params o vs (p ∷ ps) = scope_of_params o (declared_in vs p.name (type_under o p.ty)) ps

abbrev pub scope_in_method : Option Schema → List ℕ → ℕ → PlainMethod → Option Visible
scope_in_method o path n m = scope_in o (scope_of_params o [] m.params) path n m.body

-- the same in a program
abbrev pub scope_at : Option Schema → List ℕ → PlainProgram → Option Visible
scope_at o (m ∷ n ∷ path) p = found_in (scope_in_method o path n) (slice_get p.methods m)
scope_at o _ p = None

-- The fragment of the loop to which a path leads, where each parameter's name stands once.
abbrev pub fragment_in_method : List ℕ → ℕ → PlainMethod → Option Fragment
fragment_in_method path n m = fragment_in (with_names [] (names_of_params m.params)) path n m.body

abbrev pub fragment_once_at : List ℕ → PlainProgram → Option Fragment
fragment_once_at (m ∷ n ∷ path) p = found_in (fragment_in_method path n) (slice_get p.methods m)
fragment_once_at _ p = None
