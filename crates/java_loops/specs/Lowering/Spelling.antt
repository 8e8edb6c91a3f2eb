-- The type with which a variable that is visible at a statement was declared, as the program spells it.
use Rattle.std.specs.Prelude.{ℕ, List, [], ◌∷◌, bytes_eq, slice_get, if◌then◌else◌}
use Rattle.std.specs.declared.option.Option.{Option}
use Rattle.std.specs.declared.option.Option.TheVariants.{Some, None}
use Rattle.java_ast.specs.Path.{found_in, numbered, branch_of, first_of}
use Rattle.java_ast.specs.Tree.{Spelled, ListOf, SetOf, Statement, Statements, Nothing, Then, PlainParam, PlainMethod, PlainProgram}
use Rattle.java_ast.specs.Tree as plain

-- the type behind a statement, where it was this one before
abbrev pub spelled_after : List ℕ → Option Spelled → Statement → Option Spelled
spelled_after x o (plain.Declare at ty y e) = if bytes_eq y x then Some ty else o
spelled_after x o _ = o

-- behind statements of a block
abbrev pub spelled_past : List ℕ → Option Spelled → Statements → Option Spelled
spelled_past x o Nothing = o
spelled_past x o (Then s ss) = spelled_past x (spelled_after x o s) ss

-- in the branches of a statement
abbrev pub spelled_inside : List ℕ → Option Spelled → Statement → Option Spelled
spelled_inside x o (plain.ForEach at ty y e b) = if bytes_eq y x then Some ty else o
spelled_inside x o _ = o

-- before the statement to which a path leads behind the number n of a statement of this block
abbrev pub spelled_in : List ℕ → Option Spelled → List ℕ → ℕ → Statements → Option Spelled
spelled_in x o [] n block = spelled_past x o (first_of n block)
spelled_in x o (b ∷ []) n block = None
spelled_in x o (b ∷ m ∷ path) n block =
    found_in (λ s. found_in (spelled_in x (spelled_inside x (spelled_past x o (first_of n block)) s) path m) (branch_of b s)) (numbered n block)

-- the type of a parameter
abbrev pub spelled_of_param : List ℕ → List PlainParam → Option Spelled
spelled_of_param x [] = None
spelled_of_param x (p ∷ ps) = if bytes_eq p.name x then Some p.ty else spelled_of_param x ps

abbrev pub spelled_in_method : List ℕ → List ℕ → ℕ → PlainMethod → Option Spelled
spelled_in_method x path n m = spelled_in x (spelled_of_param x m.params) path n m.body

-- the type of a variable before the statement to which a path leads in a program
abbrev pub spelled_at : List ℕ → List ℕ → PlainProgram → Option Spelled
spelled_at x (m ∷ n ∷ path) p = found_in (spelled_in_method x path n) (slice_get p.methods m)
spelled_at x _ p = None

-- the element type of a list or set
abbrev pub element_spelled : Option Spelled → Option Spelled
element_spelled (Some (ListOf e)) = Some e
element_spelled (Some (SetOf e)) = Some e
element_spelled _ = None
