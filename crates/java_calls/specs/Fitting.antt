-- What has to hold of helpers beyond the rules for their bodies to stand in for their calls: well-typed programs of the grammar have it.
use Rattle.std.specs.Prelude.{ℕ, List, [], ◌∷◌, Bool, true, false, not, ◌&&◌, ◌||◌, bytes_eq, if◌then◌else◌}
use Rattle.std.specs.List.{AllByRecursion, list_all}
use Rattle.std.specs.Prelude.{◌≡◌}
use Rattle.std.specs.declared.option.Option.{Option}
use Rattle.std.specs.declared.option.Option.TheVariants.{Some, None}
use Rattle.java_ast.specs.Names.{Names, is_among, names_of_params}
use Rattle.java_ast.specs.Tree.{Spelled, Statement, Declare, If, IfElse, ForEach, While, Statements, Nothing, Then, PlainParam, PlainMethod}
use Rattle.java_mean.specs.Statement.{is_set_type}
use Rattle.call_parts.specs.Kinds.{is_scalar_type}
use Rattle.java_calls.specs.Inlining.{without_last, kept_variable}

-- a variable is declared somewhere in these statements
abbrev mutual
  pub declares : List ℕ → Statement → Bool
  declares v (Declare at ty x e) = bytes_eq x v
  declares v (If at c a) = declares_among v a
  declares v (IfElse at c a b) = declares_among v a || declares_among v b
  declares v (ForEach at ty x e body) = bytes_eq x v || declares_among v body
  declares v (While at c body) = declares_among v body
  declares v _ = false

  pub declares_among : List ℕ → Statements → Bool
  declares_among v Nothing = false
  declares_among v (Then s p) = declares v s || declares_among v p

abbrev pub both_or_none : Bool → Bool → Bool
both_or_none true b = b
both_or_none false b = not b

-- the statement declares it, as a set or not
abbrev pub declares_so : Bool → List ℕ → Statement → Bool
declares_so set v (Declare at ty x e) = bytes_eq x v && both_or_none set (is_set_type ty)
declares_so set v _ = false

-- the last of these statements that declare it, at any depth, is one of the block itself and declares it so
abbrev pub ends_declared : Bool → List ℕ → Statements → Bool
ends_declared set v Nothing = false
ends_declared set v (Then s p) = if declares_among v p then ends_declared set v p else declares_so set v s

-- no name stands there twice
abbrev pub are_apart : Names → Bool
are_apart [] = true
are_apart (x ∷ xs) = not (is_among xs x) && are_apart xs

-- the returned variable that takes the caller's name is no parameter, and is a set where the result is one, which isn't scalar
abbrev pub fits_kept : Option Spelled → Names → Statements → Option (List ℕ) → Bool
fits_kept result params before None = true
fits_kept (Some ty) params before (Some v) = not (is_among params v) && (not (is_scalar_type ty) && ends_declared (is_set_type ty) v before)
fits_kept None params before (Some v) = false

-- a helper's parameters are apart and no sets, and so is the variable that takes the caller's name
abbrev pub is_fitting : PlainMethod → Bool
is_fitting m =
    are_apart (names_of_params m.params)
    && (list_all (λ (p : PlainParam). not (is_set_type p.ty)) m.params
    && fits_kept m.result (names_of_params m.params) (without_last m.body) (kept_variable m))

abbrev pub AreFitting : List PlainMethod → Type 0
AreFitting ms = AllByRecursion (λ (m : PlainMethod). is_fitting m ≡ true) ms
