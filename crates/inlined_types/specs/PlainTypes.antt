-- What the grammar says of the types of parameters and variables, as far as the type rules don't.
use Rattle.std.specs.Prelude.{◌≡◌, List, Bool, true, false, not, ◌&&◌}
use Rattle.std.specs.List.{AllByRecursion, list_all}
use Rattle.java_ast.specs.Tree.{Spelled, BoxedInteger, BoxedLong, BoxedBoolean, Declare, Statements, Nothing, Then, PlainParam, PlainMethod}
use Rattle.java_mean.specs.Statement.{is_set_type}

abbrev pub is_boxed : Spelled → Bool
is_boxed BoxedInteger = true
is_boxed BoxedLong = true
is_boxed BoxedBoolean = true
is_boxed _ = false

-- no statement of the block itself declares a variable of a boxed type
abbrev pub declares_unboxed : Statements → Bool
declares_unboxed Nothing = true
declares_unboxed (Then (Declare at ty x e) p) = not (is_boxed ty) && declares_unboxed p
declares_unboxed (Then s p) = declares_unboxed p

-- no parameter is a set, and no variable of the body itself is boxed
abbrev pub has_plain_types : PlainMethod → Bool
has_plain_types m = list_all (λ (p : PlainParam). not (is_set_type p.ty)) m.params && declares_unboxed m.body

abbrev pub HavePlainTypes : List PlainMethod → Type 0
HavePlainTypes ms = AllByRecursion (λ (m : PlainMethod). has_plain_types m ≡ true) ms
