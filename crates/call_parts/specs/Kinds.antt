-- Types of results and of declared variables, as they are spelled.
use Rattle.std.specs.Prelude.{ℕ, List, Bool, true, false, ◌||◌, codes, bytes_eq}
use Rattle.java_ast.specs.Tree.{Spelled, Int, Long, Boolean, String, BoxedInteger, BoxedLong, BoxedBoolean, Table, ListOf, SetOf}

abbrev pub is_scalar_type : Spelled → Bool
is_scalar_type Int = true
is_scalar_type Long = true
is_scalar_type Boolean = true
is_scalar_type String = true
is_scalar_type _ = false

-- `int` and `long` are one type, and so are `Integer` and `Long`
abbrev pub one_type : Spelled → Spelled
one_type Int = Long
one_type BoxedInteger = BoxedLong
one_type (ListOf e) = ListOf (one_type e)
one_type (SetOf e) = SetOf (one_type e)
one_type ty = ty

abbrev pub same_spelled : Spelled → Spelled → Bool
same_spelled Int Int = true
same_spelled Long Long = true
same_spelled Boolean Boolean = true
same_spelled String String = true
same_spelled BoxedInteger BoxedInteger = true
same_spelled BoxedLong BoxedLong = true
same_spelled BoxedBoolean BoxedBoolean = true
same_spelled (Table a) (Table b) = bytes_eq a b
same_spelled (ListOf a) (ListOf b) = same_spelled a b
same_spelled (SetOf a) (SetOf b) = same_spelled a b
same_spelled _ _ = false

abbrev pub are_one_type : Spelled → Spelled → Bool
are_one_type a b = same_spelled (one_type a) (one_type b)

-- a variable that is called so can be declared, and no expression reads it
abbrev pub is_unreadable : List ℕ → Bool
is_unreadable x = bytes_eq x (codes "Long") || bytes_eq x (codes "Integer")
