-- What Java's types decide.
use Rattle.std.specs.Prelude.{ℕ, Bool, true, false, ◌&&◌, ◌||◌, not, nat_eq, List, codes, Option, Some, None, if◌then◌else◌}
use Rattle.std.specs.Str.{bytes_eq}
use Rattle.view_map.specs.declared.model.ScalarKind.{ScalarKind}
use Rattle.view_map.specs.declared.model.ScalarKind.TheVariants as kinds
use Rattle.view_map.specs.declared.model.ScalarType.{ScalarType}
use Rattle.view_rules.specs.declared.java_type.JavaType.{JavaType}
use Rattle.view_rules.specs.declared.java_type.JavaType.TheVariants as types
use Rattle.view_rules.specs.Options.{◌>>=◌}

-- ---- Kinds

abbrev pub same_kind : ScalarKind → ScalarKind → Bool
same_kind kinds.Int kinds.Int = true
same_kind kinds.Long kinds.Long = true
same_kind kinds.Boolean kinds.Boolean = true
same_kind kinds.Text kinds.Text = true
same_kind _ _ = false

abbrev pub is_number_kind : ScalarKind → Bool
is_number_kind kinds.Int = true
is_number_kind kinds.Long = true
is_number_kind _ = false

abbrev pub is_text_kind : ScalarKind → Bool
is_text_kind kinds.Text = true
is_text_kind _ = false

abbrev pub is_boolean_kind : ScalarKind → Bool
is_boolean_kind kinds.Boolean = true
is_boolean_kind _ = false

abbrev pub is_int_kind : ScalarKind → Bool
is_int_kind kinds.Int = true
is_int_kind _ = false

abbrev pub is_long_kind : ScalarKind → Bool
is_long_kind kinds.Long = true
is_long_kind _ = false

-- the type of a literal or a constant: primitive, but for texts, which are objects
abbrev pub unboxed_type : ScalarKind → JavaType
unboxed_type kind = types.Scalar (record { kind = kind; boxed = is_text_kind kind })

-- the type of an element of a list or set
abbrev pub boxed_type : ScalarKind → JavaType
boxed_type kind = types.Scalar (record { kind = kind; boxed = true })

abbrev pub truth : JavaType
truth = unboxed_type kinds.Boolean

abbrev pub same_boxing : Bool → Bool → Bool
same_boxing a b = (a && b) || (not a && not b)

abbrev pub same_type : JavaType → JavaType → Bool
same_type (types.Scalar a) (types.Scalar b) = same_kind a.kind b.kind && same_boxing a.boxed b.boxed
same_type (types.Row c) (types.Row d) = nat_eq c d
same_type (types.Rows c) (types.Rows d) = nat_eq c d
same_type (types.Scalars k) (types.Scalars l) = same_kind k l
same_type (types.Distinct k) (types.Distinct l) = same_kind k l
same_type _ _ = false

-- numbers of the four types: boxed ones are unboxed
abbrev pub is_number : JavaType → Bool
is_number (types.Scalar t) = is_number_kind t.kind
is_number _ = false

abbrev pub is_boolean : JavaType → Bool
is_boolean (types.Scalar t) = is_boolean_kind t.kind
is_boolean _ = false

abbrev pub is_scalar : JavaType → Bool
is_scalar (types.Scalar t) = true
is_scalar _ = false

-- an `int` or an `Integer`, as a place in a list has to be
abbrev pub is_int : JavaType → Bool
is_int (types.Scalar t) = is_int_kind t.kind
is_int _ = false

-- ---- Operators

-- `int` and `int` give `int`, else numbers give `long`: Java widens the narrower one
abbrev pub arithmetic_kind : ScalarKind → ScalarKind → Option ScalarKind
arithmetic_kind kinds.Int kinds.Int = Some kinds.Int
arithmetic_kind kinds.Int kinds.Long = Some kinds.Long
arithmetic_kind kinds.Long kinds.Int = Some kinds.Long
arithmetic_kind kinds.Long kinds.Long = Some kinds.Long
arithmetic_kind _ _ = None

-- what a sum, a difference or a product of them is
abbrev pub arithmetic : JavaType → JavaType → Option JavaType
arithmetic (types.Scalar a) (types.Scalar b) = arithmetic_kind a.kind b.kind >>= λ kind. Some (unboxed_type kind)
arithmetic _ _ = None

-- Two numbers or two truth values may be compared by `==` and `!=` where one of them at least is primitive: then Java unboxes the other one.
-- Of two boxed ones it compares objects, and texts are objects.
abbrev pub may_compare : JavaType → JavaType → Bool
may_compare (types.Scalar a) (types.Scalar b) =
    ((is_number_kind a.kind && is_number_kind b.kind) || (is_boolean_kind a.kind && is_boolean_kind b.kind)) && (not a.boxed || not b.boxed)
may_compare _ _ = false

-- ---- Equality of objects

-- Two texts are equal by `equals` where the database compares texts by their bytes.
abbrev pub are_texts : Bool → ScalarType → ScalarType → Bool
are_texts binary a b = binary && (is_text_kind a.kind && is_text_kind b.kind)

-- A boxed number or truth value equals one of the same boxed type of equal value, and no other object: a primitive one is boxed to its own
-- type, so that a `Long` never equals an `int`.
abbrev pub are_boxes : ScalarType → ScalarType → Bool
are_boxes a b = not (is_text_kind a.kind) && (a.boxed && same_kind a.kind b.kind)

-- `a.equals(b)`
abbrev pub may_equal : Bool → JavaType → JavaType → Bool
may_equal binary (types.Scalar a) (types.Scalar b) = are_texts binary a b || are_boxes a b
may_equal binary _ _ = false

abbrev pub are_primitives : ScalarType → ScalarType → Bool
are_primitives a b = not (is_text_kind a.kind) && ((not a.boxed && not b.boxed) && same_kind a.kind b.kind)

-- `Objects.equals(a, b)`: both are objects then, a primitive one boxed to its own type
abbrev pub may_equal_objects : Bool → JavaType → JavaType → Bool
may_equal_objects binary (types.Scalar a) (types.Scalar b) = (are_texts binary a b || are_boxes a b) || are_primitives a b
may_equal_objects binary _ _ = false

abbrev pub is_text : JavaType → Bool
is_text (types.Scalar t) = is_text_kind t.kind
is_text _ = false

-- what `longValue`, `intValue` and `booleanValue` give: the same value, primitive
abbrev pub unboxed_scalar : List ℕ → ScalarType → Option JavaType
unboxed_scalar method t =
    if not t.boxed then None
    else (if bytes_eq method (codes "longValue") && is_number_kind t.kind then Some (unboxed_type kinds.Long)
    else (if bytes_eq method (codes "intValue") && is_int_kind t.kind then Some (unboxed_type kinds.Int)
    else (if bytes_eq method (codes "booleanValue") && is_boolean_kind t.kind then Some (unboxed_type kinds.Boolean) else None)))

abbrev pub unboxed : List ℕ → JavaType → Option JavaType
unboxed method (types.Scalar t) = unboxed_scalar method t
unboxed method _ = None

-- ---- Assignment

-- Java boxes and unboxes to the very type, and widens an `int` to a `long`, also a boxed one that it unboxes first; it never boxes an `int`
-- to a `Long`
abbrev pub scalar_may_be_assigned : ScalarType → ScalarType → Bool
scalar_may_be_assigned target value = same_kind target.kind value.kind || (not target.boxed && (is_long_kind target.kind && is_int_kind value.kind))

-- A value of the second type may be assigned to a variable of the first one. No variable is seen as a list or a set by itself, so these are
-- fresh ones, which no other variable holds.
abbrev pub may_be_assigned : JavaType → JavaType → Bool
may_be_assigned (types.Scalar target) (types.Scalar value) = scalar_may_be_assigned target value
may_be_assigned target value = same_type target value

-- ---- Lists and sets

-- what a list or set holds
abbrev pub element_of : JavaType → Option JavaType
element_of (types.Rows c) = Some (types.Row c)
element_of (types.Scalars k) = Some (boxed_type k)
element_of (types.Distinct k) = Some (boxed_type k)
element_of _ = None

-- a value is of the element type or its primitive
abbrev pub is_element : JavaType → JavaType → Bool
is_element (types.Rows c) (types.Row d) = nat_eq c d
is_element (types.Scalars k) (types.Scalar t) = same_kind k t.kind
is_element (types.Distinct k) (types.Scalar t) = same_kind k t.kind
is_element _ _ = false

-- `xs.add(e)`: Java boxes a primitive to its own type alone
abbrev pub may_be_added : JavaType → JavaType → Bool
may_be_added xs value = is_element xs value

-- `for (T x : xs)`, with T the element type or its primitive
abbrev pub may_be_walked : JavaType → JavaType → Bool
may_be_walked xs java = is_element xs java

-- `xs.contains(e)` of scalars, of texts where the database compares them by their bytes: a list of `Long` never contains an `int`
abbrev pub contains_kind : Bool → ScalarKind → JavaType → Bool
contains_kind binary kind (types.Scalar t) = same_kind kind t.kind && (binary || not (is_text_kind kind))
contains_kind binary kind _ = false

abbrev pub contains : Bool → JavaType → JavaType → Bool
contains binary (types.Scalars k) value = contains_kind binary k value
contains binary (types.Distinct k) value = contains_kind binary k value
contains binary _ value = false
