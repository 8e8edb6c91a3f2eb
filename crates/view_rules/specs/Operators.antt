-- Operators: what their operands have to be, and what they give.
use Rattle.std.specs.Prelude.{ℕ, List, [], ◌∷◌, Bool, true, false, ◌&&◌, ◌||◌, not, nat_le, nat_lt, Option, Some, None, codes, if◌then◌else◌}
use Rattle.view_rules.specs.declared.expression.Operator.{Operator}
use Rattle.view_rules.specs.declared.expression.Operator.TheVariants as ops
use Rattle.view_rules.specs.declared.java_type.JavaType.{JavaType}
use Rattle.view_rules.specs.Decisions.{truth, is_number, is_boolean, is_text, arithmetic, may_compare, may_equal, may_equal_objects, unboxed}
use Rattle.view_rules.specs.Levels.{operator_level, joined_level}
use Rattle.view_rules.specs.Names.{Seen, past_member, is_row_of}
use Rattle.view_rules.specs.Options.{◌>>=◌, where_so}
use Rattle.view_rules.specs.Setting.{Within, past, past_all, next, here, is_clear}
use Rattle.view_rules.specs.Spelled.{bytes_at}

abbrev pub operator_sign : Operator → List ℕ
operator_sign ops.Or = codes "||"
operator_sign ops.And = codes "&&"
operator_sign ops.Same = codes "=="
operator_sign ops.Other = codes "!="
operator_sign ops.Less = codes "<"
operator_sign ops.LessOrSame = codes "<="
operator_sign ops.Greater = codes ">"
operator_sign ops.GreaterOrSame = codes ">="
operator_sign ops.Plus = codes "+"
operator_sign ops.Minus = codes "-"
operator_sign ops.Times = codes "*"

abbrev pub truth_where : Bool → Option JavaType
truth_where test = where_so test truth

-- what an operator gives: boxed operands are unboxed, and numbers are within their types
abbrev pub operated : Operator → JavaType → JavaType → Option JavaType
operated ops.Or a b = truth_where (is_boolean a && is_boolean b)
operated ops.And a b = truth_where (is_boolean a && is_boolean b)
operated ops.Same a b = truth_where (may_compare a b)
operated ops.Other a b = truth_where (may_compare a b)
operated ops.Less a b = truth_where (is_number a && is_number b)
operated ops.LessOrSame a b = truth_where (is_number a && is_number b)
operated ops.Greater a b = truth_where (is_number a && is_number b)
operated ops.GreaterOrSame a b = truth_where (is_number a && is_number b)
operated ops.Plus a b = arithmetic a b
operated ops.Minus a b = arithmetic a b
operated ops.Times a b = arithmetic a b

-- operators of one level go from left to right
abbrev pub binds : Operator → ℕ → ℕ → Bool
binds operator left right = nat_le (operator_level operator) left && nat_lt (operator_level operator) right

abbrev pub binary : Operator → ℕ → JavaType → ℕ → Seen → Option Seen
binary operator m left n right = if binds operator m n then (operated operator left right.1 >>= λ java. Some (right.0, java)) else None

abbrev pub seen_where : Bool → ℕ → JavaType → Option Seen
seen_where test to java = where_so test (to, java)

-- `!e`
abbrev pub negated : ℕ → Seen → Option Seen
negated level e = seen_where (nat_le 7 level && is_boolean e.1) e.0 truth

-- behind tests for null
abbrev pub tested_before : Bool → ℕ → Seen → Option Seen
tested_before all level e = seen_where (nat_lt (joined_level all) level && is_boolean e.1) e.0 truth

-- before tests for null
abbrev pub tested_behind : Bool → ℕ → JavaType → ℕ → Option Seen
tested_behind all level java to = seen_where (nat_le (joined_level all) level && is_boolean java) to truth

-- `(` at the front
abbrev pub opened : Within → ℕ → ℕ → Option ℕ
opened w at i = here at i >>= λ h. past w (codes "(") h

-- `)` behind what is seen
abbrev pub closed : Within → ℕ → Seen → Option Seen
closed w close e = here close e.0 >>= λ h. past w (codes ")") h >>= λ j. Some (j, e.1)

-- `.equals(` behind a receiver
abbrev pub past_equals : Within → ℕ → ℕ → Option ℕ
past_equals w dot i = here dot i >>= λ h. past_all w (codes "." ∷ codes "equals" ∷ codes "(" ∷ []) h

-- `Objects.equals(`, where nothing obscures the name
abbrev pub past_objects : Within → ℕ → ℕ → Option ℕ
past_objects w at i =
    here at i >>= λ h. (if is_clear w (codes "Objects") then past_all w (codes "Objects" ∷ codes "." ∷ codes "equals" ∷ codes "(" ∷ []) h else None)

-- a word or a sign at this very item
abbrev pub past_sign : Within → List ℕ → ℕ → ℕ → Option ℕ
past_sign w word at i = here at i >>= λ h. past w word h

abbrev pub agrees : Bool → Bool → Bool
agrees true b = b
agrees false b = not b

-- `a.equals(b)`, with whether texts are compared
abbrev pub equalled : Within → Bool → ℕ → JavaType → Seen → Option Seen
equalled w texts level a b =
    seen_where ((nat_le 8 level && agrees texts (is_text a)) && may_equal w.map.texts_binary a b.1) b.0 truth

-- `Objects.equals(a, b)`: of texts the first one is to stand alone before `.equals`
abbrev pub equalled_objects : Within → Bool → ℕ → JavaType → Seen → Option Seen
equalled_objects w texts level a b =
    seen_where (((not texts || nat_le 8 level) && agrees texts (is_text a)) && may_equal_objects w.map.texts_binary a b.1) b.0 truth

-- `.longValue()` and its kin behind a receiver
abbrev pub unboxed_at : Within → ℕ → ℕ → Seen → Option Seen
unboxed_at w dot level e =
    here dot e.0 >>= λ h. past w (codes ".") h >>= λ j. next w j >>= λ k. past_all w (codes "(" ∷ codes ")" ∷ []) k >>= λ l.
    (if nat_le 8 level then (unboxed (bytes_at w j) e.1 >>= λ java. Some (l, java)) else None)

-- `.m` or `.m()` behind a row
abbrev pub column_at : Within → ℕ → ℕ → ℕ → ℕ → Seen → Option Seen
column_at w dot class member level e =
    here dot e.0 >>= λ h. (if nat_le 8 level && is_row_of class e.1 then past_member w class member h else None)
