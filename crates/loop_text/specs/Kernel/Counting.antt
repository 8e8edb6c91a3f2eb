-- The condition of a loop that counts.
use Rattle.std.specs.Prelude.{ℕ, pos, Bool, true, false, List, if◌then◌else◌}
use Rattle.std.specs.Str.{bytes_eq}
use Rattle.std.specs.declared.option.Option.{Option}
use Rattle.std.specs.declared.option.Option.TheVariants.{Some, None}
use Rattle.qbs_base.specs.declared.scalar.Scalar.{Scalar}
use Rattle.qbs_base.specs.declared.scalar.Scalar.TheVariants as scalars
use Rattle.java_ast.specs.declared.tree.Op.{Op}
use Rattle.java_ast.specs.declared.tree.Op.TheVariants as ops
use Rattle.java_ast.specs.Tree.{Expression}
use Rattle.java_ast.specs.Tree as plain

abbrev pub is_less : Op → Bool
is_less ops.Lt = true
is_less _ = false

abbrev pub is_and : Op → Bool
is_and ops.And = true
is_and _ = false

-- what a loop counts: its counter, the list whose size it counts to, and a limit where there is one
pub record Counting : Type 0 where
  pub counter : List ℕ
  pub list : List ℕ
  pub limit : Option ℕ

-- `i < c` with a number c of 0 or more
pub record Cap : Type 0 where
  pub counter : List ℕ
  pub most : ℕ

abbrev pub counting_of : List ℕ → Expression → Option Counting
counting_of i (plain.Size at xs) = Some (record { counter = i; list = xs; limit = None })
counting_of i _ = None

-- `i < xs.size()`
abbrev pub counted_below : Expression → Expression → Option Counting
counted_below (plain.Var at i) b = counting_of i b
counted_below _ b = None

abbrev pub counted : Expression → Option Counting
counted (plain.Binary at op a b) = if is_less op then counted_below a b else None
counted _ = None

abbrev pub cap_of_number : List ℕ → Scalar → Option Cap
cap_of_number i (scalars.Long (pos c)) = Some (record { counter = i; most = c })
cap_of_number i _ = None

abbrev pub cap_of : List ℕ → Expression → Option Cap
cap_of i (plain.Lit at value) = cap_of_number i value
cap_of i _ = None

abbrev pub capped_below : Expression → Expression → Option Cap
capped_below (plain.Var at i) b = cap_of i b
capped_below _ b = None

abbrev pub capped : Expression → Option Cap
capped (plain.Binary at op a b) = if is_less op then capped_below a b else None
capped _ = None

-- both bound one counter
abbrev pub both_bound : Option Counting → Option Cap → Option Counting
both_bound (Some k) (Some c) = if bytes_eq k.counter c.counter then Some (record k { limit = Some c.most }) else None
both_bound _ _ = None

abbrev pub either_counting : Option Counting → Option Counting → Option Counting
either_counting (Some k) other = Some k
either_counting None other = other

-- `i < xs.size()`, or with `i < c` on either side of `&&`
abbrev pub counting : Expression → Option Counting
counting (plain.Binary at op a b) =
    if is_and op then either_counting (both_bound (counted a) (capped b)) (both_bound (counted b) (capped a)) else (if is_less op then counted_below a b else None)
counting _ = None
