-- Why a for-each stays as it is that can't be narrowed.
use Rattle.std.specs.Prelude.{ℕ, zero, suc, List, Bool, true, false, ◌&&◌, ◌||◌, if◌then◌else◌}
use Rattle.std.specs.declared.option.Option.{Option}
use Rattle.std.specs.declared.option.Option.TheVariants.{Some, None}
use Rattle.java_ast.specs.Path.{behind_of, last_of}
use Rattle.java_ast.specs.Tree.{Expression, Fetch, Declare, If, ForEach, Statements, Nothing, Then, PlainProgram}
use Rattle.spreads.specs.Alone.{walks_alone}
use Rattle.spreads.specs.Narrowed.{outer_block_at}
use Rattle.narrowing.specs.declared.walk.Reason.{Reason}
use Rattle.narrowing.specs.declared.walk.Reason.TheVariants as reasons

abbrev pub is_fetch : Expression → Bool
is_fetch (Fetch at table) = true
is_fetch e = false

-- the first of these statements declares a fetch for the for-each behind it, and its variable is named nowhere else
abbrev pub declares_fetch : Statements → Bool
declares_fetch (Then (Declare at ty v value) (Then (ForEach at' ty' x e body) p)) = is_fetch value && walks_alone v (Then (ForEach at' ty' x e body) p)
declares_fetch p = false

abbrev pub is_declared_before : ℕ → Statements → Bool
is_declared_before zero block = false
is_declared_before (suc n) block = declares_fetch (behind_of n block)

-- Condition: the body is one `if` without `else`, but no part of its condition is plain
abbrev pub reason_of_body : Statements → Reason
reason_of_body (Then (If at c a) Nothing) = reasons.Condition
reason_of_body body = reasons.Body

-- the first of these statements is a for-each, for which a fetch may have been declared
abbrev pub reason_of : Bool → Statements → Reason
reason_of declared (Then (ForEach at ty x e body) p) = if is_fetch e || declared then reason_of_body body else reasons.List
reason_of declared p = reasons.List

-- the for-each with this number of the block in which it stands, where no loop stands round it
abbrev pub reason_in : ℕ → Option Statements → Reason
reason_in n (Some block) = reason_of (is_declared_before n block) (behind_of n block)
reason_in n None = reasons.Inside

abbrev pub reason_at : List ℕ → PlainProgram → Reason
reason_at path p = reason_in (last_of path) (outer_block_at path p)
