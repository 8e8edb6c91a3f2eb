-- How deep conditions are.
use Rattle.std.proofs.Common.{◌≡◌, ℕ, ◌<◌, ◌+◌, ◌*◌, Bool, List, Option, Some, None, arith}
use denote.Hole.Rolled.{depth_falls}
use Rattle.std.specs.Global.{Box}
use Rattle.sql_ast.specs.declared.tree.Cond.{Cond, size-Cond}
use Rattle.sql_ast.specs.declared.tree.Cond.TheViews as views
use Rattle.sql_ast.specs.declared.tree.Cond.TheBlock as block
use Rattle.sql_ast.specs.declared.tree.FromItem.{FromItem}
use Rattle.sql_ast.specs.declared.tree.SqlCol.{SqlCol}
use Rattle.sql_ast.specs.declared.tree.SqlOpnd.{SqlOpnd}

abbrev pub filter_depth : Option (Box Cond) → ℕ
filter_depth None = 0
filter_depth (Some a) = size-Cond a.value * 4 + 6

filter_of_exists : (from : List FromItem) (a : Box Cond) → size-Cond a.value < size-Cond (views.Exists from (Some a))
unfolding block.the_depth denote.Hole.Carrier.out
filter_of_exists from a = let h = depth_falls block.the_members block.the_sigs block.the_carrier block.member-Cond (views.Exists from (Some a)) (size-Cond (views.Exists from (Some a))) (omega arith) in omega (arith, h.0)

filter_of_within : (opnd : SqlOpnd) (negated : Bool) (col : SqlCol) (from : List FromItem) (a : Box Cond) → size-Cond a.value < size-Cond (views.Within opnd negated col from (Some a))
unfolding block.the_depth denote.Hole.Carrier.out
filter_of_within opnd negated col from a = let h = depth_falls block.the_members block.the_sigs block.the_carrier block.member-Cond (views.Within opnd negated col from (Some a)) (size-Cond (views.Within opnd negated col from (Some a))) (omega arith) in omega (arith, h.0)

pub inside_exists : (cond : Cond) (from : List FromItem) (f : Option (Box Cond)) → cond ≡ views.Exists from f → filter_depth f + 1 < size-Cond cond * 4 + 4
inside_exists cond from None e = omega arith
inside_exists cond from (Some a) e = let step : size-Cond a.value < size-Cond cond = rw e (filter_of_exists from a) in omega (arith, step)

pub inside_within : (cond : Cond) (opnd : SqlOpnd) (negated : Bool) (col : SqlCol) (from : List FromItem) (f : Option (Box Cond)) → cond ≡ views.Within opnd negated col from f → filter_depth f + 1 < size-Cond cond * 4 + 4
inside_within cond opnd negated col from None e = omega arith
inside_within cond opnd negated col from (Some a) e = let step : size-Cond a.value < size-Cond cond = rw e (filter_of_within opnd negated col from a) in omega (arith, step)
