-- Operands of a chain are no deeper than it.
use Rattle.std.proofs.Common.{◌≡◌, ℕ, ◌≤◌, ◌+◌, ◌*◌, Option, Some, None, arith}
use denote.Hole.Rolled.{depth_falls}
use Rattle.std.specs.Global.{Box}
use Rattle.sql_parse.specs.declared.raw.RawCond.{RawCond, size-RawCond}
use Rattle.sql_parse.specs.declared.raw.RawCond.TheViews as views
use Rattle.sql_parse.specs.declared.raw.RawCond.TheBlock as block

first_of_both : (a b : Box RawCond) → size-RawCond a.value ≤ size-RawCond (views.Both a b)
unfolding block.the_depth denote.Hole.Carrier.out
first_of_both a b = let h = depth_falls block.the_members block.the_sigs block.the_carrier block.member-RawCond (views.Both a b) (size-RawCond (views.Both a b)) (omega arith) in omega (arith, h.0)

first_of_either : (a b : Box RawCond) → size-RawCond a.value ≤ size-RawCond (views.Either a b)
unfolding block.the_depth denote.Hole.Carrier.out
first_of_either a b = let h = depth_falls block.the_members block.the_sigs block.the_carrier block.member-RawCond (views.Either a b) (size-RawCond (views.Either a b)) (omega arith) in omega (arith, h.0)

first_of_not : (a : Box RawCond) → size-RawCond a.value ≤ size-RawCond (views.Not a)
unfolding block.the_depth denote.Hole.Carrier.out
first_of_not a = let h = depth_falls block.the_members block.the_sigs block.the_carrier block.member-RawCond (views.Not a) (size-RawCond (views.Not a)) (omega arith) in omega (arith, h.0)

pub inside_both : (rest x : RawCond) (a b : Box RawCond) (m : ℕ) → rest ≡ views.Both a b → x ≡ a.value → size-RawCond rest ≤ m → size-RawCond x ≤ m
inside_both rest x a b m e g h = let step : size-RawCond x ≤ size-RawCond rest = rw (g, e) (first_of_both a b) in omega (arith, step, h)

pub inside_either : (rest x : RawCond) (a b : Box RawCond) (m : ℕ) → rest ≡ views.Either a b → x ≡ a.value → size-RawCond rest ≤ m → size-RawCond x ≤ m
inside_either rest x a b m e g h = let step : size-RawCond x ≤ size-RawCond rest = rw (g, e) (first_of_either a b) in omega (arith, step, h)

pub inside_not : (rest x : RawCond) (a : Box RawCond) (m : ℕ) → rest ≡ views.Not a → x ≡ a.value → size-RawCond rest ≤ m → size-RawCond x ≤ m
inside_not rest x a m e g h = let step : size-RawCond x ≤ size-RawCond rest = rw (g, e) (first_of_not a) in omega (arith, step, h)

-- ---- a WHERE inside

abbrev pub filter_depth : Option (Box RawCond) → ℕ
filter_depth None = 0
filter_depth (Some a) = size-RawCond a.value * 4 + 6
