-- The lists of paths that the tries of a program's loops go by: a stretch of those of one method at a time.
use Rattle.std.specs.Prelude.{◌≡◌, ℕ, ◌≤◌, ◌+◌, ◌-◌, List, [], ◌∷◌, length, take, drop, slice_get}
use Rattle.std.specs.declared.option.Option.{Option}
use Rattle.std.specs.declared.option.Option.TheVariants.{Some, None}
use Rattle.java_ast.specs.Tree.{PlainMethod}
use Rattle.loop_text.specs.Statements.Loops.{loops_among, loops_of_methods}
use Rattle.loop_lists.specs.declared.listing.Listed.{Listed}

-- the loops of a method with this number, where there is one
abbrev pub loops_there : ℕ → Option PlainMethod → List (List ℕ)
loops_there n None = []
loops_there n (Some m) = loops_among (n ∷ []) 0 m.body

-- the loops of the method with this number
abbrev pub loops_numbered : ℕ → List PlainMethod → List (List ℕ)
loops_numbered n ms = loops_there n (slice_get ms n)

-- The paths of a stretch of the loops of one method. Among them is the next loop behind those that stand, so many, if there is one.
pub record Lists (ms : List PlainMethod) (standing : ℕ) (l : Listed) : Type 0 where
  pub behind : l.before ≤ standing
  pub before : l.before ≡ length (loops_of_methods 0 (take l.number ms))
  pub reached : l.before + l.from ≤ standing
  pub paths : l.paths ≡ drop l.from (take l.upto (loops_numbered l.number ms))
  pub next : slice_get l.paths ((standing - l.before) - l.from) ≡ slice_get (loops_of_methods 0 ms) standing
