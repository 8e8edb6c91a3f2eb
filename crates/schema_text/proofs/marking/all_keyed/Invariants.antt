use Rattle.std.proofs.Common.{◌≡◌, ◌++◌, drop, map}
use Rattle.schema.specs.Marks.{keyed}
use Rattle.schema_text.proofs.marking.all_keyed.Given as goal

-- the columns so far and those that are left, each so, are all of them
abbrev pub invariant-loop-column : goal.invariant-loop-column
invariant-loop-column l = l.all ++ map (keyed l.key) (drop l.column-index l.columns) ≡ map (keyed l.key) l.columns
