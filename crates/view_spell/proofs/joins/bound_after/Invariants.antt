use Rattle.std.proofs.Common.{◌≡◌, drop}
use Rattle.sql_ast.specs.Reading.{listing}
use Rattle.view_spell.specs.Joins.{bound_after}
use Rattle.view_spell.proofs.joins.bound_after.Given as goal

abbrev pub invariant-loop-item : goal.invariant-loop-item
invariant-loop-item l = bound_after l.schema (listing l.query) (drop l._item-index l.query.from) l.bound.items ≡ bound_after l.schema (listing l.query) l.query.from l.fn.bound.items
