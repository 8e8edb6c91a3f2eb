use Rattle.std.proofs.Common.{◌≡◌, drop, map}
use Rattle.dump_tables.specs.Columns.{with_elements}
use Rattle.dump_tables.proofs.columns.take_elements.Given as goal

abbrev pub invariant-loop-element : goal.invariant-loop-element
invariant-loop-element l = with_elements l.table (map (λ e. e.now) (drop l.element-index l.elements)) ≡ with_elements l.fn.table (map (λ e. e.now) l.elements)
