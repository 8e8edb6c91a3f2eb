use Rattle.std.proofs.Common.{◌≡◌, drop}
use Rattle.tor_terms.specs.Evaluation as found
use Rattle.std.specs.List.{list_all}
use Rattle.tor_eval.proofs.eval_lists.have_column.Given as goal

abbrev pub invariant-loop-t : goal.invariant-loop-t
invariant-loop-t l = list_all (found.column_of l.env l.e) l.ts ≡ list_all (found.column_of l.env l.e) (drop l.t-index l.ts)
