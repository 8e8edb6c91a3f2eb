use Rattle.std.proofs.Common.{◌+◌, ◌*◌}
use Rattle.std.specs.Prelude.{max}
use Rattle.sql_ast.specs.declared.tree.Cond.{size-Cond}
use Rattle.sql_text.proofs.Depths.{filter_depth}
use Rattle.sql_text.proofs.print.+put_condition.Given as goal

abbrev pub decreases-put_condition : goal.decreases-put_condition
decreases-put_condition l = size-Cond l.cond.now * 4 + 4

abbrev pub decreases-put_either : goal.decreases-put_either
decreases-put_either l = max (size-Cond l.a.now) (size-Cond l.b.now) * 4 + 5

abbrev pub decreases-put_both : goal.decreases-put_both
decreases-put_both l = max (size-Cond l.a.now) (size-Cond l.b.now) * 4 + 5

abbrev pub decreases-put_inner : goal.decreases-put_inner
decreases-put_inner l = filter_depth l.filter.now + 1

abbrev pub decreases-put_filter : goal.decreases-put_filter
decreases-put_filter l = filter_depth l.filter.now
