use Rattle.std.proofs.Common.{◌∙◌, ap, map}
use Rattle.sql_ast.specs.Meaning.{cut}
use Rattle.sql_rows.specs.Keyed.{keyed_of}
use Rattle.sql_rows.proofs.Sorted.{cut_map}
use Rattle.sql_rows.proofs.sorting.sort_and_cut.Goals as goal

pub returns : goal.returns
returns c = ap (map keyed_of) c.cut_to.ensures ∙ cut_map keyed_of c.args.limit c.sort.new.all.items ∙ ap (cut c.args.limit) c.in_ok-sort.ensures
