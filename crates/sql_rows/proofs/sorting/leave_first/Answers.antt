use Rattle.std.proofs.Common.{◌∙◌, ap}
use Rattle.std.specs.declared.vec.Vec.{Vec}
use Rattle.std.specs.declared.alloc.Global.{Global}
use Rattle.sql_ast.specs.Meaning.{cut}
use Rattle.sql_rows.specs.declared.place.Place.{Place as CodePlace}
use Rattle.sql_rows.specs.Reading.{combination, combinations}
use Rattle.sql_rows.proofs.Sorted.{cut_map}
use Rattle.sql_rows.proofs.sorting.leave_first.Goals as goal

pub returns : goal.returns
returns c = ap combinations c.cut_whole.ensures ∙ cut_map (λ (v : Vec CodePlace Global). combination v.items) c.args.limit c.sort_whole.new.all.items ∙ ap (cut c.args.limit) c.in_ok-sort_whole.ensures
