use Rattle.std.specs.Prelude.{codes}
use Rattle.std.proofs.lemmas.Result.{on_ok_weaker}
use Rattle.view_rules.specs.Cells.{made}
use Rattle.view_rules.specs.Setting.{within_of}
use Rattle.view_statements.specs.Cells.{key_cells}
use Rattle.view_statements.proofs.Pushed.{pushed}
use Rattle.view_statements.proofs.tokens.put_further_key.Goals as goal

pub returns : goal.returns
returns c =
    on_ok_weaker c.put_key.result
    (pushed c.args.cells.now c.push_made.new.cells c.put_key.new.cells (made (within_of c.args.w.now) c.args.key.at (codes "."))
    (key_cells (within_of c.args.w.now) (codes "thenComparing") c.args.key) c.in_ok-push_made.ensures)
    c.put_key.ensures
