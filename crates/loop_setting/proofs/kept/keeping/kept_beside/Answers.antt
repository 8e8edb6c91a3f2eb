use Rattle.std.proofs.Common.{sym, subst, ◌∙◌}
use Rattle.loop_text.specs.Statements.KeptStatements.{AreKept}
use Rattle.java_ast.specs.Names.{names_read}
use Rattle.loop_text.specs.Sites.Reading.{exprs_lent}
use Rattle.loop_setting.specs.Reading.{fragment_in_code}
use Rattle.loop_setting.proofs.KeptNumbers.{none_kept}
use Rattle.loop_setting.proofs.kept.keeping.kept_beside.Goals as goal

pub returns-then-drops_all : goal.returns-then-drops_all
returns-then-drops_all c =
    let f = fragment_in_code c.args.f.now in
    let further = names_read (exprs_lent c.args.entries.now) in
    subst (AreKept f further c.args.first f.run) (sym c.new.ensures) (none_kept f further c.args.first f.run (sym c.drops_all.ensures ∙ c.if-drops_all.true))
