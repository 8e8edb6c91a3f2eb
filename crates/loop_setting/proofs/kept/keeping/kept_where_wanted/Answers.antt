use Rattle.std.proofs.Common.{◌≡◌, ◌∙◌, ap}
use Rattle.std.proofs.lemmas.Result.{IfOk-weaker}
use Rattle.loop_text.specs.Statements.KeptStatements.{AreKept}
use Rattle.java_ast.specs.Names.{names_read, names_lent}
use Rattle.loop_text.specs.Sites.Reading.{exprs_lent}
use Rattle.loop_setting.specs.Reading.{fragment_in_code}
use Rattle.loop_setting.specs.declared.kept.name_list.NameList.{NameList}
use Rattle.loop_text.specs.Statements.Wanted.{kept_numbers}
use Rattle.loop_setting.proofs.KeptNumbers.{are_kept}
use Rattle.loop_setting.proofs.kept.keeping.kept_where_wanted.Goals as goal

pub returns : goal.returns
returns c =
    let f = fragment_in_code c.args.f.now in
    let further = names_read (exprs_lent c.args.entries.now) in
    let wanted = names_lent c.in_ok-wanted.wanted.value.names in
    let lent = names_lent c.deref.result.now.names in
    let same = ap (λ (l : NameList). kept_numbers f (names_lent l.names) c.args.first f.run) c.deref.ensures in
    IfOk-weaker c.kept_numbers.result (λ numbers. numbers ≡ kept_numbers f lent c.args.first f.run) (AreKept f further c.args.first f.run)
    (λ numbers is. are_kept f further wanted c.args.first numbers c.in_ok-wanted.ensures.wanted c.in_ok-wanted.ensures.all c.in_ok-wanted.ensures.following (is ∙ same))
    c.kept_numbers.ensures
