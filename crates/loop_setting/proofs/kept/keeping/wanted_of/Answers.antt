use Rattle.std.proofs.Common.{◌∙◌, ap, sym, subst}
use Rattle.java_ast.specs.Names.{names_read, names_lent}
use Rattle.loop_text.specs.Sites.Reading.{exprs_lent}
use Rattle.loop_setting.specs.Reading.{fragment_in_code}
use Rattle.loop_setting.specs.declared.kept.name_list.NameList.{NameList}
use Rattle.loop_text.specs.Statements.Wanted.{AreWanted}
use Rattle.loop_setting.proofs.KeptNumbers.{first_are_wanted}
use Rattle.loop_setting.proofs.kept.keeping.wanted_of.Goals as goal

pub returns-clause-wanted : goal.returns-clause-wanted
returns-clause-wanted c =
    let f = fragment_in_code c.args.f.now in
    let further = names_read (exprs_lent c.args.entries.now) in
    let first = ap (λ (l : NameList). names_lent l.names) c.deref_mut.ensures.value ∙ c.in_ok-list.ensures.names in
    c.in_ok-put_all_following.ensures.wanted further (subst (AreWanted f further) (sym first) (first_are_wanted f further))
