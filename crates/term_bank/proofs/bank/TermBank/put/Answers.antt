use Rattle.std.proofs.Common.{◌≡◌, [], length, map, sym, ap, ◌∙◌, subst, arith}
use Rattle.std.proofs.lemmas.List.{append-nil}
use Rattle.tor_terms.specs.Plain.{tree_of}
use Rattle.term_bank.specs.Banks.{IsBank}
use Rattle.term_bank.proofs.Entered.{grew, cut_back}
use Rattle.term_bank.proofs.bank.TermBank.put.Goals as goal

pub invariant_of-self : goal.invariant_of-self
invariant_of-self c =
    let old : IsBank (map tree_of c.replace-terms.result.items) = subst (λ v. IsBank (map tree_of v.items)) (sym c.replace-terms.ensures.value) c.args.self.now.well in
    record { well = subst IsBank (sym c.in-Ok.ensures.with) ((grew (map tree_of c.replace-terms.result.items) (tree_of c.args.term.now)).well old) }

pub invariant_of-self-in-Err : goal.invariant_of-self-in-Err
invariant_of-self-in-Err c =
    let long : c.len-len.result ≡ length c.replace-terms.result.items = omega (arith, c.len-len.ensures, c.replace-terms.result.ok) in
    let back =
    cut_back c.replace-terms.result.items c.enter_parts.new.terms.items c.truncate.new.self.items c.len-len.result long c.truncate.ensures.items c.enter_parts.ensures.grows
    ∙ ap (λ v. map tree_of v.items) c.replace-terms.ensures.value in
    record { well = subst IsBank (sym back) c.args.self.now.well }

pub returns-in-Err-clause-err : goal.returns-in-Err-clause-err
returns-in-Err-clause-err c =
    let long : c.len-len.result ≡ length c.replace-terms.result.items = omega (arith, c.len-len.ensures, c.replace-terms.result.ok) in
    cut_back c.replace-terms.result.items c.enter_parts.new.terms.items c.truncate.new.self.items c.len-len.result long c.truncate.ensures.items c.enter_parts.ensures.grows
    ∙ ap (λ v. map tree_of v.items) c.replace-terms.ensures.value

pub returns-in-Err-clause-grows : goal.returns-in-Err-clause-grows
returns-in-Err-clause-grows c = ([], returns-in-Err-clause-err c ∙ sym (append-nil (map tree_of c.args.self.now.terms.items)))
