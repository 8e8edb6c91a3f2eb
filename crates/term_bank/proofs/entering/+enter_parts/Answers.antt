use Rattle.std.proofs.Common.{map}
use Rattle.tor_terms.specs.Plain.{tree_of}
use Rattle.term_bank.proofs.Entered.{enter_grows}
use Rattle.term_bank.proofs.Fronts.{front_of}
use Rattle.term_bank.proofs.entering.+enter_parts.Goals as goal

pub returns-in_ok-enter_parts-in-Cat-2-clause-grows : goal.returns-in_ok-enter_parts-in-Cat-2-clause-grows
returns-in_ok-enter_parts-in-Cat-2-clause-grows t c =
    let f =
    front_of (map tree_of c.args.terms.now.items) (map tree_of c.enter_parts.new.terms.items) (map tree_of c.enter_parts-in-Cat.new.terms.items)
    c.enter_parts.ensures.grows c.enter_parts-in-Cat.ensures.grows in
    enter_grows c.enter-in-Cat.result (map tree_of c.args.terms.now.items) c.enter_parts-in-Cat.new.terms.items c.enter-in-Cat.new.terms.items (tree_of c.args.t.now) f c.enter-in-Cat.ensures.with c.enter-in-Cat.ensures.err
