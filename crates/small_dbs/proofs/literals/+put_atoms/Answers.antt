use Rattle.std.proofs.Common.{List, ap, sym, ◌∙◌}
use Rattle.tor_terms.specs.declared.term.Atom.{Atom}
use Rattle.small_dbs.specs.Literals.{atom_literals, literals_of_atoms, put_given}
use Rattle.small_dbs.proofs.Entered.{on_ok}
use Rattle.small_dbs.proofs.Given.{more_given}
use Rattle.small_dbs.proofs.literals.+put_atoms.Goals as goal

pub returns-in_ok-put_atom-in-Some : goal.returns-in_ok-put_atom-in-Some
returns-in_ok-put_atom-in-Some t c =
    on_ok c.put_atoms.result
    (λ put. put ∙ ap (put_given c.args.ty (literals_of_atoms c.in-Some.rest.now)) c.in_ok-put_atom-in-Some.ensures ∙ sym (more_given c.args.ty (atom_literals c.in-Some.a.now) (literals_of_atoms c.in-Some.rest.now) c.args.values.now)
    ∙ ap (λ (atoms : List Atom). put_given c.args.ty (literals_of_atoms atoms) c.args.values.now) (sym c.in-Some.ensures.cases.0))
    c.put_atoms.ensures
