use Rattle.std.proofs.Common.{Option, sym, ap, ◌∙◌}
use Rattle.tor_terms.specs.declared.term.Atom.{Atom}
use Rattle.tor_terms.specs.Truth.{known_atom_holds}
use Rattle.kernel_lang.proofs.Sentences.{valid}
use Rattle.kernel_interp.specs.Reading.{rows_in, flagged, plain_of}
use Rattle.kernel_interp.proofs.Flagged.{names_at}
use Rattle.kernel_interp.proofs.truth.truth.Goals as goal

pub atom_holds-requires : goal.atom_holds-requires
atom_holds-requires c = names_at (plain_of c.args.setting) c.args.k c.in-Some.a.now (valid (plain_of c.args.setting) c.args.setting.frag.now.valid) (sym c.in-Some.ensures)

pub returns-in-Some : goal.returns-in-Some
returns-in-Some c = c.atom_holds.ensures ∙ ap (λ (a : Option Atom). known_atom_holds (flagged c.args.setting) (rows_in c.args.place.now) a) c.in-Some.ensures

pub returns-in-None : goal.returns-in-None
returns-in-None c = ap (λ (a : Option Atom). known_atom_holds (flagged c.args.setting) (rows_in c.args.place.now) a) c.in-None.ensures
