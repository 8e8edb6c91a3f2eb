use Rattle.std.proofs.Common.{Option, sym, ap, ◌∙◌}
use Rattle.tor_terms.specs.declared.term.Atom.{Atom}
use Rattle.tor_terms.specs.Truth.{known_atom_holds}
use Rattle.kernel_interp.specs.Claiming.{chosen_world}
use Rattle.kernel_interp.specs.Members.{members_seen}
use Rattle.kernel_interp.specs.Reading.{rows_in, plain_of}
use Rattle.kernel_interp.proofs.Claimed.{named_at}
use Rattle.kernel_interp.proofs.choice.truth.Goals as goal

pub atom_holds-requires : goal.atom_holds-requires
atom_holds-requires c = named_at (plain_of c.args.claims.setting).atoms (members_seen c.args.claims.members.now) c.args.k c.in-Some.a.now c.args.claims.sound (sym c.in-Some.ensures)

pub returns-in-Some : goal.returns-in-Some
returns-in-Some c = c.atom_holds.ensures ∙ ap (λ (a : Option Atom). known_atom_holds (chosen_world c.args.claims) (rows_in c.args.place.now) a) c.in-Some.ensures

pub returns-in-None : goal.returns-in-None
returns-in-None c = ap (λ (a : Option Atom). known_atom_holds (chosen_world c.args.claims) (rows_in c.args.place.now) a) c.in-None.ensures
