-- The beginning, and the parts of the fragment.
use Rattle.java_loops.specs.Walks.ChainLaws.{AtomsFit, UpdatesFit}
use Rattle.java_loops.proofs.Walks.ChainStarts.{begins, starts_suit, column_fits, atom_parts_fit, update_parts_fit}
use Rattle.java_loops.proofs.Walks.ChainParts.{parts_fit}
use Rattle.java_loops.proofs.chains.fragments_begin.Goals as goal

atoms_fit : AtomsFit
atoms_fit n f w env entry loops flags e a s b h = atom_parts_fit n f w env entry loops b flags e a s h

updates_fit : UpdatesFit
updates_fit n f w env entry loops quiet flags s a fs ys u opposite b h = update_parts_fit n f w env entry loops b quiet flags s a fs ys u opposite h

pub returns-clause-matches : goal.returns-clause-matches
returns-clause-matches c = begins

pub returns-clause-atoms : goal.returns-clause-atoms
returns-clause-atoms c = atoms_fit

pub returns-clause-updates : goal.returns-clause-updates
returns-clause-updates c = updates_fit

pub returns-clause-columns : goal.returns-clause-columns
returns-clause-columns c = column_fits

pub returns-clause-starts : goal.returns-clause-starts
returns-clause-starts c = starts_suit

pub returns-clause-parts : goal.returns-clause-parts
returns-clause-parts c = parts_fit
