use Rattle.qbs.proofs.prove_by_view.proven_of.Goals as goal

pub prove_program-requires-clause-short : goal.prove_program-requires-clause-short
prove_program-requires-clause-short g c = rw c.as_slice-text.ensures c.requires.short

pub prove_program-requires-clause-program : goal.prove_program-requires-clause-program
prove_program-requires-clause-program g c = rw (c.as_slice-text.ensures, c.deref.ensures) c.requires.program

pub returns : goal.returns
returns g c = rw c.deref.ensures at c.prove_program.ensures
