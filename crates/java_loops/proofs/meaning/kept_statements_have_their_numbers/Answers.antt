use Rattle.java_loops.proofs.Kept.KeptRuns.{kept_numbers_only, kept_numbers_kept}
use Rattle.java_loops.proofs.meaning.kept_statements_have_their_numbers.Goals as goal

pub returns-clause-only : goal.returns-clause-only
returns-clause-only c f further n run numbers h = kept_numbers_only f further n run numbers h

pub returns-clause-kept : goal.returns-clause-kept
returns-clause-kept c f further n run = kept_numbers_kept f further n run
