use Rattle.kernel_lang.proofs.Sentences.{valid, valid_none}
use Rattle.kernel_lang.proofs.worked.valid_fragments_meet_every_sentence.Goals as goal

pub returns-clause-all : goal.returns-clause-all
returns-clause-all c = valid

pub returns-clause-only : goal.returns-clause-only
returns-clause-only c = valid_none
