use Rattle.kernel_lang.proofs.Refused.{worked, sentences}
use Rattle.kernel_lang.proofs.worked.sentences_refuse_fragments.Goals as goal

pub returns-clause-valid : goal.returns-clause-valid
returns-clause-valid c = worked

pub returns-clause-broken : goal.returns-clause-broken
returns-clause-broken c = sentences
