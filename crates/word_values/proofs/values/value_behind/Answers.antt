use Rattle.word_values.proofs.Spelt.{strips}
use Rattle.word_values.proofs.values.value_behind.Goals as goal

pub returns : goal.returns
returns c = strips c.args.prefix.now c.args.word.now c.strip_prefix.result c.strip_prefix.ensures.cases
