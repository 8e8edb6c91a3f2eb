use Rattle.plans.proofs.Called.{too_many_words, words_not_fields}
use Rattle.plans.proofs.arguments.read_arguments.Goals as goal

pub returns-then-params-words : goal.returns-then-params-words
returns-then-params-words c = too_many_words c.args.params.now c.as_slice-words.result.now c.args.words.now c.word_refused.result c.as_slice-words.ensures c.if-params-words.true c.word_refused.ensures

pub returns-in-None : goal.returns-in-None
returns-in-None c = words_not_fields c.args.params.now c.as_slice-words.result.now c.args.words.now c.word_refused-in-None.result c.in_ok-args.field-0 c.as_slice-words.ensures c.if-params-words.false c.in-None.is c.in_ok-args.ensures c.word_refused-in-None.ensures
