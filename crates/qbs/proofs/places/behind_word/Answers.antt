use Rattle.qbs.proofs.Looking.{first_word}
use Rattle.qbs.proofs.places.behind_word.Goals as goal

pub returns-then-same_word : goal.returns-then-same_word
returns-then-same_word c = first_word c.args.items.now c.args.word.now.bytes c.first-item.result c.in-len1-up.len_at_least c.first-item.is (c.same_word.ensures c.if-same_word.true)
