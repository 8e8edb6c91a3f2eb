use Rattle.call_reader.proofs.Pushed.{three}
use Rattle.call_reader.proofs.spell.push_query.Goals as goal

pub returns : goal.returns
returns c = three _ _ _ _ _ _ _ c.in_ok-push_word.ensures c.in_ok-push_sign.ensures c.in_ok-push_word-2.ensures
