use Rattle.std.proofs.Common.{◌∙◌}
use Rattle.view_items.proofs.Bytewise.{is_its_answer}
use Rattle.view_items.proofs.plain.is_text.Goals as goal

pub returns : goal.returns
returns c = c.is_ok.ensures.value ∙ is_its_answer _ _ c.args.source.now _ c.from_utf8.ensures.cases
