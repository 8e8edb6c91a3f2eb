use Rattle.rewrite_core.proofs.PatchedTexts.{patched_back}
use Rattle.rewrite_core.proofs.laws.patched_texts_are_read_back.Goals as goal

pub returns : goal.returns
returns c = patched_back
