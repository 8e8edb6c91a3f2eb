use Rattle.kernel_lang.specs.Whole.{fragment_of}
use Rattle.kernel_copies.proofs.Identical.{test_is_right}
use Rattle.kernel_copies.proofs.same.same_fragment.Goals as goal

pub returns : goal.returns
returns c = test_is_right (fragment_of c.args.a.now) (fragment_of c.args.b.now) c.same_parts.result c.same_parts.ensures
