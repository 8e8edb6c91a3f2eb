use Rattle.std.proofs.Common.{◌≡◌, List, slice_get, Some, refl, subst}
use Rattle.kernel_lang.specs.declared.parts.Acc.{Acc}
use Rattle.kernel_lang.specs.Whole.{fragment_of}
use Rattle.search_cases.proofs.Outside.{got_first, outside_first}
use Rattle.search_cases.proofs.emission.stands_outside.Goals as goal

pub returns-in-Some : goal.returns-in-Some
returns-in-Some c h =
    outside_first (fragment_of c.args.frag.now) c.args.frag.now.accs c.in-Some.acc.now refl
    (subst (λ (accs : List Acc). slice_get accs 0 ≡ Some c.in-Some.acc.now) c.as_slice.ensures (got_first c.as_slice.result.now c.in-Some.acc.now c.in-Some.acc.now c.in-Some.ensures.lookup.3.0 c.in-Some.ensures.lookup.1)) h
