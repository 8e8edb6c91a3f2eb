use Rattle.std.proofs.Common.{map, refl, sym, subst}
use Rattle.kernel_lang.specs.Plain.{accumulator}
use Rattle.kernel_lang.specs.Whole.{fragment_of}
use Rattle.vc_gen.specs.Short.{AllShort}
use Rattle.vc_gen.proofs.Short.{accs_short}
use Rattle.query_search.specs.Remembered.{AreOutlinesOf}
use Rattle.query_search.proofs.Kept.{kept-none}
use Rattle.query_search.proofs.choices.new_memory.Goals as goal

pub outlines-requires : goal.outlines-requires
outlines-requires c = subst AllShort (sym c.as_slice.ensures) (accs_short (fragment_of c.args.frag.now) c.args.frag.now.accs refl c.args.frag.now.valid)

pub returns : goal.returns
returns c =
    (c.in_ok-known.ensures, subst (λ accs. AreOutlinesOf (map accumulator accs) c.in_ok-outlines.outlines) c.as_slice.ensures c.in_ok-outlines.ensures, kept-none (fragment_of c.args.frag.now) c.new.result.items c.new-2.result.items c.new.ensures.items c.new-2.ensures.items)
