use Rattle.std.proofs.Common.{◌+◌, ◌<◌, map, length, refl, sym, subst}
use Rattle.kernel_lang.specs.Plain.{accumulator}
use Rattle.kernel_lang.specs.Pools.{pooled}
use Rattle.kernel_lang.specs.Whole.{fragment_of}
use Rattle.vc_gen.specs.Short.{AllShort}
use Rattle.vc_gen.proofs.Short.{accs_short, pools_small}
use Rattle.vc_gen.proofs.all.conditions_over.Goals as goal

pub add_all-requires-clause-short : goal.add_all-requires-clause-short
add_all-requires-clause-short c = subst AllShort (sym c.as_slice.ensures) (accs_short (fragment_of c.args.frag.now) c.args.frag.now.accs refl c.args.frag.now.valid)

pub add_all-requires-clause-small : goal.add_all-requires-clause-small
add_all-requires-clause-small c = subst (λ accs. 0 + length (pooled (map accumulator accs)) < 4294967296) (sym c.as_slice.ensures) (pools_small (fragment_of c.args.frag.now) c.args.frag.now.accs refl c.args.frag.now.valid)
