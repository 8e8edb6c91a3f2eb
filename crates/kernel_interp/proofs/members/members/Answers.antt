use Rattle.std.proofs.Common.{◌<◌, ◌+◌, length, List, map, arith, subst, sym}
use Rattle.kernel_lang.specs.declared.parts.Acc.{Acc}
use Rattle.kernel_lang.specs.Plain.{accumulator}
use Rattle.kernel_lang.specs.Pools.{pooled}
use Rattle.kernel_lang.specs.Whole.{fragment_of}
use Rattle.kernel_lang.proofs.PoolSizes.{combined_small}
use Rattle.kernel_interp.proofs.members.members.Goals as goal

pub push_members-requires : goal.push_members-requires
push_members-requires c =
    let s = combined_small (fragment_of c.args.frag.now) c.args.frag.now.valid in
    subst (λ (accs : List Acc). 0 + length (pooled (map accumulator accs)) < 4294967296) (sym c.as_slice.ensures) (omega (arith, s))
