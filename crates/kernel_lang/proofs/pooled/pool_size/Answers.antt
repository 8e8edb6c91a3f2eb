use Rattle.std.proofs.Common.{◌≡◌, ◌≤◌, List, length, map, arith, ap, ◌∙◌}
use Rattle.kernel_lang.specs.declared.parts.Acc.{Acc}
use Rattle.kernel_lang.specs.Plain.{accumulator}
use Rattle.kernel_lang.specs.Pools.{combined_pool, pooled}
use Rattle.kernel_lang.specs.Whole.{fragment_of}
use Rattle.kernel_lang.proofs.PoolSizes.{combined_small}
use Rattle.kernel_lang.proofs.pooled.pool_size.Goals as goal

pub count_formulas-requires : goal.count_formulas-requires
count_formulas-requires c =
    let small : length (combined_pool (fragment_of c.args.frag.now)) ≤ 128 = combined_small (fragment_of c.args.frag.now) c.args.frag.now.valid in
    let same : length (pooled (map accumulator c.as_slice.result.now)) ≡ length (combined_pool (fragment_of c.args.frag.now)) = ap (λ (accs : List Acc). length (pooled (map accumulator accs))) c.as_slice.ensures in
    omega arith

pub overflow_cast-result : goal.overflow_cast-result
overflow_cast-result c =
    let small : length (combined_pool (fragment_of c.args.frag.now)) ≤ 128 = combined_small (fragment_of c.args.frag.now) c.args.frag.now.valid in
    let same : c.count_formulas.result ≡ length (combined_pool (fragment_of c.args.frag.now)) = c.count_formulas.ensures ∙ ap (λ (accs : List Acc). length (pooled (map accumulator accs))) c.as_slice.ensures in
    omega arith

pub returns-clause-small : goal.returns-clause-small
returns-clause-small c =
    let small : length (combined_pool (fragment_of c.args.frag.now)) ≤ 128 = combined_small (fragment_of c.args.frag.now) c.args.frag.now.valid in
    let same : c.count_formulas.result ≡ length (combined_pool (fragment_of c.args.frag.now)) = c.count_formulas.ensures ∙ ap (λ (accs : List Acc). length (pooled (map accumulator accs))) c.as_slice.ensures in
    omega arith
