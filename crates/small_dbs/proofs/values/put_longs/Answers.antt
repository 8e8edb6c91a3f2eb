use Rattle.std.proofs.Common.{ap, map}
use Rattle.kernel_lang.specs.Plain.{accumulator}
use Rattle.kernel_lang.specs.Whole.{fragment_of}
use Rattle.small_dbs.proofs.Entered.{on_ok}
use Rattle.small_dbs.proofs.Given.{longs_put}
use Rattle.small_dbs.proofs.values.put_longs.Goals as goal

pub returns : goal.returns
returns c =
    on_ok c.put_starts.result
    (λ put. longs_put (fragment_of c.args.frag.now) c.as_slice.result.now (map accumulator c.as_slice-2.result.now) c.args.values.now c.put_long.new.values c.put_long-2.new.values c.put_atoms.new.values c.put_starts.new.values
    c.as_slice.ensures (ap (map accumulator) c.as_slice-2.ensures) c.in_ok-put_long.ensures c.in_ok-put_long-2.ensures c.in_ok-put_atoms.ensures put)
    c.put_starts.ensures
