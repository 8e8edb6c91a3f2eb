use Rattle.std.proofs.Common.{refl}
use Rattle.narrowing.proofs.Bytes.{one_byte_more, no_byte_more}
use Rattle.narrowing.proofs.narrow.set_of.Goals as goal

pub loop-byte-preserved : goal.loop-byte-preserved
loop-byte-preserved c =
    λ x. one_byte_more x c.args.bytes.now c.loop-byte.set.keys c.put_byte.new.bytes.keys c.loop-byte.byte-index _ c.loop-byte-test.true refl (c.in_ok-put_byte.ensures x) (c.loop-byte.invariant x)

pub returns : goal.returns
returns c = λ x. no_byte_more x c.args.bytes.now c.loop-byte.set.keys c.loop-byte.byte-index c.loop-byte-test.false (c.loop-byte.invariant x)
