use Rattle.std.proofs.Common.{◌+◌, List, ℕ, drop, sym, ap, ◌∙◌, arith}
use Rattle.dump_schema.specs.Going.{pieces_of_all}
use Rattle.dump_schema.proofs.Steps.{drop_at, begin_pieces, finish_pieces}
use Rattle.dump_schema.proofs.choice.pieces.Goals as goal

pub loop-byte-init : goal.loop-byte-init
loop-byte-init c = begin_pieces c.args.mark _ _ c.args.bytes.now c.new.ensures c.new-2.ensures

pub loop-byte-preserved : goal.loop-byte-preserved
loop-byte-preserved c =
    c.in_ok-take.ensures (drop (c.loop-byte.byte-index + 1) c.args.bytes.now)
    ∙ ap (λ (bs : List ℕ). pieces_of_all c.args.mark c.loop-byte.pieces bs) (sym (drop_at c.args.bytes.now c.loop-byte.byte-index c.loop-byte-test.true))
    ∙ c.loop-byte.invariant

pub returns : goal.returns
returns c =
    finish_pieces c.args.mark c.loop-byte.pieces.done _ _ c.loop-byte.pieces.current c.args.bytes.now c.loop-byte.byte-index (omega arith) c.loop-byte.invariant c.in_ok-push.ensures.ok
