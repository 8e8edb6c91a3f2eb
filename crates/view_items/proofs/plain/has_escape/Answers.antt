use Rattle.view_items.proofs.Bytewise.{escape_here, escape_next, escape_end}
use Rattle.view_items.proofs.plain.has_escape.Goals as goal

pub returns-then-is_special : goal.returns-then-is_special
returns-then-is_special c = escape_here c.loop-byte.begun c.args.source.now c.loop-byte.byte-index _ c.loop-byte.invariant c.loop-byte-test.true c.if-is_special.ensures

pub loop-byte-preserved : goal.loop-byte-preserved
loop-byte-preserved c = escape_next c.loop-byte.begun _ c.args.source.now c.loop-byte.byte-index _ c.loop-byte.invariant c.loop-byte-test.true c.if-is_special.ensures c.begins-begun.ensures

pub returns : goal.returns
returns c = escape_end c.loop-byte.begun c.args.source.now c.loop-byte.byte-index _ c.loop-byte.invariant c.loop-byte-test.false
