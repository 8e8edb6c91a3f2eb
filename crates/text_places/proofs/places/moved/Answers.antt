use Rattle.std.proofs.Common.{ap, sym, ◌∙◌}
use Rattle.text_places.proofs.Moved.{moved_next, moved_over, moved_line_next, moved_column_next}
use Rattle.text_places.proofs.places.moved.Goals as goal

pub loop-byte-preserved : goal.loop-byte-preserved
loop-byte-preserved c = record {
  place = moved_next c.loop-byte.place c.behind-place.result c.args.bytes.now c.loop-byte.byte-index _ c.loop-byte-test.true c.behind-place.ensures c.loop-byte.invariant.place;
  line = moved_line_next _ _ _ _ _ c.behind-place.ensures c.loop-byte.invariant.line;
  column = moved_column_next _ _ _ _ _ c.behind-place.ensures c.loop-byte.invariant.column;
}

pub returns : goal.returns
returns c = moved_over c.loop-byte.place c.args.bytes.now c.loop-byte.byte-index _ c.loop-byte-test.false c.loop-byte.invariant.place
