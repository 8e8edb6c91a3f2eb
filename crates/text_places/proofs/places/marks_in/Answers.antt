use Rattle.std.proofs.Common.{refl, ap, length}
use Rattle.text_places.specs.Places.{moved}
use Rattle.text_places.proofs.Moved.{no_marks, marked_by, one_longer}
use Rattle.text_places.proofs.places.marks_in.Goals as goal

pub loop-number-init : goal.loop-number-init
unfolding moved
loop-number-init c = record { many = ap length c.new-marks.ensures; place = refl; marks = no_marks _ _ c.new-marks.ensures }

pub loop-number-preserved : goal.loop-number-preserved
loop-number-preserved c = record {
  many = one_longer _ _ _ _ c.in_ok-push.ensures.ok c.loop-number.invariant.many;
  place = c.place_from-place.ensures;
  marks = marked_by _ _ _ _ _ c.in_ok-push.ensures.ok c.loop-number.invariant.many c.loop-number.invariant.place c.loop-number.invariant.marks;
}
