-- The worked class computes.
use Rattle.std.proofs.Common.{◌≡◌, ℕ, pos, List, [], Some, refl}
use Rattle.qbs_base.specs.declared.scalar.Scalar.TheVariants as scalars
use Rattle.qbs_base.specs.declared.scalar.Value.TheVariants.{One}
use Rattle.java_mean.specs.Outcome.{Done, outcome}
use Rattle.java_mean.specs.Worked.{staff}
use Rattle.java_calls.specs.Calling.{callee_of, outcome_with}
use Rattle.java_calls.specs.Inlining.{expand_at, inlined_within}
use Rattle.std.specs.Prelude.{codes}
use Rattle.call_parts.specs.Marks.{mark_of, next_number}
use Rattle.java_calls.specs.Renaming.{marked_but}
use Rattle.java_calls.specs.Inlining.{kept_variable}
use Rattle.java_calls.specs.ProgramNames.{names_of}
use Rattle.java_calls.specs.Worked.{helper, found, out, wanted, class_with, staff_with, calling, replaced}

mark : mark_of 1 ≡ codes "_1"
mark = refl

number : next_number (names_of (class_with calling)) 0 ≡ 1
number = refl

kept : kept_variable helper ≡ Some out
kept = refl

names : marked_but (kept_variable helper) found 1 wanted ≡ codes "wanted_1"
names = refl

pub inlined : inlined_within 1 (class_with calling) ≡ Some (class_with replaced)
unfolding expand_at
inlined = refl

pub before : outcome_with 1 staff (class_with calling).methods (staff_with calling) [] 100 ≡ Done [] (Some (One (scalars.Long (pos 2))))
unfolding callee_of
before = refl

pub after : outcome staff (staff_with replaced) [] 100 ≡ Done [] (Some (One (scalars.Long (pos 2))))
after = refl
