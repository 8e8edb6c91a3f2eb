use Rattle.std.proofs.Common.{ℕ, ◌++◌, ◌∙◌, rules, length, ap, Option, slice_get}
use Rattle.qbs.specs.Fates.{fate_of, fates_from, slices_of}
use Rattle.view_slices.specs.Reading.{slice as plain_slice, sliced}
use Rattle.view_spell.specs.declared.spelled.SliceSpelled.{SliceSpelled}
use Rattle.qbs.proofs.Told.{slice_pushed}
use Rattle.qbs.proofs.by_view_lines.push_fates.Goals as goal

pub loop-slice-preserved : goal.loop-slice-preserved
loop-slice-preserved c sts =
    slice_pushed c.args.items.now c.args.method.now.read c.args.method.now.slices c.loop-slice.slice-index c.slice-item.result c.args.spelled.now c.loop-slice.behind c.loop-slice.fates c.push.new.self
    (c.args.fates.now ++ fates_from c.args.items.now c.args.before (length c.args.fates.now) (slices_of (sliced c.args.method.now) ++ sts) c.args.spelled.now) c.fate_of-fate.result sts
    (search (rules, c.loop-slice-test.true, c.as_slice-slice-items.ensures)) (search (rules, c.slice-item.is, c.as_slice-slice-items.ensures)) c.in_ok-push.ensures.ok
    (c.fate_of-fate.ensures
    ∙ ap (λ (x : Option SliceSpelled). fate_of c.args.items.now c.loop-slice.behind (plain_slice c.slice-item.result) x) (c.spelled_at.ensures ∙ ap (λ (n : ℕ). slice_get c.args.spelled.now n) c.len.ensures))
    (c.loop-slice.invariant sts)
