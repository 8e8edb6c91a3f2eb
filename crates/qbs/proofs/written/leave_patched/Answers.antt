use Rattle.std.proofs.Common.{◌≡◌, List, true, slice_get, sym, subst, ◌∙◌, rules}
use Rattle.view_spell.specs.declared.spelled.SliceSpelled.{SliceSpelled}
use Rattle.qbs.specs.Looks.{is_patched_some}
use Rattle.qbs.proofs.Leaving.{patched_within, one_fewer}
use Rattle.qbs.proofs.written.leave_patched.Goals as goal

pub leave_out-requires : goal.leave_out-requires
leave_out-requires c =
    let same : c.as_slice.result.now ≡ c.args.spelled.now.items = search rules in
    patched_within c.args.spelled.now.items c.args.number
    (subst (λ (xs : List SliceSpelled). is_patched_some (slice_get xs c.args.number) ≡ true) same (sym c.is_patched_at.ensures ∙ c.if-is_patched_at.true))

pub returns-then-is_patched_at : goal.returns-then-is_patched_at
returns-then-is_patched_at c =
    let same : c.as_slice.result.now ≡ c.args.spelled.now.items = search rules in
    one_fewer c.args.spelled.now.items c.leave_out.new.spelled.items c.args.number
    (subst (λ (xs : List SliceSpelled). is_patched_some (slice_get xs c.args.number) ≡ true) same (sym c.is_patched_at.ensures ∙ c.if-is_patched_at.true))
    c.leave_out.ensures.left c.leave_out.ensures.apart
