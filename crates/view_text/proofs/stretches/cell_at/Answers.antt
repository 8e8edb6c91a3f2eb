use Rattle.std.proofs.Common.{◌∙◌, sym, ap, Some}
use Rattle.std.proofs.lemmas.Option.{slice_get_past, slice_get-get_or}
use Rattle.view_text.specs.declared.stretches.Stretch.{Stretch}
use Rattle.view_text.proofs.Holding.{is_found, is_not_found, is_behind}
use Rattle.view_text.proofs.stretches.cell_at.Goals as goal

pub returns-in-None : goal.returns-in-None
returns-in-None c cells e =
    is_behind cells c.args.stretches.now c.args.byte c.ended_before-number.result e (c.ended_before-number.ensures cells e) (slice_get_past c.args.stretches.now c.ended_before-number.result c.in-None.ensures.lookup.3)

pub returns-then-s-byte : goal.returns-then-s-byte
returns-then-s-byte c cells e =
    is_found cells c.args.stretches.now c.args.byte c.ended_before-number.result c.in-Some.s.now e (c.ended_before-number.ensures cells e)
    (slice_get-get_or c.args.stretches.now c.ended_before-number.result c.in-Some.s.now c.in-Some.ensures.lookup.3.0 ∙ ap (λ (s : Stretch). Some s) (sym c.in-Some.ensures.lookup.1)) c.if-s-byte.true

pub returns-else-s-byte : goal.returns-else-s-byte
returns-else-s-byte c cells e =
    is_not_found cells c.args.stretches.now c.args.byte c.ended_before-number.result c.in-Some.s.now e (c.ended_before-number.ensures cells e)
    (slice_get-get_or c.args.stretches.now c.ended_before-number.result c.in-Some.s.now c.in-Some.ensures.lookup.3.0 ∙ ap (λ (s : Stretch). Some s) (sym c.in-Some.ensures.lookup.1)) c.if-s-byte.false
