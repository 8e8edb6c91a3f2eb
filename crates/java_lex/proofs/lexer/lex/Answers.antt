use Rattle.std.proofs.Common.{◌≡◌, ◌<◌, ◌≤◌, length, sym, ◌∙◌, arith, false-eqb}
use Rattle.std.proofs.lemmas.Bool.{eqb-true}
use Rattle.std.proofs.lemmas.Result.{err_from_is_err_and}
use Rattle.qbs_base.specs.Places.{first_place}
use Rattle.java_lex.specs.Lexing.{tokens_from}
use Rattle.qbs_base.proofs.Rooms.{stays_room, passes_over}
use Rattle.java_lex.proofs.Steps.{goes_on, stops, ends, no_room, fits_len, answers_err, answers_ok}
use Rattle.java_lex.proofs.lexer.lex.Goals as goal

pub keep-requires : goal.keep-requires
keep-requires c =
    let le : c.len.result ≤ length c.loop-rest.rest.now = rw c.len.ensures (fits_len (length c.loop-rest.rest.now) c.in_ok-piece.piece c.in_ok-piece.ensures.fits) in
    no_room c.loop-rest.place c.after-end.result c.loop-rest.rest.now c.split_at.result.0.now c.len.result le c.split_at.ensures.front c.after-end.ensures c.loop-rest.invariant.room

pub returns-in_err-keep : goal.returns-in_err-keep
returns-in_err-keep c =
    let p = err_from_is_err_and c.from_residual-in_err-keep.result c.from_residual-in_err-keep.ensures.1 in
    let some : 0 < length c.loop-rest.rest.now = omega (arith, false-eqb _ 0 c.loop-rest-test.ensures) in
    rw (p.1, p.2) (answers_err c.in_err-keep.field-0.0 c.args.bytes.now
    (stops c.loop-rest.list (tokens_from first_place 0 c.args.bytes.now) c.in_err-keep.field-0.0 c.loop-rest.place c.after-end.result c.loop-rest.rest.now c.split_at.result.0.now c.in_ok-piece.piece
    some c.in_ok-piece.ensures.value (rw (← c.len.ensures) c.split_at.ensures.front) c.after-end.ensures c.in_err-keep.ensures.err c.loop-rest.invariant.so_far))

pub loop-rest-preserved : goal.loop-rest-preserved
loop-rest-preserved c =
    let some : 0 < length c.loop-rest.rest.now = omega (arith, false-eqb _ 0 c.loop-rest-test.ensures) in
    let le : c.len.result ≤ length c.loop-rest.rest.now = rw c.len.ensures (fits_len (length c.loop-rest.rest.now) c.in_ok-piece.piece c.in_ok-piece.ensures.fits) in
    record {
      room = stays_room c.loop-rest.place c.after-end.result c.loop-rest.rest.now c.split_at.result.0.now c.split_at.result.1.now c.len.result le c.split_at.ensures.front c.split_at.ensures.back c.after-end.ensures c.loop-rest.invariant.room;
      so_far = goes_on c.loop-rest.list (tokens_from first_place 0 c.args.bytes.now) c.keep.new.list c.loop-rest.place c.after-end.result c.loop-rest.rest.now c.split_at.result.0.now c.split_at.result.1.now c.in_ok-piece.piece
          some c.in_ok-piece.ensures.value (rw (← c.len.ensures) c.split_at.ensures.front) (rw (← c.len.ensures) c.split_at.ensures.back) c.after-end.ensures c.in_ok-keep.ensures.ok c.loop-rest.invariant.so_far;
      stands = passes_over c.loop-rest.place c.after-end.result c.loop-rest.rest.now c.split_at.result.0.now c.split_at.result.1.now c.len.result c.split_at.ensures.front c.split_at.ensures.back c.after-end.ensures ∙ c.loop-rest.invariant.stands;
    }

pub returns : goal.returns
returns c =
    let none : length c.loop-rest.rest.now ≡ 0 = eqb-true _ _ (sym c.loop-rest-test.ensures) in
    rw c.span_to-end.ensures (answers_ok c.loop-rest.place c.loop-rest.list c.args.bytes.now c.loop-rest.rest.now none c.loop-rest.invariant.stands
    (ends c.loop-rest.list (tokens_from first_place 0 c.args.bytes.now) c.loop-rest.place c.loop-rest.rest.now none c.loop-rest.invariant.so_far))
