use Rattle.std.proofs.Common.{◌<◌, length, sym, ◌∙◌, arith, false-eqb}
use Rattle.std.proofs.lemmas.Bool.{eqb-true}
use Rattle.schema.specs.Tokens.{tokens_of}
use Rattle.qbs_base.proofs.Rooms.{stays_room, passes_over}
use Rattle.schema_text.proofs.Pieces.{steps, ends}
use Rattle.schema_text.proofs.lexing.lex.Goals as goal

pub loop-rest-preserved : goal.loop-rest-preserved
loop-rest-preserved c =
    let some : 0 < length c.loop-rest.rest.now = omega (arith, false-eqb _ 0 c.loop-rest-test.ensures) in
    let len = c.in_ok-kind.ensures.len in
    record {
      room = stays_room c.loop-rest.place c.after-end.result c.loop-rest.rest.now c.split_at.result.0.now c.split_at.result.1.now c.in_ok-kind.len len.1 c.split_at.ensures.front c.split_at.ensures.back c.after-end.ensures c.loop-rest.invariant.room;
      so_far = steps c.loop-rest.list.items c.keep.new.tokens.items (tokens_of c.args.text.now) c.loop-rest.place c.after-end.result c.loop-rest.rest.now c.split_at.result.0.now c.split_at.result.1.now (c.in_ok-kind.kind, c.in_ok-kind.len)
          some (len.0 some) c.in_ok-kind.ensures.value c.split_at.ensures.front c.split_at.ensures.back c.after-end.ensures (rw (← c.span_to.ensures) c.in_ok-keep.ensures) c.loop-rest.invariant.so_far;
      last = passes_over c.loop-rest.place c.after-end.result c.loop-rest.rest.now c.split_at.result.0.now c.split_at.result.1.now c.in_ok-kind.len c.split_at.ensures.front c.split_at.ensures.back c.after-end.ensures ∙ c.loop-rest.invariant.last;
    }

pub returns-clause-list : goal.returns-clause-list
returns-clause-list c = ends c.loop-rest.list.items (tokens_of c.args.text.now) c.loop-rest.place c.loop-rest.rest.now (eqb-true _ _ (sym c.loop-rest-test.ensures)) c.loop-rest.invariant.so_far
