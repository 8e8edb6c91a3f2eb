use Rattle.std.proofs.Common.{◌∙◌, arith}
use Rattle.std.proofs.lemmas.List.{length-map}
use Rattle.sql_parse.specs.Negations.{negations}
use Rattle.sql_parse.specs.Seen.{token_of, tokens_of}
use Rattle.sql_parse.proofs.Loops.{not_more, not_none, counted_more, counted_all}
use Rattle.sql_parse.proofs.conditions.skip_nots.Goals as goal

pub loop-behind-preserved : goal.loop-behind-preserved
loop-behind-preserved c =
    let more = not_more (tokens_of c.loop-behind.rest.now) (tokens_of c.in-Some.behind.now) c.in-Some.ensures in
    record {
      room = omega (arith, c.loop-behind.invariant.room, more.1, length-map c.loop-behind.rest.now token_of, length-map c.in-Some.behind.now token_of);
      so_far = counted_more c.loop-behind.count (negations (tokens_of c.loop-behind.rest.now)) (negations (tokens_of c.in-Some.behind.now)) more.0 ∙ c.loop-behind.invariant.so_far;
    }

pub returns : goal.returns
returns c =
    counted_all c.loop-behind.count (negations (tokens_of c.loop-behind.rest.now)) (tokens_of c.loop-behind.rest.now) (not_none (tokens_of c.loop-behind.rest.now) c.in_default.ensures) ∙ c.loop-behind.invariant.so_far
