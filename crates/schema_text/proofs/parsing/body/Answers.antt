use Rattle.schema.specs.Tokens.{kinds_of}
use Rattle.schema_text.proofs.Bodies.{columns_behind-one}
use Rattle.schema_text.proofs.parsing.body.Goals as goal

pub returns : goal.returns
returns c = rw (← columns_behind-one c.in_ok-first.first c.in_ok-vec.field-0.items (kinds_of c.args.tokens.now) (kinds_of c.in_ok-first.rest.now) c.in_ok-first.ensures c.in_ok-vec.ensures.items) c.further.ensures
