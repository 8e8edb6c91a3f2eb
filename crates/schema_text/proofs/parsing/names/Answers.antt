use Rattle.schema.specs.Tokens.{kinds_of}
use Rattle.schema_text.proofs.Bodies.{names_behind-one}
use Rattle.schema_text.proofs.parsing.names.Goals as goal

pub returns : goal.returns
returns c = rw (← names_behind-one c.in_ok-first.first c.in_ok-vec.field-0.items (kinds_of c.args.tokens.now) (kinds_of c.in_ok-first.rest.now) c.in_ok-first.ensures c.in_ok-vec.ensures.items) c.next_names.ensures
