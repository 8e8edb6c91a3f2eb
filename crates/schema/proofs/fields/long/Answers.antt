use Rattle.std.proofs.Common.{◌∙◌}
use Rattle.schema.proofs.Longs.{long_is, no_long}
use Rattle.schema.proofs.fields.long.Goals as goal

pub returns-in_default : goal.returns-in_default
returns-in_default c = no_long c.args.field.now c.in_default.ensures.cases.0

pub returns : goal.returns
returns c =
    let same = c.in-Ok.ensures.cases.0 in
    c.ok.ensures.value ∙ long_is c.args.field.now c.parse.result (rw same at c.parse.ensures.value.0)
