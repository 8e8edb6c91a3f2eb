use Rattle.std.proofs.Common.{sym}
use Rattle.schema.specs.Naming.{role_of}
use Rattle.schema_text.proofs.Declaring.{breaks_none, breaks}
use Rattle.schema_text.proofs.names.judge.Goals as goal

pub returns-in-Some-rule : goal.returns-in-Some-rule
returns-in-Some-rule c names =
    breaks c.args.seen.now (role_of c.args.place c.args.token.now.kind c.args.rest.now) c.in-Some.role c.in-Some.name.now c.args.token.now.at c.in-Some-rule.rule names (sym c.in-Some.ensures) (sym c.in-Some-rule.ensures)

pub returns : goal.returns
returns c names =
    breaks_none c.args.seen.now c.add.new.seen (role_of c.args.place c.args.token.now.kind c.args.rest.now) c.in-Some.role c.in-Some.name.now c.args.token.now.at names (sym c.in-Some.ensures) (sym c.in_default-rule.ensures) c.in_ok-add.ensures
