use Rattle.std.proofs.lemmas.Result.{IfOk-weaker}
use Rattle.java_ast.specs.Reading.{expression, statements}
use Rattle.narrowing.specs.Narrowing.{asked_pair}
use Rattle.narrowing.specs.Replacing.{asked_for}
use Rattle.narrowing.proofs.Made.{Asks, value_asked}
use Rattle.narrowing.proofs.instead.asked_in_value.Goals as goal

pub returns-in-Declare : goal.returns-in-Declare
returns-in-Declare c =
    IfOk-weaker c.asked_for.result
    (Asks (asked_for c.args.schema.now c.in-Declare.name (expression c.in-Declare.value) (statements c.in-Some.behind.now)))
    (Asks (asked_pair c.args.schema.now (statements c.args.block.now)))
    (λ o h. value_asked c.args.schema.now c.args.block.now c.in-Some.behind.now c.in-Some.s.now c.in-Declare.ty c.in-Declare.name c.in-Declare.value _ c.in-Some.ensures.cases.0 c.in-Declare.is h)
    c.asked_for.ensures
