use Rattle.std.specs.Prelude.{Box}
use Rattle.std.specs.Option.{option_map}
use Rattle.std.specs.declared.alloc.Global.{Global}
use Rattle.std.proofs.lemmas.Result.{IfOk-weaker}
use Rattle.java_ast.specs.Reading.{statements, program}
use Rattle.narrowing.specs.declared.instead.Instead.{Instead}
use Rattle.narrowing.specs.Replacing.{replacement, block_replaced, replaced_for}
use Rattle.narrowing.proofs.Made.{Stands, none_replaced, replaced_there}
use Rattle.narrowing.proofs.instead.instead_at.Goals as goal

pub returns-in-None : goal.returns-in-None
returns-in-None c = none_replaced c.args.schema.now c.args.path.now (program c.args.program.now) c.in-None.ensures

pub returns-in-Some : goal.returns-in-Some
returns-in-Some c =
    IfOk-weaker c.block_instead.result
    (Stands (block_replaced c.args.schema.now c.last_number.result (statements c.in-Some.block.now)))
    (Stands (replaced_for c.args.schema.now c.args.path.now (program c.args.program.now)))
    (λ o h. replaced_there c.args.schema.now c.args.path.now (program c.args.program.now) (statements c.in-Some.block.now) c.last_number.result (option_map (λ (i : Box Instead Global). replacement i.value) o) c.in-Some.ensures c.last_number.ensures h)
    c.block_instead.ensures
