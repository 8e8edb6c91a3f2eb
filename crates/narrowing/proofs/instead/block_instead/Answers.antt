use Rattle.std.specs.Prelude.{Box}
use Rattle.std.proofs.Common.{◌∙◌, ap, sym}
use Rattle.std.specs.Option.{option_map}
use Rattle.std.specs.declared.alloc.Global.{Global}
use Rattle.std.proofs.lemmas.Result.{IfOk-weaker}
use Rattle.java_ast.specs.Reading.{statements}
use Rattle.narrowing.specs.declared.instead.Instead.{Instead}
use Rattle.narrowing.specs.Replacing.{replacement, before_replaced, block_replaced}
use Rattle.narrowing.proofs.Made.{Stands, each_first, before_then}
use Rattle.narrowing.proofs.instead.block_instead.Goals as goal

pub returns-in-Some : goal.returns-in-Some
returns-in-Some c =
    each_first c.args.schema.now c.args.number (statements c.args.block.now) (statements c.behind.result.now) (replacement c.in-Some.i.value)
    c.behind.ensures (ap (option_map (λ (i : Box Instead Global). replacement i.value)) (sym c.in-Some.is) ∙ c.in_ok-each.ensures)

pub returns-in-None : goal.returns-in-None
returns-in-None c =
    IfOk-weaker c.before_instead.result
    (Stands (before_replaced c.args.schema.now c.args.number (statements c.args.block.now)))
    (Stands (block_replaced c.args.schema.now c.args.number (statements c.args.block.now)))
    (λ o h. before_then c.args.schema.now c.args.number (statements c.args.block.now) (statements c.behind.result.now) (option_map (λ (i : Box Instead Global). replacement i.value) o)
    c.behind.ensures (ap (option_map (λ (i : Box Instead Global). replacement i.value)) (sym c.in-None.is) ∙ c.in_ok-each.ensures) h)
    c.before_instead.ensures
