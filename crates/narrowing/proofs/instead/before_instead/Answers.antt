use Rattle.std.specs.Prelude.{Box}
use Rattle.std.proofs.Common.{◌-◌, refl, arith}
use Rattle.std.specs.Option.{option_map}
use Rattle.std.specs.declared.alloc.Global.{Global}
use Rattle.std.proofs.lemmas.Result.{IfOk-weaker}
use Rattle.java_ast.specs.Reading.{statements}
use Rattle.narrowing.specs.declared.instead.Instead.{Instead}
use Rattle.narrowing.specs.Replacing.{replacement, pair_replaced, before_replaced}
use Rattle.narrowing.proofs.Made.{Stands, none_before_first, one_before}
use Rattle.narrowing.proofs.instead.before_instead.Goals as goal

pub returns-then-number-eq0 : goal.returns-then-number-eq0
returns-then-number-eq0 c = none_before_first c.args.schema.now c.args.number (statements c.args.block.now) c.if-number-eq0.true

pub returns-else-number-eq0 : goal.returns-else-number-eq0
returns-else-number-eq0 c =
    IfOk-weaker c.pair_instead.result
    (Stands (pair_replaced c.args.schema.now (c.args.number - 1) (statements c.behind.result.now)))
    (Stands (before_replaced c.args.schema.now c.args.number (statements c.args.block.now)))
    (λ o h. one_before c.args.schema.now c.args.number (c.args.number - 1) (statements c.args.block.now) (statements c.behind.result.now) (option_map (λ (i : Box Instead Global). replacement i.value) o) (omega arith) refl c.behind.ensures h)
    c.pair_instead.ensures
