use Rattle.std.specs.Prelude.{option_copied}
use Rattle.std.proofs.lemmas.Result.{IfOk-weaker}
use Rattle.java_ast.specs.Reading.{statement, statements}
use Rattle.lowering.specs.InCode.Locating.{IsSeenIn}
use Rattle.lowering.proofs.Located.Locations.{step_found}
use Rattle.lowering.proofs.places.located.+spot_below.Goals as goal

pub returns : goal.returns
returns t c =
    IfOk-weaker c.spot_below.result (IsSeenIn (option_copied c.args.schema) c.declare_within.new.scope c.in-Some-split_first.rest.now c.in-Some-split_first.further.now (statements c.in_Some-inner.inner.now) c.spot_below.new.visible c.spot_below.new.types) (IsSeenIn (option_copied c.args.schema) c.args.visible.now c.args.path.now c.args.number (statements c.args.block.now) c.spot_below.new.visible c.spot_below.new.types)
    (λ r there. step_found (option_copied c.args.schema) c.args.visible.now c.declare_within.new.scope c.spot_below.new.visible c.spot_below.new.types c.args.path.now c.in-Some.below.now c.in-Some-split_first.rest.now c.in-Some.at.now c.in-Some-split_first.further.now c.args.number (statements c.args.block.now) (statements c.in_Some-inner.inner.now) (statements c.before_number-before.result.now) (statement c.in-Some-numbered.s.now) r
    c.in-Some.ensures.cases.0 c.in-Some-split_first.ensures.cases.0 c.in-Some-numbered.ensures c.in_Some-inner.ensures c.before_number-before.ensures c.in_ok-declare_within.ensures there)
    c.spot_below.ensures
