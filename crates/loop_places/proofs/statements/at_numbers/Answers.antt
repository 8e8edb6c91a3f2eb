use Rattle.std.proofs.Common.{◌≡◌, ◌+◌, ◌<◌, ◌≤◌, ◌∷◌, List, ℕ, length, drop, get_or, sym, ap, ◌∙◌, add-one, arith, drop-cons}
use Rattle.std.proofs.Math.ListN.{drop_of_length-le}
use Rattle.java_ast.specs.Path.{and_then}
use Rattle.java_ast.specs.Reading.{statements}
use Rattle.loop_places.specs.AtNumbers.{at_numbers}
use Rattle.loop_places.proofs.Numbers.{and_then_nothing, one_further}
use Rattle.loop_places.proofs.statements.at_numbers.Goals as goal

pub loop-number-preserved : goal.loop-number-preserved
loop-number-preserved c =
    let below : c.loop-number.number-index < length c.args.numbers.now = omega arith in
    let cut : drop c.loop-number.number-index c.args.numbers.now ≡ get_or c.args.numbers.now c.loop-number.number-index 0 ∷ drop (c.loop-number.number-index + 1) c.args.numbers.now =
    rw add-one (drop-cons c.args.numbers.now c.loop-number.number-index 0 below) in
    one_further c.args.first (statements c.args.run.now) (statements c.loop-number.all.items) (statements c.push_numbered.new.all.items) (at_numbers c.args.first (statements c.args.run.now) c.args.numbers.now)
    (get_or c.args.numbers.now c.loop-number.number-index 0) (drop c.loop-number.number-index c.args.numbers.now) (drop (c.loop-number.number-index + 1) c.args.numbers.now) c.loop-number.invariant cut c.in_ok-push_numbered.ensures

pub returns : goal.returns
returns c =
    let all : length c.args.numbers.now ≤ c.loop-number.number-index = omega arith in
    sym (and_then_nothing (statements c.loop-number.all.items))
    ∙ sym (ap (λ (ns : List ℕ). and_then (statements c.loop-number.all.items) (at_numbers c.args.first (statements c.args.run.now) ns)) (drop_of_length-le c.args.numbers.now all))
    ∙ c.loop-number.invariant
