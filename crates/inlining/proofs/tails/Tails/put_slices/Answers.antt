use Rattle.std.proofs.Common.{◌≡◌, ◌-◌, ℕ, length, take, drop, ap, arith}
use Rattle.std.proofs.lemmas.Result.{on_ok_weaker}
use Rattle.java_calls.specs.ProgramNames.{dotted_parts}
use Rattle.inlining.specs.Endings.{all_noted}
use Rattle.inlining.proofs.Parts.{last_step}
use Rattle.inlining.proofs.tails.Tails.put_slices.Goals as goal

pub returns : goal.returns
returns c =
    let d = c.args.dotted.now in
    let end : length c.args.dotted.now ≡ c.loop-i.i = omega (arith, c.loop-i-test.false, c.loop-i.auto.i-end) in
    on_ok_weaker c.put_part.result (λ e. last_step d c.loop-i.start c.loop-i.i (take (length d - c.loop-i.start) (drop c.loop-i.start d)) c.loop-i.self c.put_part.new.self (all_noted c.args.self.now (dotted_parts d)) c.loop-i-test.false
    (ap (λ (n : ℕ). take (n - c.loop-i.start) (drop c.loop-i.start d)) end) e c.loop-i.invariant.2) c.put_part.ensures
