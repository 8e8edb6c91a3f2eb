use Rattle.std.proofs.Common.{◌≡◌, ◌-◌, sym, ◌∙◌, arith, add-one}
use Rattle.templates.proofs.Pascal.{binomial-none, product_small, next_by_division}
use Rattle.templates.proofs.numbered.choose.Goals as goal

pub loop-chosen-init : goal.loop-chosen-init
loop-chosen-init c = sym (binomial-none c.args.n)

pub overflow_mul-ways : goal.overflow_mul-ways
overflow_mul-ways c =
    let e : c.from.result ≡ c.args.n - c.loop-chosen.chosen = c.from.ensures ∙ c.saturating_sub.ensures in
    rw (c.loop-chosen.invariant, e) (omega (arith, product_small c.args.n c.loop-chosen.chosen (omega arith) (omega arith)))

pub loop-chosen-preserved : goal.loop-chosen-preserved
loop-chosen-preserved c =
    let e : c.from.result ≡ c.args.n - c.loop-chosen.chosen = c.from.ensures ∙ c.saturating_sub.ensures in
    rw (c.loop-chosen.invariant, e, c.from-in-loop-chosen.ensures, add-one) (next_by_division c.args.n c.loop-chosen.chosen)
