use Rattle.std.specs.Option.{option_copied}
use Rattle.qbs.proofs.Drawn.{drawn_out}
use Rattle.qbs.proofs.draw.plan_drawn.Goals as goal

pub returns : goal.returns
returns c =
    drawn_out c.args.options.now (option_copied c.text_of-tables.result) (option_copied c.text_of-columns.result) c.args.dump.now c.in_ok-drawn.drawn.value c.into_inner-text.result c.into_inner-text.ensures
    c.text_of-tables.ensures c.text_of-columns.ensures c.in_ok-drawn.ensures.text c.in_ok-drawn.ensures.report c.in_ok-drawn.ensures.declared c.in_ok-drawn.ensures.sound
