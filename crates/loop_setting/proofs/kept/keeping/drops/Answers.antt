use Rattle.std.proofs.Common.{◌∙◌, sym, ap}
use Rattle.loop_text.specs.Statements.Fragment.{accumulators, counter, is_name}
use Rattle.java_ast.specs.Names.{is_among, names_lent}
use Rattle.loop_setting.specs.Reading.{fragment_in_code}
use Rattle.loop_setting.proofs.Gathered.{found_among, first_holds, second_answers}
use Rattle.loop_setting.proofs.kept.keeping.drops.Goals as goal

pub returns-then-has : goal.returns-then-has
returns-then-has c =
    let f = fragment_in_code c.args.f.now in
    first_holds c.has.result (is_among (accumulators f) c.args.x.now) (is_name (counter f.loop) c.args.x.now)
    (c.has.ensures ∙ found_among c.args.accumulators.now.seen (names_lent c.args.accumulators.now.names) (accumulators f) c.args.x.now c.requires.listed c.requires.names)
    c.if-has.true

pub returns-else-has : goal.returns-else-has
returns-else-has c =
    let f = fragment_in_code c.args.f.now in
    second_answers c.is_name.result (is_among (accumulators f) c.args.x.now) (is_name (counter f.loop) c.args.x.now)
    (sym (c.has.ensures ∙ found_among c.args.accumulators.now.seen (names_lent c.args.accumulators.now.names) (accumulators f) c.args.x.now c.requires.listed c.requires.names) ∙ c.if-has.false)
    (c.is_name.ensures ∙ ap (λ o. is_name o c.args.x.now) c.counter.ensures)
