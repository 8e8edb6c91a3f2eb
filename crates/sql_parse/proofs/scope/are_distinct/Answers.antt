use Rattle.std.proofs.Common.{Some, sym, ap, ◌∙◌}
use Rattle.std.specs.Prelude.{is_some}
use Rattle.sql_ast.specs.declared.known.Known.{Known}
use Rattle.sql_ast.specs.Places.{number_of, replaced}
use Rattle.sql_parse.proofs.Distinct.{none_met, met_again, met_more, all_met}
use Rattle.sql_parse.proofs.scope.are_distinct.Goals as goal

pub loop-number-init : goal.loop-number-init
loop-number-init c = none_met c.new-met.result c.args.own.now (λ name. ap is_some (c.new-met.ensures name))

pub returns-then-is_some : goal.returns-then-is_some
returns-then-is_some c =
    sym (met_again c.loop-number.met c.args.own.now c.loop-number.number c.index-own-number.result c.loop-number-test.true c.index-own-number.is c.loop-number.invariant
    (ap is_some (sym (c.get.ensures ∙ ap (λ (k : Known). number_of c.loop-number.met k.alias.now) (sym c.index-own-number.is))) ∙ sym c.is_some.ensures ∙ c.if-is_some.true))

pub loop-number-preserved : goal.loop-number-preserved
loop-number-preserved c =
    met_more c.loop-number.met c.put.new.self c.args.own.now c.loop-number.number c.index-own-number.result c.loop-number-test.true c.index-own-number.is c.loop-number.invariant
    (ap is_some (sym (c.get.ensures ∙ ap (λ (k : Known). number_of c.loop-number.met k.alias.now) (sym c.index-own-number.is))) ∙ sym c.is_some.ensures ∙ c.if-is_some.false)
    (λ other. c.in_ok-put.ensures.ok other ∙ ap (λ (k : Known). replaced (number_of c.loop-number.met) k.alias.now (Some c.loop-number.number) other) (sym c.index-own-number.is))

pub returns : goal.returns
returns c = sym (all_met c.loop-number.met c.args.own.now c.loop-number.number c.loop-number-test.false c.loop-number.invariant)
