use Rattle.std.proofs.Common.{◌+◌, ℕ, List, drop, sym, ap, ◌∙◌, arith}
use Rattle.std.proofs.lemmas.List.{drop_all}
use Rattle.java_ast.specs.declared.tree.Method.{Method}
use Rattle.call_rules.proofs.Numbers.{number_or, first_numbers, next_number, last_numbers, drop_item}
use Rattle.call_rules.proofs.helpers.numbers_of.Goals as goal

pub loop-i-init : goal.loop-i-init
loop-i-init c = λ x. ap (λ (ps : List (List ℕ × ℕ)). number_or ps 0 c.args.methods.now x) c.new-numbers.ensures ∙ first_numbers c.args.methods.now x

pub loop-i-preserved : goal.loop-i-preserved
loop-i-preserved c = λ x.
    ap (λ (ps : List (List ℕ × ℕ)). number_or ps (c.loop-i.i + 1) (drop (c.loop-i.i + 1) c.args.methods.now) x) c.in_ok-note.ensures
    ∙ next_number c.loop-i.numbers c.index-methods-i.result c.loop-i.i (drop c.loop-i.i c.args.methods.now) (drop (c.loop-i.i + 1) c.args.methods.now) c.args.methods.now x
    (drop_item c.args.methods.now c.loop-i.i c.index-methods-i.result c.loop-i-test.true c.index-methods-i.is) (c.loop-i.invariant x)

pub returns : goal.returns
returns c = λ x.
    last_numbers c.loop-i.numbers c.loop-i.i c.args.methods.now x
    (ap (λ (l : List Method). number_or c.loop-i.numbers c.loop-i.i l x) (sym (drop_all c.loop-i.i c.args.methods.now (omega (arith, c.loop-i-test.false)))) ∙ c.loop-i.invariant x)
