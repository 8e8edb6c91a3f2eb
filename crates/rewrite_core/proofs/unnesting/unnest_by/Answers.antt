use Rattle.std.proofs.Common.{◌≡◌, ℕ, ◌≤◌, List, Some, sym, ap, ◌∙◌, subst}
use Rattle.java_ast.specs.Path.{statement_at}
use Rattle.java_ast.specs.Reading.{statements, program as plain_program}
use Rattle.loop_lists.specs.declared.listing.Listed.{Listed}
use Rattle.rewrite_core.specs.declared.stage.Stage.{Stage}
use Rattle.rewrite_core.specs.Stages.{next_of}
use Rattle.rewrite_core.specs.UnnestingSteps.{alone_or_nothing, IsSpreadThere, unnesting_in}
use Rattle.rewrite_core.proofs.UnnestSteps.{LoopAndSpread, loop_of_spread}
use Rattle.rewrite_core.proofs.UnnestStages.{same_next, leaves_before, spread_is_loop_there, spread_is_typed, comes_back, goes_back, tried_by}
use Rattle.rewrite_core.proofs.unnesting.unnest_by.Goals as goal

pub copy_next-requires : goal.copy_next-requires
copy_next-requires g c = subst (λ (s : Stage). s.listed.before ≤ s.standing) (sym c.deref.ensures) c.requires.lists.behind

pub try_spread-requires-clause-typed : goal.try_spread-requires-clause-typed
try_spread-requires-clause-typed g c =
    spread_is_typed c.args.stage.value c.in_ok-stage.stage.value c.in_ok-stage.ensures.listed c.in_ok-stage.ensures.standing c.requires.lists c.requires.there.0 (same_next c.args.stage.value c.in_ok-stage.stage.value c.in_ok-stage.ensures.listed c.in_ok-stage.ensures.standing ∙ c.requires.there.1) (statements c.args.spread.items) c.in_ok-stage.ensures.program c.args.schema.now (c.requires.tried c.requires.there.0 c.requires.there.1)

pub try_spread-requires-clause-behind : goal.try_spread-requires-clause-behind
try_spread-requires-clause-behind g c =
    subst (λ (l : Listed). l.before ≤ c.in_ok-stage.stage.value.standing) (sym c.in_ok-stage.ensures.listed) (subst (λ (n : ℕ). c.args.stage.value.listed.before ≤ n) (sym c.in_ok-stage.ensures.standing) c.requires.lists.behind)

pub try_spread-requires-clause-there : goal.try_spread-requires-clause-there
try_spread-requires-clause-there g c = (c.requires.there.0, same_next c.args.stage.value c.in_ok-stage.stage.value c.in_ok-stage.ensures.listed c.in_ok-stage.ensures.standing ∙ c.requires.there.1)

pub try_spread-requires-clause-loops : goal.try_spread-requires-clause-loops
try_spread-requires-clause-loops g c q next = spread_is_loop_there c.args.stage.value c.in_ok-stage.stage.value c.in_ok-stage.ensures.listed c.in_ok-stage.ensures.standing c.requires.lists q next (statements c.args.spread.items) c.in_ok-stage.ensures.program c.args.schema.now (c.requires.tried q (sym (same_next c.args.stage.value c.in_ok-stage.stage.value c.in_ok-stage.ensures.listed c.in_ok-stage.ensures.standing) ∙ next))

pub try_spread-requires-clause-before : goal.try_spread-requires-clause-before
try_spread-requires-clause-before g c q next = leaves_before c.args.stage.value c.in_ok-stage.stage.value c.in_ok-stage.ensures.listed c.in_ok-stage.ensures.standing c.requires.lists q next (statements c.args.spread.items) c.in_ok-stage.ensures.program

pub try_spread-requires-clause-back : goal.try_spread-requires-clause-back
try_spread-requires-clause-back g c q next =
    let h : IsSpreadThere c.args.schema.now (plain_program c.args.stage.value.typed.program) q (statements c.args.spread.items) = c.requires.spread q (sym (same_next c.args.stage.value c.in_ok-stage.stage.value c.in_ok-stage.ensures.listed c.in_ok-stage.ensures.standing) ∙ next) in
    let k : LoopAndSpread c.args.schema.now (plain_program c.args.stage.value.typed.program) q h.spread = loop_of_spread c.args.schema.now (plain_program c.args.stage.value.typed.program) q (statements c.args.spread.items) h in
    goes_back c.args.stage.value c.in_ok-stage.stage.value c.in_ok-stage.ensures.listed c.in_ok-stage.ensures.standing c.requires.lists q next (statements c.args.spread.items) c.in_ok-stage.ensures.program h.spread k.loop h.block_is k.there (statements c.in_ok-old.old.items) (subst (λ (s : Stage). (q : List ℕ) → next_of s ≡ Some q → statements c.in_ok-old.old.items ≡ alone_or_nothing (statement_at q (plain_program s.typed.program))) c.deref.ensures c.in_ok-old.ensures) c.args.stage.value.typed.numbers

pub returns-clause-passes : goal.returns-clause-passes
returns-clause-passes g c =
    tried_by c.args.schema.now c.args.size c.args.budget c.args.source.now c.args.stage.value c.in_ok-stage.stage.value c.in_ok-stage.ensures.listed c.in_ok-stage.ensures.standing (statements c.args.spread.items) c.in_ok-stage.ensures.program (statements c.in_ok-old.old.items)
    (λ q next. let h : IsSpreadThere c.args.schema.now (plain_program c.args.stage.value.typed.program) q (statements c.args.spread.items) = c.requires.spread q next in let k : LoopAndSpread c.args.schema.now (plain_program c.args.stage.value.typed.program) q h.spread = loop_of_spread c.args.schema.now (plain_program c.args.stage.value.typed.program) q (statements c.args.spread.items) h in comes_back c.args.stage.value c.in_ok-stage.stage.value c.in_ok-stage.ensures.listed c.in_ok-stage.ensures.standing c.requires.lists q (same_next c.args.stage.value c.in_ok-stage.stage.value c.in_ok-stage.ensures.listed c.in_ok-stage.ensures.standing ∙ next) (statements c.args.spread.items) c.in_ok-stage.ensures.program h.spread k.loop h.block_is k.there (statements c.in_ok-old.old.items) (subst (λ (s : Stage). (q : List ℕ) → next_of s ≡ Some q → statements c.in_ok-old.old.items ≡ alone_or_nothing (statement_at q (plain_program s.typed.program))) c.deref.ensures c.in_ok-old.ensures))
    c.args.given.now c.try_spread.result (λ s. unnesting_in s.value c.try_spread.new.given) c.try_spread.ensures.passes
