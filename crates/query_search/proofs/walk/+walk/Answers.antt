use Rattle.std.proofs.Common.{◌/◌, sym, ◌∙◌, arith}
use Rattle.kernel_lang.specs.Whole.{fragment_of}
use Rattle.query_search.proofs.Parts.{no-part-at, one-part-at, first-part-at, both-parts-at}
use Rattle.query_search.proofs.walk.+walk.Goals as goal

pub returns-then-n-eq0-clause-part : goal.returns-then-n-eq0-clause-part
returns-then-n-eq0-clause-part g t c = no-part-at (fragment_of c.args.frag.now) c.args.size c.args.k c.args.n c.if-n-eq0.true

pub returns-then-n-eq1-clause-part : goal.returns-then-n-eq1-clause-part
returns-then-n-eq1-clause-part g t c = one-part-at (fragment_of c.args.frag.now) c.args.size _ _ c.args.k c.args.n c.if-n-eq1.true c.judge_one.result c.judge_one.ensures.part

pub returns-then-is_some-clause-part : goal.returns-then-is_some-clause-part
returns-then-is_some-clause-part g t c =
    first-part-at (fragment_of c.args.frag.now) c.args.size c.args.k c.args.n (c.args.n / 2) c.in_ok-first.first.hit c.in_ok-first.first.dropped (sym c.is_some.ensures ∙ c.if-is_some.true) (omega arith) c.requires.within (rw (c.halves-parts.ensures.from, c.halves-parts.ensures.half) at c.in_ok-first.ensures.part)

pub returns-clause-part : goal.returns-clause-part
returns-clause-part g t c =
    both-parts-at (fragment_of c.args.frag.now) c.args.size c.args.k c.args.n (c.args.n / 2) c.in_ok-first.first.hit c.in_ok-rest.rest.hit c.in_ok-first.first.dropped c.in_ok-rest.rest.dropped (sym c.is_some.ensures ∙ c.if-is_some.false) (omega arith) c.requires.within (rw (c.halves-parts.ensures.from, c.halves-parts.ensures.half) at c.in_ok-first.ensures.part) (rw (c.halves-parts.ensures.behind, c.halves-parts.ensures.others) at c.in_ok-rest.ensures.part)
