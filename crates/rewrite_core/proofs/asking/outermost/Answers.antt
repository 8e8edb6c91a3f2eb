use Rattle.std.proofs.Common.{List, ◌≡◌, ◌∙◌, sym, ap, subst, Some, map, slice_get}
use Rattle.kernel_lang.specs.declared.parts.Acc.{Acc}
use Rattle.kernel_lang.specs.Plain.{accumulator}
use Rattle.rewrite_core.specs.LoopWithCandidate as specs
use Rattle.rewrite_core.proofs.Arguing.{mapped_some}
use Rattle.rewrite_core.proofs.Giving.{not_outer}
use Rattle.rewrite_core.proofs.asking.outermost.Goals as goal

pub returns-then-acc-eq0-clause-outer : goal.returns-then-acc-eq0-clause-outer
returns-then-acc-eq0-clause-outer c =
    record {
      accumulator = accumulator c.in_ok-acc.acc.now;
      there = subst (λ (xs : List Acc). slice_get (map accumulator xs) c.args.k ≡ Some (accumulator c.in_ok-acc.acc.now)) c.as_slice.ensures
          (mapped_some accumulator c.as_slice.result.now c.args.k c.in_ok-acc.acc.now c.in_ok-acc.acc.now c.in_ok-acc.ensures.lookup.3.0 c.in_ok-acc.ensures.lookup.1);
      base = c.if-acc-eq0.true;
    }

pub returns-else-acc-eq0-clause-found : goal.returns-else-acc-eq0-clause-found
returns-else-acc-eq0-clause-found c =
    sym
    (ap specs.outermost
    (subst (λ (xs : List Acc). slice_get (map accumulator xs) c.args.k ≡ Some (accumulator c.in_ok-acc.acc.now)) c.as_slice.ensures
    (mapped_some accumulator c.as_slice.result.now c.args.k c.in_ok-acc.acc.now c.in_ok-acc.acc.now c.in_ok-acc.ensures.lookup.3.0 c.in_ok-acc.ensures.lookup.1))
    ∙ not_outer (accumulator c.in_ok-acc.acc.now) c.if-acc-eq0.false)
