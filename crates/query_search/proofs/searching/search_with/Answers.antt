use Rattle.std.proofs.Common.{sym, ◌∙◌, subst, option_map}
use Rattle.kernel_lang.specs.Whole.{fragment_of}
use Rattle.query_search.specs.Counted.{AreCounted}
use Rattle.query_search.specs.Seen.{hit_in}
use Rattle.query_search.specs.Verdicts.{verdict, before}
use Rattle.query_search.proofs.Parts.{whole-exact, whole-counted}
use Rattle.query_search.proofs.searching.search_with.Goals as goal

pub returns-clause-exact : goal.returns-clause-exact
returns-clause-exact g c =
    c.answer.ensures.exact
    ∙ whole-exact (fragment_of c.args.frag.now) c.args.size c.args.budget c.count-n.result c.most_judged-judged.result (option_map hit_in c.in_ok-part.part.hit) c.in_ok-part.part.dropped c.count-n.ensures c.most_judged-judged.ensures c.in_ok-part.ensures.part

pub returns-clause-dropped : goal.returns-clause-dropped
returns-clause-dropped g c =
    subst (AreCounted _ _ 0 (before (verdict (fragment_of c.args.frag.now) c.args.size c.args.budget))) (sym c.answer.ensures.dropped)
    (whole-counted (fragment_of c.args.frag.now) c.args.size c.args.budget c.count-n.result c.most_judged-judged.result (option_map hit_in c.in_ok-part.part.hit) c.in_ok-part.part.dropped c.count-n.ensures c.most_judged-judged.ensures c.in_ok-part.ensures.part)
