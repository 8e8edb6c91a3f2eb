use Rattle.std.proofs.Common.{◌++◌, ap, ◌∙◌, rules}
use Rattle.kernel_lang.specs.Whole.{fragment_of}
use Rattle.query_search.proofs.Kept.{kept-more}
use Rattle.query_search.proofs.choices.keep.Goals as goal

pub returns : goal.returns
returns c =
    kept-more (fragment_of c.args.frag.now) c.args.kept.now.places.items c.push.new.self.items c.args.place c.args.kept.now.proofs.items c.args.proofs c.append.new.self.items c.requires.before c.requires.derived c.in_ok-push.ensures.items
    (c.in_ok-append.ensures.items ∙ ap (λ es. c.args.kept.now.proofs.items ++ es) (search rules))
