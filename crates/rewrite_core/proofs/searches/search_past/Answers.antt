use Rattle.std.proofs.Common.{[]}
use Rattle.java_ast.specs.Reading.{program as plain_program}
use Rattle.rewrite_core.specs.Searches.{searches_of}
use Rattle.rewrite_core.specs.Trying.{all_tried}
use Rattle.rewrite_core.proofs.FittingSearches.{were_kept, all_searched}
use Rattle.rewrite_core.proofs.searches.search_past.Goals as goal

pub with_searches-requires : goal.with_searches-requires
with_searches-requires g c = (searches_of (all_tried c.args.schema.now c.args.size c.args.budget (plain_program c.args.typed.now.program)), were_kept _ _ c.args.schema.now c.args.size c.args.budget [] (plain_program c.args.typed.now.program) c.in_ok-all.all c.in_ok-all.ensures)

pub returns : goal.returns
returns g c =
    all_searched _ _ c.args.schema.now c.args.size c.args.budget [] (plain_program c.args.typed.now.program) c.in_ok-all.all c.in_ok-all.ensures c.with_searches.result c.with_searches.ensures.verdicts c.with_searches.ensures.searches c.requires.typed c.args.typed.now.numbers
