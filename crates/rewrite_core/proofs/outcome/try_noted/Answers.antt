use Rattle.std.proofs.Common.{ap}
use Rattle.java_ast.specs.Reading.{program as plain_program}
use Rattle.rewrite_core.specs.Searches.{kept_searches}
use Rattle.rewrite_core.proofs.KeptSearches.{search_noted, of_held}
use Rattle.rewrite_core.proofs.outcome.try_noted.Goals as goal

pub returns-in_ok-note_search-in-Some-clause-searches : goal.returns-in_ok-note_search-in-Some-clause-searches
returns-in_ok-note_search-in-Some-clause-searches g c =
    search_noted c.args.schema.now c.args.size c.args.budget (plain_program c.args.typed.now.program) c.args.path.now _ _ c.args.lowered.value c.requires.lowered c.in_ok-outcome-in-Some.outcome.value c.deref-in-Some-2.result.now
    (of_held _ _ _ c.in_ok-outcome-in-Some.ensures c.try_lowered-in-Some.ensures) c.deref-in-Some-2.ensures (kept_searches c.args.searches.now) _ _ (ap kept_searches c.in-Some.is) c.in_ok-note_search-in-Some.ensures
