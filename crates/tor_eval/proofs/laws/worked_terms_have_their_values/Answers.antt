use Rattle.std.proofs.Common.{refl}
use Rattle.tor_terms.specs.Worked.{WorkedLists, WorkedTests, WorkedScalars, WorkedNone}
use Rattle.tor_eval.proofs.laws.worked_terms_have_their_values.Goals as goal

lists : WorkedLists
lists = record {
  walked = refl;
  no_turn = refl;
  turns_done = refl;
  turn_more = refl;
  all_turns = refl;
  current = refl;
  both_current = refl;
  joined = refl;
  first_slowest = refl;
  uniq = refl;
  inserted = refl;
  not_inserted = refl;
  after = refl;
}

tests : WorkedTests
tests = record {
  active = refl;
  of_entry = refl;
  known = refl;
  flagged = refl;
  no_entry = refl;
  no_order = refl;
  negated = refl;
  both = refl;
  either = refl;
}

scalars : WorkedScalars
scalars = record {
  count = refl;
  sum = refl;
  greatest = refl;
  least = refl;
  lesser = refl;
  added = refl;
  any = refl;
  disjunction = refl;
}

none : WorkedNone
none = record {
  loop_twice = refl;
  no_loop = refl;
  other_loops = refl;
  whole_held = refl;
  no_atom = refl;
  loop_outside = refl;
  no_column = refl;
  two_loops = refl;
  whole_rows = refl;
  truths = refl;
  item_of_whole = refl;
  not_truth = refl;
  too_large = refl;
  part_too_large = refl;
}

pub returns : goal.returns
returns c = record { lists = lists; tests = tests; scalars = scalars; none = none }
