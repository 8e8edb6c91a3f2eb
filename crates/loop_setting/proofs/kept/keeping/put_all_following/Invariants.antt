use Rattle.std.proofs.Common.{◌+◌, ◌-◌, ◌≤◌, length, take}
use Rattle.java_ast.specs.Reading.{statements}
use Rattle.loop_setting.specs.Listed.{IsListed}
use Rattle.java_ast.specs.Names.{Names, mentioned_among, names_lent}
use Rattle.loop_setting.specs.Reading.{fragment_in_code}
use Rattle.loop_text.specs.Statements.Wanted.{AreWanted, HasAll, HasFollowing}
use Rattle.loop_setting.proofs.Following.{missing}
use Rattle.loop_setting.proofs.kept.keeping.put_all_following.Given as goal

abbrev pub invariant-loop-list : goal.invariant-loop-list
invariant-loop-list l =
    record {
      listed : IsListed l.list;
      within : l.i ≤ length (names_lent l.list.names);
      wanted : (further : Names) → AreWanted (fragment_in_code l.f) further (names_lent l.fn.list.names) → AreWanted (fragment_in_code l.f) further (names_lent l.list.names);
      all : HasAll (names_lent l.list.names) (names_lent l.fn.list.names);
      following : HasFollowing (fragment_in_code l.f) (names_lent l.list.names) (take l.i (names_lent l.list.names));
    }

-- the names that the run mentions and that are still missing, and those that weren't looked at
abbrev pub decreases-loop-list : goal.decreases-loop-list
decreases-loop-list l = missing (mentioned_among (statements l.f.run.now)) (names_lent l.list.names) + (length (names_lent l.list.names) - l.i)
