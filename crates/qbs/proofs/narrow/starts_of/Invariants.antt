use Rattle.std.proofs.Common.{◌≡◌, ◌++◌, drop}
use Rattle.std.specs.List.{flat_map}
use Rattle.qbs.specs.Narrow.{start_found}
use Rattle.qbs.proofs.narrow.starts_of.Given as goal

-- the starts so far and those of the verdicts that are left are all of them
abbrev pub invariant-loop-verdict : goal.invariant-loop-verdict
invariant-loop-verdict l = l.starts ++ flat_map start_found (drop l.verdict-index l.verdicts) ≡ flat_map start_found l.verdicts
