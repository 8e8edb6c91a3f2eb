-- The report of a rewriting.
use Rattle.std.specs.Prelude.{ℕ, List, ◌++◌}
use Rattle.std.specs.List.{flat_map}
use Rattle.verdicts.specs.Reports.{verdict_line, pruned_line}
use Rattle.rewrite_core.specs.Rewriting.{verdicts_of}
use Rattle.rewrite_core.specs.Trying.{Tried}

-- a line for each try in their order, and how many candidates were dropped
abbrev pub report_text : List Tried → ℕ → List ℕ
report_text ts n = flat_map verdict_line (verdicts_of ts) ++ pruned_line n
