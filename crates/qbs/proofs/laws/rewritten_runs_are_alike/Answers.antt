use Rattle.std.proofs.Common.{◌≡◌, true}
use Rattle.qbs.proofs.AlikeRuns.{commands_alike}
use Rattle.qbs.proofs.laws.rewritten_runs_are_alike.Goals as goal

pub returns : goal.returns
returns c told failing o schema source folder call plan other has_schema has_source tables calm a ok b =
    commands_alike (record { told = told; failed = λ name. failing name ≡ true }) o schema source folder call plan other has_schema has_source tables calm ok a b
