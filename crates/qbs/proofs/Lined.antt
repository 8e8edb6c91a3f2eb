-- Lines in the order in which they are written.
use Rattle.std.proofs.Common.{◌≡◌, ℕ, ◌++◌, codes, append_assoc}
use Rattle.std.specs.Fmt.{decimal}
use Rattle.qbs.specs.Check.{accepted_line, refused_line}

pub accepted_lined : (n : ℕ) → codes "ok " ++ (decimal n ++ codes "\n") ≡ accepted_line n
accepted_lined n = simp append_assoc

pub refused_lined : (ordinal : ℕ) → codes "refused " ++ (decimal ordinal ++ codes "\n") ≡ refused_line ordinal
refused_lined ordinal = simp append_assoc
