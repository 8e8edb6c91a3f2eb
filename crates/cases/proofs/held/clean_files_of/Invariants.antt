use Rattle.std.proofs.Common.{◌≡◌, ℕ, List, take}
use Rattle.qbs_base.specs.Named.{at_name}
use Rattle.cases.specs.Files.{last_under}
use Rattle.cases.proofs.held.clean_files_of.Given as goal

abbrev pub invariant-loop-file : goal.invariant-loop-file
invariant-loop-file l = (name : List ℕ) → at_name l.files name ≡ last_under (take l.file-index l.held) name
