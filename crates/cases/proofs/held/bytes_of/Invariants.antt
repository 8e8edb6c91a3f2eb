use Rattle.std.proofs.Common.{◌≡◌, drop}
use Rattle.cases.specs.Files.{bytes_under}
use Rattle.cases.proofs.held.bytes_of.Given as goal

-- no file before this one has the name
abbrev pub invariant-loop-file : goal.invariant-loop-file
invariant-loop-file l = bytes_under l.files l.name ≡ bytes_under (drop l.file-index l.files) l.name
