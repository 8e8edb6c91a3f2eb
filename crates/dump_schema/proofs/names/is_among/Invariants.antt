use Rattle.std.proofs.Common.{◌≡◌, drop}
use Rattle.std.specs.Str.{bytes_eq}
use Rattle.schema.specs.Words.{is_among}
use Rattle.dump_schema.proofs.names.is_among.Given as goal

-- the name is none that is passed
abbrev pub invariant-loop-other : goal.invariant-loop-other
invariant-loop-other l = is_among bytes_eq (drop l.other-index l.names) l.name ≡ is_among bytes_eq l.names l.name
