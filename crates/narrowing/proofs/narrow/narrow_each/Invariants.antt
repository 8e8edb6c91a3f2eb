use Rattle.std.proofs.Common.{◌≡◌, drop}
use Rattle.java_ast.specs.Reading.{program}
use Rattle.narrowing.specs.Narrowing.{narrowing}
use Rattle.narrowing.proofs.Steps.{leaves}
use Rattle.narrowing.proofs.narrow.narrow_each.Given as goal

-- what is narrowed and the walks that are left are all
abbrev pub invariant-loop-path : goal.invariant-loop-path
invariant-loop-path l = leaves l.schema l.bytes.keys (drop l.path-index l.paths) (program l.program.value) l.walks l.patches ≡ narrowing l.schema l.bytes.keys l.paths (program l.fn.read.value)
