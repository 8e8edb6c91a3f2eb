use Rattle.std.proofs.Common.{◌≡◌, List, [], ◌++◌, map, drop}
use Rattle.std.specs.Prelude.{IfSome}
use Rattle.java_ast.specs.Reading.{program as plain_program}
use Rattle.view_statements.specs.declared.slice.Read.{Read}
use Rattle.view_slices.specs.Reading.{slices as plain_slices}
use Rattle.view_slices.specs.Slices.{file_of}
use Rattle.qbs.specs.Looks.{IsRoundIf, AreSeenBehind}
use Rattle.qbs.specs.SeenAgain.{Stood, stood_in}
use Rattle.qbs.proofs.looks.look_at_method.Given as goal

-- where none failed so far, what is seen behind the next slice makes all of it seen
abbrev pub invariant-loop-slice : goal.invariant-loop-slice
invariant-loop-slice l = record {
  round : IfSome l.round (λ a. IsRoundIf l.source.map.now (file_of l.file) a.value.again.read a.value.standing a.value.tested a.value.is);
  few : l.failed.items ≡ [] → l.fn.failed.items ≡ [];
  seen : l.failed.items ≡ [] → (in_method : Read) (sts : List Stood)
      → AreSeenBehind l.source.map.now l.source.schema.now (file_of l.read) (file_of l.file) (plain_program l.source.left.now).methods l.spelled l.reached
      (map (stood_in in_method) (plain_slices (drop l.slice-index l.slices)) ++ sts)
      → AreSeenBehind l.source.map.now l.source.schema.now (file_of l.read) (file_of l.file) (plain_program l.source.left.now).methods l.spelled l.fn.reached
      (map (stood_in in_method) (plain_slices l.slices) ++ sts);
}
