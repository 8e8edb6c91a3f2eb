use Rattle.std.proofs.Common.{◌≡◌, [], drop}
use Rattle.java_ast.specs.Reading.{program as plain_program}
use Rattle.view_slices.specs.Reading.{all_sliced}
use Rattle.view_slices.specs.Slices.{file_of}
use Rattle.qbs.specs.Looks.{AreSeenFrom, AreSeenBehind}
use Rattle.qbs.specs.SeenAgain.{slices_in, first_mark}
use Rattle.qbs.proofs.looks.look_at_methods.Given as goal

-- where none failed so far, what is seen behind the next method makes all of it seen
abbrev pub invariant-loop-method : goal.invariant-loop-method
invariant-loop-method l =
    l.failed.items ≡ []
    → AreSeenBehind l.source.map.now l.source.schema.now (file_of l.read) (file_of l.file) (plain_program l.source.left.now).methods l.spelled l.reached
    (slices_in (all_sliced (drop l.method-index l.source.methods.now)))
    → AreSeenFrom l.source.map.now l.source.schema.now (file_of l.read) (file_of l.file) (plain_program l.source.left.now).methods first_mark 0 0 0
    (slices_in (all_sliced l.source.methods.now)) l.spelled
