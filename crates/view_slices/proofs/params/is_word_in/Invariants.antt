use Rattle.std.proofs.Common.{◌≡◌, ◌-◌}
use Rattle.std.specs.List.{list_any}
use Rattle.view_shapes.specs.Found.{is_word}
use Rattle.view_shapes.specs.Mentions.{numbers}
use Rattle.view_slices.specs.Slices.{file_of}
use Rattle.view_slices.proofs.params.is_word_in.Given as goal

abbrev pub invariant-loop-k : goal.invariant-loop-k
invariant-loop-k l =
    list_any (λ k. is_word l.name (file_of l.file).items k) (numbers l.k (l.to - l.k)) ≡ list_any (λ k. is_word l.name (file_of l.file).items k) (numbers l.from (l.to - l.from))
