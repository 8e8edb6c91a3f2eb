use Rattle.std.proofs.Common.{◌≡◌, map, take}
use Rattle.view_slices.specs.Slices.{file_of}
use Rattle.view_slices.specs.Words.{is_template_kept}
use Rattle.view_slices.proofs.words.all_templates_kept.Given as goal

abbrev pub invariant-loop-template : goal.invariant-loop-template
invariant-loop-template l = l.list ≡ map (is_template_kept l.m (file_of l.file)) (take l.template-index l.templates)
