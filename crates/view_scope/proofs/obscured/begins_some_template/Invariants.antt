use Rattle.std.proofs.Common.{◌≡◌, drop}
use Rattle.std.specs.List.{list_any}
use Rattle.view_scope.specs.Obscured.{begins_template}
use Rattle.view_scope.proofs.obscured.begins_some_template.Given as goal

abbrev pub invariant-loop-template : goal.invariant-loop-template
invariant-loop-template l = list_any (begins_template l.name) (drop l.template-index l.templates) ≡ list_any (begins_template l.name) l.templates
