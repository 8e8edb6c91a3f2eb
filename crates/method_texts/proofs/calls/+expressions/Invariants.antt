use Rattle.std.proofs.Common.{◌≡◌, drop}
use Rattle.java_ast.specs.Reading.{expressions}
use Rattle.java_calls.specs.Rules.{sites_among}
use Rattle.method_texts.specs.Anew.{has_sites}
use Rattle.method_texts.proofs.calls.+expressions.Given as goal

abbrev pub invariant-is_among-loop-e : goal.invariant-is_among-loop-e
invariant-is_among-loop-e l = has_sites (sites_among (expressions (drop l.e-index l.list))) ≡ has_sites (sites_among (expressions l.list))
