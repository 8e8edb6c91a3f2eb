use Rattle.std.proofs.Common.{◌≡◌, drop}
use Rattle.java_ast.specs.Reading.{statements}
use Rattle.java_calls.specs.Rules.{sites_of}
use Rattle.method_texts.specs.Anew.{has_sites}
use Rattle.method_texts.proofs.calls.+statements.Given as goal

abbrev pub invariant-has_call-loop-s : goal.invariant-has_call-loop-s
invariant-has_call-loop-s l = has_sites (sites_of (statements (drop l.s-index l.block))) ≡ has_sites (sites_of (statements l.block))
