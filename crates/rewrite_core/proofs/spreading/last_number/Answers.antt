use Rattle.std.proofs.Common.{◌∙◌, ap}
use Rattle.java_ast.specs.Path.{last_of}
use Rattle.rewrite_core.proofs.LastNumbers.{last_number_is, no_last_number}
use Rattle.rewrite_core.proofs.spreading.last_number.Goals as goal

pub returns-in-Some : goal.returns-in-Some
returns-in-Some c = last_number_is c.as_slice.result.now c.in-Some.number.now c.in-Some.ensures.value ∙ ap last_of c.as_slice.ensures

pub returns-in-None : goal.returns-in-None
returns-in-None c = no_last_number c.as_slice.result.now c.in-None.ensures.value ∙ ap last_of c.as_slice.ensures
