use Rattle.std.proofs.Common.{◌∙◌, ap}
use Rattle.java_ast.specs.Reading.{method}
use Rattle.java_text.specs.Canonical.{canonical}
use Rattle.method_texts.specs.Anew.{method_text}
use Rattle.method_texts.proofs.Enclosed.{method_enclosed}
use Rattle.method_texts.proofs.texts.method_text.Goals as goal

pub returns : goal.returns
returns c =
    c.in_ok-from_str.ensures
    ∙ c.enclosed.ensures (method_text (method c.args.m.now)) (c.as_str.ensures ∙ c.in_ok-printed.ensures ∙ ap canonical c.in_ok-program.ensures ∙ method_enclosed (method c.args.m.now))
