use Rattle.std.proofs.Common.{codes}
use Rattle.std.specs.String.{string_bytes}
use Rattle.std.proofs.lemmas.Result.{IfOk-weaker}
use Rattle.qbs_base.specs.Literal.{text_literal}
use Rattle.java_text.proofs.Parts.{in_two}
use Rattle.java_text.proofs.printing.put_query_boolean.Goals as goal

pub returns : goal.returns
returns c = IfOk-weaker c.push_text_literal.result _ _ (λ _ second. in_two (string_bytes c.args.out.now) (string_bytes c.push_str.new.self) (string_bytes c.push_text_literal.new.out) (codes "db.queryBoolean(") (text_literal c.args.text.now) c.in_ok-push_str.ensures.bytes second) c.push_text_literal.ensures
