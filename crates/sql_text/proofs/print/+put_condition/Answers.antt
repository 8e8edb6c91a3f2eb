use Rattle.std.proofs.Common.{◌+◌, ◌++◌, codes, length, string_bytes}
use Rattle.std.proofs.lemmas.Result.{IfOk-weaker}
use Rattle.sql_ast.specs.Canonical.{opnd_text, in_text, col_text, from_text, filter_text}
use Rattle.sql_ast.specs.Reading.{inner_filter}
use Rattle.sql_text.proofs.Printed.{with_head}
use Rattle.sql_ast.proofs.Views.{exists_is, within_is}
use Rattle.sql_text.proofs.print.+put_condition.Goals as goal

pub put_condition-returns-in_ok-push_str-in-Exists : goal.put_condition-returns-in_ok-push_str-in-Exists
put_condition-returns-in_ok-push_str-in-Exists t c =
    rw (exists_is c.args.cond.now c.in-Exists.from c.in-Exists.filter c.in-Exists.is)
    (IfOk-weaker c.put_inner.result _ _
    (λ _ last. with_head (string_bytes c.args.out.now) (codes "EXISTS (SELECT 1 FROM ") (from_text c.args.around c.in-Exists.from) (filter_text (c.args.around + length c.in-Exists.from) (inner_filter c.in-Exists.filter)) (codes ")") (string_bytes c.push_str-in-Exists.new.self) (string_bytes c.put_inner.new.out) c.in_ok-push_str-in-Exists.ensures.bytes last)
    c.put_inner.ensures)

pub put_condition-returns-in_ok-put_member-in-Within : goal.put_condition-returns-in_ok-put_member-in-Within
put_condition-returns-in_ok-put_member-in-Within t c =
    rw (within_is c.args.cond.now c.in-Within.opnd c.in-Within.negated c.in-Within.col c.in-Within.from c.in-Within.filter c.in-Within.is)
    (IfOk-weaker c.put_inner-in-Within.result _ _
    (λ _ last. with_head (string_bytes c.args.out.now) (opnd_text c.in-Within.opnd ++ in_text c.in-Within.negated ++ col_text c.in-Within.col ++ codes " FROM ") (from_text c.args.around c.in-Within.from) (filter_text (c.args.around + length c.in-Within.from) (inner_filter c.in-Within.filter)) (codes ")") (string_bytes c.put_member.new.out) (string_bytes c.put_inner-in-Within.new.out) c.in_ok-put_member-in-Within.ensures last)
    c.put_inner-in-Within.ensures)
