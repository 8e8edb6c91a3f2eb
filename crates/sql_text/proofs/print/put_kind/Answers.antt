use Rattle.std.proofs.Common.{codes, string_bytes}
use Rattle.std.proofs.lemmas.Result.{IfOk-weaker}
use Rattle.sql_ast.specs.Canonical.{total_text}
use Rattle.sql_text.proofs.Printed.{step}
use Rattle.sql_text.proofs.print.put_kind.Goals as goal

pub returns-in_ok-push_str-in-Sum : goal.returns-in_ok-push_str-in-Sum
returns-in_ok-push_str-in-Sum c =
    rw c.in-Sum.is
    (IfOk-weaker c.put_total.result _ _
    (λ _ last. step (string_bytes c.args.out.now) (string_bytes c.put_total.new.out) (codes "COALESCE(SUM(") (total_text c.in-Sum.col c.in-Sum.other) c.in_ok-push_str-in-Sum.ensures.bytes last)
    c.put_total.ensures)

pub returns-in_ok-push_str-in-Min : goal.returns-in_ok-push_str-in-Min
returns-in_ok-push_str-in-Min c =
    rw c.in-Min.is
    (IfOk-weaker c.put_total-in-Min.result _ _
    (λ _ last. step (string_bytes c.args.out.now) (string_bytes c.put_total-in-Min.new.out) (codes "COALESCE(MIN(") (total_text c.in-Min.col c.in-Min.other) c.in_ok-push_str-in-Min.ensures.bytes last)
    c.put_total-in-Min.ensures)
