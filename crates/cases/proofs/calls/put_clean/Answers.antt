use Rattle.std.proofs.Common.{◌++◌, ◌∙◌, ap}
use Rattle.std.specs.String.{string_bytes}
use Rattle.cases.specs.Answers.{status_line}
use Rattle.cases.proofs.calls.put_clean.Goals as goal

pub returns : goal.returns
returns c = (
  c.qbs_main_over_clean_ends-status.result,
  (c.qbs_main_over_clean_ends-status.ensures.read, c.qbs_main_over_clean_ends-status.ensures.write),
  c.in_ok-put_status.ensures ∙ ap (λ code. string_bytes c.args.out.now ++ status_line code) c.code.ensures,
)
