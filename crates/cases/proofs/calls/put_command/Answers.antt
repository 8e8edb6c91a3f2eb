use Rattle.std.proofs.Common.{◌++◌, ◌∙◌, ap, refl, append_assoc, codes}
use Rattle.std.specs.String.{string_bytes}
use Rattle.cases.specs.Answers.{status_line, shown}
use Rattle.cases.proofs.calls.put_command.Goals as goal

pub returns : goal.returns
returns c =
    let old = string_bytes c.args.out.now in
    let line = status_line c.in_ok-came.came.code in
    let text = shown (codes ">") c.bytes.result.now in
    let report = shown (codes "!") c.bytes-2.result.now in (
      line ++ text ++ report,
      record { code = c.in_ok-came.came.code; text = c.bytes.result.now; report = c.bytes-2.result.now; is = refl },
      c.in_ok-put_lines-2.ensures
          ∙ ap (λ bs. bs ++ report) (c.in_ok-put_lines.ensures ∙ ap (λ bs. bs ++ text) c.in_ok-put_status.ensures ∙ append_assoc old line text)
          ∙ append_assoc old (line ++ text) report,
    )
