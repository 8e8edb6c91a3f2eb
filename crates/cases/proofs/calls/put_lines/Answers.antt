use Rattle.std.proofs.Common.{◌++◌, ◌≡◌, ◌∙◌, ap, sym, subst, arith, OnOk}
use Rattle.std.specs.String.{string_bytes}
use Rattle.std.proofs.lemmas.Grind.{common_steps}
use Rattle.cases.specs.Answers.{marked_text, shown}
use Rattle.cases.proofs.Answers.{shown_text, shown_other}
use Rattle.cases.proofs.calls.put_lines.Goals as goal

pub returns-in-Ok : goal.returns-in-Ok
returns-in-Ok c =
    let text = c.in-Ok.ensures.cases in
    let due : marked_text c.args.mark.now c.in-Ok.text.now ≡ shown c.args.mark.now c.args.bytes.now =
    ap (marked_text c.args.mark.now) text.0 ∙ sym (shown_text c.args.mark.now c.args.bytes.now (omega arith) text.1)
    in
    subst (λ bs. OnOk c.put_text.result (string_bytes c.put_text.new.out ≡ string_bytes c.args.out.now ++ bs)) due c.put_text.ensures

pub returns-in-Err : goal.returns-in-Err
returns-in-Err c =
    let due = shown_other c.args.mark.now c.args.bytes.now (omega arith) c.in-Err.ensures.cases.0 in
    rw due (grind (arith, common_steps, c.push_str.ensures.bytes))
