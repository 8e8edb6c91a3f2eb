use Rattle.std.proofs.Common.{◌∙◌, ap, sym, option_map}
use Rattle.java_mean.specs.Statement.{added}
use Rattle.java_steps.specs.Held.{rows_in, variable_in}
use Rattle.java_steps.specs.Running.{state}
use Rattle.java_steps.proofs.Changed.{changed_is}
use Rattle.java_steps.proofs.steps.add_row.Goals as goal

pub returns : goal.returns
returns c =
    changed_is (λ b rows. added b rows c.args.row) (state c.args.m.now) c.args.name.now (variable_in c.in-Some.old) (rows_in c.in_ok-list_in.field-0) (rows_in c.in_ok-list.list) c.replace.new.self c.replace-2.new.self (variable_in c.nothing.result)
    (ap (option_map variable_in) (sym c.in-Some.is) ∙ c.in_ok-old.ensures.old)
    c.in_ok-list_in.ensures
    c.in_ok-old.ensures.stored
    c.in_ok-list.ensures
    c.in_ok-replace.ensures.stored
