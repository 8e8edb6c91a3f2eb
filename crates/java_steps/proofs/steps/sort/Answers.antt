use Rattle.std.proofs.Common.{◌∙◌, ap, sym, option_map, List}
use Rattle.qbs_base.specs.declared.scalar.Row.{Row}
use Rattle.qbs_base.specs.Values.{Schema}
use Rattle.qbs_base.specs.Sort.{stable_sort}
use Rattle.java_mean.specs.Statement.{in_order}
use Rattle.java_steps.specs.Held.{rows_in, variable_in}
use Rattle.java_steps.specs.Running.{state}
use Rattle.java_steps.proofs.Changed.{changed_is}
use Rattle.java_steps.proofs.steps.sort.Goals as goal

pub returns : goal.returns
returns c =
    changed_is (λ b rows. stable_sort (in_order c.args.source.now.queries.schema c.args.keys.now c.args.down.now) rows) (state c.args.m.now) c.args.name.now (variable_in c.in-Some.old) (rows_in c.in_ok-list_in.field-0) (rows_in c.in_ok-list_of.field-0) c.replace.new.self c.replace-2.new.self (variable_in c.nothing.result)
    (ap (option_map variable_in) (sym c.in-Some.is) ∙ c.in_ok-old.ensures.old)
    c.in_ok-list_in.ensures
    c.in_ok-old.ensures.stored
    (c.in_ok-list_of.ensures ∙ c.in_ok-ordered.ensures ∙ ap (λ (schema : Schema). stable_sort (in_order schema c.args.keys.now c.args.down.now) c.in_ok-taken.taken) c.schema.ensures ∙ ap (λ (rows : List Row). stable_sort (in_order c.args.source.now.queries.schema c.args.keys.now c.args.down.now) rows) c.in_ok-taken.ensures)
    c.in_ok-replace.ensures.stored
