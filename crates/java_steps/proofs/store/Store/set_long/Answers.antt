use Rattle.std.proofs.Common.{◌≡◌, ◌∙◌, sym, ap, None}
use Rattle.qbs_base.specs.Named.{at_name}
use Rattle.java_mean.specs.Store as meant
use Rattle.java_steps.specs.Held.{seen}
use Rattle.java_steps.proofs.Placing.{found_at}
use Rattle.java_steps.proofs.Stored.{none_seen}
use Rattle.java_steps.proofs.store.Store.set_long.Goals as goal

pub returns-in-Some-clause-none : goal.returns-in-Some-clause-none
returns-in-Some-clause-none c f =
    absurd (c.put_held-in-Some.ensures.away f (found_at c.put_held.new.variables.entries c.as_slice-name.result.now c.in-Some.place (sym c.in-Some.ensures.index)))

pub returns-in-None-clause-none : goal.returns-in-None-clause-none
returns-in-None-clause-none c u =
    let none : at_name (seen c.put_held.new.variables.entries) c.as_slice-name.result.now ≡ None = none_seen c.put_held.new.variables.entries c.as_slice-name.result.now c.in-None.ensures.found in
    ap (λ (s : meant.Store). at_name s c.args.name.now) (sym c.self.view_is)
    ∙ ap (at_name (seen c.self.inside.variables.entries)) (sym c.as_slice-name.ensures)
    ∙ ap (λ m. at_name (seen m.entries) c.as_slice-name.result.now) (sym (c.put_held.ensures.kept c.if-put_held.false))
    ∙ none
