use Rattle.std.proofs.Common.{◌≤◌, refl, arith, subst}
use Rattle.files_sinks.specs.contracts.files.MemFiles.{the_view}
use Rattle.files_sinks.specs.Held.{MemFilesView, MayFail}
use Rattle.files_sinks.proofs.Failing.{may_later, may_now}
use Rattle.files_sinks.proofs.files.MemFilesFiles.read_all.Goals as goal

pub returns-then-contains-clause-named : goal.returns-then-contains-clause-named
returns-then-contains-clause-named c e =
    subst (λ (v : MemFilesView). MayFail v c.args.name.now) c.self.view_is
    (may_now (the_view c.self.inside) c.args.name.now c.deref.result.now c.self.inside.calls c.deref.ensures.value (omega arith) c.if-contains.ensures.cases)

pub returns-then-contains-clause-fewer : goal.returns-then-contains-clause-fewer
returns-then-contains-clause-fewer c other h =
    subst (λ (v : MemFilesView). MayFail v other) c.self.view_is
    (may_later (the_view c.self.inside) (the_view (record { files = c.self.inside.files; failing = c.self.inside.failing; calls = c.saturating_add-self-inside.result; faults = c.saturating_add-self-inside-then-contains.result }))
    other refl refl (omega (arith, c.saturating_add-self-inside.ensures)) h)

pub returns-in-Some-clause-fewer : goal.returns-in-Some-clause-fewer
returns-in-Some-clause-fewer c other h =
    subst (λ (v : MemFilesView). MayFail v other) c.self.view_is
    (may_later (the_view c.self.inside) (the_view (record { files = c.self.inside.files; failing = c.self.inside.failing; calls = c.saturating_add-self-inside.result; faults = c.self.inside.faults }))
    other refl refl (omega (arith, c.saturating_add-self-inside.ensures)) h)

pub returns-in-None-clause-fewer : goal.returns-in-None-clause-fewer
returns-in-None-clause-fewer c other h =
    subst (λ (v : MemFilesView). MayFail v other) c.self.view_is
    (may_later (the_view c.self.inside) (the_view (record { files = c.self.inside.files; failing = c.self.inside.failing; calls = c.saturating_add-self-inside.result; faults = c.saturating_add-self-inside-in-None.result }))
    other refl refl (omega (arith, c.saturating_add-self-inside.ensures)) h)
