use Rattle.std.proofs.Common.{ℕ, List, subst}
use Rattle.std.proofs.lemmas.Result.{err_from_is_err_and}
use Rattle.deliveries.specs.Plan.{given}
use Rattle.deliveries.specs.Reads.{looks, OnlyReads}
use Rattle.qbs.proofs.Mapping.{is_drawn, isnt_drawn}
use Rattle.qbs.proofs.map.plan_map.Goals as goal

pub returns-in_err-fetch_named-clause-due : goal.returns-in_err-fetch_named-clause-due
returns-in_err-fetch_named-clause-due g c =
    let p = err_from_is_err_and c.from_residual.result c.from_residual.ensures.1 in
    rw (p.1, p.2)
    (isnt_drawn (Unit {0}) (given g.F.Files.told g.F.Files.faults g.F.Files.may_fail c.args.files.now c.fetch_named.new.files) c.args.entities.now c.as_slice.result.now c.new-texts.result c.fetch_named.new.texts c.in_err-fetch_named.field-0.0
    c.as_slice.ensures c.in_err-fetch_named.ensures.read)

pub returns-clause-due : goal.returns-clause-due
returns-clause-due g c =
    is_drawn (Unit {0}) (given g.F.Files.told g.F.Files.faults g.F.Files.may_fail c.args.files.now c.fetch_named.new.files) c.args.entities.now c.as_slice.result.now c.new-texts.result c.fetch_named.new.texts tt c.text_plan.result
    c.as_slice.ensures c.in_ok-fetch_named.ensures.read c.text_plan.ensures

pub returns-in_err-fetch_named-clause-reads : goal.returns-in_err-fetch_named-clause-reads
returns-in_err-fetch_named-clause-reads g c =
    subst (λ (names : List (List ℕ)). OnlyReads (looks g.F.Files.told g.F.Files.faults g.F.Files.may_fail g.F.Files.by_read) names c.args.files.now c.fetch_named.new.files) c.as_slice.ensures c.fetch_named.ensures.only

pub returns-in_err-text-clause-reads : goal.returns-in_err-text-clause-reads
returns-in_err-text-clause-reads g c =
    subst (λ (names : List (List ℕ)). OnlyReads (looks g.F.Files.told g.F.Files.faults g.F.Files.may_fail g.F.Files.by_read) names c.args.files.now c.fetch_named.new.files) c.as_slice.ensures c.fetch_named.ensures.only

pub returns-clause-reads : goal.returns-clause-reads
returns-clause-reads g c =
    subst (λ (names : List (List ℕ)). OnlyReads (looks g.F.Files.told g.F.Files.faults g.F.Files.may_fail g.F.Files.by_read) names c.args.files.now c.fetch_named.new.files) c.as_slice.ensures c.fetch_named.ensures.only
