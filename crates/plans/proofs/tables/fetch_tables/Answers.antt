use Rattle.std.proofs.Common.{ℕ, List, subst, ◌∙◌, codes}
use Rattle.deliveries.specs.Named.{ReadsFiles}
use Rattle.deliveries.specs.Plan.{given}
use Rattle.deliveries.specs.Reads.{looks, OnlyReads}
use Rattle.deliveries.proofs.Reading.{reads_none}
use Rattle.plans.specs.Tables.{table_files}
use Rattle.plans.proofs.tables.fetch_tables.Goals as goal

pub returns-in_err-names-clause-only : goal.returns-in_err-names-clause-only
returns-in_err-names-clause-only g c =
    reads_none (looks g.F.Files.told g.F.Files.faults g.F.Files.may_fail g.F.Files.by_read) (table_files c.args.folder.now c.args.tables.now) c.args.files.now

pub returns-clause-only : goal.returns-clause-only
returns-clause-only g c =
    subst (λ (names : List (List ℕ)). OnlyReads (looks g.F.Files.told g.F.Files.faults g.F.Files.may_fail g.F.Files.by_read) names c.args.files.now c.fetch_named.new.files)
    (c.as_slice.ensures ∙ c.in_ok-names.ensures) c.fetch_named.ensures.only

pub returns-clause-read : goal.returns-clause-read
returns-clause-read g c =
    subst (λ (names : List (List ℕ)). ReadsFiles (given g.F.Files.told g.F.Files.faults g.F.Files.may_fail c.args.files.now c.fetch_named.new.files) names c.args.left (codes "tables") c.args.texts.now c.fetch_named.new.texts c.fetch_named.result)
    (c.as_slice.ensures ∙ c.in_ok-names.ensures) c.fetch_named.ensures.read
