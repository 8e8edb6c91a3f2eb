use Rattle.std.proofs.Common.{ap, sym, ◌∙◌, Option, List, [], ℕ}
use Rattle.std.specs.Prelude.{unwrap_or}
use Rattle.csv.specs.Reading.{strip_bom}
use Rattle.csv.specs.declared.parser.State.{State}
use Rattle.csv.specs.declared.parser.State.TheVariants as st
use Rattle.schema.specs.Csv.{records_left, source}
use Rattle.schema_text.proofs.Recorded.{records_all}
use Rattle.schema_text.proofs.records.open_records.Goals as goal

pub returns-clause-records : goal.returns-clause-records
returns-clause-records c =
    let e = c.from_reader.ensures in
    ap (λ (s : State). records_left s (unwrap_or (source c.from_reader.result) [])) e.state
    ∙ ap (λ (o : Option (List ℕ)). records_left st.StartRecord (unwrap_or o [])) e.source
    ∙ sym (records_all (strip_bom c.args.bytes.now))
