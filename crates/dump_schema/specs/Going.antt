-- How far the walks over a dump have come: what is done, and what is behind comes to.
use Rattle.std.specs.Prelude.{ℕ, List, [], ◌∷◌, ◌++◌}
use Rattle.std.specs.declared.option.Option.{Option}
use Rattle.dump_tables.specs.declared.table.DumpColumn.{DumpColumn}
use Rattle.dump_tables.specs.declared.table.DumpTable.{DumpTable}
use Rattle.dump_text.specs.declared.entry.Part.{Part}
use Rattle.dump_text.specs.declared.entry.Entry.{Entry}
use Rattle.dump_schema.specs.declared.choice.Cutting.{Cutting}
use Rattle.dump_schema.specs.declared.choice.Choice.{Choice}
use Rattle.dump_schema.specs.declared.columns.Lines.{Lines}
use Rattle.dump_schema.specs.declared.tables.Drawing.{Drawing}
use Rattle.dump_schema.specs.Choices.{pieces}
use Rattle.dump_schema.specs.Columns.{parts_from}
use Rattle.dump_schema.specs.Entries.{entries_from}

-- with bytes before the first piece
abbrev pub begun_with : List ℕ → List (List ℕ) → List (List ℕ)
begun_with front [] = front ∷ []
begun_with front (p ∷ ps) = (front ++ p) ∷ ps

-- all pieces, where these bytes are left
abbrev pub pieces_of_all : ℕ → Cutting → List ℕ → List (List ℕ)
pieces_of_all mark p bs = p.done ++ begun_with p.current (pieces mark bs)

-- all lines, where these columns are left
abbrev pub all_parts : Option (List (List ℕ)) → Lines → List DumpColumn → List Part
all_parts chosen l cs = l.parts ++ parts_from chosen l.taken cs

-- all entries, where these tables are left
abbrev pub all_entries : Choice → Drawing → List DumpTable → List Entry
all_entries choice d ts = d.entries ++ entries_from choice d.taken ts
