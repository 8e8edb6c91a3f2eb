-- The command `schema`: a schema of the language is drawn from a dump, and what is promised of the bytes written.
use Rattle.std.specs.Prelude.{◌≡◌, ℕ, List, codes}
use Rattle.std.specs.Io.KnownBytes.{Appends}
use Rattle.qbs_base.specs.declared.status.Status.{Status}
use Rattle.dump_text.specs.Entries.{tables_of}
use Rattle.dump_text.specs.Text.{text_of}
use Rattle.dump_schema.specs.Entries.{declared_in, drawn_from}
use Rattle.dump_schema.specs.Report.{report_of}
use Rattle.words.specs.declared.command.Command.TheVariants as commands
use Rattle.words.specs.declared.command.Options.{Options}
use Rattle.words.specs.Plain.{HasWords}
use Rattle.deliveries.specs.declared.plan.Plan.{Plan}
use Rattle.deliveries.specs.Deliver.{Change}
use Rattle.deliveries.specs.Limits.{most_dump}
use Rattle.deliveries.specs.Plan.{Given}
use Rattle.deliveries.specs.Steps.{Ends, IsRead, reads}
use Rattle.plans.specs.Opening.{IsSchemaOf}

-- ---- What is written

-- The bytes written are the text of what is drawn from the dump, tables and comments, and a schema with exactly these tables. The report says
-- how many of the tables and columns that the dump declares these are.
pub record IsDrawing (o : Options) (dump out rep : List ℕ) : Type 0 where
  pub text : out ≡ text_of (drawn_from dump o.tables o.columns)
  pub is_schema : IsSchemaOf out (tables_of (drawn_from dump o.tables o.columns))
  pub report : rep ≡ report_of (tables_of (drawn_from dump o.tables o.columns)) (declared_in dump)

pub record Draws (o : Options) (dump : List ℕ) (plan : Plan) : Type 0 where
  pub is : IsDrawing o dump plan.out plan.rep
  pub status : plan.status ≡ Status.Ok

-- ---- The command

abbrev pub draw : Given → Options → List ℕ → Ends
draw files o dump = reads files dump most_dump (codes "dump") (λ bytes. Draws o bytes)

-- ---- What it is worth

-- the dump was read, and both sinks have grown by what is written
pub record IsDrawn (files : Given) (o : Options) (dump : List ℕ) (out rep : Change) : Type 0 where
  pub dump_read : List ℕ
  pub text : List ℕ
  pub lines : List ℕ
  pub read_dump : IsRead files dump most_dump dump_read
  pub is : IsDrawing o dump_read text lines
  pub wrote_text : Appends out.old out.new text
  pub wrote_lines : Appends rep.old rep.new lines

abbrev pub HasDrawn : Given → List (List ℕ) → Change → Change → Status → Type 0
HasDrawn files words out rep result =
    (o : Options) (dump : List ℕ) → HasWords words (commands.Schema o dump) → result ≡ Status.Ok → IsDrawn files o dump out rep
