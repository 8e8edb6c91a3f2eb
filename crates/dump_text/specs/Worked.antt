-- A schema with comments, and its text.
use Rattle.std.specs.Prelude.{ℕ, true, false, List, [], ◌∷◌, codes}
use Rattle.qbs_base.specs.declared.scalar.Ty.TheVariants as ty
use Rattle.dump_text.specs.declared.entry.Part.{Part}
use Rattle.dump_text.specs.declared.entry.Part.TheVariants as parts
use Rattle.dump_text.specs.declared.entry.Entry.{Entry}
use Rattle.dump_text.specs.declared.entry.Entry.TheVariants as entries

abbrev pub worked_parts : List Part
worked_parts =
    parts.Comment (codes "keys") ∷ parts.Column (record { column = record { name = codes "id"; ty = ty.Long; not_null = true; primary = true }; note = [] })
    ∷ parts.Comment (codes "made timestamp: left out\n, x") ∷ parts.Column (record { column = record { name = codes "done"; ty = ty.Bool; not_null = false; primary = false }; note = codes "may hold\nNULL" }) ∷ []

-- line feeds stand in comments
abbrev pub worked_entries : List Entry
worked_entries = entries.Comment (codes "of a dump\n);") ∷ entries.Table (record { name = codes "job"; parts = worked_parts }) ∷ []

abbrev pub worked_text : List ℕ
worked_text =
    codes "-- of a dump );\n\nCREATE TABLE job (\n    -- keys\n    id BIGINT NOT NULL PRIMARY KEY,\n    -- made timestamp: left out , x\n    done BOOLEAN -- may hold NULL\n);\n"
