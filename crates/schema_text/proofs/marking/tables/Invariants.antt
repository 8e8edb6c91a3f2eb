use Rattle.std.proofs.Common.{◌≡◌, ◌++◌, drop, map}
use Rattle.schema.specs.Marks.{table_of}
use Rattle.schema_text.proofs.marking.tables.Given as goal

-- the tables so far and those of the drafts that are left are all tables
abbrev pub invariant-loop-draft : goal.invariant-loop-draft
invariant-loop-draft l = l.tables ++ map table_of (drop l.draft-index l.drafts) ≡ map table_of l.drafts
