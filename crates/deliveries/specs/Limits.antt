-- The most bytes of files, by what they are.
use Rattle.std.specs.Prelude.{ℕ}

-- 256 KiB
abbrev pub most_schema : ℕ
most_schema = 262144

-- 256 KiB
abbrev pub most_map : ℕ
most_map = 262144

-- 1 MiB
abbrev pub most_source : ℕ
most_source = 1048576

-- 16 MiB
abbrev pub most_bundle : ℕ
most_bundle = 16777216

-- all tables together, 32 MiB
abbrev pub most_tables : ℕ
most_tables = 33554432

-- 16 MiB
abbrev pub most_store : ℕ
most_store = 16777216

-- 16 MiB
abbrev pub most_dump : ℕ
most_dump = 16777216

-- all files of entities together, 32 MiB
abbrev pub most_entities : ℕ
most_entities = 33554432
