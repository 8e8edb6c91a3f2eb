-- What a store may hold.
use Rattle.std.specs.Prelude.{ℕ, Bool, ◌&&◌}
use Rattle.std.specs.List.{list_all}
use Rattle.store_parts.specs.Limits.{is_small_table, are_written, are_small_lists}
use Rattle.small_dbs.specs.declared.small.SmallDb.{SmallDb}

-- how many items a store has at most
abbrev pub most_items : ℕ
most_items = 256

-- the item is within the limits of a store
abbrev pub is_within : SmallDb → Bool
is_within s = list_all is_small_table s.db && (are_written s.entry.values && are_small_lists s.entry.known)
