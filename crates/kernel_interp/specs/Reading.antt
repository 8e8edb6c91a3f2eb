-- What the values of the interpreter stand for.
use Rattle.std.specs.Prelude.{if◌then◌else◌, ℕ, false, List, [], map, nat_eq, slice_get, get_or}
use Rattle.std.specs.Borrow.{Bor}
use Rattle.std.specs.declared.alloc.Global.{Global}
use Rattle.std.specs.declared.option.Option.{Option}
use Rattle.std.specs.declared.option.Option.TheVariants.{Some, None}
use Rattle.std.specs.declared.vec.Vec.{Vec}
use Rattle.qbs_base.specs.declared.scalar.Row.{Row}
use Rattle.tor_terms.specs.Plain.{Form}
use Rattle.tor_terms.specs.Truth.{World}
use Rattle.tor_terms.specs.Value.{plain_row}
use Rattle.kernel_lang.specs.Given.{world_over}
use Rattle.kernel_lang.specs.Plain.{Fragment}
use Rattle.kernel_lang.specs.Running.{with_flags}
use Rattle.kernel_lang.specs.Whole.{fragment_of}
use Rattle.kernel_interp.specs.declared.place.Place as places
use Rattle.kernel_interp.specs.declared.place.Place.{Place}
use Rattle.kernel_interp.specs.declared.setting.Setting.{Setting}

abbrev pub rows_seen : List (Bor Row) → List Row
rows_seen rows = map (λ (r : Bor Row). r.now) rows

abbrev pub lists_seen : List (Vec (Bor Row) Global) → List (List Row)
lists_seen lists = map (λ (v : Vec (Bor Row) Global). rows_seen v.items) lists

-- the rows of all loops at a place
abbrev pub rows_in : Place → ℕ → Row
rows_in (places.Outside row) k = row.now
rows_in (places.In' over row p outer) k = if nat_eq over k then row.now else rows_in outer k

abbrev pub list_or_none : Option (List Row) → List Row
list_or_none None = []
list_or_none (Some rows) = rows

abbrev pub plain_of : Setting → Fragment
plain_of s = fragment_of s.frag.now

-- the world in which a fragment begins
abbrev pub world_of : Setting → World
world_of s = world_over (λ j. list_or_none (slice_get (lists_seen s.lists.now) j)) s.given.now

-- the world in which guards are read
abbrev pub flagged : Setting → World
flagged s = with_flags (plain_of s) (world_of s)

-- the guard of a level
abbrev pub guard_or_none : Option (Option Form) → Option Form
guard_or_none None = None
guard_or_none (Some g) = g

abbrev pub guard_at : List (Option Form) → ℕ → Option Form
guard_at guards level = guard_or_none (slice_get guards level)
