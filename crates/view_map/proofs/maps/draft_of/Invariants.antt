use Rattle.std.proofs.Common.{◌≡◌, ◌-◌, length, map}
use Rattle.view_map.specs.Constants.{constant_key}
use Rattle.view_map.specs.Fetches.{pattern_key}
use Rattle.view_map.specs.Maps.{entries_at, no_draft}
use Rattle.view_map.proofs.maps.draft_of.Given as goal

abbrev pub invariant-loop : goal.invariant-loop
invariant-loop l = record {
  so_far : entries_at l.schema (length l.items - l.counter) l.draft l.fn.end l.rest ≡ entries_at l.schema (length l.items) no_draft l.fn.end l.items;
  patterns : l.patterns ≡ map pattern_key l.draft.fetches;
  constants : l.constants ≡ map constant_key l.draft.constants;
}
