use Rattle.std.proofs.Common.{refl}
use Rattle.view_items.specs.Items.{items_of, items_from}
use Rattle.view_items.specs.Pieces.{piece_of, number_len}
use Rattle.view_items.specs.Opened.{closing}
use Rattle.schema.specs.Rows.{long_of}
use Rattle.view_map.specs.Maps.{map_of, map_of_draft, entries_at, entry_at, template_at}
use Rattle.view_map.specs.Tables.{table_at, head_at, table_name_at, table_judged, member_at, member_judged, next_member_at, members_at}
use Rattle.view_map.specs.Reading.{within_at, given_at, pair_at}
use Rattle.view_map.specs.Fetches.{fetch_at, class_judged, spelled}
use Rattle.view_map.specs.Patterns.{pattern_at, pattern_len, behind_outside}
use Rattle.view_map.specs.Constants.{constant_at, names_behind, next_name_at, number_type, literal_at, dotted}
use Rattle.view_map.specs.Templates.{default_template, are_closed, fits_front}
use Rattle.view_map.proofs.laws.worked_faults.Goals as goal

pub returns : goal.returns
unfolding items_of items_from piece_of number_len closing long_of map_of map_of_draft entries_at entry_at template_at table_at head_at table_name_at table_judged member_at member_judged next_member_at members_at within_at given_at pair_at fetch_at class_judged spelled pattern_at pattern_len behind_outside constant_at names_behind next_name_at number_type literal_at dotted default_template are_closed fits_front
returns c = record {
  keyword = refl;
  at_end = refl;
  no_braces = refl;
  open_comment = refl;
  no_type = refl;
  boxed_type = refl;
  texts_alone = refl;
  by_nothing = refl;
  open_bracket = refl;
  binds_loosely = refl;
  lambda = refl;
  no_table = refl;
  no_column = refl;
  no_class = refl;
  table_twice = refl;
  member_twice = refl;
  pattern_twice = refl;
  template_twice = refl;
  language_class = refl;
  java_class = refl;
  front_of_another = refl;
  same_without_arguments = refl;
  no_number = refl;
  long_for_int = refl;
  may_be_null = refl;
}
