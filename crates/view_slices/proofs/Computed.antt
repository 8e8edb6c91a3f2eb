-- The worked views, computed.
use lib.Utf8.{encode}
use Rattle.std.proofs.Common.{refl}
use Rattle.std.specs.Fmt.{digits}
use Rattle.std.specs.Str.{is_utf8, chars}
use Rattle.view_items.specs.Brackets.{closed_from, closings_of, rounds_from, rounds_of, is_shallow_at}
use Rattle.view_items.specs.Items.{items_from, items_of}
use Rattle.view_items.specs.Opened.{closing}
use Rattle.view_items.specs.Pieces.{number_len, piece_of}
use Rattle.view_items.specs.Plain.{has_escape, is_plain}
use Rattle.view_shapes.specs.Blocks.{try_blocks, case_blocks, blocks_within, statements_in, blocks_under}
use Rattle.view_shapes.specs.Found.{found_in}
use Rattle.view_shapes.specs.Members.{class_of, member_end_in, members_in}
use Rattle.view_shapes.specs.Mentions.{numbers, is_set_within}
use Rattle.view_shapes.specs.Prefixes.{dotted_end, prefix_end}
use Rattle.view_shapes.specs.Statements.{modifiers_end, form_of, try_end, end_within}
use Rattle.view_shapes.specs.Uses.{is_keyword_name, first_of_names, is_use}
use Rattle.view_map.specs.Templates.{are_closed}
use Rattle.view_scope.specs.Constants.{field_prefix_end}
use Rattle.view_scope.specs.JavaTypes.{arguments_end, type_rest}
use Rattle.view_scope.specs.Methods.{method_prefix_end, parameters_from, exceptions_end, outline_of}
use Rattle.view_scope.specs.Nulls.{operand_from, operand_to, out_of_parentheses, argument_to, bare, gives_null, set_among}
use Rattle.view_scope.specs.Obscured.{is_java_class, hides_name, last_of_names, hides_last, is_in_import, is_typed}
use Rattle.view_scope.specs.Patterns.{is_loose, front_in}
use Rattle.view_slices.specs.Kept.{is_front}
use Rattle.view_slices.specs.Slices.{once}
use Rattle.view_slices.specs.Worked.{WorkedLoops, WorkedColumns, WorkedGroups, WorkedParameters, WorkedWidths, WorkedConstants, WorkedNested, WorkedHeads, WorkedRows, WorkedSearches, WorkedBounds}

pub loops : WorkedLoops
unfolding closed_from closings_of rounds_from rounds_of is_shallow_at items_from items_of closing number_len piece_of has_escape is_plain try_blocks case_blocks blocks_within statements_in blocks_under found_in class_of member_end_in members_in numbers is_set_within modifiers_end form_of try_end end_within is_keyword_name first_of_names is_use is_typed field_prefix_end arguments_end type_rest dotted_end prefix_end method_prefix_end parameters_from exceptions_end outline_of operand_from operand_to out_of_parentheses argument_to bare gives_null set_among is_front are_closed is_java_class hides_name last_of_names hides_last is_in_import is_loose front_in once encode is_utf8 chars digits
loops = record { with_print = refl; without_print = refl; its_tokens = refl }

pub columns : WorkedColumns
unfolding closed_from closings_of rounds_from rounds_of is_shallow_at items_from items_of closing number_len piece_of has_escape is_plain try_blocks case_blocks blocks_within statements_in blocks_under found_in class_of member_end_in members_in numbers is_set_within modifiers_end form_of try_end end_within is_keyword_name first_of_names is_use is_typed field_prefix_end arguments_end type_rest dotted_end prefix_end method_prefix_end parameters_from exceptions_end outline_of operand_from operand_to out_of_parentheses argument_to bare gives_null set_among is_front are_closed is_java_class hides_name last_of_names hides_last is_in_import is_loose front_in once encode is_utf8 chars digits
columns = record { columns = refl; their_tokens = refl }

pub groups : WorkedGroups
unfolding closed_from closings_of rounds_from rounds_of is_shallow_at items_from items_of closing number_len piece_of has_escape is_plain try_blocks case_blocks blocks_within statements_in blocks_under found_in class_of member_end_in members_in numbers is_set_within modifiers_end form_of try_end end_within is_keyword_name first_of_names is_use is_typed field_prefix_end arguments_end type_rest dotted_end prefix_end method_prefix_end parameters_from exceptions_end outline_of operand_from operand_to out_of_parentheses argument_to bare gives_null set_among is_front are_closed is_java_class hides_name last_of_names hides_last is_in_import is_loose front_in once encode is_utf8 chars digits
groups = record { before = refl; behind = refl; again = refl; without_return = refl; tokens_before = refl; tokens_behind = refl }

pub parameters : WorkedParameters
unfolding closed_from closings_of rounds_from rounds_of is_shallow_at items_from items_of closing number_len piece_of has_escape is_plain try_blocks case_blocks blocks_within statements_in blocks_under found_in class_of member_end_in members_in numbers is_set_within modifiers_end form_of try_end end_within is_keyword_name first_of_names is_use is_typed field_prefix_end arguments_end type_rest dotted_end prefix_end method_prefix_end parameters_from exceptions_end outline_of operand_from operand_to out_of_parentheses argument_to bare gives_null set_among is_front are_closed is_java_class hides_name last_of_names hides_last is_in_import is_loose front_in once encode is_utf8 chars digits
parameters = record { named = refl; unnamed = refl }

pub widths : WorkedWidths
unfolding closed_from closings_of rounds_from rounds_of is_shallow_at items_from items_of closing number_len piece_of has_escape is_plain try_blocks case_blocks blocks_within statements_in blocks_under found_in class_of member_end_in members_in numbers is_set_within modifiers_end form_of try_end end_within is_keyword_name first_of_names is_use is_typed field_prefix_end arguments_end type_rest dotted_end prefix_end method_prefix_end parameters_from exceptions_end outline_of operand_from operand_to out_of_parentheses argument_to bare gives_null set_among is_front are_closed is_java_class hides_name last_of_names hides_last is_in_import is_loose front_in once encode is_utf8 chars digits
widths =
    record {
      itself = refl;
      seen_with_other = refl;
      other_literal = refl;
      named_itself = refl;
      seen_with_name = refl;
      same_tokens = refl;
      other_name = refl;
    }

pub constants : WorkedConstants
unfolding closed_from closings_of rounds_from rounds_of is_shallow_at items_from items_of closing number_len piece_of has_escape is_plain try_blocks case_blocks blocks_within statements_in blocks_under found_in class_of member_end_in members_in numbers is_set_within modifiers_end form_of try_end end_within is_keyword_name first_of_names is_use is_typed field_prefix_end arguments_end type_rest dotted_end prefix_end method_prefix_end parameters_from exceptions_end outline_of operand_from operand_to out_of_parentheses argument_to bare gives_null set_among is_front are_closed is_java_class hides_name last_of_names hides_last is_in_import is_loose front_in once encode is_utf8 chars digits
constants = record { seen = refl; seen_without = refl; same_tokens = refl; itself = refl; without = refl }

pub nested : WorkedNested
unfolding closed_from closings_of rounds_from rounds_of is_shallow_at items_from items_of closing number_len piece_of has_escape is_plain try_blocks case_blocks blocks_within statements_in blocks_under found_in class_of member_end_in members_in numbers is_set_within modifiers_end form_of try_end end_within is_keyword_name first_of_names is_use is_typed field_prefix_end arguments_end type_rest dotted_end prefix_end method_prefix_end parameters_from exceptions_end outline_of operand_from operand_to out_of_parentheses argument_to bare gives_null set_among is_front are_closed is_java_class hides_name last_of_names hides_last is_in_import is_loose front_in once encode is_utf8 chars digits
nested = record { before = refl; behind = refl; again = refl; without_query = refl }

pub heads : WorkedHeads
unfolding closed_from closings_of rounds_from rounds_of is_shallow_at items_from items_of closing number_len piece_of has_escape is_plain try_blocks case_blocks blocks_within statements_in blocks_under found_in class_of member_end_in members_in numbers is_set_within modifiers_end form_of try_end end_within is_keyword_name first_of_names is_use is_typed field_prefix_end arguments_end type_rest dotted_end prefix_end method_prefix_end parameters_from exceptions_end outline_of operand_from operand_to out_of_parentheses argument_to bare gives_null set_among is_front are_closed is_java_class hides_name last_of_names hides_last is_in_import is_loose front_in once encode is_utf8 chars digits
heads = record { seen = refl; itself = refl; seen_without = refl; without = refl }

pub rows : WorkedRows
unfolding closed_from closings_of rounds_from rounds_of is_shallow_at items_from items_of closing number_len piece_of has_escape is_plain try_blocks case_blocks blocks_within statements_in blocks_under found_in class_of member_end_in members_in numbers is_set_within modifiers_end form_of try_end end_within is_keyword_name first_of_names is_use is_typed field_prefix_end arguments_end type_rest dotted_end prefix_end method_prefix_end parameters_from exceptions_end outline_of operand_from operand_to out_of_parentheses argument_to bare gives_null set_among is_front are_closed is_java_class hides_name last_of_names hides_last is_in_import is_loose front_in once encode is_utf8 chars digits
rows = record { named = refl; unnamed = refl }

pub searches : WorkedSearches
unfolding closed_from closings_of rounds_from rounds_of is_shallow_at items_from items_of closing number_len piece_of has_escape is_plain try_blocks case_blocks blocks_within statements_in blocks_under found_in class_of member_end_in members_in numbers is_set_within modifiers_end form_of try_end end_within is_keyword_name first_of_names is_use is_typed field_prefix_end arguments_end type_rest dotted_end prefix_end method_prefix_end parameters_from exceptions_end outline_of operand_from operand_to out_of_parentheses argument_to bare gives_null set_among is_front are_closed is_java_class hides_name last_of_names hides_last is_in_import is_loose front_in once encode is_utf8 chars digits
searches = record { both = refl; kept = refl; again = refl; no_source = refl }

pub bounds : WorkedBounds
unfolding closed_from closings_of rounds_from rounds_of is_shallow_at items_from items_of closing number_len piece_of has_escape is_plain try_blocks case_blocks blocks_within statements_in blocks_under found_in class_of member_end_in members_in numbers is_set_within modifiers_end form_of try_end end_within is_keyword_name first_of_names is_use is_typed field_prefix_end arguments_end type_rest dotted_end prefix_end method_prefix_end parameters_from exceptions_end outline_of operand_from operand_to out_of_parentheses argument_to bare gives_null set_among is_front are_closed is_java_class hides_name last_of_names hides_last is_in_import is_loose front_in once encode is_utf8 chars digits
bounds = record { twice = refl; seen_twice = refl; long = refl; seen_long = refl; empty = refl; seen_empty = refl; handed = refl }
