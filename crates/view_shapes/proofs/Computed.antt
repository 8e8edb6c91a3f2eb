-- The worked class and statements, computed.
use Rattle.std.proofs.Common.{refl}
use Rattle.view_items.specs.Opened.{closing}
use Rattle.view_items.specs.Pieces.{number_len, piece_of}
use Rattle.view_items.specs.Items.{items_from, items_of}
use Rattle.view_items.specs.Brackets.{closed_from, closings_of, rounds_from, rounds_of}
use Rattle.view_shapes.specs.Found.{found_in}
use Rattle.view_shapes.specs.Members.{class_of, member_end_in, members_in}
use Rattle.view_shapes.specs.Statements.{modifiers_end, form_of, try_end, end_within}
use Rattle.view_shapes.specs.Blocks.{try_blocks, case_blocks, blocks_within, statements_in, blocks_under}
use Rattle.view_shapes.specs.Mentions.{numbers, is_set_within}
use Rattle.view_shapes.specs.Uses.{first_of_names, is_use}
use Rattle.view_shapes.specs.Worked.{WorkedClass, WorkedMembers, WorkedStatements, WorkedBlocks, WorkedNames, Worked}

class : WorkedClass
unfolding closing number_len piece_of items_from items_of closed_from closings_of found_in class_of member_end_in members_in modifiers_end form_of try_end end_within try_blocks case_blocks blocks_within statements_in blocks_under
class = record { members = refl; statements = refl; blocks = refl; inner_blocks = refl }

members : WorkedMembers
unfolding closing number_len piece_of items_from items_of closed_from closings_of found_in class_of member_end_in members_in
members = record { valued = refl; annotated = refl; generic = refl }

statements : WorkedStatements
unfolding closing number_len piece_of items_from items_of closed_from closings_of found_in modifiers_end form_of try_end end_within statements_in
statements = record { nearest_if = refl; chain = refl; lambda = refl; repeating = refl; trying = refl; label = refl; local = refl; switches = refl; sixty_four = refl; sixty_five = refl }

blocks : WorkedBlocks
unfolding closing number_len piece_of items_from items_of closed_from closings_of found_in modifiers_end form_of try_end end_within try_blocks case_blocks blocks_within statements_in blocks_under
blocks = record { bodies = refl; cases = refl; arrows = refl; clauses = refl; types = refl }

names : WorkedNames
unfolding closing number_len piece_of items_from items_of closed_from closings_of rounds_from rounds_of numbers is_set_within first_of_names is_use
names = record {
  second_declared = refl;
  in_comparison = refl;
  behind_arguments = refl;
  argument = refl;
  of_lambda = refl;
  of_for = refl;
  case = refl;
  label = refl;
  behind_dot = refl;
  in_parentheses = refl;
  counted = refl;
  compared = refl;
  of_another = refl;
}

pub worked : Worked
worked = record { class = class; members = members; statements = statements; blocks = blocks; names = names }
