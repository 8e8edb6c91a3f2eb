-- The worked files, computed.
use Rattle.std.proofs.Common.{refl}
use Rattle.view_items.specs.Opened.{closing}
use Rattle.view_items.specs.Pieces.{number_len, piece_of}
use Rattle.view_items.specs.Items.{items_from, items_of}
use Rattle.view_items.specs.Plain.{has_escape}
use Rattle.view_items.specs.Brackets.{closed_from, closings_of, rounds_from, rounds_of}
use Rattle.view_items.specs.Worked.{WorkedBlocks, WorkedSigns, WorkedOpen, WorkedEscapes, WorkedBrackets, Worked}

blocks : WorkedBlocks
unfolding closing number_len piece_of items_from items_of
blocks = record { two_backslashes = refl; one_backslash = refl; open_block = refl }

signs : WorkedSigns
unfolding closing number_len piece_of items_from items_of
signs = record { arguments = refl; shifts = refl; hexadecimal = refl; decimal = refl; binary_exponent = refl }

opened : WorkedOpen
unfolding closing number_len piece_of items_from items_of
opened = record { quote = refl; escaped_quote = refl; comment = refl; comments = refl }

escapes : WorkedEscapes
unfolding has_escape
escapes = record { in_comment = refl; after_two = refl; after_three = refl; expression = refl }

brackets : WorkedBrackets
unfolding closing number_len piece_of items_from items_of closed_from closings_of rounds_from rounds_of
brackets = record { matched = refl; crossed = refl; unclosed = refl; rounds = refl }

pub worked : Worked
worked = record { blocks = blocks; signs = signs; opened = opened; escapes = escapes; brackets = brackets }
