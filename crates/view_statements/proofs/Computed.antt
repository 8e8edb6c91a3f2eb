-- The worked statements, computed.
use Rattle.std.proofs.Common.{refl}
use Rattle.view_items.specs.Opened.{closing}
use Rattle.view_items.specs.Pieces.{number_len, piece_of}
use Rattle.view_items.specs.Items.{items_from, items_of}
use Rattle.view_shapes.specs.Mentions.{numbers}
use Rattle.view_shapes.specs.Uses.{is_keyword_name}
use Rattle.view_shapes.specs.Prefixes.{prefix_end}
use Rattle.view_statements.specs.Worked.{WorkedSkips, WorkedExtremes, WorkedDifferences, WorkedElse, WorkedEmpty, WorkedSets, WorkedLists, WorkedCasts, WorkedOrders}

pub skips : WorkedSkips
unfolding closing number_len piece_of items_from items_of numbers is_keyword_name prefix_end
skips = record { without_else = refl; its_tokens = refl; negated = refl; negated_tokens = refl }

pub extremes : WorkedExtremes
unfolding closing number_len piece_of items_from items_of numbers is_keyword_name prefix_end
extremes = record { compared = refl; its_tokens = refl }

pub differences : WorkedDifferences
unfolding closing number_len piece_of items_from items_of numbers is_keyword_name prefix_end
differences = record { whole = refl; its_tokens = refl }

pub nearest : WorkedElse
unfolding closing number_len piece_of items_from items_of numbers is_keyword_name prefix_end
nearest = record { inner = refl; its_tokens = refl; outer = refl }

pub empty : WorkedEmpty
unfolding closing number_len piece_of items_from items_of numbers is_keyword_name prefix_end
empty = record { branch = refl; its_tokens = refl; walk = refl; behind = refl }

pub sets : WorkedSets
unfolding closing number_len piece_of items_from items_of numbers is_keyword_name prefix_end
sets = record { hashed = refl; linked = refl }

pub lists : WorkedLists
unfolding closing number_len piece_of items_from items_of numbers is_keyword_name prefix_end
lists = record { from_outside = refl; set_first = refl }

pub casts : WorkedCasts
unfolding closing number_len piece_of items_from items_of numbers is_keyword_name prefix_end
casts = record { as_int = refl; as_long = refl; to_int = refl; to_long = refl }

pub orders : WorkedOrders
unfolding closing number_len piece_of items_from items_of numbers is_keyword_name prefix_end
orders = record { turned = refl; its_tokens = refl; once_less = refl }
