-- How the splitting of a dump goes on: what is done, and what the items behind come to.
use Rattle.std.specs.Prelude.{Bool, true, List, [], ◌∷◌, ◌++◌, if◌then◌else◌}
use Rattle.dump_items.specs.declared.item.Item.{Item}
use Rattle.dump_items.specs.declared.nest.Nest.{Nest}
use Rattle.dump_items.specs.Statements.{is_heeded, heeded, statements_from}

-- with items before the first statement
abbrev pub behind : List Item → List (List Item) → List (List Item)
behind front [] = front ∷ []
behind front (s ∷ ss) = (front ++ s) ∷ ss

-- the statements in all, where these are done, and these items of the next one have come, and so much is open
unfoldable pub total : List (List Item) → List Item → Nest → List Item → List (List Item)
total done current nest items = done ++ heeded (behind current (statements_from nest items))

-- the first item, and the others where the statement isn't passed over
abbrev pub takes_more : List Item → Bool
takes_more [] = true
takes_more (i ∷ is) = is_heeded (i ∷ is)

-- with an item more, except that the first one is enough of a statement that is passed over
abbrev pub kept : List Item → Item → List Item
kept current i = if takes_more current then current ++ i ∷ [] else current
