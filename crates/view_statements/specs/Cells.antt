-- The tokens that are seen of statements.
use Rattle.std.specs.Prelude.{ℕ, ◌+◌, ◌-◌, Bool, true, false, ◌&&◌, ◌||◌, ◌==◌, not, nat_lt, List, [], ◌∷◌, ◌++◌, codes, Option, Some, None, slice_get, if◌then◌else◌}
use Rattle.view_items.specs.declared.cell.Cell.{Cell}
use Rattle.view_map.specs.declared.model.Member.{Member}
use Rattle.view_rules.specs.declared.java_type.JavaType.{JavaType}
use Rattle.view_rules.specs.declared.sight.Sighted.{Sighted}
use Rattle.view_rules.specs.Cells.{made, all_made, made_of, item_cells, type_cells, expression_cells, wrapped}
use Rattle.view_rules.specs.Levels.{level_of}
use Rattle.view_rules.specs.Names.{column_name}
use Rattle.view_rules.specs.Setting.{Within}
use Rattle.view_rules.specs.Spelled.{bytes_at}
use Rattle.view_rules.specs.Tree.{PlainExpression}
use Rattle.view_rules.specs.Tree as exprs
use Rattle.view_statements.specs.declared.statement.Step.{Step}
use Rattle.view_statements.specs.declared.statement.Step.TheVariants as counts
use Rattle.view_statements.specs.declared.statement.SortKey.{SortKey}
use Rattle.view_statements.specs.declared.statement.SortPart.{SortPart}
use Rattle.view_statements.specs.declared.statement.SortPart.TheVariants as order
use Rattle.view_statements.specs.Tree.{PlainStatement, PlainStatements, Nothing, Then}
use Rattle.view_statements.specs.Tree as plain

-- tokens in braces, which come from the item before and from the last one
abbrev pub in_braces : Within → ℕ → ℕ → List Cell → List Cell
in_braces w before end cells = made w before (codes "{") ++ (cells ++ made w end (codes "}"))

-- `x op e ;`, where the name of x stands at one number and its token comes from another
abbrev pub set_cells : Within → ℕ → ℕ → List ℕ → List Cell → ℕ → List Cell
set_cells w from name sign value end = made w from (bytes_at w name) ++ (made w name sign ++ (value ++ made w end (codes ";")))

-- `T x = e ;`
abbrev pub declared_cells : Within → ℕ → ℕ → JavaType → List Cell → ℕ → List Cell
declared_cells w at name java value end = type_cells w at java ++ set_cells w name name (codes "=") value end

-- `x = x op`
abbrev pub changed_front : Within → ℕ → ℕ → List ℕ → List Cell
changed_front w from name sign =
    made w from (bytes_at w name) ++ (made w name (codes "=") ++ (item_cells w name ++ made w name sign))

-- `x = x - ( e ) ;`
abbrev pub lessened_cells : Within → ℕ → List Cell → ℕ → List Cell
lessened_cells w name value end =
    changed_front w name name (codes "-") ++ (made w name (codes "(") ++ (value ++ (made w end (codes ")") ++ made w end (codes ";"))))

-- `x = x op 1 ;`
abbrev pub one_more_cells : Within → ℕ → ℕ → List ℕ → ℕ → List Cell
one_more_cells w from name sign end = changed_front w from name sign ++ (made w name (codes "1") ++ made w end (codes ";"))

-- `x++ ;`, or else `x = x + 1 ;` and `x = x - 1 ;`
abbrev pub stepped_cells : Within → ℕ → Step → ℕ → ℕ → ℕ → List Cell
stepped_cells w at counts.Up name sign end = item_cells w name ++ (made w sign (codes "++") ++ made w end (codes ";"))
stepped_cells w at counts.UpFirst name sign end = one_more_cells w at name (codes "+") end
stepped_cells w at counts.Down name sign end = one_more_cells w at name (codes "-") end
stepped_cells w at counts.DownFirst name sign end = one_more_cells w at name (codes "-") end

-- `xs . add ( e ) ;`
abbrev pub added_cells : Within → ℕ → List Cell → ℕ → ℕ → List Cell
added_cells w name value close end =
    item_cells w name ++ (all_made w name (codes "." ∷ codes "add" ∷ codes "(" ∷ []) ++ (value ++ (made w close (codes ")") ++ made w end (codes ";"))))

abbrev pub extreme_sign : Bool → List ℕ
extreme_sign true = codes ">"
extreme_sign false = codes "<"

-- `if ( e > x ) { x = e ; }`
abbrev pub extreme_cells : Within → ℕ → Bool → PlainExpression → ℕ → List Cell
extreme_cells w name greatest value end =
    all_made w name (codes "if" ∷ codes "(" ∷ [])
    ++ (wrapped w 5 (level_of value) name name (expression_cells w value)
    ++ (made w name (extreme_sign greatest) ++ (item_cells w name
    ++ (made w name (codes ")") ++ in_braces w name end (set_cells w name name (codes "=") (expression_cells w value) end)))))

-- `x -> x . f` of a key in its call
abbrev pub key_cells : Within → List ℕ → SortKey → List Cell
key_cells w call key =
    all_made w key.at (call ∷ codes "(" ∷ codes "x" ∷ codes "->" ∷ codes "x" ∷ codes "." ∷ [])
    ++ (made_of w key.at (column_name w key.class key.member) ++ made w key.at (codes ")"))

-- a key that is compared by where those before it are the same
abbrev pub further_key : Within → SortKey → List Cell
further_key w key = made w key.at (codes ".") ++ key_cells w (codes "thenComparing") key

-- both languages turn all that stands before it
abbrev pub reversed_words : List (List ℕ)
reversed_words = codes "." ∷ codes "reversed" ∷ codes "(" ∷ codes ")" ∷ []

abbrev pub further_part : Within → SortPart → List Cell
further_part w (order.Key key) = further_key w key
further_part w (order.Reversed at) = all_made w at reversed_words

abbrev pub further_cells : Within → List SortPart → List Cell
further_cells w [] = []
further_cells w (part ∷ parts) = further_part w part ++ further_cells w parts

abbrev pub first_key : Within → SortKey → List Cell
first_key w key = all_made w key.at (codes "Comparator" ∷ codes "." ∷ []) ++ key_cells w (codes "comparing") key

-- a comparator begins with a key
abbrev pub first_part : Within → SortPart → List Cell
first_part w (order.Key key) = first_key w key
first_part w (order.Reversed at) = []

abbrev pub comparator_cells : Within → List SortPart → List Cell
comparator_cells w [] = []
comparator_cells w (part ∷ parts) = first_part w part ++ further_cells w parts

-- `xs . sort ( C ) ;`
abbrev pub sort_cells : Within → ℕ → ℕ → List SortPart → ℕ → List Cell
sort_cells w at name parts end =
    made w at (bytes_at w name) ++ (all_made w at (codes "." ∷ codes "sort" ∷ codes "(" ∷ []) ++ (comparator_cells w parts ++ all_made w end (codes ")" ∷ codes ";" ∷ [])))

-- `if ( c )` and the like
abbrev pub head_cells : Within → ℕ → List ℕ → List Cell → ℕ → List Cell
head_cells w at word condition close = made w at word ++ (made w at (codes "(") ++ (condition ++ made w close (codes ")")))

-- `for ( T x : e )`
abbrev pub each_front : Within → ℕ → ℕ → JavaType → List Cell
each_front w at name java =
    all_made w at (codes "for" ∷ codes "(" ∷ []) ++ (type_cells w name java ++ (item_cells w name ++ made w name (codes ":")))

abbrev pub each_cells : Within → ℕ → ℕ → JavaType → List Cell → ℕ → List Cell
each_cells w at name java walked close = each_front w at name java ++ (walked ++ made w close (codes ")"))

abbrev pub if_word : List ℕ
if_word = codes "if"

-- what is skipped is asked for the other way round: `! ( c )`, or d where c is `!d`
abbrev pub other_way_cells : Within → ℕ → ℕ → PlainExpression → List Cell
other_way_cells w at close (exprs.Not n e) = expression_cells w e
other_way_cells w at close e = all_made w at (codes "!" ∷ codes "(" ∷ []) ++ (expression_cells w e ++ made w close (codes ")"))

-- `found = l ;` in place of `return l ;`
abbrev pub found_cells : Within → List ℕ → ℕ → ℕ → ℕ → List Cell
found_cells w found at literal end = made w at found ++ (made w at (codes "=") ++ (item_cells w literal ++ made w end (codes ";")))

abbrev mutual
  -- The tokens of a statement, where the variable of a group has this name. The first one comes from the statement's first item, the last one from its last
  -- item, and those that are no items of the file from items beside which they stand.
  pub statement_cells : Within → List ℕ → PlainStatement → List Cell
  statement_cells w found (plain.Declaration at name java value end) = declared_cells w at name java (expression_cells w value) end
  statement_cells w found (plain.Inferred at name java value end) = declared_cells w at name java (expression_cells w value) end
  statement_cells w found (plain.FirstSet name java value end) = declared_cells w name name java (expression_cells w value) end
  statement_cells w found (plain.Assignment name value end) = set_cells w name name (codes "=") (expression_cells w value) end
  statement_cells w found (plain.Added name value end) = set_cells w name name (codes "+=") (expression_cells w value) end
  statement_cells w found (plain.Lessened name value end) = lessened_cells w name (expression_cells w value) end
  statement_cells w found (plain.Stepped at step name sign end) = stepped_cells w at step name sign end
  statement_cells w found (plain.Extreme name greatest variable_first value end) = extreme_cells w name greatest value end
  statement_cells w found (plain.Add name value close end) = added_cells w name (expression_cells w value) close end
  statement_cells w found (plain.Sort at by_class list parts end) = sort_cells w at list parts end
  statement_cells w found (plain.If at condition close braces body end) =
      head_cells w at (codes "if") (expression_cells w condition) close ++ in_braces w close end (all_cells w found body)
  statement_cells w found (plain.IfElse at condition close braces body other_at other_braces other end) =
      head_cells w at (codes "if") (expression_cells w condition) close
      ++ (in_braces w close other_at (all_cells w found body) ++ (made w other_at (codes "else") ++ in_braces w other_at end (all_cells w found other)))
  statement_cells w found (plain.ForEach at by_var name java walked close braces body end) =
      each_cells w at name java (expression_cells w walked) close ++ in_braces w close end (all_cells w found body)
  statement_cells w found (plain.ForIndex at list first name java body close end) =
      each_cells w at name java (item_cells w list) name ++ in_braces w name end (all_cells w found body)
  statement_cells w found (plain.ForIterator at list name java body close end) =
      each_cells w at name java (item_cells w list) name ++ in_braces w name end (all_cells w found body)
  -- the local name of a column leaves nothing: where it stands, the column does
  statement_cells w found (plain.Named at name java value end) = []
  statement_cells w found (plain.While at condition close braces body end) =
      head_cells w at (codes "while") (expression_cells w condition) close ++ in_braces w close end (all_cells w found body)
  statement_cells w found (plain.Break at end) = item_cells w at ++ item_cells w end
  statement_cells w found (plain.Skip at condition close braces rest end) =
      head_cells w at if_word (other_way_cells w at close condition) close ++ in_braces w close end (all_cells w found rest)
  statement_cells w found (plain.Found at literal end) = found_cells w found at literal end

  pub all_cells : Within → List ℕ → PlainStatements → List Cell
  all_cells w found Nothing = []
  all_cells w found (Then st sts) = statement_cells w found st ++ all_cells w found sts
