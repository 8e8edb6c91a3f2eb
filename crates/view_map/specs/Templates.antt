-- Templates of queries.
use Rattle.std.specs.Prelude.{ℕ, ◌+◌, ◌-◌, ◌==◌, ◌||◌, ◌&&◌, List, [], ◌∷◌, length, map, take, drop, count_by, Bool, true, false, not, codes, if◌then◌else◌}
use Rattle.std.specs.declared.option.Option.{Option}
use Rattle.std.specs.declared.option.Option.TheVariants.{Some, None}
use Rattle.std.specs.Str.{bytes_eq}
use Rattle.std.specs.List.{prefix_len, list_any}
use Rattle.view_items.specs.declared.item.Item.{Item}
use Rattle.view_items.specs.Items.{items_of}
use Rattle.view_map.specs.declared.model.QueryKind.{QueryKind}
use Rattle.view_map.specs.declared.model.QueryKind.TheVariants as queries
use Rattle.view_map.specs.declared.model.Part.{Part}
use Rattle.view_map.specs.declared.model.Part.TheVariants as parts
use Rattle.view_map.specs.declared.model.Template.{Template}
use Rattle.view_map.specs.Words.{is_spelled, is_name_kind}
use Rattle.view_map.specs.Patterns.{is_open, is_close, pattern_item}

-- ---- Holes

abbrev pub is_hole : Item → Bool
is_hole i = is_spelled (codes "$sql") i || is_spelled (codes "$type") i || is_spelled (codes "$i") i || is_spelled (codes "$arg") i

-- how many times an item stands among these
abbrev pub count : List ℕ → List Item → ℕ
count word is = count_by (is_spelled word) is

abbrev pub mentions : List ℕ → List Item → Bool
mentions word is = list_any (is_spelled word) is

-- an item that is no hole stands first
abbrev pub begins_with_item : List Item → Bool
begins_with_item [] = false
begins_with_item (i ∷ is) = not (is_hole i)

-- how many items stand before the first of these bytes
abbrev pub len_before : List ℕ → List Item → ℕ
len_before word is = prefix_len (λ i. not (is_spelled word i)) is

abbrev pub before : List ℕ → List Item → List Item
before word is = take (len_before word is) is

abbrev pub behind : List ℕ → List Item → List Item
behind word is = drop 1 (drop (len_before word is) is)

-- what stands in front of the braces, between them, and behind them
abbrev pub front_of : List Item → List Item
front_of is = before (codes "{") is

abbrev pub each_of : List Item → List Item
each_of is = before (codes "}") (behind (codes "{") is)

abbrev pub back_of : List Item → List Item
back_of is = behind (codes "}") (behind (codes "{") is)

-- brackets are closed among the items in which they are opened, where so many are open
unfoldable pub are_closed : ℕ → List Item → Bool
are_closed depth [] = depth == 0
are_closed depth (i ∷ is) =
    if is_open i then are_closed (depth + 1) is
    else (if is_close i then not (depth == 0) && are_closed (depth - 1) is else are_closed depth is)

-- how many times `$type` stands in a template
abbrev pub types_of : QueryKind → ℕ
types_of queries.List = 1
types_of _ = 0

-- one pair of braces
abbrev pub has_braces : List Item → Bool
has_braces is = (count (codes "{") is == 1) && (count (codes "}") is == 1) && mentions (codes "}") (behind (codes "{") is)

-- a hole stands so often in front of the braces and behind them
abbrev pub stands : List ℕ → ℕ → List Item → List Item → Bool
stands word times front back = count word front + count word back == times

abbrev pub is_nowhere : List ℕ → List Item → List Item → Bool
is_nowhere word front back = not (mentions word front) && not (mentions word back)

-- outside of the braces `$sql` stands once, `$type` as the kind says, and nothing of arguments
abbrev pub is_outside : QueryKind → List Item → List Item → Bool
is_outside kind front back =
    stands (codes "$sql") 1 front back && stands (codes "$type") (types_of kind) front back
    && is_nowhere (codes "$arg") front back && is_nowhere (codes "$i") front back

-- in the braces `$arg` stands once, and no other hole but `$i`
abbrev pub is_inside : List Item → Bool
is_inside each =
    (count (codes "$arg") each == 1) && not (mentions (codes "$sql") each) && not (mentions (codes "$type") each) && are_closed 0 each

-- no arrow of a lambda stands before an argument
abbrev pub is_before_lambdas : List Item → List Item → Bool
is_before_lambdas front each = not (mentions (codes "->") front) && not (mentions (codes "->") (before (codes "$arg") each))

abbrev pub are_pieces : QueryKind → List Item → List Item → List Item → Bool
are_pieces kind front each back =
    begins_with_item front && begins_with_item each && is_outside kind front back && is_inside each && is_before_lambdas front each

abbrev pub is_template : QueryKind → List Item → Bool
is_template kind is = has_braces is && are_pieces kind (front_of is) (each_of is) (back_of is)

-- ---- Parts

abbrev pub part_of : Item → Part
part_of i =
    if is_spelled (codes "$sql") i then parts.Sql
    else (if is_spelled (codes "$type") i then parts.Type
    else (if is_spelled (codes "$i") i then parts.Number
    else (if is_spelled (codes "$arg") i then parts.Argument
    else parts.Item (pattern_item i))))

abbrev pub parts_of : List Item → List Part
parts_of is = map part_of is

abbrev pub template_of : QueryKind → List Item → Template
template_of kind is = record { kind = kind; front = parts_of (front_of is); each = parts_of (each_of is); back = parts_of (back_of is) }

-- what a template is where the map gives none
abbrev pub default_text : QueryKind → List ℕ
default_text queries.List = codes "db.query($type.class, $sql {, $arg})"
default_text queries.Long = codes "db.queryLong($sql {, $arg})"
default_text queries.Boolean = codes "db.queryBoolean($sql {, $arg})"

unfoldable pub default_template : QueryKind → Template
default_template kind = template_of kind (items_of (default_text kind))

abbrev pub template_or : QueryKind → Option Template → Template
template_or kind None = default_template kind
template_or kind (Some t) = t

-- ---- Fronts

-- a part may stand where the other does: the class `$type` may be any name
abbrev pub fits : Part → Part → Bool
fits (parts.Item a) (parts.Item b) = bytes_eq a.bytes b.bytes
fits parts.Sql parts.Sql = true
fits parts.Type parts.Type = true
fits parts.Type (parts.Item b) = is_name_kind b.kind
fits parts.Number parts.Number = true
fits parts.Argument parts.Argument = true
fits _ _ = false

-- parts fit those with which others begin
unfoldable pub fits_front : List Part → List Part → Bool
fits_front [] qs = true
fits_front (p ∷ ps) [] = false
fits_front (p ∷ ps) (q ∷ qs) = fits p q && fits_front ps qs

abbrev pub fits_all : List Part → List Part → Bool
fits_all ps qs = (length ps == length qs) && fits_front ps qs

-- What fits a template begins as what fits the other, so that one hides the other. A call without arguments tells nothing of what each is given by.
abbrev pub is_front : Template → Template → Bool
is_front t u = fits_all t.front u.front && fits_front t.back u.back

abbrev pub hide : Template → Template → Bool
hide t u = is_front t u || is_front u t
