-- The map of a text, or its first fault.
use Rattle.std.specs.Prelude.{ℕ, zero, suc, ◌||◌, List, [], ◌∷◌, ◌++◌, length, map, Bool, true, false, not, codes, is_some, Result, Ok, Err, if◌then◌else◌}
use Rattle.std.specs.declared.option.Option.{Option}
use Rattle.std.specs.declared.option.Option.TheVariants.{Some, None}
use Rattle.qbs_base.specs.declared.columns.Table.{Table}
use Rattle.view_items.specs.declared.item.Item.{Item}
use Rattle.view_items.specs.Items.{items_of}
use Rattle.view_map.specs.declared.fault.MapRule.TheVariants as rules
use Rattle.view_map.specs.declared.fault.MapFault.{MapFault}
use Rattle.view_map.specs.declared.draft.Draft.{Draft}
use Rattle.view_map.specs.declared.model.RowClass.{RowClass}
use Rattle.view_map.specs.declared.model.FetchPattern.{FetchPattern}
use Rattle.view_map.specs.declared.model.Constant.{Constant}
use Rattle.view_map.specs.declared.model.QueryKind.{QueryKind}
use Rattle.view_map.specs.declared.model.QueryKind.TheVariants as queries
use Rattle.view_map.specs.declared.model.Template.{Template}
use Rattle.view_map.specs.declared.model.ViewMap.{ViewMap}
use Rattle.view_map.specs.Words.{is_spelled}
use Rattle.view_map.specs.Reading.{◌>>=◌, Read, fault_at, first_from, sign_at}
use Rattle.view_map.specs.Patterns.{pattern_at}
use Rattle.view_map.specs.Tables.{table_at}
use Rattle.view_map.specs.Fetches.{fetch_at, pattern_key}
use Rattle.view_map.specs.Constants.{constant_at, constant_judged, constant_key}
use Rattle.view_map.specs.Templates.{is_template, template_of, template_or, hide}

-- nothing has been read
abbrev pub no_draft : Draft
no_draft = record { classes = []; fetches = []; constants = []; list = None; long = None; truth = None; texts_binary = false }

-- ---- With one part more

abbrev pub with_class : Draft → RowClass → Draft
with_class d c = record {
  classes = d.classes ++ c ∷ [];
  fetches = d.fetches;
  constants = d.constants;
  list = d.list;
  long = d.long;
  truth = d.truth;
  texts_binary = d.texts_binary;
}

abbrev pub with_fetch : Draft → FetchPattern → Draft
with_fetch d f = record {
  classes = d.classes;
  fetches = d.fetches ++ f ∷ [];
  constants = d.constants;
  list = d.list;
  long = d.long;
  truth = d.truth;
  texts_binary = d.texts_binary;
}

abbrev pub with_constant : Draft → Constant → Draft
with_constant d c = record {
  classes = d.classes;
  fetches = d.fetches;
  constants = d.constants ++ c ∷ [];
  list = d.list;
  long = d.long;
  truth = d.truth;
  texts_binary = d.texts_binary;
}

abbrev pub with_templates : Draft → Option Template → Option Template → Option Template → Draft
with_templates d list long truth = record {
  classes = d.classes;
  fetches = d.fetches;
  constants = d.constants;
  list = list;
  long = long;
  truth = truth;
  texts_binary = d.texts_binary;
}

abbrev pub with_template : Draft → QueryKind → Template → Draft
with_template d queries.List t = with_templates d (Some t) d.long d.truth
with_template d queries.Long t = with_templates d d.list (Some t) d.truth
with_template d queries.Boolean t = with_templates d d.list d.long (Some t)

abbrev pub with_binary : Draft → Draft
with_binary d = record {
  classes = d.classes;
  fetches = d.fetches;
  constants = d.constants;
  list = d.list;
  long = d.long;
  truth = d.truth;
  texts_binary = true;
}

-- ---- Templates

abbrev pub given : Draft → QueryKind → Option Template
given d queries.List = d.list
given d queries.Long = d.long
given d queries.Boolean = d.truth

abbrev pub hides : Template → Option Template → Bool
hides t None = false
hides t (Some u) = hide t u

abbrev pub is_hidden : Draft → Template → Bool
is_hidden d t = hides t d.list || hides t d.long || hides t d.truth

-- a template of these items, or what is wrong with it at the first of them
abbrev pub template_judged : Draft → QueryKind → List Item → ℕ → Result Template MapFault
template_judged d kind is at =
    if not (is_template kind is) then Err (fault_at rules.Unexpected at)
    else (if is_hidden d (template_of kind is) then Err (fault_at rules.DoubleName at) else Ok (template_of kind is))

-- what stands behind `query` and the like
unfoldable pub template_at : Draft → QueryKind → ℕ → List Item → Read Template
template_at d kind end is =
    sign_at (codes "=") end is >>= λ rest. pattern_at true end rest >>= λ p. sign_at (codes ";") end p.1 >>= λ after.
    template_judged d kind p.0 (first_from end rest) >>= λ t. Ok (t, after)

-- ---- Entries

abbrev pub table_entry : List Table → Draft → ℕ → List Item → Read Draft
table_entry tables d end is = table_at tables d.classes end is >>= λ c. Ok (with_class d c.0, c.1)

abbrev pub fetch_entry : Draft → ℕ → List Item → Read Draft
fetch_entry d end is = fetch_at d.classes (map pattern_key d.fetches) end is >>= λ f. Ok (with_fetch d f.0, f.1)

abbrev pub constant_entry : Draft → ℕ → List Item → Read Draft
constant_entry d end is = constant_at end is >>= λ x. constant_judged (map constant_key d.constants) x.0 >>= λ c. Ok (with_constant d c, x.1)

-- given once; the word that begins it stands so many bytes behind the front
abbrev pub template_entry : Draft → QueryKind → ℕ → ℕ → List Item → Read Draft
template_entry d kind at end is =
    if is_some (given d kind) then Err (fault_at rules.DoubleName at)
    else (template_at d kind end is >>= λ t. Ok (with_template d kind t.0, t.1))

abbrev pub texts_entry : Draft → ℕ → ℕ → List Item → Read Draft
texts_entry d at end is =
    if d.texts_binary then Err (fault_at rules.DoubleName at)
    else (sign_at (codes "binary") end is >>= λ rest. sign_at (codes ";") end rest >>= λ after. Ok (with_binary d, after))

-- what begins with an item, and what stands behind it
unfoldable pub entry_at : List Table → Draft → ℕ → Item → List Item → Read Draft
entry_at tables d end i is =
    if is_spelled (codes "table") i then table_entry tables d end is
    else (if is_spelled (codes "fetch") i then fetch_entry d end is
    else (if is_spelled (codes "constant") i then constant_entry d end is
    else (if is_spelled (codes "query") i then template_entry d queries.List i.from end is
    else (if is_spelled (codes "queryLong") i then template_entry d queries.Long i.from end is
    else (if is_spelled (codes "queryBoolean") i then template_entry d queries.Boolean i.from end is
    else (if is_spelled (codes "texts") i then texts_entry d i.from end is
    else Err (fault_at rules.Unexpected i.from)))))))

-- the entries of all items, no more than so many, behind what has been read
unfoldable pub entries_at : List Table → ℕ → Draft → ℕ → List Item → Result Draft MapFault
entries_at tables zero d end is = Ok d
entries_at tables (suc n) d end [] = Ok d
entries_at tables (suc n) d end (i ∷ is) = entry_at tables d end i is >>= λ x. entries_at tables n x.0 end x.1

-- ---- Maps

-- one of the three templates hides another
abbrev pub one_hides : Template → Template → Template → Bool
one_hides list long truth = hide list long || hide list truth || hide long truth

abbrev pub templates_of : ℕ → Template → Template → Template → Result (List Template) MapFault
templates_of end list long truth = if one_hides list long truth then Err (fault_at rules.DoubleName end) else Ok (list ∷ long ∷ truth ∷ [])

abbrev pub map_with : Draft → List Template → ViewMap
map_with d templates = record {
  classes = d.classes;
  fetches = d.fetches;
  constants = d.constants;
  templates = templates;
  texts_binary = d.texts_binary;
}

-- a template that is left out comes at the end
unfoldable pub map_of_draft : ℕ → Draft → Result ViewMap MapFault
map_of_draft end d =
    templates_of end (template_or queries.List d.list) (template_or queries.Long d.long) (template_or queries.Boolean d.truth) >>= λ templates.
    Ok (map_with d templates)

abbrev pub map_of_items : List Table → ℕ → List Item → Result ViewMap MapFault
map_of_items tables end is = entries_at tables (length is) no_draft end is >>= λ d. map_of_draft end d

-- the map that a text has by a schema, or its first fault
unfoldable pub map_of : List Table → List ℕ → Result ViewMap MapFault
map_of tables text = map_of_items tables (length text) (items_of text)
