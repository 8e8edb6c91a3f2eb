-- The query of an accumulator with its choice. A parameter has the number of its entry, counted from 1.
use Rattle.std.specs.Prelude.{if◌then◌else◌, ℕ, suc, ◌+◌, pos, Bool, true, false, not, ◌||◌, List, [], ◌∷◌, ◌++◌, map, drop, slice_get}
use Rattle.std.specs.declared.option.Option.{Option}
use Rattle.std.specs.declared.option.Option.TheVariants.{Some, None}
use Rattle.qbs_base.specs.declared.scalar.Scalar.{Scalar}
use Rattle.qbs_base.specs.declared.scalar.Scalar.TheVariants as scalars
use Rattle.tor_terms.specs.declared.term.Atom.{Atom}
use Rattle.tor_terms.specs.declared.term.Atom.TheVariants as atoms
use Rattle.tor_terms.specs.declared.term.Elem.{Elem}
use Rattle.tor_terms.specs.declared.term.Elem.TheVariants as elems
use Rattle.tor_terms.specs.declared.term.Operand.{Operand}
use Rattle.tor_terms.specs.declared.term.Operand.TheVariants as operands
use Rattle.tor_terms.specs.declared.term.Way.{Way}
use Rattle.tor_terms.specs.declared.term.Way.TheVariants as ways
use Rattle.tor_terms.specs.Plain.{Form, Is, Both, Either}
use Rattle.kernel_lang.specs.declared.parts.Col.{Col}
use Rattle.kernel_lang.specs.declared.parts.Update.{Update}
use Rattle.kernel_lang.specs.declared.parts.Update.TheVariants as updates
use Rattle.kernel_lang.specs.Pools.{Member}
use Rattle.kernel_lang.specs.Validity.{is_field}
use Rattle.sql_ast.specs.declared.tree.Cmp.{Cmp}
use Rattle.sql_ast.specs.declared.tree.Cmp.TheVariants as tests
use Rattle.sql_ast.specs.declared.tree.NumberKind.{NumberKind}
use Rattle.sql_ast.specs.declared.tree.NumberKind.TheVariants as kinds
use Rattle.sql_ast.specs.declared.tree.SqlCol.{SqlCol}
use Rattle.sql_ast.specs.declared.tree.SqlItem.{SqlItem}
use Rattle.sql_ast.specs.declared.tree.SqlItem.TheVariants as items
use Rattle.sql_ast.specs.declared.tree.SqlKey.{SqlKey}
use Rattle.sql_ast.specs.declared.tree.SqlOpnd.{SqlOpnd}
use Rattle.sql_ast.specs.declared.tree.SqlOpnd.TheVariants as opnds
use Rattle.sql_ast.specs.Meaning.{nth, number_of}
use Rattle.sql_ast.specs.Tree.{Condition, Not, Compare, Bare, Exists, Within, Filter, Everything, Where, PlainQuery, Listing, Number, Truth}
use Rattle.sql_ast.specs.Tree as sql
use Rattle.sql_build.specs.Keys.{position}
use Rattle.sql_build.specs.Keys.{position_key}
use Rattle.sql_parts.specs.Scopes.{Ground, Scope, number_in, outermost, inner, list_of, from_items, column}

-- ---- Literals

abbrev pub side : Ground → Scope → Operand → SqlOpnd
side g s (operands.Field j c) = opnds.Column (column g (number_in s.loops j) j c)
side g s (operands.Entry k) = opnds.Param (suc k)
side g s (operands.Lit x) = opnds.Lit x

-- a condition that is true, or false, everywhere
abbrev pub fixed : Bool → Condition
fixed b = Compare tests.Eq (opnds.Lit (scalars.Bool true)) (opnds.Lit (scalars.Bool b))

-- a test, or the test that holds where it doesn't
abbrev pub less_test : Bool → Cmp
less_test true = tests.Lt
less_test false = tests.Ge

abbrev pub greater_test : Bool → Cmp
greater_test true = tests.Gt
greater_test false = tests.Le

abbrev pub same_test : Bool → Cmp
same_test true = tests.Eq
same_test false = tests.Ne

abbrev pub signed : Bool → Condition → Condition
signed true c = c
signed false c = Not c

-- a field stands on the left
abbrev pub less_condition : Ground → Scope → Operand → Operand → Bool → Condition
less_condition g s a b holds =
    if is_field a || not (is_field b) then Compare (less_test holds) (side g s a) (side g s b) else Compare (greater_test holds) (side g s b) (side g s a)

-- A known query within another, around which there are n FROM items: its own are numbered on, and its
-- parameters are the entries that are its arguments.

abbrev pub moved_col : ℕ → SqlCol → SqlCol
moved_col n col = record { item = n + col.item; column = col.column }

abbrev pub entry_param : Option ℕ → SqlOpnd
entry_param None = opnds.Param 0
entry_param (Some k) = opnds.Param (suc k)

abbrev pub moved_opnd : ℕ → List ℕ → SqlOpnd → SqlOpnd
moved_opnd n args (opnds.Column col) = opnds.Column (moved_col n col)
moved_opnd n args (opnds.Lit x) = opnds.Lit x
moved_opnd n args (opnds.Param m) = entry_param (nth args m)

abbrev mutual
  pub moved : ℕ → List ℕ → Condition → Condition
  moved n args (sql.Both a b) = sql.Both (moved n args a) (moved n args b)
  moved n args (sql.Either a b) = sql.Either (moved n args a) (moved n args b)
  moved n args (Not a) = Not (moved n args a)
  moved n args (Compare cmp a b) = Compare cmp (moved_opnd n args a) (moved_opnd n args b)
  moved n args (Bare col) = Bare (moved_col n col)
  moved n args (Exists from filter_) = Exists from (moved_filter n args filter_)
  moved n args (Within a negated col from filter_) = Within (moved_opnd n args a) negated (moved_col n col) from (moved_filter n args filter_)

  pub moved_filter : ℕ → List ℕ → Filter → Filter
  moved_filter n args Everything = Everything
  moved_filter n args (Where a) = Where (moved n args a)

abbrev pub item_col : SqlItem → SqlCol
item_col (items.Whole n) = position n
item_col (items.Column col) = col

abbrev pub args_of : Option (List ℕ) → List ℕ
args_of None = []
args_of (Some args) = args

-- the operand is in the list of a known query
abbrev pub within_query : Ground → Scope → Operand → List ℕ → Option PlainQuery → Bool → Condition
within_query g s a args (Some (Listing q)) holds = Within (side g s a) (not holds) (moved_col s.count (item_col q.item)) q.from (moved_filter s.count args q.filter)
within_query g s a args _ holds = fixed (not holds)

-- what a flag's truth is in a scope
abbrev pub FlagCondition : Type 0
FlagCondition = Scope → ℕ → Condition

-- an atom, or its opposite; one that isn't there is false
abbrev pub literal : FlagCondition → Ground → Scope → Option Atom → Bool → Condition
literal flag g s None holds = fixed (not holds)
literal flag g s (Some (atoms.Less a b)) holds = less_condition g s a b holds
literal flag g s (Some (atoms.Same a b)) holds = Compare (same_test holds) (side g s a) (side g s b)
literal flag g s (Some (atoms.Truth a)) holds = Compare tests.Eq (side g s a) (opnds.Lit (scalars.Bool holds))
literal flag g s (Some (atoms.Member a q)) holds = within_query g s a (args_of (slice_get g.args q)) (slice_get g.known q) holds
literal flag g s (Some (atoms.Flag k loops)) holds = signed holds (flag s k)

abbrev pub formula : FlagCondition → Ground → Scope → Form → Condition
formula flag g s (Is k holds) = literal flag g s (slice_get g.atoms k) holds
formula flag g s (Both f h) = sql.Both (formula flag g s f) (formula flag g s h)
formula flag g s (Either f h) = sql.Either (formula flag g s f) (formula flag g s h)

-- ---- FROM and WHERE

-- AND from left to right
abbrev pub joined_from : Condition → List Condition → Condition
joined_from c [] = c
joined_from c (d ∷ ds) = joined_from (sql.Both c d) ds

abbrev pub joined : List Condition → Filter
joined [] = Everything
joined (c ∷ cs) = Where (joined_from c cs)

-- the first rows of a list without keys
abbrev pub limit_tests : ℕ → List Col → Option ℕ → List Condition
limit_tests n [] (Some limit) = Compare tests.Lt (opnds.Column (position n)) (opnds.Lit (scalars.Long (pos limit))) ∷ []
limit_tests n _ _ = []

-- of the loops whose FROM items have the numbers after n
abbrev pub limits : Ground → ℕ → List ℕ → List Condition
limits g n [] = []
limits g n (j ∷ js) = limit_tests (suc n) (list_of g j).keys (list_of g j).limit ++ limits g (suc n) js

abbrev pub elem_col : Ground → Scope → Elem → SqlCol
elem_col g s (elems.Whole j) = position (number_in s.loops j)
elem_col g s (elems.Field j c) = column g (number_in s.loops j) j c

abbrev pub way_test : Way → Cmp
way_test ways.Max = tests.Gt
way_test ways.Min = tests.Lt

-- what is better than the start
abbrev pub best_tests : Ground → Scope → Update → Option Scalar → List Condition
best_tests g s (updates.Best way e) (Some x) = Compare (way_test way) (opnds.Column (elem_col g s e)) (opnds.Lit x) ∷ []
best_tests g s _ _ = []

-- the conditions of an accumulator whose loops `own` have the FROM items after n
abbrev pub conditions : FlagCondition → Ground → Scope → ℕ → List ℕ → Member → List Condition
conditions flag g s n own m = limits g n own ++ (map (formula flag g s) m.1 ++ best_tests g s m.0.update m.0.start)

-- a flag reads no flag
abbrev pub no_flag : FlagCondition
no_flag s k = fixed false

abbrev pub flag_loops : Member → List ℕ
flag_loops m = drop m.0.base m.0.chain

-- some combination of the rows of a flag's own loops
abbrev pub flag_exists : Ground → Scope → Option Member → Condition
flag_exists g s None = fixed false
flag_exists g s (Some m) = Exists (from_items g (flag_loops m)) (joined (conditions no_flag g (inner s (flag_loops m)) s.count (flag_loops m) m))

abbrev pub flag_condition : Ground → FlagCondition
flag_condition g s k = flag_exists g s (slice_get g.members k)

abbrev pub where_of : Ground → Member → Filter
where_of g m = joined (conditions (flag_condition g) g (outermost m.0.chain) 0 m.0.chain m)

-- ---- ORDER BY and LIMIT

abbrev pub key : Ground → ℕ → ℕ → Col → SqlKey
key g n j k = record { least = false; col = column g n j k.column; down = k.down }

-- for each loop the keys of its list, and then the position
abbrev pub keys : Ground → ℕ → List ℕ → List SqlKey
keys g n [] = []
keys g n (j ∷ js) = map (key g (suc n) j) (list_of g j).keys ++ position_key false (suc n) ∷ keys g (suc n) js

-- the limit of a list with keys
abbrev pub sorted_limit : List Col → Option ℕ → Option ℕ
sorted_limit [] limit = None
sorted_limit (k ∷ ks) limit = limit

abbrev pub limit_of : Ground → List ℕ → Option ℕ
limit_of g [] = None
limit_of g (j ∷ js) = sorted_limit (list_of g j).keys (list_of g j).limit

-- ---- Queries

abbrev pub item : Ground → Scope → Elem → SqlItem
item g s (elems.Whole j) = items.Whole (number_in s.loops j)
item g s (elems.Field j c) = items.Column (column g (number_in s.loops j) j c)

abbrev pub rows_query : Ground → List ℕ → Elem → Filter → PlainQuery
rows_query g js e filter_ =
    Listing (record { item = item g (outermost js) e; from = from_items g js; filter = filter_; group = None; keys = keys g 0 js; limit = limit_of g js; params = [] })

abbrev pub values_query : Ground → List ℕ → Elem → Filter → PlainQuery
values_query g js e filter_ =
    Listing (
    record {
      item = item g (outermost js) e;
      from = from_items g js;
      filter = filter_;
      group = Some (elem_col g (outermost js) e);
      keys = position_key true 1 ∷ [];
      limit = None;
      params = [];
    })

abbrev pub number_query : Ground → List ℕ → NumberKind → Filter → PlainQuery
number_query g js kind filter_ = Number (record { kind = kind; from = from_items g js; filter = filter_; params = [] })

abbrev pub best_kind : Way → SqlCol → Option Scalar → NumberKind
best_kind ways.Max col start = kinds.Max col (number_of start)
best_kind ways.Min col start = kinds.Min col (number_of start)

abbrev pub query_by : Update → Ground → Member → Filter → PlainQuery
query_by (updates.Push e) g m filter_ = rows_query g m.0.chain e filter_
query_by (updates.PushNew e) g m filter_ = values_query g m.0.chain e filter_
query_by updates.Tick g m filter_ = number_query g m.0.chain kinds.Count filter_
query_by (updates.Plus e) g m filter_ = number_query g m.0.chain (kinds.Sum (elem_col g (outermost m.0.chain) e) (pos 0)) filter_
query_by (updates.Best way e) g m filter_ = number_query g m.0.chain (best_kind way (elem_col g (outermost m.0.chain) e) m.0.start) filter_
query_by updates.Mark g m filter_ = Truth (record { negated = m.0.opposite; from = from_items g m.0.chain; filter = filter_; params = [] })

abbrev pub query_of : Ground → Member → PlainQuery
query_of g m = query_by m.0.update g m (where_of g m)
