-- K2: the lists of loops. K3: how deep loops are nested.
use Rattle.std.specs.Prelude.{ℕ, Bool, true, false, ◌&&◌, List, [], ◌∷◌, length, nat_lt, if◌then◌else◌}
use Rattle.std.specs.List.{filter}
use Rattle.std.specs.Str.{bytes_eq}
use Rattle.std.specs.declared.option.Option.{Option}
use Rattle.std.specs.declared.option.Option.TheVariants.{Some, None}
use Rattle.qbs_base.specs.declared.span.Span.{Span}
use Rattle.java_ast.specs.Tree.{Spelled, Expression, Statement, Statements, Nothing, Then}
use Rattle.java_ast.specs.Tree as plain
use Rattle.loop_text.specs.Statements.Loops.{is_loop}
use Rattle.loop_text.specs.Kernel.Counting.{Counting}
use Rattle.loop_text.specs.Kernel.KernelLoop.{counting_in}
use Rattle.loop_text.specs.Sites.Sites.{Site, place_of, place_where, depth}

-- ---- Where a list comes from

-- the rows of a table, sorted by keys where there are some, each down or not
pub record Source : Type 0 where
  pub table : List ℕ
  pub keys : List (List ℕ)
  pub downs : List Bool

abbrev pub has_keys : List (List ℕ) → Bool
has_keys [] = false
has_keys (k ∷ ks) = true

abbrev pub is_sorted : Source → Bool
is_sorted s = has_keys s.keys

abbrev pub fetched : Expression → Option Source
fetched (plain.Fetch at table) = Some (record { table = table; keys = []; downs = [] })
fetched _ = None

-- what is sorted already isn't sorted again
abbrev pub sorted_by : List (List ℕ) → List Bool → Option Source → Option Source
sorted_by keys downs (Some s) = if is_sorted s then None else Some (record s { keys = keys; downs = downs })
sorted_by keys downs None = None

-- where a variable's list comes from behind a statement of a run
abbrev pub source_after : List ℕ → Statement → Option Source → Option Source
source_after x (plain.Declare at ty y e) o = if bytes_eq y x then fetched e else o
source_after x (plain.Assign at y e) o = if bytes_eq y x then fetched e else o
source_after x (plain.Sort at y keys downs) o = if bytes_eq y x then sorted_by keys downs o else o
source_after x _ o = o

-- Where a variable's list comes from behind a run: its last fetch, and at most one sort behind that.
abbrev pub source_past : List ℕ → Option Source → Statements → Option Source
source_past x o Nothing = o
source_past x o (Then s ss) = source_past x (source_after x s o) ss

abbrev pub source_of : Statements → Expression → Option Source
source_of run (plain.Fetch at table) = fetched (plain.Fetch at table)
source_of run (plain.Var at x) = source_past x None run
source_of run _ = None

abbrev pub source_counted : Statements → Option Counting → Option Source
source_counted run (Some k) = source_past k.list None run
source_counted run None = None

-- where the list of a loop comes from
abbrev pub source_in : Statements → Statement → Option Source
source_in run (plain.ForEach at ty x e b) = source_of run e
source_in run (plain.While at c b) = source_counted run (counting_in (plain.While at c b))
source_in run _ = None

abbrev pub is_sorted_source : Option Source → Bool
is_sorted_source (Some s) = is_sorted s
is_sorted_source None = false

abbrev pub spells_list : Spelled → Bool
spells_list (plain.ListOf e) = true
spells_list _ = false

abbrev pub declares_list : Statement → Bool
declares_list (plain.Declare at ty x e) = spells_list ty
declares_list _ = false

abbrev pub found_list : Option Site → Bool
found_list (Some s) = declares_list s.statement
found_list None = false

abbrev pub count_loops : List Site → ℕ
count_loops sites = length (filter (λ (s : Site). is_loop s.statement) sites)

abbrev pub too_deep : ℕ → Site → Option Span
too_deep n s = place_where (is_loop s.statement && nat_lt 2 (depth s)) (place_of s.statement)
