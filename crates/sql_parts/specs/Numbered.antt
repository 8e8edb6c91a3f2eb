-- Parameters numbered by their first occurrence in the text.
use Rattle.std.specs.Prelude.{if◌then◌else◌, ℕ, suc, pred, List, [], ◌∷◌, ◌++◌, map, slice_get, nat_eq}
use Rattle.std.specs.List.{list_any}
use Rattle.std.specs.declared.option.Option.{Option}
use Rattle.std.specs.declared.option.Option.TheVariants.{Some, None}
use Rattle.qbs_base.specs.declared.scalar.Ty.{Ty}
use Rattle.qbs_base.specs.declared.scalar.Ty.TheVariants as tys
use Rattle.kernel_lang.specs.Plain.{Fragment}
use Rattle.kernel_lang.specs.Pools.{Member, members}
use Rattle.qbs_base.specs.Values.{Schema}
use Rattle.sql_ast.specs.declared.tree.SqlOpnd.{SqlOpnd}
use Rattle.sql_ast.specs.declared.tree.SqlOpnd.TheVariants as opnds
use Rattle.sql_ast.specs.Tree.{Condition, Both, Either, Not, Compare, Bare, Exists, Within, Filter, Everything, Where, PlainQuery, Listing, Number, Truth}
use Rattle.sql_build.specs.Types.{type_of}
use Rattle.sql_parts.specs.Scopes.{ground}
use Rattle.sql_parts.specs.Emitted.{query_of}

-- the entries that are used, in the order of the text
abbrev pub opnd_uses : SqlOpnd → List ℕ
opnd_uses (opnds.Column col) = []
opnd_uses (opnds.Lit x) = []
opnd_uses (opnds.Param n) = pred n ∷ []

abbrev mutual
  pub uses : Condition → List ℕ
  uses (Both a b) = uses a ++ uses b
  uses (Either a b) = uses a ++ uses b
  uses (Not a) = uses a
  uses (Compare cmp a b) = opnd_uses a ++ opnd_uses b
  uses (Bare col) = []
  uses (Exists from filter_) = filter_uses filter_
  uses (Within a negated col from filter_) = opnd_uses a ++ filter_uses filter_

  pub filter_uses : Filter → List ℕ
  filter_uses Everything = []
  filter_uses (Where a) = uses a

-- each once, where it occurs first
abbrev pub entered : List ℕ → ℕ → List ℕ
entered seen n = if list_any (nat_eq n) seen then seen else seen ++ n ∷ []

abbrev pub first_uses : List ℕ → List ℕ → List ℕ
first_uses seen [] = seen
first_uses seen (n ∷ ns) = first_uses (entered seen n) ns

-- the number of an entry, counted from 1
abbrev pub number_among : List ℕ → ℕ → ℕ
number_among [] n = 0
number_among (m ∷ ms) n = if nat_eq m n then 1 else suc (number_among ms n)

abbrev pub renumbered_opnd : List ℕ → SqlOpnd → SqlOpnd
renumbered_opnd order (opnds.Column col) = opnds.Column col
renumbered_opnd order (opnds.Lit x) = opnds.Lit x
renumbered_opnd order (opnds.Param n) = opnds.Param (number_among order (pred n))

abbrev mutual
  pub renumbered : List ℕ → Condition → Condition
  renumbered order (Both a b) = Both (renumbered order a) (renumbered order b)
  renumbered order (Either a b) = Either (renumbered order a) (renumbered order b)
  renumbered order (Not a) = Not (renumbered order a)
  renumbered order (Compare cmp a b) = Compare cmp (renumbered_opnd order a) (renumbered_opnd order b)
  renumbered order (Bare col) = Bare col
  renumbered order (Exists from filter_) = Exists from (renumbered_filter order filter_)
  renumbered order (Within a negated col from filter_) = Within (renumbered_opnd order a) negated col from (renumbered_filter order filter_)

  pub renumbered_filter : List ℕ → Filter → Filter
  renumbered_filter order Everything = Everything
  renumbered_filter order (Where a) = Where (renumbered order a)

abbrev pub filter_in : PlainQuery → Filter
filter_in (Listing q) = q.filter
filter_in (Number q) = q.filter
filter_in (Truth q) = q.filter

-- the query with another WHERE, and with the types of its parameters
abbrev pub with_filter : PlainQuery → Filter → List Ty → PlainQuery
with_filter (Listing q) filter_ types = Listing (record q { filter = filter_; params = types })
with_filter (Number q) filter_ types = Number (record q { filter = filter_; params = types })
with_filter (Truth q) filter_ types = Truth (record q { filter = filter_; params = types })

-- a query, and for each of its parameters the number of the entry whose value it takes
pub record Emission : Type 0 where
  pub query : PlainQuery
  pub entries : List ℕ

abbrev pub numbered_by : List Ty → List ℕ → PlainQuery → Emission
numbered_by types order q = record { query = with_filter q (renumbered_filter order (filter_in q)) (map (λ k. type_of (slice_get types k)) order); entries = order }

abbrev pub in_order : List Ty → PlainQuery → Emission
in_order types q = numbered_by types (first_uses [] (filter_uses (filter_in q))) q

-- what is emitted for an accumulator with its choice
abbrev pub emission : Schema → Fragment → List ℕ → List PlainQuery → List (List ℕ) → Option Member → Option Emission
emission schema f cand known args None = None
emission schema f cand known args (Some m) = Some (in_order f.entries (query_of (ground schema f cand known args) m))

-- for the accumulator of this number
abbrev pub emitted : Schema → Fragment → List ℕ → ℕ → List PlainQuery → List (List ℕ) → Option Emission
emitted schema f cand acc known args = emission schema f cand known args (slice_get (members f cand) acc)
