-- The types of parameters, found from left to right.
use Rattle.std.specs.Prelude.{ℕ, zero, suc, if◌then◌else◌, List, [], ◌∷◌, ◌++◌, map, slice_get}
use Rattle.std.specs.Borrow.{Bor}
use Rattle.std.specs.declared.option.Option.{Option}
use Rattle.std.specs.declared.option.Option.TheVariants.{Some, None}
use Rattle.qbs_base.specs.declared.scalar.Ty.{Ty}
use Rattle.qbs_base.specs.Columns.{same_ty}
use Rattle.sql_ast.specs.declared.tree.FromItem.{FromItem}
use Rattle.sql_ast.specs.Names.{◌>>=◌}
use Rattle.sql_ast.specs.Tree.{Filter, PlainQuery, Listing, Number, Truth}
use Rattle.sql_parse.specs.declared.typing.Seen.{Seen}
use Rattle.sql_parse.specs.declared.typing.Seen.TheVariants as seens

abbrev pub froms_of : List (Bor FromItem) → List FromItem
froms_of froms = map (λ f. f.now) froms

-- the types so far: none, one, or several
abbrev pub seen_ty : Seen → Ty → Seen
seen_ty seens.Nothing ty = seens.One ty
seen_ty (seens.One other) ty = if same_ty other ty then seens.One other else seens.Several
seen_ty seens.Several ty = seens.Several

abbrev pub seen_all : Seen → List Ty → Seen
seen_all seen [] = seen
seen_all seen (ty ∷ tys) = seen_all (seen_ty seen ty) tys

-- the one type that was seen
abbrev pub only_ty : Seen → Option Ty
only_ty seens.Nothing = None
only_ty (seens.One ty) = Some ty
only_ty seens.Several = None

-- a parameter's type in a table that has those of the parameters from 0 on
abbrev pub param_at : List (Option Ty) → ℕ → Option Ty
param_at params n = slice_get params n >>= λ ty. ty

-- the types of the parameters from 0 on, so many
abbrev pub tys_below : (ℕ → Option Ty) → ℕ → List (Option Ty)
tys_below params zero = []
tys_below params (suc n) = tys_below params n ++ params n ∷ []

-- the FROM and the WHERE of a query
abbrev pub from_in : PlainQuery → List FromItem
from_in (Listing q) = q.from
from_in (Number q) = q.from
from_in (Truth q) = q.from

abbrev pub filter_in : PlainQuery → Filter
filter_in (Listing q) = q.filter
filter_in (Number q) = q.filter
filter_in (Truth q) = q.filter
