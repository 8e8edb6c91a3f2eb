-- The plain tree of each tree of the code.
use Rattle.std.specs.declared.option.Option.{Option}
use Rattle.std.specs.declared.option.Option.TheVariants.{Some, None}
use Rattle.std.specs.Global.{Box}
use Rattle.sql_ast.specs.declared.tree.Cond.{Cond}
use Rattle.sql_ast.specs.declared.tree.Cond as conds
use Rattle.sql_ast.specs.declared.tree.ListQuery.{ListQuery}
use Rattle.sql_ast.specs.declared.tree.NumberQuery.{NumberQuery}
use Rattle.sql_ast.specs.declared.tree.TruthQuery.{TruthQuery}
use Rattle.sql_ast.specs.declared.tree.Query.{Query}
use Rattle.sql_ast.specs.declared.tree.Query.TheVariants as queries
use Rattle.sql_ast.specs.Tree.{Condition, Filter, PlainListing, PlainNumber, PlainTruth, PlainQuery}
use Rattle.sql_ast.specs.Tree as plain

abbrev pub condition : Cond → Condition
condition (conds.Both' _ a _ b) = plain.Both (condition a) (condition b)
condition (conds.Either' _ a _ b) = plain.Either (condition a) (condition b)
condition (conds.Not' _ a) = plain.Not (condition a)
condition (conds.Compare cmp a b) = plain.Compare cmp a b
condition (conds.Bare col) = plain.Bare col
condition (conds.Exists' from conds.None') = plain.Exists from plain.Everything
condition (conds.Exists' from (conds.Some' _ a)) = plain.Exists from (plain.Where (condition a))
condition (conds.Within' opnd negated col from conds.None') = plain.Within opnd negated col from plain.Everything
condition (conds.Within' opnd negated col from (conds.Some' _ a)) = plain.Within opnd negated col from (plain.Where (condition a))

abbrev pub filter_of : Option Cond → Filter
filter_of None = plain.Everything
filter_of (Some cond) = plain.Where (condition cond)

-- the WHERE of an inner SELECT
abbrev pub inner_filter : Option (Box Cond) → Filter
inner_filter None = plain.Everything
inner_filter (Some cond) = plain.Where (condition cond.value)

abbrev pub listing : ListQuery → PlainListing
listing q =
    record {
      item = q.item;
      from = q.from;
      filter = filter_of q.filter;
      group = q.group;
      keys = q.keys;
      limit = q.limit;
      params = q.params;
    }

abbrev pub number : NumberQuery → PlainNumber
number q = record { kind = q.kind; from = q.from; filter = filter_of q.filter; params = q.params }

abbrev pub truth : TruthQuery → PlainTruth
truth q = record { negated = q.negated; from = q.from; filter = filter_of q.filter; params = q.params }

abbrev pub query : Query → PlainQuery
query (queries.Listing q) = plain.Listing (listing q)
query (queries.Number q) = plain.Number (number q)
query (queries.Truth q) = plain.Truth (truth q)
