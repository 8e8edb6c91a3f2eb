-- The value of a query call in a world of the frame: what the query answers there to the values of the arguments.
use Rattle.std.proofs.Common.{◌≡◌, List, Some, ap, ◌∙◌}
use Rattle.std.specs.Option.{option_map}
use Rattle.qbs_base.specs.declared.scalar.Scalar.{Scalar}
use Rattle.qbs_base.specs.Values.{Schema}
use Rattle.sql_ast.specs.Canonical.{canonical}
use Rattle.sql_ast.specs.Meaning.{query_answer}
use Rattle.sql_ast.specs.Tree.{PlainQuery}
use Rattle.sql_ast.specs.Valid.{IsQueryOf}
use Rattle.sql_ast.proofs.CanonicalQuery.{canonical_has_query}
use Rattle.java_ast.specs.Tree.{PlainMethod}
use Rattle.java_mean.specs.Asks.{frame_of}
use Rattle.java_mean.specs.Queries.{Reader}
use Rattle.java_mean.specs.Typing.{IsWorld}
use Rattle.java_mean.specs.World.{World}

-- the canonical text of a query is read as the query
pub canonical_read : (schema : Schema) (reader : Reader schema) (q : PlainQuery) → IsQueryOf schema q → reader.read (canonical q) ≡ Some q
canonical_read schema reader q h = (reader.exact (canonical q) q).1 (canonical_has_query schema q h)

-- The canonical text of a query answers what the query does.
pub canonical_answers : (schema : Schema) (reader : Reader schema) (m : PlainMethod) (world : World) → IsWorld (frame_of schema reader.read m) world → (q : PlainQuery) → IsQueryOf schema q → (args : List Scalar) → world.ask (canonical q) args ≡ Some (query_answer world.db args q)
canonical_answers schema reader m world is q h args = is.asked (canonical q) args ∙ ap (option_map (query_answer world.db args)) (canonical_read schema reader q h)
