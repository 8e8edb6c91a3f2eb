use Rattle.std.proofs.Common.{drop, map}
use Rattle.std.specs.List.{AllByRecursion}
use Rattle.sql_ast.specs.Reading.{query}
use Rattle.sql_parts.specs.Given.{QueryIsCounted}
use Rattle.sql_parts.proofs.counted.count_queries.Given as goal

abbrev pub invariant-loop-q : goal.invariant-loop-q
invariant-loop-q l = AllByRecursion QueryIsCounted (map query (drop l.q-index l.known)) → AllByRecursion QueryIsCounted (map query l.known)
