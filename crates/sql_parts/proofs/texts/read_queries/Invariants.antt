use Rattle.std.proofs.Common.{drop, map}
use Rattle.std.specs.List.{AllByRecursion}
use Rattle.sql_ast.specs.Reading.{query}
use Rattle.sql_ast.specs.Utf8.{LiteralsAreUtf8}
use Rattle.sql_parts.proofs.texts.read_queries.Given as goal

abbrev pub invariant-loop-q : goal.invariant-loop-q
invariant-loop-q l = AllByRecursion LiteralsAreUtf8 (map query (drop l.q-index l.known)) → AllByRecursion LiteralsAreUtf8 (map query l.known)
