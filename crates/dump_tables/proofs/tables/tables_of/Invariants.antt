use Rattle.std.proofs.Common.{◌≡◌, drop}
use Rattle.dump_tables.specs.Tables.{with_statements, tables_of}
use Rattle.dump_tables.specs.Numbered.{AreNumbered}
use Rattle.dump_tables.proofs.tables.tables_of.Given as goal

abbrev pub invariant-loop-statement : goal.invariant-loop-statement
invariant-loop-statement l = record {
  so_far : with_statements l.state.tables.items (drop l.statement-index l.statements) ≡ tables_of l.statements;
  numbered : AreNumbered l.state.numbers l.state.tables.items;
}
