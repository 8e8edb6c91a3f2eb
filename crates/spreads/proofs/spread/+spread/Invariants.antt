use Rattle.std.proofs.Common.{◌≡◌, None, drop}
use Rattle.std.specs.Option.{option_map, option_copied}
use Rattle.java_ast.specs.Path.{and_then}
use Rattle.java_ast.specs.Reading.{expression, statements}
use Rattle.java_mean.specs.Visible.{names_seen}
use Rattle.java_types.specs.Texts.{read_by}
use Rattle.spreads.specs.Spread.{spread_among}
use Rattle.spreads.proofs.spread.+spread.Given as goal

abbrev pub invariant-spread_among-loop-s : goal.invariant-spread_among-loop-s
invariant-spread_among-loop-s l = record {
  rest : l.rest ≡ drop l.s-index l.block;
  spread :
      and_then (statements l.all.items) (spread_among l.schema (read_by l.schema) (names_seen l.assigned) (option_map expression (option_copied l.declared)) (statements (drop l.s-index l.block)))
      ≡ spread_among l.schema (read_by l.schema) (names_seen l.assigned) None (statements l.block);
}
