use Rattle.std.proofs.Common.{◌≡◌, drop}
use Rattle.java_ast.specs.Reading.{statements}
use Rattle.java_mean.specs.Visible.{names_seen}
use Rattle.java_types.specs.Texts.{read_by}
use Rattle.spreads.specs.Inner.{have_select}
use Rattle.spreads.proofs.inner.+inner.Given as goal

abbrev pub invariant-have_select-loop-s : goal.invariant-have_select-loop-s
invariant-have_select-loop-s l = record {
  rest : l.rest ≡ drop l.s-index l.block;
  left : have_select l.schema (read_by l.schema) (names_seen l.assigned) (statements (drop l.s-index l.block)) ≡ have_select l.schema (read_by l.schema) (names_seen l.assigned) (statements l.block);
}
