use Rattle.std.proofs.Common.{List, length, map, ◌<◌, ◌≤◌, ap, ◌∙◌}
use Rattle.kernel_lang.specs.declared.parts.Acc.{Acc}
use Rattle.kernel_lang.specs.Plain.{accumulator}
use Rattle.kernel_lang.proofs.Listing.{all_at}
use Rattle.sql_ast.specs.Reading.{query}
use Rattle.sql_parts.specs.Reading.{ground_of, number_first}
use Rattle.sql_emit.proofs.Emitting.{accs_short, accs_some, exact_by}
use Rattle.sql_emit.proofs.emission.emit_exactly.Goals as goal

pub emission-requires-clause-some : goal.emission-requires-clause-some
emission-requires-clause-some c = all_at (λ (a : Acc). 0 < length a.chain) c.args.frag.now.accs c.args.acc c.accumulator_at.result.now (accs_some c.args.frag.now) c.accumulator_at.ensures

pub emission-requires-clause-few : goal.emission-requires-clause-few
emission-requires-clause-few c = all_at (λ (a : Acc). length a.chain ≤ 3) c.args.frag.now.accs c.args.acc c.accumulator_at.result.now (accs_short c.args.frag.now) c.accumulator_at.ensures

pub returns : goal.returns
returns c =
    exact_by c.args.schema.now c.args.frag.now c.args.cand.now c.args.acc (map query c.args.known.now) c.args.known_args.now c.accumulator_at.result.now c.in_ok-first.first c.as_slice-2.result.now c.ground-g.result.cand.now (ground_of c.ground-g.result) c.emission.result
    c.accumulator_at.ensures (c.in_ok-first.ensures ∙ ap (λ (accs : List Acc). number_first 0 (map accumulator accs) c.args.acc) c.as_slice.ensures) c.as_slice-2.ensures c.ground-g.ensures.cand c.ground-g.ensures.value c.emission.ensures
