use Rattle.std.proofs.Common.{◌≡◌, ◌∙◌, sym, nat_eq, length, List, [], ◌∷◌, refl, map, arith}
use Rattle.std.proofs.lemmas.List.{at_drop_all}
use Rattle.std.proofs.lemmas.Bool.Decides.{nat_tests}
use Rattle.qbs_base.specs.declared.scalar.Row.{Row}
use Rattle.tor_terms.specs.Truth as spec
use Rattle.tor_terms.specs.Worlds as worlds
use Rattle.tor_eval.proofs.eval_truth.is_choice.Goals as goal

nothing-left : (rest : List Row) → nat_eq (length rest) 0 ≡ worlds.same_rows rest []
nothing-left [] = refl
nothing-left (r ∷ rows) = grind (arith, nat_tests)

pub returns : goal.returns
returns c =
    let rows = spec.row_at (worlds.world_of c.args.env.now).current c.args.tuple.now in
    c.is_empty.ensures ∙ nothing-left c.loop-j.rest.now ∙ sym (c.loop-j.invariant ∙ at_drop_all (λ js. worlds.same_rows c.loop-j.rest.now (map rows js)) c.args.loops.now c.loop-j.j-index (omega arith))
