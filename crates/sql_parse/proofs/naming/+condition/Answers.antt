use Rattle.std.proofs.Common.{refl, ap, ◌∙◌, List, arith}
use Rattle.std.proofs.lemmas.Result.{err_from_is_err_and}
use Rattle.sql_ast.specs.InSight.{in_sight}
use Rattle.sql_ast.specs.Knowns.{knowns_of}
use Rattle.sql_ast.specs.Reading.{condition, inner_filter}
use Rattle.sql_parse.specs.declared.naming.Step.{Step}
use Rattle.sql_parse.specs.Said.{condition_of}
use Rattle.sql_parse.proofs.Climbing.{over, nothing_over}
use Rattle.sql_parse.specs.declared.raw.RawCond.{size-RawCond}
use Rattle.sql_parse.proofs.Depths.{inside_both, inside_either, inside_not}
use Rattle.sql_parse.proofs.Inside.{exists_fails, exists_stops, exists_gives, within_fails, within_stops, within_gives}
use Rattle.sql_parse.proofs.Descents.{named, both_next, either_next, both_stops, either_stops, not_next}
use Rattle.sql_parse.proofs.naming.+condition.Goals as goal

pub part-returns-in_err-from-in-Exists-clause-value : goal.part-returns-in_err-from-in-Exists-clause-value
part-returns-in_err-from-in-Exists-clause-value t c =
    let p = err_from_is_err_and c.from_residual-in_err-from-in-Exists.result c.from_residual-in_err-from-in-Exists.ensures.1 in
    rw (p.1, p.2) (exists_fails c.args.schema.now c.args.around c.len-inner.result (in_sight c.args.known.now) c.args.raw.now c.in-Exists.parts c.in-Exists.filter c.in-Exists.is c.len-inner.ensures c.in_err-from-in-Exists.field-0.0 c.in_err-from-in-Exists.ensures.value)

pub part-returns-in_err-filter-in-Exists-clause-value : goal.part-returns-in_err-filter-in-Exists-clause-value
part-returns-in_err-filter-in-Exists-clause-value t c =
    let p = err_from_is_err_and c.from_residual-in_err-filter-in-Exists.result c.from_residual-in_err-filter-in-Exists.ensures.1 in
    rw (p.1, p.2) (exists_stops c.args.schema.now c.args.around c.len-inner.result (in_sight c.args.known.now) c.args.raw.now c.in-Exists.parts c.in-Exists.filter c.in-Exists.is c.len-inner.ensures c.in_ok-from-in-Exists.from (knowns_of (in_sight c.entered.new.known)) c.in_err-filter-in-Exists.field-0.0 c.in_ok-from-in-Exists.ensures.value c.in_err-filter-in-Exists.ensures.value)

pub part-returns-in_ok-exists-in-Exists-clause-value : goal.part-returns-in_ok-exists-in-Exists-clause-value
part-returns-in_ok-exists-in-Exists-clause-value t c =
    exists_gives c.args.schema.now c.args.around c.len-inner.result (in_sight c.args.known.now) c.args.raw.now c.in-Exists.parts c.in-Exists.filter c.in-Exists.is c.len-inner.ensures c.in_ok-from-in-Exists.from (knowns_of (in_sight c.entered.new.known)) (inner_filter c.in_ok-filter-in-Exists.filter) (condition c.in_ok-exists-in-Exists.field-0.value) c.in_ok-from-in-Exists.ensures.value c.in_ok-filter-in-Exists.ensures.value c.in_ok-exists-in-Exists.ensures

pub part-returns-in_err-membership-in-Within-clause-value : goal.part-returns-in_err-membership-in-Within-clause-value
part-returns-in_err-membership-in-Within-clause-value t c =
    let p = err_from_is_err_and c.from_residual-in_err-membership-in-Within.result c.from_residual-in_err-membership-in-Within.ensures.1 in
    rw (p.1, p.2) (within_fails c.args.schema.now c.args.around c.len-inner-in-Within.result (in_sight c.args.known.now) c.args.raw.now c.in-Within.opnd c.in-Within.negated c.in-Within.col c.in-Within.parts c.in-Within.filter c.in-Within.is c.len-inner-in-Within.ensures c.in_err-membership-in-Within.field-0.0 c.in_err-membership-in-Within.ensures.value)

pub part-returns-in_err-filter-in-Within-clause-value : goal.part-returns-in_err-filter-in-Within-clause-value
part-returns-in_err-filter-in-Within-clause-value t c =
    let p = err_from_is_err_and c.from_residual-in_err-filter-in-Within.result c.from_residual-in_err-filter-in-Within.ensures.1 in
    rw (p.1, p.2) (within_stops c.args.schema.now c.args.around c.len-inner-in-Within.result (in_sight c.args.known.now) c.args.raw.now c.in-Within.opnd c.in-Within.negated c.in-Within.col c.in-Within.parts c.in-Within.filter c.in-Within.is c.len-inner-in-Within.ensures c.in_ok-membership-in-Within.membership.value.opnd c.in_ok-membership-in-Within.membership.value.col c.in_ok-membership-in-Within.membership.value.from (knowns_of (in_sight c.named_membership.new.known)) c.in_err-filter-in-Within.field-0.0 c.in_ok-membership-in-Within.ensures.value c.in_err-filter-in-Within.ensures.value)

pub part-returns-in_ok-within-in-Within-clause-value : goal.part-returns-in_ok-within-in-Within-clause-value
part-returns-in_ok-within-in-Within-clause-value t c =
    within_gives c.args.schema.now c.args.around c.len-inner-in-Within.result (in_sight c.args.known.now) c.args.raw.now c.in-Within.opnd c.in-Within.negated c.in-Within.col c.in-Within.parts c.in-Within.filter c.in-Within.is c.len-inner-in-Within.ensures c.in_ok-membership-in-Within.membership.value.opnd c.in_ok-membership-in-Within.membership.value.col c.in_ok-membership-in-Within.membership.value.from (knowns_of (in_sight c.named_membership.new.known)) (inner_filter c.in_ok-filter-in-Within.filter) (condition c.in_ok-within-in-Within.field-0.value) c.in_ok-membership-in-Within.ensures.value c.in_ok-filter-in-Within.ensures.value c.in_ok-within-in-Within.ensures

pub condition-loop-rest-init : goal.condition-loop-rest-init
condition-loop-rest-init t c = record {
  inside = omega arith;
  same = refl;
  so_far = ap (λ (ss : List Step). over ss (named c.args.schema.now c.args.around (in_sight c.args.known.now) (condition_of c.args.raw.now))) c.new-steps.ensures.items ∙ nothing_over (named c.args.schema.now c.args.around (in_sight c.args.known.now) (condition_of c.args.raw.now));
}

pub condition-returns-in_err-b-in-Both-clause-value : goal.condition-returns-in_err-b-in-Both-clause-value
condition-returns-in_err-b-in-Both-clause-value t c =
    let p = err_from_is_err_and c.from_residual.result c.from_residual.ensures.1 in
    rw (p.1, p.2)
    (both_stops c.args.schema.now c.args.around (in_sight c.args.known.now) (in_sight c.loop-rest.known) c.loop-rest.rest.now c.in-Both.a.value c.deref.result.now c.in-Both.a c.in-Both.b c.loop-rest.steps.items (named c.args.schema.now c.args.around (in_sight c.args.known.now) (condition_of c.args.raw.now)) c.loop-rest.invariant.same refl c.deref.ensures c.loop-rest.invariant.so_far c.in-Both.is c.in_err-b-in-Both.field-0.0 c.in_err-b-in-Both.ensures.value)

pub condition-loop-rest-preserved-in-Both-1 : goal.condition-loop-rest-preserved-in-Both-1
condition-loop-rest-preserved-in-Both-1 t c = record {
  inside = inside_both c.loop-rest.rest.now c.deref-rest.result.now c.in-Both.a c.in-Both.b (size-RawCond c.args.raw.now) c.in-Both.is c.deref-rest.ensures c.loop-rest.invariant.inside;
  same = c.in_ok-b-in-Both.ensures.same ∙ c.loop-rest.invariant.same;
  so_far = both_next c.args.schema.now c.args.around (in_sight c.args.known.now) (in_sight c.loop-rest.known) c.loop-rest.rest.now c.deref-rest.result.now c.deref.result.now c.in-Both.a c.in-Both.b c.loop-rest.steps.items (named c.args.schema.now c.args.around (in_sight c.args.known.now) (condition_of c.args.raw.now)) c.loop-rest.invariant.same c.deref-rest.ensures c.deref.ensures c.loop-rest.invariant.so_far c.in-Both.is c.push.new.self.items c.in_ok-b-in-Both.b c.in_ok-b-in-Both.ensures.value c.in_ok-push-in-Both.ensures.items;
}

pub condition-returns-in_err-b-in-Either-clause-value : goal.condition-returns-in_err-b-in-Either-clause-value
condition-returns-in_err-b-in-Either-clause-value t c =
    let p = err_from_is_err_and c.from_residual-in_err-b-in-Either.result c.from_residual-in_err-b-in-Either.ensures.1 in
    rw (p.1, p.2)
    (either_stops c.args.schema.now c.args.around (in_sight c.args.known.now) (in_sight c.loop-rest.known) c.loop-rest.rest.now c.in-Either.a.value c.deref-in-Either.result.now c.in-Either.a c.in-Either.b c.loop-rest.steps.items (named c.args.schema.now c.args.around (in_sight c.args.known.now) (condition_of c.args.raw.now)) c.loop-rest.invariant.same refl c.deref-in-Either.ensures c.loop-rest.invariant.so_far c.in-Either.is c.in_err-b-in-Either.field-0.0 c.in_err-b-in-Either.ensures.value)

pub condition-loop-rest-preserved-in-Either-1 : goal.condition-loop-rest-preserved-in-Either-1
condition-loop-rest-preserved-in-Either-1 t c = record {
  inside = inside_either c.loop-rest.rest.now c.deref-rest-in-Either.result.now c.in-Either.a c.in-Either.b (size-RawCond c.args.raw.now) c.in-Either.is c.deref-rest-in-Either.ensures c.loop-rest.invariant.inside;
  same = c.in_ok-b-in-Either.ensures.same ∙ c.loop-rest.invariant.same;
  so_far = either_next c.args.schema.now c.args.around (in_sight c.args.known.now) (in_sight c.loop-rest.known) c.loop-rest.rest.now c.deref-rest-in-Either.result.now c.deref-in-Either.result.now c.in-Either.a c.in-Either.b c.loop-rest.steps.items (named c.args.schema.now c.args.around (in_sight c.args.known.now) (condition_of c.args.raw.now)) c.loop-rest.invariant.same c.deref-rest-in-Either.ensures c.deref-in-Either.ensures c.loop-rest.invariant.so_far c.in-Either.is c.push-in-Either.new.self.items c.in_ok-b-in-Either.b c.in_ok-b-in-Either.ensures.value c.in_ok-push-in-Either.ensures.items;
}

pub condition-loop-rest-preserved : goal.condition-loop-rest-preserved
condition-loop-rest-preserved t c = record {
  inside = inside_not c.loop-rest.rest.now c.deref-rest-in-Not.result.now c.in-Not.a (size-RawCond c.args.raw.now) c.in-Not.is c.deref-rest-in-Not.ensures c.loop-rest.invariant.inside;
  same = c.loop-rest.invariant.same;
  so_far = not_next c.args.schema.now c.args.around (in_sight c.args.known.now) c.loop-rest.rest.now c.deref-rest-in-Not.result.now c.in-Not.a c.loop-rest.steps.items c.push-in-Not.new.self.items (named c.args.schema.now c.args.around (in_sight c.args.known.now) (condition_of c.args.raw.now)) c.in-Not.is c.deref-rest-in-Not.ensures c.in_ok-push-in-Not.ensures.items c.loop-rest.invariant.so_far;
}
