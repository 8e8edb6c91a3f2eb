use Rattle.std.proofs.Common.{◌+◌, List, [], ◌∷◌, drop, ap, ◌∙◌}
use Rattle.std.proofs.lemmas.Result.{err_from_is_err_and}
use Rattle.std.proofs.lemmas.List.{map-append}
use Rattle.sql_ast.specs.declared.known.Known.{Known}
use Rattle.sql_ast.specs.Knowns.{known_of, knowns_of}
use Rattle.sql_ast.specs.Names.{each_of, known_part}
use Rattle.sql_ast.specs.Names as names
use Rattle.sql_parse.specs.Said.{part_of, parts_of}
use Rattle.sql_parse.proofs.Each.{after_front, each_goes_on, each_fails_by, each_ends}
use Rattle.sql_parse.proofs.scope.each_part.Goals as goal

pub returns-in_err-item : goal.returns-in_err-item
returns-in_err-item c =
    let p = err_from_is_err_and c.from_residual.result c.from_residual.ensures.1 in
    rw (p.1, p.2) (each_fails_by part_of (known_part c.args.schema.now) c.args.parts.now (knowns_of c.loop-number.own.items) c.loop-number.number c.index-parts-number.result (each_of (known_part c.args.schema.now) (parts_of c.args.parts.now)) c.in_err-item.field-0.0 c.loop-number-test.true c.index-parts-number.is c.in_err-item.ensures c.loop-number.invariant)

pub loop-number-preserved : goal.loop-number-preserved
loop-number-preserved c =
    ap (λ (ks : List Known). after_front (knowns_of ks) (each_of (known_part c.args.schema.now) (parts_of (drop (c.loop-number.number + 1) c.args.parts.now)))) c.in_ok-push.ensures.items
    ∙ ap (λ (ks : List names.Known). after_front ks (each_of (known_part c.args.schema.now) (parts_of (drop (c.loop-number.number + 1) c.args.parts.now)))) (map-append known_of c.loop-number.own.items (c.in_ok-item.item ∷ []))
    ∙ each_goes_on part_of (known_part c.args.schema.now) c.args.parts.now (knowns_of c.loop-number.own.items) c.loop-number.number c.index-parts-number.result (known_of c.in_ok-item.item) (each_of (known_part c.args.schema.now) (parts_of c.args.parts.now)) c.loop-number-test.true c.index-parts-number.is c.in_ok-item.ensures c.loop-number.invariant

pub returns : goal.returns
returns c = each_ends part_of (known_part c.args.schema.now) c.args.parts.now (knowns_of c.loop-number.own.items) c.loop-number.number (each_of (known_part c.args.schema.now) (parts_of c.args.parts.now)) c.loop-number-test.false c.loop-number.invariant
