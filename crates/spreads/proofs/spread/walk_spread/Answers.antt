use Rattle.std.proofs.Common.{◌≡◌, sym, ap, ◌∙◌}
use Rattle.java_ast.specs.Names.{Names, is_among}
use Rattle.java_ast.specs.Reading.{spelled, expression, statement, statements}
use Rattle.java_mean.proofs.Sets.{among_set}
use Rattle.java_mean.specs.Visible.{Visible, names_seen}
use Rattle.java_types.specs.Texts.{read_by}
use Rattle.spreads.specs.Staying.{assigned_among}
use Rattle.spreads.proofs.Members.{Same}
use Rattle.spreads.proofs.Walked.{not_spread, spread}
use Rattle.spreads.proofs.spread.walk_spread.Goals as goal

pub returns-then-found : goal.returns-then-found
returns-then-found c =
    let b = statements c.args.body.now in
    let same : Same (names_seen c.deref-names.result.now) (assigned_among b) =
    λ y. ap (λ (s : Visible). is_among (names_seen s) y) c.deref-names.ensures ∙ ap (λ (l : Names). is_among l y) c.in_ok-assigned.ensures ∙ among_set (assigned_among b) y
    in
    spread c.args.schema.now (read_by c.args.schema.now) (names_seen c.deref-names.result.now) c.args.at (spelled c.args.ty.now) c.args.x.now (expression c.args.list.now) b (statement c.in_ok-s.s.value)
    same (sym c.in_ok-found.ensures ∙ c.if-found.true) c.in_ok-s.ensures

pub returns : goal.returns
returns c =
    let b = statements c.args.body.now in
    let same : Same (names_seen c.deref-names.result.now) (assigned_among b) =
    λ y. ap (λ (s : Visible). is_among (names_seen s) y) c.deref-names.ensures ∙ ap (λ (l : Names). is_among l y) c.in_ok-assigned.ensures ∙ among_set (assigned_among b) y
    in
    not_spread c.args.schema.now (read_by c.args.schema.now) (names_seen c.deref-names.result.now) c.args.at (spelled c.args.ty.now) c.args.x.now (expression c.args.list.now) b
    same (sym c.in_ok-found.ensures ∙ c.if-found.false)
