use Rattle.std.specs.Prelude.{Box, Option}
use Rattle.std.specs.Option.{option_map}
use Rattle.std.specs.declared.alloc.Global.{Global}
use Rattle.std.proofs.Common.{◌≡◌, ap, ◌∙◌}
use Rattle.std.proofs.lemmas.Result.{IfOk-weaker}
use Rattle.java_ast.specs.declared.tree.Expr.{Expr}
use Rattle.java_ast.specs.Names.{Names, is_among}
use Rattle.java_ast.specs.Reading.{expression, statements}
use Rattle.java_mean.proofs.Sets.{among_set}
use Rattle.java_mean.specs.Visible.{Visible, names_seen}
use Rattle.narrowing.proofs.Members.{asked_for}
use Rattle.narrowing.proofs.query.query_of_body.Goals as goal
use Rattle.spreads.specs.Narrowed.{query_for, query_of_body}
use Rattle.spreads.specs.Staying.{assigned_among}

pub returns : goal.returns
returns c =
    let b = statements c.args.body.now in
    IfOk-weaker c.query_for.result
    (λ (o : Option (Box Expr Global)). option_map (λ e. expression e.value) o ≡ query_for c.args.schema.now c.in-Some.fetch.0 c.in-Some.fetch.1.now c.in-Some-table.table (names_seen c.deref.result.now) c.args.variable.now (expression c.in-Some-only_condition.c.now))
    (λ (o : Option (Box Expr Global)). option_map (λ e. expression e.value) o ≡ query_of_body c.args.schema.now (expression c.args.list.now) c.args.variable.now b)
    (λ o e. asked_for c.args.schema.now c.args.variable.now (expression c.args.list.now) b (c.in-Some.fetch.0, c.in-Some.fetch.1.now) (expression c.in-Some-only_condition.c.now) c.in-Some-table.table (names_seen c.deref.result.now) (option_map (λ e. expression e.value) o)
    c.in-Some.ensures c.in-Some-only_condition.ensures c.in-Some-table.ensures
    (λ y. ap (λ (s : Visible). is_among (names_seen s) y) c.deref.ensures ∙ ap (λ (l : Names). is_among l y) c.in_ok-assigned.ensures ∙ among_set (assigned_among b) y)
    e)
    c.query_for.ensures
