use Rattle.std.specs.Prelude.{Some, Box}
use Rattle.std.proofs.Common.{◌∙◌, ap, sym}
use Rattle.std.specs.Option.{option_map}
use Rattle.std.specs.declared.alloc.Global.{Global}
use Rattle.java_ast.specs.declared.tree.Expr.{Expr}
use Rattle.std.proofs.lemmas.Result.{IfOk-weaker}
use Rattle.java_ast.specs.Reading.{expression, statements}
use Rattle.narrowing.specs.declared.instead.Instead.{Instead}
use Rattle.narrowing.specs.Narrowing.{patch_of, asked_each}
use Rattle.narrowing.specs.Replacing.{replacement, replacement_of, listed, each_replaced}
use Rattle.narrowing.proofs.Made.{Stands, replacement_made}
use Rattle.narrowing.proofs.instead.each_instead.Goals as goal

pub returns-in_ok-others-in-Some : goal.returns-in_ok-others-in-Some
returns-in_ok-others-in-Some c =
    IfOk-weaker c.standing.result
    (Stands (Some (replacement_of c.args.number (statements c.in_ok-others-in-Some.others.items) c.in_ok-patch-in-Some.patch)))
    (Stands (each_replaced c.args.schema.now c.args.number (statements c.args.block.now)))
    (λ o h. replacement_made c.args.number (listed (statements c.args.block.now)) (statements c.in_ok-others-in-Some.others.items) c.in_ok-patch-in-Some.patch (expression c.in-Some.query.value) (asked_each c.args.schema.now (statements c.args.block.now)) (option_map (λ (i : Box Instead Global). replacement i.value) o)
    (ap (option_map (λ (e : Box Expr Global). expression e.value)) (sym c.in-Some.is) ∙ c.in_ok-asked.ensures) c.in_ok-others-in-Some.ensures (c.in_ok-patch-in-Some.ensures ∙ ap (λ (e : Expr). patch_of (expression e)) c.deref-e.ensures) h)
    c.standing.ensures
