use Rattle.std.proofs.Common.{List, Bool, ◌||◌, ap, ap₂, ◌∙◌}
use Rattle.java_ast.specs.declared.tree.Stmt.{Stmt}
use Rattle.java_ast.specs.Names.{is_among}
use Rattle.java_ast.specs.Reading.{statements}
use Rattle.spreads.specs.Alone.{all_declared_within}
use Rattle.spreads.proofs.NamedOnce.{declared_in_either}
use Rattle.spreads.proofs.alone.+declares.Goals as goal

pub declares-returns-in-Some : goal.declares-returns-in-Some
declares-returns-in-Some t c =
    c.either.ensures
    ∙ ap₂ (λ (a b : Bool). a || b)
    (c.block_declares-in-Some.ensures ∙ ap (λ (ss : List Stmt). is_among (all_declared_within (statements ss)) c.args.x.now) c.deref-in-Some.ensures.value)
    (c.block_declares-in-Some-2.ensures ∙ ap (λ (ss : List Stmt). is_among (all_declared_within (statements ss)) c.args.x.now) c.deref-in-Some-2.ensures.value)
    ∙ declared_in_either c.args.s.now c.in-If.cond c.in-If.yes c.in-Some.other c.in-If.other c.args.x.now c.in-If.is c.in-Some.is
