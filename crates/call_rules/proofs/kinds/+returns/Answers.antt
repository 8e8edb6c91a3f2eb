use Rattle.std.proofs.Common.{◌≡◌, ◌∙◌, sym, ap, Bool, true, false, ◌||◌, List}
use Rattle.java_ast.specs.declared.tree.Stmt.{Stmt}
use Rattle.java_ast.specs.Reading.{statements}
use Rattle.java_mean.specs.Rules.{returns, returns_in}
use Rattle.java_ast.proofs.Nodes.{if_is, if_else_is, for_each_is}
use Rattle.call_rules.proofs.kinds.+returns.Goals as goal

pub returns_in-returns-in-None : goal.returns_in-returns-in-None
returns_in-returns-in-None t c =
    c.returns.ensures ∙ ap (λ (l : List Stmt). returns (statements l)) c.deref.ensures.value ∙ ap returns_in (sym (if_is c.args.s.now c.in-If.cond c.in-If.yes c.in-If.other c.in-If.is c.in-None.is))

-- a branch that returns, and one that does not
leads : (x a b : Bool) → x ≡ a → x ≡ true → x ≡ (a || b)
leads x a b p q = q ∙ ap (λ (c : Bool). c || b) (sym q ∙ p)

follows : (x a b y : Bool) → x ≡ a → x ≡ false → y ≡ b → y ≡ (a || b)
follows x a b y p q h = h ∙ ap (λ (c : Bool). c || b) (sym q ∙ p)

pub returns_in-returns-then-returns : goal.returns_in-returns-then-returns
returns_in-returns-then-returns t c =
    leads c.returns-in-Some.result (returns (statements c.in-If.yes.items)) (returns (statements c.in-Some.other.items))
    (c.returns-in-Some.ensures ∙ ap (λ (l : List Stmt). returns (statements l)) c.deref-in-Some.ensures.value)
    c.if-returns.true
    ∙ ap returns_in (sym (if_else_is c.args.s.now c.in-If.cond c.in-If.yes c.in-Some.other c.in-If.other c.in-If.is c.in-Some.is))

pub returns_in-returns-else-returns : goal.returns_in-returns-else-returns
returns_in-returns-else-returns t c =
    follows c.returns-in-Some.result (returns (statements c.in-If.yes.items)) (returns (statements c.in-Some.other.items)) c.returns-else-returns.result
    (c.returns-in-Some.ensures ∙ ap (λ (l : List Stmt). returns (statements l)) c.deref-in-Some.ensures.value)
    c.if-returns.false
    (c.returns-else-returns.ensures ∙ ap (λ (l : List Stmt). returns (statements l)) c.deref-else-returns.ensures.value)
    ∙ ap returns_in (sym (if_else_is c.args.s.now c.in-If.cond c.in-If.yes c.in-Some.other c.in-If.other c.in-If.is c.in-Some.is))

pub returns_in-returns-in-ForEach : goal.returns_in-returns-in-ForEach
returns_in-returns-in-ForEach t c =
    let w = c.in-ForEach in
    c.returns-in-ForEach.ensures ∙ ap (λ (l : List Stmt). returns (statements l)) c.deref-in-ForEach.ensures.value ∙ ap returns_in (sym (for_each_is c.args.s.now w.ty w.name w.list w.body w.is))
