-- The sites that are met while a loop is walked.
use Rattle.std.specs.Prelude.{ℕ, true, false, List, length, Option, None}
use Rattle.std.proofs.Common.{◌≡◌, sym, ap, ◌∙◌}
use Rattle.qbs_base.specs.declared.span.Span.{Span}
use Rattle.java_ast.specs.Tree.{Spelled, Expression, Statement, Statements}
use Rattle.java_ast.specs.Tree as plain
use Rattle.loop_text.specs.Sites.Sites.{Round, Site, in_loop, in_branch, with_site, walk, walk_all}

pub for_each_met : (r : Round) (p : Option Statement) (t : Statement) (at : Span) (ty : Spelled) (x : List ℕ) (e : Expression) (b : Statements) (n : ℕ) (inner : Round) (old mid new : List Site) → t ≡ plain.ForEach at ty x e b → n ≡ length old → inner ≡ in_loop r n → mid ≡ with_site old r p t → new ≡ walk_all inner None b mid → new ≡ walk r p t old
for_each_met r p t at ty x e b n inner old mid new is number within met whole =
    whole
    ∙ ap (λ (i : Round). walk_all i None b mid) (within ∙ ap (in_loop r) number)
    ∙ ap (walk_all (in_loop r (length old)) None b) (met ∙ ap (with_site old r p) is)
    ∙ ap (λ (u : Statement). walk r p u old) (sym is)

pub while_met : (r : Round) (p : Option Statement) (t : Statement) (at : Span) (c : Expression) (b : Statements) (n : ℕ) (inner : Round) (old mid new : List Site) → t ≡ plain.While at c b → n ≡ length old → inner ≡ in_loop r n → mid ≡ with_site old r p t → new ≡ walk_all inner None b mid → new ≡ walk r p t old
while_met r p t at c b n inner old mid new is number within met whole =
    whole
    ∙ ap (λ (i : Round). walk_all i None b mid) (within ∙ ap (in_loop r) number)
    ∙ ap (walk_all (in_loop r (length old)) None b) (met ∙ ap (with_site old r p) is)
    ∙ ap (λ (u : Statement). walk r p u old) (sym is)

pub if_met : (r : Round) (p : Option Statement) (t : Statement) (at : Span) (c : Expression) (a : Statements) (n : ℕ) (inner : Round) (old mid new : List Site) → t ≡ plain.If at c a → n ≡ length old → inner ≡ in_branch r n c true → mid ≡ with_site old r p t → new ≡ walk_all inner None a mid → new ≡ walk r p t old
if_met r p t at c a n inner old mid new is number within met whole =
    whole
    ∙ ap (λ (i : Round). walk_all i None a mid) (within ∙ ap (λ (k : ℕ). in_branch r k c true) number)
    ∙ ap (walk_all (in_branch r (length old) c true) None a) (met ∙ ap (with_site old r p) is)
    ∙ ap (λ (u : Statement). walk r p u old) (sym is)

pub if_else_met : (r : Round) (p : Option Statement) (t : Statement) (at : Span) (c : Expression) (a b : Statements) (n : ℕ) (holding failing : Round) (old mid between new : List Site) → t ≡ plain.IfElse at c a b → n ≡ length old → holding ≡ in_branch r n c true → failing ≡ in_branch r n c false → mid ≡ with_site old r p t → between ≡ walk_all holding None a mid → new ≡ walk_all failing None b between → new ≡ walk r p t old
if_else_met r p t at c a b n holding failing old mid between new is number holds fails met first second =
    second
    ∙ ap (λ (i : Round). walk_all i None b between) (fails ∙ ap (λ (k : ℕ). in_branch r k c false) number)
    ∙ ap (walk_all (in_branch r (length old) c false) None b)
    (first
    ∙ ap (λ (i : Round). walk_all i None a mid) (holds ∙ ap (λ (k : ℕ). in_branch r k c true) number)
    ∙ ap (walk_all (in_branch r (length old) c true) None a) (met ∙ ap (with_site old r p) is))
    ∙ ap (λ (u : Statement). walk r p u old) (sym is)
