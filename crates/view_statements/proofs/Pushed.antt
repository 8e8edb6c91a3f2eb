-- What is pushed part by part, and statements with bodies so.
use Rattle.std.specs.Prelude.{ℕ, Bool, Vec, List, ◌++◌, codes, Box}
use Rattle.std.proofs.Common.{◌≡◌, sym, ap, ◌∙◌}
use Rattle.std.proofs.lemmas.List.{append_assoc}
use Rattle.std.specs.declared.alloc.Global.{Global}
use Rattle.view_items.specs.declared.cell.Cell.{Cell}
use Rattle.view_rules.specs.declared.java_type.JavaType.{JavaType}
use Rattle.view_rules.specs.declared.expression.Expression.{Expression}
use Rattle.view_rules.specs.Cells.{made, item_cells, expression_cells}
use Rattle.view_rules.specs.Reading.{expression}
use Rattle.view_rules.specs.Setting.{Within}
use Rattle.view_statements.specs.declared.statement.Statement.{Statement}
use Rattle.view_statements.specs.declared.statement.Statement as stmts
use Rattle.view_statements.specs.Cells.{in_braces, head_cells, each_cells, if_word, other_way_cells, statement_cells, all_cells}
use Rattle.view_statements.specs.Reading.{statement, statements}
use Rattle.view_statements.proofs.Nodes.{if_is, if_else_is, for_each_is, for_index_is, for_iterator_is, while_is, skip_is}

pub pushed : {A : Type 0} (old mid new a b : List A) → mid ≡ old ++ a → new ≡ mid ++ b → new ≡ old ++ (a ++ b)
pushed old mid new a b first last = last ∙ ap (λ l. l ++ b) first ∙ append_assoc old a b

-- a block, whose statements are lent
abbrev block : Within → List ℕ → ℕ → ℕ → List Statement → List Cell
block w found before end body = in_braces w before end (all_cells w found (statements body))

lent_block : (w : Within) (found : List ℕ) (before end : ℕ) (lent body : List Statement) (old new : List Cell)
    → lent ≡ body → new ≡ old ++ block w found before end lent → new ≡ old ++ block w found before end body
lent_block w found before end lent body old new same last = last ∙ ap (λ (l : List Statement). old ++ block w found before end l) same

lent_head : (head : Expression → List Cell) (lent e : Expression) (old new : List Cell) → lent ≡ e → new ≡ old ++ head lent → new ≡ old ++ head e
lent_head head lent e old new same first = first ∙ ap (λ (x : Expression). old ++ head x) same

-- a head, and a body in braces behind it
bodied : (w : Within) (found : List ℕ) (head whole : List Cell) (before end : ℕ) (lent body : List Statement) (old mid new : List Cell)
    → whole ≡ head ++ block w found before end body → lent ≡ body → mid ≡ old ++ head → new ≡ mid ++ block w found before end lent → new ≡ old ++ whole
bodied w found head whole before end lent body old mid new is same first last =
    pushed old mid new head (block w found before end body) first (lent_block w found before end lent body mid new same last)
    ∙ ap (λ (l : List Cell). old ++ l) (sym is)

pub if_pushed : (w : Within) (found : List ℕ) (st : Statement) (at : ℕ) (c : Box Expression Global) (close : ℕ) (braces : Bool) (v : Vec Statement Global) (end : ℕ)
    → (e : Expression) (body : List Statement) (old mid new : List Cell) → st ≡ stmts.If at c close braces v end → e ≡ c.value → body ≡ v.items
    → mid ≡ old ++ head_cells w at (codes "if") (expression_cells w (expression e)) close → new ≡ mid ++ block w found close end body
    → new ≡ old ++ statement_cells w found (statement st)
if_pushed w found st at c close braces v end e body old mid new is of same first last =
    bodied w found (head_cells w at (codes "if") (expression_cells w (expression c.value)) close) (statement_cells w found (statement st)) close end body v.items old mid new
    (ap (statement_cells w found) (if_is st at c close braces v end is)) same
    (lent_head (λ x. head_cells w at (codes "if") (expression_cells w (expression x)) close) e c.value old mid of first) last

pub while_pushed : (w : Within) (found : List ℕ) (st : Statement) (at : ℕ) (c : Box Expression Global) (close : ℕ) (braces : Bool) (v : Vec Statement Global) (end : ℕ)
    → (e : Expression) (body : List Statement) (old mid new : List Cell) → st ≡ stmts.While at c close braces v end → e ≡ c.value → body ≡ v.items
    → mid ≡ old ++ head_cells w at (codes "while") (expression_cells w (expression e)) close → new ≡ mid ++ block w found close end body
    → new ≡ old ++ statement_cells w found (statement st)
while_pushed w found st at c close braces v end e body old mid new is of same first last =
    bodied w found (head_cells w at (codes "while") (expression_cells w (expression c.value)) close) (statement_cells w found (statement st)) close end body v.items old mid new
    (ap (statement_cells w found) (while_is st at c close braces v end is)) same
    (lent_head (λ x. head_cells w at (codes "while") (expression_cells w (expression x)) close) e c.value old mid of first) last

pub skip_pushed : (w : Within) (found : List ℕ) (st : Statement) (at : ℕ) (c : Box Expression Global) (close : ℕ) (braces : Bool) (v : Vec Statement Global) (end : ℕ)
    → (e : Expression) (body : List Statement) (old mid new : List Cell) → st ≡ stmts.Skip at c close braces v end → e ≡ c.value → body ≡ v.items
    → mid ≡ old ++ head_cells w at if_word (other_way_cells w at close (expression e)) close → new ≡ mid ++ block w found close end body
    → new ≡ old ++ statement_cells w found (statement st)
skip_pushed w found st at c close braces v end e body old mid new is of same first last =
    bodied w found (head_cells w at if_word (other_way_cells w at close (expression c.value)) close) (statement_cells w found (statement st)) close end body v.items old mid new
    (ap (statement_cells w found) (skip_is st at c close braces v end is)) same
    (lent_head (λ x. head_cells w at if_word (other_way_cells w at close (expression x)) close) e c.value old mid of first) last

pub for_each_pushed : (w : Within) (found : List ℕ) (st : Statement) (at : ℕ) (inferred : Bool) (name : ℕ) (java : JavaType) (c : Box Expression Global) (close : ℕ) (braces : Bool) (v : Vec Statement Global) (end : ℕ)
    → (e : Expression) (body : List Statement) (old mid new : List Cell) → st ≡ stmts.ForEach at inferred name java c close braces v end → e ≡ c.value → body ≡ v.items
    → mid ≡ old ++ each_cells w at name java (expression_cells w (expression e)) close → new ≡ mid ++ block w found close end body
    → new ≡ old ++ statement_cells w found (statement st)
for_each_pushed w found st at inferred name java c close braces v end e body old mid new is of same first last =
    bodied w found (each_cells w at name java (expression_cells w (expression c.value)) close) (statement_cells w found (statement st)) close end body v.items old mid new
    (ap (statement_cells w found) (for_each_is st at inferred name java c close braces v end is)) same
    (lent_head (λ x. each_cells w at name java (expression_cells w (expression x)) close) e c.value old mid of first) last

pub for_index_pushed : (w : Within) (found : List ℕ) (st : Statement) (at list : ℕ) (first_sign : Bool) (name : ℕ) (java : JavaType) (v : Vec Statement Global) (close end : ℕ)
    → (body : List Statement) (old mid new : List Cell) → st ≡ stmts.ForIndex at list first_sign name java v close end → body ≡ v.items
    → mid ≡ old ++ each_cells w at name java (item_cells w list) name → new ≡ mid ++ block w found name end body → new ≡ old ++ statement_cells w found (statement st)
for_index_pushed w found st at list first_sign name java v close end body old mid new is same first last =
    bodied w found (each_cells w at name java (item_cells w list) name) (statement_cells w found (statement st)) name end body v.items old mid new
    (ap (statement_cells w found) (for_index_is st at list first_sign name java v close end is)) same first last

pub for_iterator_pushed : (w : Within) (found : List ℕ) (st : Statement) (at list name : ℕ) (java : JavaType) (v : Vec Statement Global) (close end : ℕ)
    → (body : List Statement) (old mid new : List Cell) → st ≡ stmts.ForIterator at list name java v close end → body ≡ v.items
    → mid ≡ old ++ each_cells w at name java (item_cells w list) name → new ≡ mid ++ block w found name end body → new ≡ old ++ statement_cells w found (statement st)
for_iterator_pushed w found st at list name java v close end body old mid new is same first last =
    bodied w found (each_cells w at name java (item_cells w list) name) (statement_cells w found (statement st)) name end body v.items old mid new
    (ap (statement_cells w found) (for_iterator_is st at list name java v close end is)) same first last

pub if_else_pushed : (w : Within) (found : List ℕ) (st : Statement) (at : ℕ) (c : Box Expression Global) (close : ℕ) (braces : Bool) (v : Vec Statement Global) (other_at : ℕ) (other_braces : Bool) (u : Vec Statement Global) (end : ℕ)
    → (e : Expression) (body other : List Statement) (old a b c' new : List Cell) → st ≡ stmts.IfElse at c close braces v other_at other_braces u end → e ≡ c.value → body ≡ v.items → other ≡ u.items
    → a ≡ old ++ head_cells w at (codes "if") (expression_cells w (expression e)) close → b ≡ a ++ block w found close other_at body
    → c' ≡ b ++ made w other_at (codes "else") → new ≡ c' ++ block w found other_at end other → new ≡ old ++ statement_cells w found (statement st)
if_else_pushed w found st at c close braces v other_at other_braces u end e body other old a b c' new is of same others first second third last =
    pushed old a new (head_cells w at (codes "if") (expression_cells w (expression c.value)) close)
    (block w found close other_at v.items ++ (made w other_at (codes "else") ++ block w found other_at end u.items))
    (lent_head (λ x. head_cells w at (codes "if") (expression_cells w (expression x)) close) e c.value old a of first)
    (pushed a b new (block w found close other_at v.items) (made w other_at (codes "else") ++ block w found other_at end u.items)
    (lent_block w found close other_at body v.items a b same second)
    (pushed b c' new (made w other_at (codes "else")) (block w found other_at end u.items) third (lent_block w found other_at end other u.items c' new others last)))
    ∙ ap (λ (l : List Cell). old ++ l) (sym (ap (statement_cells w found) (if_else_is st at c close braces v other_at other_braces u end is)))
