-- The loops that are found while a program is walked.
use Rattle.std.specs.Prelude.{ℕ, suc, List, [], ◌∷◌, ◌++◌, Vec, Option, Some, None}
use Rattle.std.proofs.Common.{◌≡◌, sym, ap, ◌∙◌, ◌+◌, ◌<◌, length, drop, map, get_or, drop-cons, add-one, append_assoc}
use Rattle.std.specs.declared.alloc.Global.{Global}
use Rattle.java_ast.specs.declared.tree.JTy.{JTy}
use Rattle.java_ast.specs.declared.tree.Expr.{Expr}
use Rattle.java_ast.specs.declared.tree.Stmt.{Stmt, out-Stmt}
use Rattle.java_ast.specs.declared.tree.StmtNode.{If, ForEach, While}
use Rattle.java_ast.specs.declared.tree.Method.{Method}
use Rattle.java_ast.specs.Reading.{statement, statements, method}
use Rattle.java_ast.specs.Tree.{Statement}
use Rattle.java_ast.proofs.Nodes.{if_is, if_else_is, for_each_is, while_is}
use Rattle.loop_text.specs.Statements.Loops.{loops_in, loops_among, loops_of_methods}

-- the item of a loop, and what is left after it
pub next_item : {A : Type 0} (xs : List A) (i : ℕ) (x : A) → i < length xs → x ≡ get_or xs i x → drop i xs ≡ x ∷ drop (i + 1) xs
next_item xs i x h is = rw add-one (drop-cons xs i x h ∙ ap (λ y. y ∷ drop (suc i) xs) (sym is))

-- one part more is found
pub further : {A : Type 0} (found new first rest all : List A) → new ≡ found ++ first → found ++ (first ++ rest) ≡ all → new ++ rest ≡ all
further found new first rest all pushed whole = ap (λ xs. xs ++ rest) pushed ∙ append_assoc found first rest ∙ whole

pub statement_found : (path : List ℕ) (i : ℕ) (block rest : List Stmt) (s : Stmt) (found new all : List (List ℕ)) → block ≡ s ∷ rest → new ≡ found ++ loops_in (path ++ i ∷ []) (statement s) → found ++ loops_among path i (statements block) ≡ all → new ++ loops_among path (i + 1) (statements rest) ≡ all
statement_found path i block rest s found new all is pushed whole =
    rw add-one (further found new (loops_in (path ++ i ∷ []) (statement s)) (loops_among path (suc i) (statements rest)) all pushed (ap (λ (ss : List Stmt). found ++ loops_among path i (statements ss)) (sym is) ∙ whole))

pub method_found : (i : ℕ) (methods rest : List Method) (m : Method) (path : List ℕ) (found new all : List (List ℕ)) → methods ≡ m ∷ rest → path ≡ i ∷ [] → new ≡ found ++ loops_among path 0 (statements m.body) → found ++ loops_of_methods i (map method methods) ≡ all → new ++ loops_of_methods (i + 1) (map method rest) ≡ all
method_found i methods rest m path found new all is is_path pushed whole =
    rw add-one (further found new (loops_among (i ∷ []) 0 (statements m.body)) (loops_of_methods (suc i) (map method rest)) all (pushed ∙ ap (λ (p : List ℕ). found ++ loops_among p 0 (statements m.body)) is_path) (ap (λ (ms : List Method). found ++ loops_of_methods i (map method ms)) (sym is) ∙ whole))

-- what is found in a statement with branches, where each branch is what was lent
pub if_found : (s : Stmt) (cond : Expr) (v : Vec Stmt Global) (o : Option (Vec Stmt Global)) (here path : List ℕ) (ss : List Stmt) (found new : List (List ℕ)) → (out-Stmt s).node ≡ If cond v o → o ≡ None → ss ≡ v.items → here ≡ path → new ≡ found ++ loops_among (here ++ 0 ∷ []) 0 (statements ss) → new ≡ found ++ loops_in path (statement s)
if_found s cond v o here path ss found new is none lent same pushed =
    pushed
    ∙ ap (λ (ts : List Stmt). found ++ loops_among (here ++ 0 ∷ []) 0 (statements ts)) lent
    ∙ ap (λ (p : List ℕ). found ++ loops_among (p ++ 0 ∷ []) 0 (statements v.items)) same
    ∙ ap (λ (t : Statement). found ++ loops_in path t) (sym (if_is s cond v o is none))

pub if_else_found : (s : Stmt) (cond : Expr) (v w : Vec Stmt Global) (o : Option (Vec Stmt Global)) (here here' path : List ℕ) (ss ts : List Stmt) (found between new : List (List ℕ)) → (out-Stmt s).node ≡ If cond v o → o ≡ Some w → ss ≡ v.items → ts ≡ w.items → here ≡ path → here' ≡ path → between ≡ found ++ loops_among (here ++ 0 ∷ []) 0 (statements ss) → new ≡ between ++ loops_among (here' ++ 1 ∷ []) 0 (statements ts) → new ≡ found ++ loops_in path (statement s)
if_else_found s cond v w o here here' path ss ts found between new is some lent lent' same same' first second =
    second
    ∙ ap (λ (xs : List (List ℕ)). xs ++ loops_among (here' ++ 1 ∷ []) 0 (statements ts)) first
    ∙ append_assoc found (loops_among (here ++ 0 ∷ []) 0 (statements ss)) (loops_among (here' ++ 1 ∷ []) 0 (statements ts))
    ∙ ap (λ (xs : List Stmt). found ++ (loops_among (here ++ 0 ∷ []) 0 (statements xs) ++ loops_among (here' ++ 1 ∷ []) 0 (statements ts))) lent
    ∙ ap (λ (xs : List Stmt). found ++ (loops_among (here ++ 0 ∷ []) 0 (statements v.items) ++ loops_among (here' ++ 1 ∷ []) 0 (statements xs))) lent'
    ∙ ap (λ (p : List ℕ). found ++ (loops_among (p ++ 0 ∷ []) 0 (statements v.items) ++ loops_among (here' ++ 1 ∷ []) 0 (statements w.items))) same
    ∙ ap (λ (p : List ℕ). found ++ (loops_among (path ++ 0 ∷ []) 0 (statements v.items) ++ loops_among (p ++ 1 ∷ []) 0 (statements w.items))) same'
    ∙ ap (λ (t : Statement). found ++ loops_in path t) (sym (if_else_is s cond v w o is some))

loop_found : (path here : List ℕ) (ss items : List Stmt) (found new : List (List ℕ)) → ss ≡ items → here ≡ path → new ≡ found ++ here ∷ loops_among (here ++ 0 ∷ []) 0 (statements ss) → new ≡ found ++ path ∷ loops_among (path ++ 0 ∷ []) 0 (statements items)
loop_found path here ss items found new lent same pushed =
    pushed
    ∙ ap (λ (xs : List Stmt). found ++ here ∷ loops_among (here ++ 0 ∷ []) 0 (statements xs)) lent
    ∙ ap (λ (p : List ℕ). found ++ p ∷ loops_among (p ++ 0 ∷ []) 0 (statements items)) same

pub for_each_found : (s : Stmt) (ty : JTy) (name : List ℕ) (list : Expr) (v : Vec Stmt Global) (here path : List ℕ) (ss : List Stmt) (found new : List (List ℕ)) → (out-Stmt s).node ≡ ForEach ty name list v → ss ≡ v.items → here ≡ path → new ≡ found ++ here ∷ loops_among (here ++ 0 ∷ []) 0 (statements ss) → new ≡ found ++ loops_in path (statement s)
for_each_found s ty name list v here path ss found new is lent same pushed =
    loop_found path here ss v.items found new lent same pushed
    ∙ ap (λ (t : Statement). found ++ loops_in path t) (sym (for_each_is s ty name list v is))

pub while_found : (s : Stmt) (cond : Expr) (v : Vec Stmt Global) (here path : List ℕ) (ss : List Stmt) (found new : List (List ℕ)) → (out-Stmt s).node ≡ While cond v → ss ≡ v.items → here ≡ path → new ≡ found ++ here ∷ loops_among (here ++ 0 ∷ []) 0 (statements ss) → new ≡ found ++ loops_in path (statement s)
while_found s cond v here path ss found new is lent same pushed =
    loop_found path here ss v.items found new lent same pushed
    ∙ ap (λ (t : Statement). found ++ loops_in path t) (sym (while_is s cond v is))
