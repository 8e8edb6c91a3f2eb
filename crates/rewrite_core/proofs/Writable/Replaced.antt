-- A program of the grammar that can be written stays one where statements give way to others that are of the grammar and can be
-- written.
use Rattle.std.proofs.Common.{ℕ, zero, suc, Bool, true, false, cond, ◌==◌, List, [], ◌∷◌}
use Rattle.java_ast.specs.Path.{and_then, first_of, behind_of, with_range, with_numbered, with_branch, replaced_in, with_body, with_method, replaced_at}
use Rattle.java_ast.specs.Tree.{Expression, Expressions, Statement, Declare, Assign, Add, Sort, If, IfElse, ForEach, While, Print, Return, Break, Statements, Nothing, Then, Spelled, PlainMethod, PlainProgram}
use Rattle.java_grammar.specs.InGrammar.{IsType, InExpression, InExpressions, InStatement, InStatements, InMethod, InMethods, IsInGrammar}
use Rattle.java_grammar.specs.Written.{WrittenType, WrittenExpression, WrittenExpressions, WrittenStatement, WrittenStatements, WrittenMethods, IsWritten}

-- ---- Of the grammar, and can be written

abbrev pub IsFine : Expression → Type 0
IsFine e = InExpression e × WrittenExpression e

abbrev pub AllFine : Expressions → Type 0
AllFine es = InExpressions es × WrittenExpressions es

abbrev pub IsFineStatement : Statement → Type 0
IsFineStatement s = InStatement s × WrittenStatement s

abbrev pub AreFineStatements : Statements → Type 0
AreFineStatements ss = InStatements ss × WrittenStatements ss

abbrev pub IsFineType : Spelled → Type 0
IsFineType ty = IsType ty × WrittenType ty

abbrev pub IsFineProgram : PlainProgram → Type 0
IsFineProgram p = IsInGrammar p × IsWritten p

-- ---- Statements one after the other

pub fine_then : (s : Statement) (ss : Statements) → IsFineStatement s → AreFineStatements ss → AreFineStatements (Then s ss)
fine_then s ss h k = ((h.0, k.0), (h.1, k.1))

pub fine_first : (s : Statement) (ss : Statements) → AreFineStatements (Then s ss) → IsFineStatement s
fine_first s ss h = (h.0.0, h.1.0)

pub fine_rest : (s : Statement) (ss : Statements) → AreFineStatements (Then s ss) → AreFineStatements ss
fine_rest s ss h = (h.0.1, h.1.1)

pub fine_nothing : AreFineStatements Nothing
fine_nothing = (tt, tt)

pub fine_both : (p q : Statements) → AreFineStatements p → AreFineStatements q → AreFineStatements (and_then p q)
fine_both Nothing q h k = k
fine_both (Then s p) q h k = fine_then s (and_then p q) (fine_first s p h) (fine_both p q (fine_rest s p h) k)

pub fine_front : (n : ℕ) (p : Statements) → AreFineStatements p → AreFineStatements (first_of n p)
fine_front zero p h = fine_nothing
fine_front (suc n) Nothing h = fine_nothing
fine_front (suc n) (Then s p) h = fine_then s (first_of n p) (fine_first s p h) (fine_front n p (fine_rest s p h))

pub fine_behind : (n : ℕ) (p : Statements) → AreFineStatements p → AreFineStatements (behind_of n p)
fine_behind zero p h = h
fine_behind (suc n) Nothing h = fine_nothing
fine_behind (suc n) (Then s p) h = fine_behind n p (fine_rest s p h)

-- ---- Replaced statements

fine_numbered : (n : ℕ) (change : Statement → Statement) (p : Statements) → ((s : Statement) → IsFineStatement s → IsFineStatement (change s)) → AreFineStatements p → AreFineStatements (with_numbered n change p)
fine_numbered n change Nothing c h = fine_nothing
fine_numbered zero change (Then s p) c h = fine_then (change s) p (c s (fine_first s p h)) (fine_rest s p h)
fine_numbered (suc n) change (Then s p) c h = fine_then s (with_numbered n change p) (fine_first s p h) (fine_numbered n change p c (fine_rest s p h))

fine_where : (b : Bool) (change : Statements → Statements) (p : Statements) → ((q : Statements) → AreFineStatements q → AreFineStatements (change q)) → AreFineStatements p → AreFineStatements (cond b (change p) p)
fine_where true change p c h = c p h
fine_where false change p c h = h

fine_branch : (b : ℕ) (change : Statements → Statements) (s : Statement) → ((q : Statements) → AreFineStatements q → AreFineStatements (change q)) → IsFineStatement s → IsFineStatement (with_branch b change s)
fine_branch b change (If at e first) c h = let k = fine_where (b == 0) change first c (h.0.1, h.1.1) in ((h.0.0, k.0), (h.1.0, k.1))
fine_branch b change (IfElse at e first other) c h =
    let k = fine_where (b == 0) change first c (h.0.1, h.1.1) in let l = fine_where (b == 1) change other c (h.0.2, h.1.2) in ((h.0.0, k.0, l.0), (h.1.0, k.1, l.1))
fine_branch b change (ForEach at ty name list body) c h =
    let k = fine_where (b == 0) change body c (h.0.3, h.1.3) in ((h.0.0, h.0.1, h.0.2, k.0), (h.1.0, h.1.1, h.1.2, k.1))
fine_branch b change (While at e body) c h = let k = fine_where (b == 0) change body c (h.0.1, h.1.1) in ((h.0.0, k.0), (h.1.0, k.1))
fine_branch b change (Declare at ty name value) c h = h
fine_branch b change (Assign at name value) c h = h
fine_branch b change (Add at name value) c h = h
fine_branch b change (Sort at name keys downs) c h = h
fine_branch b change (Print at value) c h = h
fine_branch b change (Return at value) c h = h
fine_branch b change (Break at) c h = h

fine_range : (first last : ℕ) (others p : Statements) → AreFineStatements others → AreFineStatements p → AreFineStatements (with_range first last others p)
fine_range first last others p k h = fine_both (first_of first p) (and_then others (behind_of (suc last) p)) (fine_front first p h) (fine_both others (behind_of (suc last) p) k (fine_behind (suc last) p h))

fine_replaced_in : (path : List ℕ) (n first : ℕ) (others p : Statements) → AreFineStatements others → AreFineStatements p → AreFineStatements (replaced_in path n first others p)
fine_replaced_in [] n first others p k h = fine_range first n others p k h
fine_replaced_in (b ∷ []) n first others p k h = h
fine_replaced_in (b ∷ m ∷ path) n first others p k h =
    fine_numbered n (with_branch b (replaced_in path m first others)) p (λ s i. fine_branch b (replaced_in path m first others) s (λ q j. fine_replaced_in path m first others q k j) i) h

-- ---- Replaced methods

abbrev AreFineMethods : List PlainMethod → Type 0
AreFineMethods ms = InMethods ms × WrittenMethods ms

fine_body : (m : PlainMethod) (body : Statements) (ms : List PlainMethod) → AreFineMethods (m ∷ ms) → AreFineStatements body → AreFineMethods (with_body m body ∷ ms)
fine_body m body ms h k =
    let g : InMethod m = h.0.0 in
    let own : InMethod (with_body m body) = record { result = g.result; name = g.name; params = g.params; body = k.0 } in
    ((own, h.0.1), ((h.1.0.0, h.1.0.1, h.1.0.2, k.1), h.1.1))

fine_method : (n : ℕ) (change : Statements → Statements) (ms : List PlainMethod) → ((q : Statements) → AreFineStatements q → AreFineStatements (change q)) → AreFineMethods ms → AreFineMethods (with_method n (λ (m : PlainMethod). with_body m (change m.body)) ms)
fine_method n change [] c h = h
fine_method zero change (m ∷ ms) c h = let g : InMethod m = h.0.0 in fine_body m (change m.body) ms h (c m.body (g.body, h.1.0.3))
fine_method (suc n) change (m ∷ ms) c h =
    let k = fine_method n change ms c (h.0.1, h.1.1) in ((h.0.0, k.0), (h.1.0, k.1))

-- The program with others in place of some statements is of the grammar and can be written, where both are.
pub fine_replaced : (path : List ℕ) (first : ℕ) (others : Statements) (p : PlainProgram) → AreFineStatements others → IsFineProgram p → IsFineProgram (replaced_at path first others p)
fine_replaced [] first others p k h = h
fine_replaced (m ∷ []) first others p k h = h
fine_replaced (m ∷ n ∷ path) first others p k h =
    let g : IsInGrammar p = h.0 in
    let w : IsWritten p = h.1 in
    let ms = fine_method m (replaced_in path n first others) p.methods (λ q i. fine_replaced_in path n first others q k i) (g.methods, w.methods) in
    (record { «package» = g.«package»; imports = g.imports; name = g.name; methods = ms.0 }, record { «package» = w.«package»; imports = w.imports; name = w.name; methods = ms.1 })
