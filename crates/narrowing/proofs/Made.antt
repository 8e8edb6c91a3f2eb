-- What is put in place of statements as it is made.
use Rattle.std.specs.Prelude.{ℕ, zero, suc, Bool, Box, if◌then◌else◌, List, [], ◌∷◌, ◌++◌, Option, Some, None, Vec, Result, Ok, Err, IfOk}
use Rattle.std.proofs.Common.{◌≡◌, ◌-◌, ◌<◌, length, take, drop, codes, refl, sym, subst, ap, ap₂, ◌∙◌, arith, append_assoc, append-nil, length-append}
use Rattle.std.proofs.Math.Seq.{take-append_seam}
use Rattle.std.specs.Option.{option_map}
use Rattle.std.specs.declared.alloc.Global.{Global}
use Rattle.qbs_base.specs.declared.span.Span.{Span}
use Rattle.qbs_base.specs.Values.{Schema}
use Rattle.java_ast.specs.Path.{found_in, behind_of, last_of}
use Rattle.java_ast.specs.declared.tree.JTy.{JTy}
use Rattle.java_ast.specs.declared.tree.Expr.{Expr, out-Expr}
use Rattle.java_ast.specs.declared.tree.Stmt.{Stmt, out-Stmt}
use Rattle.java_ast.specs.declared.tree.StmtNode as stmts
use Rattle.java_ast.specs.Reading.{spelled, expression, statement, node_statement, statements}
use Rattle.java_ast.specs.Tree as plain
use Rattle.java_ast.specs.Tree.{Expression, Statement, Statements, PlainProgram}
use Rattle.java_ast.proofs.Nodes.{for_each_is}
use Rattle.java_text.specs.Canonical.{line_end, canonical_expression, canonical_statements}
use Rattle.spreads.specs.Alone.{walks_alone}
use Rattle.spreads.specs.Narrowed.{outer_block_at, query_of_body}
use Rattle.text_patches.specs.declared.patch.TextPatch.{TextPatch}
use Rattle.narrowing.specs.declared.instead.Instead.{Instead}
use Rattle.narrowing.specs.Narrowing.{patch_of, first_there, asked_each, asked_pair}
use Rattle.narrowing.specs.Replacing.{with_list, with_value, listed, declared, Replacement, replacement, replacement_of, replacing, asked_for, each_replaced, pair_replaced, before_replaced, block_replaced, replaced_for}
use Rattle.narrowing.proofs.Placed.{expression_place}
use Rattle.narrowing.proofs.Replaced.{asked_pair_is}

-- ---- The text

pub returned_text : (at : Span) (e : Expression) → canonical_statements [] (plain.Then (plain.Return at (Some e)) plain.Nothing) ≡ codes "return " ++ (canonical_expression 8 e ++ codes ";\n")
returned_text at e =
    append-nil ((codes "return " ++ canonical_expression 8 e) ++ (codes ";" ++ line_end))
    ∙ append_assoc (codes "return ") (canonical_expression 8 e) (codes ";" ++ line_end)

pub returned_made : (all : List Stmt) (s : Stmt) (e c : Expr) → all ≡ s ∷ [] → statement s ≡ plain.Return (out-Expr e).span (Some (expression c)) → expression c ≡ expression e → statements all ≡ plain.Then (plain.Return (out-Expr e).span (Some (expression e))) plain.Nothing
returned_made all s e c is put copied =
    ap statements is
    ∙ ap (λ (t : Statement). plain.Then t plain.Nothing) (put ∙ ap (λ (x : Expression). plain.Return (out-Expr e).span (Some x)) copied)

pub lines_made : (lines : List ℕ) (block items : List Stmt) (e : Expr) → lines ≡ canonical_statements [] (statements block) → block ≡ items → statements items ≡ plain.Then (plain.Return (out-Expr e).span (Some (expression e))) plain.Nothing → lines ≡ codes "return " ++ (canonical_expression 8 (expression e) ++ codes ";\n")
lines_made lines block items e printed lent is =
    printed ∙ ap (λ (l : List Stmt). canonical_statements [] (statements l)) lent ∙ ap (canonical_statements []) is ∙ returned_text (out-Expr e).span (expression e)

pub behind_word : (text rest x : List ℕ) (n : ℕ) → text ≡ codes "return " ++ x → n ≡ 7 → rest ≡ drop n text → rest ≡ x
behind_word text rest x n is seven e = e ∙ ap (λ (m : ℕ). drop m text) seven ∙ ap (drop 7) is

cut : (x : List ℕ) → take (length (x ++ codes ";\n") - 2) (x ++ codes ";\n") ≡ x
cut x =
    let k : length (x ++ codes ";\n") - 2 ≡ length x = omega (arith, length-append x (codes ";\n")) in
    ap (λ (m : ℕ). take m (x ++ codes ";\n")) k ∙ take-append_seam x (codes ";\n")

pub before_end : (text front x : List ℕ) (n : ℕ) → text ≡ x ++ codes ";\n" → n ≡ 2 → front ≡ take (length text - n) text → front ≡ x
before_end text front x n is two e = e ∙ ap (λ (m : ℕ). take (length text - m) text) two ∙ ap (λ (t : List ℕ). take (length t - 2) t) is ∙ cut x

abbrev patch : Span → List ℕ → TextPatch
patch at text = record { from = at.start; to = at.end; text = text }

pub patch_made : (e : Expr) (text : List ℕ) → text ≡ canonical_expression 8 (expression e) → patch (out-Expr e).span text ≡ patch_of (expression e)
patch_made e text is = ap₂ patch (sym (expression_place e)) is

-- ---- The statements

pub list_put : (s r : Stmt) (ty : JTy) (name : List ℕ) (list : Expr) (q : Expression) (v : Vec Stmt Global) → (out-Stmt s).node ≡ stmts.ForEach ty name list v → statement r ≡ plain.ForEach (out-Stmt s).span (spelled ty) name q (statements v.items) → statement r ≡ with_list q (statement s)
list_put s r ty name list q v is e = e ∙ ap (with_list q) (sym (for_each_is s ty name list v is))

pub value_put : (s r : Stmt) (ty : JTy) (name : List ℕ) (value : Expr) (q : Expression) → (out-Stmt s).node ≡ stmts.Declare ty name value → statement r ≡ plain.Declare (out-Stmt s).span (spelled ty) name q → statement r ≡ with_value q (statement s)
value_put s r ty name value q is e = e ∙ ap (λ n. with_value q (node_statement n (out-Stmt s).span)) (sym is)

pub listed_made : (block rest all : List Stmt) (s c r : Stmt) (q : Expression) → block ≡ s ∷ rest → statement c ≡ statement s → statement r ≡ with_list q (statement c) → all ≡ r ∷ [] → statements all ≡ listed (statements block) q
listed_made block rest all s c r q is copied put e =
    ap statements e
    ∙ ap (λ (t : Statement). plain.Then t plain.Nothing) (put ∙ ap (with_list q) copied)
    ∙ ap (λ (l : List Stmt). listed (statements l) q) (sym is)

pub both_made : (one all : List Stmt) (s t c d r : Stmt) (q : Expression) → statement c ≡ statement s → statement r ≡ with_value q (statement c) → one ≡ r ∷ [] → statement d ≡ statement t → all ≡ one ++ d ∷ [] → statements all ≡ plain.Then (with_value q (statement s)) (plain.Then (statement t) plain.Nothing)
both_made one all s t c d r q copied put is_one copied_too e =
    ap statements (e ∙ ap (λ (l : List Stmt). l ++ d ∷ []) is_one)
    ∙ ap (λ (x : Statement). plain.Then x (plain.Then (statement d) plain.Nothing)) (put ∙ ap (with_value q) copied)
    ∙ ap (λ (x : Statement). plain.Then (with_value q (statement s)) (plain.Then x plain.Nothing)) copied_too

pub declared_made : (block behind rest all : List Stmt) (s t : Stmt) (q : Expression) → block ≡ s ∷ behind → behind ≡ t ∷ rest → statements all ≡ plain.Then (with_value q (statement s)) (plain.Then (statement t) plain.Nothing) → statements all ≡ declared (statements block) q
declared_made block behind rest all s t q is is_behind e =
    e
    ∙ ap (λ (l : List Stmt). declared (statements (s ∷ l)) q) (sym is_behind)
    ∙ ap (λ (l : List Stmt). declared (statements l) q) (sym is)

pub none_declared : (block behind all : List Stmt) (s : Stmt) (q : Expression) → block ≡ s ∷ behind → length behind ≡ 0 → all ≡ [] → statements all ≡ declared (statements block) q
none_declared block [] all s q is none e = ap statements e ∙ ap (λ (l : List Stmt). declared (statements l) q) (sym is)
none_declared block (t ∷ behind) all s q is none e = absurd (omega arith)

-- ---- The query

pub each_asked : (schema : Schema) (block rest : List Stmt) (s : Stmt) (ty : JTy) (name : List ℕ) (list : Expr) (v : Vec Stmt Global) (o : Option Expression) → block ≡ s ∷ rest → (out-Stmt s).node ≡ stmts.ForEach ty name list v → o ≡ query_of_body schema (expression list) name (statements v.items) → o ≡ asked_each schema (statements block)
each_asked schema block rest s ty name list v o is node e =
    e
    ∙ ap (λ (t : Statement). asked_each schema (plain.Then t (statements rest))) (sym (for_each_is s ty name list v node))
    ∙ ap (λ (l : List Stmt). asked_each schema (statements l)) (sym is)

pub value_asked : (schema : Schema) (block rest : List Stmt) (s : Stmt) (ty : JTy) (name : List ℕ) (value : Expr) (o : Option Expression) → block ≡ s ∷ rest → (out-Stmt s).node ≡ stmts.Declare ty name value → o ≡ asked_for schema name (expression value) (statements rest) → o ≡ asked_pair schema (statements block)
value_asked schema block rest s ty name value o is node e =
    asked_pair_is schema (statement s) (statements rest) name (expression value) o e (out-Stmt s).span (spelled ty) (ap (λ n. node_statement n (out-Stmt s).span) node)
    ∙ ap (λ (l : List Stmt). asked_pair schema (statements l)) (sym is)

abbrev pub Asks : Option Expression → Option (Box Expr Global) → Type 0
Asks a o = option_map (λ (e : Box Expr Global). expression e.value) o ≡ a

pub for_asked : (schema : Schema) (block rest : List Stmt) (s : Stmt) (list : List ℕ) (value : Expression) (ty : JTy) (name : List ℕ) (e : Expr) (v : Vec Stmt Global) (o : Option Expression) (b : Bool) → block ≡ s ∷ rest → (out-Stmt s).node ≡ stmts.ForEach ty name e v → b ≡ walks_alone list (statements block) → o ≡ (if b then query_of_body schema value name (statements v.items) else None) → o ≡ asked_for schema list value (statements block)
for_asked schema block rest s list value ty name e v o b is node test asked =
    let there : statements block ≡ plain.Then (plain.ForEach (out-Stmt s).span (spelled ty) name (expression e) (statements v.items)) (statements rest) =
    ap statements is ∙ ap (λ (t : Statement). plain.Then t (statements rest)) (for_each_is s ty name e v node)
    in
    asked
    ∙ ap (λ (b : Bool). if b then query_of_body schema value name (statements v.items) else (let o : Option Expression = None in o)) (test ∙ ap (walks_alone list) there)
    ∙ ap (asked_for schema list value) (sym there)

-- ---- What is put there

abbrev pub Stands : Option Replacement → Option (Box Instead Global) → Type 0
Stands r o = option_map (λ (i : Box Instead Global). replacement i.value) o ≡ r

pub replacement_made : (n : ℕ) (others : Expression → Statements) (all : Statements) (patch : TextPatch) (q : Expression) (a : Option Expression) (r : Option Replacement) → Some q ≡ a → all ≡ others q → patch ≡ patch_of q → r ≡ Some (replacement_of n all patch) → r ≡ option_map (replacing n others) a
replacement_made n others all patch q a r there is_all is_patch e =
    e
    ∙ ap₂ (λ (all : Statements) (patch : TextPatch). Some (replacement_of n all patch)) is_all is_patch
    ∙ ap (option_map (replacing n others)) there

pub none_before_first : (schema : Schema) (n : ℕ) (block : Statements) → n ≡ 0 → None ≡ before_replaced schema n block
none_before_first schema zero block e = refl
none_before_first schema (suc n) block e = absurd (omega arith)

pub one_before : (schema : Schema) (n m : ℕ) (block rest : Statements) (o : Option Replacement) → 0 < n → m ≡ n - 1 → rest ≡ behind_of (n - 1) block → o ≡ pair_replaced schema m rest → o ≡ before_replaced schema n block
one_before schema zero m block rest o above less is e = absurd (omega arith)
one_before schema (suc n) m block rest o above less is e =
    let k : suc n - 1 ≡ n = omega arith in
    e ∙ ap (pair_replaced schema m) (is ∙ ap (λ (i : ℕ). behind_of i block) k) ∙ ap (λ (i : ℕ). pair_replaced schema i (behind_of n block)) (less ∙ k)

-- ---- For one of a block, and of a program

pub each_first : (schema : Schema) (n : ℕ) (block rest : Statements) (r : Replacement) → rest ≡ behind_of n block → Some r ≡ each_replaced schema n rest → Some r ≡ block_replaced schema n block
each_first schema n block rest r is e = ap (λ (o : Option Replacement). first_there o (before_replaced schema n block)) (e ∙ ap (each_replaced schema n) is)

pub before_then : (schema : Schema) (n : ℕ) (block rest : Statements) (b : Option Replacement) → rest ≡ behind_of n block → None ≡ each_replaced schema n rest → b ≡ before_replaced schema n block → b ≡ block_replaced schema n block
before_then schema n block rest b is e before = before ∙ ap (λ (o : Option Replacement). first_there o (before_replaced schema n block)) (e ∙ ap (each_replaced schema n) is)

pub none_replaced : (schema : Schema) (path : List ℕ) (p : PlainProgram) → None ≡ outer_block_at path p → None ≡ replaced_for schema path p
none_replaced schema path p e = ap (found_in (block_replaced schema (last_of path))) e

pub replaced_there : (schema : Schema) (path : List ℕ) (p : PlainProgram) (block : Statements) (n : ℕ) (o : Option Replacement) → Some block ≡ outer_block_at path p → n ≡ last_of path → o ≡ block_replaced schema n block → o ≡ replaced_for schema path p
replaced_there schema path p block n o there is e =
    e
    ∙ ap (λ (n : ℕ). found_in (block_replaced schema n) (Some block)) is
    ∙ ap (found_in (block_replaced schema (last_of path))) there

-- ---- Results in boxes

pub held_ok : {T E : Type 0} (found : Result T E) (r : Result (Box T Global) E) (P : T → Type 0) → IfOk found P → IfOk r (λ (b : Box T Global). found ≡ Ok b.value) → IfOk r (λ (b : Box T Global). P b.value)
held_ok {T} {E} found (Ok b) P h e = let Q : Result T E → Type 0 = λ (x : Result T E). IfOk x P in subst Q e h
held_ok found (Err y) P h e = tt
