-- Statements with bodies: from where a body begins, if it does, to behind it.
use Rattle.std.specs.Prelude.{Bool, true, false, codes, length}
use Rattle.std.proofs.Common.{◌≡◌, ℕ, List, Option, Some, None, refl, sym, ap, ◌∙◌}
use Rattle.view_rules.specs.declared.java_type.JavaType.{JavaType}
use Rattle.view_rules.specs.declared.sight.Sighted.{Sighted}
use Rattle.view_rules.specs.Options.{◌>>=◌}
use Rattle.view_rules.specs.Tree.{PlainExpression}
use Rattle.view_statements.specs.declared.frame.Place.{Place}
use Rattle.view_statements.specs.Places.{Frame, inside, beside, in_loop, with_own}
use Rattle.view_statements.specs.Statements.{Passed, with_sight, left, conditional, each_from, index_head, iterator_head, skip_head, past_brace, past_body, past_then, past_block, past_rest, past_else, other_from, statement_of, statements_of, body_of, other_of}
use Rattle.view_rules.specs.declared.expression.Expression.{Expression}
use Rattle.view_rules.specs.Reading.{expression}
use Rattle.view_statements.specs.declared.statement.Statement.{Statement}
use Rattle.view_statements.specs.Reading.{statements}
use Rattle.view_statements.specs.Tree.{PlainStatement, PlainStatements}
use Rattle.view_statements.specs.Tree as plain

-- what leaves a body leaves it where it begins
left_from : (n : ℕ) (past : ℕ → Option ℕ) (begun : Option ℕ) (inner : ℕ → Option Passed)
    → left n past (begun >>= inner) ≡ (begun >>= λ b. left n past (inner b))
left_from n past None inner = refl
left_from n past (Some b) inner = refl

-- a number and the sight there, taken apart
taken_apart : (s : List Sighted) (r : Option ℕ) (inner : List Sighted → ℕ → Option Passed)
    → (with_sight s r >>= λ e. inner e.1 e.0) ≡ (r >>= inner s)
taken_apart s None inner = refl
taken_apart s (Some i) inner = refl

body_is : (f : Frame) (p : Place) (s : List Sighted) (body : PlainStatements) (begun : Option ℕ)
    → body_of f p s body begun ≡ (begun >>= λ b. statements_of f p s body b)
body_is f p s body None = refl
body_is f p s body (Some i) = refl

-- one body
one_body : (n len : ℕ) (past : ℕ → Option ℕ) (mid new : List Sighted) (r q begun seen : Option ℕ) (inner : ℕ → Option Passed)
    → begun ≡ seen → len ≡ n → with_sight mid r ≡ (begun >>= inner) → with_sight new q ≡ left len past (with_sight mid r)
    → with_sight new q ≡ (seen >>= λ b. left n past (inner b))
one_body n len past mid new r q begun seen inner is same body last =
    last ∙ ap (left len past) body ∙ ap (λ (m : ℕ). left m past (begun >>= inner)) same ∙ left_from n past begun inner
    ∙ ap (λ (o : Option ℕ). o >>= λ b. left n past (inner b)) is

-- the second of two, from behind the first
second_body : (n : ℕ) (past : ℕ → Option ℕ) (mid : List Sighted) (r : Option ℕ) (other : ℕ → Option ℕ) (inner : List Sighted → ℕ → Option Passed)
    → left n past ((r >>= other) >>= inner mid) ≡ (with_sight mid r >>= λ e. other e.0 >>= λ c. left n past (inner e.1 c))
second_body n past mid None other inner = refl
second_body n past mid (Some i) other inner = left_from n past (other i) (inner mid)

-- one after the other
one_by_one : (begun : Option ℕ) (first : ℕ → Option Passed) (further : Passed → Option Passed)
    → ((begun >>= first) >>= further) ≡ (begun >>= λ b. first b >>= further)
one_by_one None first further = refl
one_by_one (Some b) first further = refl

-- two bodies
two_bodies : (n len : ℕ) (past_one past_two : ℕ → Option ℕ) (mid out within new : List Sighted) (r behind q last begun seen next : Option ℕ)
    (one : ℕ → Option Passed) (other : ℕ → Option ℕ) (two : List Sighted → ℕ → Option Passed)
    → begun ≡ seen → len ≡ n → with_sight mid r ≡ (begun >>= one) → with_sight out behind ≡ left len past_one (with_sight mid r)
    → next ≡ (behind >>= other) → with_sight within q ≡ (next >>= two out) → with_sight new last ≡ left len past_two (with_sight within q)
    → with_sight new last ≡ (seen >>= λ b. left n past_one (one b) >>= λ e. other e.0 >>= λ c. left n past_two (two e.1 c))
two_bodies n len past_one past_two mid out within new r behind q last begun seen next one other two is same first left_first goes_on second left_second =
    left_second ∙ ap (left len past_two) second ∙ ap (λ (m : ℕ). left m past_two (next >>= two out)) same
    ∙ ap (λ (o : Option ℕ). left n past_two (o >>= two out)) goes_on ∙ second_body n past_two out behind other two
    ∙ ap (λ (o : Option Passed). o >>= λ e. other e.0 >>= λ c. left n past_two (two e.1 c))
    (one_body n len past_one mid out r behind begun seen one is same first left_first)
    ∙ one_by_one seen (λ b. left n past_one (one b)) (λ e. other e.0 >>= λ c. left n past_two (two e.1 c))

-- ---- With a variable more in sight

pub turn_passed : (f : Frame) (p : Place) (s mid new : List Sighted) (name : ℕ) (java : JavaType) (body : PlainStatements) (begun r q : Option ℕ)
    → with_sight mid r ≡ with_sight (with_own f s name java) begun → with_sight new q ≡ body_of f p mid body r
    → with_sight new q ≡ body_of f p (with_own f s name java) body begun
turn_passed f p s mid new name java body begun r q declared last =
    last ∙ body_is f p mid body r ∙ sym (taken_apart mid r (λ v b. statements_of f p v body b))
    ∙ ap (λ (o : Option Passed). o >>= λ e. statements_of f p e.1 body e.0) declared
    ∙ taken_apart (with_own f s name java) begun (λ v b. statements_of f p v body b) ∙ sym (body_is f p (with_own f s name java) body begun)

-- ---- Each kind of statement

pub if_passed : (f : Frame) (p : Place) (s mid new : List Sighted) (st : PlainStatement) (at : ℕ) (condition : PlainExpression) (close : ℕ) (braces : Bool)
    (body : PlainStatements) (end i len : ℕ) (begun r q : Option ℕ)
    → st ≡ plain.If at condition close braces body end → begun ≡ conditional f s (codes "if") at condition close braces body i → len ≡ length s
    → with_sight mid r ≡ body_of f (inside p) s body begun → with_sight new q ≡ left len (past_then f braces end) (with_sight mid r)
    → with_sight new q ≡ statement_of f p s st i
if_passed f p s mid new st at condition close braces body end i len begun r q is begins same inner last =
    one_body (length s) len (past_then f braces end) mid new r q begun (conditional f s (codes "if") at condition close braces body i)
    (λ b. statements_of f (inside p) s body b) begins same (inner ∙ body_is f (inside p) s body begun) last
    ∙ ap (λ (x : PlainStatement). statement_of f p s x i) (sym is)

pub while_passed : (f : Frame) (p : Place) (s mid new : List Sighted) (st : PlainStatement) (at : ℕ) (condition : PlainExpression) (close : ℕ) (braces : Bool)
    (body : PlainStatements) (end i len : ℕ) (begun r q : Option ℕ)
    → st ≡ plain.While at condition close braces body end → begun ≡ conditional f s (codes "while") at condition close braces body i → len ≡ length s
    → with_sight mid r ≡ body_of f (in_loop p false) s body begun → with_sight new q ≡ left len (past_body f braces end) (with_sight mid r)
    → with_sight new q ≡ statement_of f p s st i
while_passed f p s mid new st at condition close braces body end i len begun r q is begins same inner last =
    one_body (length s) len (past_body f braces end) mid new r q begun (conditional f s (codes "while") at condition close braces body i)
    (λ b. statements_of f (in_loop p false) s body b) begins same (inner ∙ body_is f (in_loop p false) s body begun) last
    ∙ ap (λ (x : PlainStatement). statement_of f p s x i) (sym is)

pub skip_passed : (f : Frame) (p : Place) (s mid new : List Sighted) (st : PlainStatement) (at : ℕ) (condition : PlainExpression) (close : ℕ) (braces : Bool)
    (body : PlainStatements) (end i len : ℕ) (begun r q : Option ℕ)
    → st ≡ plain.Skip at condition close braces body end → begun ≡ skip_head f p s at condition close braces i → len ≡ length s
    → with_sight mid r ≡ body_of f (beside p) s body begun → with_sight new q ≡ left len (past_rest f end) (with_sight mid r)
    → with_sight new q ≡ statement_of f p s st i
skip_passed f p s mid new st at condition close braces body end i len begun r q is begins same inner last =
    one_body (length s) len (past_rest f end) mid new r q begun (skip_head f p s at condition close braces i)
    (λ b. statements_of f (beside p) s body b) begins same (inner ∙ body_is f (beside p) s body begun) last
    ∙ ap (λ (x : PlainStatement). statement_of f p s x i) (sym is)

pub each_passed : (f : Frame) (p : Place) (s mid new : List Sighted) (st : PlainStatement) (at : ℕ) (by_var : Bool) (name : ℕ) (java : JavaType)
    (walked : PlainExpression) (close : ℕ) (braces : Bool) (body : PlainStatements) (end i len : ℕ) (begun r q : Option ℕ)
    → st ≡ plain.ForEach at by_var name java walked close braces body end
    → begun ≡ each_from f s at by_var name java walked close braces body i → len ≡ length s
    → with_sight mid r ≡ body_of f (in_loop p braces) (with_own f s name java) body begun
    → with_sight new q ≡ left len (past_body f braces end) (with_sight mid r) → with_sight new q ≡ statement_of f p s st i
each_passed f p s mid new st at by_var name java walked close braces body end i len begun r q is begins same inner last =
    one_body (length s) len (past_body f braces end) mid new r q begun (each_from f s at by_var name java walked close braces body i)
    (λ b. statements_of f (in_loop p braces) (with_own f s name java) body b) begins same (inner ∙ body_is f (in_loop p braces) (with_own f s name java) body begun) last
    ∙ ap (λ (x : PlainStatement). statement_of f p s x i) (sym is)

pub index_passed : (f : Frame) (p : Place) (s mid new : List Sighted) (st : PlainStatement) (at list : ℕ) (first : Bool) (name : ℕ) (java : JavaType)
    (body : PlainStatements) (close end i len : ℕ) (begun r q : Option ℕ)
    → st ≡ plain.ForIndex at list first name java body close end → begun ≡ index_head f s at list first name java close i → len ≡ length s
    → with_sight mid r ≡ body_of f (in_loop p true) (with_own f s name java) body begun
    → with_sight new q ≡ left len (past_block f close end) (with_sight mid r) → with_sight new q ≡ statement_of f p s st i
index_passed f p s mid new st at list first name java body close end i len begun r q is begins same inner last =
    one_body (length s) len (past_block f close end) mid new r q begun (index_head f s at list first name java close i)
    (λ b. statements_of f (in_loop p true) (with_own f s name java) body b) begins same (inner ∙ body_is f (in_loop p true) (with_own f s name java) body begun) last
    ∙ ap (λ (x : PlainStatement). statement_of f p s x i) (sym is)

pub iterator_passed : (f : Frame) (p : Place) (s mid new : List Sighted) (st : PlainStatement) (at list name : ℕ) (java : JavaType)
    (body : PlainStatements) (close end i len : ℕ) (begun r q : Option ℕ)
    → st ≡ plain.ForIterator at list name java body close end → begun ≡ iterator_head f s at list name java close i → len ≡ length s
    → with_sight mid r ≡ body_of f (in_loop p true) (with_own f s name java) body begun
    → with_sight new q ≡ left len (past_block f close end) (with_sight mid r) → with_sight new q ≡ statement_of f p s st i
iterator_passed f p s mid new st at list name java body close end i len begun r q is begins same inner last =
    one_body (length s) len (past_block f close end) mid new r q begun (iterator_head f s at list name java close i)
    (λ b. statements_of f (in_loop p true) (with_own f s name java) body b) begins same (inner ∙ body_is f (in_loop p true) (with_own f s name java) body begun) last
    ∙ ap (λ (x : PlainStatement). statement_of f p s x i) (sym is)

pub if_else_passed : (f : Frame) (p : Place) (s mid out within new : List Sighted) (st : PlainStatement) (at : ℕ) (condition : PlainExpression) (close : ℕ)
    (braces : Bool) (body : PlainStatements) (other_at : ℕ) (other_braces : Bool) (other : PlainStatements) (end i len : ℕ) (begun next r behind q last : Option ℕ)
    → st ≡ plain.IfElse at condition close braces body other_at other_braces other end
    → begun ≡ conditional f s (codes "if") at condition close braces body i → len ≡ length s
    → with_sight mid r ≡ body_of f (inside p) s body begun → with_sight out behind ≡ left len (past_brace f braces) (with_sight mid r)
    → next ≡ other_from f other_at other_braces other behind → with_sight within q ≡ other_of f p out st next
    → with_sight new last ≡ left len (past_body f other_braces end) (with_sight within q) → with_sight new last ≡ statement_of f p s st i
if_else_passed f p s mid out within new st at condition close braces body other_at other_braces other end i len begun next r behind q last
    is begins same first left_first goes_on second left_second =
    two_bodies (length s) len (past_brace f braces) (past_body f other_braces end) mid out within new r behind q last begun
    (conditional f s (codes "if") at condition close braces body i) next (λ b. statements_of f (inside p) s body b)
    (λ e. past_else f other_at other_braces other e) (λ v c. statements_of f (inside p) v other c)
    begins same (first ∙ body_is f (inside p) s body begun) left_first goes_on (second ∙ ap (λ (x : PlainStatement). other_of f p out x next) is ∙ body_is f (inside p) out other next) left_second
    ∙ ap (λ (x : PlainStatement). statement_of f p s x i) (sym is)

-- ---- From what is lent to what it is of

pub conditional_at : (f : Frame) (seen s : List Sighted) (word : List ℕ) (at : ℕ) (e condition : Expression) (close : ℕ) (braces : Bool)
    (slice body : List Statement) (i : ℕ) (begun : Option ℕ)
    → begun ≡ conditional f seen word at (expression e) close braces (statements slice) i → seen ≡ s → e ≡ condition → slice ≡ body
    → begun ≡ conditional f s word at (expression condition) close braces (statements body) i
conditional_at f seen s word at e condition close braces slice body i begun is sees same lent =
    is ∙ ap (λ (v : List Sighted). conditional f v word at (expression e) close braces (statements slice) i) sees
    ∙ ap (λ (x : Expression). conditional f s word at (expression x) close braces (statements slice) i) same
    ∙ ap (λ (l : List Statement). conditional f s word at (expression condition) close braces (statements l) i) lent

pub each_at : (f : Frame) (seen s : List Sighted) (at : ℕ) (by_var : Bool) (name : ℕ) (java : JavaType) (e walked : Expression) (close : ℕ) (braces : Bool)
    (slice body : List Statement) (i : ℕ) (begun : Option ℕ)
    → begun ≡ each_from f seen at by_var name java (expression e) close braces (statements slice) i → seen ≡ s → e ≡ walked → slice ≡ body
    → begun ≡ each_from f s at by_var name java (expression walked) close braces (statements body) i
each_at f seen s at by_var name java e walked close braces slice body i begun is sees same lent =
    is ∙ ap (λ (v : List Sighted). each_from f v at by_var name java (expression e) close braces (statements slice) i) sees
    ∙ ap (λ (x : Expression). each_from f s at by_var name java (expression x) close braces (statements slice) i) same
    ∙ ap (λ (l : List Statement). each_from f s at by_var name java (expression walked) close braces (statements l) i) lent

pub skip_at : (f : Frame) (p : Place) (seen s : List Sighted) (at : ℕ) (e condition : Expression) (close : ℕ) (braces : Bool) (i : ℕ) (begun : Option ℕ)
    → begun ≡ skip_head f p seen at (expression e) close braces i → seen ≡ s → e ≡ condition → begun ≡ skip_head f p s at (expression condition) close braces i
skip_at f p seen s at e condition close braces i begun is sees same =
    is ∙ ap (λ (v : List Sighted). skip_head f p v at (expression e) close braces i) sees
    ∙ ap (λ (x : Expression). skip_head f p s at (expression x) close braces i) same

pub body_at : (f : Frame) (place p : Place) (s mid : List Sighted) (slice body : List Statement) (r begun : Option ℕ)
    → with_sight mid r ≡ body_of f place s (statements slice) begun → place ≡ p → slice ≡ body → with_sight mid r ≡ body_of f p s (statements body) begun
body_at f place p s mid slice body r begun is there lent =
    is ∙ ap (λ (x : Place). body_of f x s (statements slice) begun) there ∙ ap (λ (l : List Statement). body_of f p s (statements l) begun) lent

pub further_at : (f : Frame) (other_at : ℕ) (braces : Bool) (slice other : List Statement) (behind next : Option ℕ)
    → next ≡ other_from f other_at braces (statements slice) behind → slice ≡ other → next ≡ other_from f other_at braces (statements other) behind
further_at f other_at braces slice other behind next is lent =
    is ∙ ap (λ (l : List Statement). other_from f other_at braces (statements l) behind) lent

-- what stands behind `else`
pub other_at : (f : Frame) (place p : Place) (s mid : List Sighted) (st : PlainStatement) (at : ℕ) (condition : PlainExpression) (close : ℕ) (braces : Bool)
    (body : PlainStatements) (at_else : ℕ) (other_braces : Bool) (slice other : List Statement) (end : ℕ) (r begun : Option ℕ)
    → with_sight mid r ≡ body_of f place s (statements slice) begun → place ≡ inside p → slice ≡ other
    → st ≡ plain.IfElse at condition close braces body at_else other_braces (statements other) end → with_sight mid r ≡ other_of f p s st begun
other_at f place p s mid st at condition close braces body at_else other_braces slice other end r begun seen there lent is =
    body_at f place (inside p) s mid slice other r begun seen there lent ∙ ap (λ (x : PlainStatement). other_of f p s x begun) (sym is)
