-- Statements that begin at different bytes, by the paths that lead to them.
use Rattle.std.proofs.Common.{◌≡◌, ℕ, zero, suc, ◌≤◌, ◌<◌, Bool, true, false, cond, List, [], ◌∷◌, Option, Some, None, refl, sym, ap, subst, ◌∙◌, arith}
use Rattle.std.specs.Prelude.{slice_get, ◌==◌}
use Rattle.std.proofs.lemmas.Bool.{eqb-true}
use Rattle.qbs_base.specs.declared.span.Span.{Span}
use Rattle.java_lex.specs.declared.token.Token.{Token}
use Rattle.java_lex.specs.Spans.{SamePlace}
use Rattle.java_ast.specs.Tree.{Statement, Statements, Nothing, Then, PlainMethod, PlainProgram}
use Rattle.java_ast.specs.Path.{found_in, branch_of, first_branch, either_branch, statement_in, statement_at}
use Rattle.java_ast.specs.Spans.{place_of}

-- a stretch begins with a token of which P holds, from the byte q on and before the byte r
pub record Begins (P : Token → Type 0) (q r : ℕ) (at : Span) : Type 0 where
  pub token : Token
  pub is : P token
  pub same : SamePlace at token.span
  pub start : at.start ≡ token.span.start
  pub from : q ≤ at.start
  pub before : at.start < r

-- the statements that paths lead to begin so, no two of them at the same byte
pub record Apart (P : Token → Type 0) (q r : ℕ) (led : List ℕ → Option Statement) : Type 0 where
  pub order : q ≤ r
  pub begins : (path : List ℕ) (s : Statement) → led path ≡ Some s → Begins P q r (place_of s)
  pub one : (a b : List ℕ) (s t : Statement) → led a ≡ Some s → led b ≡ Some t → (place_of s).start ≡ (place_of t).start → a ≡ b

wider : {P : Token → Type 0} {at : Span} (q r q' r' : ℕ) → Begins P q r at → q' ≤ q → r ≤ r' → Begins P q' r' at
wider q r q' r' h from to = record { token = h.token; is = h.is; same = h.same; start = h.start; from = omega (arith, h.from, from); before = omega (arith, h.before, to) }

pub widened : {P : Token → Type 0} {f : List ℕ → Option Statement} (q r q' r' : ℕ) → Apart P q r f → q' ≤ q → r ≤ r' → Apart P q' r' f
widened q r q' r' h from to = record { order = omega (arith, h.order, from, to); begins = λ path s e. wider q r q' r' (h.begins path s e) from to; one = h.one }

-- the same statements by the same paths
pub likewise : {P : Token → Type 0} {q r : ℕ} {f : List ℕ → Option Statement} (g : List ℕ → Option Statement) → ((path : List ℕ) → g path ≡ f path) → Apart P q r f → Apart P q r g
likewise g same h = record {
  order = h.order;
  begins = λ path s e. h.begins path s (sym (same path) ∙ e);
  one = λ a b s t e e' starts. h.one a b s t (sym (same a) ∙ e) (sym (same b) ∙ e') starts;
}

-- ---- none

abbrev pub none_led : List ℕ → Option Statement
none_led path = None

pub no_statement : {P : Token → Type 0} (q r : ℕ) → q ≤ r → Apart P q r none_led
no_statement q r le = record { order = le; begins = λ path s e. absurd cc; one = λ a b s t e e' starts. absurd cc }

-- ---- some by the number 0, and others by the further numbers

abbrev pub in_turn : (List ℕ → Option Statement) → (List ℕ → Option Statement) → List ℕ → Option Statement
in_turn f g [] = None
in_turn f g (zero ∷ path) = f path
in_turn f g (suc n ∷ path) = g (n ∷ path)

abbrev further : List ℕ → List ℕ
further [] = []
further (n ∷ path) = suc n ∷ path

pub both : {P : Token → Type 0} {f g : List ℕ → Option Statement} (q m r : ℕ) → Apart P q m f → Apart P m r g → Apart P q r (in_turn f g)
both {P} {f} {g} q m r h k = record { order = omega (arith, h.order, k.order); begins = begins; one = one }
  where
    begins : (path : List ℕ) (s : Statement) → in_turn f g path ≡ Some s → Begins P q r (place_of s)
    begins [] s e = absurd cc
    begins (zero ∷ path) s e = wider q m q r (h.begins path s e) (omega arith) k.order
    begins (suc n ∷ path) s e = wider m r q r (k.begins (n ∷ path) s e) h.order (omega arith)

    one : (a b : List ℕ) (s t : Statement) → in_turn f g a ≡ Some s → in_turn f g b ≡ Some t → (place_of s).start ≡ (place_of t).start → a ≡ b
    one [] b s t e e' starts = absurd cc
    one (zero ∷ a) [] s t e e' starts = absurd cc
    one (zero ∷ a) (zero ∷ b) s t e e' starts = ap (λ (c : List ℕ). 0 ∷ c) (h.one a b s t e e' starts)
    one (zero ∷ a) (suc n ∷ b) s t e e' starts = absurd (omega (arith, (h.begins a s e).before, (k.begins (n ∷ b) t e').from, starts))
    one (suc i ∷ a) [] s t e e' starts = absurd cc
    one (suc i ∷ a) (zero ∷ b) s t e e' starts = absurd (omega (arith, (h.begins b t e').before, (k.begins (i ∷ a) s e).from, starts))
    one (suc i ∷ a) (suc n ∷ b) s t e e' starts = ap further (k.one (i ∷ a) (n ∷ b) s t e e' starts)

-- ---- a statement, and those within it

abbrev pub with_inner : Statement → (List ℕ → Option Statement) → List ℕ → Option Statement
with_inner s g [] = Some s
with_inner s g (b ∷ path) = g (b ∷ path)

pub around : {P : Token → Type 0} {g : List ℕ → Option Statement} (q m r : ℕ) (s : Statement) → Begins P q r (place_of s) → (place_of s).start < m → Apart P m r g → Apart P q r (with_inner s g)
around {P} {g} q m r s h ahead k = record { order = omega (arith, h.from, h.before); begins = begins; one = one }
  where
    begins : (path : List ℕ) (u : Statement) → with_inner s g path ≡ Some u → Begins P q r (place_of u)
    begins [] u e = let is : s ≡ u = cc in subst (λ (v : Statement). Begins P q r (place_of v)) is h
    begins (b ∷ path) u e = wider m r q r (k.begins (b ∷ path) u e) (omega (arith, h.from, ahead)) (omega arith)

    -- none within the statement starts where it does
    later : (b : ℕ) (path : List ℕ) (u v : Statement) → s ≡ u → g (b ∷ path) ≡ Some v → (place_of u).start ≡ (place_of v).start → ⊥
    later b path u v is e starts = omega (arith, ahead, (k.begins (b ∷ path) v e).from, starts, ap (λ (w : Statement). (place_of w).start) is)

    one : (a b : List ℕ) (u v : Statement) → with_inner s g a ≡ Some u → with_inner s g b ≡ Some v → (place_of u).start ≡ (place_of v).start → a ≡ b
    one [] [] u v e e' starts = refl
    one [] (n ∷ b) u v e e' starts = let is : s ≡ u = cc in absurd (later n b u v is e' starts)
    one (i ∷ a) [] u v e e' starts = let is : s ≡ v = cc in absurd (later i a v u is e (sym starts))
    one (i ∷ a) (n ∷ b) u v e e' starts = k.one (i ∷ a) (n ∷ b) u v e e' starts

-- ---- blocks and statements

abbrev pub in_block : Statements → List ℕ → Option Statement
in_block block [] = None
in_block block (n ∷ path) = statement_in path n block

-- a statement itself, or one within it
abbrev pub within : Statement → List ℕ → Option Statement
within s [] = Some s
within s (b ∷ path) = found_in (λ (block : Statements). in_block block path) (branch_of b s)

none_found : {A : Type 0} (o : Option A) → found_in {A = A} {B = Statement} (λ (x : A). None) o ≡ None
none_found None = refl
none_found (Some x) = refl

nothing_is : (path : List ℕ) → in_block Nothing path ≡ none_led path
nothing_is [] = refl
nothing_is (n ∷ []) = refl
nothing_is (n ∷ b ∷ []) = refl
nothing_is (n ∷ b ∷ m ∷ path) = refl

pub nothing_apart : {P : Token → Type 0} (q : ℕ) → Apart P q q (in_block Nothing)
nothing_apart q = likewise (in_block Nothing) nothing_is (no_statement q q (omega arith))

then_is : (s : Statement) (ss : Statements) (path : List ℕ) → in_block (Then s ss) path ≡ in_turn (within s) (in_block ss) path
then_is s ss [] = refl
then_is s ss (zero ∷ []) = refl
then_is s ss (zero ∷ b ∷ []) = sym (none_found (branch_of b s))
then_is s ss (zero ∷ b ∷ m ∷ path) = refl
then_is s ss (suc n ∷ []) = refl
then_is s ss (suc n ∷ b ∷ []) = refl
then_is s ss (suc n ∷ b ∷ m ∷ path) = refl

pub then_apart : {P : Token → Type 0} (q m r : ℕ) (s : Statement) (ss : Statements) → Apart P q m (within s) → Apart P m r (in_block ss) → Apart P q r (in_block (Then s ss))
then_apart q m r s ss h k = likewise (in_block (Then s ss)) (then_is s ss) (both q m r h k)

-- ---- statements by how many branches they have

leaf_is : (s : Statement) → ((b : ℕ) → branch_of b s ≡ None) → (path : List ℕ) → within s path ≡ with_inner s none_led path
leaf_is s none [] = refl
leaf_is s none (b ∷ path) = ap (found_in (λ (block : Statements). in_block block path)) (none b)

pub leaf_apart : {P : Token → Type 0} (q r : ℕ) (s : Statement) → ((b : ℕ) → branch_of b s ≡ None) → Begins P q r (place_of s) → Apart P q r (within s)
leaf_apart q r s none h = likewise (within s) (leaf_is s none) (around q r r s h h.before (no_statement r r (omega arith)))

after_first : (b : ℕ) (body : Statements) → first_branch (suc b) body ≡ None
after_first b body = by (suc b == 0) refl
  where
    by : (v : Bool) → (suc b == 0) ≡ v → cond v (Some body) None ≡ None
    by true e = absurd (omega (arith, eqb-true (suc b) 0 e))
    by false e = refl

after_both : (b : ℕ) (first other : Statements) → either_branch (suc (suc b)) first other ≡ None
after_both b first other = by (suc (suc b) == 0) (suc (suc b) == 1) refl refl
  where
    by : (v w : Bool) → (suc (suc b) == 0) ≡ v → (suc (suc b) == 1) ≡ w → cond v (Some first) (cond w (Some other) None) ≡ None
    by true w e f = absurd (omega (arith, eqb-true (suc (suc b)) 0 e))
    by false true e f = absurd (omega (arith, eqb-true (suc (suc b)) 1 f))
    by false false e f = refl

one_is : (s : Statement) (body : Statements) → ((b : ℕ) → branch_of b s ≡ first_branch b body) → (path : List ℕ) → within s path ≡ with_inner s (in_turn (in_block body) none_led) path
one_is s body is [] = refl
one_is s body is (zero ∷ path) = ap (found_in (λ (block : Statements). in_block block path)) (is 0)
one_is s body is (suc b ∷ path) = ap (found_in (λ (block : Statements). in_block block path)) (is (suc b) ∙ after_first b body)

pub one_apart : {P : Token → Type 0} (q m r : ℕ) (s : Statement) (body : Statements) → ((b : ℕ) → branch_of b s ≡ first_branch b body) → Begins P q r (place_of s) → (place_of s).start < m
    → Apart P m r (in_block body) → Apart P q r (within s)
one_apart q m r s body is h ahead k =
    likewise (within s) (one_is s body is) (around q m r s h ahead (both m r r k (no_statement r r (omega arith))))

two_is : (s : Statement) (first other : Statements) → ((b : ℕ) → branch_of b s ≡ either_branch b first other) → (path : List ℕ)
    → within s path ≡ with_inner s (in_turn (in_block first) (in_turn (in_block other) none_led)) path
two_is s first other is [] = refl
two_is s first other is (zero ∷ path) = ap (found_in (λ (block : Statements). in_block block path)) (is 0)
two_is s first other is (suc zero ∷ path) = ap (found_in (λ (block : Statements). in_block block path)) (is 1)
two_is s first other is (suc (suc b) ∷ path) = ap (found_in (λ (block : Statements). in_block block path)) (is (suc (suc b)) ∙ after_both b first other)

pub two_apart : {P : Token → Type 0} (q m n r : ℕ) (s : Statement) (first other : Statements) → ((b : ℕ) → branch_of b s ≡ either_branch b first other) → Begins P q r (place_of s)
    → (place_of s).start < m → Apart P m n (in_block first) → Apart P n r (in_block other) → Apart P q r (within s)
two_apart q m n r s first other is h ahead k l =
    likewise (within s) (two_is s first other is) (around q m r s h ahead (both m n r k (both n r r l (no_statement r r (omega arith)))))

-- ---- methods

abbrev pub in_methods : List PlainMethod → List ℕ → Option Statement
in_methods [] path = None
in_methods (m ∷ ms) path = in_turn (in_block m.body) (in_methods ms) path

pub methods_apart : {P : Token → Type 0} (q m r : ℕ) (method : PlainMethod) (ms : List PlainMethod) → Apart P q m (in_block method.body) → Apart P m r (in_methods ms)
    → Apart P q r (in_methods (method ∷ ms))
methods_apart q m r method ms h k = likewise (in_methods (method ∷ ms)) (λ path. refl) (both q m r h k)

numbered_is : (ms : List PlainMethod) (n : ℕ) (path : List ℕ) → found_in (λ (m : PlainMethod). in_block m.body path) (slice_get ms n) ≡ in_methods ms (n ∷ path)
numbered_is [] n path = refl
numbered_is (m ∷ ms) zero path = refl
numbered_is (m ∷ ms) (suc n) path = numbered_is ms n path

none_is : (ms : List PlainMethod) → None ≡ in_methods ms []
none_is [] = refl
none_is (m ∷ ms) = refl

program_is : (p : PlainProgram) (path : List ℕ) → statement_at path p ≡ in_methods p.methods path
program_is p [] = none_is p.methods
program_is p (n ∷ []) = sym (none_found (slice_get p.methods n)) ∙ numbered_is p.methods n []
program_is p (n ∷ m ∷ path) = numbered_is p.methods n (m ∷ path)

pub program_apart : {P : Token → Type 0} (q r : ℕ) (p : PlainProgram) → Apart P q r (in_methods p.methods) → Apart P q r (λ path. statement_at path p)
program_apart q r p h = likewise (λ path. statement_at path p) (program_is p) h
