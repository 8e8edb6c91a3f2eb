-- The statements of a program begin at tokens of its text, each at one of its own.
use Rattle.std.proofs.Common.{◌≡◌, ℕ, ◌-◌, ◌≤◌, ◌<◌, Bool, List, [], ◌∷◌, ◌++◌, length, get_or, Option, Some, None, refl, sym, ap, subst, ◌∙◌, arith, inl, inr}
use Rattle.std.specs.Prelude.{pred}
use Rattle.std.proofs.lemmas.Option.{slice_get-get_or}
use Rattle.qbs_base.specs.declared.span.Span.{Span}
use Rattle.java_lex.specs.declared.token.Token.{Token}
use Rattle.java_ast.specs.Tree.{Spelled, Expression, Statement, Statements, Declare, If, IfElse, ForEach, While, Return, Break, Nothing, Then as Followed, PlainMethod, PlainProgram}
use Rattle.java_ast.specs.Path.{branch_of, first_branch, either_branch, statement_at}
use Rattle.java_grammar.specs.Marks.{Tok, bounds, tokens_of, extent}
use Rattle.java_grammar.specs.Rules.{Or, Many}
use Rattle.java_grammar.specs.Types.{Spelling}
use Rattle.java_grammar.specs.Statements.{Increase, Increment, MemberCall, NamedRest, Plain, Declaration, IfHead, WhileHead, ForHead, HasStatement, plain, if_alone, if_else, for_each, while, HasBody, block, single, HasBlock, braces, HasStatements, none, declared, stated}
use Rattle.java_grammar.specs.Grammar.{Method, Class, ProgramIn}
use Rattle.java_ast.specs.Spans.{place_of}
use Rattle.java_grammar.proofs.Apart.{Begins, Apart, widened, no_statement, in_block, within, nothing_apart, then_apart, leaf_apart, one_apart, two_apart, in_methods, methods_apart, program_apart}

-- ---- tokens in order

-- where these tokens end, or q where there are none
abbrev pub end_of : ℕ → List Tok → ℕ
end_of q [] = q
end_of q (t ∷ us) = end_of t.token.span.end us

end_append : (q : ℕ) (us vs : List Tok) → end_of q (us ++ vs) ≡ end_of (end_of q us) vs
end_append q [] vs = refl
end_append q (t ∷ us) vs = end_append t.token.span.end us vs

-- from the byte q on one behind the other, none of them empty, and P holds of each
abbrev pub Ordered : (Token → Type 0) → ℕ → List Tok → Type 0
Ordered P q [] = Unit {0}
Ordered P q (t ∷ us) = (q ≤ t.token.span.start) × (t.token.span.start < t.token.span.end) × P t.token × Ordered P t.token.span.end us

left_of : (P : Token → Type 0) (q : ℕ) (us vs : List Tok) → Ordered P q (us ++ vs) → Ordered P q us
left_of P q [] vs o = tt
left_of P q (t ∷ us) vs o = (o.0, o.1, o.2, left_of P t.token.span.end us vs o.3)

right_of : (P : Token → Type 0) (q : ℕ) (us vs : List Tok) → Ordered P q (us ++ vs) → Ordered P (end_of q us) vs
right_of P q [] vs o = o
right_of P q (t ∷ us) vs o = right_of P t.token.span.end us vs o.3

goes_on : (P : Token → Type 0) (q : ℕ) (us : List Tok) → Ordered P q us → q ≤ end_of q us
goes_on P q [] o = omega arith
goes_on P q (t ∷ us) o = omega (arith, o.0, o.1, goes_on P t.token.span.end us o.3)

-- in the first part, or in the other
before : {f : List ℕ → Option Statement} (P : Token → Type 0) (q : ℕ) (us vs : List Tok) → Ordered P q (us ++ vs) → Apart P q (end_of q us) f → Apart P q (end_of q (us ++ vs)) f
before P q us vs o h = widened q (end_of q us) q (end_of q (us ++ vs)) h (omega arith) (omega (arith, end_append q us vs, goes_on P (end_of q us) vs (right_of P q us vs o)))

behind : {f : List ℕ → Option Statement} (P : Token → Type 0) (q : ℕ) (us vs : List Tok) → Ordered P q (us ++ vs)
    → Apart P (end_of q us) (end_of (end_of q us) vs) f → Apart P q (end_of q (us ++ vs)) f
behind P q us vs o h = widened (end_of q us) (end_of (end_of q us) vs) q (end_of q (us ++ vs)) h (goes_on P q us (left_of P q us vs o)) (omega (arith, end_append q us vs))

-- ---- first tokens

record HasFirst (us : List Tok) : Type 0 where
  first : Tok
  rest : List Tok
  is : us ≡ first ∷ rest

first_then : (us vs : List Tok) → HasFirst us → HasFirst (us ++ vs)
first_then us vs h = record { first = h.first; rest = h.rest ++ vs; is = ap (λ (ws : List Tok). ws ++ vs) h.is }

first_in : (us vs ws : List Tok) → us ≡ vs ++ ws → HasFirst vs → HasFirst us
first_in us vs ws e h = subst HasFirst (sym e) (first_then vs ws h)

alone : (t : Tok) (us : List Tok) → us ≡ t ∷ [] → HasFirst us
alone t us e = record { first = t; rest = []; is = e }

extent_is : (t : Tok) (us : List Tok) → extent (t ∷ us) ≡ bounds (Some t.token) (Some (get_or (t.token ∷ tokens_of us) (length (t.token ∷ tokens_of us) - 1) t.token))
extent_is t us = ap (bounds (Some t.token)) (slice_get-get_or (t.token ∷ tokens_of us) (length (t.token ∷ tokens_of us) - 1) t.token (omega arith))

starts_first : (P : Token → Type 0) (q : ℕ) (t : Tok) (us : List Tok) → Ordered P q (t ∷ us) → Begins P q (end_of q (t ∷ us)) (extent (t ∷ us))
starts_first P q t us o =
    subst (λ (at : Span). Begins P q (end_of q (t ∷ us)) at) (sym (extent_is t us))
    (record { token = t.token; is = o.2; same = (refl, refl); start = refl; from = o.0; before = omega (arith, o.1, goes_on P t.token.span.end us o.3) })

-- what tokens are begins with their first one
starts : (P : Token → Type 0) (q : ℕ) (us : List Tok) → HasFirst us → Ordered P q us → Begins P q (end_of q us) (extent us)
starts P q us h o = subst (λ (ws : List Tok). Begins P q (end_of q ws) (extent ws)) (sym h.is) (starts_first P q h.first h.rest (subst (Ordered P q) h.is o))

-- and before a part of them ends
head_first : (P : Token → Type 0) (q : ℕ) (t : Tok) (us vs : List Tok) → Ordered P q (t ∷ us) → (extent (t ∷ (us ++ vs))).start < end_of q (t ∷ us)
head_first P q t us vs o =
    let e : (extent (t ∷ (us ++ vs))).start ≡ t.token.span.start = ap (λ (at : Span). at.start) (extent_is t (us ++ vs)) in
    omega (arith, e, o.1, goes_on P t.token.span.end us o.3)

head_ends : (P : Token → Type 0) (q : ℕ) (us vs : List Tok) → HasFirst us → Ordered P q us → (extent (us ++ vs)).start < end_of q us
head_ends P q us vs h o = subst (λ (ws : List Tok). (extent (ws ++ vs)).start < end_of q ws) (sym h.is) (head_first P q h.first h.rest vs (subst (Ordered P q) h.is o))

-- ---- statements without bodies

record Leaf (at : Span) (x : Statement) : Type 0 where
  place : place_of x ≡ at
  none : (b : ℕ) → branch_of b x ≡ None

-- a statement that is made when its place is known
abbrev IsLeaf : (Span → Statement) → Type 0
IsLeaf f = (at : Span) → Leaf at (f at)

made_leaf : {f g : Span → Statement} → f ≡ g → IsLeaf g → IsLeaf f
made_leaf e h = subst IsLeaf (sym e) h

member_leaf : (room : ℕ) (w : List ℕ) (us : List Tok) (f : Span → Statement) → MemberCall room w us f → IsLeaf f
member_leaf room w us f (inl h) = made_leaf h.2 (λ at. record { place = refl; none = λ b. refl })
member_leaf room w us f (inr (inl h)) = made_leaf h.2 (λ at. record { place = refl; none = λ b. refl })
member_leaf room w us f (inr (inr h)) = made_leaf h.1.2 (λ at. record { place = refl; none = λ b. refl })

counting_leaf : (room : ℕ) (w : List ℕ) (us : List Tok) (f : Span → Statement) → Or (Increase room w) (Increment w) us f → IsLeaf f
counting_leaf room w us f (inl h) = made_leaf h.2 (λ at. record { place = refl; none = λ b. refl })
counting_leaf room w us f (inr h) = made_leaf h.2 (λ at. record { place = refl; none = λ b. refl })

rest_leaf : (room : ℕ) (w : List ℕ) (us : List Tok) (f : Span → Statement) → NamedRest room w us f → IsLeaf f
rest_leaf room w us f (inl h) = made_leaf h.2 (λ at. record { place = refl; none = λ b. refl })
rest_leaf room w us f (inr (inl h)) = made_leaf h.2 (member_leaf room w h.1.1 h.0.1 h.1.4)
rest_leaf room w us f (inr (inr h)) = counting_leaf room w us f h.1

leaves : (P : Token → Type 0) (q : ℕ) (us : List Tok) (x y : Statement) → HasFirst us → x ≡ y → Leaf (extent us) y → Ordered P q us → Apart P q (end_of q us) (within x)
leaves P q us x y first is leaf o =
    subst (λ (z : Statement). Apart P q (end_of q us) (within z)) (sym is)
    (leaf_apart q (end_of q us) y leaf.none (subst (λ (at : Span). Begins P q (end_of q us) at) (sym leaf.place) (starts P q us first o)))

plain_apart : (P : Token → Type 0) (q room : ℕ) (us : List Tok) (x : Statement) → Plain room us x → Ordered P q us → Apart P q (end_of q us) (within x)
plain_apart P q room us x (inl h) o =
    leaves P q us x (Return (extent us) h.0.1) (first_in us h.1.0 h.1.1 h.1.2 (alone h.1.3.0 h.1.0 h.1.3.1)) h.2 (record { place = refl; none = λ b. refl }) o
plain_apart P q room us x (inr (inl h)) o =
    leaves P q us x (Break (extent us)) (first_in us h.1.0 h.1.1 h.1.2 (alone h.1.3.0 h.1.0 h.1.3.1)) h.2 (record { place = refl; none = λ b. refl }) o
plain_apart P q room us x (inr (inr h)) o =
    leaves P q us x (h.0.1 (extent us)) (first_in us h.1.0 h.1.1 h.1.2 (alone h.1.3.0 h.1.0 h.1.3.1)) h.2 (rest_leaf room h.0.0 h.1.1 h.0.1 h.1.4 (extent us)) o

spelling_first : (us : List Tok) (ty : Spelled) → Spelling us ty → HasFirst us
spelling_first us ty (inl h) = alone h.0 us h.1
spelling_first us ty (inr h) = first_in us h.1.0 h.1.1 h.1.2 (alone h.1.3.0 h.1.0 h.1.3.1)

declaration_apart : (P : Token → Type 0) (q room : ℕ) (us : List Tok) (x : Statement) → Declaration room us x → Ordered P q us → Apart P q (end_of q us) (within x)
declaration_apart P q room us x h o =
    leaves P q us x (Declare (extent us) h.0.0 h.0.1.0 h.0.1.1.1) (first_in us h.1.0 h.1.1 h.1.2 (spelling_first h.1.0 h.0.0 h.1.3)) h.2 (record { place = refl; none = λ b. refl }) o

-- ---- statements with bodies

if_first : (room : ℕ) (us : List Tok) (cond : Expression) → IfHead room us cond → HasFirst us
if_first room us cond h = first_in us h.1.0 h.1.1 h.1.2 (alone h.1.3.0 h.1.0 h.1.3.1)

while_first : (room : ℕ) (us : List Tok) (cond : Expression) → WhileHead room us cond → HasFirst us
while_first room us cond h = first_in us h.1.0 h.1.1 h.1.2 (alone h.1.3.0 h.1.0 h.1.3.1)

for_first : (room : ℕ) (us : List Tok) (walk : Spelled × (List ℕ × Expression)) → ForHead room us walk → HasFirst us
for_first room us walk h = first_in us h.1.0 h.1.1 h.1.2 (alone h.1.3.0 h.1.0 h.1.3.1)

-- a head and a body
bodied : (P : Token → Type 0) (q : ℕ) (us vs : List Tok) (s : Statement) (body : Statements) → HasFirst us → place_of s ≡ extent (us ++ vs) → ((b : ℕ) → branch_of b s ≡ first_branch b body)
    → Ordered P q (us ++ vs) → Apart P (end_of q us) (end_of (end_of q us) vs) (in_block body) → Apart P q (end_of q (us ++ vs)) (within s)
bodied P q us vs s body first place branches o k =
    one_apart q (end_of q us) (end_of q (us ++ vs)) s body branches
    (subst (λ (at : Span). Begins P q (end_of q (us ++ vs)) at) (sym place) (starts P q (us ++ vs) (first_then us vs first) o))
    (subst (λ (at : Span). at.start < end_of q us) (sym place) (head_ends P q us vs first (left_of P q us vs o)))
    (subst (λ (r : ℕ). Apart P (end_of q us) r (in_block body)) (sym (end_append q us vs)) k)

-- a head, a body, a word and another body
forked : (P : Token → Type 0) (q : ℕ) (us vs ws zs : List Tok) (s : Statement) (body other : Statements) → HasFirst us → place_of s ≡ extent (us ++ (vs ++ (ws ++ zs)))
    → ((b : ℕ) → branch_of b s ≡ either_branch b body other) → Ordered P q (us ++ (vs ++ (ws ++ zs))) → Apart P (end_of q us) (end_of (end_of q us) vs) (in_block body)
    → Apart P (end_of (end_of (end_of q us) vs) ws) (end_of (end_of (end_of (end_of q us) vs) ws) zs) (in_block other) → Apart P q (end_of q (us ++ (vs ++ (ws ++ zs)))) (within s)
forked P q us vs ws zs s body other head place branches o k l =
    let o1 : Ordered P (end_of q us) (vs ++ (ws ++ zs)) = right_of P q us (vs ++ (ws ++ zs)) o in
    let o2 : Ordered P (end_of (end_of q us) vs) (ws ++ zs) = right_of P (end_of q us) vs (ws ++ zs) o1 in
    let m : Apart P (end_of (end_of q us) vs) (end_of (end_of (end_of q us) vs) (ws ++ zs)) (in_block other) = behind P (end_of (end_of q us) vs) ws zs o2 l in
    let e : end_of (end_of (end_of q us) vs) (ws ++ zs) ≡ end_of q (us ++ (vs ++ (ws ++ zs))) = sym (end_append q us (vs ++ (ws ++ zs)) ∙ end_append (end_of q us) vs (ws ++ zs)) in
    two_apart q (end_of q us) (end_of (end_of q us) vs) (end_of q (us ++ (vs ++ (ws ++ zs)))) s body other branches
    (subst (λ (at : Span). Begins P q (end_of q (us ++ (vs ++ (ws ++ zs)))) at) (sym place) (starts P q (us ++ (vs ++ (ws ++ zs))) (first_then us (vs ++ (ws ++ zs)) head) o))
    (subst (λ (at : Span). at.start < end_of q us) (sym place) (head_ends P q us (vs ++ (ws ++ zs)) head (left_of P q us (vs ++ (ws ++ zs)) o)))
    k (subst (λ (r : ℕ). Apart P (end_of (end_of q us) vs) r (in_block other)) e m)

-- a statement, and others behind it
followed : (P : Token → Type 0) (q : ℕ) (us vs : List Tok) (x : Statement) (xs : Statements) → Apart P q (end_of q us) (within x) → Apart P (end_of q us) (end_of (end_of q us) vs) (in_block xs)
    → Apart P q (end_of q (us ++ vs)) (in_block (Followed x xs))
followed P q us vs x xs h k =
    then_apart q (end_of q us) (end_of q (us ++ vs)) x xs h (subst (λ (r : ℕ). Apart P (end_of q us) r (in_block xs)) (sym (end_append q us vs)) k)

mutual
  statement_apart : {room : ℕ} {open_if : Bool} {us : List Tok} {x : Statement} (P : Token → Type 0) (q : ℕ) → HasStatement room open_if us x → Ordered P q us → Apart P q (end_of q us) (within x)
  statement_apart P q (plain {room} {us} {x} h) o = plain_apart P q room us x h o
  statement_apart P q (if_alone {room} {us} {vs} {cond} {yes = body} h b) o =
      bodied P q us vs (If (extent (us ++ vs)) cond body) body (if_first room us cond h) refl (λ n. refl) o (body_apart P (end_of q us) b (right_of P q us vs o))
  statement_apart P q (if_else {room} {us} {vs} {ws} {zs} {cond} {yes = body} {other} h b e c) o =
      let o1 : Ordered P (end_of q us) (vs ++ (ws ++ zs)) = right_of P q us (vs ++ (ws ++ zs)) o in
      let o2 : Ordered P (end_of (end_of q us) vs) (ws ++ zs) = right_of P (end_of q us) vs (ws ++ zs) o1 in
      forked P q us vs ws zs (IfElse (extent (us ++ (vs ++ (ws ++ zs)))) cond body other) body other (if_first room us cond h) refl (λ n. refl) o
      (body_apart P (end_of q us) b (left_of P (end_of q us) vs (ws ++ zs) o1))
      (body_apart P (end_of (end_of (end_of q us) vs) ws) c (right_of P (end_of (end_of q us) vs) ws zs o2))
  statement_apart P q (for_each {room} {us} {vs} {walk} {body} h b) o =
      bodied P q us vs (ForEach (extent (us ++ vs)) walk.0 walk.1.0 walk.1.1 body) body (for_first room us walk h) refl (λ n. refl) o (body_apart P (end_of q us) b (right_of P q us vs o))
  statement_apart P q (while {room} {us} {vs} {cond} {body} h b) o =
      bodied P q us vs (While (extent (us ++ vs)) cond body) body (while_first room us cond h) refl (λ n. refl) o (body_apart P (end_of q us) b (right_of P q us vs o))

  body_apart : {room : ℕ} {open_if : Bool} {us : List Tok} {xs : Statements} (P : Token → Type 0) (q : ℕ) → HasBody room open_if us xs → Ordered P q us → Apart P q (end_of q us) (in_block xs)
  body_apart P q (block h) o = block_apart P q h o
  body_apart P q (single {us} {x} opens h) o = then_apart q (end_of q us) (end_of q us) x Nothing (statement_apart P q h o) (nothing_apart (end_of q us))

  block_apart : {room : ℕ} {us : List Tok} {xs : Statements} (P : Token → Type 0) (q : ℕ) → HasBlock room us xs → Ordered P q us → Apart P q (end_of q us) (in_block xs)
  block_apart P q (braces {us} {vs} {ws} opens h closes) o =
      let o1 : Ordered P (end_of q us) (vs ++ ws) = right_of P q us (vs ++ ws) o in
      behind P q us (vs ++ ws) o (before P (end_of q us) vs ws o1 (statements_apart P (end_of q us) h (left_of P (end_of q us) vs ws o1)))

  statements_apart : {room : ℕ} {us : List Tok} {xs : Statements} (P : Token → Type 0) (q : ℕ) → HasStatements room us xs → Ordered P q us → Apart P q (end_of q us) (in_block xs)
  statements_apart P q none o = nothing_apart q
  statements_apart P q (declared {room} {us} {vs} {x} {xs} h k) o =
      followed P q us vs x xs (declaration_apart P q room us x h (left_of P q us vs o)) (statements_apart P (end_of q us) k (right_of P q us vs o))
  statements_apart P q (stated {us} {vs} {x} {xs} h k) o =
      followed P q us vs x xs (statement_apart P q h (left_of P q us vs o)) (statements_apart P (end_of q us) k (right_of P q us vs o))

-- ---- programs

-- in a part of tokens
before_in : {f : List ℕ → Option Statement} (P : Token → Type 0) (q : ℕ) (us vs ws : List Tok) → us ≡ vs ++ ws → (Ordered P q vs → Apart P q (end_of q vs) f)
    → Ordered P q us → Apart P q (end_of q us) f
before_in {f} P q us vs ws e k o =
    let p : Ordered P q (vs ++ ws) = subst (Ordered P q) e o in
    subst (λ (zs : List Tok). Apart P q (end_of q zs) f) (sym e) (before P q vs ws p (k (left_of P q vs ws p)))

behind_in : {f : List ℕ → Option Statement} (P : Token → Type 0) (q : ℕ) (us vs ws : List Tok) → us ≡ vs ++ ws → (Ordered P (end_of q vs) ws → Apart P (end_of q vs) (end_of (end_of q vs) ws) f)
    → Ordered P q us → Apart P q (end_of q us) f
behind_in {f} P q us vs ws e k o =
    let p : Ordered P q (vs ++ ws) = subst (Ordered P q) e o in
    subst (λ (zs : List Tok). Apart P q (end_of q zs) f) (sym e) (behind P q vs ws p (k (right_of P q vs ws p)))

method_apart : (P : Token → Type 0) (q room : ℕ) (us : List Tok) (m : PlainMethod) → Method room us m → Ordered P q us → Apart P q (end_of q us) (in_block m.body)
method_apart P q room us m h o =
    let a = h.1 in
    let b = a.4 in
    let c = b.4 in
    let d = c.4 in
    let e = d.4 in
    let q1 = end_of q a.0 in
    let q2 = end_of q1 b.0 in
    let q3 = end_of q2 c.0 in
    let q4 = end_of q3 d.0 in
    subst (λ (k : PlainMethod). Apart P q (end_of q us) (in_block k.body)) (sym h.2)
    (behind_in P q us a.0 a.1 a.2 (behind_in P q1 a.1 b.0 b.1 b.2 (behind_in P q2 b.1 c.0 c.1 c.2
    (behind_in P q3 c.1 d.0 d.1 d.2 (behind_in P q4 d.1 e.0 e.1 e.2 (block_apart P (end_of q4 e.0) e.4))))) o)

all_apart : (P : Token → Type 0) (q room : ℕ) (us : List Tok) (ms : List PlainMethod) → Many (Method room) us ms → Ordered P q us → Apart P q (end_of q us) (in_methods ms)
all_apart P q room us [] h o = no_statement q (end_of q us) (goes_on P q us o)
all_apart P q room us (m ∷ ms) h o =
    let p : Ordered P q (h.0 ++ h.1) = subst (Ordered P q) h.2 o in
    let rest : Apart P (end_of q h.0) (end_of (end_of q h.0) h.1) (in_methods ms) = all_apart P (end_of q h.0) room h.1 ms h.4 (right_of P q h.0 h.1 p) in
    subst (λ (zs : List Tok). Apart P q (end_of q zs) (in_methods (m ∷ ms))) (sym h.2)
    (methods_apart q (end_of q h.0) (end_of q (h.0 ++ h.1)) m ms (method_apart P q room h.0 m h.3 (left_of P q h.0 h.1 p))
    (subst (λ (r : ℕ). Apart P (end_of q h.0) r (in_methods ms)) (sym (end_append q h.0 h.1)) rest))

class_apart : (P : Token → Type 0) (q room : ℕ) (us : List Tok) (x : List ℕ × List PlainMethod) → Class room us x → Ordered P q us → Apart P q (end_of q us) (in_methods x.1)
class_apart P q room us x h o =
    let a = h.1 in
    let b = a.4 in
    let c = b.4 in
    let d = c.4 in
    let q1 = end_of q a.0 in
    let q2 = end_of q1 b.0 in
    let q3 = end_of q2 c.0 in
    subst (λ (k : List ℕ × List PlainMethod). Apart P q (end_of q us) (in_methods k.1)) (sym h.2)
    (behind_in P q us a.0 a.1 a.2 (behind_in P q1 a.1 b.0 b.1 b.2 (behind_in P q2 b.1 c.0 c.1 c.2 (before_in P q3 c.1 d.0 d.1 d.2 (all_apart P q3 (pred room) d.0 h.0.1.1.1.0 d.3)))) o)

pub statements_of_program : (P : Token → Type 0) (q room : ℕ) (us : List Tok) (p : PlainProgram) → ProgramIn room us p → Ordered P q us → Apart P q (end_of q us) (λ path. statement_at path p)
statements_of_program P q room us p h o =
    let a = h.1 in
    let b = a.4 in
    let c = b.4 in
    let q1 = end_of q a.0 in
    let q2 = end_of q1 b.0 in
    program_apart q (end_of q us) p
    (subst (λ (k : PlainProgram). Apart P q (end_of q us) (in_methods k.methods)) (sym h.2)
    (behind_in P q us a.0 a.1 a.2 (behind_in P q1 a.1 b.0 b.1 b.2 (behind_in P q2 b.1 c.0 c.1 c.2 (class_apart P (end_of q2 c.0) room c.1 h.0.1.1.1 c.4))) o))
