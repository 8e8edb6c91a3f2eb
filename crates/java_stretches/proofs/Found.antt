-- Where tokens are in order, the statements of their program begin one behind the other.
use Rattle.std.proofs.Common.{◌≡◌, ℕ, ◌≤◌, ◌<◌, Bool, false, List, [], ◌∷◌, ◌++◌, refl, sym, ap, subst, ◌∙◌, arith}
use Rattle.std.specs.Prelude.{pred}
use Rattle.qbs_base.specs.declared.span.Span.{Span}
use Rattle.java_lex.specs.Cutting.{EndsAt}
use Rattle.java_lex.specs.Spans.{StandInOrder}
use Rattle.java_lex.specs.declared.token.Token.{Token}
use Rattle.java_ast.specs.Spans.{place_of}
use Rattle.java_ast.specs.Tree.{Spelled, Expression, Statement, If, IfElse, ForEach, While, Statements, PlainMethod, PlainProgram}
use Rattle.java_grammar.specs.Marks.{Tok, tokens_of, extent, all_free}
use Rattle.java_grammar.specs.Rules.{Many}
use Rattle.java_grammar.specs.Statements.{WhileHead, ForHead, HasStatement, plain, if_alone, if_else, for_each, while, HasBody, block, single, HasBlock, braces, HasStatements, none, declared, stated}
use Rattle.java_grammar.specs.Grammar.{Method, Class, ProgramIn, IsProgram}
use Rattle.java_limits.specs.Limits.{deepest}
use Rattle.java_grammar.proofs.Starts.{end_of, Ordered}
use Rattle.java_stretches.specs.Stretch.{StartsWith}
use Rattle.java_stretches.proofs.Ends.{First, extent_starts, extent_ends}
use Rattle.java_stretches.proofs.Leaves.{Stands, Alone, plain_alone, declaration_alone, statement_stands}
use Rattle.loop_text.specs.Statements.Fragment.{is_simple}
use Rattle.java_stretches.specs.Fit.{Spot, FitStatement, FitBlock, FitMethods, nothing, followed}
use Rattle.java_stretches.specs.Fit as fit
use Rattle.java_stretches.proofs.Fitting.{wider}

-- ---- Tokens in order

-- in a line, counted from 1
abbrev IsLined : Token → Type 0
IsLined t = t.span.line ≡ 0 → ⊥

abbrev InOrder : ℕ → List Tok → Type 0
InOrder q us = Ordered IsLined q us

end_append : (q : ℕ) (us vs : List Tok) → end_of q (us ++ vs) ≡ end_of (end_of q us) vs
end_append q [] vs = refl
end_append q (t ∷ us) vs = end_append t.token.span.end us vs

left_of : (q : ℕ) (us vs : List Tok) → InOrder q (us ++ vs) → InOrder q us
left_of q [] vs o = tt
left_of q (t ∷ us) vs o = (o.0, o.1, o.2, left_of t.token.span.end us vs o.3)

right_of : (q : ℕ) (us vs : List Tok) → InOrder q (us ++ vs) → InOrder (end_of q us) vs
right_of q [] vs o = o
right_of q (t ∷ us) vs o = right_of t.token.span.end us vs o.3

goes_on : (q : ℕ) (us : List Tok) → InOrder q us → q ≤ end_of q us
goes_on q [] o = omega arith
goes_on q (t ∷ us) o = omega (arith, o.0, o.1, goes_on t.token.span.end us o.3)

ends_there : (q e : ℕ) (us : List Tok) → EndsAt e (tokens_of us) → end_of q us ≡ e
ends_there q e [] h = absurd h
ends_there q e (t ∷ []) h = h
ends_there q e (t ∷ u ∷ us) h = ends_there t.token.span.end e (u ∷ us) h

-- ---- A statement of tokens

record Stood (q : ℕ) (us : List Tok) (x : Statement) : Type 0 where
  from : q ≤ (place_of x).start
  grows : (place_of x).start < (place_of x).end
  to : (place_of x).end ≡ end_of q us
  lined : (place_of x).line ≡ 0 → ⊥

stood : (q : ℕ) (us : List Tok) (x : Statement) → Stands us x → InOrder q us → Stood q us x
stood q [] x h o = absurd h.ends
stood q (t ∷ us) x h o =
    let f : First (t ∷ us) = record { first = t; rest = us; is = refl } in
    let s : StartsWith (extent (t ∷ us)) (tokens_of (t ∷ us)) = extent_starts (t ∷ us) f in
    let e : end_of q (t ∷ us) ≡ (extent (t ∷ us)).end = ends_there q (extent (t ∷ us)).end (t ∷ us) (extent_ends (t ∷ us) f) in
    let start : (place_of x).start ≡ t.token.span.start = ap (λ (at : Span). at.start) h.place ∙ s.1 in
    let end : (place_of x).end ≡ end_of q (t ∷ us) = ap (λ (at : Span). at.end) h.place ∙ sym e in
    let line : (place_of x).line ≡ t.token.span.line = ap (λ (at : Span). at.line) h.place ∙ s.0.0 in
    record {
      from = omega (arith, start, o.0);
      grows = omega (arith, start, end, o.1, goes_on t.token.span.end us o.3);
      to = end;
      lined = λ z. o.2 (sym line ∙ z);
    }

itself : (behind : Bool) (q : ℕ) (us : List Tok) (x : Statement) → Stood q us x → Spot behind x x
itself behind q us x s = record { starts = λ e. ((refl, refl), refl); ends = λ e. refl; lined = s.lined }

-- a part of tokens begins before it ends
head_ends : (q : ℕ) (us vs : List Tok) → First us → InOrder q us → (extent (us ++ vs)).start ≤ end_of q us
head_ends q [] vs f o = absurd (let e : [] ≡ f.first ∷ f.rest = f.is in cc)
head_ends q (t ∷ us) vs f o =
    let s : StartsWith (extent (t ∷ (us ++ vs))) (tokens_of (t ∷ (us ++ vs))) = extent_starts (t ∷ (us ++ vs)) (record { first = t; rest = us ++ vs; is = refl }) in
    omega (arith, s.1, o.1, goes_on t.token.span.end us o.3)

while_first : (room : ℕ) (us : List Tok) (cond : Expression) → WhileHead room us cond → First us
while_first room us cond h = record { first = h.1.3.0; rest = h.1.1; is = h.1.2 ∙ ap (λ (ws : List Tok). ws ++ h.1.1) h.1.3.1 }

for_first : (room : ℕ) (us : List Tok) (walk : Spelled × (List ℕ × Expression)) → ForHead room us walk → First us
for_first room us walk h = record { first = h.1.3.0; rest = h.1.1; is = h.1.2 ∙ ap (λ (ws : List Tok). ws ++ h.1.1) h.1.3.1 }

-- ---- All statements

abbrev Fits : ℕ → ℕ → Statements → Type 0
Fits q r xs = (behind : Bool) → FitBlock q r behind xs xs

-- in a part behind another
behind_fits : (q : ℕ) (us vs : List Tok) (xs : Statements) → InOrder q (us ++ vs) → Fits (end_of q us) (end_of (end_of q us) vs) xs → Fits q (end_of q (us ++ vs)) xs
behind_fits q us vs xs o h behind =
    wider q (end_of q (us ++ vs)) (goes_on q us (left_of q us vs o)) (omega (arith, end_append q us vs)) (h behind)

before_fits : (q : ℕ) (us vs : List Tok) (xs : Statements) → InOrder q (us ++ vs) → Fits q (end_of q us) xs → Fits q (end_of q (us ++ vs)) xs
before_fits q us vs xs o h behind =
    wider q (end_of q (us ++ vs)) (omega arith) (omega (arith, end_append q us vs, goes_on (end_of q us) vs (right_of q us vs o))) (h behind)

-- a loop with its head and its body
looped : (q : ℕ) (us vs : List Tok) (x : Statement) (xs : Statements) → place_of x ≡ extent (us ++ vs) → Stood q (us ++ vs) x → First us → InOrder q (us ++ vs) → Fits (end_of q us) (end_of (end_of q us) vs) xs
    → FitBlock (place_of x).start (place_of x).end false xs xs
looped q us vs x xs place s f o h =
    let start : (place_of x).start ≤ end_of q us = omega (arith, ap (λ (at : Span). at.start) place, head_ends q us vs f (left_of q us vs o)) in
    wider (place_of x).start (place_of x).end start (omega (arith, s.to, end_append q us vs)) (h false)

one_more : (q : ℕ) (us vs : List Tok) (x : Statement) (xs : Statements) → Fits (end_of q us) (end_of (end_of q us) vs) xs → FitBlock (end_of q us) (end_of q (us ++ vs)) (is_simple x) xs xs
one_more q us vs x xs h = wider (end_of q us) (end_of q (us ++ vs)) (omega arith) (omega (arith, end_append q us vs)) (h (is_simple x))

mutual
  of_statement : {room : ℕ} {open_if : Bool} {us : List Tok} {x : Statement} → HasStatement room open_if us x → (q : ℕ) → InOrder q us → FitStatement q (end_of q us) x x
  of_statement (plain {room} {us} {x} h) q o =
      let a : Alone us x = plain_alone room us x h in
      let s : Stood q us x = stood q us x a.stands o in
      fit.alone s.from (omega (arith, s.grows, s.to)) a.none a.none refl
  of_statement (if_alone {us} {vs} {cond} {yes} h b) q o =
      let s : Stood q (us ++ vs) (If (extent (us ++ vs)) cond yes) = stood q (us ++ vs) (If (extent (us ++ vs)) cond yes) (statement_stands (if_alone h b)) o in
      fit.if_alone s.from (behind_fits q us vs yes o (of_body b (end_of q us) (right_of q us vs o)) false)
  of_statement (if_else {us} {vs} {ws} {zs} {cond} {yes} {other} h b e c) q o =
      let s : Stood q (us ++ (vs ++ (ws ++ zs))) (IfElse (extent (us ++ (vs ++ (ws ++ zs)))) cond yes other) = stood q (us ++ (vs ++ (ws ++ zs))) (IfElse (extent (us ++ (vs ++ (ws ++ zs)))) cond yes other) (statement_stands (if_else h b e c)) o in
      let o1 : InOrder (end_of q us) (vs ++ (ws ++ zs)) = right_of q us (vs ++ (ws ++ zs)) o in
      let o2 : InOrder (end_of (end_of q us) vs) (ws ++ zs) = right_of (end_of q us) vs (ws ++ zs) o1 in
      let last : end_of q (us ++ (vs ++ (ws ++ zs))) ≡ end_of (end_of (end_of q us) vs) (ws ++ zs) = end_append q us (vs ++ (ws ++ zs)) ∙ end_append (end_of q us) vs (ws ++ zs) in
      fit.if_else s.from
      (wider q (end_of (end_of q us) vs) (goes_on q us (left_of q us (vs ++ (ws ++ zs)) o)) (omega arith) (of_body b (end_of q us) (left_of (end_of q us) vs (ws ++ zs) o1) false))
      (wider (end_of (end_of q us) vs) (end_of q (us ++ (vs ++ (ws ++ zs)))) (omega arith) (omega (arith, last))
      (behind_fits (end_of (end_of q us) vs) ws zs other o2 (of_body c (end_of (end_of (end_of q us) vs) ws) (right_of (end_of (end_of q us) vs) ws zs o2)) false))
  of_statement (for_each {room} {us} {vs} {walk} {body} h b) q o =
      let s : Stood q (us ++ vs) (ForEach (extent (us ++ vs)) walk.0 walk.1.0 walk.1.1 body) = stood q (us ++ vs) (ForEach (extent (us ++ vs)) walk.0 walk.1.0 walk.1.1 body) (statement_stands (for_each h b)) o in
      fit.for_each s.from s.grows (omega (arith, s.to))
      (looped q us vs (ForEach (extent (us ++ vs)) walk.0 walk.1.0 walk.1.1 body) body refl s (for_first room us walk h) o (of_body b (end_of q us) (right_of q us vs o)))
  of_statement (while {room} {us} {vs} {cond} {body} h b) q o =
      let s : Stood q (us ++ vs) (While (extent (us ++ vs)) cond body) = stood q (us ++ vs) (While (extent (us ++ vs)) cond body) (statement_stands (while h b)) o in
      fit.while s.from s.grows (omega (arith, s.to))
      (looped q us vs (While (extent (us ++ vs)) cond body) body refl s (while_first room us cond h) o (of_body b (end_of q us) (right_of q us vs o)))

  of_body : {room : ℕ} {open_if : Bool} {us : List Tok} {xs : Statements} → HasBody room open_if us xs → (q : ℕ) → InOrder q us → Fits q (end_of q us) xs
  of_body (block h) q o behind = of_block h q o behind
  of_body (single {us} {x} opens h) q o behind = followed (itself behind q us x (stood q us x (statement_stands h) o)) (of_statement h q o) (nothing (omega arith))

  of_block : {room : ℕ} {us : List Tok} {xs : Statements} → HasBlock room us xs → (q : ℕ) → InOrder q us → Fits q (end_of q us) xs
  of_block (braces {us} {vs} {ws} {xs} opens h closes) q o behind =
      let o1 : InOrder (end_of q us) (vs ++ ws) = right_of q us (vs ++ ws) o in
      behind_fits q us (vs ++ ws) xs o (before_fits (end_of q us) vs ws xs o1 (of_statements h (end_of q us) (left_of (end_of q us) vs ws o1))) behind

  of_statements : {room : ℕ} {us : List Tok} {xs : Statements} → HasStatements room us xs → (q : ℕ) → InOrder q us → Fits q (end_of q us) xs
  of_statements none q o behind = nothing (omega arith)
  of_statements (declared {room} {us} {vs} {x} {xs} d h) q o behind =
      let a : Alone us x = declaration_alone room us x d in
      let s : Stood q us x = stood q us x a.stands (left_of q us vs o) in
      followed (itself behind q us x s) (fit.alone s.from (omega (arith, s.grows, s.to)) a.none a.none refl) (one_more q us vs x xs (of_statements h (end_of q us) (right_of q us vs o)))
  of_statements (stated {us} {vs} {x} {xs} d h) q o behind =
      followed (itself behind q us x (stood q us x (statement_stands d) (left_of q us vs o))) (of_statement d q (left_of q us vs o)) (one_more q us vs x xs (of_statements h (end_of q us) (right_of q us vs o)))

-- ---- Programs

behind_in : (q : ℕ) (us vs ws : List Tok) (xs : Statements) → us ≡ vs ++ ws → (InOrder (end_of q vs) ws → Fits (end_of q vs) (end_of (end_of q vs) ws) xs) → InOrder q us → Fits q (end_of q us) xs
behind_in q us vs ws xs e k o behind =
    let p : InOrder q (vs ++ ws) = subst (InOrder q) e o in
    subst (λ (zs : List Tok). FitBlock q (end_of q zs) behind xs xs) (sym e) (behind_fits q vs ws xs p (k (right_of q vs ws p)) behind)

of_method : (q room : ℕ) (us : List Tok) (m : PlainMethod) → Method room us m → InOrder q us → Fits q (end_of q us) m.body
of_method q room us m h o behind =
    let a = h.1 in
    let b = a.4 in
    let c = b.4 in
    let d = c.4 in
    let e = d.4 in
    let q1 = end_of q a.0 in
    let q2 = end_of q1 b.0 in
    let q3 = end_of q2 c.0 in
    let q4 = end_of q3 d.0 in
    subst (λ (k : PlainMethod). FitBlock q (end_of q us) behind k.body k.body) (sym h.2)
    (behind_in q us a.0 a.1 h.0.1.1.1.1.1 a.2 (behind_in q1 a.1 b.0 b.1 h.0.1.1.1.1.1 b.2 (behind_in q2 b.1 c.0 c.1 h.0.1.1.1.1.1 c.2
    (behind_in q3 c.1 d.0 d.1 h.0.1.1.1.1.1 d.2 (behind_in q4 d.1 e.0 e.1 h.0.1.1.1.1.1 e.2 (of_block e.4 (end_of q4 e.0)))))) o behind)

of_methods : (q room : ℕ) (us : List Tok) (ms : List PlainMethod) → Many (Method room) us ms → InOrder q us → FitMethods q ms ms
of_methods q room us [] h o = tt
of_methods q room us (m ∷ ms) h o =
    let p : InOrder q (h.0 ++ h.1) = subst (InOrder q) h.2 o in
    (end_of q h.0, of_method q room h.0 m h.3 (left_of q h.0 h.1 p) false, of_methods (end_of q h.0) room h.1 ms h.4 (right_of q h.0 h.1 p))

methods_from : (q lo : ℕ) (ms : List PlainMethod) → q ≤ lo → FitMethods lo ms ms → FitMethods q ms ms
methods_from q lo [] less h = tt
methods_from q lo (m ∷ ms) less h = (h.0, wider q h.0 less (omega arith) h.1, h.2)

-- behind some tokens
part : (q : ℕ) (us vs ws : List Tok) (ms : List PlainMethod) → us ≡ vs ++ ws → (InOrder (end_of q vs) ws → FitMethods (end_of q vs) ms ms) → InOrder q us → FitMethods q ms ms
part q us vs ws ms e k o =
    let p : InOrder q (vs ++ ws) = subst (InOrder q) e o in
    methods_from q (end_of q vs) ms (goes_on q vs (left_of q vs ws p)) (k (right_of q vs ws p))

front : (q : ℕ) (us vs ws : List Tok) (ms : List PlainMethod) → us ≡ vs ++ ws → (InOrder q vs → FitMethods q ms ms) → InOrder q us → FitMethods q ms ms
front q us vs ws ms e k o = k (left_of q vs ws (subst (InOrder q) e o))

of_class : (q room : ℕ) (us : List Tok) (x : List ℕ × List PlainMethod) → Class room us x → InOrder q us → FitMethods q x.1 x.1
of_class q room us x h o =
    let a = h.1 in
    let b = a.4 in
    let c = b.4 in
    let d = c.4 in
    let q1 = end_of q a.0 in
    let q2 = end_of q1 b.0 in
    let q3 = end_of q2 c.0 in
    subst (λ (k : List ℕ × List PlainMethod). FitMethods q k.1 k.1) (sym h.2)
    (part q us a.0 a.1 h.0.1.1.1.0 a.2 (part q1 a.1 b.0 b.1 h.0.1.1.1.0 b.2 (part q2 b.1 c.0 c.1 h.0.1.1.1.0 c.2 (front q3 c.1 d.0 d.1 h.0.1.1.1.0 d.2 (of_methods q3 (pred room) d.0 h.0.1.1.1.0 d.3)))) o)

of_program : (q room : ℕ) (us : List Tok) (p : PlainProgram) → ProgramIn room us p → InOrder q us → FitMethods q p.methods p.methods
of_program q room us p h o =
    let a = h.1 in
    let b = a.4 in
    let c = b.4 in
    let q1 = end_of q a.0 in
    let q2 = end_of q1 b.0 in
    subst (λ (k : PlainProgram). FitMethods q k.methods k.methods) (sym h.2)
    (part q us a.0 a.1 h.0.1.1.1.1 a.2 (part q1 a.1 b.0 b.1 h.0.1.1.1.1 b.2 (part q2 b.1 c.0 c.1 h.0.1.1.1.1 c.2 (of_class (end_of q2 c.0) room c.1 h.0.1.1.1 c.4))) o)

stand_in_order : (text : List ℕ) (q : ℕ) (ts : List Token) → StandInOrder text q ts → InOrder q (all_free ts)
stand_in_order text q [] h = tt
stand_in_order text q (t ∷ ts) h = (h.0, h.1, (λ z. omega (arith, h.2.line, z)), stand_in_order text t.span.end ts h.3)

-- The program of tokens of a text fits itself.
pub fits_itself : (text : List ℕ) (ts : List Token) (p : PlainProgram) → StandInOrder text 0 ts → IsProgram ts p → FitMethods 0 p.methods p.methods
fits_itself text ts p h has = of_program 0 deepest (all_free ts) p has (stand_in_order text 0 ts h)
