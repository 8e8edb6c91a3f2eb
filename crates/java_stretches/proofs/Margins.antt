-- The lines of statements without bodies, part by part.
use Rattle.std.proofs.Common.{◌≡◌, ℕ, ◌+◌, ◌-◌, Bool, true, false, List, [], ◌∷◌, ◌++◌, length, take, drop, Ok, codes, refl, sym, ap, subst, ◌∙◌, append_assoc, length-append, arith, inr, suc, cond}
use Rattle.std.specs.Prelude.{◌||◌, ◌==◌}
use Rattle.std.specs.List.{prefix_len}
use Rattle.std.proofs.lemmas.Bool.{eqb-true}
use Rattle.std.proofs.lemmas.List.{append-nil}
use Rattle.std.proofs.lemmas.List.Elements.{All-nil, All-cons, All-head, All-tail}
use Rattle.qbs_base.specs.Places.{place_after, first_place, between}
use Rattle.qbs_base.specs.declared.place.Place.{Place}
use Rattle.java_lex.specs.Cutting.{nodes_of, HasNodes}
use Rattle.java_lex.specs.Lexing.{tokens_from, ended}
use Rattle.java_lex.specs.Pieces.{piece_of}
use Rattle.java_lex.specs.declared.token.Token.{Token}
use Rattle.java_lex.specs.declared.token.Tokens.{Tokens}
use Rattle.java_lex.specs.declared.token.TokenNode.{TokenNode}
use Rattle.java_lex.specs.declared.token.TokenNode.TheVariants as nodes
use Rattle.java_lex.proofs.Cut.{Leads, leads, index_after, take_front, drop_front, nodes_append}
use Rattle.java_lex.proofs.Steps.{with_tokens}
use Rattle.java_ast.specs.Tree as plain
use Rattle.java_ast.specs.Tree.{Statement, Statements}
use Rattle.java_text.specs.Canonical.{line_end, canonical_expression, canonical_keys, returned_text, declared_text, tested_text, canonical_statement, canonical_statements}
use Rattle.java_grammar.specs.Marks.{all_free}
use Rattle.java_grammar.specs.Printed.{word, sign, call, expression_tokens, keys_tokens, returned_tokens, declared_tokens, tested_tokens, print_head, statement_tokens, statements_tokens}
use Rattle.java_grammar.specs.Written.{WrittenStatement, WrittenStatements}
use Rattle.java_grammar.specs.InGrammar.{InStatements}
use Rattle.java_grammar.proofs.Signs.{AreTokens}
use Rattle.java_stretches.proofs.Ends.{closed_behind, ends_last}
use Rattle.java_grammar.proofs.Wholes.{Shut, Reads, nothing_read, as_reads, shut_shut, shut_reads, reads_shut}
use Rattle.java_grammar.proofs.Fixed.{fixed, word_reads, white, short}
use Rattle.java_grammar.proofs.Programs.{has_nodes, declared_read, assigned_read, added_shut, sorted_shut, tested_shut, print_shut, returned_read, statements_shut}
use Rattle.java_grammar.proofs.Methods.{free_tokens}
use Rattle.java_grammar.proofs.Stated.{StatementsFound, statements_have}
use Rattle.java_stretches.specs.Lines.{is_blank, IsMargin, joined_lines, IsSimple, AreSimple, AreLines, CanBeWritten, SameStatements, HasLines, CanStandFor}

-- ---- margins

blank_shut : (b : ℕ) → is_blank b ≡ true → Shut (b ∷ []) []
blank_shut b h = by (b == 32) refl h
  where
    by : (v : Bool) → (b == 32) ≡ v → v || (b == 9) ≡ true → Shut (b ∷ []) []
    by true e k = subst (λ (c : ℕ). Shut (c ∷ []) []) (sym (eqb-true b 32 e)) (fixed (white 32 ∷ []) refl)
    by false e k = subst (λ (c : ℕ). Shut (c ∷ []) []) (sym (eqb-true b 9 k)) (fixed (white 9 ∷ []) refl)

pub margin_shut : (margin : List ℕ) → IsMargin margin → Shut margin []
margin_shut [] h = nothing_read
margin_shut (b ∷ margin) h = shut_shut (b ∷ []) margin [] [] (blank_shut b (All-head (λ c. is_blank c ≡ true) b margin h)) (margin_shut margin (All-tail (λ c. is_blank c ≡ true) b margin h))

-- the spaces and tabs with which bytes begin
pub margin_of : (line : List ℕ) → IsMargin (take (prefix_len is_blank line) line)
margin_of [] = All-nil (λ c. is_blank c ≡ true)
margin_of (b ∷ line) = by (is_blank b) refl (margin_of line)
  where
    by : (v : Bool) → is_blank b ≡ v → IsMargin (take (prefix_len is_blank line) line) → IsMargin (take (cond v (1 + prefix_len is_blank line) 0) (b ∷ line))
    by true e h =
        let n : 1 + prefix_len is_blank line ≡ suc (prefix_len is_blank line) = omega arith in
        subst (λ (k : ℕ). IsMargin (take k (b ∷ line))) (sym n) (All-cons (λ c. is_blank c ≡ true) b (take (prefix_len is_blank line) line) e h)
    by false e h = All-nil (λ c. is_blank c ≡ true)

-- ---- statements at every room

pub same_statements : (room : ℕ) (ts : List Token) (block : Statements) → InStatements block → nodes_of ts ≡ statements_tokens block → SameStatements room ts block
same_statements room ts block h e =
    let f : StatementsFound room (all_free ts) block = statements_have block room (all_free ts) h (subst (λ (ns : List TokenNode). AreTokens (all_free ts) ns) e (free_tokens ts)) in
    record { others = f.values; has = f.has; same = f.same }

pub whole_lines : (margin : List ℕ) (block : Statements) → IsMargin margin → CanBeWritten block → HasLines (canonical_statements margin block) block
whole_lines margin block m w =
    let n : HasNodes (canonical_statements margin block) (statements_tokens block) = has_nodes (canonical_statements margin block) (statements_tokens block) (statements_shut block margin (margin_shut margin m) w.written) in
    record { tokens = n.tokens; lexed_as = n.read; statements = λ room. same_statements room n.tokens.list block w.in_grammar n.same }

-- ---- texts that end with a semicolon

record Ended (text : List ℕ) (ns : List TokenNode) : Type 0 where
  front : List ℕ
  before : List TokenNode
  parts : text ≡ front ++ (59 ∷ [])
  nodes_are : ns ≡ before ++ sign (codes ";")
  reads : Reads front before

ended_behind : (x text : List ℕ) (ms ns : List TokenNode) → Shut x ms → Ended text ns → Ended (x ++ text) (ms ++ ns)
ended_behind x text ms ns h e = record {
  front = x ++ e.front;
  before = ms ++ e.before;
  parts = ap (λ (bs : List ℕ). x ++ bs) e.parts ∙ sym (append_assoc x e.front (59 ∷ []));
  nodes_are = ap (λ (ks : List TokenNode). ms ++ ks) e.nodes_are ∙ sym (append_assoc ms e.before (sign (codes ";")));
  reads = shut_reads x e.front ms e.before h e.reads;
}

ended_shut : (text : List ℕ) (ns : List TokenNode) → Ended text ns → Shut text ns
ended_shut text ns e =
    subst (λ (bs : List ℕ). Shut bs ns) (sym e.parts) (subst (λ (ks : List TokenNode). Shut (e.front ++ (59 ∷ [])) ks) (sym e.nodes_are) (reads_shut e.front (59 ∷ []) e.before (sign (codes ";")) e.reads refl (fixed (short 59 ∷ []) refl)))

abbrev semicolon : Place → Token
semicolon p = record { span = between p (place_after p (59 ∷ [])); node = nodes.Sign (59 ∷ []) }

semicolon_read : (p : Place) → tokens_from p 0 (59 ∷ []) ≡ Ok (semicolon p ∷ [])
unfolding tokens_from piece_of
semicolon_read p = refl

-- such a text can stand for statements
can_stand : (text : List ℕ) (block : Statements) → InStatements block → Ended text (statements_tokens block) → CanStandFor text block
can_stand text block h e =
    let q : Place = place_after first_place e.front in
    let l : Leads first_place e.front (59 ∷ []) e.before = leads first_place e.front (59 ∷ []) e.before (e.reads.by (59 ∷ []) refl) in
    let ts : List Token = l.tokens ++ (semicolon q ∷ []) in
    let tokens : Tokens = record { list = ts; end = between (place_after first_place text) (place_after first_place text) } in
    let read : tokens_from first_place 0 text ≡ Ok ts = ap (tokens_from first_place 0) e.parts ∙ (l.read ∙ ap (with_tokens l.tokens) (semicolon_read q)) in
    let same : nodes_of ts ≡ statements_tokens block = nodes_append l.tokens (semicolon q ∷ []) ∙ (ap (λ (ns : List TokenNode). ns ++ sign (codes ";")) l.same ∙ sym e.nodes_are) in
    record {
      lines = record { tokens = tokens; lexed_as = ap (ended text) read; statements = λ room. same_statements room ts block h same };
      closed = closed_behind l.tokens (semicolon q ∷ []) (59, inr (inr refl), refl);
      ends = ends_last (length text) l.tokens (semicolon q) (omega (arith, index_after q (59 ∷ []), index_after first_place e.front, ap length e.parts, length-append e.front (59 ∷ [])));
    }

-- ---- lines

-- a statement without its margin and its line end
record Line (s : Statement) : Type 0 where
  text : List ℕ
  is : (margin : List ℕ) → canonical_statement margin s ≡ margin ++ (text ++ line_end)
  is_ended : Ended text (statement_tokens s)

line_by : (s : Statement) (x : List ℕ) (m : List TokenNode) → ((margin : List ℕ) → canonical_statement margin s ≡ (margin ++ x) ++ (codes ";" ++ line_end)) → statement_tokens s ≡ m ++ sign (codes ";") → Reads x m → Line s
line_by s x m e f r = record { text = x ++ (59 ∷ []); is = λ margin. e margin ∙ simp append_assoc; is_ended = record { front = x; before = m; parts = refl; nodes_are = f; reads = r } }

line_of : (s : Statement) → IsSimple s → WrittenStatement s → Line s
line_of (plain.Declare at ty w e) k h = line_by (plain.Declare at ty w e) (declared_text ty w e) (declared_tokens ty w e) (λ margin. refl) refl (declared_read ty w e h.0 h.1 h.2)
line_of (plain.Assign at w e) k h = line_by (plain.Assign at w e) ((w ++ codes " = ") ++ canonical_expression 8 e) ((word w ++ sign (codes "=")) ++ expression_tokens 8 e) (λ margin. refl) refl (assigned_read w e h.0 h.1)
line_of (plain.Add at w e) k h =
    line_by (plain.Add at w e) (((w ++ codes ".add(") ++ canonical_expression 8 e) ++ codes ")") (((word w ++ call (codes "add")) ++ expression_tokens 8 e) ++ sign (codes ")")) (λ margin. refl) refl
    (as_reads (((w ++ codes ".add(") ++ canonical_expression 8 e) ++ codes ")") (((word w ++ call (codes "add")) ++ expression_tokens 8 e) ++ sign (codes ")")) (added_shut w e h.0 h.1))
line_of (plain.Sort at w keys downs) k h =
    line_by (plain.Sort at w keys downs) (((w ++ codes ".sort(") ++ canonical_keys false keys downs) ++ codes ")") (((word w ++ call (codes "sort")) ++ keys_tokens false keys downs) ++ sign (codes ")")) (λ margin. refl) refl
    (as_reads (((w ++ codes ".sort(") ++ canonical_keys false keys downs) ++ codes ")") (((word w ++ call (codes "sort")) ++ keys_tokens false keys downs) ++ sign (codes ")")) (sorted_shut w keys downs h.0 h.1))
line_of (plain.If at test first) k h = absurd k
line_of (plain.IfElse at test first other) k h = absurd k
line_of (plain.ForEach at ty w list body) k h = absurd k
line_of (plain.While at test body) k h = absurd k
line_of (plain.Print at e) k h =
    line_by (plain.Print at e) (tested_text (codes "System.out.println(") e) (tested_tokens print_head e) (λ margin. refl) refl
    (as_reads (tested_text (codes "System.out.println(") e) (tested_tokens print_head e) (tested_shut (codes "System.out.println(") print_head e print_shut h))
line_of (plain.Return at value) k h = line_by (plain.Return at value) (returned_text value) (returned_tokens value) (λ margin. refl) refl (returned_read value h)
line_of (plain.Break at) k h = line_by (plain.Break at) (codes "break") (word (codes "break")) (λ margin. refl) refl (word_reads (codes "break") refl)

-- statements without the margin of the first and the line end of the last
record Lines (margin : List ℕ) (block : Statements) : Type 0 where
  text : List ℕ
  is : canonical_statements margin block ≡ margin ++ (text ++ line_end)
  is_ended : Ended text (statements_tokens block)

line_shut : Shut line_end []
line_shut = fixed (white 10 ∷ []) refl

lines_of : (margin : List ℕ) (s : Statement) (ss : Statements) → Shut margin [] → IsSimple s → AreSimple ss → WrittenStatement s → WrittenStatements ss → Lines margin (plain.Then s ss)
lines_of margin s plain.Nothing h k ks w ws =
    let l : Line s = line_of s k w in
    record { text = l.text; is = append-nil (canonical_statement margin s) ∙ l.is margin; is_ended = subst (Ended l.text) (sym (append-nil (statement_tokens s))) l.is_ended }
lines_of margin s (plain.Then t ts) h k ks w ws =
    let l : Line s = line_of s k w in
    let r : Lines margin (plain.Then t ts) = lines_of margin t ts h ks.0 ks.1 ws.0 ws.1 in
    let ns : List TokenNode = statements_tokens (plain.Then t ts) in
    record {
      text = l.text ++ (line_end ++ (margin ++ r.text));
      is = ap (λ (bs : List ℕ). bs ++ canonical_statements margin (plain.Then t ts)) (l.is margin) ∙ (ap (λ (bs : List ℕ). (margin ++ (l.text ++ line_end)) ++ bs) r.is ∙ simp append_assoc);
      is_ended = ended_behind l.text (line_end ++ (margin ++ r.text)) (statement_tokens s) ns (ended_shut l.text (statement_tokens s) l.is_ended) (ended_behind line_end (margin ++ r.text) [] ns line_shut (ended_behind margin r.text [] ns h r.is_ended));
    }

between_is : (margin text lines : List ℕ) → lines ≡ margin ++ (text ++ line_end) → drop (length margin) (take (length lines - 1) lines) ≡ text
between_is margin text lines e =
    let f : lines ≡ (margin ++ text) ++ line_end = e ∙ sym (append_assoc margin text line_end) in
    let long : length lines - 1 ≡ length (margin ++ text) = omega (arith, ap length f, length-append (margin ++ text) line_end) in
    let front : take (length lines - 1) lines ≡ margin ++ text = ap (λ (n : ℕ). take n lines) long ∙ (ap (take (length (margin ++ text))) f ∙ take_front (margin ++ text) line_end) in
    ap (drop (length margin)) front ∙ drop_front margin text

pub joined_stands : (margin : List ℕ) (block : Statements) → IsMargin margin → CanBeWritten block → AreLines block → CanStandFor (joined_lines margin block) block
joined_stands margin plain.Nothing m w k = absurd k
joined_stands margin (plain.Then s ss) m w k =
    let l : Lines margin (plain.Then s ss) = lines_of margin s ss (margin_shut margin m) k.0 k.1 w.written.0 w.written.1 in
    subst (λ (text : List ℕ). CanStandFor text (plain.Then s ss)) (sym (between_is margin l.text (canonical_statements margin (plain.Then s ss)) l.is)) (can_stand l.text (plain.Then s ss) w.in_grammar l.is_ended)
