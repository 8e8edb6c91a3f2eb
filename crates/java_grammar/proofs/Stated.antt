-- The tokens of statements and of a program have them by the grammar, but for places.
use Rattle.std.proofs.Common.{◌≡◌, ℕ, Bool, true, false, cond, List, [], ◌∷◌, ◌++◌, refl, sym, ap, subst, ◌∙◌, append_assoc, arith, codes, Option, Some, None, inl, inr}
use Rattle.std.specs.Prelude.{pred, not}
use Rattle.std.specs.Str.{bytes_eq}
use Rattle.std.proofs.lemmas.List.{append-nil}
use Rattle.qbs_base.specs.declared.span.Span.{Span}
use Rattle.java_ast.specs.Tree as plain
use Rattle.java_ast.specs.Tree.{Spelled, Expression, Statement, Statements, PlainParam, PlainMethod, PlainProgram}
use Rattle.java_text.specs.Canonical.{first_or_false}
use Rattle.java_lex.specs.declared.token.TokenNode.{TokenNode}
use Rattle.java_lex.specs.declared.token.TokenNode.TheVariants as nodes
use Rattle.java_grammar.specs.Marks.{Tok, extent, nowhere}
use Rattle.java_grammar.specs.Rules.{Rule, Word, Seq, Made, Many}
use Rattle.java_grammar.specs.Words.{by_word, is_name, scalar_type, word_type, table_type, or_else, element_type, collection, collection_of}
use Rattle.java_grammar.specs.Types.{Spelling, Key}
use Rattle.java_grammar.specs.Expressions.{HasRank, ranks, HasExpression}
use Rattle.java_grammar.specs.Statements.{Parenthesised, Condition, Value, Addition, Printing, Further, is_turned, keys_in, downs_in, Keys, Sorting, MemberCall, NamedRest, Plain, Declaration, Walk, ForHead, HasStatement, plain as plainly, if_alone, if_else, for_each, while, block, HasBlock, braces, HasStatements, none, declared, stated}
use Rattle.java_grammar.specs.Printed.{word, sign, call, type_tokens, expression_tokens, reversed_tokens, key_tokens, keys_tokens, braced_tokens, returned_tokens, walked_tokens, tested_tokens, print_head, statement_tokens, statements_tokens}
use Rattle.java_ast.specs.Unplaced.{unplaced, unplaced_statement, unplaced_block}
use Rattle.java_grammar.specs.InGrammar.{IsName, IsTable, IsType, IsElement, InExpression, IsSome, AreKeys, InReturn, InStatement, InStatements}
use Rattle.java_grammar.proofs.Signs.{AreTokens, Parts, split, none_left, this_node, opens, one_token, Three, three}
use Rattle.java_grammar.proofs.Derived.{Found, expression_has, name_has, IsNoType, table_no_type, ElementWord, element_word, not_among, regroup}
use Rattle.java_grammar.proofs.Fixed.{both_true}

-- ---- types

-- no name is one of these reserved words
pub record IsNoWordType (w : List ℕ) : Type 0 where
  pub int : bytes_eq w (codes "int") ≡ false
  pub long : bytes_eq w (codes "long") ≡ false
  pub boolean : bytes_eq w (codes "boolean") ≡ false

name_no_type : (w : List ℕ) → IsName w → IsNoWordType w
name_no_type w h =
    let a = not_among w (codes "class") (codes "public" ∷ codes "private" ∷ codes "static" ∷ codes "void" ∷ codes "int" ∷ codes "long" ∷ codes "boolean" ∷ codes "if" ∷ codes "else" ∷ codes "for" ∷ codes "while" ∷ codes "return" ∷ codes "new" ∷ codes "true" ∷ codes "false" ∷ codes "import" ∷ codes "package" ∷ codes "break" ∷ []) h in
    let b = not_among w (codes "public") (codes "private" ∷ codes "static" ∷ codes "void" ∷ codes "int" ∷ codes "long" ∷ codes "boolean" ∷ codes "if" ∷ codes "else" ∷ codes "for" ∷ codes "while" ∷ codes "return" ∷ codes "new" ∷ codes "true" ∷ codes "false" ∷ codes "import" ∷ codes "package" ∷ codes "break" ∷ []) a.1 in
    let c = not_among w (codes "private") (codes "static" ∷ codes "void" ∷ codes "int" ∷ codes "long" ∷ codes "boolean" ∷ codes "if" ∷ codes "else" ∷ codes "for" ∷ codes "while" ∷ codes "return" ∷ codes "new" ∷ codes "true" ∷ codes "false" ∷ codes "import" ∷ codes "package" ∷ codes "break" ∷ []) b.1 in
    let d = not_among w (codes "static") (codes "void" ∷ codes "int" ∷ codes "long" ∷ codes "boolean" ∷ codes "if" ∷ codes "else" ∷ codes "for" ∷ codes "while" ∷ codes "return" ∷ codes "new" ∷ codes "true" ∷ codes "false" ∷ codes "import" ∷ codes "package" ∷ codes "break" ∷ []) c.1 in
    let e = not_among w (codes "void") (codes "int" ∷ codes "long" ∷ codes "boolean" ∷ codes "if" ∷ codes "else" ∷ codes "for" ∷ codes "while" ∷ codes "return" ∷ codes "new" ∷ codes "true" ∷ codes "false" ∷ codes "import" ∷ codes "package" ∷ codes "break" ∷ []) d.1 in
    let f = not_among w (codes "int") (codes "long" ∷ codes "boolean" ∷ codes "if" ∷ codes "else" ∷ codes "for" ∷ codes "while" ∷ codes "return" ∷ codes "new" ∷ codes "true" ∷ codes "false" ∷ codes "import" ∷ codes "package" ∷ codes "break" ∷ []) e.1 in
    let g = not_among w (codes "long") (codes "boolean" ∷ codes "if" ∷ codes "else" ∷ codes "for" ∷ codes "while" ∷ codes "return" ∷ codes "new" ∷ codes "true" ∷ codes "false" ∷ codes "import" ∷ codes "package" ∷ codes "break" ∷ []) f.1 in
    let i = not_among w (codes "boolean") (codes "if" ∷ codes "else" ∷ codes "for" ∷ codes "while" ∷ codes "return" ∷ codes "new" ∷ codes "true" ∷ codes "false" ∷ codes "import" ∷ codes "package" ∷ codes "break" ∷ []) g.1 in
    record { int = f.0; long = g.0; boolean = i.0 }

no_scalar : (p q r s : Bool) (a b c d : Option Spelled) → p ≡ false → q ≡ false → r ≡ false → s ≡ false → cond {A = Option Spelled} p a (cond q b (cond r c (cond s d None))) ≡ None
no_scalar p q r s a b c d i j k l = rw (i, j, k, l) refl

table_word : (w : List ℕ) → IsTable w → word_type w ≡ Some (plain.Table w)
table_word w h =
    let n : IsNoType w = table_no_type w h in
    let t : (is_name w ≡ true) × _ = both_true (is_name w) _ h in
    let r : IsNoWordType w = name_no_type w t.0 in
    let s : scalar_type w ≡ None = no_scalar (bytes_eq w (codes "int")) (bytes_eq w (codes "long")) (bytes_eq w (codes "boolean")) (bytes_eq w (codes "String")) (Some plain.Int) (Some plain.Long) (Some plain.Boolean) (Some plain.String) r.int r.long r.boolean n.string in
    ap (λ (o : Option Spelled). or_else o (table_type w)) s ∙ ap (λ (v : Bool). cond {A = Option Spelled} v (Some (plain.Table w)) None) h

word_spelling : (w : List ℕ) (ty : Spelled) (us : List Tok) → word_type w ≡ Some ty → AreTokens us (word w) → Spelling us ty
word_spelling w ty us e h = inl (one_token (by_word word_type) (nodes.Word w) ty us e h)

collected : (w : List ℕ) (list : Bool) (ty : Spelled) (us : List Tok) → collection w ≡ Some list → IsElement ty → AreTokens us ((word w ++ sign (codes "<") ++ type_tokens ty) ++ sign (codes ">")) → Spelling us (collection_of list ty)
collected w list ty us e k h =
    let n : ElementWord ty = element_word ty k in
    let g : AreTokens us (word w ++ (sign (codes "<") ++ (word n.spelling ++ sign (codes ">")))) = subst (λ (ts : List TokenNode). AreTokens us ((word w ++ sign (codes "<") ++ ts) ++ sign (codes ">"))) n.tokens h in
    let p : Three us (word w) (sign (codes "<")) (word n.spelling ++ sign (codes ">")) = three (word w) (sign (codes "<")) (word n.spelling ++ sign (codes ">")) us g in
    let q : Parts p.c (word n.spelling) (sign (codes ">")) = split (word n.spelling) (sign (codes ">")) p.c p.third in
    inr (
      (list, ty),
      (
        p.a,
        p.b ++ p.c,
        p.parts,
        one_token (by_word collection) (nodes.Word w) list p.a e p.first,
        ((tt, (ty, tt)), (p.b, p.c, refl, this_node (nodes.Sign (codes "<")) p.b p.second, (q.front, q.back, q.parts, one_token (by_word element_type) (nodes.Word n.spelling) ty q.front n.is q.first, this_node (nodes.Sign (codes ">")) q.back q.second)), refl),
      ),
      refl,
    )

pub type_has : (ty : Spelled) (us : List Tok) → IsType ty → AreTokens us (type_tokens ty) → Spelling us ty
type_has plain.Int us k h = word_spelling (codes "int") plain.Int us refl h
type_has plain.Long us k h = word_spelling (codes "long") plain.Long us refl h
type_has plain.Boolean us k h = word_spelling (codes "boolean") plain.Boolean us refl h
type_has plain.String us k h = word_spelling (codes "String") plain.String us refl h
type_has plain.BoxedInteger us k h = absurd k
type_has plain.BoxedLong us k h = absurd k
type_has plain.BoxedBoolean us k h = absurd k
type_has (plain.Table w) us k h = word_spelling w (plain.Table w) us (table_word w k) h
type_has (plain.ListOf ty) us k h = collected (codes "List") true ty us refl k h
type_has (plain.SetOf ty) us k h = collected (codes "Set") false ty us refl k h

-- ---- values and what stands in parentheses

abbrev HasValue : ℕ → List Tok → Expression → Type 0
HasValue room us e = Found 8 room us e

pub whole_expression : (e : Expression) (room : ℕ) (us : List Tok) → InExpression e → AreTokens us (expression_tokens 8 e) → Found 8 room us e
whole_expression e room us k h = expression_has e 8 room us (omega arith) k h

-- e ;
value_has : (room : ℕ) (us vs : List Tok) (x : Expression) → HasRank room ranks us x → AreTokens vs (sign (codes ";")) → Value room (us ++ vs) x
value_has room us vs x h t = ((x, tt), (us, vs, refl, h, this_node (nodes.Sign (codes ";")) vs t), refl)

pub in_parentheses : {A : Type 0} → (room : ℕ) (P : Rule A) (us vs ws : List Tok) (x : A) → AreTokens us (sign (codes "(")) → P vs x → AreTokens ws (sign (codes ")")) → Parenthesised room P (us ++ (vs ++ ws)) x
in_parentheses room P us vs ws x h p k = ((tt, (x, tt)), (us, vs ++ ws, refl, opens room (codes "(") us h, (vs, ws, refl, p, this_node (nodes.Sign (codes ")")) ws k)), refl)

-- a statement, but for places
pub record StatementFound (room : ℕ) (us : List Tok) (s : Statement) : Type 0 where
  pub value : Statement
  pub has : (ss : Statements) (vs : List Tok) → HasStatements room vs ss → HasStatements room (us ++ vs) (plain.Then value ss)
  pub same : unplaced_statement value ≡ unplaced_statement s

by_plain : (room : ℕ) (us : List Tok) (s value : Statement) → Plain room us value → unplaced_statement value ≡ unplaced_statement s → StatementFound room us s
by_plain room us s value h e = record { value = value; has = λ ss vs k. stated (plainly h) k; same = e }

by_name : (room : ℕ) (us front back : List Tok) (w : List ℕ) (s : Statement) (node : Span → Statement) → us ≡ front ++ back → IsName w → AreTokens front (word w) → NamedRest room w back node → unplaced_statement (node (extent us)) ≡ unplaced_statement s → StatementFound room us s
by_name room us front back w s node e k h rest same = by_plain room us s (node (extent us)) (inr (inr ((w, node), (front, back, e, name_has w front k h, rest), refl))) same

pub regroup_five : (a b c d e : List TokenNode) → (((a ++ b) ++ c) ++ d) ++ e ≡ a ++ (b ++ (c ++ (d ++ e)))
regroup_five a b c d e = append_assoc ((a ++ b) ++ c) d e ∙ regroup a b c (d ++ e)

retold : (us : List Tok) (m n : List TokenNode) → m ≡ n → AreTokens us m → AreTokens us n
retold us m n e h = subst (λ (ns : List TokenNode). AreTokens us ns) e h

-- ---- declarations and assignments

declaration_has : (room : ℕ) (us : List Tok) (at : Span) (ty : Spelled) (w : List ℕ) (e : Expression) → IsType ty → IsName w → InExpression e → AreTokens us (type_tokens ty ++ (word w ++ (sign (codes "=") ++ (expression_tokens 8 e ++ sign (codes ";"))))) → StatementFound room us (plain.Declare at ty w e)
declaration_has room us at ty w e k l m h =
    let p : Three us (type_tokens ty) (word w) (sign (codes "=") ++ (expression_tokens 8 e ++ sign (codes ";"))) = three (type_tokens ty) (word w) (sign (codes "=") ++ (expression_tokens 8 e ++ sign (codes ";"))) us h in
    let q : Three p.c (sign (codes "=")) (expression_tokens 8 e) (sign (codes ";")) = three (sign (codes "=")) (expression_tokens 8 e) (sign (codes ";")) p.c p.third in
    let x : Found 8 room q.b e = whole_expression e room q.b m q.second in
    let d : Declaration room us (plain.Declare (extent us) ty w x.value) = (
      (ty, (w, (tt, x.value))),
      (
        p.a,
        p.b ++ p.c,
        p.parts,
        type_has ty p.a k p.first,
        (
          p.b,
          p.c,
          refl,
          name_has w p.b l p.second,
          (q.a, q.b ++ q.c, q.parts, this_node (nodes.Sign (codes "=")) q.a q.first, value_has room q.b q.c x.value x.has q.third),
        ),
      ),
      refl,
    ) in
    record { value = plain.Declare (extent us) ty w x.value; has = λ ss vs r. declared d r; same = ap (plain.Declare nowhere ty w) x.same }

assignment_has : (room : ℕ) (us : List Tok) (at : Span) (w : List ℕ) (e : Expression) → IsName w → InExpression e → AreTokens us (word w ++ (sign (codes "=") ++ (expression_tokens 8 e ++ sign (codes ";")))) → StatementFound room us (plain.Assign at w e)
assignment_has room us at w e k l h =
    let p : Parts us (word w) (sign (codes "=") ++ (expression_tokens 8 e ++ sign (codes ";"))) = split (word w) (sign (codes "=") ++ (expression_tokens 8 e ++ sign (codes ";"))) us h in
    let q : Three p.back (sign (codes "=")) (expression_tokens 8 e) (sign (codes ";")) = three (sign (codes "=")) (expression_tokens 8 e) (sign (codes ";")) p.back p.second in
    let x : Found 8 room q.b e = whole_expression e room q.b l q.second in
    let rest : NamedRest room w p.back (λ (place : Span). plain.Assign place w x.value) = inl ((tt, x.value), (q.a, q.b ++ q.c, q.parts, this_node (nodes.Sign (codes "=")) q.a q.first, value_has room q.b q.c x.value x.has q.third), refl) in
    by_name room us p.front p.back w (plain.Assign at w e) (λ place. plain.Assign place w x.value) p.parts k p.first rest (ap (plain.Assign nowhere w) x.same)

-- ---- calls as statements

-- ( inner ) ;
pub record Ended (us : List Tok) (inner : List TokenNode) : Type 0 where
  pub front : List Tok
  pub back : List Tok
  pub parts : us ≡ front ++ back
  pub left : List Tok
  pub i : List Tok
  pub right : List Tok
  pub front_parts : front ≡ left ++ (i ++ right)
  pub has_left : AreTokens left (sign (codes "("))
  pub has_inner : AreTokens i inner
  pub has_right : AreTokens right (sign (codes ")"))
  pub has_end : AreTokens back (sign (codes ";"))

ended_parts : (inner : List TokenNode) (us : List Tok) → AreTokens us ((sign (codes "(") ++ (inner ++ sign (codes ")"))) ++ sign (codes ";")) → Ended us inner
ended_parts inner us h =
    let p : Parts us (sign (codes "(") ++ (inner ++ sign (codes ")"))) (sign (codes ";")) = split (sign (codes "(") ++ (inner ++ sign (codes ")"))) (sign (codes ";")) us h in
    let q : Three p.front (sign (codes "(")) inner (sign (codes ")")) = three (sign (codes "(")) inner (sign (codes ")")) p.front p.first in
    record { front = p.front; back = p.back; parts = p.parts; left = q.a; i = q.b; right = q.c; front_parts = q.parts; has_left = q.first; has_inner = q.second; has_right = q.third; has_end = p.second }

parenthesised_has : {A : Type 0} → (room : ℕ) (P : Rule A) (us : List Tok) (inner : List TokenNode) (p : Ended us inner) (x : A) → P p.i x → Parenthesised room P p.front x
parenthesised_has room P us inner p x h = subst (λ (vs : List Tok). Parenthesised room P vs x) (sym p.front_parts) (in_parentheses room P p.left p.i p.right x p.has_left h p.has_right)

-- w . member ( inner ) ;
pub record Member (us : List Tok) (w m : List ℕ) (inner : List TokenNode) : Type 0 where
  pub a : List Tok
  pub dot : List Tok
  pub member : List Tok
  pub rest : List Tok
  pub parts : us ≡ a ++ (dot ++ (member ++ rest))
  pub has_name : AreTokens a (word w)
  pub has_dot : AreTokens dot (sign (codes "."))
  pub has_member : AreTokens member (word m)
  pub ended : Ended rest inner

member_parts : (w m : List ℕ) (inner : List TokenNode) (us : List Tok) → AreTokens us ((((word w ++ call m) ++ inner) ++ sign (codes ")")) ++ sign (codes ";")) → Member us w m inner
member_parts w m inner us h =
    let g : AreTokens us (word w ++ (sign (codes ".") ++ (word m ++ ((sign (codes "(") ++ (inner ++ sign (codes ")"))) ++ sign (codes ";"))))) = h in
    let p : Parts us (word w) (sign (codes ".") ++ (word m ++ ((sign (codes "(") ++ (inner ++ sign (codes ")"))) ++ sign (codes ";")))) = split (word w) (sign (codes ".") ++ (word m ++ ((sign (codes "(") ++ (inner ++ sign (codes ")"))) ++ sign (codes ";")))) us g in
    let q : Three p.back (sign (codes ".")) (word m) ((sign (codes "(") ++ (inner ++ sign (codes ")"))) ++ sign (codes ";")) = three (sign (codes ".")) (word m) ((sign (codes "(") ++ (inner ++ sign (codes ")"))) ++ sign (codes ";")) p.back p.second in
    record { a = p.front; dot = q.a; member = q.b; rest = q.c; parts = p.parts ∙ ap (λ (vs : List Tok). p.front ++ vs) q.parts; has_name = p.first; has_dot = q.first; has_member = q.second; ended = ended_parts inner q.c q.third }

-- a call of a member, by what it is
by_member : (room : ℕ) (us : List Tok) (w m : List ℕ) (inner : List TokenNode) (s : Statement) (node : Span → Statement) → IsName w → (p : Member us w m inner) → MemberCall room w (p.member ++ p.rest) node → unplaced_statement (node (extent us)) ≡ unplaced_statement s → StatementFound room us s
by_member room us w m inner s node k p h same =
    let rest : NamedRest room w (p.dot ++ (p.member ++ p.rest)) node = inr (inl ((tt, node), (p.dot, p.member ++ p.rest, refl, this_node (nodes.Sign (codes ".")) p.dot p.has_dot, h), refl)) in
    by_name room us p.a (p.dot ++ (p.member ++ p.rest)) w s node p.parts k p.has_name rest same

addition_has : (room : ℕ) (us : List Tok) (at : Span) (w : List ℕ) (e : Expression) → IsName w → InExpression e → AreTokens us ((((word w ++ call (codes "add")) ++ expression_tokens 8 e) ++ sign (codes ")")) ++ sign (codes ";")) → StatementFound room us (plain.Add at w e)
addition_has room us at w e k l h =
    let p : Member us w (codes "add") (expression_tokens 8 e) = member_parts w (codes "add") (expression_tokens 8 e) us h in
    let q : Ended p.rest (expression_tokens 8 e) = p.ended in
    let x : Found 8 (pred room) q.i e = whole_expression e (pred room) q.i l q.has_inner in
    let add : Addition room w (p.member ++ p.rest) (λ (place : Span). plain.Add place w x.value) = (
      (tt, (x.value, tt)),
      (
        p.member,
        p.rest,
        refl,
        this_node (nodes.Word (codes "add")) p.member p.has_member,
        (q.front, q.back, q.parts, parenthesised_has room (HasExpression (pred room)) p.rest (expression_tokens 8 e) q x.value x.has, this_node (nodes.Sign (codes ";")) q.back q.has_end),
      ),
      refl,
    ) in
    by_member room us w (codes "add") (expression_tokens 8 e) (plain.Add at w e) (λ place. plain.Add place w x.value) k p (inl add) (ap (plain.Add nowhere w) x.same)

-- ---- sorts

-- . reversed ( ), where the directions differ
abbrev turns : Bool → Bool → List (Option (List ℕ))
turns true true = []
turns false false = []
turns true false = None ∷ []
turns false true = None ∷ []

abbrev further_keys : List (List ℕ) → List Bool → List (Option (List ℕ))
further_keys [] downs = []
further_keys (key ∷ keys) [] = []
further_keys (key ∷ keys) (down ∷ downs) = Some key ∷ (turns down (first_or_false downs) ++ further_keys keys downs)

turned : (down next : Bool) (fs : List (Option (List ℕ))) → is_turned fs ≡ next → is_turned (turns down next ++ fs) ≡ down
turned true true fs e = e
turned false false fs e = e
turned true false fs e = ap not e
turned false true fs e = ap not e

all_turned : (keys : List (List ℕ)) (downs : List Bool) → AreKeys keys downs → is_turned (further_keys keys downs) ≡ first_or_false downs
all_turned [] [] h = refl
all_turned [] (d ∷ downs) h = absurd h
all_turned (key ∷ keys) [] h = absurd h
all_turned (key ∷ keys) (down ∷ downs) h = turned down (first_or_false downs) (further_keys keys downs) (all_turned keys downs h.1)

keys_behind : (down next : Bool) (fs : List (Option (List ℕ))) → keys_in (turns down next ++ fs) ≡ keys_in fs
keys_behind true true fs = refl
keys_behind false false fs = refl
keys_behind true false fs = refl
keys_behind false true fs = refl

downs_behind : (down next : Bool) (fs : List (Option (List ℕ))) → downs_in (turns down next ++ fs) ≡ downs_in fs
downs_behind true true fs = refl
downs_behind false false fs = refl
downs_behind true false fs = refl
downs_behind false true fs = refl

keys_are : (keys : List (List ℕ)) (downs : List Bool) → AreKeys keys downs → keys_in (further_keys keys downs) ≡ keys
keys_are [] [] h = refl
keys_are [] (d ∷ downs) h = absurd h
keys_are (key ∷ keys) [] h = absurd h
keys_are (key ∷ keys) (down ∷ downs) h = ap (λ (ks : List (List ℕ)). key ∷ ks) (keys_behind down (first_or_false downs) (further_keys keys downs) ∙ keys_are keys downs h.1)

downs_are : (keys : List (List ℕ)) (downs : List Bool) → AreKeys keys downs → downs_in (further_keys keys downs) ≡ downs
downs_are [] [] h = refl
downs_are [] (d ∷ downs) h = absurd h
downs_are (key ∷ keys) [] h = absurd h
downs_are (key ∷ keys) (down ∷ downs) h =
    ap (λ (b : Bool). b ∷ downs_in (turns down (first_or_false downs) ++ further_keys keys downs)) (all_turned (key ∷ keys) (down ∷ downs) h)
    ∙ ap (λ (ds : List Bool). down ∷ ds) (downs_behind down (first_or_false downs) (further_keys keys downs) ∙ downs_are keys downs h.1)

-- x -> x . key
abbrev lambda : List ℕ → List TokenNode
lambda key = word (codes "x") ++ (sign (codes "->") ++ (word (codes "x") ++ (sign (codes ".") ++ word key)))

key_has : (room : ℕ) (us : List Tok) (key : List ℕ) → IsName key → AreTokens us (lambda key) → Key room us key
key_has room us key k h =
    let p : Three us (word (codes "x")) (sign (codes "->")) (word (codes "x") ++ (sign (codes ".") ++ word key)) = three (word (codes "x")) (sign (codes "->")) (word (codes "x") ++ (sign (codes ".") ++ word key)) us h in
    let q : Three p.c (word (codes "x")) (sign (codes ".")) (word key) = three (word (codes "x")) (sign (codes ".")) (word key) p.c p.third in
    inr (
      (codes "x", key),
      (
        p.a,
        p.b ++ p.c,
        p.parts,
        name_has (codes "x") p.a refl p.first,
        ((tt, (tt, (tt, key))), (p.b, p.c, refl, this_node (nodes.Sign (codes "->")) p.b p.second, (q.a, q.b ++ q.c, q.parts, this_node (nodes.Word (codes "x")) q.a q.first, (q.b, q.c, refl, this_node (nodes.Sign (codes ".")) q.b q.second, name_has key q.c k q.third))), refl),
      ),
      refl,
    )

many_append : {A : Type 0} → (P : Rule A) (us vs : List Tok) (xs ys : List A) → Many P us xs → Many P vs ys → Many P (us ++ vs) (xs ++ ys)
many_append P us vs [] ys h k = subst (λ (ws : List Tok). Many P (ws ++ vs) ys) (sym h) k
many_append P us vs (x ∷ xs) ys h k = (h.0, h.1 ++ vs, ap (λ (ws : List Tok). ws ++ vs) h.2 ∙ append_assoc h.0 h.1 vs, h.3, many_append P h.1 vs xs ys h.4 k)

many_none : {A : Type 0} → (P : Rule A) (us : List Tok) → AreTokens us [] → Many P us []
many_none P us h = none_left us h

many_one : {A : Type 0} → (P : Rule A) (us : List Tok) (x : A) → P us x → Many P us (x ∷ [])
many_one P us x h = (us, [], sym (append-nil us), h, refl)

-- . reversed ( )
reversed_has : (room : ℕ) (us : List Tok) → AreTokens us (call (codes "reversed") ++ sign (codes ")")) → Further room us None
reversed_has room us h =
    let p : Three us (sign (codes ".")) (word (codes "reversed")) (sign (codes "(") ++ sign (codes ")")) = three (sign (codes ".")) (word (codes "reversed")) (sign (codes "(") ++ sign (codes ")")) us h in
    let q : Parts p.c (sign (codes "(")) (sign (codes ")")) = split (sign (codes "(")) (sign (codes ")")) p.c p.third in (
      (tt, None),
      (
        p.a,
        p.b ++ p.c,
        p.parts,
        this_node (nodes.Sign (codes ".")) p.a p.first,
        inr ((tt, (tt, tt)), (p.b, p.c, refl, this_node (nodes.Word (codes "reversed")) p.b p.second, (q.front, q.back, q.parts, opens room (codes "(") q.front q.first, this_node (nodes.Sign (codes ")")) q.back q.second)), refl),
      ),
      refl,
    )

turns_have : (room : ℕ) (us : List Tok) (down next : Bool) → AreTokens us (reversed_tokens down next) → Many (Further room) us (turns down next)
turns_have room us true true h = many_none (Further room) us h
turns_have room us false false h = many_none (Further room) us h
turns_have room us true false h = many_one (Further room) us None (reversed_has room us h)
turns_have room us false true h = many_one (Further room) us None (reversed_has room us h)

-- . thenComparing ( key )
further_has : (room : ℕ) (us : List Tok) (key : List ℕ) → IsName key → AreTokens us (key_tokens true key) → Further room us (Some key)
further_has room us key k h =
    let p : Three us (sign (codes ".")) (word (codes "thenComparing")) (sign (codes "(") ++ (lambda key ++ sign (codes ")"))) = three (sign (codes ".")) (word (codes "thenComparing")) (sign (codes "(") ++ (lambda key ++ sign (codes ")"))) us h in
    let q : Three p.c (sign (codes "(")) (lambda key) (sign (codes ")")) = three (sign (codes "(")) (lambda key) (sign (codes ")")) p.c p.third in
    let r : Parenthesised room (Key (pred room)) p.c key = subst (λ (vs : List Tok). Parenthesised room (Key (pred room)) vs key) (sym q.parts) (in_parentheses room (Key (pred room)) q.a q.b q.c key q.first (key_has (pred room) q.b key k q.second) q.third) in
    ((tt, Some key), (p.a, p.b ++ p.c, p.parts, this_node (nodes.Sign (codes ".")) p.a p.first, inl ((tt, key), (p.b, p.c, refl, this_node (nodes.Word (codes "thenComparing")) p.b p.second, r), refl)), refl)

further_have : (room : ℕ) (us : List Tok) (keys : List (List ℕ)) (downs : List Bool) → AreKeys keys downs → AreTokens us (keys_tokens true keys downs) → Many (Further room) us (further_keys keys downs)
further_have room us [] [] k h = many_none (Further room) us h
further_have room us [] (d ∷ downs) k h = absurd k
further_have room us (key ∷ keys) [] k h = absurd k
further_have room us (key ∷ keys) (down ∷ downs) k h =
    let p : Three us (key_tokens true key) (reversed_tokens down (first_or_false downs)) (keys_tokens true keys downs) = three (key_tokens true key) (reversed_tokens down (first_or_false downs)) (keys_tokens true keys downs) us (retold us ((key_tokens true key ++ reversed_tokens down (first_or_false downs)) ++ keys_tokens true keys downs) (key_tokens true key ++ (reversed_tokens down (first_or_false downs) ++ keys_tokens true keys downs)) (append_assoc (key_tokens true key) (reversed_tokens down (first_or_false downs)) (keys_tokens true keys downs)) h) in
    let behind : Many (Further room) (p.b ++ p.c) (turns down (first_or_false downs) ++ further_keys keys downs) = many_append (Further room) p.b p.c (turns down (first_or_false downs)) (further_keys keys downs) (turns_have room p.b down (first_or_false downs) p.second) (further_have room p.c keys downs k.1 p.third) in
    (p.a, p.b ++ p.c, p.parts, further_has room p.a key k.0 p.first, behind)

keys_have : (room : ℕ) (us : List Tok) (key : List ℕ) (keys : List (List ℕ)) (down : Bool) (downs : List Bool) → AreKeys (key ∷ keys) (down ∷ downs) → AreTokens us (keys_tokens false (key ∷ keys) (down ∷ downs)) → Keys room us (further_keys (key ∷ keys) (down ∷ downs))
keys_have room us key keys down downs k h =
    let p : Three us (key_tokens false key) (reversed_tokens down (first_or_false downs)) (keys_tokens true keys downs) = three (key_tokens false key) (reversed_tokens down (first_or_false downs)) (keys_tokens true keys downs) us (retold us ((key_tokens false key ++ reversed_tokens down (first_or_false downs)) ++ keys_tokens true keys downs) (key_tokens false key ++ (reversed_tokens down (first_or_false downs) ++ keys_tokens true keys downs)) (append_assoc (key_tokens false key) (reversed_tokens down (first_or_false downs)) (keys_tokens true keys downs)) h) in
    let behind : Many (Further room) (p.b ++ p.c) (turns down (first_or_false downs) ++ further_keys keys downs) = many_append (Further room) p.b p.c (turns down (first_or_false downs)) (further_keys keys downs) (turns_have room p.b down (first_or_false downs) p.second) (further_have room p.c keys downs k.1 p.third) in
    let q : Three p.a (word (codes "Comparator")) (sign (codes ".")) (word (codes "comparing") ++ (sign (codes "(") ++ (lambda key ++ sign (codes ")")))) = three (word (codes "Comparator")) (sign (codes ".")) (word (codes "comparing") ++ (sign (codes "(") ++ (lambda key ++ sign (codes ")")))) p.a p.first in
    let r : Parts q.c (word (codes "comparing")) (sign (codes "(") ++ (lambda key ++ sign (codes ")"))) = split (word (codes "comparing")) (sign (codes "(") ++ (lambda key ++ sign (codes ")"))) q.c q.third in
    let s : Three r.back (sign (codes "(")) (lambda key) (sign (codes ")")) = three (sign (codes "(")) (lambda key) (sign (codes ")")) r.back r.second in
    let first : Parenthesised room (Key (pred room)) r.back key = subst (λ (vs : List Tok). Parenthesised room (Key (pred room)) vs key) (sym s.parts) (in_parentheses room (Key (pred room)) s.a s.b s.c key s.first (key_has (pred room) s.b key k.0 s.second) s.third) in
    let e : us ≡ q.a ++ (q.b ++ (r.front ++ (r.back ++ (p.b ++ p.c)))) =
    p.parts
    ∙ ap (λ (vs : List Tok). vs ++ (p.b ++ p.c)) (q.parts ∙ ap (λ (vs : List Tok). q.a ++ (q.b ++ vs)) r.parts)
    ∙ append_assoc q.a (q.b ++ (r.front ++ r.back)) (p.b ++ p.c)
    ∙ ap (λ (vs : List Tok). q.a ++ vs) (append_assoc q.b (r.front ++ r.back) (p.b ++ p.c) ∙ ap (λ (vs : List Tok). q.b ++ vs) (append_assoc r.front r.back (p.b ++ p.c))) in (
      (tt, (tt, (tt, (key, turns down (first_or_false downs) ++ further_keys keys downs)))),
      (
        q.a,
        q.b ++ (r.front ++ (r.back ++ (p.b ++ p.c))),
        e,
        this_node (nodes.Word (codes "Comparator")) q.a q.first,
        (
          q.b,
          r.front ++ (r.back ++ (p.b ++ p.c)),
          refl,
          this_node (nodes.Sign (codes ".")) q.b q.second,
          (
            r.front,
            r.back ++ (p.b ++ p.c),
            refl,
            this_node (nodes.Word (codes "comparing")) r.front r.first,
            (r.back, p.b ++ p.c, refl, first, behind),
          ),
        ),
      ),
      refl,
    )

sort_has : (room : ℕ) (us : List Tok) (at : Span) (w : List ℕ) (keys : List (List ℕ)) (downs : List Bool) → IsName w → IsSome keys → AreKeys keys downs → AreTokens us ((((word w ++ call (codes "sort")) ++ keys_tokens false keys downs) ++ sign (codes ")")) ++ sign (codes ";")) → StatementFound room us (plain.Sort at w keys downs)
sort_has room us at w [] downs k some l h = absurd some
sort_has room us at w (key ∷ keys) [] k some l h = absurd l
sort_has room us at w (key ∷ keys) (down ∷ downs) k some l h =
    let p : Member us w (codes "sort") (keys_tokens false (key ∷ keys) (down ∷ downs)) = member_parts w (codes "sort") (keys_tokens false (key ∷ keys) (down ∷ downs)) us h in
    let q : Ended p.rest (keys_tokens false (key ∷ keys) (down ∷ downs)) = p.ended in
    let fs : List (Option (List ℕ)) = further_keys (key ∷ keys) (down ∷ downs) in
    let found : Keys (pred room) q.i (further_keys (key ∷ keys) (down ∷ downs)) = keys_have (pred room) q.i key keys down downs l q.has_inner in
    let sort : Sorting room w (p.member ++ p.rest) (λ (place : Span). plain.Sort place w (keys_in (further_keys (key ∷ keys) (down ∷ downs))) (downs_in (further_keys (key ∷ keys) (down ∷ downs)))) = (
      (tt, (further_keys (key ∷ keys) (down ∷ downs), tt)),
      (
        p.member,
        p.rest,
        refl,
        this_node (nodes.Word (codes "sort")) p.member p.has_member,
        (q.front, q.back, q.parts, parenthesised_has room (Keys (pred room)) p.rest (keys_tokens false (key ∷ keys) (down ∷ downs)) q (further_keys (key ∷ keys) (down ∷ downs)) found, this_node (nodes.Sign (codes ";")) q.back q.has_end),
      ),
      refl,
    ) in
    by_member room us w (codes "sort") (keys_tokens false (key ∷ keys) (down ∷ downs)) (plain.Sort at w (key ∷ keys) (down ∷ downs)) (λ place. plain.Sort place w (keys_in (further_keys (key ∷ keys) (down ∷ downs))) (downs_in (further_keys (key ∷ keys) (down ∷ downs)))) k p (inr (inl sort))
    (ap (λ (ks : List (List ℕ)). plain.Sort nowhere w ks (downs_in (further_keys (key ∷ keys) (down ∷ downs)))) (keys_are (key ∷ keys) (down ∷ downs) l) ∙ ap (plain.Sort nowhere w (key ∷ keys)) (downs_are (key ∷ keys) (down ∷ downs) l))

-- ---- prints, returns, breaks

print_has : (room : ℕ) (us : List Tok) (at : Span) (e : Expression) → InExpression e → AreTokens us (tested_tokens print_head e ++ sign (codes ";")) → StatementFound room us (plain.Print at e)
print_has room us at e k h =
    let g : AreTokens us (word (codes "System") ++ (sign (codes ".") ++ (word (codes "out") ++ (sign (codes ".") ++ (word (codes "println") ++ ((sign (codes "(") ++ (expression_tokens 8 e ++ sign (codes ")"))) ++ sign (codes ";"))))))) = h in
    let p : Three us (word (codes "System")) (sign (codes ".")) (word (codes "out") ++ (sign (codes ".") ++ (word (codes "println") ++ ((sign (codes "(") ++ (expression_tokens 8 e ++ sign (codes ")"))) ++ sign (codes ";"))))) = three (word (codes "System")) (sign (codes ".")) (word (codes "out") ++ (sign (codes ".") ++ (word (codes "println") ++ ((sign (codes "(") ++ (expression_tokens 8 e ++ sign (codes ")"))) ++ sign (codes ";"))))) us g in
    let q : Three p.c (word (codes "out")) (sign (codes ".")) (word (codes "println") ++ ((sign (codes "(") ++ (expression_tokens 8 e ++ sign (codes ")"))) ++ sign (codes ";"))) = three (word (codes "out")) (sign (codes ".")) (word (codes "println") ++ ((sign (codes "(") ++ (expression_tokens 8 e ++ sign (codes ")"))) ++ sign (codes ";"))) p.c p.third in
    let r : Parts q.c (word (codes "println")) ((sign (codes "(") ++ (expression_tokens 8 e ++ sign (codes ")"))) ++ sign (codes ";")) = split (word (codes "println")) ((sign (codes "(") ++ (expression_tokens 8 e ++ sign (codes ")"))) ++ sign (codes ";")) q.c q.third in
    let s : Ended r.back (expression_tokens 8 e) = ended_parts (expression_tokens 8 e) r.back r.second in
    let x : Found 8 (pred room) s.i e = whole_expression e (pred room) s.i k s.has_inner in
    let print : Printing room p.c (λ (place : Span). plain.Print place x.value) = (
      (tt, (tt, (tt, (x.value, tt)))),
      (
        q.a,
        q.b ++ q.c,
        q.parts,
        this_node (nodes.Word (codes "out")) q.a q.first,
        (
          q.b,
          q.c,
          refl,
          this_node (nodes.Sign (codes ".")) q.b q.second,
          (
            r.front,
            r.back,
            r.parts,
            this_node (nodes.Word (codes "println")) r.front r.first,
            (s.front, s.back, s.parts, parenthesised_has room (HasExpression (pred room)) r.back (expression_tokens 8 e) s x.value x.has, this_node (nodes.Sign (codes ";")) s.back s.has_end),
          ),
        ),
      ),
      refl,
    ) in
    let rest : NamedRest room (codes "System") (p.b ++ p.c) (λ (place : Span). plain.Print place x.value) = inr (inl ((tt, λ (place : Span). plain.Print place x.value), (p.b, p.c, refl, this_node (nodes.Sign (codes ".")) p.b p.second, inr (inr (refl, print))), refl)) in
    by_name room us p.a (p.b ++ p.c) (codes "System") (plain.Print at e) (λ place. plain.Print place x.value) p.parts refl p.first rest (ap (plain.Print nowhere) x.same)

return_has : (room : ℕ) (us : List Tok) (at : Span) (value : Option Expression) → InReturn value → AreTokens us (returned_tokens value ++ sign (codes ";")) → StatementFound room us (plain.Return at value)
return_has room us at None k h =
    let p : Parts us (word (codes "return")) (sign (codes ";")) = split (word (codes "return")) (sign (codes ";")) us h in
    by_plain room us (plain.Return at None) (plain.Return (extent us) None) (inl ((tt, None), (p.front, p.back, p.parts, this_node (nodes.Word (codes "return")) p.front p.first, inl (tt, this_node (nodes.Sign (codes ";")) p.back p.second, refl)), refl)) refl
return_has room us at (Some e) k h =
    let p : Three us (word (codes "return")) (expression_tokens 8 e) (sign (codes ";")) = three (word (codes "return")) (expression_tokens 8 e) (sign (codes ";")) us h in
    let x : Found 8 room p.b e = whole_expression e room p.b k p.second in
    by_plain room us (plain.Return at (Some e)) (plain.Return (extent us) (Some x.value)) (inl ((tt, Some x.value), (p.a, p.b ++ p.c, p.parts, this_node (nodes.Word (codes "return")) p.a p.first, inr (x.value, value_has room p.b p.c x.value x.has p.third, refl)), refl)) (ap (λ (y : Expression). plain.Return nowhere (Some y)) x.same)

break_has : (room : ℕ) (us : List Tok) (at : Span) → AreTokens us (word (codes "break") ++ sign (codes ";")) → StatementFound room us (plain.Break at)
break_has room us at h =
    let p : Parts us (word (codes "break")) (sign (codes ";")) = split (word (codes "break")) (sign (codes ";")) us h in
    by_plain room us (plain.Break at) (plain.Break (extent us)) (inr (inl ((tt, tt), (p.front, p.back, p.parts, this_node (nodes.Word (codes "break")) p.front p.first, this_node (nodes.Sign (codes ";")) p.back p.second), refl))) refl

-- ---- statements with bodies

pub record StatementsFound (room : ℕ) (us : List Tok) (ss : Statements) : Type 0 where
  pub values : Statements
  pub has : HasStatements room us values
  pub same : unplaced_block values ≡ unplaced_block ss

pub record BlockFound (room : ℕ) (us : List Tok) (ss : Statements) : Type 0 where
  pub values : Statements
  pub has : HasBlock room us values
  pub same : unplaced_block values ≡ unplaced_block ss

pub block_has : (room : ℕ) (us : List Tok) (ss : Statements) → AreTokens us (braced_tokens (statements_tokens ss)) → ((vs : List Tok) → AreTokens vs (statements_tokens ss) → StatementsFound (pred room) vs ss) → BlockFound room us ss
block_has room us ss h found =
    let p : Three us (sign (codes "{")) (statements_tokens ss) (sign (codes "}")) = three (sign (codes "{")) (statements_tokens ss) (sign (codes "}")) us h in
    let f : StatementsFound (pred room) p.b ss = found p.b p.second in
    let g : HasBlock room (p.a ++ (p.b ++ p.c)) f.values = braces (opens room (codes "{") p.a p.first) f.has (this_node (nodes.Sign (codes "}")) p.c p.third) in
    record { values = f.values; has = subst (λ (vs : List Tok). HasBlock room vs f.values) (sym p.parts) g; same = f.same }

-- word ( expr )
abbrev HeadRule : List ℕ → ℕ → Rule Expression
HeadRule w room = Made (λ x. x.1) (Seq (Word w) (Condition room))

pub record HeadFound (w : List ℕ) (room : ℕ) (us : List Tok) (e : Expression) : Type 0 where
  pub value : Expression
  pub has : HeadRule w room us value
  pub same : unplaced value ≡ unplaced e

head_has : (w : List ℕ) (room : ℕ) (us : List Tok) (e : Expression) → InExpression e → AreTokens us (tested_tokens (word w ++ sign (codes "(")) e) → HeadFound w room us e
head_has w room us e k h =
    let p : Parts us (word w) (sign (codes "(") ++ (expression_tokens 8 e ++ sign (codes ")"))) = split (word w) (sign (codes "(") ++ (expression_tokens 8 e ++ sign (codes ")"))) us h in
    let q : Three p.back (sign (codes "(")) (expression_tokens 8 e) (sign (codes ")")) = three (sign (codes "(")) (expression_tokens 8 e) (sign (codes ")")) p.back p.second in
    let x : Found 8 (pred room) q.b e = whole_expression e (pred room) q.b k q.second in
    let c : Condition room p.back x.value = subst (λ (vs : List Tok). Condition room vs x.value) (sym q.parts) (in_parentheses room (HasExpression (pred room)) q.a q.b q.c x.value q.first x.has q.third) in
    record { value = x.value; has = ((tt, x.value), (p.front, p.back, p.parts, this_node (nodes.Word w) p.front p.first, c), refl); same = x.same }

pub record WalkFound (room : ℕ) (us : List Tok) (ty : Spelled) (w : List ℕ) (e : Expression) : Type 0 where
  pub value : Expression
  pub has : ForHead room us (ty, (w, value))
  pub same : unplaced value ≡ unplaced e

walk_has : (room : ℕ) (us : List Tok) (ty : Spelled) (w : List ℕ) (e : Expression) → IsType ty → IsName w → InExpression e → AreTokens us (walked_tokens ty w e) → WalkFound room us ty w e
walk_has room us ty w e k l m h =
    let inner : List TokenNode = type_tokens ty ++ (word w ++ (sign (codes ":") ++ expression_tokens 8 e)) in
    let eq : ((((type_tokens ty ++ word w) ++ sign (codes ":")) ++ expression_tokens 8 e) ++ sign (codes ")")) ≡ (type_tokens ty ++ (word w ++ (sign (codes ":") ++ expression_tokens 8 e))) ++ sign (codes ")") = ap (λ (ns : List TokenNode). ns ++ sign (codes ")")) (regroup (type_tokens ty) (word w) (sign (codes ":")) (expression_tokens 8 e)) in
    let p : Parts us (word (codes "for")) (sign (codes "(") ++ ((((type_tokens ty ++ word w) ++ sign (codes ":")) ++ expression_tokens 8 e) ++ sign (codes ")"))) = split (word (codes "for")) (sign (codes "(") ++ ((((type_tokens ty ++ word w) ++ sign (codes ":")) ++ expression_tokens 8 e) ++ sign (codes ")"))) us h in
    let q : Three p.back (sign (codes "(")) (type_tokens ty ++ (word w ++ (sign (codes ":") ++ expression_tokens 8 e))) (sign (codes ")")) = three (sign (codes "(")) (type_tokens ty ++ (word w ++ (sign (codes ":") ++ expression_tokens 8 e))) (sign (codes ")")) p.back (subst (λ (ns : List TokenNode). AreTokens p.back (sign (codes "(") ++ ns)) eq p.second) in
    let r : Three q.b (type_tokens ty) (word w) (sign (codes ":") ++ expression_tokens 8 e) = three (type_tokens ty) (word w) (sign (codes ":") ++ expression_tokens 8 e) q.b q.second in
    let s : Parts r.c (sign (codes ":")) (expression_tokens 8 e) = split (sign (codes ":")) (expression_tokens 8 e) r.c r.third in
    let x : Found 8 (pred room) s.back e = whole_expression e (pred room) s.back m s.second in
    let walk : Walk (pred room) q.b (ty, (w, x.value)) =
    ((ty, (w, (tt, x.value))), (r.a, r.b ++ r.c, r.parts, type_has ty r.a k r.first, (r.b, r.c, refl, name_has w r.b l r.second, (s.front, s.back, s.parts, this_node (nodes.Sign (codes ":")) s.front s.first, x.has))), refl) in
    let c : Parenthesised room (Walk (pred room)) p.back (ty, (w, x.value)) = subst (λ (vs : List Tok). Parenthesised room (Walk (pred room)) vs (ty, (w, x.value))) (sym q.parts) (in_parentheses room (Walk (pred room)) q.a q.b q.c (ty, (w, x.value)) q.first walk q.third) in
    record { value = x.value; has = ((tt, (ty, (w, x.value))), (p.front, p.back, p.parts, this_node (nodes.Word (codes "for")) p.front p.first, c), refl); same = x.same }

abbrev BlocksHave : ℕ → Statements → Type 0
BlocksHave room ss = (vs : List Tok) → AreTokens vs (braced_tokens (statements_tokens ss)) → BlockFound room vs ss

if_has : (room : ℕ) (us : List Tok) (at : Span) (e : Expression) (first : Statements) → InExpression e → AreTokens us (tested_tokens (word (codes "if") ++ sign (codes "(")) e ++ braced_tokens (statements_tokens first)) → BlocksHave room first → StatementFound room us (plain.If at e first)
if_has room us at e first k h found =
    let p : Parts us (tested_tokens (word (codes "if") ++ sign (codes "(")) e) (braced_tokens (statements_tokens first)) = split (tested_tokens (word (codes "if") ++ sign (codes "(")) e) (braced_tokens (statements_tokens first)) us h in
    let x : HeadFound (codes "if") room p.front e = head_has (codes "if") room p.front e k p.first in
    let b : BlockFound room p.back first = found p.back p.second in
    let g : HasStatement room true (p.front ++ p.back) (plain.If (extent (p.front ++ p.back)) x.value b.values) = if_alone x.has (block b.has) in
    record {
      value = plain.If (extent us) x.value b.values;
      has = λ ss vs r. stated (subst (λ (ws : List Tok). HasStatement room true ws (plain.If (extent ws) x.value b.values)) (sym p.parts) g) r;
      same = ap (λ (y : Expression). plain.If nowhere y (unplaced_block b.values)) x.same ∙ ap (plain.If nowhere (unplaced e)) b.same;
    }

if_else_has : (room : ℕ) (us : List Tok) (at : Span) (e : Expression) (first other : Statements) → InExpression e → AreTokens us (tested_tokens (word (codes "if") ++ sign (codes "(")) e ++ (braced_tokens (statements_tokens first) ++ (word (codes "else") ++ braced_tokens (statements_tokens other)))) → BlocksHave room first → BlocksHave room other → StatementFound room us (plain.IfElse at e first other)
if_else_has room us at e first other k h found found' =
    let p : Three us (tested_tokens (word (codes "if") ++ sign (codes "(")) e) (braced_tokens (statements_tokens first)) (word (codes "else") ++ braced_tokens (statements_tokens other)) = three (tested_tokens (word (codes "if") ++ sign (codes "(")) e) (braced_tokens (statements_tokens first)) (word (codes "else") ++ braced_tokens (statements_tokens other)) us h in
    let q : Parts p.c (word (codes "else")) (braced_tokens (statements_tokens other)) = split (word (codes "else")) (braced_tokens (statements_tokens other)) p.c p.third in
    let x : HeadFound (codes "if") room p.a e = head_has (codes "if") room p.a e k p.first in
    let b : BlockFound room p.b first = found p.b p.second in
    let c : BlockFound room q.back other = found' q.back q.second in
    let g : HasStatement room false (p.a ++ (p.b ++ (q.front ++ q.back))) (plain.IfElse (extent (p.a ++ (p.b ++ (q.front ++ q.back)))) x.value b.values c.values) = if_else x.has (block b.has) (this_node (nodes.Word (codes "else")) q.front q.first) (block c.has) in
    let e' : us ≡ p.a ++ (p.b ++ (q.front ++ q.back)) = p.parts ∙ ap (λ (vs : List Tok). p.a ++ (p.b ++ vs)) q.parts in
    record {
      value = plain.IfElse (extent us) x.value b.values c.values;
      has = λ ss vs r. stated (subst (λ (ws : List Tok). HasStatement room false ws (plain.IfElse (extent ws) x.value b.values c.values)) (sym e') g) r;
      same = ap (λ (y : Expression). plain.IfElse nowhere y (unplaced_block b.values) (unplaced_block c.values)) x.same ∙ ap (λ (y : Statements). plain.IfElse nowhere (unplaced e) y (unplaced_block c.values)) b.same ∙ ap (plain.IfElse nowhere (unplaced e) (unplaced_block first)) c.same;
    }

for_each_has : (room : ℕ) (us : List Tok) (at : Span) (ty : Spelled) (w : List ℕ) (e : Expression) (body : Statements) → IsType ty → IsName w → InExpression e → AreTokens us (walked_tokens ty w e ++ braced_tokens (statements_tokens body)) → BlocksHave room body → StatementFound room us (plain.ForEach at ty w e body)
for_each_has room us at ty w e body k l m h found =
    let p : Parts us (walked_tokens ty w e) (braced_tokens (statements_tokens body)) = split (walked_tokens ty w e) (braced_tokens (statements_tokens body)) us h in
    let x : WalkFound room p.front ty w e = walk_has room p.front ty w e k l m p.first in
    let b : BlockFound room p.back body = found p.back p.second in
    let g : HasStatement room false (p.front ++ p.back) (plain.ForEach (extent (p.front ++ p.back)) ty w x.value b.values) = for_each x.has (block b.has) in
    record {
      value = plain.ForEach (extent us) ty w x.value b.values;
      has = λ ss vs r. stated (subst (λ (ws : List Tok). HasStatement room false ws (plain.ForEach (extent ws) ty w x.value b.values)) (sym p.parts) g) r;
      same = ap (λ (y : Expression). plain.ForEach nowhere ty w y (unplaced_block b.values)) x.same ∙ ap (plain.ForEach nowhere ty w (unplaced e)) b.same;
    }

while_has : (room : ℕ) (us : List Tok) (at : Span) (e : Expression) (body : Statements) → InExpression e → AreTokens us (tested_tokens (word (codes "while") ++ sign (codes "(")) e ++ braced_tokens (statements_tokens body)) → BlocksHave room body → StatementFound room us (plain.While at e body)
while_has room us at e body k h found =
    let p : Parts us (tested_tokens (word (codes "while") ++ sign (codes "(")) e) (braced_tokens (statements_tokens body)) = split (tested_tokens (word (codes "while") ++ sign (codes "(")) e) (braced_tokens (statements_tokens body)) us h in
    let x : HeadFound (codes "while") room p.front e = head_has (codes "while") room p.front e k p.first in
    let b : BlockFound room p.back body = found p.back p.second in
    let g : HasStatement room false (p.front ++ p.back) (plain.While (extent (p.front ++ p.back)) x.value b.values) = while x.has (block b.has) in
    record {
      value = plain.While (extent us) x.value b.values;
      has = λ ss vs r. stated (subst (λ (ws : List Tok). HasStatement room false ws (plain.While (extent ws) x.value b.values)) (sym p.parts) g) r;
      same = ap (λ (y : Expression). plain.While nowhere y (unplaced_block b.values)) x.same ∙ ap (plain.While nowhere (unplaced e)) b.same;
    }

mutual
  pub statement_has : (s : Statement) (room : ℕ) (us : List Tok) → InStatement s → AreTokens us (statement_tokens s) → StatementFound room us s
  statement_has (plain.Declare at ty w e) room us k h = declaration_has room us at ty w e k.0 k.1 k.2 (retold us ((((type_tokens ty ++ word w) ++ sign (codes "=")) ++ expression_tokens 8 e) ++ sign (codes ";")) (type_tokens ty ++ (word w ++ (sign (codes "=") ++ (expression_tokens 8 e ++ sign (codes ";"))))) (regroup_five (type_tokens ty) (word w) (sign (codes "=")) (expression_tokens 8 e) (sign (codes ";"))) h)
  statement_has (plain.Assign at w e) room us k h = assignment_has room us at w e k.0 k.1 h
  statement_has (plain.Add at w e) room us k h = addition_has room us at w e k.0 k.1 h
  statement_has (plain.Sort at w keys downs) room us k h = sort_has room us at w keys downs k.0 k.1 k.2 h
  statement_has (plain.If at e first) room us k h = if_has room us at e first k.0 h (λ vs t. block_has room vs first t (λ ws u. statements_have first (pred room) ws k.1 u))
  statement_has (plain.IfElse at e first other) room us k h =
      if_else_has room us at e first other k.0 (retold us (((tested_tokens (word (codes "if") ++ sign (codes "(")) e ++ braced_tokens (statements_tokens first)) ++ word (codes "else")) ++ braced_tokens (statements_tokens other)) (tested_tokens (word (codes "if") ++ sign (codes "(")) e ++ (braced_tokens (statements_tokens first) ++ (word (codes "else") ++ braced_tokens (statements_tokens other)))) (regroup (tested_tokens (word (codes "if") ++ sign (codes "(")) e) (braced_tokens (statements_tokens first)) (word (codes "else")) (braced_tokens (statements_tokens other))) h)
      (λ vs t. block_has room vs first t (λ ws u. statements_have first (pred room) ws k.1 u)) (λ vs t. block_has room vs other t (λ ws u. statements_have other (pred room) ws k.2 u))
  statement_has (plain.ForEach at ty w e body) room us k h = for_each_has room us at ty w e body k.0 k.1 k.2 h (λ vs t. block_has room vs body t (λ ws u. statements_have body (pred room) ws k.3 u))
  statement_has (plain.While at e body) room us k h = while_has room us at e body k.0 h (λ vs t. block_has room vs body t (λ ws u. statements_have body (pred room) ws k.1 u))
  statement_has (plain.Print at e) room us k h = print_has room us at e k h
  statement_has (plain.Return at value) room us k h = return_has room us at value k h
  statement_has (plain.Break at) room us k h = break_has room us at h

  pub statements_have : (ss : Statements) (room : ℕ) (us : List Tok) → InStatements ss → AreTokens us (statements_tokens ss) → StatementsFound room us ss
  statements_have plain.Nothing room us k h = record { values = plain.Nothing; has = subst (λ (vs : List Tok). HasStatements room vs plain.Nothing) (sym (none_left us h)) none; same = refl }
  statements_have (plain.Then s ss) room us k h =
      let p : Parts us (statement_tokens s) (statements_tokens ss) = split (statement_tokens s) (statements_tokens ss) us h in
      let x : StatementFound room p.front s = statement_has s room p.front k.0 p.first in
      let f : StatementsFound room p.back ss = statements_have ss room p.back k.1 p.second in
      record {
        values = plain.Then x.value f.values;
        has = subst (λ (vs : List Tok). HasStatements room vs (plain.Then x.value f.values)) (sym p.parts) (x.has f.values p.back f.has);
        same = ap (λ (y : Statement). plain.Then y (unplaced_block f.values)) x.same ∙ ap (plain.Then (unplaced_statement s)) f.same;
      }
