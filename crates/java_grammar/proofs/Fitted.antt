-- What has tokens that can be written is a tree of the grammar that can be written: statements and programs.
use Rattle.std.proofs.Common.{◌≡◌, ℕ, Bool, true, false, cond, List, [], ◌∷◌, ◌++◌, refl, sym, ap, subst, ◌∙◌, arith, codes, Option, Some, None, Ok, inl, inr}
use Rattle.std.specs.Prelude.{pred, not, ◌==◌}
use Rattle.std.specs.Str.{bytes_eq}
use Rattle.std.proofs.lemmas.Bool.Decides.{nat_tests}
use Rattle.qbs_base.specs.declared.span.Span.{Span}
use Rattle.java_ast.specs.Tree as plain
use Rattle.java_ast.specs.Tree.{Spelled, Expression, Statement, Statements, PlainParam, PlainMethod, PlainProgram}
use Rattle.java_text.specs.Canonical.{canonical}
use Rattle.java_lex.specs.declared.token.Token.{Token}
use Rattle.java_lex.specs.declared.token.Tokens.{Tokens}
use Rattle.java_lex.specs.Lexing.{lexed}
use Rattle.qbs_base.specs.Bytes.{is_name_start, is_name_part}
use Rattle.java_lex.proofs.Lengths.{on_cond}
use Rattle.java_grammar.specs.Marks.{Tok, all_free, extent}
use Rattle.java_grammar.specs.Rules.{Rule, Many}
use Rattle.java_grammar.specs.Words.{by_word, is_name, is_table, is_variable, is_number_type, scalar_type, table_type, or_else, word_type, collection_of}
use Rattle.java_grammar.specs.Types.{Spelling, KeyColumn, Key}
use Rattle.java_grammar.specs.Expressions.{HasExpression}
use Rattle.java_grammar.specs.Statements.{Parenthesised, Condition, Value, Assignment, Increase, Increment, Addition, Printing, Further, keys_in, downs_in, Keys, Sorting, MemberCall, NamedRest, Named, Returning, Plain, Declaration, IfHead, WhileHead, Walk, ForHead, HasStatement, plain as plainly, if_alone, if_else, for_each, while, HasBody, block, single, HasBlock, braces, HasStatements, none, declared, stated}
use Rattle.java_grammar.specs.Grammar.{Result, Parameter, NextParameter, Parameters, Method, HasDotted, ended, starred, dotted, Dotted, Package, Class, HasProgram, IsProgram}
use Rattle.java_grammar.specs.Written.{IsWord, is_word, are_name_parts, onto_first, parts_of, AreWords, AreWordsOrStar, WrittenType, WrittenKeys, WrittenReturn, WrittenStatement, WrittenStatements, WrittenParams, WrittenResult, WrittenMethods, WrittenPackage, WrittenImports, IsWritten}
use Rattle.java_grammar.specs.InGrammar.{IsScalarType, IsType, IsSome, AreKeys, InReturn, InStatement, InStatements, InResult, InParams, InMethod, InMethods, AreNames, AreNamesOrStar, InDotted, InPackage, InImports, IsInGrammar}
use Rattle.java_grammar.specs.ReadBack.{IsReadBack}
use Rattle.java_grammar.proofs.Fixed.{both_true}
use Rattle.java_grammar.proofs.Good.{AllGood, lexed_good}
use Rattle.java_grammar.proofs.Fitting.{GoodToks, good_split, good_parts, NodeOf, node_of, WordFits, name_fits, by_word_fits, ElementFits, element_of, OfSome, of_some, of_none, Fits, rank_fits}
use Rattle.java_grammar.proofs.Methods.{text_is_read_back}
use Rattle.java_grammar.proofs.Programs.{word_no_star}

-- ---- types

pub record TypeFits (ty : Spelled) : Type 0 where
  pub type : IsType ty
  pub written : WrittenType ty

scalar_fits : (w : List ℕ) → OfSome TypeFits (scalar_type w)
scalar_fits w =
    on_cond (OfSome TypeFits) (bytes_eq w (codes "int")) (Some plain.Int) _ (λ e. of_some TypeFits plain.Int (record { type = tt; written = tt }))
    (λ _. on_cond (OfSome TypeFits) (bytes_eq w (codes "long")) (Some plain.Long) _ (λ e. of_some TypeFits plain.Long (record { type = tt; written = tt }))
    (λ _. on_cond (OfSome TypeFits) (bytes_eq w (codes "boolean")) (Some plain.Boolean) _ (λ e. of_some TypeFits plain.Boolean (record { type = tt; written = tt }))
    (λ _. on_cond (OfSome TypeFits) (bytes_eq w (codes "String")) (Some plain.String) None (λ e. of_some TypeFits plain.String (record { type = tt; written = tt })) (λ e. of_none TypeFits))))

or_fits : (o p : Option Spelled) → OfSome TypeFits o → OfSome TypeFits p → OfSome TypeFits (or_else o p)
or_fits None p f g = g
or_fits (Some s) p f g = f

word_type_fits : (w : List ℕ) → is_word w ≡ true → OfSome TypeFits (word_type w)
word_type_fits w g = or_fits (scalar_type w) (table_type w) (scalar_fits w) (on_cond (OfSome TypeFits) (is_table w) (Some (plain.Table w)) None (λ e. of_some TypeFits (plain.Table w) (record { type = e; written = g })) (λ e. of_none TypeFits))

collected_fits : (list : Bool) (ty : Spelled) → ElementFits ty → TypeFits (collection_of list ty)
collected_fits true ty h = record { type = h.element; written = h.written }
collected_fits false ty h = record { type = h.element; written = h.written }

pub type_fits : (us : List Tok) (ty : Spelled) → Spelling us ty → GoodToks us → TypeFits ty
type_fits us ty (inl h) g = let n : NodeOf (by_word word_type) ty = node_of (by_word word_type) us ty h g in by_word_fits TypeFits word_type n.node ty (λ w k e. word_type_fits w k ty e) n.gives n.good
type_fits us ty (inr (y, (a, b, e, c, (z, (d, f, k, lt, (i, j, l, el, gt)), is')), is)) g =
    let s : GoodToks a × GoodToks b = good_parts us a b e g in
    let t : GoodToks d × GoodToks f = good_parts b d f k s.1 in
    let u : GoodToks i × GoodToks j = good_parts f i j l t.1 in
    let h : ElementFits z.1.0 = element_of i z.1.0 el u.0 in
    subst TypeFits (sym is) (collected_fits y.0 y.1 (subst ElementFits (sym is') h))

-- ---- values and what stands in parentheses

value_fits : (room : ℕ) (us : List Tok) (x : Expression) → Value room us x → GoodToks us → Fits x
value_fits room us x (y, (a, b, e, h, t), is) g = subst Fits (sym is) (rank_fits room _ a y.0 h (good_parts us a b e g).0)

inside_of : {A : Type 0} → (Q : A → Type 0) (room : ℕ) (P : Rule A) (us : List Tok) (x : A) → ((vs : List Tok) (y : A) → P vs y → GoodToks vs → Q y) → Parenthesised room P us x → GoodToks us → Q x
inside_of Q room P us x f (y, (a, b, e, o, (c, d, k, h, cl)), is) g =
    let s : GoodToks a × GoodToks b = good_parts us a b e g in
    subst Q (sym is) (f c y.1.0 h (good_parts b c d k s.1).0)

condition_fits : (room : ℕ) (us : List Tok) (x : Expression) → Condition room us x → GoodToks us → Fits x
condition_fits room us x h g = inside_of Fits room (HasExpression (pred room)) us x (λ vs y k l. rank_fits (pred room) _ vs y k l) h g

-- ---- keys

abbrev KeyFits : List ℕ → Type 0
KeyFits key = WordFits is_name key

column_fits : (x : List ℕ) (us : List Tok) (key : List ℕ) → KeyColumn x us key → GoodToks us → KeyFits key
column_fits x us key (y, (a, b, e, arrow, (c, d, f, w, (i, j, k, dot, n))), is) g =
    let s : GoodToks a × GoodToks b = good_parts us a b e g in
    let t : GoodToks c × GoodToks d = good_parts b c d f s.1 in
    let u : GoodToks i × GoodToks j = good_parts d i j k t.1 in
    subst KeyFits (sym is) (name_fits j y.1.1.1 n u.1)

key_fits : (room : ℕ) (us : List Tok) (key : List ℕ) → Key room us key → GoodToks us → KeyFits key
key_fits room us key (inl (y, (a, b, e, o, (c, d, f, t, (i, j, k, n, (z, (l, m, q, cl, col), is')))), is)) g =
    let s : GoodToks a × GoodToks b = good_parts us a b e g in
    let u : GoodToks c × GoodToks d = good_parts b c d f s.1 in
    let v : GoodToks i × GoodToks j = good_parts d i j k u.1 in
    let w : GoodToks l × GoodToks m = good_parts j l m q v.1 in
    subst KeyFits (sym is) (subst KeyFits (sym is') (column_fits y.1.1.0 m z.1 col w.1))
key_fits room us key (inr (y, (a, b, e, n, col), is)) g =
    let s : GoodToks a × GoodToks b = good_parts us a b e g in
    subst KeyFits (sym is) (column_fits y.0 b y.1 col s.1)

abbrev TurnFits : Option (List ℕ) → Type 0
TurnFits None = Unit {0}
TurnFits (Some key) = KeyFits key

further_fits : (room : ℕ) (us : List Tok) (o : Option (List ℕ)) → Further room us o → GoodToks us → TurnFits o
further_fits room us o (y, (a, b, e, dot, inl (z, (c, d, f, w, p), is')), is) g =
    let s : GoodToks a × GoodToks b = good_parts us a b e g in
    let t : GoodToks c × GoodToks d = good_parts b c d f s.1 in
    let k : KeyFits z.1 = inside_of KeyFits room (Key (pred room)) d z.1 (λ vs x h l. key_fits (pred room) vs x h l) p t.1 in
    subst TurnFits (sym is) (subst TurnFits (sym is') k)
further_fits room us o (y, (a, b, e, dot, inr (z, rest, is')), is) g = subst TurnFits (sym is) (subst TurnFits (sym is') tt)

abbrev TurnsFit : List (Option (List ℕ)) → Type 0
TurnsFit [] = Unit {0}
TurnsFit (o ∷ fs) = TurnFits o × TurnsFit fs

turns_fit : (room : ℕ) (us : List Tok) (fs : List (Option (List ℕ))) → Many (Further room) us fs → GoodToks us → TurnsFit fs
turns_fit room us [] h g = tt
turns_fit room us (o ∷ fs) (a, b, e, h, rest) g =
    let s : GoodToks a × GoodToks b = good_parts us a b e g in
    (further_fits room a o h s.0, turns_fit room b fs rest s.1)

-- a sort's keys, of which there is one
record SortFits (fs : List (Option (List ℕ))) : Type 0 where
  some : IsSome (keys_in fs)
  turns : TurnsFit fs

keys_fit : (room : ℕ) (us : List Tok) (fs : List (Option (List ℕ))) → Keys room us fs → GoodToks us → SortFits fs
keys_fit room us fs (y, (a, b, e, w, (c, d, f, dot, (i, j, k, v, (l, m, n, p, rest)))), is) g =
    let s : GoodToks a × GoodToks b = good_parts us a b e g in
    let t : GoodToks c × GoodToks d = good_parts b c d f s.1 in
    let u : GoodToks i × GoodToks j = good_parts d i j k t.1 in
    let x : GoodToks l × GoodToks m = good_parts j l m n u.1 in
    let first : KeyFits y.1.1.1.0 = inside_of KeyFits room (Key (pred room)) l y.1.1.1.0 (λ vs z h q. key_fits (pred room) vs z h q) p x.0 in
    subst SortFits (sym is) (record { some = tt; turns = (first, turns_fit room m y.1.1.1.1 rest x.1) })

are_keys : (fs : List (Option (List ℕ))) → TurnsFit fs → AreKeys (keys_in fs) (downs_in fs)
are_keys [] h = tt
are_keys (None ∷ fs) h = are_keys fs h.1
are_keys (Some key ∷ fs) h = (h.0.passed, are_keys fs h.1)

written_keys : (fs : List (Option (List ℕ))) → TurnsFit fs → WrittenKeys (keys_in fs) (downs_in fs)
written_keys [] h = tt
written_keys (None ∷ fs) h = written_keys fs h.1
written_keys (Some key ∷ fs) h = (h.0.word, written_keys fs h.1)

-- ---- statements without bodies

pub record StatementFits (s : Statement) : Type 0 where
  pub inside : InStatement s
  pub written : WrittenStatement s

abbrev NodeFits : (Span → Statement) → Type 0
NodeFits node = (at : Span) → StatementFits (node at)

assignment_fits : (room : ℕ) (w : List ℕ) (us : List Tok) (node : Span → Statement) → WordFits is_name w → Assignment room w us node → GoodToks us → NodeFits node
assignment_fits room w us node n (y, (a, b, e, eq, v), is) g =
    let f : Fits y.1 = value_fits room b y.1 v (good_parts us a b e g).1 in
    subst NodeFits (sym is) (λ at. record { inside = (n.passed, f.inside); written = (n.word, f.written) })

variable_of : (w : List ℕ) → is_name w ≡ true → not (is_number_type w) ≡ true → is_variable w ≡ true
variable_of w e f = rw (e, f) refl

increase_fits : (room : ℕ) (w : List ℕ) (us : List Tok) (node : Span → Statement) → WordFits is_name w → not (is_number_type w) ≡ true → Increase room w us node → GoodToks us → NodeFits node
increase_fits room w us node n k (y, (a, b, e, eq, v), is) g =
    let f : Fits y.1 = value_fits room b y.1 v (good_parts us a b e g).1 in
    subst NodeFits (sym is) (λ at. record { inside = (n.passed, (variable_of w n.passed k, f.inside)); written = (n.word, (n.word, f.written)) })

increment_fits : (w : List ℕ) (us : List Tok) (node : Span → Statement) → WordFits is_name w → not (is_number_type w) ≡ true → Increment w us node → NodeFits node
increment_fits w us node n k (y, rest, is) = subst NodeFits (sym is) (λ at. record { inside = (n.passed, (variable_of w n.passed k, tt)); written = (n.word, (n.word, omega arith)) })

addition_fits : (room : ℕ) (w : List ℕ) (us : List Tok) (node : Span → Statement) → WordFits is_name w → Addition room w us node → GoodToks us → NodeFits node
addition_fits room w us node n (y, (a, b, e, add, (c, d, k, v, end)), is) g =
    let s : GoodToks a × GoodToks b = good_parts us a b e g in
    let f : Fits y.1.0 = condition_fits room c y.1.0 v (good_parts b c d k s.1).0 in
    subst NodeFits (sym is) (λ at. record { inside = (n.passed, f.inside); written = (n.word, f.written) })

sorting_fits : (room : ℕ) (w : List ℕ) (us : List Tok) (node : Span → Statement) → WordFits is_name w → Sorting room w us node → GoodToks us → NodeFits node
sorting_fits room w us node n (y, (a, b, e, sort, (c, d, k, v, end)), is) g =
    let s : GoodToks a × GoodToks b = good_parts us a b e g in
    let f : SortFits y.1.0 = inside_of SortFits room (Keys (pred room)) c y.1.0 (λ vs x h q. keys_fit (pred room) vs x h q) v (good_parts b c d k s.1).0 in
    subst NodeFits (sym is) (λ at. record { inside = (n.passed, f.some, are_keys y.1.0 f.turns); written = (n.word, written_keys y.1.0 f.turns) })

printing_fits : (room : ℕ) (us : List Tok) (node : Span → Statement) → Printing room us node → GoodToks us → NodeFits node
printing_fits room us node (y, (a, b, e, w, (c, d, k, dot, (i, j, l, v, (m, q, o, x, end)))), is) g =
    let s : GoodToks a × GoodToks b = good_parts us a b e g in
    let t : GoodToks c × GoodToks d = good_parts b c d k s.1 in
    let u : GoodToks i × GoodToks j = good_parts d i j l t.1 in
    let f : Fits y.1.1.1.0 = condition_fits room m y.1.1.1.0 x (good_parts j m q o u.1).0 in
    subst NodeFits (sym is) (λ at. record { inside = f.inside; written = f.written })

member_fits : (room : ℕ) (w : List ℕ) (us : List Tok) (node : Span → Statement) → WordFits is_name w → MemberCall room w us node → GoodToks us → NodeFits node
member_fits room w us node n (inl h) g = addition_fits room w us node n h g
member_fits room w us node n (inr (inl h)) g = sorting_fits room w us node n h g
member_fits room w us node n (inr (inr h)) g = printing_fits room us node h.1 g

rest_fits : (room : ℕ) (w : List ℕ) (us : List Tok) (node : Span → Statement) → WordFits is_name w → NamedRest room w us node → GoodToks us → NodeFits node
rest_fits room w us node n (inl h) g = assignment_fits room w us node n h g
rest_fits room w us node n (inr (inl (y, (a, b, e, dot, h), is))) g = subst NodeFits (sym is) (member_fits room w b y.1 n h (good_parts us a b e g).1)
rest_fits room w us node n (inr (inr (k, inl h))) g = increase_fits room w us node n k h g
rest_fits room w us node n (inr (inr (k, inr h))) g = increment_fits w us node n k h

named_fits : (room : ℕ) (us : List Tok) (s : Statement) → Named room us s → GoodToks us → StatementFits s
named_fits room us s (y, (a, b, e, n, h), is) g =
    let t : GoodToks a × GoodToks b = good_parts us a b e g in
    subst StatementFits (sym is) (rest_fits room y.0 b y.1 (name_fits a y.0 n t.0) h t.1 (extent us))

record ReturnFits (value : Option Expression) : Type 0 where
  inside : InReturn value
  written : WrittenReturn value

returning_fits : (room : ℕ) (us : List Tok) (s : Statement) → Returning room us s → GoodToks us → StatementFits s
returning_fits room us s (y, (a, b, e, w, inl (z, end, is')), is) g =
    let r : ReturnFits y.1 = subst ReturnFits (sym is') (record { inside = tt; written = tt }) in
    subst StatementFits (sym is) (record { inside = r.inside; written = r.written })
returning_fits room us s (y, (a, b, e, w, inr (z, v, is')), is) g =
    let f : Fits z = value_fits room b z v (good_parts us a b e g).1 in
    let r : ReturnFits y.1 = subst ReturnFits (sym is') (record { inside = f.inside; written = f.written }) in
    subst StatementFits (sym is) (record { inside = r.inside; written = r.written })

plain_fits : (room : ℕ) (us : List Tok) (s : Statement) → Plain room us s → GoodToks us → StatementFits s
plain_fits room us s (inl h) g = returning_fits room us s h g
plain_fits room us s (inr (inl (y, rest, is))) g = subst StatementFits (sym is) (record { inside = tt; written = tt })
plain_fits room us s (inr (inr h)) g = named_fits room us s h g

declaration_fits : (room : ℕ) (us : List Tok) (s : Statement) → Declaration room us s → GoodToks us → StatementFits s
declaration_fits room us s (y, (a, b, e, ty, (c, d, k, n, (i, j, l, eq, v))), is) g =
    let t : GoodToks a × GoodToks b = good_parts us a b e g in
    let u : GoodToks c × GoodToks d = good_parts b c d k t.1 in
    let x : GoodToks i × GoodToks j = good_parts d i j l u.1 in
    let f : TypeFits y.0 = type_fits a y.0 ty t.0 in
    let m : WordFits is_name y.1.0 = name_fits c y.1.0 n u.0 in
    let o : Fits y.1.1.1 = value_fits room j y.1.1.1 v x.1 in
    subst StatementFits (sym is) (record { inside = (f.type, m.passed, o.inside); written = (f.written, m.word, o.written) })

-- ---- statements with bodies

if_head_fits : (room : ℕ) (us : List Tok) (x : Expression) → IfHead room us x → GoodToks us → Fits x
if_head_fits room us x (y, (a, b, e, w, c), is) g = subst Fits (sym is) (condition_fits room b y.1 c (good_parts us a b e g).1)

while_head_fits : (room : ℕ) (us : List Tok) (x : Expression) → WhileHead room us x → GoodToks us → Fits x
while_head_fits room us x (y, (a, b, e, w, c), is) g = subst Fits (sym is) (condition_fits room b y.1 c (good_parts us a b e g).1)

record WalkFits (w : Spelled × (List ℕ × Expression)) : Type 0 where
  type : TypeFits w.0
  name : WordFits is_name w.1.0
  list : Fits w.1.1

walk_fits : (room : ℕ) (us : List Tok) (w : Spelled × (List ℕ × Expression)) → Walk room us w → GoodToks us → WalkFits w
walk_fits room us w (y, (a, b, e, ty, (c, d, k, n, (i, j, l, colon, h))), is) g =
    let t : GoodToks a × GoodToks b = good_parts us a b e g in
    let u : GoodToks c × GoodToks d = good_parts b c d k t.1 in
    let x : GoodToks i × GoodToks j = good_parts d i j l u.1 in
    subst WalkFits (sym is) (record { type = type_fits a y.0 ty t.0; name = name_fits c y.1.0 n u.0; list = rank_fits room _ j y.1.1.1 h x.1 })

for_head_fits : (room : ℕ) (us : List Tok) (w : Spelled × (List ℕ × Expression)) → ForHead room us w → GoodToks us → WalkFits w
for_head_fits room us w (y, (a, b, e, kw, p), is) g = subst WalkFits (sym is) (inside_of WalkFits room (Walk (pred room)) b y.1 (λ vs x h q. walk_fits (pred room) vs x h q) p (good_parts us a b e g).1)

pub record StatementsFit (ss : Statements) : Type 0 where
  pub inside : InStatements ss
  pub written : WrittenStatements ss

mutual
  statement_fits : (room : ℕ) (open_if : Bool) (us : List Tok) (s : Statement) → HasStatement room open_if us s → GoodToks us → StatementFits s
  statement_fits room open_if us s (plainly h) g = plain_fits room us s h g
  statement_fits room open_if us s (if_alone {open_if = o} {us = a} {vs = b} {cond = e} {yes} h body) g =
      let t = good_split a b g in
      let f : Fits e = if_head_fits room a e h t.0 in
      let k : StatementsFit yes = body_fits room o b yes body t.1 in
      record { inside = (f.inside, k.inside); written = (f.written, k.written) }
  statement_fits room open_if us s (if_else {open_if = o} {us = a} {vs = b} {ws = c} {zs = d} {cond = e} {yes} {other} h body w body') g =
      let t = good_split a (b ++ (c ++ d)) g in
      let u = good_split b (c ++ d) t.1 in
      let v = good_split c d u.1 in
      let f : Fits e = if_head_fits room a e h t.0 in
      let k : StatementsFit yes = body_fits room false b yes body u.0 in
      let l : StatementsFit other = body_fits room o d other body' v.1 in
      record { inside = (f.inside, k.inside, l.inside); written = (f.written, k.written, l.written) }
  statement_fits room open_if us s (for_each {open_if = o} {us = a} {vs = b} {walk = w} {body = ss} h body) g =
      let t = good_split a b g in
      let f : WalkFits w = for_head_fits room a w h t.0 in
      let k : StatementsFit ss = body_fits room o b ss body t.1 in
      record { inside = (f.type.type, f.name.passed, f.list.inside, k.inside); written = (f.type.written, f.name.word, f.list.written, k.written) }
  statement_fits room open_if us s (while {open_if = o} {us = a} {vs = b} {cond = e} {body = ss} h body) g =
      let t = good_split a b g in
      let f : Fits e = while_head_fits room a e h t.0 in
      let k : StatementsFit ss = body_fits room o b ss body t.1 in
      record { inside = (f.inside, k.inside); written = (f.written, k.written) }

  body_fits : (room : ℕ) (open_if : Bool) (us : List Tok) (ss : Statements) → HasBody room open_if us ss → GoodToks us → StatementsFit ss
  body_fits room open_if us ss (block h) g = block_fits room us ss h g
  body_fits room open_if us ss (single {open_if = o} {x} opens h) g = let f : StatementFits x = statement_fits (pred room) o us x h g in record { inside = (f.inside, tt); written = (f.written, tt) }

  pub block_fits : (room : ℕ) (us : List Tok) (ss : Statements) → HasBlock room us ss → GoodToks us → StatementsFit ss
  block_fits room us ss (braces {us = a} {vs = b} {ws = c} o h cl) g = let t = good_split a (b ++ c) g in statements_fit (pred room) b ss h (good_split b c t.1).0

  statements_fit : (room : ℕ) (us : List Tok) (ss : Statements) → HasStatements room us ss → GoodToks us → StatementsFit ss
  statements_fit room us ss none g = record { inside = tt; written = tt }
  statements_fit room us ss (declared {us = a} {vs = b} {x} {xs} h rest) g =
      let t = good_split a b g in
      let f : StatementFits x = declaration_fits room a x h t.0 in
      let k : StatementsFit xs = statements_fit room b xs rest t.1 in
      record { inside = (f.inside, k.inside); written = (f.written, k.written) }
  statements_fit room us ss (stated {open_if = o} {us = a} {vs = b} {x} {xs} h rest) g =
      let t = good_split a b g in
      let f : StatementFits x = statement_fits room o a x h t.0 in
      let k : StatementsFit xs = statements_fit room b xs rest t.1 in
      record { inside = (f.inside, k.inside); written = (f.written, k.written) }

-- ---- methods

record ResultFits (result : Option Spelled) : Type 0 where
  inside : InResult result
  written : WrittenResult result

result_fits : (us : List Tok) (result : Option Spelled) → Result us result → GoodToks us → ResultFits result
result_fits us result (inl (y, h, is)) g = subst ResultFits (sym is) (record { inside = tt; written = tt })
result_fits us result (inr (y, h, is)) g = let f : TypeFits y = type_fits us y h g in subst ResultFits (sym is) (record { inside = f.type; written = f.written })

-- the type of a parameter
record ScalarType (ty : Spelled) : Type 0 where
  scalar : IsScalarType ty
  written : WrittenType ty

scalar_type_is : (w : List ℕ) → OfSome ScalarType (scalar_type w)
scalar_type_is w =
    on_cond (OfSome ScalarType) (bytes_eq w (codes "int")) (Some plain.Int) _ (λ e. of_some ScalarType plain.Int (record { scalar = tt; written = tt }))
    (λ _. on_cond (OfSome ScalarType) (bytes_eq w (codes "long")) (Some plain.Long) _ (λ e. of_some ScalarType plain.Long (record { scalar = tt; written = tt }))
    (λ _. on_cond (OfSome ScalarType) (bytes_eq w (codes "boolean")) (Some plain.Boolean) _ (λ e. of_some ScalarType plain.Boolean (record { scalar = tt; written = tt }))
    (λ _. on_cond (OfSome ScalarType) (bytes_eq w (codes "String")) (Some plain.String) None (λ e. of_some ScalarType plain.String (record { scalar = tt; written = tt })) (λ e. of_none ScalarType))))

record ParamFits (p : PlainParam) : Type 0 where
  type : ScalarType p.ty
  name : WordFits is_name p.name

param_fits : (us : List Tok) (p : PlainParam) → Parameter us p → GoodToks us → ParamFits p
param_fits us p (y, (a, b, e, ty, n), is) g =
    let s : GoodToks a × GoodToks b = good_parts us a b e g in
    let k : NodeOf (by_word scalar_type) y.0 = node_of (by_word scalar_type) a y.0 ty s.0 in
    subst ParamFits (sym is) (record { type = by_word_fits ScalarType scalar_type k.node y.0 (λ w l f. scalar_type_is w y.0 f) k.gives k.good; name = name_fits b y.1 n s.1 })

record ParamsFit (ps : List PlainParam) : Type 0 where
  inside : InParams ps
  written : WrittenParams ps

one_more_param : (p : PlainParam) (ps : List PlainParam) → ParamFits p → ParamsFit ps → ParamsFit (p ∷ ps)
one_more_param p ps f k = record { inside = (f.type.scalar, f.name.passed, k.inside); written = (f.type.written, f.name.word, k.written) }

further_params : (us : List Tok) (ps : List PlainParam) → Many NextParameter us ps → GoodToks us → ParamsFit ps
further_params us [] h g = record { inside = tt; written = tt }
further_params us (p ∷ ps) (a, b, e, (y, (c, d, k, comma, h), is), rest) g =
    let s : GoodToks a × GoodToks b = good_parts us a b e g in
    one_more_param p ps (subst ParamFits (sym is) (param_fits d y.1 h (good_parts a c d k s.0).1)) (further_params b ps rest s.1)

params_fit : (us : List Tok) (ps : List PlainParam) → Parameters us ps → GoodToks us → ParamsFit ps
params_fit us ps (inl (y, (a, b, e, h, rest), is)) g =
    let s : GoodToks a × GoodToks b = good_parts us a b e g in
    subst ParamsFit (sym is) (one_more_param y.0 y.1 (param_fits a y.0 h s.0) (further_params b y.1 rest s.1))
params_fit us ps (inr h) g = subst ParamsFit (sym h.1) (record { inside = tt; written = tt })

record MethodFits (m : PlainMethod) : Type 0 where
  inside : InMethod m
  written : WrittenResult m.result × IsWord m.name × WrittenParams m.params × WrittenStatements m.body

method_fits : (room : ℕ) (us : List Tok) (m : PlainMethod) → Method room us m → GoodToks us → MethodFits m
method_fits room us m (y, (a, b, e, access, (c, d, f, fixed, (i, j, k, r, (l, n, o, w, (p, q, s, ps, body))))), is) g =
    let t : GoodToks a × GoodToks b = good_parts us a b e g in
    let u : GoodToks c × GoodToks d = good_parts b c d f t.1 in
    let v : GoodToks i × GoodToks j = good_parts d i j k u.1 in
    let x : GoodToks l × GoodToks n = good_parts j l n o v.1 in
    let z : GoodToks p × GoodToks q = good_parts n p q s x.1 in
    let fr : ResultFits y.1.1.0 = result_fits i y.1.1.0 r v.0 in
    let fn : WordFits is_name y.1.1.1.0 = name_fits l y.1.1.1.0 w x.0 in
    let fp : ParamsFit y.1.1.1.1.0 = inside_of ParamsFit room Parameters p y.1.1.1.1.0 (λ vs xs h k. params_fit vs xs h k) ps z.0 in
    let fb : StatementsFit y.1.1.1.1.1 = block_fits room q y.1.1.1.1.1 body z.1 in
    subst MethodFits (sym is) (record { inside = record { result = fr.inside; name = fn.passed; params = fp.inside; body = fb.inside }; written = (fr.written, fn.word, fp.written, fb.written) })

record MethodsFit (ms : List PlainMethod) : Type 0 where
  inside : InMethods ms
  written : WrittenMethods ms

methods_fit : (room : ℕ) (us : List Tok) (ms : List PlainMethod) → Many (Method room) us ms → GoodToks us → MethodsFit ms
methods_fit room us [] h g = record { inside = tt; written = tt }
methods_fit room us (m ∷ ms) (a, b, e, h, rest) g =
    let s : GoodToks a × GoodToks b = good_parts us a b e g in
    let f : MethodFits m = method_fits room a m h s.0 in
    let k : MethodsFit ms = methods_fit room b ms rest s.1 in
    record { inside = (f.inside, k.inside); written = (f.written, k.written) }

-- ---- dotted names

part_no_dot : (b : ℕ) → is_name_part b ≡ true → (b == 46) ≡ false
part_no_dot b h = grind (arith, nat_tests, h)

start_no_dot : (b : ℕ) → is_name_start b ≡ true → (b == 46) ≡ false
start_no_dot b h = grind (arith, nat_tests, h)

-- the parts behind a word, and before a dot or the end
onto_word : (b : ℕ) (bs : List ℕ) (tail : List ℕ) (parts : List (List ℕ)) → (b == 46) ≡ false → parts_of (bs ++ tail) ≡ bs ∷ parts → parts_of ((b ∷ bs) ++ tail) ≡ (b ∷ bs) ∷ parts
onto_word b bs tail parts e h = ap (λ (v : Bool). cond {A = List (List ℕ)} v ([] ∷ parts_of (bs ++ tail)) (onto_first b (parts_of (bs ++ tail)))) e ∙ ap (onto_first b) h

parts_behind : (bs : List ℕ) (tail : List ℕ) (parts : List (List ℕ)) → are_name_parts bs ≡ true → parts_of tail ≡ [] ∷ parts → parts_of (bs ++ tail) ≡ bs ∷ parts
parts_behind [] tail parts h e = e
parts_behind (b ∷ bs) tail parts h e =
    let t : (is_name_part b ≡ true) × (are_name_parts bs ≡ true) = both_true (is_name_part b) (are_name_parts bs) h in
    onto_word b bs tail parts (part_no_dot b t.0) (parts_behind bs tail parts t.1 e)

word_parts : (w tail : List ℕ) (parts : List (List ℕ)) → is_word w ≡ true → parts_of tail ≡ [] ∷ parts → parts_of (w ++ tail) ≡ w ∷ parts
word_parts [] tail parts h e = absurd cc
word_parts (b ∷ bs) tail parts h e =
    let t : (is_name_start b ≡ true) × (are_name_parts bs ≡ true) = both_true (is_name_start b) (are_name_parts bs) h in
    onto_word b bs tail parts (start_no_dot b t.0) (parts_behind bs tail parts t.1 e)

-- names with dots before them, of which the last may be a star
record BehindFits (star : Bool) (rest : List ℕ) : Type 0 where
  parts : List (List ℕ)
  are : parts_of rest ≡ [] ∷ parts
  names : cond star (AreNamesOrStar parts) (AreNames parts)
  words : cond star (AreWordsOrStar parts) (AreWords parts)

more_names : (star : Bool) (w : List ℕ) (rest : List ℕ) → WordFits is_name w → BehindFits star rest → BehindFits star (codes "." ++ (w ++ rest))
more_names star w rest n f = by star f
  where
    or_star : (ps : List (List ℕ)) → AreNamesOrStar ps → AreNamesOrStar (w ∷ ps)
    or_star [] h = n.passed
    or_star (p ∷ ps) h = (n.passed, word_no_star w n.word, h)

    or_star_words : (ps : List (List ℕ)) → AreWordsOrStar ps → AreWordsOrStar (w ∷ ps)
    or_star_words [] h = rw (word_no_star w n.word, n.word) refl
    or_star_words (p ∷ ps) h = (n.word, h)

    by : (star : Bool) → BehindFits star rest → BehindFits star (codes "." ++ (w ++ rest))
    by true f = record { parts = w ∷ f.parts; are = ap (λ (ps : List (List ℕ)). [] ∷ ps) (word_parts w rest f.parts n.word f.are); names = or_star f.parts f.names; words = or_star_words f.parts f.words }
    by false f = record { parts = w ∷ f.parts; are = ap (λ (ps : List (List ℕ)). [] ∷ ps) (word_parts w rest f.parts n.word f.are); names = (n.passed, word_no_star w n.word, f.names); words = (n.word, f.words) }

nothing_behind : (star : Bool) → BehindFits star []
nothing_behind true = record { parts = []; are = refl; names = tt; words = tt }
nothing_behind false = record { parts = []; are = refl; names = tt; words = tt }

behind_fits : (star : Bool) (us : List Tok) (rest : List ℕ) → HasDotted star us rest → GoodToks us → BehindFits star rest
behind_fits star us rest ended g = nothing_behind star
behind_fits star us rest (starred dot s) g = record { parts = codes "*" ∷ []; are = refl; names = refl; words = refl }
behind_fits star us rest (dotted {us = a} {vs = b} {ws = c} {w} {rest = more} dot n h) g =
    let s = good_split a (b ++ c) g in
    let t = good_split b c s.1 in
    more_names star w more (name_fits b w n t.0) (behind_fits star c more h t.1)

record DottedFits (star : Bool) (name : List ℕ) : Type 0 where
  first : List ℕ
  parts : List (List ℕ)
  are : parts_of name ≡ first ∷ parts
  word : WordFits is_name first
  names : cond star (AreNamesOrStar parts) (AreNames parts)
  words : cond star (AreWordsOrStar parts) (AreWords parts)

dotted_fits : (kw : List ℕ) (star : Bool) (us : List Tok) (name : List ℕ) → Dotted kw star us name → GoodToks us → DottedFits star name
dotted_fits kw star us name (y, (a, b, e, w, (c, d, k, n, (i, j, l, h, end))), is) g =
    let s : GoodToks a × GoodToks b = good_parts us a b e g in
    let t : GoodToks c × GoodToks d = good_parts b c d k s.1 in
    let f : WordFits is_name y.1.0 = name_fits c y.1.0 n t.0 in
    let r : BehindFits star y.1.1.0 = behind_fits star i y.1.1.0 h (good_parts d i j l t.1).0 in
    subst (DottedFits star) (sym is) (record { first = y.1.0; parts = r.parts; are = word_parts y.1.0 y.1.1.0 r.parts f.word r.are; word = f; names = r.names; words = r.words })

record PackageFits (name : Option (List ℕ)) : Type 0 where
  inside : InPackage name
  written : WrittenPackage name

package_is : (name : List ℕ) → DottedFits false name → PackageFits (Some name)
package_is name f = record {
  inside = subst (λ (ps : List (List ℕ)). InDotted AreNames ps) (sym f.are) (f.word.passed, word_no_star f.first f.word.word, f.names);
  written = subst AreWords (sym f.are) (f.word.word, f.words);
}

package_fits : (us : List Tok) (name : Option (List ℕ)) → Package us name → GoodToks us → PackageFits name
package_fits us name (inl (y, h, is)) g = subst PackageFits (sym is) (package_is y (dotted_fits (codes "package") false us y h g))
package_fits us name (inr h) g = subst PackageFits (sym h.1) (record { inside = tt; written = tt })

first_or_star : (w : List ℕ) (ps : List (List ℕ)) → is_word w ≡ true → AreWordsOrStar ps → AreWordsOrStar (w ∷ ps)
first_or_star w [] h k = rw (word_no_star w h, h) refl
first_or_star w (p ∷ ps) h k = (h, k)

record ImportsFit (names : List (List ℕ)) : Type 0 where
  inside : InImports names
  written : WrittenImports names

imports_fit : (us : List Tok) (names : List (List ℕ)) → Many (Dotted (codes "import") true) us names → GoodToks us → ImportsFit names
imports_fit us [] h g = record { inside = tt; written = tt }
imports_fit us (name ∷ names) (a, b, e, h, rest) g =
    let s : GoodToks a × GoodToks b = good_parts us a b e g in
    let f : DottedFits true name = dotted_fits (codes "import") true a name h s.0 in
    let k : ImportsFit names = imports_fit b names rest s.1 in
    record {
      inside = (subst (λ (ps : List (List ℕ)). InDotted AreNamesOrStar ps) (sym f.are) (f.word.passed, word_no_star f.first f.word.word, f.names), k.inside);
      written = (subst AreWordsOrStar (sym f.are) (first_or_star f.first f.parts f.word.word f.words), k.written);
    }

-- ---- the program

record ClassFits (c : List ℕ × List PlainMethod) : Type 0 where
  name : WordFits is_name c.0
  methods : MethodsFit c.1

class_fits : (room : ℕ) (us : List Tok) (c : List ℕ × List PlainMethod) → Class room us c → GoodToks us → ClassFits c
class_fits room us x (y, (a, b, e, w, (c, d, k, n, (i, j, l, o, (m, p, q, ms, cl)))), is) g =
    let s : GoodToks a × GoodToks b = good_parts us a b e g in
    let t : GoodToks c × GoodToks d = good_parts b c d k s.1 in
    let u : GoodToks i × GoodToks j = good_parts d i j l t.1 in
    subst ClassFits (sym is) (record { name = name_fits c y.1.0 n t.0; methods = methods_fit (pred room) m y.1.1.1.0 ms (good_parts j m p q u.1).0 })

record ProgramFits (p : PlainProgram) : Type 0 where
  inside : IsInGrammar p
  written : IsWritten p

program_fits : (us : List Tok) (p : PlainProgram) → HasProgram us p → GoodToks us → ProgramFits p
program_fits us p (y, (a, b, e, h, (c, d, k, i, (l, m, n, w, class))), is) g =
    let s : GoodToks a × GoodToks b = good_parts us a b e g in
    let t : GoodToks c × GoodToks d = good_parts b c d k s.1 in
    let u : GoodToks l × GoodToks m = good_parts d l m n t.1 in
    let fp : PackageFits y.0 = package_fits a y.0 h s.0 in
    let fi : ImportsFit y.1.0 = imports_fit c y.1.0 i t.0 in
    let fc : ClassFits y.1.1.1 = class_fits _ m y.1.1.1 class u.1 in
    subst ProgramFits (sym is) (record {
      inside = record { «package» = fp.inside; imports = fi.inside; name = fc.name.passed; methods = fc.methods.inside };
      written = record { «package» = fp.written; imports = fi.written; name = fc.name.word; methods = fc.methods.written };
    })

good_tokens : (ts : List Token) → AllGood ts → GoodToks (all_free ts)
good_tokens [] g = tt
good_tokens (t ∷ ts) g = (g.0, good_tokens ts g.1)

pub program_of_text_fits : (text : List ℕ) (tokens : Tokens) (p : PlainProgram) → lexed text ≡ Ok tokens → IsProgram tokens.list p → IsInGrammar p × IsWritten p
program_of_text_fits text tokens p e h = let f : ProgramFits p = program_fits (all_free tokens.list) p h (good_tokens tokens.list (lexed_good text tokens e)) in (f.inside, f.written)

pub printed_program_is_read_back : (text : List ℕ) (tokens : Tokens) (p : PlainProgram) → lexed text ≡ Ok tokens → IsProgram tokens.list p → IsReadBack (canonical p) p
printed_program_is_read_back text tokens p e h = let f : IsInGrammar p × IsWritten p = program_of_text_fits text tokens p e h in text_is_read_back p f.0 f.1
