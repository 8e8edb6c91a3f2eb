-- Methods are read exactly.
use Rattle.std.proofs.Common.{◌≡◌, ℕ, Bool, true, false, List, [], ◌∷◌, ◌++◌, length, Option, Some, None, codes, is_some, refl, sym, ap, ◌∙◌, append_assoc, arith, inl, inr}
use Rattle.std.proofs.lemmas.List.{length-append}
use Rattle.qbs_base.specs.declared.span.Span.{Span}
use Rattle.java_lex.specs.declared.token.TokenNode.{TokenNode}
use Rattle.java_lex.specs.declared.token.TokenNode.TheVariants as tokens
use Rattle.java_ast.specs.declared.tree.Access.{Access}
use Rattle.java_ast.specs.declared.tree.Access.TheVariants as accesses
use Rattle.java_ast.specs.Tree.{Spelled, Statements, PlainParam, PlainMethod}
use Rattle.java_ast.specs.Tree as plain
use Rattle.java_grammar.specs.Marks.{Tok}
use Rattle.java_grammar.specs.Rules.{Rule, Empty, One, Word, Seq, Or, Made, Many}
use Rattle.java_grammar.specs.Words.{by_word, name_in, scalar_type, word_type, collection}
use Rattle.java_grammar.specs.Types.{Element, Spelling}
use Rattle.java_grammar.specs.Statements.{Parenthesised, HasBlock}
use Rattle.java_grammar.specs.Grammar.{Reached, Whether, Result, Parameter, NextParameter, Parameters, Method}
use Rattle.java_grammar.specs.Reading.{seq_at, empty_at, one_at, first_is, or_at, is_word}
use Rattle.java_grammar.specs.ReadingExpressions.{is_no_comma}
use Rattle.java_grammar.specs.ReadingBodies.{block_at}
use Rattle.java_grammar.specs.ReadingPrograms.{public_at, private_at, reached_at, whether_at, result_at, param_of, parameter_at, next_parameter_at, is_scalar_type, some_parameters_at, parameters_at, parameter_part_at, method_at}
use Rattle.java_grammar.proofs.Sound.{Passes}
use Rattle.java_grammar.proofs.Again.{Any, Heads, one_heads, then_heads}
use Rattle.java_grammar.proofs.SingleLaws.{token_of, by_word_is, is_word_true, bytes_same, this_heads}
use Rattle.java_grammar.proofs.Many.{IsOver}
use Rattle.java_grammar.proofs.Laws.{Reads, empty, one, word, sign, seq, join, of, put, either, before, enclosed, many}
use Rattle.java_grammar.proofs.TypeLaws.{some_name, spelling_reads}
use Rattle.java_grammar.proofs.LevelLaws.{some_both}
use Rattle.java_grammar.proofs.BlockLaws.{block_reads}

abbrev some : {A : Type 0} → A → Option A
some x = Some x

-- another word stands here, or none
abbrev pub NoWord : List ℕ → List Tok → Type 0
NoWord text rest = first_is (is_word text) rest ≡ false

-- ---- access and `static`

abbrev NoAccess : List Tok → Type 0
NoAccess rest = NoWord (codes "public") rest × NoWord (codes "private") rest

abbrev Private : Rule Access
Private = Made (λ x. accesses.Private) (Word (codes "private"))

private_reads : Reads (Or Private (Empty accesses.Plain)) NoAccess (or_at (is_word (codes "private")) private_at (empty_at accesses.Plain))
unfolding private_at
private_reads =
    either (is_word (codes "private")) (before NoAccess (of (word (codes "private")) (λ x. accesses.Private)) (λ rest f. tt)) (before NoAccess (empty accesses.Plain) (λ rest f. tt))
    (λ us x rest h f. this_heads (tokens.Word (codes "private")) (is_word (codes "private")) true Any refl us tt rest h.1 tt)
    (λ us x rest h f. ap (λ (ts : List Tok). first_is (is_word (codes "private")) (ts ++ rest)) h.0 ∙ f.1)

reached_reads : Reads Reached NoAccess reached_at
unfolding reached_at public_at
reached_reads = either (is_word (codes "public")) (before NoAccess (of (word (codes "public")) (λ x. accesses.Public)) (λ rest f. tt)) private_reads (λ us x rest h f. this_heads (tokens.Word (codes "public")) (is_word (codes "public")) true Any refl us tt rest h.1 tt) other
  where
    other : Heads (is_word (codes "public")) false (Or Private (Empty accesses.Plain)) NoAccess
    other us x rest (inl h) f = this_heads (tokens.Word (codes "private")) (is_word (codes "public")) false Any refl us tt rest h.1 tt
    other us x rest (inr h) f = ap (λ (ts : List Tok). first_is (is_word (codes "public")) (ts ++ rest)) h.0 ∙ f.0

pub whether_reads : (text : List ℕ) → Reads (Whether text) (NoWord text) (whether_at text)
unfolding whether_at
whether_reads text =
    either (is_word text) (before (NoWord text) (of (word text) (λ x. true)) (λ rest f. tt)) (before (NoWord text) (empty false) (λ rest f. tt))
    (λ us x rest h f. this_heads (tokens.Word text) (is_word text) true Any (bytes_same text) us tt rest h.1 tt)
    (λ us x rest h f. ap (λ (ts : List Tok). first_is (is_word text) (ts ++ rest)) h.0 ∙ f)

-- what may stand here and what follows it begin with no such word
pub whether_heads : {B : Type 0} (Q : Rule B) (word text : List ℕ) → is_word text (tokens.Word word) ≡ false → Heads (is_word text) false Q Any → Heads (is_word text) false (Seq (Whether word) Q) Any
whether_heads Q word text other heads us y rest h follows = ap (λ (ts : List Tok). first_is (is_word text) (ts ++ rest)) h.2 ∙ ap (λ (ts : List Tok). first_is (is_word text) ts) (append_assoc h.0 h.1 rest) ∙ by h.3
  where
    by : Whether word h.0 y.0 → first_is (is_word text) (h.0 ++ (h.1 ++ rest)) ≡ false
    by (inl k) = this_heads (tokens.Word word) (is_word text) false Any other h.0 tt (h.1 ++ rest) k.1 tt
    by (inr k) = ap (λ (ts : List Tok). first_is (is_word text) (ts ++ (h.1 ++ rest))) k.0 ∙ heads h.1 y.1 rest h.4 tt

-- ---- results

-- a word that is no type
no_type_word : (text : List ℕ) → word_type text ≡ None → (n : TokenNode) (s : Spelled) → by_word word_type n ≡ Some s → is_word text n ≡ false
no_type_word text untyped n s e = by (is_word text n) refl
  where
    by : (b : Bool) → is_word text n ≡ b → b ≡ false
    by true h = absurd (let q : some s ≡ None = sym e ∙ ap (by_word word_type) (is_word_true text n h) ∙ untyped in cc)
    by false h = refl

no_collection_word : (text : List ℕ) → collection text ≡ None → (n : TokenNode) (b : Bool) → by_word collection n ≡ Some b → is_word text n ≡ false
no_collection_word text unlisted n c e = by (is_word text n) refl
  where
    by : (b : Bool) → is_word text n ≡ b → b ≡ false
    by true h = absurd (let q : some c ≡ None = sym e ∙ ap (by_word collection) (is_word_true text n h) ∙ unlisted in cc)
    by false h = refl

spelling_no_word : (text : List ℕ) → word_type text ≡ None → collection text ≡ None → Heads (is_word text) false Spelling Any
spelling_no_word text no_type no_list us s rest (inl h) follows = one_heads (by_word word_type) (is_word text) false Any (no_type_word text no_type) us s rest h tt
spelling_no_word text no_type no_list us s rest (inr h) follows = then_heads (One (by_word collection)) (λ y. Element) (is_word text) false Any (one_heads (by_word collection) (is_word text) false Any (no_collection_word text no_list)) us h.0 rest h.1 tt

result_reads : Reads Result Any result_at
unfolding result_at
result_reads =
    either (is_word (codes "void")) (of (word (codes "void")) (λ x. None)) (of spelling_reads (λ x. Some x))
    (λ us x rest h follows. this_heads (tokens.Word (codes "void")) (is_word (codes "void")) true Any refl us tt rest h.1 tt)
    (λ us x rest h follows. spelling_no_word (codes "void") refl refl us h.0 rest h.1 tt)

result_no_word : (text : List ℕ) → is_word text (tokens.Word (codes "void")) ≡ false → word_type text ≡ None → collection text ≡ None → Heads (is_word text) false Result Any
result_no_word text no_void no_type no_list us x rest (inl h) follows = this_heads (tokens.Word (codes "void")) (is_word text) false Any no_void us tt rest h.1 tt
result_no_word text no_void no_type no_list us x rest (inr h) follows = spelling_no_word text no_type no_list us h.0 rest h.1 tt

-- ---- parameters

some_scalar : Passes (by_word scalar_type)
some_scalar = record { token = token_of (tokens.Word (codes "int")); value = plain.Int; is = refl }

parameter_reads : Reads Parameter Any parameter_at
unfolding parameter_at
parameter_reads = of (seq (one (by_word scalar_type) some_scalar) (one name_in some_name)) (λ x. param_of x.0 x.1)

next_parameter_reads : Reads NextParameter Any next_parameter_at
unfolding next_parameter_at
next_parameter_reads = of (seq (sign (codes ",")) parameter_reads) (λ x. x.1)

abbrev NoComma : List Tok → Type 0
NoComma rest = IsOver is_no_comma rest

some_parameters_reads : Reads (Made (λ x. x.0 ∷ x.1) (Seq Parameter (Many NextParameter))) NoComma some_parameters_at
unfolding some_parameters_at
some_parameters_reads =
    of (seq parameter_reads (before NoComma (many is_no_comma next_parameter_reads
    (λ us x h. omega (arith, ap length h.1.2, length-append h.1.0 h.1.1, ap length h.1.3.1))
    (λ us x rest h. rw (h.1.2, h.1.3.1, h.1.3.2) refl)
    (λ us x rest h. tt)) (λ rest f. (f, tt)))) (λ x. x.0 ∷ x.1)

-- neither a comma nor a type stands here
abbrev NoneMore : List Tok → Type 0
NoneMore rest = NoComma rest × (first_is is_scalar_type rest ≡ false)

parameters_reads : Reads Parameters NoneMore parameters_at
unfolding parameters_at
parameters_reads =
    either is_scalar_type (before NoneMore some_parameters_reads (λ rest f. f.0)) (before NoneMore (empty []) (λ rest f. tt))
    (λ us x rest h f. then_heads Parameter (λ y. Many NextParameter) is_scalar_type true Any parameter_heads us h.0 rest h.1 tt)
    (λ us x rest h f. ap (λ (ts : List Tok). first_is is_scalar_type (ts ++ rest)) h.0 ∙ f.1)
  where
    parameter_heads : Heads is_scalar_type true Parameter Any
    parameter_heads us x rest h follows = then_heads (One (by_word scalar_type)) (λ y. One name_in) is_scalar_type true Any (one_heads (by_word scalar_type) is_scalar_type true Any (λ n s e. ap is_some e)) us h.0 rest h.1 tt

parameter_part_reads : (room : ℕ) → Reads (Parenthesised room Parameters) Any (parameter_part_at room)
unfolding parameter_part_at
parameter_part_reads room =
    of (enclosed room (codes "(") (some_both parameters_reads.sound.some (sign (codes ")")).sound.some) (λ m e. join parameters_reads (sign (codes ")")) (λ vs y rest h any. (rw (h.1, h.2) refl, rw (h.1, h.2) refl)))) (λ x. x.1.0)

-- ---- methods

abbrev Named : ℕ → Rule (Option Spelled × (List ℕ × (List PlainParam × Statements)))
Named room = Seq Result (Seq (One name_in) (Seq (Parenthesised room Parameters) (HasBlock room)))

named_reads : (room : ℕ) → Reads (Named room) Any (seq_at result_at (seq_at (one_at name_in) (seq_at (parameter_part_at room) (block_at room))))
named_reads room = seq result_reads (seq (one name_in some_name) (seq (parameter_part_reads room) (block_reads room)))

named_no_word : (room : ℕ) (text : List ℕ) → is_word text (tokens.Word (codes "void")) ≡ false → word_type text ≡ None → collection text ≡ None → Heads (is_word text) false (Named room) Any
named_no_word room text no_void no_type no_list = then_heads Result (λ y. Seq (One name_in) (Seq (Parenthesised room Parameters) (HasBlock room))) (is_word text) false Any (result_no_word text no_void no_type no_list)

abbrev Static : ℕ → Rule (Bool × (Option Spelled × (List ℕ × (List PlainParam × Statements))))
Static room = Seq (Whether (codes "static")) (Named room)

static_no_word : (room : ℕ) (text : List ℕ) → is_word text (tokens.Word (codes "static")) ≡ false → is_word text (tokens.Word (codes "void")) ≡ false → word_type text ≡ None → collection text ≡ None → Heads (is_word text) false (Static room) Any
static_no_word room text no_static no_void no_type no_list = whether_heads (Named room) (codes "static") text no_static (named_no_word room text no_void no_type no_list)

abbrev method_of : Span → Access × (Bool × (Option Spelled × (List ℕ × (List PlainParam × Statements)))) → PlainMethod
method_of at x = record { access = x.0; fixed = x.1.0; result = x.1.1.0; name = x.1.1.1.0; params = x.1.1.1.1.0; body = x.1.1.1.1.1; span = at }

pub method_reads : (room : ℕ) → Reads (Method room) Any (method_at room)
unfolding method_at
method_reads room =
    put (join reached_reads (join (whether_reads (codes "static")) (named_reads room) (λ vs y rest h any. named_no_word room (codes "static") refl refl refl vs y rest h tt))
    (λ vs y rest h any. (static_no_word room (codes "public") refl refl refl refl vs y rest h tt, static_no_word room (codes "private") refl refl refl refl vs y rest h tt))) method_of

-- ---- what a method begins with

-- a word
pub method_first : (room : ℕ) (us : List Tok) (m : PlainMethod) → Method room us m → (w : List ℕ) × (t : Tok) × (ts : List Tok) × (us ≡ t ∷ ts) × (t.token.node ≡ tokens.Word w)
method_first room us m h = by h.1.3
  where
    add : (a c : List Tok) → us ≡ a ++ c → (w : List ℕ) × (t : Tok) × (ts : List Tok) × (a ≡ t ∷ ts) × (t.token.node ≡ tokens.Word w) → (w : List ℕ) × (t : Tok) × (ts : List Tok) × (us ≡ t ∷ ts) × (t.token.node ≡ tokens.Word w)
    add a c parts k = (k.0, k.1, k.2 ++ c, parts ∙ ap (λ (ts : List Tok). ts ++ c) k.3, k.4)

    by_spelling : (a : List Tok) (s : Spelled) → Spelling a s → (w : List ℕ) × (t : Tok) × (ts : List Tok) × (a ≡ t ∷ ts) × (t.token.node ≡ tokens.Word w)
    by_spelling a s (inl k) = let w = by_word_is word_type k.0.token.node s k.2 in (w.0, k.0, [], k.1, w.1)
    by_spelling a s (inr k) = let q = k.1 in let w = by_word_is collection q.3.0.token.node k.0.0 q.3.2 in (w.0, q.3.0, q.1, q.2 ∙ ap (λ (ts : List Tok). ts ++ q.1) q.3.1, w.1)

    by_result : (a : List Tok) (o : Option Spelled) → Result a o → (w : List ℕ) × (t : Tok) × (ts : List Tok) × (a ≡ t ∷ ts) × (t.token.node ≡ tokens.Word w)
    by_result a o (inl k) = (codes "void", k.1.0, [], k.1.1, k.1.2)
    by_result a o (inr k) = by_spelling a k.0 k.1

    by_static : (a c : List Tok) (y : Bool × (Option Spelled × (List ℕ × (List PlainParam × Statements)))) → us ≡ c → Static room c y → (w : List ℕ) × (t : Tok) × (ts : List Tok) × (us ≡ t ∷ ts) × (t.token.node ≡ tokens.Word w)
    by_static a c y parts k = elim k.3 [
      | inl s ↦ add k.0 k.1 (parts ∙ k.2) (codes "static", s.1.0, [], s.1.1, s.1.2)
      | inr s ↦ add k.4.0 k.4.1 (parts ∙ k.2 ∙ ap (λ (ts : List Tok). ts ++ k.1) s.0 ∙ k.4.2) (by_result k.4.0 y.1.0 k.4.3)
    ]

    by : Reached h.1.0 h.0.0 → (w : List ℕ) × (t : Tok) × (ts : List Tok) × (us ≡ t ∷ ts) × (t.token.node ≡ tokens.Word w)
    by (inl k) = add h.1.0 h.1.1 h.1.2 (codes "public", k.1.0, [], k.1.1, k.1.2)
    by (inr (inl k)) = add h.1.0 h.1.1 h.1.2 (codes "private", k.1.0, [], k.1.1, k.1.2)
    by (inr (inr k)) = by_static h.1.0 h.1.1 h.0.1 (h.1.2 ∙ ap (λ (ts : List Tok). ts ++ h.1.1) k.0) h.1.4
