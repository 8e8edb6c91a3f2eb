-- What has tokens that can be written is a tree of the grammar that can be written: expressions.
use Rattle.std.proofs.Common.{◌≡◌, ℕ, zero, suc, ◌-◌, ◌<◌, ◌^◌, Bool, true, false, cond, List, [], ◌∷◌, ◌++◌, refl, sym, subst, arith, codes, Option, Some, None, inl, inr}
use Rattle.std.specs.Prelude.{ℤ, pos, negsuc, neg_ℤ, pred}
use Rattle.std.specs.Str.{bytes_eq}
use Rattle.qbs_base.specs.declared.span.Span.{Span}
use Rattle.qbs_base.specs.declared.scalar.Scalar.TheVariants as scalars
use Rattle.java_ast.specs.Tree as plain
use Rattle.java_ast.specs.Tree.{Spelled, Expression, Expressions}
use Rattle.java_lex.specs.declared.token.TokenNode.{TokenNode}
use Rattle.java_lex.specs.declared.token.TokenNode.TheVariants as nodes
use Rattle.java_lex.proofs.Lengths.{on_cond}
use Rattle.java_grammar.specs.Marks.{Tok, nowhere, extent}
use Rattle.java_grammar.specs.Rules.{One}
use Rattle.java_grammar.specs.Words.{is_name, is_table, is_variable, variable_in, name_in, table_in, text_in, literal_in, truth_of, natural, natural_in, by_word, word_if, element_type}
use Rattle.java_grammar.specs.Expressions.{limit, Literal, created_as, Call, EqualTo, SizeOf, GetFrom, ContainedIn, FetchFrom, QueryOf, QueryOfLong, QueryOfBoolean, query_of, call_of_database, call_of_name, call_on, call_of, name_or_none, TableClass, ElementQuery, QueryStart, HasAtom, literal, grouped, creation, HasSource, no_source, source, HasCall, equal_to, size_of, get_from, contained_in, fetch_from, query_of_element, query_of_long, query_of_truth, HasArguments, no_more, one_more, HasSuffix, field, called, HasParts, atom, dotted, further, HasUnary, variable, parts, negation, HasChain, operand, joined, HasRank, unary, chain}
use Rattle.java_grammar.specs.Written.{IsText, is_word, WrittenType, WrittenScalar, WrittenExpression, WrittenExpressions}
use Rattle.java_grammar.specs.InGrammar.{IsElement, IsQuery, InExpression, InExpressions}
use Rattle.java_grammar.proofs.Good.{GoodNode}

abbrev pub GoodToks : List Tok → Type 0
GoodToks [] = Unit {0}
GoodToks (t ∷ us) = GoodNode t.token.node × GoodToks us

pub good_split : (us vs : List Tok) → GoodToks (us ++ vs) → GoodToks us × GoodToks vs
good_split [] vs g = (tt, g)
good_split (t ∷ us) vs g = let r : GoodToks us × GoodToks vs = good_split us vs g.1 in ((g.0, r.0), r.1)

pub good_parts : (ts us vs : List Tok) → ts ≡ us ++ vs → GoodToks ts → GoodToks us × GoodToks vs
good_parts ts us vs e g = good_split us vs (subst GoodToks e g)

-- ---- single tokens

pub record NodeOf {A : Type 0} (f : TokenNode → Option A) (x : A) : Type 0 where
  pub node : TokenNode
  pub gives : f node ≡ Some x
  pub good : GoodNode node

pub node_of : {A : Type 0} → (f : TokenNode → Option A) (us : List Tok) (x : A) → One f us x → GoodToks us → NodeOf f x
node_of f us x h g = let k : GoodToks (h.0 ∷ []) = subst GoodToks h.1 g in record { node = h.0.token.node; gives = h.2; good = k.0 }

-- a word that passes
pub record WordFits (passes : List ℕ → Bool) (w : List ℕ) : Type 0 where
  pub passed : passes w ≡ true
  pub word : is_word w ≡ true

passed_by : (passes : List ℕ → Bool) (v w : List ℕ) (b : Bool) → passes v ≡ b → is_word v ≡ true → cond {A = Option (List ℕ)} b (Some v) None ≡ Some w → WordFits passes w
passed_by passes v w true p g e = let same : v ≡ w = cc in record { passed = subst (λ (x : List ℕ). passes x ≡ true) same p; word = subst (λ (x : List ℕ). is_word x ≡ true) same g }
passed_by passes v w false p g e = absurd cc

word_fits : (passes : List ℕ → Bool) (n : TokenNode) (w : List ℕ) → word_if passes n ≡ Some w → GoodNode n → WordFits passes w
word_fits passes (nodes.Word v) w e g = passed_by passes v w (passes v) refl g e
word_fits passes (nodes.Integer value long) w e g = absurd cc
word_fits passes (nodes.Text text) w e g = absurd cc
word_fits passes (nodes.Sign s) w e g = absurd cc

pub name_fits : (us : List Tok) (w : List ℕ) → One name_in us w → GoodToks us → WordFits is_name w
name_fits us w h g = let n : NodeOf name_in w = node_of name_in us w h g in word_fits is_name n.node w n.gives n.good

pub variable_fits : (us : List Tok) (w : List ℕ) → One variable_in us w → GoodToks us → WordFits is_variable w
variable_fits us w h g = let n : NodeOf variable_in w = node_of variable_in us w h g in word_fits is_variable n.node w n.gives n.good

pub table_fits : (us : List Tok) (w : List ℕ) → One table_in us w → GoodToks us → WordFits is_table w
table_fits us w h g = let n : NodeOf table_in w = node_of table_in us w h g in word_fits is_table n.node w n.gives n.good

text_by : (n : TokenNode) (t : List ℕ) → text_in n ≡ Some t → GoodNode n → IsText t
text_by (nodes.Word v) t e g = absurd cc
text_by (nodes.Integer value long) t e g = absurd cc
text_by (nodes.Text text) t e g = let same : text ≡ t = cc in subst (λ (x : List ℕ). IsText x) same g
text_by (nodes.Sign s) t e g = absurd cc

text_fits : (us : List Tok) (t : List ℕ) → One text_in us t → GoodToks us → IsText t
text_fits us t h g = let n : NodeOf text_in t = node_of text_in us t h g in text_by n.node t n.gives n.good

-- what a word is, where it is a word
pub by_word_fits : {A : Type 0} → (P : A → Type 0) (f : List ℕ → Option A) (n : TokenNode) (x : A) → ((w : List ℕ) → is_word w ≡ true → f w ≡ Some x → P x) → by_word f n ≡ Some x → GoodNode n → P x
by_word_fits P f (nodes.Word w) x h e g = h w g e
by_word_fits P f (nodes.Integer value long) x h e g = absurd cc
by_word_fits P f (nodes.Text text) x h e g = absurd cc
by_word_fits P f (nodes.Sign s) x h e g = absurd cc

-- ---- types

pub record ElementFits (ty : Spelled) : Type 0 where
  pub element : IsElement ty
  pub written : WrittenType ty

-- what holds of whatever is there
abbrev pub OfSome : {A : Type 0} → (A → Type 0) → Option A → Type 0
OfSome P o = (x : _) → o ≡ Some x → P x

pub of_some : {A : Type 0} → (P : A → Type 0) (x : A) → P x → OfSome P (Some x)
of_some P x h y e = let same : x ≡ y = cc in subst P same h

pub of_none : {A : Type 0} → (P : A → Type 0) → OfSome P None
of_none P y e = absurd cc

element_fits : (w : List ℕ) → is_word w ≡ true → OfSome ElementFits (element_type w)
element_fits w g =
    on_cond (OfSome ElementFits) (bytes_eq w (codes "Integer")) (Some plain.BoxedInteger) _ (λ e. of_some ElementFits plain.BoxedInteger (record { element = tt; written = tt }))
    (λ _. on_cond (OfSome ElementFits) (bytes_eq w (codes "Long")) (Some plain.BoxedLong) _ (λ e. of_some ElementFits plain.BoxedLong (record { element = tt; written = tt }))
    (λ _. on_cond (OfSome ElementFits) (bytes_eq w (codes "Boolean")) (Some plain.BoxedBoolean) _ (λ e. of_some ElementFits plain.BoxedBoolean (record { element = tt; written = tt }))
    (λ _. on_cond (OfSome ElementFits) (bytes_eq w (codes "String")) (Some plain.String) _ (λ e. of_some ElementFits plain.String (record { element = tt; written = tt }))
    (λ _. on_cond (OfSome ElementFits) (is_table w) (Some (plain.Table w)) None (λ e. of_some ElementFits (plain.Table w) (record { element = e; written = g })) (λ e. of_none ElementFits)))))

pub element_of : (us : List Tok) (ty : Spelled) → One (by_word element_type) us ty → GoodToks us → ElementFits ty
element_of us ty h g = let n : NodeOf (by_word element_type) ty = node_of (by_word element_type) us ty h g in by_word_fits ElementFits element_type n.node ty (λ w k e. element_fits w k ty e) n.gives n.good

-- ---- literals

abbrev NumberFits : ℤ → Type 0
NumberFits z = WrittenScalar (scalars.Long z)

record Natural (z : ℤ) : Type 0 where
  number : ℕ
  is : z ≡ pos number
  small : number < 2 ^ 63

natural_by : (n : TokenNode) (z : ℤ) → natural_in n ≡ Some z → GoodNode n → Natural z
natural_by (nodes.Word v) z e g = absurd cc
natural_by (nodes.Integer value long) z e g =
    let n : Some (pos g.0) ≡ Some z = subst (λ (y : ℤ). natural y ≡ Some z) g.1 e in
    let same : pos g.0 ≡ z = cc in
    record { number = g.0; is = sym same; small = g.2 }
natural_by (nodes.Text text) z e g = absurd cc
natural_by (nodes.Sign s) z e g = absurd cc

negated : (n : ℕ) → n < 2 ^ 63 → NumberFits (neg_ℤ (pos n))
negated zero h = omega arith
negated (suc n) h = omega arith

negative_fits : (us : List Tok) (z : ℤ) → One natural_in us z → GoodToks us → NumberFits (neg_ℤ z)
negative_fits us z h g =
    let n : NodeOf natural_in z = node_of natural_in us z h g in
    let k : Natural z = natural_by n.node z n.gives n.good in
    subst (λ (y : ℤ). NumberFits (neg_ℤ y)) (sym k.is) (negated k.number k.small)

truth_fits : (w : List ℕ) → OfSome WrittenScalar (truth_of w)
truth_fits w =
    on_cond (OfSome WrittenScalar) (bytes_eq w (codes "true")) (Some (scalars.Bool true)) _ (λ e. of_some WrittenScalar (scalars.Bool true) tt)
    (λ _. on_cond (OfSome WrittenScalar) (bytes_eq w (codes "false")) (Some (scalars.Bool false)) None (λ e. of_some WrittenScalar (scalars.Bool false) tt) (λ e. of_none WrittenScalar))

natural_fits : (value : ℤ) (n : ℕ) → value ≡ pos n → n < 2 ^ 63 → NumberFits value
natural_fits value n e h = subst NumberFits (sym e) h

scalar_by : (n : TokenNode) → GoodNode n → OfSome WrittenScalar (literal_in n)
scalar_by (nodes.Word w) g = truth_fits w
scalar_by (nodes.Integer value long) g = of_some WrittenScalar (scalars.Long value) (natural_fits value g.0 g.1 g.2)
scalar_by (nodes.Text text) g = of_some WrittenScalar (scalars.Text text) g
scalar_by (nodes.Sign s) g = of_none WrittenScalar

least : (v : Bool) → OfSome NumberFits (cond v (Some (negsuc (2 ^ 63 - 1))) (Some (negsuc (2 ^ 31 - 1))))
least true = of_some NumberFits (negsuc (2 ^ 63 - 1)) (omega arith)
least false = of_some NumberFits (negsuc (2 ^ 31 - 1)) (omega arith)

greatest : (v : Bool) → OfSome NumberFits (cond v (Some (pos (2 ^ 63 - 1))) (Some (pos (2 ^ 31 - 1))))
greatest true = of_some NumberFits (pos (2 ^ 63 - 1)) (omega arith)
greatest false = of_some NumberFits (pos (2 ^ 31 - 1)) (omega arith)

limit_fits : (type bound : List ℕ) → OfSome NumberFits (limit type bound)
limit_fits type bound =
    on_cond (OfSome NumberFits) (bytes_eq bound (codes "MIN_VALUE")) _ _ (λ e. least (bytes_eq type (codes "Long")))
    (λ _. on_cond (OfSome NumberFits) (bytes_eq bound (codes "MAX_VALUE")) _ None (λ e. greatest (bytes_eq type (codes "Long"))) (λ e. of_none NumberFits))

pub record Fits (e : Expression) : Type 0 where
  pub inside : InExpression e
  pub written : WrittenExpression e

literal_fits : (us : List Tok) (x : Expression) → Literal us x → GoodToks us → Fits x
literal_fits us x (value, inl (y, (a, b, e, s, i), is), at) g =
    let k : NumberFits (neg_ℤ y.1) = negative_fits b y.1 i (good_parts us a b e g).1 in
    let w : WrittenScalar value = subst WrittenScalar (sym is) k in
    subst Fits (sym at) (record { inside = tt; written = w })
literal_fits us x (value, inr (inl h), at) g =
    let n : NodeOf literal_in value = node_of literal_in us value h g in
    subst Fits (sym at) (record { inside = tt; written = scalar_by n.node n.good value n.gives })
literal_fits us x (value, inr (inr (y, (a, b, e, t, (c, d, f, s, i)), is)), at) g =
    let q : GoodToks c × GoodToks d = good_parts b c d f (good_parts us a b e g).1 in
    let n : NodeOf (by_word (limit y.0)) y.1.1 = node_of (by_word (limit y.0)) d y.1.1 i q.1 in
    let k : NumberFits y.1.1 = by_word_fits NumberFits (limit y.0) n.node y.1.1 (λ w g e. limit_fits y.0 w y.1.1 e) n.gives n.good in
    let w : WrittenScalar value = subst WrittenScalar (sym is) k in
    subst Fits (sym at) (record { inside = tt; written = w })

-- ---- calls

abbrev VariableFits : List ℕ → Type 0
VariableFits w = WordFits is_variable w

-- what a call asks of the name before it, or of what stands there
abbrev Needs : List ℕ → Expression → Call → Type 0
Needs w x EqualTo = Fits x
Needs w x SizeOf = VariableFits w
Needs w x GetFrom = VariableFits w
Needs w x ContainedIn = VariableFits w
Needs w x FetchFrom = Unit {0}
Needs w x QueryOf = Unit {0}
Needs w x QueryOfLong = Unit {0}
Needs w x QueryOfBoolean = Unit {0}

abbrev BareFits : Option (List ℕ) → Type 0
BareFits None = Unit {0}
BareFits (Some w) = VariableFits w

query_needs : (w : List ℕ) (x : Expression) (m : List ℕ) → OfSome (Needs w x) (query_of m)
query_needs w x m =
    on_cond (OfSome (Needs w x)) (bytes_eq m (codes "query")) (Some QueryOf) _ (λ e. of_some (Needs w x) QueryOf tt)
    (λ _. on_cond (OfSome (Needs w x)) (bytes_eq m (codes "queryLong")) (Some QueryOfLong) _ (λ e. of_some (Needs w x) QueryOfLong tt)
    (λ _. on_cond (OfSome (Needs w x)) (bytes_eq m (codes "queryBoolean")) (Some QueryOfBoolean) None (λ e. of_some (Needs w x) QueryOfBoolean tt) (λ e. of_none (Needs w x))))

database_needs : (w : List ℕ) (x : Expression) (m : List ℕ) → OfSome (Needs w x) (call_of_database m)
database_needs w x m = on_cond (OfSome (Needs w x)) (bytes_eq m (codes "fetch")) (Some FetchFrom) (query_of m) (λ e. of_some (Needs w x) FetchFrom tt) (λ e. query_needs w x m)

named_needs : (w : List ℕ) (x : Expression) (m : List ℕ) → VariableFits w → OfSome (Needs w x) (call_of_name w m)
named_needs w x m h =
    on_cond (OfSome (Needs w x)) (bytes_eq m (codes "size")) (Some SizeOf) _ (λ e. of_some (Needs w x) SizeOf h)
    (λ _. on_cond (OfSome (Needs w x)) (bytes_eq m (codes "get")) (Some GetFrom) _ (λ e. of_some (Needs w x) GetFrom h)
    (λ _. on_cond (OfSome (Needs w x)) (bytes_eq m (codes "contains")) (Some ContainedIn) _ (λ e. of_some (Needs w x) ContainedIn h)
    (λ _. on_cond (OfSome (Needs w x)) (bytes_eq w (codes "db")) (call_of_database m) None (λ e. database_needs w x m) (λ e. of_none (Needs w x)))))

bare_needs : (bare : Option (List ℕ)) (x : Expression) (m : List ℕ) → BareFits bare → OfSome (Needs (name_or_none bare) x) (call_on bare m)
bare_needs None x m h = of_none (Needs [] x)
bare_needs (Some w) x m h = named_needs w x m h

call_needs : (bare : Option (List ℕ)) (x : Expression) (m : List ℕ) → BareFits bare → Fits x → OfSome (Needs (name_or_none bare) x) (call_of bare m)
call_needs bare x m h f = on_cond (OfSome (Needs (name_or_none bare) x)) (bytes_eq m (codes "equals")) (Some EqualTo) (call_on bare m) (λ e. of_some (Needs (name_or_none bare) x) EqualTo f) (λ e. bare_needs bare x m h)

abbrev IsQueryCall : Call → Type 0
IsQueryCall QueryOf = Unit {0}
IsQueryCall QueryOfLong = Unit {0}
IsQueryCall QueryOfBoolean = Unit {0}
IsQueryCall _ = ⊥

asks : (m : List ℕ) → OfSome IsQueryCall (query_of m)
asks m =
    on_cond (OfSome IsQueryCall) (bytes_eq m (codes "query")) (Some QueryOf) _ (λ e. of_some IsQueryCall QueryOf tt)
    (λ _. on_cond (OfSome IsQueryCall) (bytes_eq m (codes "queryLong")) (Some QueryOfLong) _ (λ e. of_some IsQueryCall QueryOfLong tt)
    (λ _. on_cond (OfSome IsQueryCall) (bytes_eq m (codes "queryBoolean")) (Some QueryOfBoolean) None (λ e. of_some IsQueryCall QueryOfBoolean tt) (λ e. of_none IsQueryCall)))

asks_nothing : (w : List ℕ) (x : Expression) (c : Call) → IsQueryCall c → Needs w x c
asks_nothing w x EqualTo h = absurd h
asks_nothing w x SizeOf h = absurd h
asks_nothing w x GetFrom h = absurd h
asks_nothing w x ContainedIn h = absurd h
asks_nothing w x FetchFrom h = absurd h
asks_nothing w x QueryOf h = tt
asks_nothing w x QueryOfLong h = tt
asks_nothing w x QueryOfBoolean h = tt

-- the calls that a query starts with ask for nothing
asked_by : (n : TokenNode) (c : Call) → by_word query_of n ≡ Some c → IsQueryCall c
asked_by (nodes.Word w) c e = asks w c e
asked_by (nodes.Integer value long) c e = absurd cc
asked_by (nodes.Text text) c e = absurd cc
asked_by (nodes.Sign s) c e = absurd cc

asks_by : (room : ℕ) (c : Call) (us : List Tok) → QueryStart room us c → IsQueryCall c
asks_by room c us (y, (a, b, e, w, (d, f, g, s, (i, j, k, m, o))), is) = subst IsQueryCall (sym is) (asked_by m.0.token.node y.1.1.0 m.2)

class_fits : (us : List Tok) (w : List ℕ) → TableClass us w → GoodToks us → WordFits is_table w
class_fits us w (y, (a, b, e, t, rest), is) g = subst (λ (v : List ℕ). WordFits is_table v) (sym is) (table_fits a y.0 t (good_parts us a b e g).0)

record QueryHead (q : Spelled × List ℕ) : Type 0 where
  type : ElementFits q.0
  text : IsText q.1

head_fits : (us : List Tok) (q : Spelled × List ℕ) → ElementQuery us q → GoodToks us → QueryHead q
head_fits us q (y, (a, b, e, t, (c, d, f, dot, (i, j, k, class, (l, m, n, comma, text)))), is) g =
    let s : GoodToks a × GoodToks b = good_parts us a b e g in
    let u : GoodToks c × GoodToks d = good_parts b c d f s.1 in
    let v : GoodToks i × GoodToks j = good_parts d i j k u.1 in
    let x : GoodToks l × GoodToks m = good_parts j l m n v.1 in
    subst QueryHead (sym is) (record { type = element_of a y.0 t s.0; text = text_fits m y.1.1.1.1 text x.1 })

is_query : (room : ℕ) (w : List ℕ) (x : Expression) (c : Call) (us : List Tok) (node : Span → Expression) → HasCall room w x c us node → IsQueryCall c → (at : Span) → IsQuery (node at)
is_query room w x c us node (equal_to h) k at = absurd k
is_query room w x c us node size_of k at = absurd k
is_query room w x c us node (get_from h) k at = absurd k
is_query room w x c us node (contained_in h) k at = absurd k
is_query room w x c us node (fetch_from h) k at = absurd k
is_query room w x c us node (query_of_element h i) k at = tt
is_query room w x c us node (query_of_long h i) k at = tt
is_query room w x c us node (query_of_truth h i) k at = tt

pub record ArgumentsFit (es : Expressions) : Type 0 where
  pub inside : InExpressions es
  pub written : WrittenExpressions es

-- what a set may be made of
abbrev SourceFits : Option Expression → Type 0
SourceFits None = Unit {0}
SourceFits (Some q) = IsQuery q × Fits q

created_fits : (set : Bool) (at : Span) (query : Option Expression) → SourceFits query → Fits (created_as set at query)
created_fits false at query h = record { inside = tt; written = tt }
created_fits true at None h = record { inside = tt; written = tt }
created_fits true at (Some q) h = record { inside = (h.0, h.1.inside); written = h.1.written }

mutual
  atom_fits : (room : ℕ) (us : List Tok) (x : Expression) → HasAtom room us x → GoodToks us → Fits x
  atom_fits room us x (literal h) g = literal_fits us x h g
  atom_fits room us x (grouped {us = a} {vs = b} {ws = c} o h cl) g = let s = good_split a (b ++ c) g in rank_fits (pred room) _ b x h (good_split b c s.1).0
  atom_fits room us x (creation {set} {us = a} {vs = b} {ws = c} {query} cr src cl) g = let s = good_split a (b ++ c) g in created_fits set (extent us) query (source_fits (pred room) set b query src (good_split b c s.1).0)

  source_fits : (room : ℕ) (set : Bool) (us : List Tok) (query : Option Expression) → HasSource room set us query → GoodToks us → SourceFits query
  source_fits room set us query no_source g = tt
  source_fits room set us query (source {us = a} {vs = b} {ws = c} {c = what} {node} start h cl) g =
      let s = good_split a (b ++ c) g in
      let k : IsQueryCall what = asks_by room what a start in
      (is_query (pred room) [] (plain.Var nowhere []) what b node h k (extent us), call_fits (pred room) [] (plain.Var nowhere []) what b node h (good_split b c s.1).0 (asks_nothing [] (plain.Var nowhere []) what k) (extent us))

  call_fits : (room : ℕ) (w : List ℕ) (x : Expression) (c : Call) (us : List Tok) (node : Span → Expression) → HasCall room w x c us node → GoodToks us → Needs w x c → (at : Span) → Fits (node at)
  call_fits room w x c us node (equal_to {y} h) g k at = let f : Fits y = rank_fits room _ us y h g in record { inside = (k.inside, f.inside); written = (k.written, f.written) }
  call_fits room w x c us node size_of g k at = record { inside = k.passed; written = k.word }
  call_fits room w x c us node (get_from {y} h) g k at = let f : Fits y = rank_fits room _ us y h g in record { inside = (k.passed, f.inside); written = (k.word, f.written) }
  call_fits room w x c us node (contained_in {y} h) g k at = let f : Fits y = rank_fits room _ us y h g in record { inside = (k.passed, f.inside); written = (k.word, f.written) }
  call_fits room w x c us node (fetch_from {table} h) g k at = let t : WordFits is_table table = class_fits us table h g in record { inside = t.passed; written = t.word }
  call_fits room w x c us node (query_of_element {q} {us = a} {vs = b} {es} h i) g k at =
      let s = good_split a b g in
      let e : QueryHead q = head_fits a q h s.0 in
      let f : ArgumentsFit es = arguments_fit room b es i s.1 in
      record { inside = (e.type.element, f.inside); written = (e.type.written, e.text, f.written) }
  call_fits room w x c us node (query_of_long {text} {us = a} {vs = b} {es} h i) g k at =
      let s = good_split a b g in
      let f : ArgumentsFit es = arguments_fit room b es i s.1 in
      record { inside = f.inside; written = (text_fits a text h s.0, f.written) }
  call_fits room w x c us node (query_of_truth {text} {us = a} {vs = b} {es} h i) g k at =
      let s = good_split a b g in
      let f : ArgumentsFit es = arguments_fit room b es i s.1 in
      record { inside = f.inside; written = (text_fits a text h s.0, f.written) }

  arguments_fit : (room : ℕ) (us : List Tok) (es : Expressions) → HasArguments room us es → GoodToks us → ArgumentsFit es
  arguments_fit room us es no_more g = record { inside = tt; written = tt }
  arguments_fit room us es (one_more {us = a} {vs = b} {ws = c} {x} {xs} comma h i) g =
      let s = good_split a (b ++ c) g in
      let t = good_split b c s.1 in
      let f : Fits x = rank_fits room _ b x h t.0 in
      let fs : ArgumentsFit xs = arguments_fit room c xs i t.1 in
      record { inside = (f.inside, fs.inside); written = (f.written, fs.written) }

  suffix_fits : (room : ℕ) (bare : Option (List ℕ)) (x : Expression) (m : List ℕ) (left : ℕ) (us : List Tok) (node : Span → Expression) (after : ℕ) → HasSuffix room bare x m left us node after → GoodToks us → BareFits bare → Fits x → WordFits is_name m → (at : Span) → Fits (node at)
  suffix_fits room bare x m left us node after field g k f n at = record { inside = (f.inside, n.passed); written = (f.written, n.word) }
  suffix_fits room bare x m left us node after (called {c} {us = a} {vs = b} {ws = d} e o h cl) g k f n at =
      let s = good_split a (b ++ d) g in
      call_fits (pred room) (name_or_none bare) x c b node h (good_split b d s.1).0 (call_needs bare x m k f c e) at

  parts_fit : (room left : ℕ) (us : List Tok) (x : Expression) → HasParts room left us x → GoodToks us → Fits x
  parts_fit room left us x (atom h) g = atom_fits room us x h g
  parts_fit room left us x (dotted {w} {m} {us = a} {vs = b} {ws = c} {zs = d} {node} v dot member suffix) g =
      let s = good_split a (b ++ (c ++ d)) g in
      let t = good_split b (c ++ d) s.1 in
      let u = good_split c d t.1 in
      let f : WordFits is_variable w = variable_fits a w v s.0 in
      suffix_fits room (Some w) (plain.Var (extent a) w) m _ d node left suffix u.1 f (record { inside = f.passed; written = f.word }) (name_fits c m member u.0) (extent us)
  parts_fit room left us x (further {left = l} {m} {us = a} {vs = b} {ws = c} {zs = d} {x = y} {node} h dot member suffix) g =
      let s = good_split a (b ++ (c ++ d)) g in
      let t = good_split b (c ++ d) s.1 in
      let u = good_split c d t.1 in
      suffix_fits room None y m l d node left suffix u.1 tt (parts_fit room l a y h s.0) (name_fits c m member u.0) (extent us)

  unary_fits : (room : ℕ) (us : List Tok) (x : Expression) → HasUnary room us x → GoodToks us → Fits x
  unary_fits room us x (variable h) g = let f : WordFits is_variable h.0 = variable_fits us h.0 h.1 g in subst Fits (sym h.2) (record { inside = f.passed; written = f.word })
  unary_fits room us x (parts {left} h) g = parts_fit room left us x h g
  unary_fits room us x (negation {us = a} {vs = b} {x = y} o h) g = let f : Fits y = unary_fits (pred room) b y h (good_split a b g).1 in record { inside = f.inside; written = f.written }

  chain_fits : (room rank left : ℕ) (us : List Tok) (x : Expression) → HasChain room rank left us x → GoodToks us → Fits x
  chain_fits room rank left us x (operand h) g = rank_fits room rank us x h g
  chain_fits room rank left us x (joined {left = l} {us = a} {vs = b} {ws = c} {x = y} {y = z} h o i) g =
      let s = good_split a (b ++ c) g in
      let f : Fits y = chain_fits room rank l a y h s.0 in
      let k : Fits z = rank_fits room rank c z i (good_split b c s.1).1 in
      record { inside = (f.inside, k.inside); written = (f.written, k.written) }

  pub rank_fits : (room rank : ℕ) (us : List Tok) (x : Expression) → HasRank room rank us x → GoodToks us → Fits x
  rank_fits room rank us x (unary h) g = unary_fits room us x h g
  rank_fits room rank us x (chain {rank = r} {left} h) g = chain_fits room r left us x h g
