-- The tokens of an expression have it by the grammar, but for places.
use Rattle.std.proofs.Common.{◌≡◌, ℕ, zero, suc, ◌-◌, ◌≤◌, ◌^◌, Bool, true, false, cond, List, [], ◌∷◌, ◌++◌, refl, sym, ap, subst, ◌∙◌, append_assoc, arith, codes, Option, Some, None, inl, inr, ◌⊎◌}
use Rattle.std.specs.Prelude.{pos, negsuc, neg_ℤ, pred, not, ◌||◌, ◌==◌, nat_le, nat_lt}
use Rattle.std.specs.Str.{bytes_eq}
use Rattle.std.proofs.lemmas.Bool.{eqb-true, eqb-false, leb-true}
use Rattle.std.proofs.lemmas.List.{append-nil}
use Rattle.qbs_base.specs.declared.span.Span.{Span}
use Rattle.qbs_base.specs.declared.scalar.Scalar.{Scalar}
use Rattle.qbs_base.specs.declared.scalar.Scalar.TheVariants as scalars
use Rattle.java_ast.specs.declared.tree.Op.{Op}
use Rattle.java_ast.specs.declared.tree.Op.TheVariants as ops
use Rattle.java_ast.specs.Tree as plain
use Rattle.java_ast.specs.Tree.{Spelled, Expression, Expressions}
use Rattle.java_text.specs.Canonical.{rank_of}
use Rattle.java_lex.specs.declared.token.TokenNode.{TokenNode}
use Rattle.java_lex.specs.declared.token.TokenNode.TheVariants as nodes
use Rattle.java_grammar.specs.Marks.{Tok, nowhere, extent}
use Rattle.java_grammar.specs.Rules.{One, Or}
use Rattle.java_grammar.specs.Words.{is_name, is_table, is_variable, variable_in, name_in, table_in, text_in, literal_in, natural_in, by_word, word_if, is_number_type, element_type}
use Rattle.java_words.specs.Words.{is_among, type_words}
use Rattle.java_limits.specs.Limits.{longest}
use Rattle.java_grammar.specs.Expressions.{limit, Limit, Negative, Variable, Creation, created, Call, EqualTo, SizeOf, GetFrom, ContainedIn, FetchFrom, QueryOf, QueryOfLong, QueryOfBoolean, query_of, call_of, left_behind, TableClass, ElementQuery, QueryStart, operator_in, ranks, HasAtom, literal, grouped, creation, HasSource, no_source, source, HasCall, equal_to, size_of, get_from, contained_in, fetch_from, query_of_element, query_of_long, query_of_truth, HasArguments, no_more, one_more, HasSuffix, field, called, HasParts, atom, dotted, further, HasUnary, variable, parts, negation, HasChain, operand, joined, HasRank, unary, chain}
use Rattle.java_grammar.specs.Printed.{word, sign, integer, literal_tokens, type_tokens, operator_tokens, open_unless, close_unless, call, dot_class, creation as creation_tokens, expression_tokens, argument_tokens}
use Rattle.java_ast.specs.Unplaced.{unplaced, unplaced_all}
use Rattle.java_grammar.specs.InGrammar.{IsName, IsTable, IsVariable, IsElement, InExpression, InExpressions}
use Rattle.java_grammar.proofs.Fixed.{both_true}
use Rattle.java_grammar.proofs.Signs.{AreTokens, Parts, split, none_left, this_node, opens, one_token, Three, three, Called, called_parts, Single, single, allowed}

-- ---- ranks

-- a name alone, or something with parts behind dots
abbrev pub Base : ℕ → List Tok → Expression → Type 0
Base room us x = Variable us x ⊎ ((left : ℕ) × HasParts room left us x)

-- where expressions up to a rank of the canonical text stand without parentheses
abbrev pub HasAt : ℕ → ℕ → List Tok → Expression → Type 0
HasAt zero room us x = ⊥
HasAt (suc zero) room us x = Base room us x
HasAt (suc (suc n)) room us x = HasRank room n us x

pub record Found (most room : ℕ) (us : List Tok) (e : Expression) : Type 0 where
  pub value : Expression
  pub has : HasAt most room us value
  pub same : unplaced value ≡ unplaced e

rank_up : (n room : ℕ) (us : List Tok) (x : Expression) → HasUnary room us x → HasRank room n us x
rank_up zero room us x h = unary h
rank_up (suc n) room us x h = chain (operand (rank_up n room us x h))

below : (n k : ℕ) → k ≤ suc n → (k ≡ suc n → ⊥) → k ≤ n
below n k le other = grind (arith, le, other)

raise : (n k room : ℕ) (us : List Tok) (x : Expression) → k ≤ n → HasRank room k us x → HasRank room n us x
raise zero zero room us x le h = h
raise zero (suc k) room us x le h = absurd (omega arith)
raise (suc n) k room us x le h = by (k == suc n) refl (λ l. raise n k room us x l h)
  where
    by : (v : Bool) → (k == suc n) ≡ v → (k ≤ n → HasRank room n us x) → HasRank room (suc n) us x
    by true e f = subst (λ (j : ℕ). HasRank room j us x) (eqb-true k (suc n) e) h
    by false e f = chain (operand (f (below n k le (eqb-false k (suc n) e))))

base_unary : (room : ℕ) (us : List Tok) (x : Expression) → Base room us x → HasUnary room us x
base_unary room us x (inl h) = variable h
base_unary room us x (inr h) = parts h.1

from_base : (most room : ℕ) (us : List Tok) (x : Expression) → 1 ≤ most → Base room us x → HasAt most room us x
from_base zero room us x le h = absurd (omega arith)
from_base (suc zero) room us x le h = h
from_base (suc (suc n)) room us x le h = rank_up n room us x (base_unary room us x h)

raise_at : (r most room : ℕ) (us : List Tok) (x : Expression) → 2 ≤ r → r ≤ most → HasAt r room us x → HasAt most room us x
raise_at zero most room us x two le h = absurd h
raise_at (suc zero) most room us x two le h = absurd (omega arith)
raise_at (suc (suc k)) zero room us x two le h = absurd (omega arith)
raise_at (suc (suc k)) (suc zero) room us x two le h = absurd (omega arith)
raise_at (suc (suc k)) (suc (suc n)) room us x two le h = raise n k room us x (omega arith) h

-- ---- in parentheses or not

atom_base : (room : ℕ) (us : List Tok) (x : Expression) → HasAtom room us x → Base room us x
atom_base room us x h = inr (longest room, atom h)

wrapped : (r most room : ℕ) (us : List Tok) (e : Expression) (m : List TokenNode) → ((inner : ℕ) (vs : List Tok) → AreTokens vs m → Found r inner vs e) → 2 ≤ r → r ≤ 8 → 1 ≤ most → (b : Bool) → nat_le r most ≡ b → AreTokens us ((open_unless b ++ m) ++ close_unless b) → Found most room us e
wrapped r most room us e m inner two eight one true t h =
    let f : Found r room us e = inner room us (subst (λ (n : List TokenNode). AreTokens us n) (append-nil m) h) in
    record { value = f.value; has = raise_at r most room us f.value two (leb-true r most t) f.has; same = f.same }
wrapped r most room us e m inner two eight one false t h =
    let p : Three us (sign (codes "(")) m (sign (codes ")")) = three (sign (codes "(")) m (sign (codes ")")) us h in
    let f : Found r (pred room) p.b e = inner (pred room) p.b p.second in
    let g : HasAtom room (p.a ++ (p.b ++ p.c)) f.value = grouped (opens room (codes "(") p.a p.first) (raise_at r 8 (pred room) p.b f.value two eight f.has) (this_node (nodes.Sign (codes ")")) p.c p.third) in
    record { value = f.value; has = from_base most room us f.value one (atom_base room us f.value (subst (λ (vs : List Tok). HasAtom room vs f.value) (sym p.parts) g)); same = f.same }

-- ---- literals

neg_is : (n : ℕ) → neg_ℤ (pos (suc n)) ≡ negsuc n
neg_is n = refl

integer_has : (n : ℕ) (long : Bool) (us : List Tok) → AreTokens us (nodes.Integer (pos n) long ∷ []) → Or Negative (Or (One literal_in) Limit) us (scalars.Long (pos n))
integer_has n long us h = inr (inl (one_token literal_in (nodes.Integer (pos n) long) (scalars.Long (pos n)) us refl h))

negative_has : (n : ℕ) (long : Bool) (us : List Tok) → AreTokens us (nodes.Sign (codes "-") ∷ nodes.Integer (pos (suc n)) long ∷ []) → Or Negative (Or (One literal_in) Limit) us (scalars.Long (negsuc n))
negative_has n long us h =
    let p : Parts us (sign (codes "-")) (nodes.Integer (pos (suc n)) long ∷ []) = split (sign (codes "-")) (nodes.Integer (pos (suc n)) long ∷ []) us h in
    inl ((tt, pos (suc n)), (p.front, p.back, p.parts, this_node (nodes.Sign (codes "-")) p.front p.first, one_token natural_in (nodes.Integer (pos (suc n)) long) (pos (suc n)) p.back refl p.second), ap scalars.Long (sym (neg_is n)))

least_has : (us : List Tok) → AreTokens us (word (codes "Long") ++ (sign (codes ".") ++ word (codes "MIN_VALUE"))) → Limit us (scalars.Long (negsuc (2 ^ 63 - 1)))
least_has us h =
    let p : Three us (word (codes "Long")) (sign (codes ".")) (word (codes "MIN_VALUE")) = three (word (codes "Long")) (sign (codes ".")) (word (codes "MIN_VALUE")) us h in (
      (codes "Long", (tt, negsuc (2 ^ 63 - 1))),
      (
        p.a,
        p.b ++ p.c,
        p.parts,
        one_token (word_if is_number_type) (nodes.Word (codes "Long")) (codes "Long") p.a refl p.first,
        (p.b, p.c, refl, this_node (nodes.Sign (codes ".")) p.b p.second, one_token (by_word (limit (codes "Long"))) (nodes.Word (codes "MIN_VALUE")) (negsuc (2 ^ 63 - 1)) p.c refl p.third),
      ),
      refl,
    )

least_or_has : (n : ℕ) (us : List Tok) (t : Bool) → (n == 2 ^ 63 - 1) ≡ t → AreTokens us (cond t (word (codes "Long") ++ sign (codes ".") ++ word (codes "MIN_VALUE")) (sign (codes "-") ++ integer (suc n) n)) → Or Negative (Or (One literal_in) Limit) us (scalars.Long (negsuc n))
least_or_has n us true e h = inr (inr (subst (λ (k : ℕ). Limit us (scalars.Long (negsuc k))) (sym (eqb-true n (2 ^ 63 - 1) e)) (least_has us h)))
least_or_has n us false e h = negative_has n (not (nat_lt n (2 ^ 31))) us h

literal_has : (value : Scalar) (us : List Tok) → AreTokens us (literal_tokens value) → Or Negative (Or (One literal_in) Limit) us value
literal_has (scalars.Long (pos n)) us h = integer_has n (not (nat_lt n (2 ^ 31))) us h
literal_has (scalars.Long (negsuc n)) us h = least_or_has n us (n == 2 ^ 63 - 1) refl h
literal_has (scalars.Bool true) us h = inr (inl (one_token literal_in (nodes.Word (codes "true")) (scalars.Bool true) us refl h))
literal_has (scalars.Bool false) us h = inr (inl (one_token literal_in (nodes.Word (codes "false")) (scalars.Bool false) us refl h))
literal_has (scalars.Text text) us h = inr (inl (one_token literal_in (nodes.Text text) (scalars.Text text) us refl h))

-- ---- names

pub passes_in : (passes : List ℕ → Bool) (w : List ℕ) → passes w ≡ true → word_if passes (nodes.Word w) ≡ Some w
passes_in passes w h = ap (λ (v : Bool). cond {A = Option (List ℕ)} v (Some w) None) h

pub variable_has : (w : List ℕ) (us : List Tok) → IsVariable w → AreTokens us (word w) → One variable_in us w
variable_has w us h t = one_token variable_in (nodes.Word w) w us (passes_in is_variable w h) t

pub name_has : (w : List ℕ) (us : List Tok) → IsName w → AreTokens us (word w) → One name_in us w
name_has w us h t = one_token name_in (nodes.Word w) w us (passes_in is_name w h) t

pub table_has : (w : List ℕ) (us : List Tok) → IsTable w → AreTokens us (word w) → One table_in us w
table_has w us h t = one_token table_in (nodes.Word w) w us (passes_in is_table w h) t

-- a name that isn't among some isn't the first of them, nor among the others
pub not_among : (w text : List ℕ) (texts : List (List ℕ)) → not (is_among w (text ∷ texts)) ≡ true → (bytes_eq w text ≡ false) × (not (is_among w texts) ≡ true)
not_among w text texts h = by (bytes_eq w text) (is_among w texts) h
  where
    by : (p q : Bool) → not (p || q) ≡ true → (p ≡ false) × (not q ≡ true)
    by true q e = absurd cc
    by false q e = (refl, e)

-- what is no name of a type
pub record IsNoType (w : List ℕ) : Type 0 where
  pub string : bytes_eq w (codes "String") ≡ false
  pub long : bytes_eq w (codes "Long") ≡ false
  pub integer : bytes_eq w (codes "Integer") ≡ false
  pub boolean : bytes_eq w (codes "Boolean") ≡ false

pub table_no_type : (w : List ℕ) → IsTable w → IsNoType w
table_no_type w h =
    let t : (is_name w ≡ true) × (not (is_among w type_words) ≡ true) = both_true (is_name w) (not (is_among w type_words)) h in
    let a = not_among w (codes "List") (codes "Set" ∷ codes "String" ∷ codes "Long" ∷ codes "Integer" ∷ codes "Boolean" ∷ codes "Comparator" ∷ codes "System" ∷ []) t.1 in
    let b = not_among w (codes "Set") (codes "String" ∷ codes "Long" ∷ codes "Integer" ∷ codes "Boolean" ∷ codes "Comparator" ∷ codes "System" ∷ []) a.1 in
    let c = not_among w (codes "String") (codes "Long" ∷ codes "Integer" ∷ codes "Boolean" ∷ codes "Comparator" ∷ codes "System" ∷ []) b.1 in
    let d = not_among w (codes "Long") (codes "Integer" ∷ codes "Boolean" ∷ codes "Comparator" ∷ codes "System" ∷ []) c.1 in
    let e = not_among w (codes "Integer") (codes "Boolean" ∷ codes "Comparator" ∷ codes "System" ∷ []) d.1 in
    let f = not_among w (codes "Boolean") (codes "Comparator" ∷ codes "System" ∷ []) e.1 in
    record { string = c.0; long = d.0; integer = e.0; boolean = f.0 }

-- the word of an element's type
pub record ElementWord (ty : Spelled) : Type 0 where
  pub spelling : List ℕ
  pub tokens : type_tokens ty ≡ word spelling
  pub is : element_type spelling ≡ Some ty

table_element : (p q r s t : Bool) (a b c d : Option Spelled) (e : Option Spelled) (x : Option Spelled) → p ≡ false → q ≡ false → r ≡ false → s ≡ false → t ≡ true → cond {A = Option Spelled} p a (cond q b (cond r c (cond s d (cond t x e)))) ≡ x
table_element p q r s t a b c d e x i j k l m = rw (i, j, k, l, m) refl

pub element_word : (ty : Spelled) → IsElement ty → ElementWord ty
element_word plain.Int h = absurd h
element_word plain.Long h = absurd h
element_word plain.Boolean h = absurd h
element_word plain.String h = record { spelling = codes "String"; tokens = refl; is = refl }
element_word plain.BoxedInteger h = record { spelling = codes "Integer"; tokens = refl; is = refl }
element_word plain.BoxedLong h = record { spelling = codes "Long"; tokens = refl; is = refl }
element_word plain.BoxedBoolean h = record { spelling = codes "Boolean"; tokens = refl; is = refl }
element_word (plain.Table w) h =
    let n : IsNoType w = table_no_type w h in
    record { spelling = w; tokens = refl; is = table_element (bytes_eq w (codes "Integer")) (bytes_eq w (codes "Long")) (bytes_eq w (codes "Boolean")) (bytes_eq w (codes "String")) (is_table w) (Some plain.BoxedInteger) (Some plain.BoxedLong) (Some plain.BoxedBoolean) (Some plain.String) None (Some (plain.Table w)) n.integer n.long n.boolean n.string h }
element_word (plain.ListOf ty) h = absurd h
element_word (plain.SetOf ty) h = absurd h

-- ---- parts behind dots

-- what stands behind the dot and the member
abbrev Suffixes : ℕ → Expression → List ℕ → List Tok → (Span → Expression) → Type 0
Suffixes room x m ds node = (bare : Option (List ℕ)) (left : ℕ) → (after : ℕ) × HasSuffix room bare x m left ds node after

behind_name : (room : ℕ) (us a b c d : List Tok) (w m : List ℕ) (x : Expression) (node : Span → Expression) → us ≡ a ++ (b ++ (c ++ d)) → One variable_in a w → x ≡ plain.Var (extent a) w → AreTokens b (sign (codes ".")) → One name_in c m → Suffixes room x m d node → Base room us (node (extent us))
behind_name room us a b c d w m x node e h is dot member suffix =
    let s = suffix (Some w) (longest room) in
    let k : HasSuffix room (Some w) (plain.Var (extent a) w) m (longest room) d node s.0 = subst (λ (y : Expression). HasSuffix room (Some w) y m (longest room) d node s.0) is s.1 in
    let g : HasParts room s.0 (a ++ (b ++ (c ++ d))) (node (extent (a ++ (b ++ (c ++ d))))) = dotted h (this_node (nodes.Sign (codes ".")) b dot) member k in
    inr (s.0, subst (λ (vs : List Tok). HasParts room s.0 vs (node (extent vs))) (sym e) g)

behind_parts : (room left : ℕ) (us a b c d : List Tok) (m : List ℕ) (x : Expression) (node : Span → Expression) → us ≡ a ++ (b ++ (c ++ d)) → HasParts room left a x → AreTokens b (sign (codes ".")) → One name_in c m → Suffixes room x m d node → Base room us (node (extent us))
behind_parts room left us a b c d m x node e h dot member suffix =
    let s = suffix None left in
    let g : HasParts room s.0 (a ++ (b ++ (c ++ d))) (node (extent (a ++ (b ++ (c ++ d))))) = further h (opens left (codes ".") b dot) member s.1 in
    inr (s.0, subst (λ (vs : List Tok). HasParts room s.0 vs (node (extent vs))) (sym e) g)

behind_base : (room : ℕ) (us a b c d : List Tok) (m : List ℕ) (x : Expression) (node : Span → Expression) → us ≡ a ++ (b ++ (c ++ d)) → Base room a x → AreTokens b (sign (codes ".")) → One name_in c m → Suffixes room x m d node → Base room us (node (extent us))
behind_base room us a b c d m x node e (inl h) dot member suffix = behind_name room us a b c d h.0 m x node e h.1 h.2 dot member suffix
behind_base room us a b c d m x node e (inr h) dot member suffix = behind_parts room h.0 us a b c d m x node e h.1 dot member suffix

-- w . m ( inner )
name_call : (room : ℕ) (us : List Tok) (w m : List ℕ) (inner : List TokenNode) (c : Call) (node : Span → Expression) → IsVariable w → IsName m → call_of (Some w) m ≡ Some c → (p : Called us (word w) m inner) → HasCall (pred room) w (plain.Var (extent p.a) w) c p.i node → Base room us (node (extent us))
name_call room us w m inner c node h k e p has =
    let suffix : HasSuffix room (Some w) (plain.Var (extent p.a) w) m (longest room) (p.left ++ (p.i ++ p.right)) node (left_behind c (longest room)) = called e (opens room (codes "(") p.left p.has_left) has (this_node (nodes.Sign (codes ")")) p.right p.has_right) in
    let g : HasParts room (left_behind c (longest room)) (p.a ++ (p.dot ++ (p.member ++ (p.left ++ (p.i ++ p.right))))) (node (extent (p.a ++ (p.dot ++ (p.member ++ (p.left ++ (p.i ++ p.right))))))) = dotted (variable_has w p.a h p.has_head) (this_node (nodes.Sign (codes ".")) p.dot p.has_dot) (name_has m p.member k p.has_member) suffix in
    inr (left_behind c (longest room), subst (λ (vs : List Tok). HasParts room (left_behind c (longest room)) vs (node (extent vs))) (sym p.parts) g)

-- ---- operators

-- an operator's place among the ranks of the grammar
abbrev index : Op → ℕ
index ops.Mul = 0
index ops.Add = 1
index ops.Sub = 1
index ops.Lt = 2
index ops.Le = 2
index ops.Gt = 2
index ops.Ge = 2
index ops.Eq = 3
index ops.Ne = 3
index ops.And = 4
index ops.Or = 5

pub record Ranked (op : Op) : Type 0 where
  pub own : rank_of op ≡ suc (suc (suc (index op)))
  pub right : rank_of op - 1 ≡ suc (suc (index op))
  pub text : List ℕ
  pub tokens : operator_tokens op ≡ sign text
  pub reads : operator_in (index op) (nodes.Sign text) ≡ Some op
  pub low : 2 ≤ rank_of op
  pub high : rank_of op ≤ 8

ranked : (op : Op) → Ranked op
ranked ops.Mul = record { own = refl; right = refl; text = codes "*"; tokens = refl; reads = refl; low = omega arith; high = omega arith }
ranked ops.Add = record { own = refl; right = refl; text = codes "+"; tokens = refl; reads = refl; low = omega arith; high = omega arith }
ranked ops.Sub = record { own = refl; right = refl; text = codes "-"; tokens = refl; reads = refl; low = omega arith; high = omega arith }
ranked ops.Lt = record { own = refl; right = refl; text = codes "<"; tokens = refl; reads = refl; low = omega arith; high = omega arith }
ranked ops.Le = record { own = refl; right = refl; text = codes "<="; tokens = refl; reads = refl; low = omega arith; high = omega arith }
ranked ops.Gt = record { own = refl; right = refl; text = codes ">"; tokens = refl; reads = refl; low = omega arith; high = omega arith }
ranked ops.Ge = record { own = refl; right = refl; text = codes ">="; tokens = refl; reads = refl; low = omega arith; high = omega arith }
ranked ops.Eq = record { own = refl; right = refl; text = codes "=="; tokens = refl; reads = refl; low = omega arith; high = omega arith }
ranked ops.Ne = record { own = refl; right = refl; text = codes "!="; tokens = refl; reads = refl; low = omega arith; high = omega arith }
ranked ops.And = record { own = refl; right = refl; text = codes "&&"; tokens = refl; reads = refl; low = omega arith; high = omega arith }
ranked ops.Or = record { own = refl; right = refl; text = codes "||"; tokens = refl; reads = refl; low = omega arith; high = omega arith }

chain_of : (room k : ℕ) (us : List Tok) (x : Expression) → HasRank room (suc k) us x → (left : ℕ) × HasChain room k left us x
chain_of room k us x (chain {left} h) = (left, h)

unary_of : (room : ℕ) (us : List Tok) (x : Expression) → HasRank room zero us x → HasUnary room us x
unary_of room us x (unary h) = h

binary_has : (room k : ℕ) (op : Op) (text : List ℕ) (a b c : List Tok) (x y : Expression) → operator_in k (nodes.Sign text) ≡ Some op → AreTokens b (sign text) → HasRank room (suc k) a x → HasRank room k c y → HasRank room (suc k) (a ++ (b ++ c)) (plain.Binary (extent (a ++ (b ++ c))) op x y)
binary_has room k op text a b c x y e t h j =
    let l = chain_of room k a x h in
    let s : Single b (nodes.Sign text) = single (nodes.Sign text) b t in
    chain (joined l.1 (s.token, s.is, ap (operator_in k) s.node ∙ e, allowed l.0 s.token s.free) j)

pub regroup : (a b c d : List TokenNode) → ((a ++ b) ++ c) ++ d ≡ a ++ (b ++ (c ++ d))
regroup a b c d = append_assoc (a ++ b) c d ∙ append_assoc a b (c ++ d)

-- ---- queries

pub record ArgumentsFound (room : ℕ) (us : List Tok) (es : Expressions) : Type 0 where
  pub values : Expressions
  pub has : HasArguments room us values
  pub same : unplaced_all values ≡ unplaced_all es

-- what stands in the parentheses of a query
pub record CallFound (room : ℕ) (w : List ℕ) (x : Expression) (c : Call) (i : List Tok) (q : Expression) : Type 0 where
  pub node : Span → Expression
  pub has : HasCall room w x c i node
  pub same : (at : Span) → unplaced (node at) ≡ unplaced q

abbrev ArgumentsHave : ℕ → Expressions → Type 0
ArgumentsHave room es = (us : List Tok) → AreTokens us (argument_tokens es) → ArgumentsFound room us es

-- T . class , text
abbrev head_tokens_of : List ℕ → List ℕ → List TokenNode
head_tokens_of spelling text = word spelling ++ (sign (codes ".") ++ (word (codes "class") ++ (sign (codes ",") ++ (nodes.Text text ∷ []))))

element_query_has : (us : List Tok) (ty : Spelled) (spelling text : List ℕ) → element_type spelling ≡ Some ty → AreTokens us (head_tokens_of spelling text) → ElementQuery us (ty, text)
element_query_has us ty spelling text e h =
    let p : Three us (word spelling) (sign (codes ".")) (word (codes "class") ++ (sign (codes ",") ++ (nodes.Text text ∷ []))) = three (word spelling) (sign (codes ".")) (word (codes "class") ++ (sign (codes ",") ++ (nodes.Text text ∷ []))) us h in
    let q : Three p.c (word (codes "class")) (sign (codes ",")) (nodes.Text text ∷ []) = three (word (codes "class")) (sign (codes ",")) (nodes.Text text ∷ []) p.c p.third in (
      (ty, (tt, (tt, (tt, text)))),
      (
        p.a,
        p.b ++ p.c,
        p.parts,
        one_token (by_word element_type) (nodes.Word spelling) ty p.a e p.first,
        (
          p.b,
          p.c,
          refl,
          this_node (nodes.Sign (codes ".")) p.b p.second,
          (
            q.a,
            q.b ++ q.c,
            q.parts,
            this_node (nodes.Word (codes "class")) q.a q.first,
            (q.b, q.c, refl, this_node (nodes.Sign (codes ",")) q.b q.second, one_token text_in (nodes.Text text) text q.c refl q.third),
          ),
        ),
      ),
      refl,
    )

query_content : (room : ℕ) (w : List ℕ) (x : Expression) (i : List Tok) (at : Span) (ty : Spelled) (spelling text : List ℕ) (es : Expressions) → element_type spelling ≡ Some ty → ArgumentsHave room es → AreTokens i (head_tokens_of spelling text ++ argument_tokens es) → CallFound room w x QueryOf i (plain.Query at ty text es)
query_content room w x i at ty spelling text es e arguments h =
    let p : Parts i (head_tokens_of spelling text) (argument_tokens es) = split (head_tokens_of spelling text) (argument_tokens es) i h in
    let f : ArgumentsFound room p.back es = arguments p.back p.second in
    let g : HasCall room w x QueryOf (p.front ++ p.back) (λ (place : Span). plain.Query place ty text f.values) = query_of_element (element_query_has p.front ty spelling text e p.first) f.has in
    record {
      node = λ (place : Span). plain.Query place ty text f.values;
      has = subst (λ (vs : List Tok). HasCall room w x QueryOf vs (λ (place : Span). plain.Query place ty text f.values)) (sym p.parts) g;
      same = λ place. ap (plain.Query nowhere ty text) f.same;
    }

long_content : (room : ℕ) (w : List ℕ) (x : Expression) (i : List Tok) (at : Span) (text : List ℕ) (es : Expressions) → ArgumentsHave room es → AreTokens i ((nodes.Text text ∷ []) ++ argument_tokens es) → CallFound room w x QueryOfLong i (plain.QueryLong at text es)
long_content room w x i at text es arguments h =
    let p : Parts i (nodes.Text text ∷ []) (argument_tokens es) = split (nodes.Text text ∷ []) (argument_tokens es) i h in
    let f : ArgumentsFound room p.back es = arguments p.back p.second in
    let g : HasCall room w x QueryOfLong (p.front ++ p.back) (λ (place : Span). plain.QueryLong place text f.values) = query_of_long (one_token text_in (nodes.Text text) text p.front refl p.first) f.has in
    record {
      node = λ (place : Span). plain.QueryLong place text f.values;
      has = subst (λ (vs : List Tok). HasCall room w x QueryOfLong vs (λ (place : Span). plain.QueryLong place text f.values)) (sym p.parts) g;
      same = λ place. ap (plain.QueryLong nowhere text) f.same;
    }

truth_content : (room : ℕ) (w : List ℕ) (x : Expression) (i : List Tok) (at : Span) (text : List ℕ) (es : Expressions) → ArgumentsHave room es → AreTokens i ((nodes.Text text ∷ []) ++ argument_tokens es) → CallFound room w x QueryOfBoolean i (plain.QueryBoolean at text es)
truth_content room w x i at text es arguments h =
    let p : Parts i (nodes.Text text ∷ []) (argument_tokens es) = split (nodes.Text text ∷ []) (argument_tokens es) i h in
    let f : ArgumentsFound room p.back es = arguments p.back p.second in
    let g : HasCall room w x QueryOfBoolean (p.front ++ p.back) (λ (place : Span). plain.QueryBoolean place text f.values) = query_of_truth (one_token text_in (nodes.Text text) text p.front refl p.first) f.has in
    record {
      node = λ (place : Span). plain.QueryBoolean place text f.values;
      has = subst (λ (vs : List Tok). HasCall room w x QueryOfBoolean vs (λ (place : Span). plain.QueryBoolean place text f.values)) (sym p.parts) g;
      same = λ place. ap (plain.QueryBoolean nowhere text) f.same;
    }

-- db . m ( inner ), ls an expression, and ls what a set is made of
abbrev Content : List ℕ → Call → List TokenNode → Expression → Type 0
Content m c inner q = (room : ℕ) (w : List ℕ) (x : Expression) (i : List Tok) → AreTokens i inner → CallFound room w x c i q

called_on_db : (most room : ℕ) (us : List Tok) (m : List ℕ) (inner : List TokenNode) (c : Call) (q : Expression) → 1 ≤ most → IsName m → call_of (Some (codes "db")) m ≡ Some c → AreTokens us (word (codes "db") ++ (call m ++ (inner ++ sign (codes ")")))) → Content m c inner q → Found most room us q
called_on_db most room us m inner c q one k e h content =
    let p : Called us (word (codes "db")) m inner = called_parts (word (codes "db")) m inner us h in
    let f : CallFound (pred room) (codes "db") (plain.Var (extent p.a) (codes "db")) c p.i q = content (pred room) (codes "db") (plain.Var (extent p.a) (codes "db")) p.i p.has_inner in
    record {
      value = f.node (extent us);
      has = from_base most room us (f.node (extent us)) one (name_call room us (codes "db") m inner c f.node refl k e p f.has);
      same = f.same (extent us);
    }

pub record SourceFound (room : ℕ) (us : List Tok) (q : Expression) : Type 0 where
  pub value : Expression
  pub has : HasSource room true us (Some value)
  pub same : unplaced value ≡ unplaced q

source_of : (room : ℕ) (us : List Tok) (m : List ℕ) (inner : List TokenNode) (c : Call) (q : Expression) → query_of m ≡ Some c → AreTokens us (word (codes "db") ++ (call m ++ (inner ++ sign (codes ")")))) → Content m c inner q → SourceFound room us q
source_of room us m inner c q e h content =
    let p : Called us (word (codes "db")) m inner = called_parts (word (codes "db")) m inner us h in
    let f : CallFound (pred room) [] (plain.Var nowhere []) c p.i q = content (pred room) [] (plain.Var nowhere []) p.i p.has_inner in
    let start : List Tok = p.a ++ (p.dot ++ (p.member ++ p.left)) in
    let start_has : QueryStart room (p.a ++ (p.dot ++ (p.member ++ p.left))) c = (
      (tt, (tt, (c, tt))),
      (
        p.a,
        p.dot ++ (p.member ++ p.left),
        refl,
        this_node (nodes.Word (codes "db")) p.a p.has_head,
        (
          p.dot,
          p.member ++ p.left,
          refl,
          this_node (nodes.Sign (codes ".")) p.dot p.has_dot,
          (p.member, p.left, refl, one_token (by_word query_of) (nodes.Word m) c p.member e p.has_member, opens room (codes "(") p.left p.has_left),
        ),
      ),
      refl,
    ) in
    let g : HasSource room true ((p.a ++ (p.dot ++ (p.member ++ p.left))) ++ (p.i ++ p.right)) (Some (f.node (extent ((p.a ++ (p.dot ++ (p.member ++ p.left))) ++ (p.i ++ p.right))))) = source start_has f.has (this_node (nodes.Sign (codes ")")) p.right p.has_right) in
    let regrouped : (p.a ++ (p.dot ++ (p.member ++ p.left))) ++ (p.i ++ p.right) ≡ us =
    append_assoc p.a (p.dot ++ (p.member ++ p.left)) (p.i ++ p.right)
    ∙ ap (λ (vs : List Tok). p.a ++ vs) (append_assoc p.dot (p.member ++ p.left) (p.i ++ p.right) ∙ ap (λ (vs : List Tok). p.dot ++ vs) (append_assoc p.member p.left (p.i ++ p.right)))
    ∙ sym p.parts in
    record {
      value = f.node (extent us);
      has = subst (λ (vs : List Tok). HasSource room true vs (Some (f.node (extent vs)))) regrouped g;
      same = f.same (extent us);
    }

-- ---- new

creation_has : (room : ℕ) (us : List Tok) (w : List ℕ) (set : Bool) → created w ≡ Some set → AreTokens us (word (codes "new") ++ (word w ++ (sign (codes "<") ++ (sign (codes ">") ++ sign (codes "("))))) → Creation room us set
creation_has room us w set e h =
    let p : Three us (word (codes "new")) (word w) (sign (codes "<") ++ (sign (codes ">") ++ sign (codes "("))) = three (word (codes "new")) (word w) (sign (codes "<") ++ (sign (codes ">") ++ sign (codes "("))) us h in
    let q : Three p.c (sign (codes "<")) (sign (codes ">")) (sign (codes "(")) = three (sign (codes "<")) (sign (codes ">")) (sign (codes "(")) p.c p.third in (
      (tt, (set, (tt, (tt, (tt, tt))))),
      (
        p.a,
        p.b ++ p.c,
        p.parts,
        this_node (nodes.Word (codes "new")) p.a p.first,
        (
          p.b,
          p.c,
          refl,
          one_token (by_word created) (nodes.Word w) set p.b e p.second,
          (
            q.a,
            q.b ++ q.c,
            q.parts,
            this_node (nodes.Sign (codes "<")) q.a q.first,
            (
              [],
              q.b ++ q.c,
              refl,
              inl (refl, refl),
              (q.b, q.c, refl, this_node (nodes.Sign (codes ">")) q.b q.second, opens room (codes "(") q.c q.third),
            ),
          ),
        ),
      ),
      refl,
    )

empty_list : (most room : ℕ) (us : List Tok) (at : Span) → 1 ≤ most → AreTokens us (creation_tokens (codes "ArrayList") ++ sign (codes ")")) → Found most room us (plain.NewList at)
empty_list most room us at one h =
    let p : Parts us (creation_tokens (codes "ArrayList")) (sign (codes ")")) = split (creation_tokens (codes "ArrayList")) (sign (codes ")")) us h in
    let g : HasAtom room (p.front ++ ([] ++ p.back)) (plain.NewList (extent (p.front ++ ([] ++ p.back)))) = creation {set = false} (creation_has room p.front (codes "ArrayList") false refl p.first) no_source (this_node (nodes.Sign (codes ")")) p.back p.second) in
    record { value = plain.NewList (extent us); has = from_base most room us (plain.NewList (extent us)) one (atom_base room us (plain.NewList (extent us)) (subst (λ (vs : List Tok). HasAtom room vs (plain.NewList (extent vs))) (sym p.parts) g)); same = refl }

empty_set : (most room : ℕ) (us : List Tok) (at : Span) → 1 ≤ most → AreTokens us (creation_tokens (codes "LinkedHashSet") ++ sign (codes ")")) → Found most room us (plain.NewSet at)
empty_set most room us at one h =
    let p : Parts us (creation_tokens (codes "LinkedHashSet")) (sign (codes ")")) = split (creation_tokens (codes "LinkedHashSet")) (sign (codes ")")) us h in
    let g : HasAtom room (p.front ++ ([] ++ p.back)) (plain.NewSet (extent (p.front ++ ([] ++ p.back)))) = creation {set = true} (creation_has room p.front (codes "LinkedHashSet") true refl p.first) no_source (this_node (nodes.Sign (codes ")")) p.back p.second) in
    record { value = plain.NewSet (extent us); has = from_base most room us (plain.NewSet (extent us)) one (atom_base room us (plain.NewSet (extent us)) (subst (λ (vs : List Tok). HasAtom room vs (plain.NewSet (extent vs))) (sym p.parts) g)); same = refl }

set_of : (most room : ℕ) (us : List Tok) (at : Span) (q : Expression) (qs : List TokenNode) → 1 ≤ most → AreTokens us ((creation_tokens (codes "LinkedHashSet") ++ qs) ++ sign (codes ")")) → ((vs : List Tok) → AreTokens vs qs → SourceFound (pred room) vs q) → Found most room us (plain.NewSetOf at q)
set_of most room us at q qs one h make =
    let p : Three us (creation_tokens (codes "LinkedHashSet")) qs (sign (codes ")")) = three (creation_tokens (codes "LinkedHashSet")) qs (sign (codes ")")) us h in
    let f : SourceFound (pred room) p.b q = make p.b p.second in
    let g : HasAtom room (p.a ++ (p.b ++ p.c)) (plain.NewSetOf (extent (p.a ++ (p.b ++ p.c))) f.value) = creation {set = true} (creation_has room p.a (codes "LinkedHashSet") true refl p.first) f.has (this_node (nodes.Sign (codes ")")) p.c p.third) in
    record { value = plain.NewSetOf (extent us) f.value; has = from_base most room us (plain.NewSetOf (extent us) f.value) one (atom_base room us (plain.NewSetOf (extent us) f.value) (subst (λ (vs : List Tok). HasAtom room vs (plain.NewSetOf (extent vs) f.value)) (sym p.parts) g)); same = ap (plain.NewSetOf nowhere) f.same }

-- ---- the other calls

table_class_has : (us : List Tok) (w : List ℕ) → IsTable w → AreTokens us (word w ++ (sign (codes ".") ++ word (codes "class"))) → TableClass us w
table_class_has us w k h =
    let p : Three us (word w) (sign (codes ".")) (word (codes "class")) = three (word w) (sign (codes ".")) (word (codes "class")) us h in
    ((w, (tt, tt)), (p.a, p.b ++ p.c, p.parts, table_has w p.a k p.first, (p.b, p.c, refl, this_node (nodes.Sign (codes ".")) p.b p.second, this_node (nodes.Word (codes "class")) p.c p.third)), refl)

sized : (most room : ℕ) (us : List Tok) (at : Span) (w : List ℕ) → 1 ≤ most → IsVariable w → AreTokens us (word w ++ (call (codes "size") ++ ([] ++ sign (codes ")")))) → Found most room us (plain.Size at w)
sized most room us at w one k h =
    let p : Called us (word w) (codes "size") [] = called_parts (word w) (codes "size") [] us h in
    let g : HasCall (pred room) w (plain.Var (extent p.a) w) SizeOf p.i (λ (place : Span). plain.Size place w) = subst (λ (vs : List Tok). HasCall (pred room) w (plain.Var (extent p.a) w) SizeOf vs (λ (place : Span). plain.Size place w)) (sym (none_left p.i p.has_inner)) size_of in
    record { value = plain.Size (extent us) w; has = from_base most room us (plain.Size (extent us) w) one (name_call room us w (codes "size") [] SizeOf (λ (place : Span). plain.Size place w) k refl refl p g); same = refl }

fetched : (most room : ℕ) (us : List Tok) (at : Span) (w : List ℕ) → 1 ≤ most → IsTable w → AreTokens us (word (codes "db") ++ (call (codes "fetch") ++ ((word w ++ (sign (codes ".") ++ word (codes "class"))) ++ sign (codes ")")))) → Found most room us (plain.Fetch at w)
fetched most room us at w one k h =
    let p : Called us (word (codes "db")) (codes "fetch") (word w ++ (sign (codes ".") ++ word (codes "class"))) = called_parts (word (codes "db")) (codes "fetch") (word w ++ (sign (codes ".") ++ word (codes "class"))) us h in
    record { value = plain.Fetch (extent us) w; has = from_base most room us (plain.Fetch (extent us) w) one (name_call room us (codes "db") (codes "fetch") (word w ++ (sign (codes ".") ++ word (codes "class"))) FetchFrom (λ (place : Span). plain.Fetch place w) refl refl refl p (fetch_from (table_class_has p.i w k p.has_inner))); same = refl }

-- w . m ( e )
argued : (most room : ℕ) (us : List Tok) (w m : List ℕ) (inner : List TokenNode) (e : Expression) (c : Call) (node : Span → Expression → Expression) → 1 ≤ most → IsVariable w → IsName m → call_of (Some w) m ≡ Some c → AreTokens us (word w ++ (call m ++ (inner ++ sign (codes ")")))) → ((vs : List Tok) → AreTokens vs inner → Found 8 (pred room) vs e) → ((vs : List Tok) (x y : Expression) → HasRank (pred room) ranks vs y → HasCall (pred room) w x c vs (λ (place : Span). node place y)) → (target : Expression) → ((place : Span) (y : Expression) → unplaced y ≡ unplaced e → unplaced (node place y) ≡ unplaced target) → Found most room us target
argued most room us w m inner e c node one k l is h found make target same =
    let p : Called us (word w) m inner = called_parts (word w) m inner us h in
    let f : Found 8 (pred room) p.i e = found p.i p.has_inner in
    record { value = node (extent us) f.value; has = from_base most room us (node (extent us) f.value) one (name_call room us w m inner c (λ (place : Span). node place f.value) k l is p (make p.i (plain.Var (extent p.a) w) f.value f.has)); same = same (extent us) f.value f.same }

equal_parts : (most room : ℕ) (us : List Tok) (at : Span) (a b : Expression) (ls rs : List TokenNode) → 1 ≤ most → AreTokens us (ls ++ (call (codes "equals") ++ (rs ++ sign (codes ")")))) → ((vs : List Tok) → AreTokens vs ls → Found 1 room vs a) → ((vs : List Tok) → AreTokens vs rs → Found 8 (pred room) vs b) → Found most room us (plain.Equals at a b)
equal_parts most room us at a b ls rs one h fa fb =
    let p : Called us ls (codes "equals") rs = called_parts ls (codes "equals") rs us h in
    let x : Found 1 room p.a a = fa p.a p.has_head in
    let y : Found 8 (pred room) p.i b = fb p.i p.has_inner in
    let suffix : Suffixes room x.value (codes "equals") (p.left ++ (p.i ++ p.right)) (λ (place : Span). plain.Equals place x.value y.value) = λ bare left. (left_behind EqualTo left, called refl (opens room (codes "(") p.left p.has_left) (equal_to y.has) (this_node (nodes.Sign (codes ")")) p.right p.has_right)) in
    record {
      value = plain.Equals (extent us) x.value y.value;
      has = from_base most room us (plain.Equals (extent us) x.value y.value) one (behind_base room us p.a p.dot p.member (p.left ++ (p.i ++ p.right)) (codes "equals") x.value (λ (place : Span). plain.Equals place x.value y.value) p.parts x.has p.has_dot (name_has (codes "equals") p.member refl p.has_member) suffix);
      same = ap (λ (z : Expression). plain.Equals nowhere z (unplaced y.value)) x.same ∙ ap (plain.Equals nowhere (unplaced a)) y.same;
    }

field_parts : (most room : ℕ) (us : List Tok) (at : Span) (row : Expression) (m : List ℕ) (rs : List TokenNode) → 1 ≤ most → IsName m → AreTokens us (rs ++ (sign (codes ".") ++ word m)) → ((vs : List Tok) → AreTokens vs rs → Found 1 room vs row) → Found most room us (plain.Field at row m)
field_parts most room us at row m rs one k h found =
    let p : Three us rs (sign (codes ".")) (word m) = three rs (sign (codes ".")) (word m) us h in
    let x : Found 1 room p.a row = found p.a p.first in
    let e : us ≡ p.a ++ (p.b ++ (p.c ++ [])) = p.parts ∙ ap (λ (vs : List Tok). p.a ++ (p.b ++ vs)) (sym (append-nil p.c)) in
    record {
      value = plain.Field (extent us) x.value m;
      has = from_base most room us (plain.Field (extent us) x.value m) one (behind_base room us p.a p.b p.c [] m x.value (λ (place : Span). plain.Field place x.value m) e x.has p.second (name_has m p.c k p.third) (λ bare left. (pred left, field)));
      same = ap (λ (z : Expression). plain.Field nowhere z m) x.same;
    }

binary_parts : (room : ℕ) (vs : List Tok) (at : Span) (op : Op) (a b : Expression) (ls rs : List TokenNode) → AreTokens vs ((ls ++ operator_tokens op) ++ rs) → ((us : List Tok) → AreTokens us ls → Found (rank_of op) room us a) → ((us : List Tok) → AreTokens us rs → Found (rank_of op - 1) room us b) → Found (rank_of op) room vs (plain.Binary at op a b)
binary_parts room vs at op a b ls rs h fa fb =
    let r : Ranked op = ranked op in
    let p : Three vs ls (operator_tokens op) rs = three ls (operator_tokens op) rs vs (subst (λ (ns : List TokenNode). AreTokens vs ns) (append_assoc ls (operator_tokens op) rs) h) in
    let x : Found (rank_of op) room p.a a = fa p.a p.first in
    let y : Found (rank_of op - 1) room p.c b = fb p.c p.third in
    let xs : HasRank room (suc (index op)) p.a x.value = subst (λ (k : ℕ). HasAt k room p.a x.value) r.own x.has in
    let ys : HasRank room (index op) p.c y.value = subst (λ (k : ℕ). HasAt k room p.c y.value) r.right y.has in
    let t : AreTokens p.b (sign r.text) = subst (λ (ns : List TokenNode). AreTokens p.b ns) r.tokens p.second in
    let g : HasRank room (suc (index op)) (p.a ++ (p.b ++ p.c)) (plain.Binary (extent (p.a ++ (p.b ++ p.c))) op x.value y.value) = binary_has room (index op) op r.text p.a p.b p.c x.value y.value r.reads t xs ys in
    let k : HasRank room (suc (index op)) vs (plain.Binary (extent vs) op x.value y.value) = subst (λ (us : List Tok). HasRank room (suc (index op)) us (plain.Binary (extent us) op x.value y.value)) (sym p.parts) g in
    record {
      value = plain.Binary (extent vs) op x.value y.value;
      has = subst (λ (j : ℕ). HasAt j room vs (plain.Binary (extent vs) op x.value y.value)) (sym r.own) k;
      same = ap (λ (z : Expression). plain.Binary nowhere op z (unplaced y.value)) x.same ∙ ap (plain.Binary nowhere op (unplaced a)) y.same;
    }

not_parts : (room : ℕ) (vs : List Tok) (at : Span) (e : Expression) (es : List TokenNode) → AreTokens vs (sign (codes "!") ++ es) → ((us : List Tok) → AreTokens us es → Found 2 (pred room) us e) → Found 2 room vs (plain.Not at e)
not_parts room vs at e es h found =
    let p : Parts vs (sign (codes "!")) es = split (sign (codes "!")) es vs h in
    let x : Found 2 (pred room) p.back e = found p.back p.second in
    let g : HasUnary room (p.front ++ p.back) (plain.Not (extent (p.front ++ p.back)) x.value) = negation (opens room (codes "!") p.front p.first) (unary_of (pred room) p.back x.value x.has) in
    record { value = plain.Not (extent vs) x.value; has = unary (subst (λ (us : List Tok). HasUnary room us (plain.Not (extent us) x.value)) (sym p.parts) g); same = ap (plain.Not nowhere) x.same }

low_right : (op : Op) → 1 ≤ rank_of op - 1
low_right op = let r : Ranked op = ranked op in omega (arith, r.right)

low_own : (op : Op) → 1 ≤ rank_of op
low_own op = let r : Ranked op = ranked op in omega (arith, r.low)

one_8 : 1 ≤ 8
one_8 = omega arith

mutual
  pub expression_has : (e : Expression) (most room : ℕ) (us : List Tok) → 1 ≤ most → InExpression e → AreTokens us (expression_tokens most e) → Found most room us e
  expression_has (plain.Lit at value) most room us one k h = record { value = plain.Lit (extent us) value; has = from_base most room us (plain.Lit (extent us) value) one (atom_base room us (plain.Lit (extent us) value) (literal (value, literal_has value us h, refl))); same = refl }
  expression_has (plain.Var at w) most room us one k h = record { value = plain.Var (extent us) w; has = from_base most room us (plain.Var (extent us) w) one (inl (w, variable_has w us k h, refl)); same = refl }
  expression_has (plain.Field at row m) most room us one k h =
      field_parts most room us at row m (expression_tokens 1 row) one k.1 (subst (λ (ns : List TokenNode). AreTokens us ns) (append_assoc (expression_tokens 1 row) (sign (codes ".")) (word m)) h) (λ vs t. expression_has row 1 room vs (omega arith) k.0 t)
  expression_has (plain.Binary at op a b) most room us one k h =
      wrapped (rank_of op) most room us (plain.Binary at op a b) ((expression_tokens (rank_of op) a ++ operator_tokens op) ++ expression_tokens (rank_of op - 1) b)
      (λ inner vs t. binary_parts inner vs at op a b (expression_tokens (rank_of op) a) (expression_tokens (rank_of op - 1) b) t (λ ws s. expression_has a (rank_of op) inner ws (low_own op) k.0 s) (λ ws s. expression_has b (rank_of op - 1) inner ws (low_right op) k.1 s))
      (ranked op).low (ranked op).high one (nat_le (rank_of op) most) refl h
  expression_has (plain.Not at e) most room us one k h =
      wrapped 2 most room us (plain.Not at e) (sign (codes "!") ++ expression_tokens 2 e)
      (λ inner vs t. not_parts inner vs at e (expression_tokens 2 e) t (λ ws s. expression_has e 2 (pred inner) ws (omega arith) k s))
      (omega arith) (omega arith) one (nat_le 2 most) refl h
  expression_has (plain.Equals at a b) most room us one k h =
      equal_parts most room us at a b (expression_tokens 1 a) (expression_tokens 8 b) one (subst (λ (ns : List TokenNode). AreTokens us ns) (regroup (expression_tokens 1 a) (call (codes "equals")) (expression_tokens 8 b) (sign (codes ")"))) h)
      (λ vs t. expression_has a 1 room vs (omega arith) k.0 t) (λ vs t. expression_has b 8 (pred room) vs (omega arith) k.1 t)
  expression_has (plain.Size at w) most room us one k h = sized most room us at w one k h
  expression_has (plain.Get at w e) most room us one k h =
      argued most room us w (codes "get") (expression_tokens 8 e) e GetFrom (λ place y. plain.Get place w y) one k.0 refl refl h (λ vs t. expression_has e 8 (pred room) vs (omega arith) k.1 t) (λ vs x y r. get_from r) (plain.Get at w e) (λ place y s. ap (plain.Get nowhere w) s)
  expression_has (plain.Contains at w e) most room us one k h =
      argued most room us w (codes "contains") (expression_tokens 8 e) e ContainedIn (λ place y. plain.Contains place w y) one k.0 refl refl h (λ vs t. expression_has e 8 (pred room) vs (omega arith) k.1 t) (λ vs x y r. contained_in r) (plain.Contains at w e) (λ place y s. ap (plain.Contains nowhere w) s)
  expression_has (plain.Fetch at w) most room us one k h = fetched most room us at w one k h
  expression_has (plain.Query at ty text es) most room us one k h =
      let n : ElementWord ty = element_word ty k.0 in
      called_on_db most room us (codes "query") (head_tokens_of n.spelling text ++ argument_tokens es) QueryOf (plain.Query at ty text es) one refl refl
      (subst (λ (ts : List TokenNode). AreTokens us ((((((word (codes "db") ++ call (codes "query")) ++ ts) ++ (dot_class ++ sign (codes ","))) ++ (nodes.Text text ∷ [])) ++ argument_tokens es) ++ sign (codes ")"))) n.tokens h)
      (λ r w x i t. query_content r w x i at ty n.spelling text es n.is (λ vs s. arguments_has es r vs k.1 s) t)
  expression_has (plain.QueryLong at text es) most room us one k h =
      called_on_db most room us (codes "queryLong") ((nodes.Text text ∷ []) ++ argument_tokens es) QueryOfLong (plain.QueryLong at text es) one refl refl h (λ r w x i t. long_content r w x i at text es (λ vs s. arguments_has es r vs k s) t)
  expression_has (plain.QueryBoolean at text es) most room us one k h =
      called_on_db most room us (codes "queryBoolean") ((nodes.Text text ∷ []) ++ argument_tokens es) QueryOfBoolean (plain.QueryBoolean at text es) one refl refl h (λ r w x i t. truth_content r w x i at text es (λ vs s. arguments_has es r vs k s) t)
  expression_has (plain.NewList at) most room us one k h = empty_list most room us at one h
  expression_has (plain.NewSet at) most room us one k h = empty_set most room us at one h
  expression_has (plain.NewSetOf at (plain.Query place ty text es)) most room us one k h =
      let n : ElementWord ty = element_word ty k.1.0 in
      set_of most room us at (plain.Query place ty text es) (expression_tokens 8 (plain.Query place ty text es)) one h
      (λ vs u. source_of (pred room) vs (codes "query") (head_tokens_of n.spelling text ++ argument_tokens es) QueryOf (plain.Query place ty text es) refl
      (subst (λ (ts : List TokenNode). AreTokens vs ((((((word (codes "db") ++ call (codes "query")) ++ ts) ++ (dot_class ++ sign (codes ","))) ++ (nodes.Text text ∷ [])) ++ argument_tokens es) ++ sign (codes ")"))) n.tokens u)
      (λ r w x i t. query_content r w x i place ty n.spelling text es n.is (λ ws s. arguments_has es r ws k.1.1 s) t))
  expression_has (plain.NewSetOf at (plain.QueryLong place text es)) most room us one k h =
      set_of most room us at (plain.QueryLong place text es) (expression_tokens 8 (plain.QueryLong place text es)) one h
      (λ vs u. source_of (pred room) vs (codes "queryLong") ((nodes.Text text ∷ []) ++ argument_tokens es) QueryOfLong (plain.QueryLong place text es) refl u (λ r w x i t. long_content r w x i place text es (λ ws s. arguments_has es r ws k.1 s) t))
  expression_has (plain.NewSetOf at (plain.QueryBoolean place text es)) most room us one k h =
      set_of most room us at (plain.QueryBoolean place text es) (expression_tokens 8 (plain.QueryBoolean place text es)) one h
      (λ vs u. source_of (pred room) vs (codes "queryBoolean") ((nodes.Text text ∷ []) ++ argument_tokens es) QueryOfBoolean (plain.QueryBoolean place text es) refl u (λ r w x i t. truth_content r w x i place text es (λ ws s. arguments_has es r ws k.1 s) t))
  expression_has (plain.NewSetOf at q) most room us one k h = absurd k.0

  pub arguments_has : (es : Expressions) (room : ℕ) (us : List Tok) → InExpressions es → AreTokens us (argument_tokens es) → ArgumentsFound room us es
  arguments_has plain.NoMore room us k h = record { values = plain.NoMore; has = subst (λ (vs : List Tok). HasArguments room vs plain.NoMore) (sym (none_left us h)) no_more; same = refl }
  arguments_has (plain.And e es) room us k h =
      let p : Three us (sign (codes ",")) (expression_tokens 8 e) (argument_tokens es) = three (sign (codes ",")) (expression_tokens 8 e) (argument_tokens es) us h in
      let x : Found 8 room p.b e = expression_has e 8 room p.b (omega arith) k.0 p.second in
      let f : ArgumentsFound room p.c es = arguments_has es room p.c k.1 p.third in
      let g : HasArguments room (p.a ++ (p.b ++ p.c)) (plain.And x.value f.values) = one_more (this_node (nodes.Sign (codes ",")) p.a p.first) x.has f.has in
      record {
        values = plain.And x.value f.values;
        has = subst (λ (vs : List Tok). HasArguments room vs (plain.And x.value f.values)) (sym p.parts) g;
        same = ap (λ (z : Expression). plain.And z (unplaced_all f.values)) x.same ∙ ap (plain.And (unplaced e)) f.same;
      }
