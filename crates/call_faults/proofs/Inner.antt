-- Tokens of expressions: their parentheses stand in pairs, and none of them is a mark of statements.
use Rattle.std.proofs.Common.{◌≡◌, ℕ, zero, suc, Bool, true, false, List, [], ◌∷◌, ◌++◌, Option, Some, None, refl, sym, ap, subst, ◌∙◌, append_assoc, codes, if◌then◌else◌, inl, inr}
use Rattle.std.specs.Str.{bytes_eq}
use Rattle.qbs_base.specs.declared.span.Span.{Span}
use Rattle.java_lex.specs.declared.token.TokenNode.{TokenNode}
use Rattle.java_lex.specs.declared.token.TokenNode.TheVariants as tokens
use Rattle.java_ast.specs.declared.tree.Op.{Op}
use Rattle.java_ast.specs.Tree.{Spelled, Expression, Expressions}
use Rattle.java_grammar.specs.Marks.{Tok}
use Rattle.java_grammar.specs.Rules.{One, Opening, Word, Sign}
use Rattle.java_grammar.specs.Words.{name_in, operator_of}
use Rattle.java_grammar.specs.Reading.{is_sign}
use Rattle.java_grammar.proofs.SingleLaws.{same_bytes}
use Rattle.java_grammar.specs.Expressions.{Literal, Elements, Creation, TableClass, ElementQuery, QueryStart, Call, of_rank, operator_in, Operator, HasAtom, literal, grouped, creation, HasSource, no_source, source, HasCall, equal_to, size_of, get_from, contained_in, fetch_from, query_of_element, query_of_long, query_of_truth, HasArguments, no_more, one_more, HasSuffix, field, called, HasParts, atom, dotted, further, HasUnary, variable, parts, negation, HasChain, operand, joined, HasRank, unary, chain}

-- ---- how many parentheses are open behind tokens, where so many are open before them, and none where one more is closed

abbrev pub closed : ℕ → Option ℕ
closed zero = None
closed (suc k) = Some k

abbrev pub step : Option ℕ → TokenNode → Option ℕ
step None n = None
step (Some k) n = if is_sign (codes "(") n then Some (suc k) else (if is_sign (codes ")") n then closed k else Some k)

abbrev pub run : Option ℕ → List Tok → Option ℕ
run o [] = o
run o (t ∷ ts) = run (step o t.token.node) ts

pub run_append : (o : Option ℕ) (us vs : List Tok) → run o (us ++ vs) ≡ run (run o us) vs
run_append o [] vs = refl
run_append o (t ∷ us) vs = run_append (step o t.token.node) us vs

pub run_none : (us : List Tok) → run None us ≡ None
run_none [] = refl
run_none (t ∷ us) = run_none us

abbrev pub none_of : (A : Type 0) → Option A
none_of A = None

-- ---- neat tokens

abbrev pub IsInner : TokenNode → Type 0
IsInner n = (is_sign (codes "=") n ≡ false) × (is_sign (codes ";") n ≡ false) × (is_sign (codes "{") n ≡ false)

abbrev pub AllInner : List Tok → Type 0
AllInner [] = Unit {0}
AllInner (t ∷ ts) = IsInner t.token.node × AllInner ts

-- neither a parenthesis
abbrev pub IsPlain : TokenNode → Type 0
IsPlain n = (is_sign (codes "(") n ≡ false) × (is_sign (codes ")") n ≡ false) × IsInner n

pub record Neat (us : List Tok) : Type 0 where
  pub closed : (k : ℕ) → run (Some k) us ≡ Some k
  pub inner : AllInner us

pub inner_append : (us vs : List Tok) → AllInner us → AllInner vs → AllInner (us ++ vs)
inner_append [] vs h k = k
inner_append (t ∷ us) vs h k = (h.0, inner_append us vs h.1 k)

nil : Neat []
nil = record { closed = λ k. refl; inner = tt }

pub append : (us vs : List Tok) → Neat us → Neat vs → Neat (us ++ vs)
append us vs h k = record {
  closed = λ n. run_append (Some n) us vs ∙ ap (λ (o : Option ℕ). run o vs) (h.closed n) ∙ k.closed n;
  inner = inner_append us vs h.inner k.inner;
}

in_parts : (ts us vs : List Tok) → ts ≡ us ++ vs → Neat us → Neat vs → Neat ts
in_parts ts us vs e h k = subst Neat (sym e) (append us vs h k)

step_plain : (k : ℕ) (n : TokenNode) → IsPlain n → step (Some k) n ≡ Some k
step_plain k n p = by (is_sign (codes "(") n) (is_sign (codes ")") n) p.0 p.1
  where
    by : (a b : Bool) → a ≡ false → b ≡ false → (if a then Some (suc k) else (if b then closed k else Some k)) ≡ Some k
    by true b e f = absurd cc
    by false true e f = absurd cc
    by false false e f = refl

plain_token : (t : Tok) → IsPlain t.token.node → Neat (t ∷ [])
plain_token t p = record { closed = λ k. step_plain k t.token.node p; inner = (p.2, tt) }

lone : (t : Tok) (us : List Tok) → us ≡ t ∷ [] → IsPlain t.token.node → Neat us
lone t us e p = subst Neat (sym e) (plain_token t p)

sign : (text : List ℕ) (us : List Tok) → IsPlain (tokens.Sign text) → Sign text us tt → Neat us
sign text us p h = lone h.0 us h.1 (subst IsPlain (sym h.2) p)

word : (text : List ℕ) (us : List Tok) → Word text us tt → Neat us
word text us h = lone h.0 us h.1 (subst IsPlain (sym h.2) (refl, refl, (refl, refl, refl)))

opening : (room : ℕ) (text : List ℕ) (us : List Tok) → IsPlain (tokens.Sign text) → Opening room text us tt → Neat us
opening room text us p h = lone h.0 us h.1 (subst IsPlain (sym h.2) p)

-- what is made of a token that is no sign
no_sign_plain : {A : Type 0} (f : TokenNode → Option A) (n : TokenNode) (x : A) → ((s : List ℕ) → f (tokens.Sign s) ≡ None) → f n ≡ Some x → IsPlain n
no_sign_plain f (tokens.Word w) x none e = (refl, refl, (refl, refl, refl))
no_sign_plain f (tokens.Integer v l) x none e = (refl, refl, (refl, refl, refl))
no_sign_plain f (tokens.Text t) x none e = (refl, refl, (refl, refl, refl))
no_sign_plain {A} f (tokens.Sign s) x none e = absurd (let q : none_of A ≡ Some x = sym (none s) ∙ e in cc)

one : {A : Type 0} (f : TokenNode → Option A) (us : List Tok) (x : A) → ((s : List ℕ) → f (tokens.Sign s) ≡ None) → One f us x → Neat us
one f us x none h = lone h.0 us h.1 (no_sign_plain f h.0.token.node x none h.2)

-- ---- operators

pub no_operator : (rank : ℕ) (s text : List ℕ) (o : Op) → operator_of text ≡ None → of_rank rank (operator_of s) ≡ Some o → bytes_eq s text ≡ false
no_operator rank s text o none e = by (bytes_eq s text) refl
  where
    by : (b : Bool) → bytes_eq s text ≡ b → b ≡ false
    by false h = refl
    by true h =
        let same : of_rank rank (operator_of s) ≡ None = ap (λ (u : List ℕ). of_rank rank (operator_of u)) (same_bytes s text h) ∙ ap (of_rank rank) none in
        absurd (let q : none_of Op ≡ Some o = sym same ∙ e in cc)

operator_plain : (left rank : ℕ) (us : List Tok) (o : Op) → Operator left rank us o → Neat us
operator_plain left rank us o (t, e, is, allows) = lone t us e (by t.token.node is)
  where
    by : (n : TokenNode) → operator_in rank n ≡ Some o → IsPlain n
    by (tokens.Word w) h = absurd cc
    by (tokens.Integer v l) h = absurd cc
    by (tokens.Text x) h = absurd cc
    by (tokens.Sign s) h = (
      no_operator rank s (codes "(") o refl h,
      no_operator rank s (codes ")") o refl h,
      (no_operator rank s (codes "=") o refl h, no_operator rank s (codes ";") o refl h, no_operator rank s (codes "{") o refl h),
    )

-- ---- expressions

pair : (room : ℕ) (us vs ws : List Tok) → Opening room (codes "(") us tt → Neat vs → Sign (codes ")") ws tt → Neat (us ++ (vs ++ ws))
pair room us vs ws (t, e, is, allows) n (c, f, closes) = subst (λ (xs : List Tok). Neat (xs ++ (vs ++ ws))) (sym e) (subst (λ (xs : List Tok). Neat (t ∷ (vs ++ xs))) (sym f) (by t c is closes))
  where
    by : (t c : Tok) → t.token.node ≡ tokens.Sign (codes "(") → c.token.node ≡ tokens.Sign (codes ")") → Neat (t ∷ (vs ++ c ∷ []))
    by t c is closes = record {
      closed = λ k.
          ap (λ (n : TokenNode). run (step (Some k) n) (vs ++ c ∷ [])) is
          ∙ run_append (Some (suc k)) vs (c ∷ []) ∙ ap (λ (o : Option ℕ). run o (c ∷ [])) (n.closed (suc k)) ∙ ap (λ (m : TokenNode). step (Some (suc k)) m) closes;
      inner = (subst IsInner (sym is) (refl, refl, refl), inner_append vs (c ∷ []) n.inner (subst IsInner (sym closes) (refl, refl, refl), tt));
    }

open_sign : IsPlain (tokens.Sign (codes ".")) × IsPlain (tokens.Sign (codes ","))
open_sign = ((refl, refl, (refl, refl, refl)), (refl, refl, (refl, refl, refl)))

literal_neat : (us : List Tok) (x : Expression) → Literal us x → Neat us
literal_neat us x (y, inl (z, (a, b, e, minus, n), made), is) = in_parts us a b e (sign (codes "-") a (refl, refl, (refl, refl, refl)) minus) (one _ b z.1 (λ s. refl) n)
literal_neat us x (y, inr (inl h), is) = one _ us y (λ s. refl) h
literal_neat us x (y, inr (inr (z, (a, b, e, type, (c, d, f, dot, bound)), made)), is) =
    in_parts us a b e (one _ a z.0 (λ s. refl) type) (in_parts b c d f (sign (codes ".") c open_sign.0 dot) (one _ d z.1.1 (λ s. refl) bound))

creation_neat : (room : ℕ) (us : List Tok) (set : Bool) (vs ws : List Tok) → Creation room us set → Neat vs → Sign (codes ")") ws tt → Neat (us ++ (vs ++ ws))
creation_neat room us set vs ws (y, (a, b, e, new, (c, d, f, made, (g, h, i, less, (j, k, l, els, (m, n, o, more, opens))))), is) inner closes =
    subst (λ (xs : List Tok). Neat (xs ++ (vs ++ ws))) (sym e) (turn a b (word (codes "new") a new)
    (subst (λ (xs : List Tok). Neat (xs ++ (vs ++ ws))) (sym f) (turn c d (one _ c y.1.0 (λ s. refl) made)
    (subst (λ (xs : List Tok). Neat (xs ++ (vs ++ ws))) (sym i) (turn g h (sign (codes "<") g (refl, refl, (refl, refl, refl)) less)
    (subst (λ (xs : List Tok). Neat (xs ++ (vs ++ ws))) (sym l) (turn j k (elements j y.1.1.1.0 els)
    (subst (λ (xs : List Tok). Neat (xs ++ (vs ++ ws))) (sym o) (turn m n (sign (codes ">") m (refl, refl, (refl, refl, refl)) more)
    (pair room n vs ws opens inner closes))))))))))
  where
    elements : (us : List Tok) (x : Unit {0}) → Elements us x → Neat us
    elements us x (inl h) = subst Neat (sym h.0) nil
    elements us x (inr h) = one _ us h.0 (λ s. refl) h.1

    turn : (a b : List Tok) → Neat a → Neat (b ++ (vs ++ ws)) → Neat ((a ++ b) ++ (vs ++ ws))
    turn a b h k = subst Neat (sym (append_assoc a b (vs ++ ws))) (append a (b ++ (vs ++ ws)) h k)

start_neat : (room : ℕ) (us : List Tok) (c : Call) (vs ws : List Tok) → QueryStart room us c → Neat vs → Sign (codes ")") ws tt → Neat (us ++ (vs ++ ws))
start_neat room us q vs ws (y, (a, b, e, db, (c, d, f, dot, (g, h, i, named, opens))), is) inner closes =
    subst (λ (xs : List Tok). Neat (xs ++ (vs ++ ws))) (sym e) (turn a b (word (codes "db") a db)
    (subst (λ (xs : List Tok). Neat (xs ++ (vs ++ ws))) (sym f) (turn c d (sign (codes ".") c (refl, refl, (refl, refl, refl)) dot)
    (subst (λ (xs : List Tok). Neat (xs ++ (vs ++ ws))) (sym i) (turn g h (one _ g y.1.1.0 (λ s. refl) named)
    (pair room h vs ws opens inner closes))))))
  where
    turn : (a b : List Tok) → Neat a → Neat (b ++ (vs ++ ws)) → Neat ((a ++ b) ++ (vs ++ ws))
    turn a b h k = subst Neat (sym (append_assoc a b (vs ++ ws))) (append a (b ++ (vs ++ ws)) h k)

table_neat : (us : List Tok) (x : List ℕ) → TableClass us x → Neat us
table_neat us x (y, (a, b, e, table, (c, d, f, dot, class)), is) =
    in_parts us a b e (one _ a y.0 (λ s. refl) table) (in_parts b c d f (sign (codes ".") c (refl, refl, (refl, refl, refl)) dot) (word (codes "class") d class))

element_neat : (us : List Tok) (x : Spelled × List ℕ) → ElementQuery us x → Neat us
element_neat us x (y, (a, b, e, element, (c, d, f, dot, (g, h, i, class, (j, k, l, comma, text)))), is) =
    in_parts us a b e (one _ a y.0 (λ s. refl) element) (in_parts b c d f (sign (codes ".") c (refl, refl, (refl, refl, refl)) dot)
    (in_parts d g h i (word (codes "class") g class) (in_parts h j k l (sign (codes ",") j (refl, refl, (refl, refl, refl)) comma) (one _ k y.1.1.1.1 (λ s. refl) text))))

dotted_neat : (us vs ws zs : List Tok) (m : List ℕ) → Neat us → Neat vs → One name_in ws m → Neat zs → Neat (us ++ (vs ++ (ws ++ zs)))
dotted_neat us vs ws zs m h k name l = append us (vs ++ (ws ++ zs)) h (append vs (ws ++ zs) k (append ws zs (one _ ws m (λ s. refl) name) l))

mutual
  pub atom_neat : {room : ℕ} {us : List Tok} {x : Expression} → HasAtom room us x → Neat us
  atom_neat (literal {us} {x} h) = literal_neat us x h
  atom_neat (grouped {room} {us} {vs} {ws} o h c) = pair room us vs ws o (rank_neat h) c
  atom_neat (creation {room} {set} {us} {vs} {ws} h s c) = creation_neat room us set vs ws h (source_neat s) c

  pub source_neat : {room : ℕ} {set : Bool} {us : List Tok} {x : Option Expression} → HasSource room set us x → Neat us
  source_neat no_source = nil
  source_neat (source {room} {us} {vs} {ws} {c} q h cl) = start_neat room us c vs ws q (call_neat h) cl

  pub call_neat : {room : ℕ} {w : List ℕ} {x : Expression} {c : Call} {us : List Tok} {f : Span → Expression} → HasCall room w x c us f → Neat us
  call_neat (equal_to h) = rank_neat h
  call_neat size_of = nil
  call_neat (get_from h) = rank_neat h
  call_neat (contained_in h) = rank_neat h
  call_neat (fetch_from {table} {us} h) = table_neat us table h
  call_neat (query_of_element {q} {us} {vs} h k) = append us vs (element_neat us q h) (arguments_neat k)
  call_neat (query_of_long {text} {us} {vs} h k) = append us vs (one _ us text (λ s. refl) h) (arguments_neat k)
  call_neat (query_of_truth {text} {us} {vs} h k) = append us vs (one _ us text (λ s. refl) h) (arguments_neat k)

  pub arguments_neat : {room : ℕ} {us : List Tok} {es : Expressions} → HasArguments room us es → Neat us
  arguments_neat no_more = nil
  arguments_neat (one_more {us} {vs} {ws} comma h k) = append us (vs ++ ws) (sign (codes ",") us (refl, refl, (refl, refl, refl)) comma) (append vs ws (rank_neat h) (arguments_neat k))

  pub suffix_neat : {room left after : ℕ} {bare : Option (List ℕ)} {x : Expression} {m : List ℕ} {us : List Tok} {f : Span → Expression} → HasSuffix room bare x m left us f after → Neat us
  suffix_neat field = nil
  suffix_neat (called {room} {us} {vs} {ws} is o h c) = pair room us vs ws o (call_neat h) c

  pub parts_neat : {room left : ℕ} {us : List Tok} {x : Expression} → HasParts room left us x → Neat us
  parts_neat (atom h) = atom_neat h
  parts_neat (dotted {w} {m} {us} {vs} {ws} {zs} v d n s) =
      dotted_neat us vs ws zs m (one _ us w (λ s. refl) v) (sign (codes ".") vs (refl, refl, (refl, refl, refl)) d) n (suffix_neat s)
  parts_neat (further {left} {m} {us} {vs} {ws} {zs} h d n s) =
      dotted_neat us vs ws zs m (parts_neat h) (opening left (codes ".") vs (refl, refl, (refl, refl, refl)) d) n (suffix_neat s)

  pub unary_neat : {room : ℕ} {us : List Tok} {x : Expression} → HasUnary room us x → Neat us
  unary_neat (variable {us} h) = one _ us h.0 (λ s. refl) h.1
  unary_neat (parts h) = parts_neat h
  unary_neat (negation {room} {us} {vs} o h) = append us vs (opening room (codes "!") us (refl, refl, (refl, refl, refl)) o) (unary_neat h)

  pub chain_neat : {room rank left : ℕ} {us : List Tok} {x : Expression} → HasChain room rank left us x → Neat us
  chain_neat (operand h) = rank_neat h
  chain_neat (joined {rank} {left} {us} {vs} {ws} {o} h op k) = append us (vs ++ ws) (chain_neat h) (append vs ws (operator_plain left rank vs o op) (rank_neat k))

  pub rank_neat : {room rank : ℕ} {us : List Tok} {x : Expression} → HasRank room rank us x → Neat us
  rank_neat (unary h) = unary_neat h
  rank_neat (chain h) = chain_neat h
