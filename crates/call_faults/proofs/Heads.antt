-- What an expression begins with: no call of a name, and a number query whole.
use Rattle.std.proofs.Common.{◌≡◌, ℕ, Bool, true, false, not, ◌&&◌, List, [], ◌∷◌, ◌++◌, Option, Some, None, refl, sym, ap, subst, ◌∙◌, append_assoc, codes, if◌then◌else◌, inl, inr}
use Rattle.std.specs.Prelude.{pred}
use Rattle.std.specs.Str.{bytes_eq}
use Rattle.std.proofs.lemmas.List.{append-nil}
use Rattle.qbs_base.specs.declared.span.Span.{Span}
use Rattle.qbs_base.specs.declared.scalar.Scalar.{Scalar}
use Rattle.java_lex.specs.declared.token.TokenNode.{TokenNode}
use Rattle.java_lex.specs.declared.token.TokenNode.TheVariants as tokens
use Rattle.java_ast.specs.declared.tree.Op.{Op}
use Rattle.java_ast.specs.Tree.{Expression, Expressions}
use Rattle.java_grammar.specs.Marks.{Tok, Allows}
use Rattle.java_grammar.specs.Rules.{Sign}
use Rattle.java_grammar.specs.Words.{is_name, is_number_type, word_if, name_in, variable_in, text_in, truth_of, literal_in}
use Rattle.java_grammar.specs.Reading.{is_sign}
use Rattle.java_grammar.specs.Expressions.{Literal, Creation, Call, call_of, operator_in, Operator, HasAtom, literal, grouped, creation, HasCall, query_of_long, HasArguments, HasSuffix, field, called, HasParts, atom, dotted, further, HasUnary, variable, parts, negation, HasChain, operand, joined, HasRank, unary, chain}
use Rattle.call_faults.proofs.Inner.{none_of, no_operator}
use Rattle.java_grammar.proofs.SingleLaws.{same_bytes}

-- ---- first tokens

abbrev pub first_sign : List ℕ → List Tok → Bool
first_sign text [] = false
first_sign text (t ∷ ts) = is_sign text t.token.node

-- no parenthesis and no dot stands first
abbrev Joins : List Tok → Type 0
Joins vs = (first_sign (codes "(") vs ≡ false) × (first_sign (codes ".") vs ≡ false)

first_before : (text : List ℕ) (us vs : List Tok) → first_sign text us ≡ false → first_sign text vs ≡ false → first_sign text (us ++ vs) ≡ false
first_before text [] vs h k = k
first_before text (t ∷ us) vs h k = h

data PartsHead (room : ℕ) : List Tok → Type 0 where
  alone : {us : List Tok} {x : Expression} (vs : List Tok) → HasAtom room us x → PartsHead room (us ++ vs)
  member : {left after : ℕ} {n d m : Tok} {w name : List ℕ} {x : Expression} {zs : List Tok} {f : Span → Expression} (vs : List Tok)
      → variable_in n.token.node ≡ Some w → d.token.node ≡ tokens.Sign (codes ".") → name_in m.token.node ≡ Some name → HasSuffix room (Some w) x name left zs f after → first_sign (codes "(") vs ≡ false → PartsHead room (n ∷ d ∷ m ∷ (zs ++ vs))

data Head (room : ℕ) : List Tok → Type 0 where
  lone_name : {n : Tok} {vs : List Tok} → Joins vs → Head room (n ∷ vs)
  some_parts : {us : List Tok} → PartsHead room us → Head room us
  turned : {t : Tok} {vs : List Tok} → t.token.node ≡ tokens.Sign (codes "!") → Head room (t ∷ vs)

parts_more : (room : ℕ) (us more : List Tok) → PartsHead room us → first_sign (codes "(") more ≡ false → PartsHead room (us ++ more)
parts_more room us more (alone {us = a} b h) k = subst (PartsHead room) (sym (append_assoc a b more)) (alone (b ++ more) h)
parts_more room us more (member {n} {d} {m} {zs} vs v e w s o) k =
    subst (λ (ts : List Tok). PartsHead room (n ∷ d ∷ m ∷ ts)) (sym (append_assoc zs vs more)) (member (vs ++ more) v e w s (first_before (codes "(") vs more o k))

head_more : (room : ℕ) (us more : List Tok) → Head room us → Joins more → Head room (us ++ more)
head_more room us more (lone_name {n} {vs} j) k = lone_name (first_before (codes "(") vs more j.0 k.0, first_before (codes ".") vs more j.1 k.1)
head_more room us more (some_parts h) k = some_parts (parts_more room us more h k.0)
head_more room us more (turned e) k = turned e

-- ---- atoms

record First (us : List Tok) : Type 0 where
  first : Tok
  rest : List Tok
  is : us ≡ first ∷ rest
  none : variable_in first.token.node ≡ None

first_then : (us vs : List Tok) → First us → First (us ++ vs)
first_then us vs h = record { first = h.first; rest = h.rest ++ vs; is = ap (λ (ts : List Tok). ts ++ vs) h.is; none = h.none }

first_in : (ts us vs : List Tok) → ts ≡ us ++ vs → First us → First ts
first_in ts us vs e h = subst First (sym e) (first_then us vs h)

lone : (t : Tok) (us : List Tok) → us ≡ t ∷ [] → variable_in t.token.node ≡ None → First us
lone t us e n = record { first = t; rest = []; is = e; none = n }

sign_first : (text : List ℕ) (us : List Tok) → Sign text us tt → First us
sign_first text us h = lone h.0 us h.1 (ap variable_in h.2)

truth_none : (w : List ℕ) (x : Scalar) → truth_of w ≡ Some x → variable_in (tokens.Word w) ≡ None
truth_none w x e = by (bytes_eq w (codes "true")) (bytes_eq w (codes "false")) refl refl e
  where
    by : (a b : Bool) → bytes_eq w (codes "true") ≡ a → bytes_eq w (codes "false") ≡ b → truth_of w ≡ Some x → variable_in (tokens.Word w) ≡ None
    by true b h k f = ap (λ (u : List ℕ). variable_in (tokens.Word u)) (same_bytes w (codes "true") h)
    by false true h k f = ap (λ (u : List ℕ). variable_in (tokens.Word u)) (same_bytes w (codes "false") k)
    by false false h k f = absurd (let q : none_of Scalar ≡ Some x = (rw (h, k) at f) in cc)

literal_none : (n : TokenNode) (x : Scalar) → literal_in n ≡ Some x → variable_in n ≡ None
literal_none (tokens.Word w) x e = truth_none w x e
literal_none (tokens.Integer v l) x e = refl
literal_none (tokens.Text t) x e = refl
literal_none (tokens.Sign s) x e = refl

number_none : (n : TokenNode) (w : List ℕ) → word_if is_number_type n ≡ Some w → variable_in n ≡ None
number_none (tokens.Word v) w e = by (is_name v) (is_number_type v) refl refl e
  where
    by : (a b : Bool) → is_name v ≡ a → is_number_type v ≡ b → (if is_number_type v then Some v else None) ≡ Some w → (if is_name v && not (is_number_type v) then Some v else None) ≡ None
    by true true h k f = rw (h, k) refl
    by false b h k f = rw h refl
    by true false h k f = absurd (let q : none_of (List ℕ) ≡ Some w = (rw k at f) in cc)
number_none (tokens.Integer v l) w e = refl
number_none (tokens.Text t) w e = refl
number_none (tokens.Sign s) w e = refl

literal_first : (us : List Tok) (x : Expression) → Literal us x → First us
literal_first us x (y, inl (z, (a, b, e, minus, n), made), is) = first_in us a b e (sign_first (codes "-") a minus)
literal_first us x (y, inr (inl h), is) = lone h.0 us h.1 (literal_none h.0.token.node y h.2)
literal_first us x (y, inr (inr (z, (a, b, e, type, rest), made)), is) = first_in us a b e (lone type.0 a type.1 (number_none type.0.token.node z.0 type.2))

creation_first : (room : ℕ) (us : List Tok) (set : Bool) → Creation room us set → First us
creation_first room us set (y, (a, b, e, new, rest), is) = first_in us a b e (lone new.0 a new.1 (ap variable_in new.2))

atom_first : {room : ℕ} {us : List Tok} {x : Expression} → HasAtom room us x → First us
atom_first (literal {us} {x} h) = literal_first us x h
atom_first (grouped {us} {vs} {ws} o h c) = first_then us (vs ++ ws) (lone o.0 us o.1 (ap variable_in o.2))
atom_first (creation {room} {set} {us} {vs} {ws} h s c) = first_then us (vs ++ ws) (creation_first room us set h)

-- ---- expressions

three : (a b c : Tok) (us vs ws zs : List Tok) → us ≡ a ∷ [] → vs ≡ b ∷ [] → ws ≡ c ∷ [] → us ++ (vs ++ (ws ++ zs)) ≡ a ∷ b ∷ c ∷ zs
three a b c us vs ws zs e f g = rw (e, f, g) refl

dot_joins : (d : Tok) (vs more : List Tok) → vs ≡ d ∷ [] → d.token.node ≡ tokens.Sign (codes ".") → first_sign (codes "(") (vs ++ more) ≡ false
dot_joins d vs more e is = rw e (ap (λ (n : TokenNode). is_sign (codes "(") n) is)

operator_joins : (left rank : ℕ) (vs more : List Tok) (o : Op) → Operator left rank vs o → Joins (vs ++ more)
operator_joins left rank vs more o (t, e, is, allows) = subst (λ (ts : List Tok). Joins (ts ++ more)) (sym e) (by t.token.node is)
  where
    by : (n : TokenNode) → operator_in rank n ≡ Some o → (is_sign (codes "(") n ≡ false) × (is_sign (codes ".") n ≡ false)
    by (tokens.Word w) h = absurd cc
    by (tokens.Integer v l) h = absurd cc
    by (tokens.Text x) h = absurd cc
    by (tokens.Sign s) h = (no_operator rank s (codes "(") o refl h, no_operator rank s (codes ".") o refl h)

mutual
  parts_head : {room left : ℕ} {us : List Tok} {x : Expression} → HasParts room left us x → PartsHead room us
  parts_head {room} (atom {us} h) = subst (PartsHead room) (append-nil us) (alone [] h)
  parts_head {room} (dotted {w} {m} {us} {vs} {ws} {zs} v d n s) =
      subst (PartsHead room) (ap (λ (ts : List Tok). v.0 ∷ d.0 ∷ n.0 ∷ ts) (append-nil zs) ∙ sym (three v.0 d.0 n.0 us vs ws zs v.1 d.1 n.1)) (member [] v.2 d.2 n.2 s refl)
  parts_head {room} (further {left} {m} {us} {vs} {ws} {zs} h d n s) = parts_more room us (vs ++ (ws ++ zs)) (parts_head h) (dot_joins d.0 vs (ws ++ zs) d.1 d.2)

unary_head : {room : ℕ} {us : List Tok} {x : Expression} → HasUnary room us x → Head room us
unary_head {room} (variable {us} h) = subst (Head room) (sym h.1.1) (lone_name (refl, refl))
unary_head (parts h) = some_parts (parts_head h)
unary_head {room} (negation {us} {vs} o h) = subst (λ (ts : List Tok). Head room (ts ++ vs)) (sym o.1) (turned o.2)

mutual
  chain_head : {room rank left : ℕ} {us : List Tok} {x : Expression} → HasChain room rank left us x → Head room us
  chain_head (operand h) = rank_head h
  chain_head {room} (joined {rank} {left} {us} {vs} {ws} {o} h op k) = head_more room us (vs ++ ws) (chain_head h) (operator_joins left rank vs ws o op)

  rank_head : {room rank : ℕ} {us : List Tok} {x : Expression} → HasRank room rank us x → Head room us
  rank_head (unary h) = unary_head h
  rank_head (chain h) = chain_head h

-- ---- what stands first in a value

abbrev pub IsEnd : Tok → Type 0
IsEnd s = s.token.node ≡ tokens.Sign (codes ";")

first_end : (text : List ℕ) (vs zs : List Tok) (s : Tok) → IsEnd s → bytes_eq (codes ";") text ≡ false → first_sign text vs ≡ false → first_sign text (vs ++ s ∷ zs) ≡ false
first_end text [] zs s e f h = ap (λ (n : TokenNode). is_sign text n) e ∙ f
first_end text (t ∷ vs) zs s e f h = h

-- the first token, where it is a sign of this text
is_first : (text : List ℕ) (ts : List Tok) (t : Tok) (rest : List Tok) → first_sign text ts ≡ false → ts ≡ t ∷ rest → is_sign text t.token.node ≡ true → ⊥
is_first text ts t rest h e is = let q : true ≡ false = sym is ∙ ap (first_sign text) (sym e) ∙ h in cc

no_variable : {room : ℕ} {us : List Tok} {x : Expression} (more : List Tok) (n : Tok) (rest : List Tok) (w : List ℕ) → HasAtom room us x → us ++ more ≡ n ∷ rest → variable_in n.token.node ≡ Some w → ⊥
no_variable {us} more n rest w h e v =
    let f : First us = atom_first h in
    let all : f.first ∷ (f.rest ++ more) ≡ n ∷ rest = ap (λ (ts : List Tok). ts ++ more) (sym f.is) ∙ e in
    let same : f.first ≡ n = cc in
    let q : none_of (List ℕ) ≡ Some w = sym f.none ∙ ap (λ (t : Tok). variable_in t.token.node) same ∙ v in cc

open_is : (o : Tok) → o.token.node ≡ tokens.Sign (codes "(") → is_sign (codes "(") o.token.node ≡ true
open_is o e = ap (λ (n : TokenNode). is_sign (codes "(") n) e

dot_is : (o : Tok) → o.token.node ≡ tokens.Sign (codes ".") → is_sign (codes ".") o.token.node ≡ true
dot_is o e = ap (λ (n : TokenNode). is_sign (codes ".") n) e

-- no call of a name stands first
pub no_call : {room rank : ℕ} {ws : List Tok} {x : Expression} (s : Tok) (zs : List Tok) (n o : Tok) (rest : List Tok) (w : List ℕ) → HasRank room rank ws x → IsEnd s → ws ++ s ∷ zs ≡ n ∷ o ∷ rest → variable_in n.token.node ≡ Some w
    → is_sign (codes "(") o.token.node ≡ true → ⊥
no_call {room} {rank} {ws} s zs n o rest w h end e v is = by ws (rank_head h) e
  where
    by : (ts : List Tok) → Head room ts → ts ++ s ∷ zs ≡ n ∷ o ∷ rest → ⊥
    by ts (lone_name {n = m} {vs} j) e =
        let others : vs ++ s ∷ zs ≡ o ∷ rest = cc in
        is_first (codes "(") (vs ++ s ∷ zs) o rest (first_end (codes "(") vs zs s end refl j.0) others is
    by ts (some_parts (alone {us = a} b h)) e = no_variable (b ++ s ∷ zs) n (o ∷ rest) w h (sym (append_assoc a b (s ∷ zs)) ∙ e) v
    by ts (some_parts (member {d} vs f dot g k l)) e =
        let same : d ≡ o = cc in
        let q : true ≡ false = sym is ∙ ap (λ (t : Tok). is_sign (codes "(") t.token.node) (sym same) ∙ ap (λ (m : TokenNode). is_sign (codes "(") m) dot in cc
    by ts (turned {t} f) e =
        let same : t ≡ n = cc in
        let q : none_of (List ℕ) ≡ Some w = ap variable_in (sym f) ∙ ap (λ (u : Tok). variable_in u.token.node) same ∙ v in cc

-- ---- a number query that stands first

abbrev some : List ℕ → Option (List ℕ)
some w = Some w

spread : (o t c : Tok) (a i g j vs : List Tok) → a ≡ o ∷ [] → i ≡ t ∷ [] → g ≡ c ∷ [] → (a ++ ((i ++ j) ++ g)) ++ vs ≡ o ∷ t ∷ (j ++ c ∷ vs)
spread o t c a i g j vs e f h = rw (e, f, h) (ap (λ (xs : List Tok). o ∷ t ∷ xs) (append_assoc j (c ∷ []) vs))

pub record Query (room : ℕ) (ws : List Tok) (n d m o : Tok) : Type 0 where
  pub text : Tok
  pub name : List ℕ
  pub args : List Tok
  pub values : Expressions
  pub close : Tok
  pub tail : List Tok
  pub whole : ws ≡ n ∷ d ∷ m ∷ o ∷ text ∷ (args ++ close ∷ tail)
  pub is_text : text_in text.token.node ≡ Some name
  pub has : HasArguments (pred room) args values
  pub closes : close.token.node ≡ tokens.Sign (codes ")")
  pub allows : Allows room o

-- the call of a member whose parenthesis is the next token
query_suffix : {room left after : ℕ} {x : Expression} {zs : List Tok} {f : Span → Expression} (n d m o : Tok) (vs more rest : List Tok) → HasSuffix room (Some (codes "db")) x (codes "queryLong") left zs f after
    → is_sign (codes "(") o.token.node ≡ true → first_sign (codes "(") (vs ++ more) ≡ false → zs ++ (vs ++ more) ≡ o ∷ rest → Query room (n ∷ d ∷ m ∷ (zs ++ vs)) n d m o
query_suffix n d m o vs more rest field is none e = absurd (is_first (codes "(") (vs ++ more) o rest none e is)
query_suffix {room} {x} n d m o vs more rest (called {c} {us = a} {vs = b} {ws = g} {node} made opens h closes) is none e = by c b node made h e
  where
    by : (c : Call) (b : List Tok) (node : Span → Expression) → call_of (Some (codes "db")) (codes "queryLong") ≡ Some c → HasCall (pred room) (codes "db") x c b node → (a ++ (b ++ g)) ++ (vs ++ more) ≡ o ∷ rest
        → Query room (n ∷ d ∷ m ∷ ((a ++ (b ++ g)) ++ vs)) n d m o
    by c b node is (query_of_long {text = name} {us = i} {vs = j} {es} t k) e =
        let q : opens.0 ∷ (((i ++ j) ++ g) ++ (vs ++ more)) ≡ o ∷ rest = ap (λ (xs : List Tok). (xs ++ ((i ++ j) ++ g)) ++ (vs ++ more)) (sym opens.1) ∙ e in
        let same : opens.0 ≡ o = cc in
        record {
          text = t.0;
          name = name;
          args = j;
          values = es;
          close = closes.0;
          tail = vs;
          whole = ap (λ (xs : List Tok). n ∷ d ∷ m ∷ xs) (spread o t.0 closes.0 a i g j vs (opens.1 ∙ ap (λ (u : Tok). u ∷ []) same) t.1 closes.1);
          is_text = t.2;
          has = k;
          closes = closes.2;
          allows = subst (Allows room) same opens.3;
        }
    by c b node is h e = absurd cc

-- the words of the member are those of a query
query_member : {room left after : ℕ} {x : Expression} {zs : List Tok} {f : Span → Expression} (w word : List ℕ) (n' d' m' n d m o s : Tok) (ends vs rest : List Tok) → HasSuffix room (Some w) x word left zs f after
    → first_sign (codes "(") vs ≡ false → some w ≡ some (codes "db") → some word ≡ some (codes "queryLong") → n' ≡ n → d' ≡ d → m' ≡ m → is_sign (codes "(") o.token.node ≡ true → IsEnd s → (zs ++ vs) ++ s ∷ ends ≡ o ∷ rest
    → Query room (n' ∷ d' ∷ m' ∷ (zs ++ vs)) n d m o
query_member {room} {left} {after} {x} {zs} {f} w word n' d' m' n d m o s ends vs rest h none is_w is_word is_n is_d is_m is end e =
    let same_w : w ≡ codes "db" = cc in
    let same_word : word ≡ codes "queryLong" = cc in
    let k = subst (λ (u : List ℕ). HasSuffix room (Some (codes "db")) x u left zs f after) same_word (subst (λ (u : List ℕ). HasSuffix room (Some u) x word left zs f after) same_w h) in
    let front : n ∷ d ∷ m ∷ (zs ++ vs) ≡ n' ∷ d' ∷ m' ∷ (zs ++ vs) = cc in
    subst (λ (ts : List Tok). Query room ts n d m o) front
    (query_suffix n d m o vs (s ∷ ends) rest k is (first_end (codes "(") vs ends s end refl none) (sym (append_assoc zs vs (s ∷ ends)) ∙ e))

pub first_query : {room rank : ℕ} {ws : List Tok} {x : Expression} (s : Tok) (zs : List Tok) (n d m o : Tok) (rest : List Tok) → HasRank room rank ws x → IsEnd s → ws ++ s ∷ zs ≡ n ∷ d ∷ m ∷ o ∷ rest → n.token.node ≡ tokens.Word (codes "db")
    → d.token.node ≡ tokens.Sign (codes ".") → m.token.node ≡ tokens.Word (codes "queryLong") → is_sign (codes "(") o.token.node ≡ true → Query room ws n d m o
first_query {room} {rank} {ws} s zs n d m o rest h end e db dot long is = by ws (rank_head h) e
  where
    by : (ts : List Tok) → Head room ts → ts ++ s ∷ zs ≡ n ∷ d ∷ m ∷ o ∷ rest → Query room ts n d m o
    by ts (lone_name {vs} j) e =
        let others : vs ++ s ∷ zs ≡ d ∷ m ∷ o ∷ rest = cc in
        absurd (is_first (codes ".") (vs ++ s ∷ zs) d (m ∷ o ∷ rest) (first_end (codes ".") vs zs s end refl j.1) others (dot_is d dot))
    by ts (some_parts (alone {us = a} b h)) e = absurd (no_variable (b ++ s ∷ zs) n (d ∷ m ∷ o ∷ rest) (codes "db") h (sym (append_assoc a b (s ∷ zs)) ∙ e) (ap variable_in db))
    by ts (some_parts (member {n = n'} {d = d'} {m = m'} {w} {name = word} {zs = suffix} vs f g k l none)) e =
        let is_n : n' ≡ n = cc in
        let is_d : d' ≡ d = cc in
        let is_m : m' ≡ m = cc in
        let all : (suffix ++ vs) ++ s ∷ zs ≡ o ∷ rest = cc in
        let is_w : some w ≡ some (codes "db") = sym f ∙ ap (λ (t : Tok). variable_in t.token.node) is_n ∙ ap variable_in db in
        let is_word : some word ≡ some (codes "queryLong") = sym k ∙ ap (λ (t : Tok). name_in t.token.node) is_m ∙ ap name_in long in
        query_member w word n' d' m' n d m o s zs vs rest l none is_w is_word is_n is_d is_m is end all
    by ts (turned {t} f) e =
        let same : t ≡ n = cc in
        absurd (let q : none_of (List ℕ) ≡ Some (codes "db") = ap variable_in (sym f) ∙ ap (λ (u : Tok). variable_in u.token.node) same ∙ ap variable_in db in cc)
