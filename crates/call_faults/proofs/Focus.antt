-- Behind each `=` of a program stands a value, and the program stays one with any other value there.
use Rattle.std.proofs.Common.{◌≡◌, ℕ, Bool, true, false, not, List, [], ◌∷◌, ◌++◌, Option, Some, None, refl, sym, ap, subst, ◌∙◌, append_assoc, codes, inl, inr}
use Rattle.std.specs.Prelude.{pred}
use Rattle.std.specs.Str.{bytes_eq}
use Rattle.qbs_base.specs.declared.span.Span.{Span}
use Rattle.java_lex.specs.declared.token.TokenNode.{TokenNode}
use Rattle.java_lex.specs.declared.token.TokenNode.TheVariants as tokens
use Rattle.java_limits.specs.Limits.{deepest}
use Rattle.java_ast.specs.declared.tree.Access.TheVariants as accesses
use Rattle.java_ast.specs.Tree.{Expression, Statement, Statements, Declare, Return, Break, PlainProgram}
use Rattle.java_grammar.specs.Marks.{Tok, Allows, extent}
use Rattle.java_grammar.specs.Rules.{Rule, Empty, One, Word, Sign, Opening, Seq, Then, Or, Made, Placed, Many}
use Rattle.java_grammar.specs.Words.{name_in, is_number_type}
use Rattle.java_grammar.specs.Types.{KeyColumn, Key, Spelling}
use Rattle.java_grammar.specs.Reading.{is_sign}
use Rattle.java_grammar.specs.Expressions.{ranks, HasRank, HasExpression}
use Rattle.java_grammar.specs.Statements.{Parenthesised, Condition, Value, Where, Further, Keys, MemberCall, NamedRest, Plain, Declaration, IfHead, WhileHead, ForHead, Opens, HasStatement, plain, if_alone, if_else, for_each, while, HasBody, block, single, HasBlock, braces, HasStatements, none, declared, stated}
use Rattle.java_grammar.specs.Grammar.{Reached, Whether, Result, Parameter, Parameters, Method, HasDotted, ended, starred, dotted, Dotted, Class, ProgramIn, HasProgram}
use Rattle.call_faults.proofs.Inner.{AllInner, none_of, rank_neat}
use Rattle.call_faults.proofs.Heads.{IsEnd}

-- ---- where a token of joined lists stands

pub data Cut (fs bs us : List Tok) (e : Tok) (vs : List Tok) : Type 0 where
  before : (m : List Tok) → fs ≡ us ++ e ∷ m → vs ≡ m ++ bs → Cut fs bs us e vs
  later : (m : List Tok) → us ≡ fs ++ m → bs ≡ m ++ e ∷ vs → Cut fs bs us e vs

cut_more : (a u : Tok) (fs bs us : List Tok) (e : Tok) (vs : List Tok) → a ≡ u → Cut fs bs us e vs → Cut (a ∷ fs) bs (u ∷ us) e vs
cut_more a u fs bs us e vs is (before m h k) = before m (cc) k
cut_more a u fs bs us e vs is (later m h k) = later m (cc) k

pub cut : (fs bs us : List Tok) (e : Tok) (vs : List Tok) → fs ++ bs ≡ us ++ e ∷ vs → Cut fs bs us e vs
cut [] bs us e vs h = later us refl h
cut (a ∷ fs) bs [] e vs h = let is : a ≡ e = cc in let others : fs ++ bs ≡ vs = cc in before fs (ap (λ (t : Tok). t ∷ fs) is) (sym others)
cut (a ∷ fs) bs (u ∷ us) e vs h = let is : a ≡ u = cc in let others : fs ++ bs ≡ us ++ e ∷ vs = cc in cut_more a u fs bs us e vs is (cut fs bs us e vs others)

-- ---- tokens without `=`

abbrev pub IsEquals : Tok → Type 0
IsEquals t = is_sign (codes "=") t.token.node ≡ true

abbrev NoEquals : List Tok → Type 0
NoEquals [] = Unit {0}
NoEquals (t ∷ ts) = (is_sign (codes "=") t.token.node ≡ false) × NoEquals ts

none_append : (us vs : List Tok) → NoEquals us → NoEquals vs → NoEquals (us ++ vs)
none_append [] vs h k = k
none_append (t ∷ us) vs h k = (h.0, none_append us vs h.1 k)

none_in : (us vs : List Tok) (e : Tok) → NoEquals (us ++ e ∷ vs) → IsEquals e → ⊥
none_in [] vs e h is = let q : true ≡ false = sym is ∙ h.0 in cc
none_in (t ∷ us) vs e h is = none_in us vs e h.1 is

none_at : (ts us vs : List Tok) (e : Tok) → NoEquals ts → ts ≡ us ++ e ∷ vs → IsEquals e → ⊥
none_at ts us vs e h k is = none_in us vs e (subst NoEquals k h) is

inner_none : (us : List Tok) → AllInner us → NoEquals us
inner_none [] h = tt
inner_none (t ∷ us) h = (h.0.0, inner_none us h.1)

record Without {A : Type 0} (G : Rule A) : Type 0 where
  none : (ts : List Tok) (x : A) → G ts x → NoEquals ts

lone_none : (t : Tok) (us : List Tok) → us ≡ t ∷ [] → is_sign (codes "=") t.token.node ≡ false → NoEquals us
lone_none t us e h = subst NoEquals (sym e) (h, tt)

none_seq : {A B : Type 0} {P : Rule A} {Q : Rule B} → Without P → Without Q → Without (Seq P Q)
none_seq p q = record { none = λ ts x h. subst NoEquals (sym h.2) (none_append h.0 h.1 (p.none h.0 x.0 h.3) (q.none h.1 x.1 h.4)) }

none_then : {A B : Type 0} {P : Rule A} {Q : A → Rule B} → Without P → ((x : A) → Without (Q x)) → Without (Then P Q)
none_then p q = record { none = λ ts x h. subst NoEquals (sym h.2) (none_append h.0 h.1 (p.none h.0 x.0 h.3) ((q x.0).none h.1 x.1 h.4)) }

none_or : {A : Type 0} {P Q : Rule A} → Without P → Without Q → Without (Or P Q)
none_or {P} {Q} p q = record { none = by }
  where
    by : (ts : List Tok) (x : _) → Or P Q ts x → NoEquals ts
    by ts x (inl h) = p.none ts x h
    by ts x (inr h) = q.none ts x h

none_made : {A B : Type 0} {P : Rule A} (f : A → B) → Without P → Without (Made f P)
none_made f p = record { none = λ ts x h. p.none ts h.0 h.1 }

none_placed : {A B : Type 0} {P : Rule A} (f : Span → A → B) → Without P → Without (Placed f P)
none_placed f p = record { none = λ ts x h. p.none ts h.0 h.1 }

none_many : {A : Type 0} {P : Rule A} → Without P → Without (Many P)
none_many {A} {P} p = record { none = by }
  where
    by : (ts : List Tok) (xs : List A) → Many P ts xs → NoEquals ts
    by ts [] h = subst NoEquals (sym h) tt
    by ts (x ∷ xs) h = subst NoEquals (sym h.2) (none_append h.0 h.1 (p.none h.0 x h.3) (by h.1 xs h.4))

none_empty : {A : Type 0} (a : A) → Without (Empty a)
none_empty a = record { none = λ ts x h. subst NoEquals (sym h.0) tt }

none_one : {A : Type 0} (f : TokenNode → Option A) → f (tokens.Sign (codes "=")) ≡ None → ((s : List ℕ) → f (tokens.Sign s) ≡ None) → Without (One f)
none_one {A} f unlike all = record { none = λ ts x h. lone_none h.0 ts h.1 (by h.0.token.node x h.2) }
  where
    by : (n : TokenNode) (x : A) → f n ≡ Some x → is_sign (codes "=") n ≡ false
    by (tokens.Word w) x e = refl
    by (tokens.Integer v l) x e = refl
    by (tokens.Text t) x e = refl
    by (tokens.Sign s) x e = absurd (let q : none_of A ≡ Some x = sym (all s) ∙ e in cc)

none_word : (text : List ℕ) → Without (Word text)
none_word text = record { none = λ ts x h. lone_none h.0 ts h.1 (ap (is_sign (codes "=")) h.2) }

none_sign : (text : List ℕ) → is_sign (codes "=") (tokens.Sign text) ≡ false → Without (Sign text)
none_sign text unlike = record { none = λ ts x h. lone_none h.0 ts h.1 (ap (is_sign (codes "=")) h.2 ∙ unlike) }

none_opening : (room : ℕ) (text : List ℕ) → is_sign (codes "=") (tokens.Sign text) ≡ false → Without (Opening room text)
none_opening room text unlike = record { none = λ ts x h. lone_none h.0 ts h.1 (ap (is_sign (codes "=")) h.2 ∙ unlike) }

none_where : {A : Type 0} {P : Rule A} (b : Bool) → Without P → Without (Where b P)
none_where b p = record { none = λ ts x h. p.none ts x h.1 }

none_expression : (room : ℕ) → Without (HasExpression room)
none_expression room = record { none = λ ts x h. inner_none ts (rank_neat h).inner }

none_parenthesised : {A : Type 0} {P : Rule A} (room : ℕ) → Without P → Without (Parenthesised room P)
none_parenthesised room p = none_made _ (none_seq (none_opening room (codes "(") refl) (none_seq p (none_sign (codes ")") refl)))

none_condition : (room : ℕ) → Without (Condition room)
none_condition room = none_parenthesised room (none_expression (pred room))

none_value : (room : ℕ) → Without (Value room)
none_value room = none_made _ (none_seq (none_expression room) (none_sign (codes ";") refl))

none_spelling : Without Spelling
none_spelling = none_or (none_one _ refl (λ s. refl)) (none_made _ (none_seq (none_one _ refl (λ s. refl)) (none_made _ (none_seq (none_sign (codes "<") refl) (none_seq (none_one _ refl (λ s. refl)) (none_sign (codes ">") refl))))))

none_name : Without (One name_in)
none_name = none_one name_in refl (λ s. refl)

none_column : (x : List ℕ) → Without (KeyColumn x)
none_column x = none_made _ (none_seq (none_sign (codes "->") refl) (none_seq (none_word x) (none_seq (none_sign (codes ".") refl) none_name)))

none_key : (room : ℕ) → Without (Key room)
none_key room =
    none_or (none_made _ (none_seq (none_opening room (codes "(") refl) (none_seq (none_one _ refl (λ s. refl)) (none_then none_name (λ x. none_made _ (none_seq (none_sign (codes ")") refl) (none_column x)))))))
    (none_made _ (none_then none_name none_column))

none_further : (room : ℕ) → Without (Further room)
none_further room = none_made _ (none_seq (none_sign (codes ".") refl) (none_or (none_made _ (none_seq (none_word (codes "thenComparing")) (none_parenthesised room (none_key (pred room)))))
    (none_made _ (none_seq (none_word (codes "reversed")) (none_seq (none_opening room (codes "(") refl) (none_sign (codes ")") refl))))))

none_keys : (room : ℕ) → Without (Keys room)
none_keys room = none_made _ (none_seq (none_word (codes "Comparator")) (none_seq (none_sign (codes ".") refl) (none_seq (none_word (codes "comparing")) (none_seq (none_parenthesised room (none_key (pred room))) (none_many (none_further room))))))

none_member : (room : ℕ) (w : List ℕ) → Without (MemberCall room w)
none_member room w =
    none_or (none_made _ (none_seq (none_word (codes "add")) (none_seq (none_condition room) (none_sign (codes ";") refl))))
    (none_or (none_made _ (none_seq (none_word (codes "sort")) (none_seq (none_parenthesised room (none_keys (pred room))) (none_sign (codes ";") refl))))
    (none_where (bytes_eq w (codes "System")) (none_made _ (none_seq (none_word (codes "out")) (none_seq (none_sign (codes ".") refl) (none_seq (none_word (codes "println")) (none_seq (none_condition room) (none_sign (codes ";") refl))))))))

-- ---- a value behind `=`

pub record Focus (H : List Tok → Type 0) (us : List Tok) (e : Tok) (vs : List Tok) : Type 0 where
  pub room : ℕ
  pub value : List Tok
  pub end : Tok
  pub rest : List Tok
  pub expression : Expression
  pub parts : vs ≡ value ++ end ∷ rest
  pub has : HasRank room ranks value expression
  pub ends : IsEnd end
  pub again : (ws : List Tok) (x : Expression) → HasRank room ranks ws x → H (us ++ e ∷ (ws ++ end ∷ rest))

-- the tokens have something of the rule
abbrev pub Some_of : {A : Type 0} → Rule A → List Tok → Type 0
Some_of {A} G ts = (x : A) × G ts x

record Focuses {A : Type 0} (G : Rule A) : Type 0 where
  at : (ts : List Tok) (x : A) → G ts x → (us : List Tok) (e : Tok) (vs : List Tok) → ts ≡ us ++ e ∷ vs → IsEquals e → Focus (Some_of G) us e vs

mapped : {H K : List Tok → Type 0} {us : List Tok} {e : Tok} {vs : List Tok} → ((more : List Tok) → H (us ++ e ∷ more) → K (us ++ e ∷ more)) → Focus H us e vs → Focus K us e vs
mapped f h = record { room = h.room; value = h.value; end = h.end; rest = h.rest; expression = h.expression; parts = h.parts; has = h.has; ends = h.ends; again = λ ws x k. f (ws ++ h.end ∷ h.rest) (h.again ws x k) }

-- in the first one of joined lists
in_front : {H K : List Tok → Type 0} {us : List Tok} {e : Tok} {m vs : List Tok} (bs : List Tok) → vs ≡ m ++ bs → ((ts : List Tok) → H ts → K (ts ++ bs)) → Focus H us e m → Focus K us e vs
in_front {H} {K} {us} {e} {m} {vs} bs is f h = record {
  room = h.room;
  value = h.value;
  end = h.end;
  rest = h.rest ++ bs;
  expression = h.expression;
  parts = is ∙ ap (λ (ts : List Tok). ts ++ bs) h.parts ∙ append_assoc h.value (h.end ∷ h.rest) bs;
  has = h.has;
  ends = h.ends;
  again = λ ws x k. subst K (append_assoc us (e ∷ (ws ++ h.end ∷ h.rest)) bs ∙ ap (λ (ts : List Tok). us ++ e ∷ ts) (append_assoc ws (h.end ∷ h.rest) bs)) (f (us ++ e ∷ (ws ++ h.end ∷ h.rest)) (h.again ws x k));
}

-- in the other one
behind : {H K : List Tok → Type 0} {us : List Tok} {e : Tok} {m vs : List Tok} (fs : List Tok) → us ≡ fs ++ m → ((ts : List Tok) → H ts → K (fs ++ ts)) → Focus H m e vs → Focus K us e vs
behind {H} {K} {us} {e} {m} {vs} fs is f h = record {
  room = h.room;
  value = h.value;
  end = h.end;
  rest = h.rest;
  expression = h.expression;
  parts = h.parts;
  has = h.has;
  ends = h.ends;
  again = λ ws x k. subst K (sym (append_assoc fs m (e ∷ (ws ++ h.end ∷ h.rest))) ∙ ap (λ (ts : List Tok). ts ++ e ∷ (ws ++ h.end ∷ h.rest)) (sym is)) (f (m ++ e ∷ (ws ++ h.end ∷ h.rest)) (h.again ws x k));
}

-- behind tokens without `=`
behind_none : {H K : List Tok → Type 0} (fs bs us : List Tok) (e : Tok) (vs : List Tok) → NoEquals fs → IsEquals e → fs ++ bs ≡ us ++ e ∷ vs → ((ts : List Tok) → H ts → K (fs ++ ts)) → ((m : List Tok) → bs ≡ m ++ e ∷ vs → Focus H m e vs)
    → Focus K us e vs
behind_none {H} {K} fs bs us e vs clear eq is f g = by (cut fs bs us e vs is)
  where
    by : Cut fs bs us e vs → Focus K us e vs
    by (before m k l) = absurd (none_at fs us m e clear k eq)
    by (later m k l) = behind fs k f (g m l)

-- in the one or in the other
in_either : {H J K : List Tok → Type 0} (fs bs us : List Tok) (e : Tok) (vs : List Tok) → fs ++ bs ≡ us ++ e ∷ vs → ((ts : List Tok) → H ts → K (ts ++ bs)) → ((m : List Tok) → fs ≡ us ++ e ∷ m → Focus H us e m)
    → ((ts : List Tok) → J ts → K (fs ++ ts)) → ((m : List Tok) → bs ≡ m ++ e ∷ vs → Focus J m e vs) → Focus K us e vs
in_either {H} {J} {K} fs bs us e vs is f g i j = by (cut fs bs us e vs is)
  where
    by : Cut fs bs us e vs → Focus K us e vs
    by (before m k l) = in_front bs l f (g m k)
    by (later m k l) = behind fs k i (j m l)

-- ---- rules

no_focus : {A : Type 0} {G : Rule A} → Without G → Focuses G
no_focus w = record { at = λ ts x h us e vs is eq. absurd (none_at ts us vs e (w.none ts x h) is eq) }

seq : {A B : Type 0} {P : Rule A} {Q : Rule B} → Focuses P → Focuses Q → Focuses (Seq P Q)
seq {A} {B} {P} {Q} p q = record { at = λ ts x h us e vs is eq. by x h us e vs eq (cut h.0 h.1 us e vs (sym h.2 ∙ is)) }
  where
    by : {ts : List Tok} (x : A × B) (h : Seq P Q ts x) (us : List Tok) (e : Tok) (vs : List Tok) → IsEquals e → Cut h.0 h.1 us e vs → Focus (Some_of (Seq P Q)) us e vs
    by x h us e vs eq (before m k l) = in_front h.1 l (λ ts y. ((y.0, x.1), (ts, h.1, refl, y.1, h.4))) (p.at h.0 x.0 h.3 us e m k eq)
    by x h us e vs eq (later m k l) = behind h.0 k (λ ts y. ((x.0, y.0), (h.0, ts, refl, h.3, y.1))) (q.at h.1 x.1 h.4 m e vs l eq)

named_then : {A B : Type 0} {P : Rule A} {Q : A → Rule B} → Without P → ((x : A) → Focuses (Q x)) → Focuses (Then P Q)
named_then {A} {B} {P} {Q} p q = record { at = λ ts x h us e vs is eq. by x h us e vs eq (cut h.0 h.1 us e vs (sym h.2 ∙ is)) }
  where
    by : {ts : List Tok} (x : A × B) (h : Then P Q ts x) (us : List Tok) (e : Tok) (vs : List Tok) → IsEquals e → Cut h.0 h.1 us e vs → Focus (Some_of (Then P Q)) us e vs
    by x h us e vs eq (before m k l) = absurd (none_at h.0 us m e (p.none h.0 x.0 h.3) k eq)
    by x h us e vs eq (later m k l) = behind h.0 k (λ ts y. ((x.0, y.0), (h.0, ts, refl, h.3, y.1))) ((q x.0).at h.1 x.1 h.4 m e vs l eq)

or : {A : Type 0} {P Q : Rule A} → Focuses P → Focuses Q → Focuses (Or P Q)
or {A} {P} {Q} p q = record { at = by }
  where
    by : (ts : List Tok) (x : A) → Or P Q ts x → (us : List Tok) (e : Tok) (vs : List Tok) → ts ≡ us ++ e ∷ vs → IsEquals e → Focus (Some_of (Or P Q)) us e vs
    by ts x (inl h) us e vs is eq = mapped (λ more y. (y.0, inl y.1)) (p.at ts x h us e vs is eq)
    by ts x (inr h) us e vs is eq = mapped (λ more y. (y.0, inr y.1)) (q.at ts x h us e vs is eq)

made : {A B : Type 0} {P : Rule A} (f : A → B) → Focuses P → Focuses (Made f P)
made f p = record { at = λ ts x h us e vs is eq. mapped (λ more y. (f y.0, (y.0, y.1, refl))) (p.at ts h.0 h.1 us e vs is eq) }

placed : {A B : Type 0} {P : Rule A} (f : Span → A → B) → Focuses P → Focuses (Placed f P)
placed f p = record { at = λ ts x h us e vs is eq. mapped (λ more y. (f (extent (us ++ e ∷ more)) y.0, (y.0, y.1, refl))) (p.at ts h.0 h.1 us e vs is eq) }

many : {A : Type 0} {P : Rule A} → Focuses P → Focuses (Many P)
many {A} {P} p = record { at = λ ts xs h us e vs is eq. all xs ts h us e vs is eq }
  where
    all : (xs : List A) (ts : List Tok) → Many P ts xs → (us : List Tok) (e : Tok) (vs : List Tok) → ts ≡ us ++ e ∷ vs → IsEquals e → Focus (Some_of (Many P)) us e vs
    all [] ts h us e vs is eq = absurd (none_at [] us vs e tt (sym h ∙ is) eq)
    all (x ∷ xs) ts h us e vs is eq =
        in_either {H = Some_of P} {J = Some_of (Many P)} {K = Some_of (Many P)} h.0 h.1 us e vs (sym h.2 ∙ is) (λ ts y. (y.0 ∷ xs, (ts, h.1, refl, y.1, h.4))) (λ m k. p.at h.0 x h.3 us e m k eq)
        (λ ts y. (x ∷ y.0, (h.0, ts, refl, h.3, y.1))) (λ m k. all xs h.1 h.4 m e vs k eq)

-- ---- = expr ;

lone_cut : (t e : Tok) (us m : List Tok) → t ∷ [] ≡ us ++ e ∷ m → (us ≡ []) × (t ≡ e) × (m ≡ [])
lone_cut t e [] m h = (refl, cc, cc)
lone_cut t e (u ∷ []) m h = absurd cc
lone_cut t e (u ∷ v ∷ us) m h = absurd cc

equal_value : (room : ℕ) → Focuses (Seq (Sign (codes "=")) (Value room))
equal_value room = record { at = λ ts x h us e vs is eq. by x h us e vs eq (cut h.0 h.1 us e vs (sym h.2 ∙ is)) }
  where
    by : {ts : List Tok} (x : Unit {0} × Expression) (h : Seq (Sign (codes "=")) (Value room) ts x) (us : List Tok) (e : Tok) (vs : List Tok) → IsEquals e → Cut h.0 h.1 us e vs → Focus (Some_of (Seq (Sign (codes "=")) (Value room))) us e vs
    by x h us e vs eq (later m k l) = absurd (none_at h.1 m vs e ((none_value room).none h.1 x.1 h.4) l eq)
    by x (a, b, q, (t, is, node), (y, (c, d, f, has, (s, one, semi)), same)) us e vs eq (before m k l) =
        let p : (us ≡ []) × (t ≡ e) × (m ≡ []) = lone_cut t e us m (sym is ∙ k) in
        record {
          room = room;
          value = c;
          end = s;
          rest = [];
          expression = y.0;
          parts = l ∙ ap (λ (ts : List Tok). ts ++ b) p.2 ∙ f ∙ ap (λ (ts : List Tok). c ++ ts) one;
          has = has;
          ends = semi;
          again = λ ws z h. subst (λ (ts : List Tok). Some_of (Seq (Sign (codes "=")) (Value room)) (ts ++ e ∷ (ws ++ s ∷ []))) (sym p.0)
              ((tt, z), (e ∷ [], ws ++ s ∷ [], refl, (e, refl, subst (λ (u : Tok). u.token.node ≡ tokens.Sign (codes "=")) p.1 node), ((z, tt), (ws, s ∷ [], refl, h, (s, refl, semi)), refl)));
        }

-- ---- statements

rest_focus : (room : ℕ) (w : List ℕ) → Focuses (NamedRest room w)
rest_focus room w =
    or (made _ (equal_value room)) (no_focus (none_or (none_made _ (none_seq (none_sign (codes ".") refl) (none_member room w)))
    (none_where (not (is_number_type w)) (none_or (none_made _ (none_seq (none_sign (codes "+=") refl) (none_value room))) (none_made _ (none_seq (none_sign (codes "++") refl) (none_sign (codes ";") refl)))))))

plain_focus : (room : ℕ) → Focuses (Plain room)
plain_focus room =
    or (no_focus (none_placed (λ x y. Return x y.1) (none_seq (none_word (codes "return")) (none_or (none_made _ (none_sign (codes ";") refl)) (none_made _ (none_value room))))))
    (or (no_focus (none_placed (λ x y. Break x) (none_seq (none_word (codes "break")) (none_sign (codes ";") refl)))) (placed (λ x y. y.1 x) (named_then none_name (rest_focus room))))

declaration_focus : (room : ℕ) → Focuses (Declaration room)
declaration_focus room = placed (λ x y. Declare x y.0 y.1.0 y.1.1.1) (seq (no_focus none_spelling) (seq (no_focus none_name) (equal_value room)))

none_if : (room : ℕ) → Without (IfHead room)
none_if room = none_made _ (none_seq (none_word (codes "if")) (none_condition room))

none_while : (room : ℕ) → Without (WhileHead room)
none_while room = none_made _ (none_seq (none_word (codes "while")) (none_condition room))

none_for : (room : ℕ) → Without (ForHead room)
none_for room = none_made _ (none_seq (none_word (codes "for")) (none_parenthesised room (none_made _ (none_seq none_spelling (none_seq none_name (none_seq (none_sign (codes ":") refl) (none_expression (pred room))))))))

-- the first token stays
opens_again : (room : ℕ) (us ps : List Tok) (e : Tok) (vs more : List Tok) → Opens room us → us ≡ ps ++ e ∷ vs → Opens room (ps ++ e ∷ more)
opens_again room us [] e vs more (t, ts, is, allows) h = (e, more, refl, (let same : t ≡ e = let q : t ∷ ts ≡ e ∷ vs = sym is ∙ h in cc in subst (Allows room) same allows))
opens_again room us (p ∷ ps) e vs more (t, ts, is, allows) h = (p, ps ++ e ∷ more, refl, (let same : t ≡ p = let q : t ∷ ts ≡ p ∷ (ps ++ e ∷ vs) = sym is ∙ h in cc in subst (Allows room) same allows))

abbrev StatementIs : ℕ → Bool → List Tok → Type 0
StatementIs room open_if ts = (x : Statement) × HasStatement room open_if ts x

abbrev BodyIs : ℕ → Bool → List Tok → Type 0
BodyIs room open_if ts = (x : Statements) × HasBody room open_if ts x

abbrev BlockIs : ℕ → List Tok → Type 0
BlockIs room ts = (x : Statements) × HasBlock room ts x

abbrev StatementsAre : ℕ → List Tok → Type 0
StatementsAre room ts = (x : Statements) × HasStatements room ts x

else_none : (us : List Tok) → Word (codes "else") us tt → NoEquals us
else_none us h = (none_word (codes "else")).none us tt h

mutual
  statement_focus : {room : ℕ} {open_if : Bool} {ts : List Tok} {x : Statement} → HasStatement room open_if ts x → (us : List Tok) (e : Tok) (vs : List Tok) → ts ≡ us ++ e ∷ vs → IsEquals e → Focus (StatementIs room open_if) us e vs
  statement_focus (plain {room} {us = a} {x} h) us e vs is eq = mapped (λ more y. (y.0, plain y.1)) ((plain_focus room).at a x h us e vs is eq)
  statement_focus (if_alone {room} {open_if} {us = a} {vs = b} {cond} h body) us e vs is eq =
      behind_none {H = BodyIs room open_if} {K = StatementIs room true} a b us e vs ((none_if room).none a cond h) eq is (λ ts y. (_, if_alone h y.1)) (λ m k. body_focus body m e vs k eq)
  statement_focus (if_else {room} {open_if} {us = a} {vs = b} {ws = c} {zs = d} {cond} {yes} {other} h body w last) us e vs is eq =
      behind_none {H = λ ts. StatementIs room open_if (a ++ ts)} {K = StatementIs room open_if} a (b ++ (c ++ d)) us e vs ((none_if room).none a cond h) eq is (λ ts y. y)
      (λ m k. in_either {H = BodyIs room false} {J = λ ts. StatementIs room open_if (a ++ (b ++ ts))} {K = λ ts. StatementIs room open_if (a ++ ts)} b (c ++ d) m e vs k
      (λ ts y. (_, if_else h y.1 w last)) (λ n l. body_focus body m e n l eq) (λ ts y. y)
      (λ n l. behind_none {H = BodyIs room open_if} {K = λ ts. StatementIs room open_if (a ++ (b ++ ts))} c d n e vs (else_none c w) eq l (λ ts y. (_, if_else h body w y.1)) (λ o p. body_focus last o e vs p eq)))
  statement_focus (for_each {room} {open_if} {us = a} {vs = b} {walk} h body) us e vs is eq =
      behind_none {H = BodyIs room open_if} {K = StatementIs room open_if} a b us e vs ((none_for room).none a walk h) eq is (λ ts y. (_, for_each h y.1)) (λ m k. body_focus body m e vs k eq)
  statement_focus (while {room} {open_if} {us = a} {vs = b} {cond} h body) us e vs is eq =
      behind_none {H = BodyIs room open_if} {K = StatementIs room open_if} a b us e vs ((none_while room).none a cond h) eq is (λ ts y. (_, while h y.1)) (λ m k. body_focus body m e vs k eq)

  body_focus : {room : ℕ} {open_if : Bool} {ts : List Tok} {x : Statements} → HasBody room open_if ts x → (us : List Tok) (e : Tok) (vs : List Tok) → ts ≡ us ++ e ∷ vs → IsEquals e → Focus (BodyIs room open_if) us e vs
  body_focus (block h) us e vs is eq = mapped (λ more y. (y.0, block y.1)) (block_focus h us e vs is eq)
  body_focus (single {room} {us = a} opens h) us e vs is eq = mapped (λ more y. (_, single (opens_again room a us e vs more opens is) y.1)) (statement_focus h us e vs is eq)

  block_focus : {room : ℕ} {ts : List Tok} {x : Statements} → HasBlock room ts x → (us : List Tok) (e : Tok) (vs : List Tok) → ts ≡ us ++ e ∷ vs → IsEquals e → Focus (BlockIs room) us e vs
  block_focus (braces {room} {us = a} {vs = b} {ws = c} {xs} o h cl) us e vs is eq =
      behind_none {H = λ ts. BlockIs room (a ++ ts)} {K = BlockIs room} a (b ++ c) us e vs ((none_opening room (codes "{") refl).none a tt o) eq is (λ ts y. y)
      (λ m k. in_either {H = StatementsAre (pred room)} {J = λ ts. ⊥} {K = λ ts. BlockIs room (a ++ ts)} b c m e vs k (λ ts y. (_, braces o y.1 cl)) (λ n l. statements_focus h m e n l eq) (λ ts y. absurd y)
      (λ n l. absurd (none_at c n vs e ((none_sign (codes "}") refl).none c tt cl) l eq)))

  statements_focus : {room : ℕ} {ts : List Tok} {x : Statements} → HasStatements room ts x → (us : List Tok) (e : Tok) (vs : List Tok) → ts ≡ us ++ e ∷ vs → IsEquals e → Focus (StatementsAre room) us e vs
  statements_focus none us e vs is eq = absurd (none_at [] us vs e tt is eq)
  statements_focus (declared {room} {us = a} {vs = b} {x} {xs} h rest) us e vs is eq =
      in_either {H = Some_of (Declaration room)} {J = StatementsAre room} {K = StatementsAre room} a b us e vs is (λ ts y. (_, declared y.1 rest)) (λ m k. (declaration_focus room).at a x h us e m k eq)
      (λ ts y. (_, declared h y.1)) (λ m k. statements_focus rest m e vs k eq)
  statements_focus (stated {room} {open_if} {us = a} {vs = b} {x} {xs} h rest) us e vs is eq =
      in_either {H = StatementIs room open_if} {J = StatementsAre room} {K = StatementsAre room} a b us e vs is (λ ts y. (_, stated y.1 rest)) (λ m k. statement_focus h us e m k eq)
      (λ ts y. (_, stated h y.1)) (λ m k. statements_focus rest m e vs k eq)

-- ---- methods and programs

block_rule : (room : ℕ) → Focuses (HasBlock room)
block_rule room = record { at = λ ts x h us e vs is eq. block_focus h us e vs is eq }

none_whether : (text : List ℕ) → Without (Whether text)
none_whether text = none_or (none_made _ (none_word text)) (none_empty false)

none_reached : Without Reached
none_reached = none_or (none_made _ (none_word (codes "public"))) (none_or (none_made _ (none_word (codes "private"))) (none_empty accesses.Plain))

none_result : Without Result
none_result = none_or (none_made _ (none_word (codes "void"))) (none_made _ none_spelling)

none_parameter : Without Parameter
none_parameter = none_made _ (none_seq (none_one _ refl (λ s. refl)) none_name)

none_parameters : Without Parameters
none_parameters = none_or (none_made _ (none_seq none_parameter (none_many (none_made _ (none_seq (none_sign (codes ",") refl) none_parameter))))) (none_empty [])

method_focus : (room : ℕ) → Focuses (Method room)
method_focus room =
    placed (λ at x. record { access = x.0; fixed = x.1.0; result = x.1.1.0; name = x.1.1.1.0; params = x.1.1.1.1.0; body = x.1.1.1.1.1; span = at })
    (seq (no_focus none_reached) (seq (no_focus (none_whether (codes "static"))) (seq (no_focus none_result) (seq (no_focus none_name) (seq (no_focus (none_parenthesised room none_parameters)) (block_rule room))))))

dots_none : {star : Bool} {ts : List Tok} {x : List ℕ} → HasDotted star ts x → NoEquals ts
dots_none ended = tt
dots_none (starred {us} {vs} d s) = none_append us vs ((none_sign (codes ".") refl).none us tt d) ((none_sign (codes "*") refl).none vs tt s)
dots_none (dotted {us} {vs} {ws} {w} d n rest) = none_append us (vs ++ ws) ((none_sign (codes ".") refl).none us tt d) (none_append vs ws (none_name.none vs w n) (dots_none rest))

none_dotted : (word : List ℕ) (star : Bool) → Without (Dotted word star)
none_dotted word star = none_made _ (none_seq (none_word word) (none_seq none_name (none_seq (record { none = λ ts x h. dots_none h }) (none_sign (codes ";") refl))))

class_focus : (room : ℕ) → Focuses (Class room)
class_focus room =
    made _ (seq (no_focus (none_word (codes "class"))) (seq (no_focus none_name) (seq (no_focus (none_opening room (codes "{") refl)) (seq (many (method_focus (pred room))) (no_focus (none_sign (codes "}") refl))))))

program_focus : (room : ℕ) → Focuses (ProgramIn room)
program_focus room =
    made _ (seq (no_focus (none_or (none_made _ (none_dotted (codes "package") false)) (none_empty None))) (seq (no_focus (none_many (none_dotted (codes "import") true))) (seq (no_focus (none_whether (codes "public"))) (class_focus room))))

-- behind a `=` of a program
pub value_behind : (us : List Tok) (e : Tok) (vs : List Tok) (p : PlainProgram) → HasProgram (us ++ e ∷ vs) p → IsEquals e → Focus (Some_of HasProgram) us e vs
value_behind us e vs p h eq = (program_focus deepest).at (us ++ e ∷ vs) p h us e vs refl eq
