-- Expressions are read exactly.
use Rattle.std.proofs.Common.{◌≡◌, ℕ, pos, negsuc, neg_ℤ, ◌-◌, ◌^◌, suc, Bool, true, false, ◌||◌, nat_le, nat_eq, List, [], ◌∷◌, ◌++◌, Option, Some, None, codes, is_some, refl, sym, ap, subst, ◌∙◌, arith, inl, inr, ◌⊎◌}
use Rattle.std.specs.Str.{bytes_eq}
use Rattle.std.proofs.lemmas.Bool.Decides.{nat_tests}
use Rattle.qbs_base.specs.declared.scalar.Scalar.{Scalar}
use Rattle.qbs_base.specs.declared.scalar.Scalar.TheVariants as scalars
use Rattle.java_lex.specs.declared.token.TokenNode.{TokenNode}
use Rattle.java_lex.specs.declared.token.TokenNode.TheVariants as tokens
use Rattle.readers.specs.Reading.{is_over}
use Rattle.readers.proofs.Tools.{chosen}
use Rattle.java_ast.specs.declared.tree.Op.{Op}
use Rattle.java_ast.specs.Tree.{Lit}
use Rattle.java_grammar.specs.Marks.{Tok}
use Rattle.java_grammar.specs.Rules.{One, Sign, Seq, Or}
use Rattle.java_grammar.specs.Words.{by_word, word_if, natural_in, literal_in, is_number_type, operator_of}
use Rattle.java_grammar.specs.Expressions.{limit, Limit, Negative, Literal, of_rank, operator_in}
use Rattle.java_grammar.specs.Reading.{first_is, is_sign}
use Rattle.java_grammar.specs.ReadingExpressions.{negative_at, limit_at, is_literal, scalar_at, literal_at, is_operator}
use Rattle.java_grammar.proofs.Sound.{Passes}
use Rattle.java_grammar.proofs.Again.{Any, Heads, one_heads, then_heads, or_heads}
use Rattle.java_grammar.proofs.SingleLaws.{token_of, word_if_is, same_bytes, this_heads}
use Rattle.java_grammar.proofs.Laws.{Reads, one, sign, seq, by_value, of, put, either}

abbrev some : {A : Type 0} → A → Option A
some x = Some x

-- ---- what may follow an expression

abbrev pub closes : TokenNode → Bool
closes n = is_sign (codes ")") n || (is_sign (codes ";") n || is_sign (codes ",") n)

abbrev pub loose : ℕ → Option (Op × ℕ) → Bool
loose rank None = false
loose rank (Some o) = nat_le rank o.1

abbrev pub is_loose : ℕ → TokenNode → Bool
is_loose rank (tokens.Sign s) = loose rank (operator_of s)
is_loose rank _ = false

-- What closes, or an operator that is as loose as this or looser
abbrev pub ends : ℕ → TokenNode → Bool
ends rank n = closes n || is_loose rank n

abbrev pub Follow : ℕ → List Tok → Type 0
Follow rank rest = is_over (λ (t : Tok). ends rank t.token.node) rest ≡ true

or_true : (a b : Bool) → (a || b) ≡ true → (a ≡ true) ⊎ (b ≡ true)
or_true true b e = inl refl
or_true false b e = inr e

closes_is : (n : TokenNode) → closes n ≡ true → (n ≡ tokens.Sign (codes ")")) ⊎ ((n ≡ tokens.Sign (codes ";")) ⊎ (n ≡ tokens.Sign (codes ",")))
closes_is (tokens.Sign s) e =
    elim (or_true (bytes_eq s (codes ")")) (bytes_eq s (codes ";") || bytes_eq s (codes ",")) e) [
      | inl h ↦ inl (ap tokens.Sign (same_bytes s (codes ")") h))
      | inr h ↦ elim (or_true (bytes_eq s (codes ";")) (bytes_eq s (codes ",")) h) [
        | inl k ↦ inr (inl (ap tokens.Sign (same_bytes s (codes ";") k)))
        | inr k ↦ inr (inr (ap tokens.Sign (same_bytes s (codes ",") k)))
      ]
    ]
closes_is (tokens.Word w) e = absurd cc
closes_is (tokens.Text t) e = absurd cc
closes_is (tokens.Integer v l) e = absurd cc

-- what holds of the three closing signs holds of all that closes
at_closing : (P : TokenNode → Type 0) (n : TokenNode) → P (tokens.Sign (codes ")")) → P (tokens.Sign (codes ";")) → P (tokens.Sign (codes ",")) → closes n ≡ true → P n
at_closing P n a b c e = elim (closes_is n e) [ inl h ↦ subst P (sym h) a | inr h ↦ elim h [ inl k ↦ subst P (sym k) b | inr k ↦ subst P (sym k) c ] ]

-- ---- by the first token

on_first : (rank : ℕ) (q : TokenNode → Bool) → ((n : TokenNode) → ends rank n ≡ true → q n ≡ false) → (rest : List Tok) → Follow rank rest → first_is q rest ≡ false
on_first rank q h [] e = refl
on_first rank q h (t ∷ rest) e = h t.token.node e

-- what ends it stands at the front
pub first_follows : (rank : ℕ) (rest : List Tok) → first_is (ends rank) rest ≡ true → Follow rank rest
first_follows rank [] e = refl
first_follows rank (t ∷ rest) e = e

loosely : (rank : ℕ) (n : TokenNode) → ends rank n ≡ true → (closes n ≡ true) ⊎ (is_loose rank n ≡ true)
loosely rank n e = or_true (closes n) (is_loose rank n) e

-- no sign that is none of these ends an expression
not_sign : (rank : ℕ) (text : List ℕ) (n : TokenNode) → ends rank (tokens.Sign text) ≡ false → ends rank n ≡ true → is_sign text n ≡ false
not_sign rank text (tokens.Sign s) none e = by (bytes_eq s text) refl
  where
    by : (b : Bool) → bytes_eq s text ≡ b → b ≡ false
    by true h = let same : ends rank (tokens.Sign s) ≡ ends rank (tokens.Sign text) = ap (λ (u : List ℕ). ends rank (tokens.Sign u)) (same_bytes s text h) in let q : true ≡ false = sym e ∙ same ∙ none in absurd cc
    by false h = refl
not_sign rank text (tokens.Word w) none e = refl
not_sign rank text (tokens.Text t) none e = refl
not_sign rank text (tokens.Integer v l) none e = refl

pub no_dot : (rank : ℕ) (rest : List Tok) → Follow rank rest → first_is (is_sign (codes ".")) rest ≡ false
no_dot rank rest f = on_first rank (is_sign (codes ".")) (λ n e. not_sign rank (codes ".") n refl e) rest f

pub no_open : (rank : ℕ) (rest : List Tok) → Follow rank rest → first_is (is_sign (codes "(")) rest ≡ false
no_open rank rest f = on_first rank (is_sign (codes "(")) (λ n e. not_sign rank (codes "(") n refl e) rest f

-- a looser rank asks for more
looser : (rank : ℕ) (n : TokenNode) → ends (suc rank) n ≡ true → ends rank n ≡ true
looser rank n e = by (closes n) refl e
  where
    less : (o : Option (Op × ℕ)) → loose (suc rank) o ≡ true → loose rank o ≡ true
    less None h = absurd cc
    less (Some o) h = grind (arith, nat_tests, h)

    rest : (n : TokenNode) → is_loose (suc rank) n ≡ true → is_loose rank n ≡ true
    rest (tokens.Sign s) h = less (operator_of s) h
    rest (tokens.Word w) h = absurd cc
    rest (tokens.Text t) h = absurd cc
    rest (tokens.Integer v l) h = absurd cc

    by : (b : Bool) → closes n ≡ b → (b || is_loose (suc rank) n) ≡ true → (b || is_loose rank n) ≡ true
    by true h k = refl
    by false h k = rest n k

pub looser_follow : (rank : ℕ) (rest : List Tok) → Follow (suc rank) rest → Follow rank rest
looser_follow rank [] f = refl
looser_follow rank (t ∷ rest) f = looser rank t.token.node f

-- an operator of this rank is none that is looser
tighter : (rank : ℕ) (n : TokenNode) → ends (suc rank) n ≡ true → is_operator rank n ≡ false
tighter rank n e = elim (loosely (suc rank) n e) [
  | inl h ↦ at_closing (λ m. is_operator rank m ≡ false) n refl refl refl h
  | inr h ↦ by n h
]
  where
    differs : (o : Option (Op × ℕ)) → loose (suc rank) o ≡ true → is_some (of_rank rank o) ≡ false
    differs None h = absurd cc
    differs (Some o) h = let off : nat_eq o.1 rank ≡ false = grind (arith, nat_tests, h) in rw off refl

    by : (n : TokenNode) → is_loose (suc rank) n ≡ true → is_operator rank n ≡ false
    by (tokens.Sign s) h = differs (operator_of s) h
    by (tokens.Word w) h = absurd cc
    by (tokens.Text t) h = absurd cc
    by (tokens.Integer v l) h = absurd cc

pub no_operator : (rank : ℕ) (rest : List Tok) → Follow (suc rank) rest → first_is (is_operator rank) rest ≡ false
no_operator rank rest f = on_first (suc rank) (is_operator rank) (tighter rank) rest f

-- an operator of a rank ends what is tighter
pub operator_ends : (rank : ℕ) (n : TokenNode) (o : Op) → operator_in rank n ≡ Some o → ends rank n ≡ true
operator_ends rank n o e = by n e
  where
    both : (a : Bool) → (a || true) ≡ true
    both true = refl
    both false = refl

    loose_there : (found : Option (Op × ℕ)) → of_rank rank found ≡ some o → loose rank found ≡ true
    loose_there None h = absurd cc
    loose_there (Some x) h = elim (chosen (nat_eq x.1 rank) (some x.0) None (some o) h) [
      | inl k ↦ grind (arith, nat_tests, k.0)
      | inr k ↦ absurd cc
    ]

    by : (n : TokenNode) → operator_in rank n ≡ some o → ends rank n ≡ true
    by (tokens.Sign s) h = rw (loose_there (operator_of s) h) (both (closes (tokens.Sign s)))
    by (tokens.Word w) h = absurd cc
    by (tokens.Text t) h = absurd cc
    by (tokens.Integer v l) h = absurd cc

-- a closing sign ends every expression
pub closing_follows : (rank : ℕ) (text : List ℕ) → closes (tokens.Sign text) ≡ true → (us : List Tok) (x : Unit {0}) (rest : List Tok) → Sign text us x → Follow rank (us ++ rest)
closing_follows rank text c us x rest h = rw (h.1, h.2) (rw c refl)

-- ---- literals

some_natural : Passes natural_in
some_natural = record { token = token_of (tokens.Integer (pos 0) false); value = pos 0; is = refl }

some_number_type : Passes (word_if is_number_type)
some_number_type = record { token = token_of (tokens.Word (codes "Long")); value = codes "Long"; is = refl }

some_literal : Passes literal_in
some_literal = record { token = token_of (tokens.Integer (pos 0) false); value = scalars.Long (pos 0); is = refl }

some_limit : (type : List ℕ) → Passes (by_word (limit type))
some_limit type = by (bytes_eq type (codes "Long")) refl
  where
    by : (b : Bool) → bytes_eq type (codes "Long") ≡ b → Passes (by_word (limit type))
    by true e = record { token = token_of (tokens.Word (codes "MIN_VALUE")); value = negsuc (2 ^ 63 - 1); is = rw e refl }
    by false e = record { token = token_of (tokens.Word (codes "MIN_VALUE")); value = negsuc (2 ^ 31 - 1); is = rw e refl }

negative_reads : Reads Negative Any negative_at
unfolding negative_at
negative_reads = of (seq (sign (codes "-")) (one natural_in some_natural)) (λ x. scalars.Long (neg_ℤ x.1))

limit_reads : Reads Limit Any limit_at
unfolding limit_at
limit_reads = of (by_value (one (word_if is_number_type) some_number_type) (λ type. seq (sign (codes ".")) (one (by_word (limit type)) (some_limit type)))) (λ x. scalars.Long x.1.1)

number_type_is : (w : List ℕ) → is_number_type w ≡ true → (w ≡ codes "Long") ⊎ (w ≡ codes "Integer")
number_type_is w e = elim (or_true (bytes_eq w (codes "Long")) (bytes_eq w (codes "Integer") || false) e) [
  | inl h ↦ inl (same_bytes w (codes "Long") h)
  | inr h ↦ elim (or_true (bytes_eq w (codes "Integer")) false h) [
    | inl k ↦ inr (same_bytes w (codes "Integer") k)
    | inr k ↦ absurd cc
  ]
]

-- what holds of the names of numbers
pub at_number_type : (P : TokenNode → Type 0) (n : TokenNode) (w : List ℕ) → P (tokens.Word (codes "Long")) → P (tokens.Word (codes "Integer")) → word_if is_number_type n ≡ Some w → P n
at_number_type P n w a b e =
    let h = word_if_is is_number_type n w e in
    subst P (sym h.0) (elim (number_type_is w h.1) [ inl k ↦ subst (λ (v : List ℕ). P (tokens.Word v)) (sym k) a | inr k ↦ subst (λ (v : List ℕ). P (tokens.Word v)) (sym k) b ])

pub limit_heads : (p : TokenNode → Bool) (b : Bool) → p (tokens.Word (codes "Long")) ≡ b → p (tokens.Word (codes "Integer")) ≡ b → Heads p b Limit Any
limit_heads p b x y us z rest h follows =
    then_heads (One (word_if is_number_type)) (λ type. Seq (Sign (codes ".")) (One (by_word (limit type)))) p b Any (one_heads (word_if is_number_type) p b Any (λ n w e. at_number_type (λ m. p m ≡ b) n w x y e)) us h.0 rest h.1 tt

literal_no_sign : (text : List ℕ) (n : TokenNode) (x : Scalar) → literal_in n ≡ Some x → is_sign text n ≡ false
literal_no_sign text (tokens.Sign s) x e = absurd cc
literal_no_sign text (tokens.Word w) x e = refl
literal_no_sign text (tokens.Text t) x e = refl
literal_no_sign text (tokens.Integer v l) x e = refl

scalar_reads : Reads (Or Negative (Or (One literal_in) Limit)) Any scalar_at
unfolding scalar_at
scalar_reads =
    either (is_sign (codes "-")) negative_reads
    (either is_literal (one literal_in some_literal) limit_reads (one_heads literal_in is_literal true Any (λ n x e. ap is_some e)) (limit_heads is_literal false refl refl))
    (λ us x rest h follows. then_heads (Sign (codes "-")) (λ y. One natural_in) (is_sign (codes "-")) true Any (this_heads (tokens.Sign (codes "-")) (is_sign (codes "-")) true Any refl) us h.0 rest h.1 tt)
    (or_heads (One literal_in) Limit (is_sign (codes "-")) false Any (one_heads literal_in (is_sign (codes "-")) false Any (literal_no_sign (codes "-"))) (limit_heads (is_sign (codes "-")) false refl refl))

pub literal_reads : Reads Literal Any literal_at
unfolding literal_at
literal_reads = put scalar_reads Lit
