-- Statements without bodies are read exactly.
use Rattle.std.proofs.Common.{◌≡◌, ℕ, pred, pos, Bool, true, false, cond, not, List, ◌∷◌, ◌++◌, length, Option, Some, None, codes, refl, ap, ◌∙◌, append_assoc, arith, inl, inr}
use Rattle.std.specs.Str.{bytes_eq}
use Rattle.std.proofs.lemmas.List.{length-append}
use Rattle.qbs_base.specs.declared.span.Span.{Span}
use Rattle.qbs_base.specs.declared.scalar.Scalar.TheVariants as scalars
use Rattle.java_lex.specs.declared.token.TokenNode.{TokenNode}
use Rattle.java_lex.specs.declared.token.TokenNode.TheVariants as tokens
use Rattle.java_ast.specs.declared.tree.Op.TheVariants as ops
use Rattle.java_ast.specs.Tree.{Lit, Var, Binary, Statement, Assign, Add, Sort, Print, Return, Break}
use Rattle.java_grammar.specs.Marks.{Tok}
use Rattle.java_grammar.specs.Rules.{Rule, One, Word, Sign, Opening, Seq, Or, Made, Many}
use Rattle.java_grammar.specs.Words.{name_in, is_name, is_variable, is_number_type}
use Rattle.java_words.specs.Words.{is_among, reserved_words}
use Rattle.java_grammar.specs.Types.{Key}
use Rattle.java_grammar.specs.Expressions.{ranks}
use Rattle.java_grammar.specs.Statements.{Parenthesised, Condition, Value, Where, Assignment, Increase, Increment, Addition, Printing, Further, keys_in, downs_in, Keys, Sorting, MemberCall, NamedRest, Named, Returning, Breaking, Plain}
use Rattle.java_grammar.specs.Reading.{first_is, or_at, is_word, is_sign}
use Rattle.java_grammar.specs.ReadingStatements.{condition_at, value_at, assignment_at, increase_at, increment_at, addition_at, printing_at, key_part_at, next_key_at, reversed_at, further_member_at, further_at, is_no_dot, all_further_at, keys_at, keys_part_at, sorting_at, other_member_at, member_call_at, member_at, counting_at, other_rest_at, named_rest_at, named_at, returned_at, returning_at, breaking_at, plain_at}
use Rattle.java_grammar.proofs.Again.{Any, Heads, one_heads, then_heads, or_heads}
use Rattle.java_grammar.proofs.SingleLaws.{word_if_is, this_heads, no_reserved}
use Rattle.java_grammar.proofs.Many.{IsOver}
use Rattle.java_grammar.proofs.Laws.{Reads, one, word, sign, opening, seq, join, by_value, of, put, either, turned, before, enclosed, many}
use Rattle.java_grammar.proofs.TypeLaws.{some_name, key_reads}
use Rattle.java_grammar.proofs.ExpressionLaws.{closing_follows}
use Rattle.java_grammar.proofs.LevelLaws.{some_rank, some_both}
use Rattle.java_grammar.proofs.NestLaws.{expression_reads}
use Rattle.java_grammar.proofs.HeadLaws.{Begins, expression_first}

-- ---- expressions in parentheses, and up to a semicolon

pub condition_reads : (room : ℕ) → Reads (Condition room) Any (condition_at room)
unfolding condition_at
condition_reads room = of (enclosed room (codes "(") (some_both (some_rank (pred room) ranks) (sign (codes ")")).sound.some) (λ m e. join (expression_reads (pred room)) (sign (codes ")")) (λ vs y rest h any. closing_follows ranks (codes ")") refl vs y rest h))) (λ x. x.1.0)

pub value_reads : (room : ℕ) → Reads (Value room) Any (value_at room)
unfolding value_at
value_reads room = of (join (expression_reads room) (sign (codes ";")) (λ vs y rest h any. closing_follows ranks (codes ";") refl vs y rest h)) (λ x. x.0)

-- ---- behind a name

assignment_reads : (room : ℕ) (w : List ℕ) → Reads (Assignment room w) Any (assignment_at room w)
unfolding assignment_at
assignment_reads room w = of (seq (sign (codes "=")) (value_reads room)) (λ x at. Assign at w x.1)

increase_reads : (room : ℕ) (w : List ℕ) → Reads (Increase room w) Any (increase_at room w)
unfolding increase_at
increase_reads room w = of (seq (sign (codes "+=")) (value_reads room)) (λ x at. Assign at w (Binary at ops.Add (Var at w) x.1))

increment_reads : (w : List ℕ) → Reads (Increment w) Any (increment_at w)
unfolding increment_at
increment_reads w = of (seq (sign (codes "++")) (sign (codes ";"))) (λ x at. Assign at w (Binary at ops.Add (Var at w) (Lit at (scalars.Long (pos 1)))))

addition_reads : (room : ℕ) (w : List ℕ) → Reads (Addition room w) Any (addition_at room w)
unfolding addition_at
addition_reads room w = of (seq (word (codes "add")) (seq (condition_reads room) (sign (codes ";")))) (λ x at. Add at w x.1.0)

printing_reads : (room : ℕ) → Reads (Printing room) Any (printing_at room)
unfolding printing_at
printing_reads room = of (seq (word (codes "out")) (seq (sign (codes ".")) (seq (word (codes "println")) (seq (condition_reads room) (sign (codes ";")))))) (λ x at. Print at x.1.1.1.0)

-- ---- sorts

key_part_reads : (room : ℕ) → Reads (Parenthesised room (Key (pred room))) Any (key_part_at room)
unfolding key_part_at
key_part_reads room = of (enclosed room (codes "(") (some_both (key_reads (pred room)).sound.some (sign (codes ")")).sound.some) (λ m e. seq (key_reads (pred room)) (sign (codes ")")))) (λ x. x.1.0)

abbrev NextKey : ℕ → Rule (Option (List ℕ))
NextKey room = Made (λ x. Some x.1) (Seq (Word (codes "thenComparing")) (Parenthesised room (Key (pred room))))

abbrev Reversed : ℕ → Rule (Option (List ℕ))
Reversed room = Made (λ x. None) (Seq (Word (codes "reversed")) (Seq (Opening room (codes "(")) (Sign (codes ")"))))

next_key_reads : (room : ℕ) → Reads (NextKey room) Any (next_key_at room)
unfolding next_key_at
next_key_reads room = of (seq (word (codes "thenComparing")) (key_part_reads room)) (λ x. Some x.1)

reversed_reads : (room : ℕ) → Reads (Reversed room) Any (reversed_at room)
unfolding reversed_at
reversed_reads room = of (seq (word (codes "reversed")) (seq (opening room (codes "(")) (sign (codes ")")))) (λ x. None)

further_member_reads : (room : ℕ) → Reads (Or (NextKey room) (Reversed room)) Any (further_member_at room)
unfolding further_member_at
further_member_reads room =
    either (is_word (codes "thenComparing")) (next_key_reads room) (reversed_reads room)
    (λ us x rest h follows. then_heads (Word (codes "thenComparing")) (λ y. Parenthesised room (Key (pred room))) (is_word (codes "thenComparing")) true Any (this_heads (tokens.Word (codes "thenComparing")) (is_word (codes "thenComparing")) true Any refl) us h.0 rest h.1 tt)
    (λ us x rest h follows. then_heads (Word (codes "reversed")) (λ y. Seq (Opening room (codes "(")) (Sign (codes ")"))) (is_word (codes "thenComparing")) false Any (this_heads (tokens.Word (codes "reversed")) (is_word (codes "thenComparing")) false Any refl) us h.0 rest h.1 tt)

further_reads : (room : ℕ) → Reads (Further room) Any (further_at room)
unfolding further_at
further_reads room = of (seq (sign (codes ".")) (further_member_reads room)) (λ x. x.1)

abbrev NoDot : List Tok → Type 0
NoDot rest = IsOver is_no_dot rest

all_further_reads : (room : ℕ) → Reads (Many (Further room)) NoDot (all_further_at room)
unfolding all_further_at
all_further_reads room =
    before NoDot
    (many is_no_dot (further_reads room)
    (λ us x h. omega (arith, ap length h.1.2, length-append h.1.0 h.1.1, ap length h.1.3.1))
    (λ us x rest h. rw (h.1.2, h.1.3.1, h.1.3.2) refl)
    (λ us x rest h. tt))
    (λ rest f. (f, tt))

keys_reads : (room : ℕ) → Reads (Keys room) NoDot (keys_at room)
unfolding keys_at
keys_reads room = of (seq (word (codes "Comparator")) (seq (sign (codes ".")) (seq (word (codes "comparing")) (seq (key_part_reads room) (all_further_reads room))))) (λ x. Some x.1.1.1.0 ∷ x.1.1.1.1)

keys_part_reads : (room : ℕ) → Reads (Parenthesised room (Keys (pred room))) Any (keys_part_at room)
unfolding keys_part_at
keys_part_reads room = of (enclosed room (codes "(") (some_both (keys_reads (pred room)).sound.some (sign (codes ")")).sound.some) (λ m e. join (keys_reads (pred room)) (sign (codes ")")) (λ vs y rest h any. rw (h.1, h.2) refl))) (λ x. x.1.0)

sorting_reads : (room : ℕ) (w : List ℕ) → Reads (Sorting room w) Any (sorting_at room w)
unfolding sorting_at
sorting_reads room w = of (seq (word (codes "sort")) (seq (keys_part_reads room) (sign (codes ";")))) (λ x at. Sort at w (keys_in x.1.0) (downs_in x.1.0))

-- ---- what begins with a word

sort_heads : (room : ℕ) (w : List ℕ) (p : TokenNode → Bool) (b : Bool) → p (tokens.Word (codes "sort")) ≡ b → Heads p b (Sorting room w) Any
sort_heads room w p b e us x rest h follows = then_heads (Word (codes "sort")) (λ y. Seq (Parenthesised room (Keys (pred room))) (Sign (codes ";"))) p b Any (this_heads (tokens.Word (codes "sort")) p b Any e) us h.0 rest h.1 tt

print_heads : (room : ℕ) (p : TokenNode → Bool) (b : Bool) → p (tokens.Word (codes "out")) ≡ b → Heads p b (Printing room) Any
print_heads room p b e us x rest h follows = then_heads (Word (codes "out")) (λ y. Seq (Sign (codes ".")) (Seq (Word (codes "println")) (Seq (Condition room) (Sign (codes ";"))))) p b Any (this_heads (tokens.Word (codes "out")) p b Any e) us h.0 rest h.1 tt

add_heads : (room : ℕ) (w : List ℕ) (p : TokenNode → Bool) (b : Bool) → p (tokens.Word (codes "add")) ≡ b → Heads p b (Addition room w) Any
add_heads room w p b e us x rest h follows = then_heads (Word (codes "add")) (λ y. Seq (Condition room) (Sign (codes ";"))) p b Any (this_heads (tokens.Word (codes "add")) p b Any e) us h.0 rest h.1 tt

abbrev OtherMember : ℕ → List ℕ → Rule (Span → Statement)
OtherMember room w = Or (Sorting room w) (Where (bytes_eq w (codes "System")) (Printing room))

other_member_reads : (room : ℕ) (w : List ℕ) → Reads (OtherMember room w) Any (other_member_at room w)
unfolding other_member_at
other_member_reads room w = by (bytes_eq w (codes "System"))
  where
    by : (b : Bool) → Reads (Or (Sorting room w) (Where b (Printing room))) Any (λ ts. cond b (or_at (is_word (codes "sort")) (sorting_at room w) (printing_at room) ts) (sorting_at room w ts))
    by true =
        turned (Or (Sorting room w) (Where true (Printing room)))
        (either (is_word (codes "sort")) (sorting_reads room w) (printing_reads room) (sort_heads room w (is_word (codes "sort")) true refl) (print_heads room (is_word (codes "sort")) false refl))
        (λ us x h. elim h [ inl k ↦ inl k | inr k ↦ inr (refl, k) ])
        (λ us x h. elim h [ inl k ↦ inl k | inr k ↦ inr k.1 ])
    by false = turned (Or (Sorting room w) (Where false (Printing room))) (sorting_reads room w) (λ us x h. inl h) (λ us x h. elim h [ inl k ↦ k | inr k ↦ absurd (let q = k.0 in cc) ])

other_heads : (room : ℕ) (w : List ℕ) (p : TokenNode → Bool) (b : Bool) → p (tokens.Word (codes "sort")) ≡ b → p (tokens.Word (codes "out")) ≡ b → Heads p b (OtherMember room w) Any
other_heads room w p b e e' us x rest (inl h) follows = sort_heads room w p b e us x rest h tt
other_heads room w p b e e' us x rest (inr h) follows = print_heads room p b e' us x rest h.1 tt

member_call_reads : (room : ℕ) (w : List ℕ) → Reads (MemberCall room w) Any (member_call_at room w)
unfolding member_call_at
member_call_reads room w = either (is_word (codes "add")) (addition_reads room w) (other_member_reads room w) (add_heads room w (is_word (codes "add")) true refl) (other_heads room w (is_word (codes "add")) false refl refl)

abbrev Member : ℕ → List ℕ → Rule (Span → Statement)
Member room w = Made (λ x. x.1) (Seq (Sign (codes ".")) (MemberCall room w))

member_reads : (room : ℕ) (w : List ℕ) → Reads (Member room w) Any (member_at room w)
unfolding member_at
member_reads room w = of (seq (sign (codes ".")) (member_call_reads room w)) (λ x. x.1)

-- ---- what begins with a sign

assign_heads : (room : ℕ) (w : List ℕ) (p : TokenNode → Bool) (b : Bool) → p (tokens.Sign (codes "=")) ≡ b → Heads p b (Assignment room w) Any
assign_heads room w p b e us x rest h follows = then_heads (Sign (codes "=")) (λ y. Value room) p b Any (this_heads (tokens.Sign (codes "=")) p b Any e) us h.0 rest h.1 tt

dot_heads : (room : ℕ) (w : List ℕ) (p : TokenNode → Bool) (b : Bool) → p (tokens.Sign (codes ".")) ≡ b → Heads p b (Member room w) Any
dot_heads room w p b e us x rest h follows = then_heads (Sign (codes ".")) (λ y. MemberCall room w) p b Any (this_heads (tokens.Sign (codes ".")) p b Any e) us h.0 rest h.1 tt

plus_heads : (room : ℕ) (w : List ℕ) (p : TokenNode → Bool) (b : Bool) → p (tokens.Sign (codes "+=")) ≡ b → Heads p b (Increase room w) Any
plus_heads room w p b e us x rest h follows = then_heads (Sign (codes "+=")) (λ y. Value room) p b Any (this_heads (tokens.Sign (codes "+=")) p b Any e) us h.0 rest h.1 tt

count_heads : (w : List ℕ) (p : TokenNode → Bool) (b : Bool) → p (tokens.Sign (codes "++")) ≡ b → Heads p b (Increment w) Any
count_heads w p b e us x rest h follows = then_heads (Sign (codes "++")) (λ y. Sign (codes ";")) p b Any (this_heads (tokens.Sign (codes "++")) p b Any e) us h.0 rest h.1 tt

counting_reads : (room : ℕ) (w : List ℕ) → Reads (Or (Increase room w) (Increment w)) Any (counting_at room w)
unfolding counting_at
counting_reads room w = either (is_sign (codes "+=")) (increase_reads room w) (increment_reads w) (plus_heads room w (is_sign (codes "+=")) true refl) (count_heads w (is_sign (codes "+=")) false refl)

abbrev OtherRest : ℕ → List ℕ → Bool → Rule (Span → Statement)
OtherRest room w b = Or (Member room w) (Where b (Or (Increase room w) (Increment w)))

other_rest_reads : (room : ℕ) (w : List ℕ) → Reads (OtherRest room w (not (is_number_type w))) Any (other_rest_at room w)
unfolding other_rest_at
other_rest_reads room w = by (is_number_type w)
  where
    by : (b : Bool) → Reads (OtherRest room w (not b)) Any (λ ts. cond b (member_at room w ts) (or_at (is_sign (codes ".")) (member_at room w) (counting_at room w) ts))
    by true = turned (OtherRest room w false) (member_reads room w) (λ us x h. inl h) (λ us x h. elim h [ inl k ↦ k | inr k ↦ absurd (let q = k.0 in cc) ])
    by false =
        turned (OtherRest room w true)
        (either (is_sign (codes ".")) (member_reads room w) (counting_reads room w) (dot_heads room w (is_sign (codes ".")) true refl) (or_heads (Increase room w) (Increment w) (is_sign (codes ".")) false Any (plus_heads room w (is_sign (codes ".")) false refl) (count_heads w (is_sign (codes ".")) false refl)))
        (λ us x h. elim h [ inl k ↦ inl k | inr k ↦ inr (refl, k) ])
        (λ us x h. elim h [ inl k ↦ inl k | inr k ↦ inr k.1 ])

other_rest_heads : (room : ℕ) (w : List ℕ) (c : Bool) (p : TokenNode → Bool) (b : Bool) → p (tokens.Sign (codes ".")) ≡ b → p (tokens.Sign (codes "+=")) ≡ b → p (tokens.Sign (codes "++")) ≡ b → Heads p b (OtherRest room w c) Any
other_rest_heads room w c p b e f g us x rest (inl h) follows = dot_heads room w p b e us x rest h tt
other_rest_heads room w c p b e f g us x rest (inr h) follows = or_heads (Increase room w) (Increment w) p b Any (plus_heads room w p b f) (count_heads w p b g) us x rest h.1 tt

pub named_rest_reads : (room : ℕ) (w : List ℕ) → Reads (NamedRest room w) Any (named_rest_at room w)
unfolding named_rest_at
named_rest_reads room w = either (is_sign (codes "=")) (assignment_reads room w) (other_rest_reads room w) (assign_heads room w (is_sign (codes "=")) true refl) (other_rest_heads room w (not (is_number_type w)) (is_sign (codes "=")) false refl refl refl)

pub named_reads : (room : ℕ) → Reads (Named room) Any (named_at room)
unfolding named_at
named_reads room = put (by_value (one name_in some_name) (named_rest_reads room)) (λ at x. x.1 at)

-- ---- return and break

no_semicolon : Begins (is_sign (codes ";")) false
no_semicolon = record { opens = refl; bang = refl; minus = refl; made = refl; truth = refl; falsehood = refl; long = refl; integer = refl; texts = λ s. refl; numbers = λ v l. refl; names = λ n w e. rw ((word_if_is is_variable n w e).0) refl }

returned_reads : (room : ℕ) → Reads (Or (Made (λ x. None) (Sign (codes ";"))) (Made (λ x. Some x) (Value room))) Any (returned_at room)
unfolding returned_at
returned_reads room =
    either (is_sign (codes ";")) (of (sign (codes ";")) (λ x. None)) (of (value_reads room) (λ x. Some x))
    (λ us x rest h follows. this_heads (tokens.Sign (codes ";")) (is_sign (codes ";")) true Any refl us tt rest h.1 tt)
    (λ us x rest h follows. let v = h.1.1 in ap (λ (ts : List Tok). first_is (is_sign (codes ";")) (ts ++ rest)) v.2 ∙ ap (λ (ts : List Tok). first_is (is_sign (codes ";")) ts) (append_assoc v.0 v.1 rest) ∙ expression_first (is_sign (codes ";")) false no_semicolon v.3 (v.1 ++ rest))

returning_reads : (room : ℕ) → Reads (Returning room) Any (returning_at room)
unfolding returning_at
returning_reads room = put (seq (word (codes "return")) (returned_reads room)) (λ at x. Return at x.1)

breaking_reads : Reads Breaking Any breaking_at
unfolding breaking_at
breaking_reads = put (seq (word (codes "break")) (sign (codes ";"))) (λ at x. Break at)

return_heads : (room : ℕ) (p : TokenNode → Bool) (b : Bool) → p (tokens.Word (codes "return")) ≡ b → Heads p b (Returning room) Any
return_heads room p b e us x rest h follows = then_heads (Word (codes "return")) (λ y. Or (Made (λ z. None) (Sign (codes ";"))) (Made (λ z. Some z) (Value room))) p b Any (this_heads (tokens.Word (codes "return")) p b Any e) us h.0 rest h.1 tt

break_heads : (p : TokenNode → Bool) (b : Bool) → p (tokens.Word (codes "break")) ≡ b → Heads p b Breaking Any
break_heads p b e us x rest h follows = then_heads (Word (codes "break")) (λ y. Sign (codes ";")) p b Any (this_heads (tokens.Word (codes "break")) p b Any e) us h.0 rest h.1 tt

-- a statement that begins with a name begins with no reserved word
pub named_no_word : (room : ℕ) (text : List ℕ) → is_among text reserved_words ≡ true → Heads (is_word text) false (Named room) Any
named_no_word room text reserved us x rest h follows =
    then_heads (One name_in) (NamedRest room) (is_word text) false Any (one_heads name_in (is_word text) false Any (λ n w e. let k = word_if_is is_name n w e in rw k.0 (no_reserved w text reserved k.1))) us h.0 rest h.1 tt

pub plain_reads : (room : ℕ) → Reads (Plain room) Any (plain_at room)
unfolding plain_at
plain_reads room =
    either (is_word (codes "return")) (returning_reads room)
    (either (is_word (codes "break")) breaking_reads (named_reads room) (break_heads (is_word (codes "break")) true refl) (named_no_word room (codes "break") refl))
    (return_heads room (is_word (codes "return")) true refl)
    (or_heads Breaking (Named room) (is_word (codes "return")) false Any (break_heads (is_word (codes "return")) false refl) (named_no_word room (codes "return") refl))
