-- Types and keys are read exactly.
use Rattle.std.proofs.Common.{◌≡◌, ℕ, Bool, true, false, cond, List, Option, Some, None, codes, is_some, refl, sym, ap, subst, inl, inr, ◌⊎◌}
use Rattle.std.specs.Str.{bytes_eq}
use Rattle.java_lex.specs.declared.token.TokenNode.{TokenNode}
use Rattle.java_lex.specs.declared.token.TokenNode.TheVariants as tokens
use Rattle.readers.proofs.Tools.{chosen}
use Rattle.java_ast.specs.Tree.{Spelled}
use Rattle.java_ast.specs.Tree as plain
use Rattle.java_grammar.specs.Rules.{One, Sign, Opening, Seq, Then, Made}
use Rattle.java_grammar.specs.Words.{is_name, by_word, name_in, table_in, word_type, element_type, collection, collection_of}
use Rattle.java_grammar.specs.Types.{Element, Spelling, KeyColumn, PlainKey, TypedKey, Key}
use Rattle.java_grammar.specs.Reading.{one_at, is_sign}
use Rattle.java_grammar.specs.ReadingTypes.{element_at, is_word_type, spelling_at, key_column_at, plain_key_at, closed_column_at, typed_key_at, key_at}
use Rattle.java_grammar.proofs.Sound.{Passes}
use Rattle.java_grammar.proofs.Again.{Any, one_heads, then_heads}
use Rattle.java_grammar.proofs.SingleLaws.{token_of, by_word_is, word_if_is, same_bytes, opening_heads}
use Rattle.java_grammar.proofs.Laws.{Reads, one, word, sign, opening, seq, by_value, of, either}

abbrev some : {A : Type 0} → A → Option A
some x = Some x

pub some_name : Passes name_in
some_name = record { token = token_of (tokens.Word (codes "x")); value = codes "x"; is = refl }

pub some_table : Passes table_in
some_table = record { token = token_of (tokens.Word (codes "T")); value = codes "T"; is = refl }

pub some_element : Passes (by_word element_type)
some_element = record { token = token_of (tokens.Word (codes "Long")); value = plain.BoxedLong; is = refl }

some_type : Passes (by_word word_type)
some_type = record { token = token_of (tokens.Word (codes "int")); value = plain.Int; is = refl }

some_collection : Passes (by_word collection)
some_collection = record { token = token_of (tokens.Word (codes "List")); value = true; is = refl }

pub name_reads : Reads (One name_in) Any (one_at name_in)
name_reads = one name_in some_name

element_reads : Reads Element Any element_at
unfolding element_at
element_reads = of (seq (sign (codes "<")) (seq (one (by_word element_type) some_element) (sign (codes ">")))) (λ x. x.1.0)

collection_is : (w : List ℕ) (b : Bool) → collection w ≡ some b → (w ≡ codes "List") ⊎ (w ≡ codes "Set")
collection_is w b e =
    elim (chosen (bytes_eq w (codes "List")) (some true) (cond (bytes_eq w (codes "Set")) (some false) None) (some b) e) [
      | inl h ↦ inl (same_bytes w (codes "List") h.0)
      | inr h ↦ elim (chosen (bytes_eq w (codes "Set")) (some false) None (some b) h.1) [
        | inl k ↦ inr (same_bytes w (codes "Set") k.0)
        | inr k ↦ absurd cc
      ]
    ]

-- no type of one word is List or Set
collection_heads : (n : TokenNode) (b : Bool) → by_word collection n ≡ Some b → is_word_type n ≡ false
collection_heads n b e =
    let h = by_word_is collection n b e in
    rw h.1 (elim (collection_is h.0 b h.2) [
      | inl k ↦ subst (λ (w : List ℕ). is_some (word_type w) ≡ false) (sym k) refl
      | inr k ↦ subst (λ (w : List ℕ). is_some (word_type w) ≡ false) (sym k) refl
    ])

pub spelling_reads : Reads Spelling Any spelling_at
unfolding spelling_at
spelling_reads =
    either is_word_type (one (by_word word_type) some_type) (of (seq (one (by_word collection) some_collection) element_reads) (λ x. collection_of x.0 x.1))
    (one_heads (by_word word_type) is_word_type true Any (λ n x e. ap is_some e))
    (λ us x rest h follows. then_heads (One (by_word collection)) (λ y. Element) is_word_type false Any (one_heads (by_word collection) is_word_type false Any collection_heads) us h.0 rest h.1 tt)

key_column_reads : (x : List ℕ) → Reads (KeyColumn x) Any (key_column_at x)
unfolding key_column_at
key_column_reads x = of (seq (sign (codes "->")) (seq (word x) (seq (sign (codes ".")) (one name_in some_name)))) (λ y. y.1.1.1)

plain_key_reads : Reads PlainKey Any plain_key_at
unfolding plain_key_at
plain_key_reads = of (by_value (one name_in some_name) key_column_reads) (λ y. y.1)

closed_column_reads : (x : List ℕ) → Reads (Made (λ y. y.1) (Seq (Sign (codes ")")) (KeyColumn x))) Any (closed_column_at x)
unfolding closed_column_at
closed_column_reads x = of (seq (sign (codes ")")) (key_column_reads x)) (λ y. y.1)

typed_key_reads : (room : ℕ) → Reads (TypedKey room) Any (typed_key_at room)
unfolding typed_key_at
typed_key_reads room = of (seq (opening room (codes "(")) (seq (one table_in some_table) (by_value (one name_in some_name) closed_column_reads))) (λ y. y.1.1.1)

pub key_reads : (room : ℕ) → Reads (Key room) Any (key_at room)
unfolding key_at
key_reads room =
    either (is_sign (codes "(")) (typed_key_reads room) plain_key_reads
    (λ us x rest h follows. then_heads (Opening room (codes "(")) (λ y. Seq (One table_in) (Then (One name_in) (λ z. Made (λ v. v.1) (Seq (Sign (codes ")")) (KeyColumn z))))) (is_sign (codes "(")) true Any (opening_heads room (codes "(") (is_sign (codes "(")) true Any refl) us h.0 rest h.1 tt)
    (λ us x rest h follows. then_heads (One name_in) KeyColumn (is_sign (codes "(")) false Any (one_heads name_in (is_sign (codes "(")) false Any (λ n w e. rw ((word_if_is is_name n w e).0) refl)) us h.0 rest h.1 tt)
