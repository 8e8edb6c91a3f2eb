-- Which tokens have a type, and which a key of a sort.
use Rattle.std.specs.Prelude.{ℕ, List, codes}
use Rattle.java_ast.specs.Tree.{Spelled}
use Rattle.java_grammar.specs.Rules.{Rule, One, Word, Sign, Opening, Seq, Then, Or, Made}
use Rattle.java_grammar.specs.Words.{by_word, name_in, table_in, word_type, element_type, collection, collection_of}

-- < elem >
abbrev pub Element : Rule Spelled
Element = Made (λ x. x.1.0) (Seq (Sign (codes "<")) (Seq (One (by_word element_type)) (Sign (codes ">"))))

-- int, a table, List < elem > and the like
abbrev pub Spelling : Rule Spelled
Spelling = Or (One (by_word word_type)) (Made (λ x. collection_of x.0 x.1) (Seq (One (by_word collection)) Element))

-- ---- keys

-- -> x . column, where x is what stands before the arrow
abbrev pub KeyColumn : List ℕ → Rule (List ℕ)
KeyColumn x = Made (λ y. y.1.1.1) (Seq (Sign (codes "->")) (Seq (Word x) (Seq (Sign (codes ".")) (One name_in))))

abbrev pub PlainKey : Rule (List ℕ)
PlainKey = Made (λ y. y.1) (Then (One name_in) KeyColumn)

-- ( T x ) before the arrow, where so many more may be open; the table isn't kept
abbrev pub TypedKey : ℕ → Rule (List ℕ)
TypedKey room = Made (λ y. y.1.1.1) (Seq (Opening room (codes "(")) (Seq (One table_in) (Then (One name_in) (λ x. Made (λ y. y.1) (Seq (Sign (codes ")")) (KeyColumn x))))))

abbrev pub Key : ℕ → Rule (List ℕ)
Key room = Or (TypedKey room) PlainKey
