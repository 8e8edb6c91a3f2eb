-- Reading types and keys from left to right.
use Rattle.std.specs.Prelude.{ℕ, List, Bool, is_some, codes}
use Rattle.java_lex.specs.declared.token.TokenNode.{TokenNode}
use Rattle.readers.specs.Reading.{made}
use Rattle.java_ast.specs.Tree.{Spelled}
use Rattle.java_grammar.specs.Words.{by_word, name_in, table_in, word_type, element_type, collection, collection_of}
use Rattle.java_grammar.specs.Reading.{Reader, then_at, seq_at, one_at, or_at, is_sign, word_at, sign_at, opening_at}

unfoldable pub element_at : Reader Spelled
element_at ts = made (λ x. x.1.0) (seq_at (sign_at (codes "<")) (seq_at (one_at (by_word element_type)) (sign_at (codes ">")))) ts

abbrev pub is_word_type : TokenNode → Bool
is_word_type n = is_some (by_word word_type n)

unfoldable pub spelling_at : Reader Spelled
spelling_at ts = or_at is_word_type (one_at (by_word word_type)) (made (λ x. collection_of x.0 x.1) (seq_at (one_at (by_word collection)) element_at)) ts

unfoldable pub key_column_at : List ℕ → Reader (List ℕ)
key_column_at x ts = made (λ y. y.1.1.1) (seq_at (sign_at (codes "->")) (seq_at (word_at x) (seq_at (sign_at (codes ".")) (one_at name_in)))) ts

unfoldable pub plain_key_at : Reader (List ℕ)
plain_key_at ts = made (λ y. y.1) (then_at (one_at name_in) key_column_at) ts

unfoldable pub closed_column_at : List ℕ → Reader (List ℕ)
closed_column_at x ts = made (λ y. y.1) (seq_at (sign_at (codes ")")) (key_column_at x)) ts

unfoldable pub typed_key_at : ℕ → Reader (List ℕ)
typed_key_at room ts = made (λ y. y.1.1.1) (seq_at (opening_at room (codes "(")) (seq_at (one_at table_in) (then_at (one_at name_in) closed_column_at))) ts

unfoldable pub key_at : ℕ → Reader (List ℕ)
key_at room ts = or_at (is_sign (codes "(")) (typed_key_at room) plain_key_at ts
