-- Worked rows of the definition.
use Rattle.std.specs.Prelude.{◌≡◌, [], ◌∷◌, ◌++◌, codes, Ok, Err, pos, true, false}
use Rattle.std.proofs.Common.{refl}
use lib.Utf8.{encode}
use Rattle.std.specs.Str.{is_utf8, chars}
use Rattle.std.specs.Str.Lossy.{utf8_valid_len}
use Rattle.java_lex.specs.declared.piece.Piece.TheVariants.{Gap, Token, Fault}
use Rattle.java_lex.specs.declared.token.LexRule.TheVariants.{BadByte, OpenText, OpenComment, LongTooLarge}
use Rattle.java_lex.specs.declared.token.TokenNode.TheVariants.{Word, Integer, Text, Sign}
use Rattle.java_lex.specs.Pieces.{piece_of, part_of, body_from}
use Rattle.java_lex.specs.Lexing.{tokens_from, lexed}

word_row : piece_of (codes "a1_ b") ≡ Token (Word (codes "a1_")) 3
unfolding piece_of
word_row = refl

integer_row : piece_of (codes "12Lx") ≡ Token (Integer (pos 12) true) 3
unfolding piece_of
integer_row = refl

zero_row : piece_of (codes "012") ≡ Token (Integer (pos 0) false) 1
unfolding piece_of
zero_row = refl

most_row : piece_of (codes "9223372036854775807") ≡ Token (Integer (pos 9223372036854775807) false) 19
unfolding piece_of
most_row = refl

too_large_row : piece_of (codes "9223372036854775808L") ≡ Fault LongTooLarge 0
unfolding piece_of
too_large_row = refl

sign_row : piece_of (codes "-->") ≡ Token (Sign (codes "-")) 1
unfolding piece_of
sign_row = refl

arrow_row : piece_of (codes "->x") ≡ Token (Sign (codes "->")) 2
unfolding piece_of
arrow_row = refl

lone_row : piece_of (codes "& ") ≡ Fault BadByte 0
unfolding piece_of
lone_row = refl

line_row : piece_of (codes "//ab" ++ 10 ∷ codes "c") ≡ Gap 4
unfolding piece_of utf8_valid_len is_utf8 chars encode
line_row = refl

block_row : piece_of (codes "/***/ x") ≡ Gap 5
unfolding piece_of utf8_valid_len is_utf8 chars encode
block_row = refl

open_comment_row : piece_of (codes "/*/") ≡ Fault OpenComment 0
unfolding piece_of utf8_valid_len is_utf8 chars encode
open_comment_row = refl

bad_in_comment_row : piece_of (codes "/* " ++ 195 ∷ codes "*/") ≡ Fault BadByte 3
unfolding piece_of utf8_valid_len is_utf8 chars encode
bad_in_comment_row = refl

text_row : piece_of (34 ∷ codes "a" ++ 92 ∷ 110 ∷ 195 ∷ 164 ∷ 34 ∷ codes "b") ≡ Token (Text (97 ∷ 10 ∷ 195 ∷ 164 ∷ [])) 7
unfolding piece_of body_from part_of utf8_valid_len is_utf8 chars encode
text_row = refl

bad_escape_row : piece_of (34 ∷ codes "ab" ++ 92 ∷ 113 ∷ 34 ∷ []) ≡ Fault BadByte 3
unfolding piece_of body_from part_of utf8_valid_len is_utf8 chars encode
bad_escape_row = refl

bad_in_text_row : piece_of (34 ∷ codes "ab" ++ 255 ∷ 92 ∷ 113 ∷ 34 ∷ []) ≡ Fault BadByte 3
unfolding piece_of body_from part_of utf8_valid_len is_utf8 chars encode
bad_in_text_row = refl

open_text_row : piece_of (34 ∷ codes "ab" ++ 10 ∷ 34 ∷ []) ≡ Fault OpenText 0
unfolding piece_of body_from part_of utf8_valid_len is_utf8 chars encode
open_text_row = refl

span_row : lexed (codes "a" ++ 10 ∷ codes " +=") ≡ Ok (record {
  list = record { span = record { line = 1; column = 1; start = 0; end = 1 }; node = Word (codes "a") }
      ∷ record { span = record { line = 2; column = 2; start = 3; end = 5 }; node = Sign (codes "+=") } ∷ [];
  end = record { line = 2; column = 4; start = 5; end = 5 };
})
unfolding tokens_from piece_of
span_row = refl

fault_row : lexed (codes "a" ++ 10 ∷ codes " ?") ≡ Err (record { rule = BadByte; at = record { line = 2; column = 2; start = 3; end = 4 } })
unfolding tokens_from piece_of
fault_row = refl
