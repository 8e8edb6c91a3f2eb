-- Where the tokens of a text can be written, those with calls spelled out can be, too.
use Rattle.std.proofs.Common.{◌≡◌, ℕ, zero, suc, ◌<◌, Bool, true, false, List, [], ◌∷◌, ◌++◌, Option, Some, None, refl, arith, codes, if◌then◌else◌}
use Rattle.std.specs.Prelude.{IsUtf8}
use Rattle.std.specs.Str.{IsAscii}
use Rattle.std.proofs.lemmas.Bool.Decides.{nat_tests}
use Rattle.std.proofs.lemmas.Str.{IsUtf8-from_ascii}
use Rattle.qbs_base.specs.declared.span.Span.{Span}
use Rattle.qbs_base.specs.Bytes.{is_name_start, is_name_part}
use Rattle.java_lex.specs.declared.token.Token.{Token}
use Rattle.java_lex.specs.declared.token.TokenNode.{TokenNode}
use Rattle.java_lex.specs.declared.token.TokenNode.TheVariants.{Word, Integer, Text, Sign}
use Rattle.java_lex.proofs.Ascii.{cons_is_ascii, nil_is_ascii, name_byte}
use Rattle.java_grammar.specs.Reading.{is_sign}
use Rattle.java_grammar.specs.Words.{is_variable, variable_in}
use Rattle.java_grammar.specs.Written.{is_word, are_name_parts}
use Rattle.java_grammar.proofs.Fixed.{both_true}
use Rattle.java_grammar.proofs.Good.{GoodNode, AllGood}
use Rattle.call_reader.specs.SpelledOut.{Spot, BehindEquals, BehindName, InCall, BehindCall, Elsewhere, begins_with, if_opened, called, behind_other, behind_name, behind_closing, behind_part, behind, token_at, comma_unless, ending, query_or_token, in_place, spelled_from, spelled_out}

-- ---- words are texts

start_byte : (b : ℕ) → is_name_start b ≡ true → b < 128
start_byte b h = grind (arith, nat_tests, h)

parts_are_ascii : (bs : List ℕ) → are_name_parts bs ≡ true → IsAscii bs
parts_are_ascii [] h = nil_is_ascii
parts_are_ascii (b ∷ bs) h =
    let s : (is_name_part b ≡ true) × (are_name_parts bs ≡ true) = both_true (is_name_part b) (are_name_parts bs) h in
    cons_is_ascii b bs (name_byte b s.0) (parts_are_ascii bs s.1)

word_is_text : (name : List ℕ) → is_word name ≡ true → IsUtf8 name
word_is_text [] h = absurd cc
word_is_text (b ∷ bs) h =
    let s : (is_name_start b ≡ true) × (are_name_parts bs ≡ true) = both_true (is_name_start b) (are_name_parts bs) h in
    IsUtf8-from_ascii (b ∷ bs) (cons_is_ascii b bs (start_byte b s.0) (parts_are_ascii bs s.1))

-- ---- names of calls

abbrev GoodName : Option (List ℕ) → Type 0
GoodName None = Unit {0}
GoodName (Some name) = is_word name ≡ true

abbrev GoodSpot : Spot → Type 0
GoodSpot (BehindName name) = is_word name ≡ true
GoodSpot _ = Unit {0}

if_variable : (b : Bool) (name : List ℕ) → is_word name ≡ true → GoodName (if b then Some name else None)
if_variable true name g = g
if_variable false name g = tt

variable_good : (n : TokenNode) → GoodNode n → GoodName (variable_in n)
variable_good (Word w) g = if_variable (is_variable w) w g
variable_good (Integer value long) g = tt
variable_good (Text text) g = tt
variable_good (Sign s) g = tt

opened_good : (b : Bool) (n : TokenNode) → GoodNode n → GoodName (if_opened b n)
opened_good true n g = variable_good n g
opened_good false n g = tt

other_good : (b : Bool) → GoodSpot (if b then BehindEquals else Elsewhere)
other_good true = tt
other_good false = tt

named_good : (name : Option (List ℕ)) (n : TokenNode) → GoodName name → GoodSpot (behind_name name n)
named_good (Some name) n g = g
named_good None n g = other_good (is_sign (codes "=") n)

closing_good : (more : ℕ) → GoodSpot (behind_closing more)
closing_good zero = tt
closing_good (suc more) = tt

part_good : (opens closes : Bool) (more : ℕ) → GoodSpot (if opens then InCall (suc more) else (if closes then behind_closing more else InCall more))
part_good true closes more = tt
part_good false true more = closing_good more
part_good false false more = tt

behind_good : (spot : Spot) (n : TokenNode) (rest : List Token) → GoodNode n → GoodSpot (behind spot n rest)
behind_good BehindEquals n rest g = named_good (called BehindEquals n rest) n (opened_good (begins_with (codes "(") rest) n g)
behind_good (BehindName name) n rest g = tt
behind_good (InCall more) n rest g = part_good (is_sign (codes "(") n) (is_sign (codes ")") n) more
behind_good BehindCall n rest g = other_good (is_sign (codes "=") n)
behind_good Elsewhere n rest g = other_good (is_sign (codes "=") n)

-- ---- tokens

comma_good : (b : Bool) (at : Span) → AllGood (comma_unless b at)
comma_good true at = tt
comma_good false at = (tt, tt)

ending_good : (b : Bool) (t : Token) → GoodNode t.node → AllGood (if b then t ∷ [] else token_at t.span (Sign (codes "{")) ∷ [])
ending_good true t g = (g, tt)
ending_good false t g = (tt, tt)

query_good : (name : Option (List ℕ)) (t : Token) → GoodNode t.node → AllGood (query_or_token name t)
query_good (Some name) t g = (refl, (tt, (refl, tt)))
query_good None t g = (g, tt)

in_place_good : (spot : Spot) (t : Token) (rest : List Token) → GoodSpot spot → GoodNode t.node → AllGood (in_place spot t rest)
in_place_good BehindEquals t rest s g = query_good (called BehindEquals t.node rest) t g
in_place_good (BehindName name) t rest s g = (g, (word_is_text name s, comma_good (begins_with (codes ")") rest) t.span))
in_place_good (InCall more) t rest s g = (g, tt)
in_place_good BehindCall t rest s g = ending_good (is_sign (codes ";") t.node) t g
in_place_good Elsewhere t rest s g = (g, tt)

joined_good : (us vs : List Token) → AllGood us → AllGood vs → AllGood (us ++ vs)
joined_good [] vs g h = h
joined_good (u ∷ us) vs g h = (g.0, joined_good us vs g.1 h)

spelled_good : (spot : Spot) (ts : List Token) → GoodSpot spot → AllGood ts → AllGood (spelled_from spot ts)
spelled_good spot [] s g = tt
spelled_good spot (t ∷ ts) s g =
    joined_good (in_place spot t ts) (spelled_from (behind spot t.node ts) ts) (in_place_good spot t ts s g.0)
    (spelled_good (behind spot t.node ts) ts (behind_good spot t.node ts g.0) g.1)

pub spelled_out_good : (ts : List Token) → AllGood ts → AllGood (spelled_out ts)
spelled_out_good ts g = spelled_good Elsewhere ts tt g
