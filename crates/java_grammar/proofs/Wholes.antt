-- Texts that are read as whole tokens, whatever stands behind them, or where nothing goes on with their last token.
use Rattle.std.proofs.Common.{◌≡◌, ℕ, Bool, true, false, List, [], ◌∷◌, ◌++◌, length, refl, sym, ap, subst, ◌∙◌, append_assoc}
use Rattle.std.specs.Prelude.{not, ◌&&◌, ◌==◌}
use Rattle.std.proofs.lemmas.List.{append-nil}
use Rattle.java_lex.specs.declared.piece.Piece.TheVariants.{Gap, Token as Lexeme}
use Rattle.java_lex.specs.declared.token.TokenNode.{TokenNode}
use Rattle.qbs_base.specs.Bytes.{is_name_part}
use Rattle.java_lex.specs.Pieces.{piece_of}
use Rattle.java_lex.proofs.Cut.{Whole, none, gap, token}

-- a byte that goes on with no name, no integer and no sign: no part of a name, and no `=`
abbrev pub stops : ℕ → Bool
stops b = not (is_name_part b) && not (b == 61)

abbrev pub stops_first : List ℕ → Bool
stops_first [] = false
stops_first (b ∷ bs) = stops b

abbrev pub Stops : List ℕ → Type 0
Stops [] = Unit {0}
Stops (b ∷ bs) = stops b ≡ true

-- whatever stands behind it, the text is read as these tokens
pub record Shut (text : List ℕ) (nodes : List TokenNode) : Type 0 where
  pub by : (rest : List ℕ) → Whole text rest nodes

-- where nothing goes on with it, the text is read as these tokens
pub record Reads (text : List ℕ) (nodes : List TokenNode) : Type 0 where
  pub by : (rest : List ℕ) → Stops rest → Whole text rest nodes

whole_append : (x y z rest : List ℕ) (m n : List TokenNode) → z ≡ y ++ rest → Whole x z m → Whole y rest n → Whole (x ++ y) rest (m ++ n)
whole_append [] y z rest [] n e none v = v
whole_append x y z rest m n e (gap u f {rest = r} {nodes = ns} some p w) v =
    let q : piece_of (u ++ ((f ++ y) ++ rest)) ≡ Gap (length u) = ap (λ (bs : List ℕ). piece_of (u ++ bs)) (append_assoc f y rest ∙ ap (λ (bs : List ℕ). f ++ bs) (sym e)) ∙ p in
    subst (λ (bs : List ℕ). Whole bs rest (ns ++ n)) (sym (append_assoc u f y)) (gap u (f ++ y) some q (whole_append f y r rest ns n e w v))
whole_append x y z rest m n e (token u f {rest = r} {node} {nodes = ns} some p w) v =
    let q : piece_of (u ++ ((f ++ y) ++ rest)) ≡ Lexeme node (length u) = ap (λ (bs : List ℕ). piece_of (u ++ bs)) (append_assoc f y rest ∙ ap (λ (bs : List ℕ). f ++ bs) (sym e)) ∙ p in
    subst (λ (bs : List ℕ). Whole bs rest (node ∷ (ns ++ n))) (sym (append_assoc u f y)) (token u (f ++ y) some q (whole_append f y r rest ns n e w v))

stops_behind : (y rest : List ℕ) → stops_first y ≡ true → Stops (y ++ rest)
stops_behind [] rest e = absurd cc
stops_behind (b ∷ y) rest e = e

pub nothing_read : Shut [] []
nothing_read = record { by = λ rest. none }

pub as_reads : (x : List ℕ) (m : List TokenNode) → Shut x m → Reads x m
as_reads x m h = record { by = λ rest s. h.by rest }

pub shut_shut : (x y : List ℕ) (m n : List TokenNode) → Shut x m → Shut y n → Shut (x ++ y) (m ++ n)
shut_shut x y m n h k = record { by = λ rest. whole_append x y (y ++ rest) rest m n refl (h.by (y ++ rest)) (k.by rest) }

pub shut_reads : (x y : List ℕ) (m n : List TokenNode) → Shut x m → Reads y n → Reads (x ++ y) (m ++ n)
shut_reads x y m n h k = record { by = λ rest s. whole_append x y (y ++ rest) rest m n refl (h.by (y ++ rest)) (k.by rest s) }

pub reads_shut : (x y : List ℕ) (m n : List TokenNode) → Reads x m → stops_first y ≡ true → Shut y n → Shut (x ++ y) (m ++ n)
reads_shut x y m n h e k = record { by = λ rest. whole_append x y (y ++ rest) rest m n refl (h.by (y ++ rest) (stops_behind y rest e)) (k.by rest) }

pub reads_reads : (x y : List ℕ) (m n : List TokenNode) → Reads x m → stops_first y ≡ true → Reads y n → Reads (x ++ y) (m ++ n)
reads_reads x y m n h e k = record { by = λ rest s. whole_append x y (y ++ rest) rest m n refl (h.by (y ++ rest) (stops_behind y rest e)) (k.by rest s) }

pub reads_follow : (x y : List ℕ) (m n : List TokenNode) → Reads x m → ((rest : List ℕ) → Stops rest → Stops (y ++ rest)) → Reads y n → Reads (x ++ y) (m ++ n)
reads_follow x y m n h e k = record { by = λ rest s. whole_append x y (y ++ rest) rest m n refl (h.by (y ++ rest) (e rest s)) (k.by rest s) }

-- white space behind
pub reads_gap : (x y : List ℕ) (m : List TokenNode) → Reads x m → stops_first y ≡ true → Shut y [] → Shut (x ++ y) m
reads_gap x y m h e k = subst (λ (n : List TokenNode). Shut (x ++ y) n) (append-nil m) (reads_shut x y m [] h e k)

pub shut_gap : (x y : List ℕ) (m : List TokenNode) → Shut x m → Shut y [] → Shut (x ++ y) m
shut_gap x y m h k = subst (λ (n : List TokenNode). Shut (x ++ y) n) (append-nil m) (shut_shut x y m [] h k)
