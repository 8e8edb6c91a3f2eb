-- The tokens of cells that are laid out.
use Rattle.std.proofs.Common.{◌≡◌, ℕ, zero, suc, ◌+◌, ◌-◌, ◌<◌, Bool, true, false, cond, not, ◌&&◌, List, [], ◌∷◌, ◌++◌, length, map, Ok, refl, sym, ap, ◌∙◌, subst, append_assoc, arith, length-append, zero-add, codes}
use Rattle.std.specs.Prelude.{◌==◌}
use Rattle.qbs_base.specs.declared.place.Place.{Place}
use Rattle.qbs_base.specs.Bytes.{is_white, is_digit, is_name_start}
use Rattle.qbs_base.specs.Places.{next_place, place_after, first_place, between}
use Rattle.java_lex.specs.declared.piece.Piece.{Piece}
use Rattle.java_lex.specs.declared.piece.Piece.TheVariants.{Gap as Space, Token as Lexeme}
use Rattle.java_lex.specs.declared.token.Token.{Token}
use Rattle.java_lex.specs.declared.token.TokenNode.{TokenNode}
use Rattle.java_lex.specs.Bytes.{quote}
use Rattle.java_lex.specs.Pieces.{piece_of}
use Rattle.java_lex.specs.Lexing.{tokens_from, ended}
use Rattle.java_lex.proofs.Lengths.{on_cond}
use Rattle.java_lex.proofs.Steps.{with_tokens, tokens_are}
use Rattle.java_lex.proofs.Cut.{take_front, drop_front, place_after_append, index_after, without_tokens}
use Rattle.view_items.specs.declared.cell.Cell.{Cell}
use Rattle.view_text.specs.declared.before.Before.{Before}
use Rattle.view_text.specs.declared.role.Gap.{Gap}
use Rattle.view_text.specs.declared.role.Gap.TheVariants as gaps
use Rattle.view_text.specs.declared.role.Role.{Role}
use Rattle.view_text.specs.declared.role.Role.TheVariants.{Brace, BraceEnd, Paren, ParenEnd, Semicolon, Comma, Dot, Increment, Not, TypeOpen, Element, Operator, Else, Keyword, Container, Name, Number, Text}
use Rattle.view_text.specs.declared.stretches.Stretch.{Stretch}
use Rattle.view_text.specs.Roles.{is_else, is_keyword, is_container, opens_type, word_role, less_role, more_role, minus_role, short_role, sign_role, role_of, is_start, starts_line, touches, joins, gap_before}
use Rattle.view_text.specs.Layout.{depth_at, margin, gap_text, last_of, gap, behind, first, laid_from, laid_out, stretches_from, stretches_of}
use Rattle.view_text.specs.Tokens.{is_token, are_tokens, bytes_at, stretch_of, AreCells, HasCells}
use Rattle.view_text.proofs.Fronts.{and_false}
use Rattle.view_text.proofs.Pieces.{IsTokenOf, goes_on, token_same}
use Rattle.view_text.proofs.Alone.{Alone, alone, both}

-- ---- white space

abbrev AreWhite : List ℕ → Type 0
AreWhite [] = Unit {0}
AreWhite (b ∷ bs) = (is_white b ≡ true) × AreWhite bs

white_append : (x y : List ℕ) → AreWhite x → AreWhite y → AreWhite (x ++ y)
white_append [] y h k = k
white_append (b ∷ x) y h k = (h.0, white_append x y h.1 k)

margin_white : (n : ℕ) → AreWhite (margin n)
margin_white zero = tt
margin_white (suc n) = white_append (margin n) (codes "    ") (margin_white n) (refl, (refl, (refl, (refl, tt))))

gap_white : (g : Gap) (depth : ℕ) → AreWhite (gap_text g depth)
gap_white gaps.None depth = tt
gap_white gaps.Space depth = (refl, tt)
gap_white gaps.Line depth = (refl, margin_white depth)

white_piece : (b : ℕ) (bs : List ℕ) → is_white b ≡ true → piece_of (b ∷ bs) ≡ Space 1
unfolding piece_of
white_piece b bs h = rw h refl

-- white space is passed over
white_skipped : (p : Place) (x bs : List ℕ) → AreWhite x → tokens_from p 0 (x ++ bs) ≡ tokens_from (place_after p x) 0 bs
white_skipped p [] bs h = refl
white_skipped p (b ∷ x) bs h =
    tokens_are p (b ∷ (x ++ bs)) (omega arith)
    ∙ rw (white_piece b (x ++ bs) h.0) (sym (without_tokens (tokens_from (next_place p b) 0 (x ++ bs))) ∙ white_skipped (next_place p b) x bs h.1)

-- a token is read, and then what stands behind it
token_read : (p : Place) (b : ℕ) (x bs : List ℕ) (node : TokenNode) → piece_of (b ∷ (x ++ bs)) ≡ Lexeme node (suc (length x))
    → tokens_from p 0 (b ∷ (x ++ bs)) ≡ with_tokens (record { span = between p (place_after p (b ∷ x)); node = node } ∷ []) (tokens_from (place_after p (b ∷ x)) 0 bs)
token_read p b x bs node e =
    tokens_are p (b ∷ (x ++ bs)) (omega arith)
    ∙ rw (e, take_front x bs, drop_front x bs) refl

-- ---- what stands behind a token doesn't go on with it

abbrev Stops : ℕ → List ℕ → Type 0
Stops last [] = ⊥
Stops last (c ∷ z) = goes_on last c ≡ false

line_stops : (last : ℕ) → goes_on last 10 ≡ false
line_stops last = simp and_false refl

space_stops : (last : ℕ) → goes_on last 32 ≡ false
space_stops last = simp and_false refl

not_joined : (p q : Bool) → p && not q ≡ true → q ≡ false
not_joined true true e = absurd cc
not_joined true false e = refl
not_joined false q e = absurd cc

stops_by : (last depth : ℕ) (start line touch : Bool) (bytes tail : List ℕ) → start ≡ false → 0 < length bytes
    → Stops last (gap_text (cond start gaps.None (cond line gaps.Line (cond (touch && not (joins last bytes)) gaps.None gaps.Space))) depth ++ (bytes ++ tail))
stops_by last depth true line touch bytes tail e some = absurd cc
stops_by last depth false true touch bytes tail e some = line_stops last
stops_by last depth false false touch [] tail e some = absurd (omega arith)
stops_by last depth false false touch (c ∷ bytes) tail e some = by (touch && not (goes_on last c)) refl
  where
    by : (v : Bool) → touch && not (goes_on last c) ≡ v → Stops last (gap_text (cond v gaps.None gaps.Space) depth ++ (c ∷ (bytes ++ tail)))
    by true e = not_joined touch (goes_on last c) e
    by false e = space_stops last

stops : (before : Before) (cells : List Cell) → are_tokens cells ≡ true → is_start before.role ≡ false → Stops before.last (laid_from before cells)
stops before [] tokens inside = line_stops before.last
stops before (c ∷ cs) tokens inside =
    let a : Alone c.bytes = alone c.bytes (both (is_token c.bytes) (are_tokens cs) tokens).0 in
    stops_by before.last (depth_at before.depth (role_of before.role c.bytes)) (is_start before.role) (starts_line before.role (role_of before.role c.bytes)) (touches before.role (role_of before.role c.bytes)) c.bytes (laid_from (behind before c.bytes) cs)
    inside (omega (arith, ap length a.is))

-- ---- behind a cell is no start

abbrev NoStart : Role → Type 0
NoStart role = is_start role ≡ false

less_no_start : (before : Role) → NoStart (less_role before)
less_no_start Container = refl
less_no_start _ = refl

more_no_start : (before : Role) → NoStart (more_role before)
more_no_start TypeOpen = refl
more_no_start Element = refl
more_no_start _ = refl

minus_no_start : (before : Role) → NoStart (minus_role before)
minus_no_start Name = refl
minus_no_start Number = refl
minus_no_start Text = refl
minus_no_start ParenEnd = refl
minus_no_start Container = refl
minus_no_start Element = refl
minus_no_start _ = refl

word_no_start : (before : Role) (word : List ℕ) → NoStart (word_role before word)
word_no_start before word =
    on_cond NoStart (opens_type before) Element _ (λ _. refl) (λ _.
    on_cond NoStart (is_else word) Else _ (λ _. refl) (λ _.
    on_cond NoStart (is_keyword word) Keyword _ (λ _. refl) (λ _.
    on_cond NoStart (is_container word) Container Name (λ _. refl) (λ _. refl))))

short_no_start : (before : Role) (b : ℕ) → NoStart (short_role before b)
short_no_start before b =
    on_cond NoStart (b == 123) Brace _ (λ _. refl) (λ _.
    on_cond NoStart (b == 125) BraceEnd _ (λ _. refl) (λ _.
    on_cond NoStart (b == 40) Paren _ (λ _. refl) (λ _.
    on_cond NoStart (b == 41) ParenEnd _ (λ _. refl) (λ _.
    on_cond NoStart (b == 59) Semicolon _ (λ _. refl) (λ _.
    on_cond NoStart (b == 44) Comma _ (λ _. refl) (λ _.
    on_cond NoStart (b == 46) Dot _ (λ _. refl) (λ _.
    on_cond NoStart (b == 33) Not _ (λ _. refl) (λ _.
    on_cond NoStart (b == 60) (less_role before) _ (λ _. less_no_start before) (λ _.
    on_cond NoStart (b == 62) (more_role before) _ (λ _. more_no_start before) (λ _.
    on_cond NoStart (b == 45) (minus_role before) Operator (λ _. minus_no_start before) (λ _. refl)))))))))))

sign_no_start : (before : Role) (bytes : List ℕ) → NoStart (sign_role before bytes)
sign_no_start before [] = refl
sign_no_start before (b ∷ []) = short_no_start before b
sign_no_start before (b ∷ c ∷ bs) = on_cond NoStart _ Increment Operator (λ _. refl) (λ _. refl)

no_start : (before : Role) (bytes : List ℕ) → NoStart (role_of before bytes)
no_start before [] = refl
no_start before (b ∷ bs) =
    on_cond NoStart (is_name_start b) (word_role before (b ∷ bs)) _ (λ _. word_no_start before (b ∷ bs)) (λ _.
    on_cond NoStart (is_digit b) Number _ (λ _. refl) (λ _.
    on_cond NoStart (b == quote) Text _ (λ _. refl) (λ _. sign_no_start before (b ∷ bs))))

-- ---- tokens one by one

-- behind these bytes the cells are read
record Reads (done : List ℕ) (before : Before) (cells : List Cell) : Type 0 where
  tokens : List Token
  read : tokens_from (place_after first_place done) 0 (laid_from before cells) ≡ Ok tokens
  are_cells : AreCells (done ++ laid_from before cells) tokens cells
  places : map (λ t. stretch_of t.span) tokens ≡ stretches_from before (length done) cells

index_is : (done : List ℕ) → (place_after first_place done).index ≡ length done
index_is done = index_after first_place done ∙ zero-add (length done)

-- the bytes between two places
between_is : (done bytes tail : List ℕ) → bytes_at (done ++ (bytes ++ tail)) (between (place_after first_place done) (place_after first_place (done ++ bytes))) ≡ bytes
between_is done bytes tail =
    let long : (place_after first_place (done ++ bytes)).index - (place_after first_place done).index ≡ length bytes = omega (arith, index_is done, index_is (done ++ bytes), length-append done bytes) in
    rw (long, index_is done, drop_front done (bytes ++ tail)) (take_front bytes tail)

token_at_end : (bytes : List ℕ) (a : Alone bytes) (before : Before) (cells : List Cell) → are_tokens cells ≡ true
    → piece_of (bytes ++ laid_from (behind before bytes) cells) ≡ Lexeme a.node (length bytes)
token_at_end bytes a before cells tokens =
    let s : Stops (last_of before.last bytes) (laid_from (behind before bytes) cells) = stops (behind before bytes) cells tokens (no_start before.role bytes) in
    by (laid_from (behind before bytes) cells) s
  where
    by : (tail : List ℕ) → Stops (last_of before.last bytes) tail → piece_of (bytes ++ tail) ≡ Lexeme a.node (length bytes)
    by [] h = absurd h
    by (c ∷ z) h =
        let stops_there : goes_on (last_of a.first a.more) c ≡ false = subst (λ (bs : List ℕ). goes_on (last_of before.last bs) c ≡ false) a.is h in
        let good : IsTokenOf (suc (length a.more)) (piece_of (a.first ∷ a.more)) = subst (λ (piece : Piece). IsTokenOf (suc (length a.more)) piece) (sym a.piece) refl in
        subst (λ (bs : List ℕ). piece_of (bs ++ c ∷ z) ≡ Lexeme a.node (length bs)) (sym a.is) (token_same a.first a.more c z stops_there good ∙ a.piece)

-- a token of some bytes, whatever they begin with
bytes_read : (p : Place) (bytes tail : List ℕ) (a : Alone bytes) → piece_of (bytes ++ tail) ≡ Lexeme a.node (length bytes)
    → tokens_from p 0 (bytes ++ tail) ≡ with_tokens (record { span = between p (place_after p bytes); node = a.node } ∷ []) (tokens_from (place_after p bytes) 0 tail)
bytes_read p [] tail a e = absurd (let none : [] ≡ a.first ∷ a.more = a.is in cc)
bytes_read p (b ∷ x) tail a e = token_read p b x tail a.node e

next_cell : (done : List ℕ) (before : Before) (c : Cell) (cs : List Cell) → Alone c.bytes → are_tokens cs ≡ true
    → Reads ((done ++ gap before c.bytes) ++ c.bytes) (behind before c.bytes) cs → Reads done before (c ∷ cs)
next_cell done before c cs a tokens next =
    let tail : List ℕ = laid_from (behind before c.bytes) cs in
    let p : Place = place_after first_place (done ++ gap before c.bytes) in
    let token : Token = record { span = between (place_after first_place (done ++ gap before c.bytes)) (place_after first_place ((done ++ gap before c.bytes) ++ c.bytes)); node = a.node } in
    let text : ((done ++ gap before c.bytes) ++ c.bytes) ++ laid_from (behind before c.bytes) cs ≡ done ++ (gap before c.bytes ++ (c.bytes ++ laid_from (behind before c.bytes) cs)) =
    append_assoc (done ++ gap before c.bytes) c.bytes (laid_from (behind before c.bytes) cs) ∙ append_assoc done (gap before c.bytes) (c.bytes ++ laid_from (behind before c.bytes) cs) in
    let grouped : (done ++ gap before c.bytes) ++ (c.bytes ++ laid_from (behind before c.bytes) cs) ≡ done ++ (gap before c.bytes ++ (c.bytes ++ laid_from (behind before c.bytes) cs)) =
    append_assoc done (gap before c.bytes) (c.bytes ++ laid_from (behind before c.bytes) cs) in
    let one : tokens_from p 0 (c.bytes ++ tail) ≡ with_tokens (token ∷ []) (tokens_from (place_after first_place ((done ++ gap before c.bytes) ++ c.bytes)) 0 tail) =
    subst (λ (q : Place). tokens_from (place_after first_place (done ++ gap before c.bytes)) 0 (c.bytes ++ laid_from (behind before c.bytes) cs) ≡ with_tokens (record { span = between (place_after first_place (done ++ gap before c.bytes)) q; node = a.node } ∷ []) (tokens_from q 0 (laid_from (behind before c.bytes) cs)))
    (sym (place_after_append first_place (done ++ gap before c.bytes) c.bytes))
    (bytes_read (place_after first_place (done ++ gap before c.bytes)) c.bytes (laid_from (behind before c.bytes) cs) a (token_at_end c.bytes a before cs tokens)) in
    let from : (place_after first_place (done ++ gap before c.bytes)).index ≡ length done + length (gap before c.bytes) = index_is (done ++ gap before c.bytes) ∙ length-append done (gap before c.bytes) in
    let to : (place_after first_place ((done ++ gap before c.bytes) ++ c.bytes)).index ≡ length done + length (gap before c.bytes) + length c.bytes =
    omega (arith, index_is ((done ++ gap before c.bytes) ++ c.bytes), length-append (done ++ gap before c.bytes) c.bytes, length-append done (gap before c.bytes)) in
    let len : length ((done ++ gap before c.bytes) ++ c.bytes) ≡ length done + length (gap before c.bytes) + length c.bytes = omega (arith, length-append (done ++ gap before c.bytes) c.bytes, length-append done (gap before c.bytes)) in
    record {
      tokens = token ∷ next.tokens;
      read = white_skipped (place_after first_place done) (gap before c.bytes) (c.bytes ++ laid_from (behind before c.bytes) cs) (gap_white (gap_before before.role before.last (role_of before.role c.bytes) c.bytes) (depth_at before.depth (role_of before.role c.bytes)))
          ∙ (ap (λ (q : Place). tokens_from q 0 (c.bytes ++ laid_from (behind before c.bytes) cs)) (sym (place_after_append first_place done (gap before c.bytes)))
          ∙ (one ∙ ap (with_tokens (token ∷ [])) next.read));
      are_cells = (
        record { bytes = subst (λ (t : List ℕ). bytes_at t token.span ≡ c.bytes) grouped (between_is (done ++ gap before c.bytes) c.bytes (laid_from (behind before c.bytes) cs)); node = a.has },
        subst (λ (t : List ℕ). AreCells t next.tokens cs) text next.are_cells,
      );
      places = stretched (place_after first_place (done ++ gap before c.bytes)).index (place_after first_place ((done ++ gap before c.bytes) ++ c.bytes)).index (length done + length (gap before c.bytes)) (length done + length (gap before c.bytes) + length c.bytes) (map (λ t. stretch_of t.span) next.tokens) (stretches_from (behind before c.bytes) (length done + length (gap before c.bytes) + length c.bytes) cs) from to
          (next.places ∙ ap (λ (n : ℕ). stretches_from (behind before c.bytes) n cs) len);
    }
  where
    stretched : (a b m n : ℕ) (ss ts : List Stretch) → a ≡ m → b ≡ n → ss ≡ ts → (record { from = a; to = b } ∷ ss) ≡ (record { from = m; to = n } ∷ ts)
    stretched a b m n ss ts e f g = rw (e, f, g) refl

nothing : (p : Place) → tokens_from p 0 [] ≡ Ok []
unfolding tokens_from
nothing p = refl

reads : (done : List ℕ) (before : Before) (cells : List Cell) → are_tokens cells ≡ true → Reads done before cells
reads done before [] tokens = record { tokens = []; read = white_skipped (place_after first_place done) (10 ∷ []) [] (refl, tt) ∙ nothing (place_after (place_after first_place done) (10 ∷ [])); are_cells = tt; places = refl }
reads done before (c ∷ cs) tokens =
    let h : (is_token c.bytes ≡ true) × (are_tokens cs ≡ true) = both (is_token c.bytes) (are_tokens cs) tokens in
    next_cell done before c cs (alone c.bytes h.0) h.1 (reads ((done ++ gap before c.bytes) ++ c.bytes) (behind before c.bytes) cs h.1)

-- ---- the law

pub has_cells : (cells : List Cell) → are_tokens cells ≡ true → HasCells (laid_out cells) cells (stretches_of cells)
has_cells cells tokens =
    let r : Reads [] first cells = reads [] first cells tokens in
    record {
      tokens = record { list = r.tokens; end = between (place_after first_place (laid_out cells)) (place_after first_place (laid_out cells)) };
      lexed_as = ap (ended (laid_out cells)) r.read;
      are_cells = r.are_cells;
      places = r.places;
    }
