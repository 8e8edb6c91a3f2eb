-- Steps of the loops that read the tokens of a text.
use Rattle.std.proofs.Common.{◌≡◌, ℕ, zero, suc, ◌+◌, ◌-◌, ◌<◌, ◌≤◌, Bool, true, false, cond, List, [], ◌∷◌, ◌++◌, length, take, drop, Option, Some, None, refl, sym, ap, ◌∙◌, arith, append_assoc, add-one, eqb, not}
use Rattle.std.specs.Prelude.{nat_lt}
use Rattle.std.specs.List.{prefix_len, position_or_len, before_first, after_first}
use Rattle.std.proofs.lemmas.Bool.Decides.{nat_tests}
use Rattle.sql_ast.specs.Lexer.{onto, quoted_at, token_at, tokens_in}
use Rattle.sql_ast.specs.Names.{◌>>=◌}
use Rattle.qbs_base.specs.Bytes.{is_white}
use Rattle.sql_ast.specs.Tokens.{Token}
use Rattle.sql_parse.specs.Pieces.{piece_at, kept, all_read, quote_behind}
use Rattle.sql_parse.specs.declared.fault.Stop.{Stop}
use Rattle.sql_parse.specs.declared.fault.Stop.TheVariants as stops
use Rattle.sql_parse.specs.Seen.{Fails, ascii_front}
use Rattle.sql_parse.proofs.Loops.{one_less, none_left}

-- ---- a text in quotes

-- a text behind bytes that stand before
abbrev pub text_behind : List ℕ → Option (List ℕ × List ℕ) → Option (List ℕ × List ℕ)
text_behind front read = read >>= λ x. Some (front ++ x.0, x.1)

pub behind_none : (read : Option (List ℕ × List ℕ)) → text_behind [] read ≡ read
behind_none None = refl
behind_none (Some x) = refl

behind_two : (front more : List ℕ) (read : Option (List ℕ × List ℕ)) → text_behind (front ++ more) read ≡ text_behind front (text_behind more read)
behind_two front more None = refl
behind_two front more (Some x) = ap (λ (w : List ℕ). Some (w, x.1)) (append_assoc front more x.0)

-- what a quote at the front makes of a text
abbrev pub closing_by : List ℕ → Option (List ℕ) → Option (List ℕ × List ℕ)
closing_by bs (Some rest) = onto 39 (quoted_at rest)
closing_by bs None = Some ([], bs)

abbrev pub closing : List ℕ → Option (List ℕ × List ℕ)
closing bs = closing_by bs (quote_behind bs)

behind_is : (c : ℕ) (bs : List ℕ) (v : Bool) → eqb c 39 ≡ v → quote_behind (c ∷ bs) ≡ cond v (Some bs) None
behind_is c bs v e = rw e refl

quoted_is : (c : ℕ) (bs : List ℕ) (v : Bool) → eqb c 39 ≡ v → quoted_at (39 ∷ c ∷ bs) ≡ cond v (onto 39 (quoted_at bs)) (Some ([], c ∷ bs))
quoted_is c bs v e = rw e refl

at_quote : (bs : List ℕ) → quoted_at (39 ∷ bs) ≡ closing bs
at_quote [] = refl
at_quote (c ∷ bs) = by (eqb c 39) refl
  where
    by : (v : Bool) → eqb c 39 ≡ v → quoted_at (39 ∷ c ∷ bs) ≡ closing (c ∷ bs)
    by true e = quoted_is c bs true e ∙ sym (ap (closing_by (c ∷ bs)) (behind_is c bs true e))
    by false e = quoted_is c bs false e ∙ sym (ap (closing_by (c ∷ bs)) (behind_is c bs false e))

pass_byte : (b : ℕ) (bs : List ℕ) → eqb b 39 ≡ false → quoted_at (b ∷ bs) ≡ onto b (quoted_at bs)
pass_byte b [] e = rw e refl
pass_byte b (c ∷ bs) e = rw e refl

onto_is : (b : ℕ) (read : Option (List ℕ × List ℕ)) → onto b read ≡ text_behind (b ∷ []) read
onto_is b None = refl
onto_is b (Some x) = refl

-- up to the first quote
pub up_to_quote : (bs : List ℕ) (n : ℕ) → position_or_len (λ b. eqb b 39) bs ≡ n → n < length bs → quoted_at bs ≡ text_behind (take n bs) (closing (drop (suc n) bs))
up_to_quote [] n e lt = absurd (omega (arith, lt))
up_to_quote (b ∷ bs) zero e lt = go (eqb b 39) refl
  where
    go : (v : Bool) → eqb b 39 ≡ v → quoted_at (b ∷ bs) ≡ text_behind [] (closing bs)
    go true h = let same : b ≡ 39 = grind (arith, nat_tests, h) in ap (λ (x : ℕ). quoted_at (x ∷ bs)) same ∙ at_quote bs ∙ sym (behind_none (closing bs))
    go false h = absurd (let y : 1 + prefix_len (λ x. not (eqb x 39)) bs ≡ 0 = rw h at e in omega (arith, y))
up_to_quote (b ∷ bs) (suc n) e lt = go (eqb b 39) refl (λ h. up_to_quote bs n h (omega (arith, lt)))
  where
    go : (v : Bool) → eqb b 39 ≡ v → (prefix_len (λ x. not (eqb x 39)) bs ≡ n → quoted_at bs ≡ text_behind (take n bs) (closing (drop (suc n) bs))) → quoted_at (b ∷ bs) ≡ text_behind (b ∷ take n bs) (closing (drop (suc n) bs))
    go true h again = absurd (let z : 0 ≡ suc n = rw h at e in omega (arith, z))
    go false h again =
        let z : prefix_len (λ x. not (eqb x 39)) bs ≡ n = (let y : 1 + prefix_len (λ x. not (eqb x 39)) bs ≡ suc n = rw h at e in omega (arith, y)) in
        pass_byte b bs h ∙ ap (onto b) (again z) ∙ onto_is b (text_behind (take n bs) (closing (drop (suc n) bs))) ∙ sym (behind_two (b ∷ []) (take n bs) (closing (drop (suc n) bs)))

pub no_quote : (bs : List ℕ) → position_or_len (λ b. eqb b 39) bs ≡ length bs → quoted_at bs ≡ None
no_quote [] e = refl
no_quote (b ∷ bs) e = go (eqb b 39) refl (λ h. no_quote bs h)
  where
    go : (v : Bool) → eqb b 39 ≡ v → (prefix_len (λ x. not (eqb x 39)) bs ≡ length bs → quoted_at bs ≡ None) → quoted_at (b ∷ bs) ≡ None
    go true h again = absurd (let z : 0 ≡ length (b ∷ bs) = rw h at e in omega (arith, z))
    go false h again = let z : prefix_len (λ x. not (eqb x 39)) bs ≡ length bs = (let y : 1 + prefix_len (λ x. not (eqb x 39)) bs ≡ length (b ∷ bs) = rw h at e in omega (arith, y)) in pass_byte b bs h ∙ ap (onto b) (again z)

-- a step of the loop: the parts around the first quote
parted : (bs before after : List ℕ) → position_or_len (λ b. eqb b 39) bs < length bs → before ≡ before_first (λ b. eqb b 39) bs → after ≡ after_first (λ b. eqb b 39) bs → quoted_at bs ≡ text_behind before (closing after)
parted bs before after lt first second = rw (first, second, add-one) (up_to_quote bs _ refl lt)

pub quote_goes_on : (out bs before after rest : List ℕ) (whole : Option (List ℕ × List ℕ)) → position_or_len (λ b. eqb b 39) bs < length bs → before ≡ before_first (λ b. eqb b 39) bs → after ≡ after_first (λ b. eqb b 39) bs
    → quote_behind after ≡ Some rest → text_behind out (quoted_at bs) ≡ whole → text_behind ((out ++ before) ++ 39 ∷ []) (quoted_at rest) ≡ whole
quote_goes_on out bs before after rest whole lt first second quote e =
    behind_two (out ++ before) (39 ∷ []) (quoted_at rest)
    ∙ ap (text_behind (out ++ before)) (sym (onto_is 39 (quoted_at rest)) ∙ sym (ap (closing_by after) quote))
    ∙ behind_two out before (closing after)
    ∙ ap (text_behind out) (sym (parted bs before after lt first second))
    ∙ e

pub quote_closes : (out bs before after : List ℕ) (whole : Option (List ℕ × List ℕ)) → position_or_len (λ b. eqb b 39) bs < length bs → before ≡ before_first (λ b. eqb b 39) bs → after ≡ after_first (λ b. eqb b 39) bs
    → quote_behind after ≡ None → text_behind out (quoted_at bs) ≡ whole → whole ≡ Some (out ++ before, after)
quote_closes out bs before after whole lt first second quote e =
    sym e
    ∙ ap (text_behind out) (parted bs before after lt first second ∙ ap (λ q. text_behind before (closing_by after q)) quote)
    ∙ ap (λ (w : List ℕ). Some (out ++ w, after)) (append_none before)
  where
    append_none : (w : List ℕ) → w ++ [] ≡ w
    append_none [] = refl
    append_none (b ∷ w) = ap (λ (v : List ℕ). b ∷ v) (append_none w)

pub quote_stays_open : (out bs : List ℕ) (whole : Option (List ℕ × List ℕ)) → position_or_len (λ b. eqb b 39) bs ≡ length bs → text_behind out (quoted_at bs) ≡ whole → whole ≡ None
quote_stays_open out bs whole none e = sym e ∙ ap (text_behind out) (no_quote bs none)

-- ---- all tokens

abbrev pub tokens_behind : List Token → Option (List Token) → Option (List Token)
tokens_behind front read = read >>= λ ts. Some (front ++ ts)

pub tokens_begin : (read : Option (List Token)) → tokens_behind [] read ≡ read
tokens_begin None = refl
tokens_begin (Some ts) = refl

kept_more : (front : List Token) (t : Token) (read : Option (List Token)) → tokens_behind (front ++ t ∷ []) read ≡ tokens_behind front (read >>= λ ts. Some (t ∷ ts))
kept_more front t None = refl
kept_more front t (Some ts) = ap (λ (w : List Token). Some w) (append_assoc front (t ∷ []) ts)

same_parts : (c : ℕ) (cs : List ℕ) (b : ℕ) (bs : List ℕ) → ◌≡◌ {A = Option (ℕ × List ℕ)} (Some (c, cs)) (Some (b, bs)) → c ∷ cs ≡ b ∷ bs
same_parts c cs b bs e = let p : ◌≡◌ {A = ℕ × List ℕ} (c, cs) (b, bs) = cc in ap (λ (x : ℕ × List ℕ). x.0 ∷ x.1) p

not_some : (b : ℕ) (bs : List ℕ) → ◌≡◌ {A = Option (ℕ × List ℕ)} None (Some (b, bs)) → ⊥
not_some b bs e = cc

front_is : (rest : List ℕ) (b : ℕ) (after : List ℕ) → ascii_front rest ≡ Some (b, after) → rest ≡ b ∷ after
front_is [] b after e = absurd (not_some b after e)
front_is (c ∷ cs) b after e = by (nat_lt c 128) refl
  where
    by : (v : Bool) → nat_lt c 128 ≡ v → c ∷ cs ≡ b ∷ after
    by true h = same_parts c cs b after (rw h at e)
    by false h = absurd (not_some b after (rw h at e))

-- the tokens behind a piece
abbrev pub behind_piece : ℕ → Option Token × List ℕ → Option (List Token)
behind_piece n x = tokens_in n x.1 >>= λ ts. Some (kept x.0 ++ ts)

one_piece : (n i b : ℕ) (bs : List ℕ) → i < n → tokens_in (n - i) (b ∷ bs) ≡ (piece_at b bs >>= behind_piece (n - (i + 1)))
unfolding piece_at tokens_in
one_piece n i b bs h = rw (one_less n i h) (by (is_white b) refl)
  where
    again : (m : ℕ) (read : Option (List Token)) → read ≡ (read >>= λ ts. Some ts)
    again m None = refl
    again m (Some ts) = refl

    split : (m : ℕ) (read : Option (Token × List ℕ)) → (read >>= λ x. tokens_in m x.1 >>= λ ts. Some (x.0 ∷ ts)) ≡ ((read >>= λ x. Some (Some x.0, x.1)) >>= behind_piece m)
    split m None = refl
    split m (Some x) = refl

    by : (v : Bool) → is_white b ≡ v → tokens_in (suc (n - (i + 1))) (b ∷ bs) ≡ (piece_at b bs >>= behind_piece (n - (i + 1)))
    by true e = rw e (again 0 (tokens_in (n - (i + 1)) bs))
    by false e = rw e (split (n - (i + 1)) (token_at b bs))

pub lex_goes_on : (front : List Token) (n i b : ℕ) (rest after next : List ℕ) (t : Option Token) (whole : Option (List Token))
    → i < n → ascii_front rest ≡ Some (b, after) → piece_at b after ≡ Some (t, next) → tokens_behind front (tokens_in (n - i) rest) ≡ whole
    → tokens_behind (front ++ kept t) (tokens_in (n - (i + 1)) next) ≡ whole
lex_goes_on front n i b rest after next t whole h first piece e =
    more t
    ∙ ap (λ r. tokens_behind front (r >>= behind_piece (n - (i + 1)))) (sym piece)
    ∙ ap (tokens_behind front) (sym (one_piece n i b after h) ∙ ap (tokens_in (n - i)) (sym (front_is rest b after first)))
    ∙ e
  where
    all : (read : Option (List Token)) → tokens_behind (front ++ []) read ≡ tokens_behind front (read >>= λ ts. Some ts)
    all None = refl
    all (Some ts) = ap (λ (w : List Token). Some w) (append_assoc front [] ts)

    more : (u : Option Token) → tokens_behind (front ++ kept u) (tokens_in (n - (i + 1)) next) ≡ tokens_behind front (behind_piece (n - (i + 1)) (u, next))
    more None = all (tokens_in (n - (i + 1)) next)
    more (Some u) = kept_more front u (tokens_in (n - (i + 1)) next)

pub lex_fails : (front : List Token) (n i b : ℕ) (rest after : List ℕ) (whole : Option (List Token))
    → i < n → ascii_front rest ≡ Some (b, after) → piece_at b after ≡ None → tokens_behind front (tokens_in (n - i) rest) ≡ whole → whole ≡ None
lex_fails front n i b rest after whole h first piece e =
    sym e ∙ ap (tokens_behind front) (ap (tokens_in (n - i)) (front_is rest b after first) ∙ one_piece n i b after h) ∙ ap (λ r. tokens_behind front (r >>= behind_piece (n - (i + 1)))) piece

pub lex_fails_by : (front : List Token) (n i b : ℕ) (rest after : List ℕ) (whole : Option (List Token)) (e : Stop)
    → i < n → ascii_front rest ≡ Some (b, after) → Fails e (piece_at b after) → tokens_behind front (tokens_in (n - i) rest) ≡ whole → Fails e whole
lex_fails_by front n i b rest after whole stops.NoMemory h first piece e = tt
lex_fails_by front n i b rest after whole stops.Broken h first piece e = lex_fails front n i b rest after whole h first piece e

no_more : (w : List Token) → w ++ [] ≡ w
no_more [] = refl
no_more (t ∷ w) = ap (λ (v : List Token). t ∷ v) (no_more w)

no_token : (b : ℕ) (bs : List ℕ) → nat_lt b 128 ≡ false → (is_white b ≡ false) × (token_at b bs ≡ None)
no_token b bs h =
    let large : 128 ≤ b = grind (arith, nat_tests, h) in
    (grind (arith, nat_tests, h), grind (arith, nat_tests, h))

pub lex_stops : (front : List Token) (n i : ℕ) (rest : List ℕ) (whole : Option (List Token)) → i < n → ascii_front rest ≡ None → tokens_behind front (tokens_in (n - i) rest) ≡ whole → whole ≡ all_read front rest
unfolding tokens_in
lex_stops front n i [] whole h first e = sym e ∙ ap (λ (w : List Token). Some w) (no_more front)
lex_stops front n i (b ∷ rest) whole h first e = by (nat_lt b 128) refl
  where
    by : (v : Bool) → nat_lt b 128 ≡ v → whole ≡ None
    by true g = absurd (not_some b rest (sym (rw g at first)))
    by false g = let p = no_token b rest g in sym e ∙ rw (one_less n i h, p.0, p.1) refl

pub lex_runs_out : (front : List Token) (n i : ℕ) (rest : List ℕ) (whole : Option (List Token)) → n ≤ i → tokens_behind front (tokens_in (n - i) rest) ≡ whole → whole ≡ all_read front rest
unfolding tokens_in
lex_runs_out front n i [] whole h e = sym e ∙ ap (λ (w : List Token). Some w) (no_more front)
lex_runs_out front n i (b ∷ rest) whole h e = sym e ∙ rw (none_left n i h) refl
