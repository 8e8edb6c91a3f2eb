-- Tokens that are spelled out: a part of them before others, and those of a call.
use Rattle.std.proofs.Common.{◌≡◌, ℕ, zero, suc, Bool, true, false, List, [], ◌∷◌, ◌++◌, Option, Some, None, refl, sym, ap, ◌∙◌, append_assoc, codes, if◌then◌else◌}
use Rattle.std.specs.Prelude.{map}
use Rattle.std.proofs.lemmas.List.{append-nil}
use Rattle.java_lex.specs.declared.token.Token.{Token}
use Rattle.java_lex.specs.declared.token.TokenNode.{TokenNode}
use Rattle.java_lex.specs.declared.token.TokenNode.TheVariants as tokens
use Rattle.java_grammar.specs.Marks.{Tok, tokens_of}
use Rattle.java_grammar.specs.Reading.{is_sign}
use Rattle.call_reader.specs.SpelledOut.{Spot, BehindEquals, BehindName, InCall, BehindCall, Elsewhere, behind_closing, behind_part, behind_other, behind, token_at}
use Rattle.call_faults.specs.Larger.{marked, put, spelled_from}
use Rattle.call_faults.proofs.Inner.{closed, step, run, run_none, none_of}

-- ---- before other tokens

abbrev pub part : Spot → List Tok → List Tok → List Tok
part spot [] rest = []
part spot (t ∷ ts) rest = put spot t (ts ++ rest) ++ part (behind spot t.token.node (tokens_of (ts ++ rest))) ts rest

-- where the first one behind them stands
abbrev pub spot_behind : Spot → List Tok → List Tok → Spot
spot_behind spot [] rest = spot
spot_behind spot (t ∷ ts) rest = spot_behind (behind spot t.token.node (tokens_of (ts ++ rest))) ts rest

pub spelled_parts : (spot : Spot) (us rest : List Tok) → spelled_from spot (us ++ rest) ≡ part spot us rest ++ spelled_from (spot_behind spot us rest) rest
spelled_parts spot [] rest = refl
spelled_parts spot (t ∷ us) rest =
    ap (λ (ts : List Tok). put spot t (us ++ rest) ++ ts) (spelled_parts (behind spot t.token.node (tokens_of (us ++ rest))) us rest)
    ∙ sym (append_assoc (put spot t (us ++ rest)) (part (behind spot t.token.node (tokens_of (us ++ rest))) us rest) (spelled_from (spot_behind spot (t ∷ us) rest) rest))

-- only the next token counts

pub put_ahead : (spot : Spot) (t : Tok) (u : Token) (a b : Bool) (r s : List Tok) → put spot t (marked a u ∷ r) ≡ put spot t (marked b u ∷ s)
put_ahead BehindEquals t u a b r s = refl
put_ahead (BehindName name) t u a b r s = refl
put_ahead (InCall more) t u a b r s = refl
put_ahead BehindCall t u a b r s = refl
put_ahead Elsewhere t u a b r s = refl

pub behind_ahead : (spot : Spot) (n : TokenNode) (u : Token) (a b : Bool) (r s : List Tok) → behind spot n (tokens_of (marked a u ∷ r)) ≡ behind spot n (tokens_of (marked b u ∷ s))
behind_ahead BehindEquals n u a b r s = refl
behind_ahead (BehindName name) n u a b r s = refl
behind_ahead (InCall more) n u a b r s = refl
behind_ahead BehindCall n u a b r s = refl
behind_ahead Elsewhere n u a b r s = refl

pub part_ahead : (spot : Spot) (us : List Tok) (u : Token) (a b : Bool) (r s : List Tok) → (part spot us (marked a u ∷ r) ≡ part spot us (marked b u ∷ s)) × (spot_behind spot us (marked a u ∷ r) ≡ spot_behind spot us (marked b u ∷ s))
part_ahead spot [] u a b r s = (refl, refl)
part_ahead spot (t ∷ []) u a b r s = (ap (λ (ts : List Tok). ts ++ []) (put_ahead spot t u a b r s), behind_ahead spot t.token.node u a b r s)
part_ahead spot (t ∷ v ∷ us) u a b r s =
    let one = us ++ marked a u ∷ r in
    let other = us ++ marked b u ∷ s in
    let next : behind spot t.token.node (tokens_of (v ∷ one)) ≡ behind spot t.token.node (tokens_of (v ∷ other)) = behind_ahead spot t.token.node v.token v.strict v.strict one other in
    let k = part_ahead (behind spot t.token.node (tokens_of (v ∷ other))) (v ∷ us) u a b r s in (
      ap (λ (ts : List Tok). ts ++ part (behind spot t.token.node (tokens_of (v ∷ one))) (v ∷ us) (marked a u ∷ r)) (put_ahead spot t v.token v.strict v.strict one other)
          ∙ ap (λ (ts : List Tok). put spot t (v ∷ other) ++ ts) (ap (λ (p : Spot). part p (v ∷ us) (marked a u ∷ r)) next ∙ k.0),
      ap (λ (p : Spot). spot_behind p (v ∷ us) (marked a u ∷ r)) next ∙ k.1,
    )

-- one token more
pub part_further : (spot : Spot) (us : List Tok) (t : Tok) (rest : List Tok) → part spot (us ++ t ∷ []) rest ≡ part spot us (t ∷ rest) ++ put (spot_behind spot us (t ∷ rest)) t rest
part_further spot [] t rest = append-nil (put spot t rest)
part_further spot (u ∷ us) t rest =
    let ahead : (us ++ t ∷ []) ++ rest ≡ us ++ t ∷ rest = append_assoc us (t ∷ []) rest in
    let next = behind spot u.token.node (tokens_of (us ++ t ∷ rest)) in
    ap (λ (ts : List Tok). put spot u ts ++ part (behind spot u.token.node (tokens_of ts)) (us ++ t ∷ []) rest) ahead
    ∙ ap (λ (ts : List Tok). put spot u (us ++ t ∷ rest) ++ ts) (part_further next us t rest)
    ∙ sym (append_assoc (put spot u (us ++ t ∷ rest)) (part next us (t ∷ rest)) (put (spot_behind next us (t ∷ rest)) t rest))

-- ---- in a call

abbrev spot_of : Option ℕ → Spot
spot_of None = BehindCall
spot_of (Some k) = InCall k

closing_is : (k : ℕ) → behind_closing k ≡ spot_of (closed k)
closing_is zero = refl
closing_is (suc k) = refl

pub part_is : (k : ℕ) (n : TokenNode) → behind_part k n ≡ spot_of (step (Some k) n)
part_is k n = by (is_sign (codes "(") n) (is_sign (codes ")") n)
  where
    by : (a b : Bool) → (if a then InCall (suc k) else (if b then behind_closing k else InCall k)) ≡ spot_of (if a then Some (suc k) else (if b then closed k else Some k))
    by true b = refl
    by false true = closing_is k
    by false false = refl

-- parts of a call stay
pub within : (k j : ℕ) (us more : List Tok) → run (Some k) us ≡ Some j → spelled_from (InCall k) (us ++ more) ≡ us ++ spelled_from (InCall j) more
within k j [] more h = let same : k ≡ j = cc in ap (λ (i : ℕ). spelled_from (InCall i) more) same
within k j (t ∷ us) more h = by (step (Some k) t.token.node) refl h (λ i e. within i j us more e)
  where
    by : (o : Option ℕ) → step (Some k) t.token.node ≡ o → run o us ≡ Some j → ((i : ℕ) → run (Some i) us ≡ Some j → spelled_from (InCall i) (us ++ more) ≡ us ++ spelled_from (InCall j) more)
        → t ∷ spelled_from (behind_part k t.token.node) (us ++ more) ≡ t ∷ (us ++ spelled_from (InCall j) more)
    by None e run_is again = absurd (let q : none_of ℕ ≡ Some j = sym (run_none us) ∙ run_is in cc)
    by (Some i) e run_is again =
        ap (λ (b : Spot). t ∷ spelled_from b (us ++ more)) (part_is k t.token.node ∙ ap spot_of e) ∙ ap (λ (ts : List Tok). t ∷ ts) (again i run_is)

pub behind_end : (end : Tok) (rest : List Tok) → end.token.node ≡ tokens.Sign (codes ";") → spelled_from BehindCall (end ∷ rest) ≡ end ∷ spelled_from Elsewhere rest
behind_end end rest e =
    ap (λ (n : TokenNode). map (marked end.strict) (if is_sign (codes ";") n then end.token ∷ [] else token_at end.token.span (tokens.Sign (codes "{")) ∷ []) ++ spelled_from (behind_other n) rest) e

pub behind_close : (close : Tok) (rest : List Tok) → close.token.node ≡ tokens.Sign (codes ")") → spelled_from (InCall 0) (close ∷ rest) ≡ close ∷ spelled_from BehindCall rest
behind_close close rest e = ap (λ (n : TokenNode). close ∷ spelled_from (behind_part 0 n) rest) e
