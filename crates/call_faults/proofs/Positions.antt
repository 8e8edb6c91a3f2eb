-- The number of a token in whose place others stand.
use Rattle.std.proofs.Common.{◌≡◌, ℕ, suc, ◌+◌, ◌-◌, ◌<◌, Bool, true, false, List, [], ◌∷◌, ◌++◌, length, refl, sym, ap, ◌∙◌, append_assoc, arith, length-append, if◌then◌else◌}
use Rattle.std.specs.Prelude.{nat_lt}
use Rattle.std.proofs.lemmas.Bool.Decides.{nat_tests}
use Rattle.std.proofs.lemmas.List.{length-map}
use Rattle.java_lex.specs.declared.token.Token.{Token}
use Rattle.java_grammar.specs.Marks.{Tok, tokens_of, all_strict}
use Rattle.call_reader.specs.SpelledOut.{Spot, Elsewhere, behind, in_place, number_from}
use Rattle.call_reader.specs.SpelledOut as plain
use Rattle.call_faults.specs.Larger.{marked, put, spelled_from}
use Rattle.call_faults.proofs.Spelling.{part, spot_behind}

-- joined lists that are joined otherwise, too
data Overlap (ps more fs rs : List Tok) : Type 0 where
  whole : (m : List Tok) → fs ≡ ps ++ m → more ≡ m ++ rs → Overlap ps more fs rs
  within : (x : Tok) (b : List Tok) → ps ≡ fs ++ x ∷ b → rs ≡ x ∷ (b ++ more) → Overlap ps more fs rs

overlap_more : (p f : Tok) (ps more fs rs : List Tok) → p ≡ f → Overlap ps more fs rs → Overlap (p ∷ ps) more (f ∷ fs) rs
overlap_more p f ps more fs rs is (whole m e g) = whole m (cc) g
overlap_more p f ps more fs rs is (within x b e g) = within x b (cc) g

overlap : (ps more fs rs : List Tok) → ps ++ more ≡ fs ++ rs → Overlap ps more fs rs
overlap [] more fs rs e = whole fs refl e
overlap (p ∷ ps) more [] rs e = within p ps refl (sym e)
overlap (p ∷ ps) more (f ∷ fs) rs e = let is : p ≡ f = cc in let others : ps ++ more ≡ fs ++ rs = cc in overlap_more p f ps more fs rs is (overlap ps more fs rs others)

-- how many tokens stand before it
abbrev count : Spot → List Tok → List Tok → ℕ
count spot us fs = number_from spot (tokens_of us) (length fs)

-- Where tokens that are spelled out are cut: at the end, or in place of a token.
pub data Position (spot : Spot) (us fs rs : List Tok) : Type 0 where
  at_end : fs ≡ spelled_from spot us → rs ≡ [] → number_from spot (tokens_of us) (length fs) ≡ length us → Position spot us fs rs
  at_token : (front : List Tok) (t : Tok) (rest a : List Tok) (x : Tok) (b more : List Tok) → us ≡ front ++ t ∷ rest → number_from spot (tokens_of us) (length fs) ≡ length front → fs ≡ part spot front (t ∷ rest) ++ a
      → put (spot_behind spot front (t ∷ rest)) t rest ≡ a ++ x ∷ b → rs ≡ x ∷ (b ++ more) → Position spot us fs rs

number_within : (spot : Spot) (t : Tok) (us fs : List Tok) (x : Tok) (b : List Tok) → put spot t us ≡ fs ++ x ∷ b → number_from spot (tokens_of (t ∷ us)) (length fs) ≡ 0
number_within spot t us fs x b e =
    let less : length fs < length (in_place spot t.token (tokens_of us)) = omega (arith, length-map (in_place spot t.token (tokens_of us)) (marked t.strict), ap length e, length-append fs (x ∷ b)) in
    let test : nat_lt (length fs) (length (in_place spot t.token (tokens_of us))) ≡ true = grind (arith, nat_tests, less) in
    ap (λ (v : Bool). if v then 0 else suc (number_from (behind spot t.token.node (tokens_of us)) (tokens_of us) (length fs - length (in_place spot t.token (tokens_of us))))) test

number_whole : (spot : Spot) (t : Tok) (us fs m : List Tok) → fs ≡ put spot t us ++ m → number_from spot (tokens_of (t ∷ us)) (length fs) ≡ suc (number_from (behind spot t.token.node (tokens_of us)) (tokens_of us) (length m))
number_whole spot t us fs m e =
    let size : length fs ≡ length (in_place spot t.token (tokens_of us)) + length m = omega (arith, length-map (in_place spot t.token (tokens_of us)) (marked t.strict), ap length e, length-append (put spot t us) m) in
    let test : nat_lt (length fs) (length (in_place spot t.token (tokens_of us))) ≡ false = grind (arith, nat_tests, size) in
    let left : length fs - length (in_place spot t.token (tokens_of us)) ≡ length m = omega (arith, size) in
    ap (λ (v : Bool). if v then 0 else suc (number_from (behind spot t.token.node (tokens_of us)) (tokens_of us) (length fs - length (in_place spot t.token (tokens_of us))))) test
    ∙ ap (λ (k : ℕ). suc (number_from (behind spot t.token.node (tokens_of us)) (tokens_of us) k)) left

further : (spot : Spot) (t : Tok) (us fs m rs : List Tok) → fs ≡ put spot t us ++ m → Position (behind spot t.token.node (tokens_of us)) us m rs → Position spot (t ∷ us) fs rs
further spot t us fs m rs e (at_end is none n) = at_end (e ∙ ap (λ (xs : List Tok). put spot t us ++ xs) is) none (number_whole spot t us fs m e ∙ ap suc n)
further spot t us fs m rs e (at_token front u rest a x b more is n parts puts others) =
    let next = λ (vs : List Tok). behind spot t.token.node (tokens_of vs) in
    at_token (t ∷ front) u rest a x b more (ap (λ (vs : List Tok). t ∷ vs) is) (number_whole spot t us fs m e ∙ ap suc n)
    (e ∙ ap (λ (xs : List Tok). put spot t us ++ xs) parts ∙ ap (λ (vs : List Tok). put spot t vs ++ (part (next vs) front (u ∷ rest) ++ a)) is
    ∙ sym (append_assoc (put spot t (front ++ u ∷ rest)) (part (next (front ++ u ∷ rest)) front (u ∷ rest)) a))
    (ap (λ (vs : List Tok). put (spot_behind (next vs) front (u ∷ rest)) u rest) (sym is) ∙ puts) others

pub position : (us : List Tok) (spot : Spot) (fs rs : List Tok) → spelled_from spot us ≡ fs ++ rs → Position spot us fs rs
position [] spot [] rs e = at_end refl (sym e) refl
position [] spot (f ∷ fs) rs e = absurd cc
position (t ∷ us) spot fs rs e = by (overlap (put spot t us) (spelled_from (behind spot t.token.node (tokens_of us)) us) fs rs e) (λ m h. position us (behind spot t.token.node (tokens_of us)) m rs h)
  where
    by : Overlap (put spot t us) (spelled_from (behind spot t.token.node (tokens_of us)) us) fs rs
        → ((m : List Tok) → spelled_from (behind spot t.token.node (tokens_of us)) us ≡ m ++ rs → Position (behind spot t.token.node (tokens_of us)) us m rs) → Position spot (t ∷ us) fs rs
    by (whole m is h) again = further spot t us fs m rs is (again m h)
    by (within x b is h) again = at_token [] t us fs x b (spelled_from (behind spot t.token.node (tokens_of us)) us) refl (number_within spot t us fs x b is) refl is h

-- ---- strict tokens

pub tokens_strict : (ts : List Token) → tokens_of (all_strict ts) ≡ ts
tokens_strict [] = refl
tokens_strict (t ∷ ts) = ap (λ (us : List Token). t ∷ us) (tokens_strict ts)

pub strict_append : (us vs : List Token) → all_strict (us ++ vs) ≡ all_strict us ++ all_strict vs
strict_append [] vs = refl
strict_append (u ∷ us) vs = ap (λ (ts : List Tok). marked true u ∷ ts) (strict_append us vs)

pub strict_spelled : (spot : Spot) (ts : List Token) → spelled_from spot (all_strict ts) ≡ all_strict (plain.spelled_from spot ts)
strict_spelled spot [] = refl
strict_spelled spot (t ∷ ts) =
    ap (λ (us : List Token). all_strict (in_place spot t us) ++ spelled_from (behind spot t.node us) (all_strict ts)) (tokens_strict ts)
    ∙ ap (λ (us : List Tok). all_strict (in_place spot t ts) ++ us) (strict_spelled (behind spot t.node ts) ts)
    ∙ sym (strict_append (in_place spot t ts) (plain.spelled_from (behind spot t.node ts) ts))

-- strict tokens that are cut at one of them
pub record Parted (ts : List Token) (us : List Tok) (x : Tok) (vs : List Tok) : Type 0 where
  pub front : List Token
  pub token : Token
  pub rest : List Token
  pub is : ts ≡ front ++ token ∷ rest
  pub front_is : us ≡ all_strict front
  pub token_is : x ≡ marked true token
  pub rest_is : vs ≡ all_strict rest

parted_more : (t : Token) (u : Tok) (ts : List Token) (us : List Tok) (x : Tok) (vs : List Tok) → u ≡ marked true t → Parted ts us x vs → Parted (t ∷ ts) (u ∷ us) x vs
parted_more t u ts us x vs same r = record {
  front = t ∷ r.front;
  token = r.token;
  rest = r.rest;
  is = ap (λ (ks : List Token). t ∷ ks) r.is;
  front_is = ap (λ (w : Tok). w ∷ us) same ∙ ap (λ (ws : List Tok). marked true t ∷ ws) r.front_is;
  token_is = r.token_is;
  rest_is = r.rest_is;
}

pub parted : (ts : List Token) (us : List Tok) (x : Tok) (vs : List Tok) → all_strict ts ≡ us ++ x ∷ vs → Parted ts us x vs
parted [] [] x vs e = absurd cc
parted [] (u ∷ us) x vs e = absurd cc
parted (t ∷ ts) [] x vs e = record { front = []; token = t; rest = ts; is = refl; front_is = refl; token_is = cc; rest_is = cc }
parted (t ∷ ts) (u ∷ us) x vs e =
    let others : all_strict ts ≡ us ++ x ∷ vs = cc in
    let same : u ≡ marked true t = cc in
    parted_more t u ts us x vs same (parted ts us x vs others)

pub strict_first : (ts : List Token) (x : Tok) (vs : List Tok) → all_strict ts ≡ x ∷ vs → (k : Token) × (ks : List Token) × (ts ≡ k ∷ ks) × (x ≡ marked true k)
strict_first [] x vs e = absurd cc
strict_first (t ∷ ts) x vs e = (t, ts, refl, cc)

pub tokens_same : (us : List Tok) (x y : Tok) (vs : List Tok) → x.token ≡ y.token → tokens_of (us ++ x ∷ vs) ≡ tokens_of (us ++ y ∷ vs)
tokens_same [] x y vs e = ap (λ (k : Token). k ∷ tokens_of vs) e
tokens_same (u ∷ us) x y vs e = ap (λ (ks : List Token). u.token ∷ ks) (tokens_same us x y vs e)
