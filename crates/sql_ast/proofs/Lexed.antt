-- What is read from bytes is spelled there.
use Rattle.std.proofs.Common.{◌≡◌, ℕ, zero, suc, ◌+◌, ◌-◌, ◌<◌, ◌≤◌, Bool, true, false, cond, ◌&&◌, List, [], ◌∷◌, ◌++◌, take, drop, Option, Some, None, nat_eq, nat_le, refl, sym, ap, ◌∙◌, subst, arith}
use Rattle.std.specs.Char.{is_ascii_digit}
use Rattle.std.specs.List.{prefix_len, list_all}
use Rattle.std.proofs.lemmas.Bool.Decides.{nat_tests}
use Rattle.std.proofs.lemmas.List.{take-append-drop}
use Rattle.sql_ast.specs.declared.tree.Cmp.TheVariants as tests
use Rattle.sql_ast.specs.Canonical.{doubled}
use Rattle.sql_ast.specs.Lexer.{onto, quoted_at, word_at, digits_at, negative_at, param_at, after_less, after_greater, after_mark, sign_at, token_at, tokens_in}
use Rattle.sql_ast.specs.Names.{◌>>=◌}
use Rattle.qbs_base.specs.Bytes.{is_white, is_name_start, is_name_part}
use Rattle.sql_ast.specs.Tokens.{Token, Word, Digits, Negative, Quoted, Param, Test, Open, Close, Comma, Dot, Star, HasSpelling, word, digits, negative, quoted, param, test, unlike, opened, closed, comma, dot, star, first_is, goes_on, HasTokens, nothing, blank, token}
use Rattle.sql_ast.proofs.Tools.{some_is, bind_some, passed}

prefix_all : (p : ℕ → Bool) (bs : List ℕ) → list_all p (take (prefix_len p bs) bs) ≡ true
prefix_all p [] = refl
prefix_all p (b ∷ bs) = go (p b) refl (prefix_all p bs)
  where
    go : (v : Bool) → p b ≡ v → list_all p (take (prefix_len p bs) bs) ≡ true → list_all p (take (cond v (1 + prefix_len p bs) 0) (b ∷ bs)) ≡ true
    go true e later = let s : 1 + prefix_len p bs ≡ suc (prefix_len p bs) = omega arith in rw s (rw e later)
    go false e later = refl

prefix_stops : (p : ℕ → Bool) (bs : List ℕ) → first_is p (drop (prefix_len p bs) bs) ≡ false
prefix_stops p [] = refl
prefix_stops p (b ∷ bs) = go (p b) refl (prefix_stops p bs)
  where
    go : (v : Bool) → p b ≡ v → first_is p (drop (prefix_len p bs) bs) ≡ false → first_is p (drop (cond v (1 + prefix_len p bs) 0) (b ∷ bs)) ≡ false
    go true e later = let s : 1 + prefix_len p bs ≡ suc (prefix_len p bs) = omega arith in rw s later
    go false e later = e

same_nat : (m n : ℕ) → nat_eq m n ≡ true → m ≡ n
same_nat m n h = grind (arith, nat_tests)

abbrev Text : Type 0
Text = List ℕ × List ℕ

-- a text's bytes up to its closing quote
abbrev IsQuoted : List ℕ → Text → Type 0
IsQuoted bs x = (bs ≡ (doubled x.0 ++ 39 ∷ []) ++ x.1) × (first_is (λ b. nat_eq b 39) x.1 ≡ false)

doubled_quote : (text rest : List ℕ) (bs : List ℕ) → bs ≡ (doubled text ++ 39 ∷ []) ++ rest → 39 ∷ 39 ∷ bs ≡ (doubled (39 ∷ text) ++ 39 ∷ []) ++ rest
doubled_quote text rest bs e = ap (λ (w : List ℕ). 39 ∷ 39 ∷ w) e

doubled_other : (b : ℕ) (text rest : List ℕ) (bs : List ℕ) → nat_eq b 39 ≡ false → bs ≡ (doubled text ++ 39 ∷ []) ++ rest → b ∷ bs ≡ (doubled (b ∷ text) ++ 39 ∷ []) ++ rest
doubled_other b text rest bs h e = rw h (ap (λ (w : List ℕ). b ∷ w) e)

quoted_found : (bs : List ℕ) (x : Text) → quoted_at bs ≡ Some x → IsQuoted bs x
quoted_found [] x e = absurd cc
quoted_found (b ∷ []) x e =
    let p = passed (nat_eq b 39) (let y : Option Text = Some ([], []) in y) x e in
    subst (IsQuoted (b ∷ [])) (some_is (let y : Text = ([], []) in y) x p.1) (ap (λ c. c ∷ []) (same_nat b 39 p.0), refl)
quoted_found (b ∷ c ∷ bs) x e = go (nat_eq b 39) (nat_eq c 39) refl refl e (quoted_found bs) (quoted_found (c ∷ bs))
  where
    go : (u v : Bool) → nat_eq b 39 ≡ u → nat_eq c 39 ≡ v → cond u (cond v (onto 39 (quoted_at bs)) (Some ([], c ∷ bs))) (onto b (quoted_at (c ∷ bs))) ≡ Some x → ((y : Text) → quoted_at bs ≡ Some y → IsQuoted bs y) → ((y : Text) → quoted_at (c ∷ bs) ≡ Some y → IsQuoted (c ∷ bs) y) → IsQuoted (b ∷ c ∷ bs) x
    go true true h k e later next =
        let a = bind_some (quoted_at bs) (λ y. (let z : Option Text = Some (39 ∷ y.0, y.1) in z)) x e in
        let q = later a.0 a.1 in
        subst (IsQuoted (b ∷ c ∷ bs)) (some_is (let z : Text = (39 ∷ a.0.0, a.0.1) in z) x a.2)
        (ap (λ m. m ∷ c ∷ bs) (same_nat b 39 h) ∙ ap (λ (m : ℕ). 39 ∷ m ∷ bs) (same_nat c 39 k) ∙ doubled_quote a.0.0 a.0.1 bs q.0, q.1)
    go true false h k e later next = subst (IsQuoted (b ∷ c ∷ bs)) (some_is (let z : Text = ([], c ∷ bs) in z) x e) (ap (λ m. m ∷ c ∷ bs) (same_nat b 39 h), k)
    go false v h k e later next =
        let a = bind_some (quoted_at (c ∷ bs)) (λ y. (let z : Option Text = Some (b ∷ y.0, y.1) in z)) x e in
        let q = next a.0 a.1 in
        subst (IsQuoted (b ∷ c ∷ bs)) (some_is (let z : Text = (b ∷ a.0.0, a.0.1) in z) x a.2) (doubled_other b a.0.0 a.0.1 (c ∷ bs) h q.0, q.1)

abbrev One : Type 0
One = Token × List ℕ

-- the token that was read is spelled at the front, and ends there
record IsToken (bs : List ℕ) (x : One) : Type 0 where
  pub front : List ℕ
  pub parts : bs ≡ front ++ x.1
  pub spelling : HasSpelling front x.0
  pub stop : goes_on x.0 x.1 ≡ false

abbrev one : Token → List ℕ → Option One
one t bs = Some (t, bs)

no_more : (rest : List ℕ) → first_is (λ b. false) rest ≡ false
no_more [] = refl
no_more (b ∷ bs) = refl

-- a token of one given byte
sign_is : (b : ℕ) (bs : List ℕ) (c : ℕ) (t : Token) (x : One) → nat_eq b c ≡ true → HasSpelling (c ∷ []) t → goes_on t bs ≡ false → one t bs ≡ Some x → IsToken (b ∷ bs) x
sign_is b bs c t x h s stop e = subst (IsToken (b ∷ bs)) (some_is (let z : One = (t, bs) in z) x e) (record { front = c ∷ []; parts = ap (λ m. m ∷ bs) (same_nat b c h); spelling = s; stop = stop })

-- a token of two given bytes
signs_are : (b d : ℕ) (bs : List ℕ) (c f : ℕ) (t : Token) (x : One) → nat_eq b c ≡ true → nat_eq d f ≡ true → HasSpelling (c ∷ f ∷ []) t → goes_on t bs ≡ false → one t bs ≡ Some x → IsToken (b ∷ d ∷ bs) x
signs_are b d bs c f t x h k s stop e = subst (IsToken (b ∷ d ∷ bs)) (some_is (let z : One = (t, bs) in z) x e) (record { front = c ∷ f ∷ []; parts = ap (λ m. m ∷ d ∷ bs) (same_nat b c h) ∙ ap (λ (m : ℕ). c ∷ m ∷ bs) (same_nat d f k); spelling = s; stop = stop })

less_found : (b : ℕ) (bs : List ℕ) (x : One) → nat_eq b 60 ≡ true → (let y : Option One = Some (after_less bs) in y) ≡ Some x → IsToken (b ∷ bs) x
less_found b [] x h e = sign_is b [] 60 (Test tests.Lt) x h (test {cmp = tests.Lt}) refl e
less_found b (d ∷ bs) x h e = go (nat_eq d 61) (nat_eq d 62) refl refl e
  where
    go : (u v : Bool) → nat_eq d 61 ≡ u → nat_eq d 62 ≡ v → (let y : Option One = Some (cond u (Test tests.Le, bs) (cond v (Test tests.Ne, bs) (Test tests.Lt, d ∷ bs))) in y) ≡ Some x → IsToken (b ∷ d ∷ bs) x
    go true v k l e = signs_are b d bs 60 61 (Test tests.Le) x h k (test {cmp = tests.Le}) (no_more bs) e
    go false true k l e = signs_are b d bs 60 62 (Test tests.Ne) x h l (test {cmp = tests.Ne}) (no_more bs) e
    go false false k l e = sign_is b (d ∷ bs) 60 (Test tests.Lt) x h (test {cmp = tests.Lt}) (rw (k, l) refl) e

greater_found : (b : ℕ) (bs : List ℕ) (x : One) → nat_eq b 62 ≡ true → (let y : Option One = Some (after_greater bs) in y) ≡ Some x → IsToken (b ∷ bs) x
greater_found b [] x h e = sign_is b [] 62 (Test tests.Gt) x h (test {cmp = tests.Gt}) refl e
greater_found b (d ∷ bs) x h e = go (nat_eq d 61) refl e
  where
    go : (u : Bool) → nat_eq d 61 ≡ u → (let y : Option One = Some (cond u (Test tests.Ge, bs) (Test tests.Gt, d ∷ bs)) in y) ≡ Some x → IsToken (b ∷ d ∷ bs) x
    go true k e = signs_are b d bs 62 61 (Test tests.Ge) x h k (test {cmp = tests.Ge}) (no_more bs) e
    go false k e = sign_is b (d ∷ bs) 62 (Test tests.Gt) x h (test {cmp = tests.Gt}) k e

mark_found : (b : ℕ) (bs : List ℕ) (x : One) → nat_eq b 33 ≡ true → after_mark bs ≡ Some x → IsToken (b ∷ bs) x
mark_found b [] x h e = absurd cc
mark_found b (d ∷ bs) x h e = let p = passed (nat_eq d 61) (one (Test tests.Ne) bs) x e in signs_are b d bs 33 61 (Test tests.Ne) x h p.0 unlike (no_more bs) p.1

sign_found : (b : ℕ) (bs : List ℕ) (x : One) → sign_at b bs ≡ Some x → IsToken (b ∷ bs) x
sign_found b bs x e = equal (nat_eq b 61) refl e
  where
    starred : (v : Bool) → nat_eq b 42 ≡ v → cond v (one Star bs) None ≡ Some x → IsToken (b ∷ bs) x
    starred true h e = sign_is b bs 42 Star x h star (no_more bs) e
    starred false h e = absurd cc

    dotted : (v : Bool) → nat_eq b 46 ≡ v → cond v (one Dot bs) (cond (nat_eq b 42) (one Star bs) None) ≡ Some x → IsToken (b ∷ bs) x
    dotted true h e = sign_is b bs 46 Dot x h dot (no_more bs) e
    dotted false h e = starred (nat_eq b 42) refl e

    commas : (v : Bool) → nat_eq b 44 ≡ v → cond v (one Comma bs) (cond (nat_eq b 46) (one Dot bs) (cond (nat_eq b 42) (one Star bs) None)) ≡ Some x → IsToken (b ∷ bs) x
    commas true h e = sign_is b bs 44 Comma x h comma (no_more bs) e
    commas false h e = dotted (nat_eq b 46) refl e

    closes : (v : Bool) → nat_eq b 41 ≡ v → cond v (one Close bs) (cond (nat_eq b 44) (one Comma bs) (cond (nat_eq b 46) (one Dot bs) (cond (nat_eq b 42) (one Star bs) None))) ≡ Some x → IsToken (b ∷ bs) x
    closes true h e = sign_is b bs 41 Close x h closed (no_more bs) e
    closes false h e = commas (nat_eq b 44) refl e

    opens : (v : Bool) → nat_eq b 40 ≡ v → cond v (one Open bs) (cond (nat_eq b 41) (one Close bs) (cond (nat_eq b 44) (one Comma bs) (cond (nat_eq b 46) (one Dot bs) (cond (nat_eq b 42) (one Star bs) None)))) ≡ Some x → IsToken (b ∷ bs) x
    opens true h e = sign_is b bs 40 Open x h opened (no_more bs) e
    opens false h e = closes (nat_eq b 41) refl e

    marked : (v : Bool) → nat_eq b 33 ≡ v → cond v (after_mark bs) (cond (nat_eq b 40) (one Open bs) (cond (nat_eq b 41) (one Close bs) (cond (nat_eq b 44) (one Comma bs) (cond (nat_eq b 46) (one Dot bs) (cond (nat_eq b 42) (one Star bs) None))))) ≡ Some x → IsToken (b ∷ bs) x
    marked true h e = mark_found b bs x h e
    marked false h e = opens (nat_eq b 40) refl e

    greater : (v : Bool) → nat_eq b 62 ≡ v → cond v (let y : Option One = Some (after_greater bs) in y) (cond (nat_eq b 33) (after_mark bs) (cond (nat_eq b 40) (one Open bs) (cond (nat_eq b 41) (one Close bs) (cond (nat_eq b 44) (one Comma bs) (cond (nat_eq b 46) (one Dot bs) (cond (nat_eq b 42) (one Star bs) None)))))) ≡ Some x → IsToken (b ∷ bs) x
    greater true h e = greater_found b bs x h e
    greater false h e = marked (nat_eq b 33) refl e

    less : (v : Bool) → nat_eq b 60 ≡ v → cond v (let y : Option One = Some (after_less bs) in y) (cond (nat_eq b 62) (let y : Option One = Some (after_greater bs) in y) (cond (nat_eq b 33) (after_mark bs) (cond (nat_eq b 40) (one Open bs) (cond (nat_eq b 41) (one Close bs) (cond (nat_eq b 44) (one Comma bs) (cond (nat_eq b 46) (one Dot bs) (cond (nat_eq b 42) (one Star bs) None))))))) ≡ Some x → IsToken (b ∷ bs) x
    less true h e = less_found b bs x h e
    less false h e = greater (nat_eq b 62) refl e

    equal : (v : Bool) → nat_eq b 61 ≡ v → cond v (one (Test tests.Eq) bs) (cond (nat_eq b 60) (let y : Option One = Some (after_less bs) in y) (cond (nat_eq b 62) (let y : Option One = Some (after_greater bs) in y) (cond (nat_eq b 33) (after_mark bs) (cond (nat_eq b 40) (one Open bs) (cond (nat_eq b 41) (one Close bs) (cond (nat_eq b 44) (one Comma bs) (cond (nat_eq b 46) (one Dot bs) (cond (nat_eq b 42) (one Star bs) None)))))))) ≡ Some x → IsToken (b ∷ bs) x
    equal true h e = sign_is b bs 61 (Test tests.Eq) x h (test {cmp = tests.Eq}) (no_more bs) e
    equal false h e = less (nat_eq b 60) refl e

param_digit : (b : ℕ) → (nat_le 49 b && nat_le b 57) ≡ true → (49 + (b - 49) ≡ b) × (b - 49 < 9) × (suc (b - 49) ≡ b - 48)
param_digit b h = let l : 49 ≤ b = grind (arith, nat_tests, h) in let g : b ≤ 57 = grind (arith, nat_tests, h) in (omega (arith, l), omega (arith, l, g), omega (arith, l))

param_found : (b : ℕ) (bs : List ℕ) (x : One) → nat_eq b 63 ≡ true → param_at bs ≡ Some x → IsToken (b ∷ bs) x
param_found b [] x h e = absurd cc
param_found b (d ∷ bs) x h e =
    let p = passed (nat_le 49 d && nat_le d 57) (one (Param (d - 48)) bs) x e in
    let n = param_digit d p.0 in
    let here : IsToken (b ∷ d ∷ bs) (Param (suc (d - 49)), bs) = record { front = 63 ∷ (49 + (d - 49)) ∷ []; parts = ap (λ m. m ∷ d ∷ bs) (same_nat b 63 h) ∙ ap (λ (m : ℕ). 63 ∷ m ∷ bs) (sym n.0); spelling = param n.1; stop = no_more bs } in
    subst (IsToken (b ∷ d ∷ bs)) (ap (λ m. (let z : One = (Param m, bs) in z)) n.2 ∙ some_is (let z : One = (Param (d - 48), bs) in z) x p.1) here

negative_found : (b : ℕ) (bs : List ℕ) (x : One) → nat_eq b 45 ≡ true → negative_at bs ≡ Some x → IsToken (b ∷ bs) x
negative_found b [] x h e = absurd cc
negative_found b (d ∷ bs) x h e =
    let n = prefix_len is_ascii_digit bs in
    let p = passed (is_ascii_digit d) (one (Negative (d ∷ take n bs)) (drop n bs)) x e in
    let here : IsToken (b ∷ d ∷ bs) (Negative (d ∷ take n bs), drop n bs) = record { front = 45 ∷ d ∷ take n bs; parts = ap (λ m. m ∷ d ∷ bs) (same_nat b 45 h) ∙ ap (λ (w : List ℕ). 45 ∷ d ∷ w) (sym (take-append-drop n bs)); spelling = negative (rw p.0 (prefix_all is_ascii_digit bs)); stop = prefix_stops is_ascii_digit bs } in
    subst (IsToken (b ∷ d ∷ bs)) (some_is (let z : One = (Negative (d ∷ take n bs), drop n bs) in z) x p.1) here

token_found : (b : ℕ) (bs : List ℕ) (x : One) → token_at b bs ≡ Some x → IsToken (b ∷ bs) x
token_found b bs x e = words (is_name_start b) refl e
  where
    params : (v : Bool) → nat_eq b 63 ≡ v → cond v (param_at bs) (sign_at b bs) ≡ Some x → IsToken (b ∷ bs) x
    params true h e = param_found b bs x h e
    params false h e = sign_found b bs x e

    quotes : (v : Bool) → nat_eq b 39 ≡ v → cond v (quoted_at bs >>= λ y. one (Quoted y.0) y.1) (cond (nat_eq b 63) (param_at bs) (sign_at b bs)) ≡ Some x → IsToken (b ∷ bs) x
    quotes true h e =
        let a = bind_some (quoted_at bs) (λ y. one (Quoted y.0) y.1) x e in
        let q = quoted_found bs a.0 a.1 in
        subst (IsToken (b ∷ bs)) (some_is (let z : One = (Quoted a.0.0, a.0.1) in z) x a.2) (record { front = 39 ∷ doubled a.0.0 ++ 39 ∷ []; parts = ap (λ m. m ∷ bs) (same_nat b 39 h) ∙ ap (λ (w : List ℕ). 39 ∷ w) q.0; spelling = quoted {text = a.0.0}; stop = q.1 })
    quotes false h e = params (nat_eq b 63) refl e

    minus : (v : Bool) → nat_eq b 45 ≡ v → cond v (negative_at bs) (cond (nat_eq b 39) (quoted_at bs >>= λ y. one (Quoted y.0) y.1) (cond (nat_eq b 63) (param_at bs) (sign_at b bs))) ≡ Some x → IsToken (b ∷ bs) x
    minus true h e = negative_found b bs x h e
    minus false h e = quotes (nat_eq b 39) refl e

    numbers : (v : Bool) → is_ascii_digit b ≡ v → cond v (digits_at b bs) (cond (nat_eq b 45) (negative_at bs) (cond (nat_eq b 39) (quoted_at bs >>= λ y. one (Quoted y.0) y.1) (cond (nat_eq b 63) (param_at bs) (sign_at b bs)))) ≡ Some x → IsToken (b ∷ bs) x
    numbers true h e =
        let n = prefix_len is_ascii_digit bs in
        subst (IsToken (b ∷ bs)) (some_is (let z : One = (Digits (b ∷ take n bs), drop n bs) in z) x e) (record { front = b ∷ take n bs; parts = ap (λ (w : List ℕ). b ∷ w) (sym (take-append-drop n bs)); spelling = digits (rw h (prefix_all is_ascii_digit bs)); stop = prefix_stops is_ascii_digit bs })
    numbers false h e = minus (nat_eq b 45) refl e

    words : (v : Bool) → is_name_start b ≡ v → cond v (word_at b bs) (cond (is_ascii_digit b) (digits_at b bs) (cond (nat_eq b 45) (negative_at bs) (cond (nat_eq b 39) (quoted_at bs >>= λ y. one (Quoted y.0) y.1) (cond (nat_eq b 63) (param_at bs) (sign_at b bs))))) ≡ Some x → IsToken (b ∷ bs) x
    words true h e =
        let n = prefix_len is_name_part bs in
        subst (IsToken (b ∷ bs)) (some_is (let z : One = (Word (b ∷ take n bs), drop n bs) in z) x e) (record { front = b ∷ take n bs; parts = ap (λ (w : List ℕ). b ∷ w) (sym (take-append-drop n bs)); spelling = word (rw h (prefix_all is_name_part bs)); stop = prefix_stops is_name_part bs })
    words false h e = numbers (is_ascii_digit b) refl e

pub tokens_found : (n : ℕ) (bs : List ℕ) (ts : List Token) → tokens_in n bs ≡ Some ts → HasTokens bs ts
unfolding tokens_in
tokens_found n [] ts e = subst (HasTokens []) (some_is [] ts e) nothing
tokens_found zero (b ∷ bs) ts e = absurd cc
tokens_found (suc n) (b ∷ bs) ts e = go (is_white b) refl e (tokens_found n)
  where
    go : (v : Bool) → is_white b ≡ v → cond v (tokens_in n bs) (token_at b bs >>= λ x. tokens_in n x.1 >>= λ us. (let z : Option (List Token) = Some (x.0 ∷ us) in z)) ≡ Some ts → ((cs : List ℕ) (us : List Token) → tokens_in n cs ≡ Some us → HasTokens cs us) → HasTokens (b ∷ bs) ts
    go true h e later = blank h (later bs ts e)
    go false h e later =
        let a = bind_some (token_at b bs) (λ x. tokens_in n x.1 >>= λ us. (let z : Option (List Token) = Some (x.0 ∷ us) in z)) ts e in
        let c = bind_some (tokens_in n a.0.1) (λ us. (let z : Option (List Token) = Some (a.0.0 ∷ us) in z)) ts a.2 in
        let t = token_found b bs a.0 a.1 in
        subst (HasTokens (b ∷ bs)) (some_is (a.0.0 ∷ c.0) ts c.2) (subst (λ (w : List ℕ). HasTokens w (a.0.0 ∷ c.0)) (sym t.parts) (token t.spelling t.stop (later a.0.1 c.0 c.1)))
