-- The fault that is kept at the tokens that are spelled out is the one of the larger grammar.
use Rattle.std.proofs.Common.{◌≡◌, ℕ, Bool, true, false, List, [], ◌∷◌, ◌++◌, length, Option, Some, None, Err, refl, sym, ap, subst, ◌∙◌, append_assoc, codes, if◌then◌else◌, inl, inr, ◌⊎◌}
use Rattle.std.specs.Prelude.{pred, map}
use Rattle.std.proofs.lemmas.List.{append-nil, length-map}
use Rattle.qbs_base.specs.declared.memory.Fail.TheVariants as fails
use Rattle.qbs_base.specs.declared.scalar.Scalar.TheVariants as scalars
use Rattle.qbs_base.specs.declared.span.Span.{Span}
use Rattle.java_lex.specs.declared.token.Token.{Token}
use Rattle.java_lex.specs.declared.token.Tokens.{Tokens}
use Rattle.java_lex.specs.declared.token.TokenNode.{TokenNode}
use Rattle.java_lex.specs.declared.token.TokenNode.TheVariants as tokens
use Rattle.java_ast.specs.Tree.{Expression, Expressions, NoMore, PlainProgram}
use Rattle.java_grammar.specs.Marks.{Tok, strictly, freely, tokens_of, all_strict, nowhere}
use Rattle.java_grammar.specs.Faults.{Begins, IsUnexpected, IsTooDeep}
use Rattle.java_grammar.specs.Words.{variable_in, text_in}
use Rattle.java_grammar.specs.Reading.{is_sign}
use Rattle.java_grammar.specs.Expressions.{ranks, HasArguments, no_more, one_more, HasRank, literal, atom, parts, variable}
use Rattle.java_grammar.specs.Grammar.{HasProgram}
use Rattle.java_parser.specs.declared.fault.ParseRule.{ParseRule}
use Rattle.java_parser.specs.declared.fault.ParseRule.TheVariants as rules
use Rattle.java_parser.specs.declared.fault.ParseFault.{ParseFault}
use Rattle.java_parser.specs.Kept.{IsBroken, IsKept}
use Rattle.call_reader.specs.SpelledOut.{Spot, BehindEquals, BehindName, InCall, BehindCall, Elsewhere, begins_with, if_opened, called, behind, token_at, comma_unless, query_or_token, in_place, spelled_out, number_from, number_of}
use Rattle.call_reader.specs.WithCalls.{IsReadableWithCalls, IsFaultWithCalls, parsed_with_calls}
use Rattle.call_reader.proofs.Answered.{read_is_fault}
use Rattle.call_faults.specs.Larger.{marked, put, spelled_from, HasProgramWithCalls}
use Rattle.call_faults.proofs.Heads.{Query, first_query}
use Rattle.call_faults.proofs.Focus.{Focus, Some_of, value_behind}
use Rattle.call_faults.proofs.Spelling.{part, spot_behind, spelled_parts, part_ahead, part_further}
use Rattle.call_faults.proofs.Calls.{IsOpen, Ends, Call, lone_rank, has_query, focus}
use Rattle.call_faults.proofs.Goes.{At, Fits}
use Rattle.call_faults.proofs.Onward.{opening, closing, at_next, fits_next, FitsFirst, begins_with_calls}
use Rattle.call_faults.proofs.Positions.{Position, at_end, at_token, position, tokens_strict, strict_append, strict_spelled, Parted, parted, strict_first, tokens_same}

begins_less : (us vs : List Tok) → Begins HasProgram (us ++ vs) → Begins HasProgram us
begins_less us vs b = (vs ++ b.0, b.1, subst (λ (xs : List Tok). HasProgram xs b.1) (append_assoc us vs b.0) b.2)

-- ---- the spot behind tokens

record Stands (spot : Spot) (us : List Tok) (t : Tok) : Type 0 where
  at : At spot us
  fits : Fits spot t

first_fits : (spot : Spot) (n : TokenNode) (front : List Tok) (t : Tok) (rest : List Tok) → FitsFirst (behind spot n (tokens_of (front ++ t ∷ rest))) (front ++ t ∷ rest)
first_fits spot n [] t rest = fits_next spot n t rest
first_fits spot n (u ∷ front) t rest = fits_next spot n u (front ++ t ∷ rest)

stands_behind : (front : List Tok) (spot : Spot) (done : List Tok) (t : Tok) (rest more : List Tok) (p : PlainProgram) → At spot done → FitsFirst spot (front ++ t ∷ rest) → HasProgram (done ++ (part spot front (t ∷ rest) ++ more)) p
    → Stands (spot_behind spot front (t ∷ rest)) (done ++ part spot front (t ∷ rest)) t
stands_behind [] spot done t rest more p a fits h = record { at = subst (At spot) (sym (append-nil done)) a; fits = fits }
stands_behind (u ∷ front) spot done t rest more p a fits h =
    let ahead = front ++ t ∷ rest in
    let next = behind spot u.token.node (tokens_of ahead) in
    let others = part next front (t ∷ rest) in
    let k : HasProgram (done ++ (put spot u ahead ++ (others ++ more))) p = subst (λ (xs : List Tok). HasProgram (done ++ xs) p) (append_assoc (put spot u ahead) others more) h in
    let s : Stands (spot_behind next front (t ∷ rest)) ((done ++ put spot u ahead) ++ others) t =
    stands_behind front next (done ++ put spot u ahead) t rest more p (at_next spot done u ahead (others ++ more) p a fits k) (first_fits spot u.token.node front t rest) (subst (λ (xs : List Tok). HasProgram xs p) (sym (append_assoc done (put spot u ahead) (others ++ more))) k) in
    subst (λ (xs : List Tok). Stands (spot_behind next front (t ∷ rest)) xs t) (append_assoc done (put spot u ahead) others) s

stands : (front : List Tok) (t : Tok) (rest : List Tok) → Begins HasProgram (part Elsewhere front (t ∷ rest)) → Stands (spot_behind Elsewhere front (t ∷ rest)) (part Elsewhere front (t ∷ rest)) t
stands front t rest b = stands_behind front Elsewhere [] t rest b.0 b.1 tt (first front) b.2
  where
    first : (us : List Tok) → FitsFirst Elsewhere (us ++ t ∷ rest)
    first [] = tt
    first (u ∷ us) = tt

-- ---- what is put in place of one token goes on

alone : (xs : List Tok) → tokens_of xs ≡ [] → xs ≡ []
alone [] e = refl
alone (x ∷ xs) e = absurd cc

-- nothing else is put there
single : (us : List Tok) (x y : Tok) (others more : List Tok) → y ∷ [] ≡ x ∷ others → tokens_of more ≡ tokens_of others → Begins HasProgram (us ++ x ∷ []) → Begins HasProgram (us ++ x ∷ more)
single us x y [] more e same b = subst (λ (xs : List Tok). Begins HasProgram (us ++ x ∷ xs)) (sym (alone more same)) b
single us x y (z ∷ others) more e same b = absurd cc

-- a value that begins so
with_value : (us : List Tok) (e : Tok) (vs : List Tok) (f : Focus (Some_of HasProgram) us e vs) (front back : List Tok) (x : Expression) → HasRank f.room ranks (front ++ back) x → Begins HasProgram (us ++ e ∷ front)
with_value us e vs f front back x h =
    let r = f.again (front ++ back) x h in
    (back ++ f.end ∷ f.rest, r.0, subst (λ (xs : List Tok). HasProgram xs r.0) (ap (λ (xs : List Tok). us ++ e ∷ xs) (append_assoc front back (f.end ∷ f.rest)) ∙ sym (append_assoc us (e ∷ front) (back ++ f.end ∷ f.rest))) r.1)

-- a variable goes on behind `=`
variable_goes : (us : List Tok) (t : Tok) (w : List ℕ) → Ends true us → variable_in t.token.node ≡ Some w → Begins HasProgram us → Begins HasProgram (us ++ t ∷ [])
variable_goes us t w (vs, e, is, eq) v (more, p, h) =
    let f = value_behind vs e more p (subst (λ (xs : List Tok). HasProgram xs p) (ap (λ (xs : List Tok). xs ++ more) is ∙ append_assoc vs (e ∷ []) more) h) eq in
    subst (Begins HasProgram) (sym (append_assoc vs (e ∷ []) (t ∷ [])) ∙ ap (λ (xs : List Tok). xs ++ t ∷ []) (sym is))
    (with_value vs e more f (t ∷ []) [] _ (lone_rank (variable {us = t ∷ []} (w, (t, refl, v), refl))))

query_goes : (us : List Tok) (x y z : Tok) → Ends true us → x.token.node ≡ tokens.Word (codes "db") → y.token.node ≡ tokens.Sign (codes ".") → z.token.node ≡ tokens.Word (codes "queryLong") → Begins HasProgram (us ++ x ∷ [])
    → Begins HasProgram (us ++ x ∷ y ∷ z ∷ [])
query_goes us x y z (vs, e, is, eq) db dot long (more, p, h) =
    let f = value_behind vs e (x ∷ more) p (subst (λ (xs : List Tok). HasProgram xs p) (append_assoc us (x ∷ []) more ∙ ap (λ (xs : List Tok). xs ++ x ∷ more) is ∙ append_assoc vs (e ∷ []) (x ∷ more)) h) eq in
    let call : Call (vs ++ e ∷ x ∷ y ∷ z ∷ []) [] = record { us = vs; e = e; n = x; d = y; m = z; parts = refl; equals = eq; db = db; dot = dot; long = long } in
    let v = has_query call f.room opening (marked false (token_at nowhere (tokens.Text []))) [] [] NoMore closing refl (λ e. absurd cc) refl no_more refl in
    subst (Begins HasProgram) (sym (append_assoc vs (e ∷ []) (x ∷ y ∷ z ∷ [])) ∙ ap (λ (xs : List Tok). xs ++ x ∷ y ∷ z ∷ []) (sym is))
    (with_value vs e (x ∷ more) f (x ∷ y ∷ z ∷ []) (opening ∷ marked false (token_at nowhere (tokens.Text [])) ∷ closing ∷ []) v.0 v.1)

abbrev text_token : Tok
text_token = marked false (token_at nowhere (tokens.Text []))

one_argument : (room : ℕ) (comma : Tok) → comma.token.node ≡ tokens.Sign (codes ",") → (es : Expressions) × HasArguments room (comma ∷ text_token ∷ []) es
one_argument room comma e =
    (_, one_more {us = comma ∷ []} {vs = text_token ∷ []} {ws = []} (comma, refl, e) (lone_rank (parts (atom (literal {us = text_token ∷ []} (scalars.Text [], inr (inl (text_token, refl, refl)), refl))))) no_more)

opened_begins : (name : List ℕ) (us : List Tok) (t text : Tok) (b : Bool) (others : List Tok) → Call us [] → IsOpen t → text.token.node ≡ tokens.Text name → tokens_of others ≡ comma_unless b t.token.span → Begins HasProgram (us ++ t ∷ [])
    → Begins HasProgram (us ++ t ∷ text ∷ others)
opened_begins name us t text b others c opens is same (more, p, h) = by b others same
  where
    f : Focus (Some_of HasProgram) c.us c.e (c.n ∷ c.d ∷ c.m ∷ t ∷ more)
    f = focus c (t ∷ more) p (subst (λ (xs : List Tok). HasProgram xs p) (append_assoc us (t ∷ []) more) h)

    q : Query f.room f.value c.n c.d c.m t
    q = first_query f.end f.rest c.n c.d c.m t more f.has f.ends (sym f.parts) c.db c.dot c.long opens

    -- with these arguments, of which some come first
    value : (front back : List Tok) (es : Expressions) → HasArguments (pred f.room) (front ++ back) es → Begins HasProgram (us ++ t ∷ text ∷ front)
    value front back es has =
        let v = has_query c f.room t text name (front ++ back) es closing opens q.allows (ap text_in is) has refl in
        let w = with_value c.us c.e (c.n ∷ c.d ∷ c.m ∷ t ∷ more) f (c.n ∷ c.d ∷ c.m ∷ t ∷ text ∷ front) (back ++ closing ∷ []) v.0
        (subst (λ (xs : List Tok). HasRank f.room ranks (c.n ∷ c.d ∷ c.m ∷ t ∷ text ∷ xs) v.0) (append_assoc front back (closing ∷ [])) v.1) in
        subst (Begins HasProgram) (sym (append_assoc c.us (c.e ∷ c.n ∷ c.d ∷ c.m ∷ []) (t ∷ text ∷ front)) ∙ ap (λ (xs : List Tok). xs ++ t ∷ text ∷ front) (sym c.parts)) w

    by : (b : Bool) (others : List Tok) → tokens_of others ≡ comma_unless b t.token.span → Begins HasProgram (us ++ t ∷ text ∷ others)
    by true others e = subst (λ (xs : List Tok). Begins HasProgram (us ++ t ∷ text ∷ xs)) (sym (alone others e)) (value [] [] NoMore no_more)
    by false [] e = absurd cc
    by false (x ∷ []) e =
        let is_comma : x.token ≡ token_at t.token.span (tokens.Sign (codes ",")) = cc in
        let a = one_argument (pred f.room) x (ap (λ (k : Token). k.node) is_comma) in
        value (x ∷ []) (text_token ∷ []) a.0 a.1
    by false (x ∷ y ∷ others) e = absurd cc

-- the words of a query
words_go : (us : List Tok) (first : Tok) (more : List Tok) (at : Span) → Ends true us → first.token.node ≡ tokens.Word (codes "db") → tokens_of more ≡ token_at at (tokens.Sign (codes ".")) ∷ token_at at (tokens.Word (codes "queryLong")) ∷ []
    → Begins HasProgram (us ++ first ∷ []) → Begins HasProgram (us ++ first ∷ more)
words_go us first [] at a db e b = absurd cc
words_go us first (x ∷ []) at a db e b = absurd cc
words_go us first (x ∷ y ∷ []) at a db e b =
    let dot : x.token ≡ token_at at (tokens.Sign (codes ".")) = cc in
    let long : y.token ≡ token_at at (tokens.Word (codes "queryLong")) = cc in
    query_goes us first x y a db (ap (λ (k : Token). k.node) dot) (ap (λ (k : Token). k.node) long) b
words_go us first (x ∷ y ∷ z ∷ more) at a db e b = absurd cc

commas : (b strict : Bool) (at : Span) → tokens_of (map (marked strict) (comma_unless b at)) ≡ comma_unless b at
commas true strict at = refl
commas false strict at = refl

opened_go : (name : List ℕ) (us : List Tok) (t : Tok) (b : Bool) (more : List Tok) → Call us [] → IsOpen t → tokens_of more ≡ token_at t.token.span (tokens.Text name) ∷ comma_unless b t.token.span → Begins HasProgram (us ++ t ∷ []) → Begins HasProgram (us ++ t ∷ more)
opened_go name us t b [] c opens e h = absurd cc
opened_go name us t b (x ∷ more) c opens e h =
    let text : x.token ≡ token_at t.token.span (tokens.Text name) = cc in
    let others : tokens_of more ≡ comma_unless b t.token.span = cc in
    opened_begins name us t x b more c opens (ap (λ (k : Token). k.node) text) others h

-- where the first one goes on, the others go on, at whatever marks
goes_through : (spot : Spot) (us : List Tok) (t : Tok) (rest : List Tok) (first : Tok) (others more : List Tok) → At spot us → Fits spot t → put spot t rest ≡ first ∷ others → tokens_of more ≡ tokens_of others → Begins HasProgram (us ++ first ∷ [])
    → Begins HasProgram (us ++ first ∷ more)
goes_through BehindEquals us t rest first others more a fits e same b = by (called BehindEquals t.token.node (tokens_of rest)) e
  where
    by : (o : Option (List ℕ)) → map (marked t.strict) (query_or_token o t.token) ≡ first ∷ others → Begins HasProgram (us ++ first ∷ more)
    by None e = single us first t others more e same b
    by (Some name) e =
        let first_is : marked t.strict (token_at t.token.span (tokens.Word (codes "db"))) ≡ first = cc in
        let others_are : marked t.strict (token_at t.token.span (tokens.Sign (codes "."))) ∷ marked t.strict (token_at t.token.span (tokens.Word (codes "queryLong"))) ∷ [] ≡ others = cc in
        words_go us first more t.token.span a (ap (λ (x : Tok). x.token.node) (sym first_is)) (same ∙ ap tokens_of (sym others_are)) b
goes_through (BehindName name) us t rest first others more a fits e same b =
    let comma = begins_with (codes ")") (tokens_of rest) in
    let first_is : t ≡ first = cc in
    let others_are : marked t.strict (token_at t.token.span (tokens.Text name)) ∷ map (marked t.strict) (comma_unless comma t.token.span) ≡ others = cc in
    subst (λ (x : Tok). Begins HasProgram (us ++ x ∷ more)) first_is
    (opened_go name us t comma more a fits (same ∙ ap tokens_of (sym others_are) ∙ ap (λ (ks : List Token). token_at t.token.span (tokens.Text name) ∷ ks) (commas comma t.strict t.token.span))
    (subst (λ (x : Tok). Begins HasProgram (us ++ x ∷ [])) (sym first_is) b))
goes_through (InCall k) us t rest first others more a fits e same b = single us first t others more e same b
goes_through BehindCall us t rest first others more a fits e same b = by (is_sign (codes ";") t.token.node) e
  where
    by : (p : Bool) → map (marked t.strict) (if p then t.token ∷ [] else token_at t.token.span (tokens.Sign (codes "{")) ∷ []) ≡ first ∷ others → Begins HasProgram (us ++ first ∷ more)
    by true e = single us first t others more e same b
    by false e = single us first (marked t.strict (token_at t.token.span (tokens.Sign (codes "{")))) others more e same b
goes_through Elsewhere us t rest first others more a fits e same b = single us first t others more e same b

-- ---- the first one that is put in place of a token

record Heads (m : Bool) (u : Token) (ts : List Tok) : Type 0 where
  others : List Tok
  is : ts ≡ marked m u ∷ others

heads_one : (m : Bool) (k u : Token) (others : List Token) (more : List Tok) → k ∷ [] ≡ u ∷ others → Heads m u (marked m k ∷ more)
heads_one m k u others more e = let same : k ≡ u = cc in record { others = more; is = ap (λ (x : Token). marked m x ∷ more) same }

heads_first : (m : Bool) (k u : Token) (ks others : List Token) (more : List Tok) → k ∷ ks ≡ u ∷ others → Heads m u (marked m k ∷ more)
heads_first m k u ks others more e = let same : k ≡ u = cc in record { others = more; is = ap (λ (x : Token). marked m x ∷ more) same }

none_opened : (n : TokenNode) (b : Bool) → variable_in n ≡ None → if_opened b n ≡ None
none_opened n true e = e
none_opened n false e = refl

-- At another mark and before other tokens it is the same, or it is a name behind `=`, which goes on.
abbrev Next : Spot → List Tok → Bool → Token → Token → List Tok → Type 0
Next spot us m k u more = Heads m u (put spot (marked m k) more) ⊎ Begins HasProgram (us ++ marked m u ∷ [])

next_is : (spot : Spot) (us : List Tok) (m : Bool) (k u : Token) (others : List Token) (rest : List Token) (more : List Tok) → At spot us → in_place spot k rest ≡ u ∷ others → Begins HasProgram us → Next spot us m k u more
next_is BehindEquals us m k u others rest more a e b = by (variable_in k.node) refl (begins_with (codes "(") rest) e
  where
    by : (v : Option (List ℕ)) → variable_in k.node ≡ v → (opens : Bool) → query_or_token (if_opened opens k.node) k ≡ u ∷ others → Next BehindEquals us m k u more
    by (Some w) is false e = let same : k ≡ u = cc in inr (variable_goes us (marked m u) w a (ap (λ (x : Token). variable_in x.node) (sym same) ∙ is) b)
    by (Some w) is true e =
        let named : query_or_token (Some w) k ≡ u ∷ others = ap (λ (o : Option (List ℕ)). query_or_token o k) (sym is) ∙ e in
        let same : token_at k.span (tokens.Word (codes "db")) ≡ u = cc in
        inr (variable_goes us (marked m u) (codes "db") a (ap (λ (x : Token). variable_in x.node) (sym same)) b)
    by None is opens e =
        let same : k ∷ [] ≡ u ∷ others = ap (λ (o : Option (List ℕ)). query_or_token o k) (sym (none_opened k.node opens is)) ∙ e in
        inl (subst (λ (o : Option (List ℕ)). Heads m u (map (marked m) (query_or_token o k))) (sym (none_opened k.node (begins_with (codes "(") (tokens_of more)) is)) (heads_one m k u others [] same))
next_is (BehindName name) us m k u others rest more a e b = inl (heads_first m k u _ others _ e)
next_is (InCall j) us m k u others rest more a e b = inl (heads_one m k u others [] e)
next_is BehindCall us m k u others rest more a e b = inl (by (is_sign (codes ";") k.node) e)
  where
    by : (p : Bool) → (if p then k ∷ [] else token_at k.span (tokens.Sign (codes "{")) ∷ []) ≡ u ∷ others → Heads m u (map (marked m) (if p then k ∷ [] else token_at k.span (tokens.Sign (codes "{")) ∷ []))
    by true e = heads_one m k u others [] e
    by false e = heads_one m (token_at k.span (tokens.Sign (codes "{"))) u others [] e
next_is Elsewhere us m k u others rest more a e b = inl (heads_one m k u others [] e)

-- ---- within what is put in place of a token, and at its first one

interior : (front : List Tok) (t : Tok) (rest : List Tok) (a : Tok) (us : List Tok) (x : Tok) (b : List Tok) (y : Tok) → put (spot_behind Elsewhere front (t ∷ rest)) t rest ≡ a ∷ (us ++ x ∷ b) → y.token ≡ x.token
    → Begins HasProgram (part Elsewhere front (t ∷ rest) ++ a ∷ us) → Begins HasProgram ((part Elsewhere front (t ∷ rest) ++ a ∷ us) ++ y ∷ [])
interior front t rest a us x b y puts same begins =
    let done = part Elsewhere front (t ∷ rest) in
    let s : Stands (spot_behind Elsewhere front (t ∷ rest)) done t = stands front t rest (begins_less done (a ∷ us) begins) in
    let first : Begins HasProgram (done ++ a ∷ []) = begins_less (done ++ a ∷ []) us (subst (Begins HasProgram) (sym (append_assoc done (a ∷ []) us)) begins) in
    let all : Begins HasProgram (done ++ a ∷ (us ++ y ∷ b)) = goes_through (spot_behind Elsewhere front (t ∷ rest)) done t rest a (us ++ x ∷ b) (us ++ y ∷ b) s.at s.fits puts (tokens_same us y x b same) first in
    begins_less ((done ++ a ∷ us) ++ y ∷ []) b (subst (Begins HasProgram) (sym (append_assoc (done ++ a ∷ us) (y ∷ []) b ∙ append_assoc done (a ∷ us) (y ∷ b))) all)

strict_head : (ks : List Token) (x : Tok) (b : List Tok) → map (marked true) ks ≡ x ∷ b → (u : Token) × (others : List Token) × (ks ≡ u ∷ others) × (x ≡ marked true u)
strict_head [] x b e = absurd cc
strict_head (k ∷ ks) x b e = (k, ks, refl, cc)

-- what goes on with calls goes on spelled out
comes_back : (front : List Tok) (k : Token) (rest : List Tok) (x : Tok) (b : List Tok) (m : Bool) → put (spot_behind Elsewhere front (strictly k ∷ rest)) (strictly k) rest ≡ x ∷ b → Begins HasProgram (part Elsewhere front (strictly k ∷ rest))
    → Begins HasProgramWithCalls (front ++ marked m k ∷ []) → Begins HasProgram (part Elsewhere front (strictly k ∷ rest) ++ marked m x.token ∷ [])
comes_back front k rest x b m puts begins (more, p, h) =
    let done = part Elsewhere front (strictly k ∷ rest) in
    let spot = spot_behind Elsewhere front (strictly k ∷ rest) in
    let ahead = part_ahead Elsewhere front k m true more rest in
    let head = strict_head (in_place spot k (tokens_of rest)) x b puts in
    let s : Stands spot done (strictly k) = stands front (strictly k) rest begins in
    let all : spelled_from Elsewhere ((front ++ marked m k ∷ []) ++ more) ≡ done ++ spelled_from spot (marked m k ∷ more) =
    ap (spelled_from Elsewhere) (append_assoc front (marked m k ∷ []) more) ∙ spelled_parts Elsewhere front (marked m k ∷ more)
    ∙ ap (λ (xs : List Tok). xs ++ spelled_from (spot_behind Elsewhere front (marked m k ∷ more)) (marked m k ∷ more)) ahead.0 ∙ ap (λ (z : Spot). done ++ spelled_from z (marked m k ∷ more)) ahead.1 in
    let token : head.0 ≡ x.token = ap (λ (z : Tok). z.token) (sym head.3) in
    subst (λ (z : Token). Begins HasProgram (done ++ marked m z ∷ [])) token
    (by done (spelled_from (behind spot k.node (tokens_of more)) more) head.0 (put spot (marked m k) more) p (subst (λ (xs : List Tok). HasProgram xs p) all h) (next_is spot done m k head.0 head.1 (tokens_of rest) more s.at head.2 begins))
  where
    by : (done tail : List Tok) (u : Token) (here : List Tok) (p : PlainProgram) → HasProgram (done ++ (here ++ tail)) p → Heads m u here ⊎ Begins HasProgram (done ++ marked m u ∷ []) → Begins HasProgram (done ++ marked m u ∷ [])
    by done tail u here p h (inl i) = (i.others ++ tail, p, subst (λ (xs : List Tok). HasProgram xs p) (ap (λ (xs : List Tok). done ++ (xs ++ tail)) i.is ∙ sym (append_assoc done (marked m u ∷ []) (i.others ++ tail))) h)
    by done tail u here p h (inr g) = g

fits_free : (spot : Spot) (k : Token) → Fits spot (strictly k) → Fits spot (freely k)
fits_free BehindEquals k f = tt
fits_free (BehindName name) k f = f
fits_free (InCall j) k f = tt
fits_free BehindCall k f = tt
fits_free Elsewhere k f = tt

-- what goes on spelled out with a token whose depth is left aside goes on so with calls
goes_free : (front : List Tok) (k : Token) (rest : List Tok) (x : Tok) (b : List Tok) → put (spot_behind Elsewhere front (strictly k ∷ rest)) (strictly k) rest ≡ x ∷ b → Begins HasProgram (part Elsewhere front (strictly k ∷ rest) ++ freely x.token ∷ [])
    → Begins HasProgramWithCalls (front ++ freely k ∷ [])
goes_free front k rest x b puts begins =
    let done = part Elsewhere front (strictly k ∷ rest) in
    let spot = spot_behind Elsewhere front (strictly k ∷ rest) in
    let ahead = part_ahead Elsewhere front k false true rest rest in
    let head = strict_head (in_place spot k (tokens_of rest)) x b puts in
    let token : head.0 ≡ x.token = ap (λ (z : Tok). z.token) (sym head.3) in
    let s : Stands spot done (strictly k) = stands front (strictly k) rest (begins_less done (freely x.token ∷ []) begins) in
    let others = map (marked false) head.1 in
    let here : put spot (freely k) rest ≡ freely head.0 ∷ others = ap (λ (ks : List Token). map (marked false) ks) head.2 in
    let first : Begins HasProgram (done ++ freely head.0 ∷ []) = subst (λ (z : Token). Begins HasProgram (done ++ freely z ∷ [])) (sym token) begins in
    let all : Begins HasProgram (done ++ freely head.0 ∷ others) = goes_through spot done (freely k) rest (freely head.0) others others s.at (fits_free spot k s.fits) here refl first in
    let same : part Elsewhere (front ++ freely k ∷ []) rest ≡ done ++ freely head.0 ∷ others =
    part_further Elsewhere front (freely k) rest ∙ ap (λ (xs : List Tok). xs ++ put (spot_behind Elsewhere front (freely k ∷ rest)) (freely k) rest) ahead.0 ∙ ap (λ (z : Spot). done ++ put z (freely k) rest) ahead.1 ∙ ap (λ (xs : List Tok). done ++ xs) here in
    begins_with_calls (front ++ freely k ∷ []) rest (subst (Begins HasProgram) (sym same) all)

-- ---- the faults

part_all : (us : List Tok) → spelled_from Elsewhere us ≡ part Elsewhere us []
part_all us = ap (spelled_from Elsewhere) (sym (append-nil us)) ∙ spelled_parts Elsewhere us [] ∙ append-nil (part Elsewhere us [])

number_is : (ts fs : List Token) (n : ℕ) → length fs ≡ n → number_from Elsewhere (tokens_of (all_strict ts)) (length (all_strict fs)) ≡ number_of ts n
number_is ts fs n e = ap (λ (us : List Token). number_from Elsewhere us (length (all_strict fs))) (tokens_strict ts) ∙ ap (λ (k : ℕ). number_from Elsewhere ts k) (length-map fs strictly ∙ e)

unexpected : (ts : List Token) (n : ℕ) → IsUnexpected HasProgram (spelled_out ts) n → IsUnexpected HasProgramWithCalls ts (number_of ts n)
unexpected ts n u = by (position (all_strict ts) Elsewhere (all_strict u.front) (all_strict u.rest) (strict_spelled Elsewhere ts ∙ ap all_strict u.parts ∙ strict_append u.front u.rest))
  where
    number : number_from Elsewhere (tokens_of (all_strict ts)) (length (all_strict u.front)) ≡ number_of ts n
    number = number_is ts u.front n u.number

    no_program : (x : PlainProgram) → HasProgramWithCalls (all_strict ts) x → ⊥
    no_program x h = u.is_none x (subst (λ (us : List Tok). HasProgram us x) (strict_spelled Elsewhere ts) h)

    at_first : (front : List Tok) (t : Tok) (rest : List Tok) (x : Tok) (b more : List Tok) (p : Parted ts front t rest) → number_from Elsewhere (tokens_of (all_strict ts)) (length (all_strict u.front)) ≡ length front
        → all_strict u.front ≡ part Elsewhere front (strictly p.token ∷ rest) → put (spot_behind Elsewhere front (strictly p.token ∷ rest)) (strictly p.token) rest ≡ x ∷ b → all_strict u.rest ≡ x ∷ (b ++ more)
        → IsUnexpected HasProgramWithCalls ts (number_of ts n)
    at_first front t rest x b more p size is_front puts others =
        let begins : Begins HasProgram (part Elsewhere front (strictly p.token ∷ rest)) = subst (Begins HasProgram) is_front u.begins in
        let next = strict_first u.rest x (b ++ more) others in
        record {
          front = p.front;
          rest = p.token ∷ p.rest;
          parts = p.is;
          number = sym (length-map p.front strictly) ∙ ap length (sym p.front_is) ∙ sym size ∙ number;
          begins = subst (Begins HasProgramWithCalls) p.front_is (begins_with_calls front (strictly p.token ∷ rest) begins);
          none_goes_on = λ k us e goes.
              let same : p.token ≡ k = cc in
              let back : Begins HasProgram (part Elsewhere front (strictly p.token ∷ rest) ++ freely x.token ∷ []) =
              comes_back front p.token rest x b false puts begins (subst (λ (fs : List Tok). Begins HasProgramWithCalls (fs ++ freely p.token ∷ [])) (sym p.front_is) (subst (λ (z : Token). Begins HasProgramWithCalls (all_strict p.front ++ freely z ∷ [])) (sym same) goes)) in
              u.none_goes_on next.0 next.1 next.2
              (subst (λ (fs : List Tok). Begins HasProgram (fs ++ freely next.0 ∷ [])) (sym is_front) (subst (λ (z : Tok). Begins HasProgram (part Elsewhere front (strictly p.token ∷ rest) ++ freely z.token ∷ [])) next.3 back));
          is_none = no_program;
        }

    by : Position Elsewhere (all_strict ts) (all_strict u.front) (all_strict u.rest) → IsUnexpected HasProgramWithCalls ts (number_of ts n)
    by (at_end is none size) = record {
      front = ts;
      rest = [];
      parts = sym (append-nil ts);
      number = sym (length-map ts strictly) ∙ sym size ∙ number;
      begins = begins_with_calls (all_strict ts) [] (subst (Begins HasProgram) (is ∙ part_all (all_strict ts)) u.begins);
      none_goes_on = λ k us e goes. absurd cc;
      is_none = no_program;
    }
    by (at_token front t rest [] x b more is size is_front puts others) =
        let p = parted ts front t rest is in
        at_first front t rest x b more p size (subst (λ (z : Tok). all_strict u.front ≡ part Elsewhere front (z ∷ rest)) p.token_is (is_front ∙ append-nil (part Elsewhere front (t ∷ rest))))
        (subst (λ (z : Tok). put (spot_behind Elsewhere front (z ∷ rest)) z rest ≡ x ∷ b) p.token_is puts) others
    by (at_token front t rest (a ∷ us) x b more is size is_front puts others) =
        let next = strict_first u.rest x (b ++ more) others in
        let goes : Begins HasProgram ((part Elsewhere front (t ∷ rest) ++ a ∷ us) ++ freely next.0 ∷ []) =
        interior front t rest a us x b (freely next.0) puts (ap (λ (z : Tok). z.token) (sym next.3)) (subst (Begins HasProgram) is_front u.begins) in
        absurd (u.none_goes_on next.0 next.1 next.2 (subst (λ (fs : List Tok). Begins HasProgram (fs ++ freely next.0 ∷ [])) (sym is_front) goes))

too_deep : (ts : List Token) (n : ℕ) → IsTooDeep HasProgram (spelled_out ts) n → IsTooDeep HasProgramWithCalls ts (number_of ts n)
too_deep ts n d = by (position (all_strict ts) Elsewhere (all_strict d.front) (all_strict (d.token ∷ d.rest)) (strict_spelled Elsewhere ts ∙ ap all_strict d.parts ∙ strict_append d.front (d.token ∷ d.rest)))
  where
    at_first : (front : List Tok) (t : Tok) (rest : List Tok) (x : Tok) (b : List Tok) (p : Parted ts front t rest) → number_from Elsewhere (tokens_of (all_strict ts)) (length (all_strict d.front)) ≡ length front
        → all_strict d.front ≡ part Elsewhere front (strictly p.token ∷ rest) → put (spot_behind Elsewhere front (strictly p.token ∷ rest)) (strictly p.token) rest ≡ x ∷ b → d.token ≡ x.token
        → IsTooDeep HasProgramWithCalls ts (number_of ts n)
    at_first front t rest x b p size is_front puts token =
        let goes : Begins HasProgram (part Elsewhere front (strictly p.token ∷ rest) ++ freely x.token ∷ []) =
        subst (λ (z : Token). Begins HasProgram (part Elsewhere front (strictly p.token ∷ rest) ++ freely z ∷ [])) token (subst (λ (fs : List Tok). Begins HasProgram (fs ++ freely d.token ∷ [])) is_front d.begins) in
        record {
          front = p.front;
          token = p.token;
          rest = p.rest;
          parts = p.is;
          number = sym (length-map p.front strictly) ∙ ap length (sym p.front_is) ∙ sym size ∙ number_is ts d.front n d.number;
          begins = subst (λ (fs : List Tok). Begins HasProgramWithCalls (fs ++ freely p.token ∷ [])) p.front_is (goes_free front p.token rest x b puts goes);
          none_goes_on = λ begins.
              let back : Begins HasProgram (part Elsewhere front (strictly p.token ∷ rest) ++ strictly x.token ∷ []) =
              comes_back front p.token rest x b true puts (begins_less (part Elsewhere front (strictly p.token ∷ rest)) (freely x.token ∷ []) goes)
              (subst (λ (fs : List Tok). Begins HasProgramWithCalls (fs ++ strictly p.token ∷ [])) (sym p.front_is) begins) in
              d.none_goes_on (subst (λ (fs : List Tok). Begins HasProgram (fs ++ strictly d.token ∷ [])) (sym is_front) (subst (λ (z : Token). Begins HasProgram (part Elsewhere front (strictly p.token ∷ rest) ++ strictly z ∷ [])) (sym token) back));
        }

    by : Position Elsewhere (all_strict ts) (all_strict d.front) (all_strict (d.token ∷ d.rest)) → IsTooDeep HasProgramWithCalls ts (number_of ts n)
    by (at_end is none size) = absurd cc
    by (at_token front t rest [] x b more is size is_front puts others) =
        let p = parted ts front t rest is in
        let first : strictly d.token ≡ x = cc in
        at_first front t rest x b p size (subst (λ (z : Tok). all_strict d.front ≡ part Elsewhere front (z ∷ rest)) p.token_is (is_front ∙ append-nil (part Elsewhere front (t ∷ rest))))
        (subst (λ (z : Tok). put (spot_behind Elsewhere front (z ∷ rest)) z rest ≡ x ∷ b) p.token_is puts) (ap (λ (z : Tok). z.token) first)
    by (at_token front t rest (a ∷ us) x b more is size is_front puts others) =
        let first : strictly d.token ≡ x = cc in
        let begins : Begins HasProgram (part Elsewhere front (t ∷ rest) ++ a ∷ us) = subst (Begins HasProgram) is_front (begins_less (all_strict d.front) (freely d.token ∷ []) d.begins) in
        let goes : Begins HasProgram ((part Elsewhere front (t ∷ rest) ++ a ∷ us) ++ strictly d.token ∷ []) = interior front t rest a us x b (strictly d.token) puts (ap (λ (z : Tok). z.token) first) begins in
        absurd (d.none_goes_on (subst (λ (fs : List Tok). Begins HasProgram (fs ++ strictly d.token ∷ [])) (sym is_front) goes))

broken : (ts : List Token) (rule : ParseRule) (n : ℕ) → IsBroken HasProgram (spelled_out ts) rule n → IsBroken HasProgramWithCalls ts rule (number_of ts n)
broken ts rules.Unexpected n h = unexpected ts n h
broken ts rules.TooDeep n h = too_deep ts n h

pub fault_is_larger : (tokens : Tokens) (f : ParseFault) → IsFaultWithCalls tokens f → IsKept HasProgramWithCalls tokens (fails.Fault f)
fault_is_larger tokens f h = (h.place, subst (IsBroken HasProgramWithCalls tokens.list f.rule) (sym h.number) (broken tokens.list f.rule h.spelled h.broken))

pub read_is_larger : (tokens : Tokens) (f : ParseFault) → parsed_with_calls tokens ≡ Err f → IsKept HasProgramWithCalls tokens (fails.Fault f)
read_is_larger tokens f e = fault_is_larger tokens f (read_is_fault tokens f e)

pub larger_is_program : (ts : List Token) (p : PlainProgram) → HasProgramWithCalls (all_strict ts) p → IsReadableWithCalls ts p
larger_is_program ts p h = subst (λ (us : List Tok). HasProgram us p) (strict_spelled Elsewhere ts) h

pub program_is_larger : (ts : List Token) (p : PlainProgram) → IsReadableWithCalls ts p → HasProgramWithCalls (all_strict ts) p
program_is_larger ts p h = subst (λ (us : List Tok). HasProgram us p) (sym (strict_spelled Elsewhere ts)) h
