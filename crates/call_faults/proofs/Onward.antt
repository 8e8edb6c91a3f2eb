-- Where a program goes on behind tokens that are spelled out, a program with calls goes on behind those tokens: token by token.
use Rattle.std.proofs.Common.{◌≡◌, ℕ, zero, suc, Bool, true, false, List, [], ◌∷◌, ◌++◌, Option, Some, None, refl, sym, ap, subst, ◌∙◌, append_assoc, codes, if◌then◌else◌}
use Rattle.std.specs.Prelude.{map}
use Rattle.qbs_base.specs.declared.span.Span.{Span}
use Rattle.java_lex.specs.declared.token.TokenNode.{TokenNode}
use Rattle.java_lex.specs.declared.token.TokenNode.TheVariants as tokens
use Rattle.java_ast.specs.Tree.{NoMore, PlainProgram}
use Rattle.java_grammar.specs.Marks.{Tok, tokens_of, Allows, nowhere}
use Rattle.java_grammar.specs.Words.{variable_in}
use Rattle.java_grammar.specs.Reading.{is_sign}
use Rattle.java_grammar.specs.Faults.{Begins}
use Rattle.java_grammar.specs.Expressions.{no_more}
use Rattle.java_grammar.specs.Grammar.{HasProgram}
use Rattle.call_reader.specs.SpelledOut.{Spot, BehindEquals, BehindName, InCall, BehindCall, Elsewhere, begins_with, if_opened, behind_closing, behind_part, behind_other, behind_name, behind, token_at, comma_unless, ending, query_or_token}
use Rattle.call_faults.specs.Larger.{marked, put, spelled_from, HasProgramWithCalls}
use Rattle.call_faults.proofs.Inner.{step, run, run_append, none_of}
use Rattle.call_faults.proofs.Heads.{Query, first_query}
use Rattle.call_faults.proofs.Focus.{Focus, Some_of}
use Rattle.call_faults.proofs.Spelling.{part, behind_end, put_ahead, behind_ahead}
use Rattle.call_faults.proofs.Calls.{IsOpen, Ends, ends_with, stays, Call, query, has_query, Goes, focus}
use Rattle.call_faults.proofs.Goes.{Args, Ended, At, Fits, going, in_call_goes, behind_call_goes, no_brace}

-- ---- behind the name of a call

abbrev pub opening : Tok
opening = record { strict = false; token = record { span = nowhere; node = tokens.Sign (codes "(") } }

abbrev pub closing : Tok
closing = record { strict = false; token = record { span = nowhere; node = tokens.Sign (codes ")") } }

record Named (name : List ℕ) (us : List Tok) (o : Tok) : Type 0 where
  rest : List Tok
  program : PlainProgram
  has : HasProgram (us ++ spelled_from (BehindName name) (o ∷ closing ∷ rest)) program

name_goes : (name : List ℕ) (us : List Tok) (c : Call us []) (o : Tok) (vs : List Tok) (f : Focus (Some_of HasProgram) c.us c.e vs) → IsOpen o → Allows f.room o → Named name us o
name_goes name us c o vs f opens allows =
    let text = marked o.strict (token_at o.token.span (tokens.Text name)) in
    let v = has_query c f.room o text name [] NoMore closing opens allows refl no_more refl in
    let r = f.again (query c o text [] closing) v.0 v.1 in
    let rest : spelled_from Elsewhere f.rest ≡ f.rest =
    stays false (c.us ++ c.e ∷ (query c o text [] closing ++ f.end ∷ [])) f.rest r.0 tt (subst (λ (xs : List Tok). HasProgram xs r.0) (sym (append_assoc c.us (c.e ∷ (query c o text [] closing ++ f.end ∷ [])) f.rest)) r.1) in
    let same : c.us ++ c.e ∷ (query c o text [] closing ++ f.end ∷ f.rest) ≡ us ++ spelled_from (BehindName name) (o ∷ closing ∷ f.end ∷ f.rest) =
    sym (append_assoc c.us (c.e ∷ c.n ∷ c.d ∷ c.m ∷ []) (o ∷ text ∷ closing ∷ f.end ∷ f.rest)) ∙ ap (λ (xs : List Tok). xs ++ o ∷ text ∷ closing ∷ f.end ∷ f.rest) (sym c.parts)
    ∙ ap (λ (xs : List Tok). us ++ o ∷ text ∷ closing ∷ xs) (sym (behind_end f.end f.rest f.ends ∙ ap (λ (xs : List Tok). f.end ∷ xs) rest)) in
    record { rest = f.end ∷ f.rest; program = r.0; has = subst (λ (xs : List Tok). HasProgram xs r.0) same r.1 }

-- a parenthesis that a program goes on with
opened_goes : (name : List ℕ) (us : List Tok) (c : Call us []) (o : Tok) (more : List Tok) (p : PlainProgram) → HasProgram (us ++ o ∷ more) p → IsOpen o → Named name us o
opened_goes name us c o more p h opens =
    let f = focus c (o ∷ more) p h in
    let q : Query f.room f.value c.n c.d c.m o = first_query f.end f.rest c.n c.d c.m o more f.has f.ends (sym f.parts) c.db c.dot c.long opens in
    name_goes name us c o (c.n ∷ c.d ∷ c.m ∷ o ∷ more) f opens q.allows

-- ---- from one token to the next

at_other : (us : List Tok) (t : Tok) → At (behind_other t.token.node) (us ++ t ∷ [])
at_other us t = by (is_sign (codes "=") t.token.node) refl
  where
    by : (b : Bool) → is_sign (codes "=") t.token.node ≡ b → At (if b then BehindEquals else Elsewhere) (us ++ t ∷ [])
    by true e = ends_with true us t e
    by false e = tt

pub begun : (us : List Tok) (t : Tok) → Ends true us → Call (us ++ map (marked t.strict) (query_or_token (Some []) t.token)) []
begun us t (vs, e, is, eq) =
    let word = λ (node : TokenNode). marked t.strict (token_at t.token.span node) in
    record {
      us = vs;
      e = e;
      n = word (tokens.Word (codes "db"));
      d = word (tokens.Sign (codes "."));
      m = word (tokens.Word (codes "queryLong"));
      parts = ap (λ (xs : List Tok). xs ++ word (tokens.Word (codes "db")) ∷ word (tokens.Sign (codes ".")) ∷ word (tokens.Word (codes "queryLong")) ∷ []) is
          ∙ append_assoc vs (e ∷ []) (word (tokens.Word (codes "db")) ∷ word (tokens.Sign (codes ".")) ∷ word (tokens.Word (codes "queryLong")) ∷ []);
      equals = eq;
      db = refl;
      dot = refl;
      long = refl;
    }

at_named : (us : List Tok) (t : Tok) (o : Option (List ℕ)) → Ends true us → At (behind_name o t.token.node) (us ++ map (marked t.strict) (query_or_token o t.token))
at_named us t None e = at_other us t
at_named us t (Some name) e = begun us t e

extend : {us tail : List Tok} (more : List Tok) → Call us tail → Call (us ++ more) (tail ++ more)
extend {us} {tail} more c = record {
  us = c.us;
  e = c.e;
  n = c.n;
  d = c.d;
  m = c.m;
  parts = ap (λ (xs : List Tok). xs ++ more) c.parts ∙ append_assoc c.us (c.e ∷ c.n ∷ c.d ∷ c.m ∷ tail) more;
  equals = c.equals;
  db = c.db;
  dot = c.dot;
  long = c.long;
}

comma_run : (b strict : Bool) (at : Span) → run (Some 0) (map (marked strict) (comma_unless b at)) ≡ Some 0
comma_run true strict at = refl
comma_run false strict at = refl

args_begun : (name : List ℕ) (us : List Tok) (t : Tok) (b : Bool) → Call us [] → IsOpen t → Args 0 (us ++ t ∷ marked t.strict (token_at t.token.span (tokens.Text name)) ∷ map (marked t.strict) (comma_unless b t.token.span))
args_begun name us t b c opens = record {
  o = t;
  text = marked t.strict (token_at t.token.span (tokens.Text name));
  name = name;
  inner = map (marked t.strict) (comma_unless b t.token.span);
  call = extend (t ∷ marked t.strict (token_at t.token.span (tokens.Text name)) ∷ map (marked t.strict) (comma_unless b t.token.span)) c;
  opens = opens;
  is_text = refl;
  depth = comma_run b t.strict t.token.span;
}

args_more : (k j : ℕ) (us : List Tok) (t : Tok) → Args k us → step (Some k) t.token.node ≡ Some j → Args j (us ++ t ∷ [])
args_more k j us t a e = record {
  o = a.o;
  text = a.text;
  name = a.name;
  inner = a.inner ++ t ∷ [];
  call = extend (t ∷ []) a.call;
  opens = a.opens;
  is_text = a.is_text;
  depth = run_append (Some 0) a.inner (t ∷ []) ∙ ap (λ (o : Option ℕ). run o (t ∷ [])) a.depth ∙ e;
}

at_part : (k : ℕ) (us : List Tok) (t : Tok) → Args k us → At (behind_part k t.token.node) (us ++ t ∷ [])
at_part k us t a = by (is_sign (codes "(") t.token.node) (is_sign (codes ")") t.token.node) refl refl k a
  where
    by : (p q : Bool) → is_sign (codes "(") t.token.node ≡ p → is_sign (codes ")") t.token.node ≡ q → (k : ℕ) → Args k us → At (if p then InCall (suc k) else (if q then behind_closing k else InCall k)) (us ++ t ∷ [])
    by true q e f k a = args_more k (suc k) us t a (rw e refl)
    by false true e f zero a = record { front = us; close = t; is = refl; args = a; closes = f }
    by false true e f (suc k) a = args_more (suc k) k us t a (rw (e, f) refl)
    by false false e f k a = args_more k k us t a (rw (e, f) refl)

at_ended : (us : List Tok) (t : Tok) (more : List Tok) (p : PlainProgram) → Ended us → HasProgram (us ++ (map (marked t.strict) (ending t.token) ++ more)) p → At (behind_other t.token.node) (us ++ map (marked t.strict) (ending t.token))
at_ended us t more p e h = by (is_sign (codes ";") t.token.node) h
  where
    by : (b : Bool) → HasProgram (us ++ (map (marked t.strict) (if b then t.token ∷ [] else token_at t.token.span (tokens.Sign (codes "{")) ∷ []) ++ more)) p
        → At (behind_other t.token.node) (us ++ map (marked t.strict) (if b then t.token ∷ [] else token_at t.token.span (tokens.Sign (codes "{")) ∷ []))
    by true h = at_other us t
    by false h = absurd (no_brace us more (marked t.strict (token_at t.token.span (tokens.Sign (codes "{")))) p e h refl)

pub at_next : (spot : Spot) (us : List Tok) (t : Tok) (rest more : List Tok) (p : PlainProgram) → At spot us → Fits spot t → HasProgram (us ++ (put spot t rest ++ more)) p → At (behind spot t.token.node (tokens_of rest)) (us ++ put spot t rest)
at_next BehindEquals us t rest more p a fits h = at_named us t (if_opened (begins_with (codes "(") (tokens_of rest)) t.token.node) a
at_next (BehindName name) us t rest more p a fits h = args_begun name us t (begins_with (codes ")") (tokens_of rest)) a fits
at_next (InCall k) us t rest more p a fits h = at_part k us t a
at_next BehindCall us t rest more p a fits h = at_ended us t more p a h
at_next Elsewhere us t rest more p a fits h = at_other us t

fits_other : (n : TokenNode) (u : Tok) → Fits (behind_other n) u
fits_other n u = by (is_sign (codes "=") n)
  where
    by : (b : Bool) → Fits (if b then BehindEquals else Elsewhere) u
    by true = tt
    by false = tt

pub fits_next : (spot : Spot) (n : TokenNode) (u : Tok) (rest : List Tok) → Fits (behind spot n (tokens_of (u ∷ rest))) u
fits_next BehindEquals n u rest = by (is_sign (codes "(") u.token.node) refl
  where
    named : (o : Option (List ℕ)) → IsOpen u → Fits (behind_name o n) u
    named None e = fits_other n u
    named (Some name) e = e

    by : (b : Bool) → is_sign (codes "(") u.token.node ≡ b → Fits (behind_name (if_opened b n) n) u
    by true e = named (variable_in n) e
    by false e = fits_other n u
fits_next (BehindName name) n u rest = tt
fits_next (InCall k) n u rest = by (is_sign (codes "(") n) (is_sign (codes ")") n) k
  where
    by : (p q : Bool) (k : ℕ) → Fits (if p then InCall (suc k) else (if q then behind_closing k else InCall k)) u
    by true q k = tt
    by false true zero = tt
    by false true (suc k) = tt
    by false false k = tt
fits_next BehindCall n u rest = fits_other n u
fits_next Elsewhere n u rest = fits_other n u

-- ---- behind all of them

goes_here : (spot : Spot) (us more : List Tok) (p : PlainProgram) → At spot us → HasProgram (us ++ more) p → Goes spot us
goes_here BehindEquals us more p a h = (more, p, subst (λ (xs : List Tok). HasProgram (us ++ xs) p) (sym (stays true us more p a h)) h)
goes_here (BehindName name) us more p a h =
    let n : Named name us opening = name_goes name us a opening (a.n ∷ a.d ∷ a.m ∷ more) (focus a more p h) refl (λ e. absurd cc) in
    (opening ∷ closing ∷ n.rest, n.program, n.has)
goes_here (InCall k) us more p a h = in_call_goes k us more a (going k us more p a h)
goes_here BehindCall us more p a h = behind_call_goes us more p a h
goes_here Elsewhere us more p a h = (more, p, subst (λ (xs : List Tok). HasProgram (us ++ xs) p) (sym (stays false us more p tt h)) h)

-- the tokens, spelled out from here, go on
abbrev GoesFrom : Spot → List Tok → List Tok → Type 0
GoesFrom spot done us = (more : List Tok) × (p : PlainProgram) × HasProgram (done ++ spelled_from spot (us ++ more)) p

variable_named : (n : TokenNode) (b : Bool) (name : List ℕ) → if_opened b n ≡ Some name → variable_in n ≡ Some name
variable_named n true name e = e
variable_named n false name e = absurd (let q : none_of (List ℕ) ≡ Some name = e in cc)

last_equals : (us : List Tok) (t : Tok) (more : List Tok) (p : PlainProgram) (b : Bool) → Ends true us → (o : Option (List ℕ)) → if_opened b t.token.node ≡ o → HasProgram (us ++ (map (marked t.strict) (query_or_token o t.token) ++ more)) p → GoesFrom BehindEquals us (t ∷ [])
last_equals us t more p b a None e h = (more, p, subst (λ (xs : List Tok). HasProgram (us ++ xs) p) (sym (stays true us (t ∷ more) p a h)) h)
last_equals us t more p b a (Some name) e h =
    let words = map (marked t.strict) (query_or_token (Some name) t.token) in
    let c : Call (us ++ words) [] = begun us t a in
    let k = subst (λ (xs : List Tok). HasProgram xs p) (sym (append_assoc us words more)) h in
    let n : Named name (us ++ words) opening = name_goes name (us ++ words) c opening (c.n ∷ c.d ∷ c.m ∷ more) (focus c more p k) refl (λ e. absurd cc) in
    let same : (us ++ words) ++ spelled_from (BehindName name) (opening ∷ closing ∷ n.rest) ≡ us ++ spelled_from BehindEquals (t ∷ opening ∷ closing ∷ n.rest) =
    append_assoc us words (spelled_from (BehindName name) (opening ∷ closing ∷ n.rest))
    ∙ ap (λ (o : Option (List ℕ)). us ++ (map (marked t.strict) (query_or_token o t.token) ++ spelled_from (behind_name o t.token.node) (opening ∷ closing ∷ n.rest))) (sym (variable_named t.token.node b name e)) in
    (opening ∷ closing ∷ n.rest, n.program, subst (λ (xs : List Tok). HasProgram xs n.program) same n.has)

-- behind a token by which nothing ahead is asked
last_plain : (spot next : Spot) (us : List Tok) (t : Tok) (here more : List Tok) (p : PlainProgram) → ((rest : List Tok) → put spot t rest ≡ here) → ((rest : List Tok) → behind spot t.token.node (tokens_of rest) ≡ next) → At next (us ++ here)
    → HasProgram (us ++ (here ++ more)) p → GoesFrom spot us (t ∷ [])
last_plain spot next us t here more p puts goes a h =
    let g : Goes next (us ++ here) = goes_here next (us ++ here) more p a (subst (λ (xs : List Tok). HasProgram xs p) (sym (append_assoc us here more)) h) in (
      g.0,
      g.1,
      subst (λ (xs : List Tok). HasProgram xs g.1)
          (append_assoc us here (spelled_from next g.0) ∙ ap (λ (xs : List Tok). us ++ (xs ++ spelled_from next g.0)) (sym (puts g.0)) ∙ ap (λ (b : Spot). us ++ (put spot t g.0 ++ spelled_from b g.0)) (sym (goes g.0))) g.2,
    )

last : (spot : Spot) (us : List Tok) (t : Tok) (rest more : List Tok) (p : PlainProgram) → At spot us → Fits spot t → HasProgram (us ++ (put spot t rest ++ more)) p → GoesFrom spot us (t ∷ [])
last BehindEquals us t rest more p a fits h =
    last_equals us t more p (begins_with (codes "(") (tokens_of rest)) a (if_opened (begins_with (codes "(") (tokens_of rest)) t.token.node) refl h
last (BehindName name) us t rest more p a fits h =
    let n : Named name us t = opened_goes name us a t _ p h fits in
    (closing ∷ n.rest, n.program, n.has)
last (InCall k) us t rest more p a fits h = last_plain (InCall k) (behind_part k t.token.node) us t (t ∷ []) more p (λ r. refl) (λ r. refl) (at_part k us t a) h
last BehindCall us t rest more p a fits h = last_plain BehindCall (behind_other t.token.node) us t (map (marked t.strict) (ending t.token)) more p (λ r. refl) (λ r. refl) (at_ended us t more p a h) h
last Elsewhere us t rest more p a fits h = last_plain Elsewhere (behind_other t.token.node) us t (t ∷ []) more p (λ r. refl) (λ r. refl) (at_other us t) h

abbrev pub FitsFirst : Spot → List Tok → Type 0
FitsFirst spot [] = Unit {0}
FitsFirst spot (t ∷ ts) = Fits spot t

-- behind two tokens at least
goes_further : (spot : Spot) (done : List Tok) (t u : Tok) (us rest : List Tok) → GoesFrom (behind spot t.token.node (tokens_of (u ∷ (us ++ rest)))) (done ++ put spot t (u ∷ (us ++ rest))) (u ∷ us) → GoesFrom spot done (t ∷ u ∷ us)
goes_further spot done t u us rest (more, p, h) = (more, p, subst (λ (xs : List Tok). HasProgram xs p) same h)
  where
    same : (done ++ put spot t (u ∷ (us ++ rest))) ++ spelled_from (behind spot t.token.node (tokens_of (u ∷ (us ++ rest)))) (u ∷ (us ++ more)) ≡ done ++ spelled_from spot (t ∷ u ∷ (us ++ more))
    same =
        append_assoc done (put spot t (u ∷ (us ++ rest))) (spelled_from (behind spot t.token.node (tokens_of (u ∷ (us ++ rest)))) (u ∷ (us ++ more)))
        ∙ ap (λ (xs : List Tok). done ++ (xs ++ spelled_from (behind spot t.token.node (tokens_of (u ∷ (us ++ rest)))) (u ∷ (us ++ more)))) (put_ahead spot t u.token u.strict u.strict (us ++ rest) (us ++ more))
        ∙ ap (λ (b : Spot). done ++ (put spot t (u ∷ (us ++ more)) ++ spelled_from b (u ∷ (us ++ more)))) (behind_ahead spot t.token.node u.token u.strict u.strict (us ++ rest) (us ++ more))

goes_all : (us : List Tok) (spot : Spot) (done rest more : List Tok) (p : PlainProgram) → At spot done → FitsFirst spot us → HasProgram (done ++ (part spot us rest ++ more)) p → GoesFrom spot done us
goes_all [] spot done rest more p a fits h = goes_here spot done more p a h
goes_all (t ∷ []) spot done rest more p a fits h = last spot done t rest more p a fits (subst (λ (xs : List Tok). HasProgram (done ++ xs) p) (append_assoc (put spot t rest) [] more) h)
goes_all (t ∷ u ∷ us) spot done rest more p a fits h =
    let ahead = u ∷ (us ++ rest) in
    let next = behind spot t.token.node (tokens_of ahead) in
    let others = part next (u ∷ us) rest in
    let k : HasProgram (done ++ (put spot t ahead ++ (others ++ more))) p = subst (λ (xs : List Tok). HasProgram (done ++ xs) p) (append_assoc (put spot t ahead) others more) h in
    goes_further spot done t u us rest
    (goes_all (u ∷ us) next (done ++ put spot t ahead) rest more p (at_next spot done t ahead (others ++ more) p a fits k) (fits_next spot t.token.node u (us ++ rest))
    (subst (λ (xs : List Tok). HasProgram xs p) (sym (append_assoc done (put spot t ahead) (others ++ more))) k))

-- where a program begins with tokens that are spelled out before others, one with calls begins with them
pub begins_with_calls : (us rest : List Tok) → Begins HasProgram (part Elsewhere us rest) → Begins HasProgramWithCalls us
begins_with_calls us rest b = goes_all us Elsewhere [] rest b.0 b.1 tt (first us) b.2
  where
    first : (us : List Tok) → FitsFirst Elsewhere us
    first [] = tt
    first (t ∷ ts) = tt
