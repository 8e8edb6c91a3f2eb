-- Statements with bodies, and blocks, are read exactly.
use Rattle.std.proofs.Common.{◌≡◌, ℕ, zero, suc, pred, Bool, true, false, cond, List, [], ◌∷◌, ◌++◌, length, Option, Some, None, Ok, Err, codes, is_some, refl, sym, ap, subst, ◌∙◌, append_assoc, arith, inl, inr, ◌⊎◌}
use Rattle.java_lex.specs.declared.token.TokenNode.{TokenNode}
use Rattle.java_lex.specs.declared.token.TokenNode.TheVariants as tokens
use Rattle.readers.specs.declared.fault.Fault.{Fault}
use Rattle.readers.specs.declared.fault.Fault.TheVariants.{Unexpected, TooDeep}
use Rattle.readers.specs.Reading.{made}
use Rattle.readers.proofs.Tools.{chosen, failed}
use Rattle.java_ast.specs.Tree.{Statement, Statements, Assign, If, ForEach, While, Return, Break, Nothing, Then as Followed}
use Rattle.java_grammar.specs.Marks.{Tok, Allows, extent, freed, freely}
use Rattle.java_grammar.specs.Rules.{Rule, Word, Sign, Opening, Seq, Or, Made}
use Rattle.java_grammar.specs.Words.{name_in}
use Rattle.java_grammar.specs.Statements.{Parenthesised, Walk, Condition, Value, Named, Opens, HasStatement, plain as bare, if_alone, if_else, for_each, while, HasBody, block, single, HasBlock, braces, HasStatements, none}
use Rattle.java_grammar.specs.Reading.{Reader, first_is, is_word, is_sign}
use Rattle.java_grammar.specs.ReadingTypes.{is_word_type}
use Rattle.java_grammar.specs.ReadingBodies.{is_name_token, block_in, is_keyword, begins_statement, alone, single_in, body_in, is_close}
use Rattle.java_grammar.proofs.Sound.{Sound, Stopped, stuck, alike_cond, past_cond, at_start, Inhabited, same_first, twins_first, twin_stop, twin_cond, made_sound, or_sound, turned_sound}
use Rattle.java_grammar.proofs.Again.{Leads, Any, made_again}
use Rattle.java_grammar.proofs.SingleLaws.{is_word_true, opening_heads}
use Rattle.java_grammar.proofs.Many.{IsOver}
use Rattle.java_grammar.proofs.Laws.{Reads, sign, join, of, turned, enclosed}
use Rattle.java_grammar.proofs.LevelLaws.{some_both}
use Rattle.java_grammar.proofs.PlainLaws.{condition_reads, value_reads}
use Rattle.java_grammar.proofs.BodyLaws.{walk_part_reads, NoElse, Ends, Anyhow, Ending, ReadsBy, ending}

abbrev some : {A : Type 0} → A → Option A
some x = Some x

-- ---- what a statement begins with

abbrev pub Begun : (TokenNode → Bool) → List Tok → Type 0
Begun p us = (t : Tok) × (ts : List Tok) × (us ≡ t ∷ ts) × (p t.token.node ≡ true)

pub begun_first : (p q : TokenNode → Bool) (b : Bool) → ((n : TokenNode) → p n ≡ true → q n ≡ b) → (us rest : List Tok) → Begun p us → first_is q (us ++ rest) ≡ b
begun_first p q b is us rest h = ap (λ (ts : List Tok). first_is q (ts ++ rest)) h.2 ∙ is h.0.token.node h.3

begun_append : (p : TokenNode → Bool) (us vs : List Tok) → Begun p us → Begun p (us ++ vs)
begun_append p us vs h = (h.0, h.1 ++ vs, ap (λ (ts : List Tok). ts ++ vs) h.2, h.3)

begun_other : (p q : TokenNode → Bool) → ((n : TokenNode) → p n ≡ true → q n ≡ true) → (us : List Tok) → Begun p us → Begun q us
begun_other p q is us h = (h.0, h.1, h.2, is h.0.token.node h.3)

begun_word : {B : Type 0} (Q : Rule B) (text : List ℕ) (p : TokenNode → Bool) (us : List Tok) (y : Unit {0} × B) → p (tokens.Word text) ≡ true → Seq (Word text) Q us y → Begun p us
begun_word Q text p us y is h = (h.3.0, h.1, h.2 ∙ ap (λ (ts : List Tok). ts ++ h.1) h.3.1, ap p h.3.2 ∙ is)

pub begun_named : (room : ℕ) (us : List Tok) (x : Statement) → Named room us x → Begun is_name_token us
begun_named room us x h = let s = h.1 in (s.3.0, s.1, s.2 ∙ ap (λ (ts : List Tok). ts ++ s.1) s.3.1, ap is_some s.3.2)

-- by its first word, unless it begins with a name
pub statement_kind : {room : ℕ} {b : Bool} {us : List Tok} {x : Statement} → HasStatement room b us x → (Named room us x × (b ≡ false)) ⊎ Begun is_keyword us
statement_kind (bare {room} {us} {x} (inl h)) = inr (begun_word (Or (Made (λ y. None) (Sign (codes ";"))) (Made (λ y. Some y) (Value room))) (codes "return") is_keyword us h.0 refl h.1)
statement_kind (bare {room} {us} {x} (inr (inl h))) = inr (begun_word (Sign (codes ";")) (codes "break") is_keyword us h.0 refl h.1)
statement_kind (bare {room} {us} {x} (inr (inr h))) = inl (h, refl)
statement_kind (if_alone {room} {us} {vs} h k) = inr (begun_append is_keyword us vs (begun_word (Condition room) (codes "if") is_keyword us h.0 refl h.1))
statement_kind (if_else {room} {us} {vs} {ws} {zs} h k e l) = inr (begun_append is_keyword us (vs ++ (ws ++ zs)) (begun_word (Condition room) (codes "if") is_keyword us h.0 refl h.1))
statement_kind (for_each {room} {us} {vs} h k) = inr (begun_append is_keyword us vs (begun_word (Parenthesised room (Walk (pred room))) (codes "for") is_keyword us h.0 refl h.1))
statement_kind (while {room} {us} {vs} h k) = inr (begun_append is_keyword us vs (begun_word (Condition room) (codes "while") is_keyword us h.0 refl h.1))

keyword_begins : (n : TokenNode) → is_keyword n ≡ true → begins_statement n ≡ true
keyword_begins n e = rw e refl

name_begins : (n : TokenNode) → is_name_token n ≡ true → begins_statement n ≡ true
name_begins n e = by (is_keyword n)
  where
    by : (b : Bool) → cond b true (is_name_token n) ≡ true
    by true = refl
    by false = e

pub statement_begun : {room : ℕ} {b : Bool} {us : List Tok} {x : Statement} → HasStatement room b us x → Begun begins_statement us
statement_begun {room} {us} {x} h = elim (statement_kind h) [
  | inl k ↦ begun_other is_name_token begins_statement name_begins us (begun_named room us x k.0)
  | inr k ↦ begun_other is_keyword begins_statement keyword_begins us k
]

-- what holds of the five words holds of each keyword
at_keyword : (P : TokenNode → Type 0) (n : TokenNode) → P (tokens.Word (codes "if")) → P (tokens.Word (codes "for")) → P (tokens.Word (codes "while")) → P (tokens.Word (codes "return")) → P (tokens.Word (codes "break")) → is_keyword n ≡ true → P n
at_keyword P n a b c d e h =
    elim (chosen (is_word (codes "if") n) true (cond (is_word (codes "for") n) true (cond (is_word (codes "while") n) true (cond (is_word (codes "return") n) true (is_word (codes "break") n)))) true h) [
      | inl k ↦ subst P (sym (is_word_true (codes "if") n k.0)) a
      | inr k ↦ elim (chosen (is_word (codes "for") n) true (cond (is_word (codes "while") n) true (cond (is_word (codes "return") n) true (is_word (codes "break") n))) true k.1) [
        | inl l ↦ subst P (sym (is_word_true (codes "for") n l.0)) b
        | inr l ↦ elim (chosen (is_word (codes "while") n) true (cond (is_word (codes "return") n) true (is_word (codes "break") n)) true l.1) [
          | inl m ↦ subst P (sym (is_word_true (codes "while") n m.0)) c
          | inr m ↦ elim (chosen (is_word (codes "return") n) true (is_word (codes "break") n) true m.1) [
            | inl o ↦ subst P (sym (is_word_true (codes "return") n o.0)) d
            | inr o ↦ subst P (sym (is_word_true (codes "break") n o.1)) e
          ]
        ]
      ]
    ]

pub keyword_no_name : (n : TokenNode) → is_keyword n ≡ true → is_name_token n ≡ false
keyword_no_name n h = at_keyword (λ m. is_name_token m ≡ false) n refl refl refl refl refl h

pub keyword_no_type : (n : TokenNode) → is_keyword n ≡ true → is_word_type n ≡ false
keyword_no_type n h = at_keyword (λ m. is_word_type m ≡ false) n refl refl refl refl refl h

pub begins_no_sign : (text : List ℕ) (n : TokenNode) → begins_statement n ≡ true → is_sign text n ≡ false
begins_no_sign text (tokens.Word w) e = refl
begins_no_sign text (tokens.Integer v l) e = absurd cc
begins_no_sign text (tokens.Text t) e = absurd cc
begins_no_sign text (tokens.Sign s) e = absurd cc

pub begins_no_else : (n : TokenNode) → begins_statement n ≡ true → is_word (codes "else") n ≡ false
begins_no_else n e = by (is_word (codes "else") n) refl
  where
    by : (b : Bool) → is_word (codes "else") n ≡ b → b ≡ false
    by true h = absurd (let q : true ≡ false = sym e ∙ ap begins_statement (is_word_true (codes "else") n h) in cc)
    by false h = refl

-- ---- a statement that begins with a given token

abbrev Started : ℕ → Tok → Type 0
Started room t = (vs : List Tok) × (b : Bool) × (x : Statement) × HasStatement room b (freed t ∷ vs) x

some_statements : (room : ℕ) → Inhabited (HasStatements room)
some_statements room = record { tokens = []; value = Nothing; has = none }

some_block : (room : ℕ) → Inhabited (HasBlock room)
some_block room =
    record {
      tokens = freely (record { span = record { line = 0; column = 0; start = 0; end = 0 }; node = tokens.Sign (codes "{") }) ∷ freely (record { span = record { line = 0; column = 0; start = 0; end = 0 }; node = tokens.Sign (codes "}") }) ∷ [];
      value = Nothing;
      has = braces {us = _ ∷ []} {vs = []} {ws = _ ∷ []} (_, refl, refl, λ s. absurd cc) none (_, refl, refl);
    }

start_if : (room : ℕ) (t : Tok) → t.token.node ≡ tokens.Word (codes "if") → Started room t
start_if room t e =
    let c = (condition_reads room).sound.some in
    let b = some_block room in
    (c.tokens ++ b.tokens, true, If (extent (freed t ∷ (c.tokens ++ b.tokens))) c.value b.value, if_alone {us = freed t ∷ c.tokens} {vs = b.tokens} ((tt, c.value), (freed t ∷ [], c.tokens, refl, (freed t, refl, e), c.has), refl) (block b.has))

start_while : (room : ℕ) (t : Tok) → t.token.node ≡ tokens.Word (codes "while") → Started room t
start_while room t e =
    let c = (condition_reads room).sound.some in
    let b = some_block room in
    (c.tokens ++ b.tokens, false, While (extent (freed t ∷ (c.tokens ++ b.tokens))) c.value b.value, while {us = freed t ∷ c.tokens} {vs = b.tokens} ((tt, c.value), (freed t ∷ [], c.tokens, refl, (freed t, refl, e), c.has), refl) (block b.has))

start_for : (room : ℕ) (t : Tok) → t.token.node ≡ tokens.Word (codes "for") → Started room t
start_for room t e =
    let c = (walk_part_reads room).sound.some in
    let b = some_block room in
    (c.tokens ++ b.tokens, false, ForEach (extent (freed t ∷ (c.tokens ++ b.tokens))) c.value.0 c.value.1.0 c.value.1.1 b.value, for_each {us = freed t ∷ c.tokens} {vs = b.tokens} ((tt, c.value), (freed t ∷ [], c.tokens, refl, (freed t, refl, e), c.has), refl) (block b.has))

start_return : (room : ℕ) (t : Tok) → t.token.node ≡ tokens.Word (codes "return") → Started room t
start_return room t e =
    let c = (sign (codes ";")).sound.some in
    (c.tokens, false, Return (extent (freed t ∷ c.tokens)) None, bare (inl ((tt, None), (freed t ∷ [], c.tokens, refl, (freed t, refl, e), inl (tt, c.has, refl)), refl)))

start_break : (room : ℕ) (t : Tok) → t.token.node ≡ tokens.Word (codes "break") → Started room t
start_break room t e =
    let c = (sign (codes ";")).sound.some in
    (c.tokens, false, Break (extent (freed t ∷ c.tokens)), bare (inr (inl ((tt, tt), (freed t ∷ [], c.tokens, refl, (freed t, refl, e), c.has), refl))))

start_name : (room : ℕ) (t : Tok) (o : Option (List ℕ)) → name_in t.token.node ≡ o → is_some o ≡ true → Started room t
start_name room t None e h = absurd cc
start_name room t (Some w) e h =
    let c = some_both (sign (codes "=")).sound.some (value_reads room).sound.some in
    (c.tokens, false, Assign (extent (freed t ∷ c.tokens)) w c.value.1, bare (inr (inr ((w, λ at. Assign at w c.value.1), (freed t ∷ [], c.tokens, refl, (freed t, refl, e), inl (c.value, c.has, refl)), refl))))

started : (room : ℕ) (t : Tok) → begins_statement t.token.node ≡ true → Started room t
started room t e =
    elim (chosen (is_keyword t.token.node) true (is_name_token t.token.node) true e) [
      | inl h ↦ at_keyword (λ n. t.token.node ≡ n → Started room t) t.token.node (start_if room t) (start_for room t) (start_while room t) (start_return room t) (start_break room t) h.0 refl
      | inr h ↦ start_name room t (name_in t.token.node) refl h.1
    ]

-- ---- a statement as a body

abbrev Single : ℕ → Bool → Rule Statements
Single room b us xs = (x : Statement) × Opens room us × HasStatement (pred room) b us x × (xs ≡ Followed x Nothing)

some_single : (room : ℕ) → Inhabited (Anyhow (Single room))
some_single room =
    let t : Tok = freely (record { span = record { line = 0; column = 0; start = 0; end = 0 }; node = tokens.Word (codes "break") }) in
    let s = start_break (pred room) t refl in
    record { tokens = freed t ∷ s.0; value = (s.1, Followed s.2 Nothing); has = (s.2, (freed t, s.0, refl, λ e. absurd cc), s.3, refl) }

single_deep : (ts : List Tok) (fault : Fault) → first_is begins_statement ts ≡ true → failed {A = (Bool × Statements) × List Tok} (TooDeep (length ts)) ≡ failed fault → Stopped (Anyhow (Single zero)) ts fault
single_deep [] fault h e = absurd cc
single_deep (t ∷ ts) fault h e =
    let s = started zero t h in
    let q : TooDeep (suc (length ts)) ≡ fault = cc in
    subst (λ (f : Fault). Stopped (Anyhow (Single zero)) (t ∷ ts) f) q (record { front = []; rest = t ∷ ts; parts = refl; left = refl; tail = freed t ∷ s.0; value = (s.1, Followed s.2 Nothing); has = (s.2, (freed t, s.0, refl, λ strict. absurd cc), s.3, refl); goes = (t, ts, s.0, refl, refl) })

single_other : (ts : List Tok) (fault : Fault) → failed {A = (Bool × Statements) × List Tok} (Unexpected (length ts)) ≡ failed fault → Stopped (Anyhow (Single zero)) ts fault
single_other ts fault e =
    let q : Unexpected (length ts) ≡ fault = cc in
    subst (λ (f : Fault). Stopped (Anyhow (Single zero)) ts f) q (at_start (Anyhow (Single zero)) ts (length ts) refl (some_single zero))

shut_sound : (inner : Reader (Bool × Statement)) → Sound (Anyhow (Single zero)) (single_in zero inner)
unfolding single_in
shut_sound inner = record {
  found = λ ts x e. elim (chosen (first_is begins_statement ts) (Err (TooDeep (length ts))) (Err (Unexpected (length ts))) (Ok x) e) [ inl h ↦ absurd (let q = h.1 in cc) | inr h ↦ absurd (let q = h.1 in cc) ];
  stops = λ ts fault e. elim (chosen (first_is begins_statement ts) (Err (TooDeep (length ts))) (Err (Unexpected (length ts))) (Err fault) e) [ inl h ↦ single_deep ts fault h.0 h.1 | inr h ↦ single_other ts fault h.1 ];
  stays = λ n us le. past_cond n (first_is begins_statement us) (Err (TooDeep (length us))) (Err (Unexpected (length us))) le le;
  same = λ rest rest' us vs ag. alike_cond rest rest' (first_is begins_statement us) (first_is begins_statement vs) (same_first begins_statement rest rest' us vs ag) (stuck true ag) (stuck false ag);
  blind = λ us vs h. twin_cond (first_is begins_statement us) (first_is begins_statement vs) (twins_first begins_statement us vs h) (twin_stop (λ n. TooDeep n) us vs h) (twin_stop (λ n. Unexpected n) us vs h);
  some = some_single zero;
}

not_strict : (t : Tok) → Allows zero t → t.strict ≡ false
not_strict t allows = by t.strict refl
  where
    by : (b : Bool) → t.strict ≡ b → b ≡ false
    by true e = absurd (omega (arith, allows e))
    by false e = refl

shut_again : (inner : Reader (Bool × Statement)) (b : Bool) (us : List Tok) (xs : Statements) (rest : List Tok) → Single zero b us xs → Leads (single_in zero inner (us ++ rest)) (Ok ((b, xs), rest)) us rest
unfolding single_in
shut_again inner b us xs rest h =
    let o = h.1 in
    let first : first_is begins_statement (us ++ rest) ≡ true = begun_first begins_statement begins_statement true (λ n e. e) us rest (statement_begun h.2) in
    let deep : failed {A = (Bool × Statements) × List Tok} (TooDeep (length (us ++ rest))) ≡ Err (TooDeep (suc (length (o.1 ++ rest)))) = ap (λ (ts : List Tok). failed {A = (Bool × Statements) × List Tok} (TooDeep (length (ts ++ rest)))) o.2 in
    rw first (inr ([], o.0, o.1, o.2, not_strict o.0 o.3, deep))

single_reads : (room : ℕ) (inner : Reader (Bool × Statement)) → ((m : ℕ) → room ≡ suc m → ReadsBy (HasStatement (pred room)) inner) → ReadsBy (Single room) (single_in room inner)
unfolding single_in
single_reads zero inner law = record { sound = shut_sound inner; again = λ b us xs rest h follows. shut_again inner b us xs rest h }
single_reads (suc m) inner law = record {
  sound = turned_sound (Made alone (Anyhow (HasStatement m))) (Anyhow (Single (suc m))) (made alone inner) there (made_sound alone (Anyhow (HasStatement m)) inner (law m refl).sound);
  again = λ b us xs rest h follows. made_again alone (Ending (HasStatement m) b) (Ends b) inner (ending (law m refl) b) us (b, xs) rest ((b, h.0), (refl, h.2), ap (λ (ys : Statements). (b, ys)) h.3) follows;
}
  where
    there : (us : List Tok) (y : Bool × Statements) → Made alone (Anyhow (HasStatement m)) us y → Anyhow (Single (suc m)) us y
    there us y h =
        let s = statement_begun h.1 in
        subst (λ (z : Bool × Statements). Anyhow (Single (suc m)) us z) (sym h.2) (h.0.1, (s.0, s.1, s.2, λ e. omega arith), h.1, refl)

-- ---- bodies

-- what may follow statements
abbrev pub Closed : List Tok → Type 0
Closed rest = IsOver is_close rest × NoElse rest

closed_sign : (vs : List Tok) (y : Unit {0}) (rest : List Tok) → Sign (codes "}") vs y → Closed (vs ++ rest)
closed_sign vs y rest h = (rw (h.1, h.2) refl, rw (h.1, h.2) refl)

module _ (room : ℕ) (statement : Reader (Bool × Statement)) (statements : Reader Statements)
    (statement_law : (m : ℕ) → room ≡ suc m → ReadsBy (HasStatement (pred room)) statement) (statements_law : (m : ℕ) → room ≡ suc m → Reads (HasStatements (pred room)) Closed statements) where
  abbrev Braced : Rule Statements
  Braced = Made (λ x. x.1.0) (Seq (Opening room (codes "{")) (Seq (HasStatements (pred room)) (Sign (codes "}"))))

  block_there : (us : List Tok) (xs : Statements) → Braced us xs → HasBlock room us xs
  block_there us xs h =
      let p = h.1 in
      let q = p.4 in
      let all : us ≡ p.0 ++ (q.0 ++ q.1) = p.2 ∙ ap (λ (ts : List Tok). p.0 ++ ts) q.2 in
      subst (λ (ys : Statements). HasBlock room us ys) (sym h.2) (subst (λ (ts : List Tok). HasBlock room ts h.0.1.0) (sym all) (braces p.3 q.3 q.4))

  block_back : {us : List Tok} {xs : Statements} → HasBlock room us xs → Braced us xs
  block_back (braces {us} {vs} {ws} {xs} o s c) = ((tt, (xs, tt)), (us, vs ++ ws, refl, o, (vs, ws, refl, s, c)), refl)

  pub blocks : Reads (HasBlock room) Any (block_in room statements)
  unfolding block_in
  blocks =
      turned (HasBlock room)
      (of (enclosed room (codes "{") (some_both (some_statements (pred room)) (sign (codes "}")).sound.some) (λ m e. join (statements_law m e) (sign (codes "}")) (λ vs y rest h any. closed_sign vs y rest h))) (λ x. x.1.0))
      block_there (λ us xs h. block_back h)

  block_heads : {us : List Tok} {xs : Statements} → HasBlock room us xs → (rest : List Tok) → first_is (is_sign (codes "{")) (us ++ rest) ≡ true
  block_heads (braces {us} {vs} {ws} o s c) rest = ap (λ (ts : List Tok). first_is (is_sign (codes "{")) ts) (append_assoc us (vs ++ ws) rest) ∙ opening_heads room (codes "{") (is_sign (codes "{")) true Any refl us tt ((vs ++ ws) ++ rest) o tt

  abbrev BlockRule : Rule (Bool × Statements)
  BlockRule = Made (λ xs. (false, xs)) (HasBlock room)

  singles : ReadsBy (Single room) (single_in room statement)
  singles = single_reads room statement statement_law

  block_bodies : Reads BlockRule Any (made (λ xs. (false, xs)) (block_in room statements))
  block_bodies = of blocks (λ xs. (false, xs))

  body_there : (us : List Tok) (y : Bool × Statements) → Or BlockRule (Anyhow (Single room)) us y → Anyhow (HasBody room) us y
  body_there us y (inl h) = subst (λ (z : Bool × Statements). HasBody room z.0 us z.1) (sym h.2) (block h.1)
  body_there us y (inr h) = subst (λ (xs : Statements). HasBody room y.0 us xs) (sym h.3) (single h.1 h.2)

  body_again : {b : Bool} {us : List Tok} {xs : Statements} → HasBody room b us xs → (rest : List Tok) → Ends b rest → Leads (body_in room statement statements (us ++ rest)) (Ok ((b, xs), rest)) us rest
  unfolding body_in
  body_again (block {us} {xs} h) rest f = rw (block_heads h rest) (block_bodies.again us (false, xs) rest (xs, h, refl) tt)
  body_again (single {open_if} {us} {x} o h) rest f = rw (begun_first begins_statement (is_sign (codes "{")) false (begins_no_sign (codes "{")) us rest (statement_begun h)) (singles.again open_if us (Followed x Nothing) rest (x, o, h, refl) f)

  pub bodies : ReadsBy (HasBody room) (body_in room statement statements)
  unfolding body_in
  bodies = record {
    sound = turned_sound (Or BlockRule (Anyhow (Single room))) (Anyhow (HasBody room)) (body_in room statement statements) body_there
        (or_sound BlockRule (Anyhow (Single room)) (is_sign (codes "{")) (made (λ xs. (false, xs)) (block_in room statements)) (single_in room statement) block_bodies.sound singles.sound);
    again = λ b us xs rest h follows. body_again h rest follows;
  }
