-- Where a program goes on behind tokens that are spelled out, a program with calls goes on behind those tokens.
use Rattle.std.proofs.Common.{◌≡◌, ℕ, true, false, List, [], ◌∷◌, ◌++◌, Option, Some, None, refl, sym, ap, subst, ◌∙◌, append_assoc, codes}
use Rattle.std.specs.Prelude.{pred}
use Rattle.java_lex.specs.declared.token.TokenNode.{TokenNode}
use Rattle.java_lex.specs.declared.token.TokenNode.TheVariants as tokens
use Rattle.java_ast.specs.Tree.{Expression, Expressions, PlainProgram}
use Rattle.java_grammar.specs.Marks.{Tok, Allows}
use Rattle.java_grammar.specs.Words.{text_in}
use Rattle.java_grammar.specs.Reading.{is_sign}
use Rattle.java_grammar.specs.Expressions.{ranks, HasArguments, HasRank}
use Rattle.java_grammar.specs.Grammar.{HasProgram}
use Rattle.java_grammar.proofs.SingleLaws.{is_sign_true}
use Rattle.call_reader.specs.SpelledOut.{Spot, BehindEquals, BehindName, InCall, BehindCall, Elsewhere}
use Rattle.call_faults.specs.Larger.{spelled_from}
use Rattle.call_faults.proofs.Inner.{AllInner, step, run, run_append, run_none, none_of, arguments_neat, rank_neat}
use Rattle.call_faults.proofs.Heads.{IsEnd, Query, first_query}
use Rattle.call_faults.proofs.Focus.{Cut, before, later, cut, Focus, Some_of}
use Rattle.call_faults.proofs.Spelling.{within, behind_end, behind_close}
use Rattle.call_faults.proofs.Calls.{IsOpen, Ends, stays, Call, query, has_query, Goes, focus}

-- ---- what stands before a spot

-- a part of a call, in whose parentheses so many more are open
pub record Args (k : ℕ) (front : List Tok) : Type 0 where
  pub o : Tok
  pub text : Tok
  pub name : List ℕ
  pub inner : List Tok
  pub call : Call front (o ∷ text ∷ inner)
  pub opens : IsOpen o
  pub is_text : text_in text.token.node ≡ Some name
  pub depth : run (Some 0) inner ≡ Some k

-- a whole call
pub record Ended (us : List Tok) : Type 0 where
  pub front : List Tok
  pub close : Tok
  pub is : us ≡ front ++ close ∷ []
  pub args : Args 0 front
  pub closes : is_sign (codes ")") close.token.node ≡ true

abbrev pub At : Spot → List Tok → Type 0
At BehindEquals us = Ends true us
At (BehindName name) us = Call us []
At (InCall k) us = Args k us
At BehindCall us = Ended us
At Elsewhere us = Unit {0}

abbrev pub Fits : Spot → Tok → Type 0
Fits (BehindName name) t = IsOpen t
Fits _ t = Unit {0}

-- ---- behind a part of a call

pub record Going (k : ℕ) (front more : List Tok) (a : Args k front) : Type 0 where
  room : ℕ
  end : Tok
  rest : List Tok
  ahead : List Tok
  values : Expressions
  close : Tok
  tail : List Tok
  allows : Allows room a.o
  has : HasArguments (pred room) (a.inner ++ ahead) values
  closes : close.token.node ≡ tokens.Sign (codes ")")
  ends : IsEnd end
  more_is : more ≡ ahead ++ close ∷ (tail ++ end ∷ rest)
  tail_inner : AllInner tail
  again : (ws : List Tok) (x : Expression) → HasRank room ranks ws x → Some_of HasProgram (a.call.us ++ a.call.e ∷ (ws ++ end ∷ rest))

inner_behind : (us vs : List Tok) → AllInner (us ++ vs) → AllInner vs
inner_behind [] vs h = h
inner_behind (t ∷ us) vs h = inner_behind us vs h.1

pub going : (k : ℕ) (front more : List Tok) (p : PlainProgram) (a : Args k front) → HasProgram (front ++ more) p → Going k front more a
going k front more p a h = by (cut a.inner more q.args q.close (q.tail ++ f.end ∷ f.rest) others)
  where
    f : Focus (Some_of HasProgram) a.call.us a.call.e (a.call.n ∷ a.call.d ∷ a.call.m ∷ ((a.o ∷ a.text ∷ a.inner) ++ more))
    f = focus a.call more p h

    q : Query f.room f.value a.call.n a.call.d a.call.m a.o
    q = first_query f.end f.rest a.call.n a.call.d a.call.m a.o (a.text ∷ (a.inner ++ more)) f.has f.ends (sym f.parts) a.call.db a.call.dot a.call.long a.opens

    others : a.inner ++ more ≡ q.args ++ q.close ∷ (q.tail ++ f.end ∷ f.rest)
    others =
        let all : a.call.n ∷ a.call.d ∷ a.call.m ∷ a.o ∷ a.text ∷ (a.inner ++ more) ≡ a.call.n ∷ a.call.d ∷ a.call.m ∷ a.o ∷ q.text ∷ ((q.args ++ q.close ∷ q.tail) ++ f.end ∷ f.rest) = f.parts ∙ ap (λ (v : List Tok). v ++ f.end ∷ f.rest) q.whole in
        let tails : a.inner ++ more ≡ (q.args ++ q.close ∷ q.tail) ++ f.end ∷ f.rest = cc in
        tails ∙ append_assoc q.args (q.close ∷ q.tail) (f.end ∷ f.rest)

    tail_is : AllInner q.tail
    tail_is =
        let all : AllInner (a.call.n ∷ a.call.d ∷ a.call.m ∷ a.o ∷ q.text ∷ (q.args ++ q.close ∷ q.tail)) = subst AllInner q.whole (rank_neat f.has).inner in
        (inner_behind q.args (q.close ∷ q.tail) all.1.1.1.1.1).1

    by : Cut a.inner more q.args q.close (q.tail ++ f.end ∷ f.rest) → Going k front more a
    by (before m is rest) =
        let shut : run (Some 0) (q.args ++ q.close ∷ m) ≡ None =
        run_append (Some 0) q.args (q.close ∷ m) ∙ ap (λ (o : Option ℕ). run o (q.close ∷ m)) ((arguments_neat q.has).closed 0) ∙ ap (λ (n : TokenNode). run (step (Some 0) n) m) q.closes ∙ run_none m in
        absurd (let e : none_of ℕ ≡ Some k = sym shut ∙ ap (run (Some 0)) (sym is) ∙ a.depth in cc)
    by (later m is rest) = record {
      room = f.room;
      end = f.end;
      rest = f.rest;
      ahead = m;
      values = q.values;
      close = q.close;
      tail = q.tail;
      allows = q.allows;
      has = subst (λ (us : List Tok). HasArguments (pred f.room) us q.values) is q.has;
      closes = q.closes;
      ends = f.ends;
      more_is = rest;
      tail_inner = tail_is;
      again = f.again;
    }

module _ (k : ℕ) (front more : List Tok) (a : Args k front) (g : Going k front more a) where
  -- with the arguments, the parenthesis and the end of the statement
  inside : (p : PlainProgram) × HasProgram (front ++ (g.ahead ++ g.close ∷ g.end ∷ g.rest)) p
  inside =
      let v = has_query a.call g.room a.o a.text a.name (a.inner ++ g.ahead) g.values g.close a.opens g.allows a.is_text g.has g.closes in
      let r = g.again (query a.call a.o a.text (a.inner ++ g.ahead) g.close) v.0 v.1 in
      (r.0, subst (λ (xs : List Tok). HasProgram xs r.0) same r.1)
    where
      args : ((a.inner ++ g.ahead) ++ g.close ∷ []) ++ g.end ∷ g.rest ≡ a.inner ++ (g.ahead ++ g.close ∷ g.end ∷ g.rest)
      args = append_assoc (a.inner ++ g.ahead) (g.close ∷ []) (g.end ∷ g.rest) ∙ append_assoc a.inner g.ahead (g.close ∷ g.end ∷ g.rest)

      same : a.call.us ++ a.call.e ∷ (query a.call a.o a.text (a.inner ++ g.ahead) g.close ++ g.end ∷ g.rest) ≡ front ++ (g.ahead ++ g.close ∷ g.end ∷ g.rest)
      same =
          ap (λ (xs : List Tok). a.call.us ++ a.call.e ∷ a.call.n ∷ a.call.d ∷ a.call.m ∷ a.o ∷ a.text ∷ xs) args
          ∙ sym (append_assoc a.call.us (a.call.e ∷ a.call.n ∷ a.call.d ∷ a.call.m ∷ a.o ∷ a.text ∷ a.inner) (g.ahead ++ g.close ∷ g.end ∷ g.rest))
          ∙ ap (λ (xs : List Tok). xs ++ (g.ahead ++ g.close ∷ g.end ∷ g.rest)) (sym a.call.parts)

  rest_stays : spelled_from Elsewhere g.rest ≡ g.rest
  rest_stays =
      stays false (front ++ (g.ahead ++ g.close ∷ g.end ∷ [])) g.rest inside.0 tt
      (subst (λ (xs : List Tok). HasProgram xs inside.0) (ap (λ (xs : List Tok). front ++ xs) (sym (append_assoc g.ahead (g.close ∷ g.end ∷ []) g.rest)) ∙ sym (append_assoc front (g.ahead ++ g.close ∷ g.end ∷ []) g.rest)) inside.1)

  ahead_run : run (Some k) g.ahead ≡ Some 0
  ahead_run = ap (λ (o : Option ℕ). run o g.ahead) (sym a.depth) ∙ sym (run_append (Some 0) a.inner g.ahead) ∙ (arguments_neat g.has).closed 0

  pub in_call_goes : Goes (InCall k) front
  in_call_goes =
      let same : spelled_from (InCall k) (g.ahead ++ g.close ∷ g.end ∷ g.rest) ≡ g.ahead ++ g.close ∷ g.end ∷ g.rest =
      within k 0 g.ahead (g.close ∷ g.end ∷ g.rest) ahead_run
      ∙ ap (λ (xs : List Tok). g.ahead ++ xs) (behind_close g.close (g.end ∷ g.rest) g.closes ∙ ap (λ (xs : List Tok). g.close ∷ xs) (behind_end g.end g.rest g.ends ∙ ap (λ (xs : List Tok). g.end ∷ xs) rest_stays)) in
      (g.ahead ++ g.close ∷ g.end ∷ g.rest, inside.0, subst (λ (xs : List Tok). HasProgram (front ++ xs) inside.0) (sym same) inside.1)

-- ---- behind a whole call

-- no argument is left
none_ahead : (front more : List Tok) (close : Tok) (a : Args 0 front) (g : Going 0 front (close ∷ more) a) → is_sign (codes ")") close.token.node ≡ true → (g.ahead ≡ []) × (close ≡ g.close) × (more ≡ g.tail ++ g.end ∷ g.rest)
none_ahead front more close a g closes = by g.ahead g.more_is (ahead_run 0 front (close ∷ more) a g)
  where
    by : (us : List Tok) → close ∷ more ≡ us ++ g.close ∷ (g.tail ++ g.end ∷ g.rest) → run (Some 0) us ≡ Some 0 → (us ≡ []) × (close ≡ g.close) × (more ≡ g.tail ++ g.end ∷ g.rest)
    by [] e h = (refl, cc, cc)
    by (u ∷ us) e h =
        let same : close ≡ u = cc in
        let shut : run (Some 0) (u ∷ us) ≡ None = ap (λ (n : TokenNode). run (step (Some 0) n) us) (ap (λ (t : Tok). t.token.node) (sym same) ∙ is_sign_true (codes ")") close.token.node closes) ∙ run_none us in
        absurd (let q : none_of ℕ ≡ Some 0 = sym shut ∙ h in cc)

module _ (us more : List Tok) (p : PlainProgram) (e : Ended us) (h : HasProgram (us ++ more) p) where
  ended_going : Going 0 e.front (e.close ∷ more) e.args
  ended_going = going 0 e.front (e.close ∷ more) p e.args (subst (λ (xs : List Tok). HasProgram xs p) (ap (λ (xs : List Tok). xs ++ more) e.is ∙ append_assoc e.front (e.close ∷ []) more) h)

  pub behind_call_goes : Goes BehindCall us
  behind_call_goes =
      let g = ended_going in
      let n = none_ahead e.front more e.close e.args g e.closes in
      let r = inside 0 e.front (e.close ∷ more) e.args g in
      let same : e.front ++ (g.ahead ++ g.close ∷ g.end ∷ g.rest) ≡ us ++ spelled_from BehindCall (g.end ∷ g.rest) =
      ap (λ (xs : List Tok). e.front ++ (xs ++ g.close ∷ g.end ∷ g.rest)) n.0 ∙ ap (λ (t : Tok). e.front ++ t ∷ g.end ∷ g.rest) (sym n.1) ∙ sym (append_assoc e.front (e.close ∷ []) (g.end ∷ g.rest)) ∙ ap (λ (xs : List Tok). xs ++ g.end ∷ g.rest) (sym e.is)
      ∙ ap (λ (xs : List Tok). us ++ xs) (sym (behind_end g.end g.rest g.ends ∙ ap (λ (xs : List Tok). g.end ∷ xs) (rest_stays 0 e.front (e.close ∷ more) e.args g))) in
      (g.end ∷ g.rest, r.0, subst (λ (xs : List Tok). HasProgram xs r.0) same r.1)

-- no brace follows
pub no_brace : (us more : List Tok) (t : Tok) (p : PlainProgram) → Ended us → HasProgram (us ++ t ∷ more) p → is_sign (codes "{") t.token.node ≡ true → ⊥
no_brace us more t p e h brace =
    let g = ended_going us (t ∷ more) p e h in
    by g.end g.rest g.tail g.tail_inner (none_ahead e.front (t ∷ more) e.close e.args g e.closes).2 g.ends
  where
    by : (end : Tok) (rest tail : List Tok) → AllInner tail → t ∷ more ≡ tail ++ end ∷ rest → IsEnd end → ⊥
    by end rest [] inner is ends = let same : t ≡ end = cc in let q : true ≡ false = sym brace ∙ ap (λ (u : Tok). is_sign (codes "{") u.token.node) same ∙ ap (is_sign (codes "{")) ends in cc
    by end rest (u ∷ tail) inner is ends = let same : t ≡ u = cc in let q : true ≡ false = sym brace ∙ ap (λ (v : Tok). is_sign (codes "{") v.token.node) same ∙ inner.0.2 in cc
