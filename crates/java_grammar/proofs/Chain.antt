-- Chains: what is read first, and parts that follow it one after the other.
use Rattle.std.proofs.Common.{◌≡◌, ℕ, zero, suc, pred, Bool, true, false, List, [], ◌++◌, length, Option, Some, None, Ok, Err, refl, sym, ap, subst, ◌∙◌, append_assoc, inl, inr}
use Rattle.std.proofs.lemmas.List.{append-nil}
use Rattle.qbs_base.specs.declared.span.Span.{Span}
use Rattle.java_lex.specs.declared.token.TokenNode.{TokenNode}
use Rattle.readers.specs.declared.fault.Fault.{Fault}
use Rattle.readers.specs.declared.fault.Fault.TheVariants.{TooDeep}
use Rattle.readers.specs.Reading.{◌>>=◌}
use Rattle.readers.proofs.Tools.{bind_ok, ok_is, bind_err, chosen, failed}
use Rattle.java_grammar.specs.Marks.{Tok, extent}
use Rattle.java_grammar.specs.Rules.{Rule}
use Rattle.java_grammar.specs.Reading.{Reader, consumed, first_is, chain_at, continued, chained_at}
use Rattle.java_grammar.proofs.Sound.{Takes, Stopped, moved, past_bind, past_cond, Stays, Agree, Alike, alike, stuck, alike_bind, alike_cond, same_first, Sound, consumed_is, same_consumed, Twins, Twin, both_read, twins_first, twins_extent, twin_stop, twin_bind, twin_cond}
use Rattle.java_grammar.proofs.Again.{Leads, bind_leads}

-- Step n x is what follows x where n more may follow; C n is what has parts so far; D is anything read.
module _ {A : Type 0} (more : TokenNode → Bool) (step : ℕ → A → Reader (Span → A)) (Step : ℕ → A → Rule (Span → A)) (C : ℕ → Rule A) (D : Rule A)
    (law : (n : ℕ) (x : A) → Sound (Step n x) (step n x))
    (grow : (n : ℕ) (us vs : List Tok) (x : A) (f : Span → A) → C n us x → Step n x vs f → C (pred n) (us ++ vs) (f (extent (us ++ vs))))
    (done : (n : ℕ) (us : List Tok) (x : A) → C n us x → D us x) (over : (x : A) (ts : List Tok) → first_is more ts ≡ true → step zero x ts ≡ Err (TooDeep (length ts))) where
  longer : (n : ℕ) (from : List Tok) (x : A) (us front rest ts : List Tok) (f : Span → A) → C n us x → from ≡ us ++ ts → ts ≡ front ++ rest → Step n x front f → (from ≡ (us ++ front) ++ rest) × C (pred n) (us ++ front) (f (extent (consumed from rest)))
  longer n from x us front rest ts f so_far is parts s =
      let all : from ≡ (us ++ front) ++ rest = is ∙ ap (λ (ws : List Tok). us ++ ws) parts ∙ sym (append_assoc us front rest) in
      (all, subst (λ (ws : List Tok). C (pred n) (us ++ front) (f (extent ws))) (sym (consumed_is from (us ++ front) rest all)) (grow n us front x f so_far s))

  chain_finds : (n : ℕ) (from : List Tok) (x : A) (us ts : List Tok) (y : A × List Tok) → C n us x → from ≡ us ++ ts → chain_at more step n from x ts ≡ Ok y → Takes D from y.0 y.1
  unfolding chain_at
  chain_finds zero from x us ts y so_far is e =
      elim (chosen (first_is more ts) (Err (TooDeep (length ts))) (Ok (x, ts)) (Ok y) e) [
        | inl h ↦ absurd cc
        | inr h ↦ subst (λ (z : A × List Tok). Takes D from z.0 z.1) (ok_is (x, ts) y h.1) (record { front = us; parts = is; has = done zero us x so_far })
      ]
  chain_finds (suc n) from x us ts y so_far is e =
      elim (chosen (first_is more ts) (step (suc n) x ts >>= λ z. chain_at more step n from (z.0 (extent (consumed from z.1))) z.1) (Ok (x, ts)) (Ok y) e) [
        | inl h ↦
            let a = bind_ok (step (suc n) x ts) (λ z. chain_at more step n from (z.0 (extent (consumed from z.1))) z.1) y h.1 in
            let s = (law (suc n) x).found ts a.0 a.1 in
            let l = longer (suc n) from x us s.front a.0.1 ts a.0.0 so_far is s.parts s.has in
            chain_finds n from (a.0.0 (extent (consumed from a.0.1))) (us ++ s.front) a.0.1 y l.1 l.0 a.2
        | inr h ↦ subst (λ (z : A × List Tok). Takes D from z.0 z.1) (ok_is (x, ts) y h.1) (record { front = us; parts = is; has = done (suc n) us x so_far })
      ]

  step_stops : (n : ℕ) (from : List Tok) (x : A) (us ts : List Tok) (fault : Fault) → C n us x → from ≡ us ++ ts → step n x ts ≡ Err fault → Stopped D from fault
  step_stops n from x us ts fault so_far is e =
      let s = (law n x).stops ts fault e in
      let y = s.value (extent (us ++ (s.front ++ s.tail))) in
      let has : D (us ++ ((s.front ++ s.tail) ++ [])) y = subst (λ (ws : List Tok). D (us ++ ws) y) (sym (append-nil (s.front ++ s.tail))) (done (pred n) (us ++ (s.front ++ s.tail)) y (grow n us (s.front ++ s.tail) x s.value so_far s.has)) in
      subst (λ (ws : List Tok). Stopped D ws fault) (sym is) (moved (Step n x) D us [] ts fault s y has)

  chain_stops : (n : ℕ) (from : List Tok) (x : A) (us ts : List Tok) (fault : Fault) → C n us x → from ≡ us ++ ts → chain_at more step n from x ts ≡ Err fault → Stopped D from fault
  unfolding chain_at
  chain_stops zero from x us ts fault so_far is e =
      elim (chosen (first_is more ts) (Err (TooDeep (length ts))) (Ok (x, ts)) (Err fault) e) [
        | inl h ↦ step_stops zero from x us ts fault so_far is (over x ts h.0 ∙ same_err (TooDeep (length ts)) fault h.1)
        | inr h ↦ absurd cc
      ]
    where
      same_err : (d e : Fault) → failed {A = A × List Tok} d ≡ failed {A = A × List Tok} e → failed {A = (Span → A) × List Tok} d ≡ failed {A = (Span → A) × List Tok} e
      same_err d e h = let q : d ≡ e = cc in ap (λ (f : Fault). failed f) q
  chain_stops (suc n) from x us ts fault so_far is e =
      elim (chosen (first_is more ts) (step (suc n) x ts >>= λ z. chain_at more step n from (z.0 (extent (consumed from z.1))) z.1) (Ok (x, ts)) (Err fault) e) [
        | inl h ↦ elim (bind_err (step (suc n) x ts) (λ z. chain_at more step n from (z.0 (extent (consumed from z.1))) z.1) fault h.1) [
          | inl b ↦ step_stops (suc n) from x us ts fault so_far is b
          | inr b ↦
              let s = (law (suc n) x).found ts b.0 b.1 in
              let l = longer (suc n) from x us s.front b.0.1 ts b.0.0 so_far is s.parts s.has in
              chain_stops n from (b.0.0 (extent (consumed from b.0.1))) (us ++ s.front) b.0.1 fault l.1 l.0 b.2
        ]
        | inr h ↦ absurd cc
      ]

  chain_stays : (n : ℕ) (from : List Tok) (x : A) → Stays (chain_at more step n from x)
  unfolding chain_at
  chain_stays zero from x k us le = past_cond k (first_is more us) (Err (TooDeep (length us))) (Ok (x, us)) le le
  chain_stays (suc n) from x k us le =
      past_cond k (first_is more us) (step (suc n) x us >>= λ z. chain_at more step n from (z.0 (extent (consumed from z.1))) z.1) (Ok (x, us))
      (past_bind k (step (suc n) x us) (λ z. chain_at more step n from (z.0 (extent (consumed from z.1))) z.1) ((law (suc n) x).stays k us le) (λ f vs lt. chain_stays n from (f (extent (consumed from vs))) k vs lt)) le

  chain_same : (n : ℕ) (rest rest' from from' : List Tok) (x : A) (us us' ts ts' : List Tok) → from ≡ us ++ ts → from' ≡ us' ++ ts' → Agree rest rest' from from' → Agree rest rest' ts ts'
      → Alike rest rest' A (chain_at more step n from x ts) (chain_at more step n from' x ts')
  unfolding chain_at
  chain_same zero rest rest' from from' x us us' ts ts' is is' all ag = alike_cond rest rest' (first_is more ts) (first_is more ts') (same_first more rest rest' ts ts' ag) (stuck true ag) (alike ag)
  chain_same (suc n) rest rest' from from' x us us' ts ts' is is' all ag =
      alike_cond rest rest' (first_is more ts) (first_is more ts') (same_first more rest rest' ts ts' ag)
      (alike_bind rest rest' (λ z. chain_at more step n from (z.0 (extent (consumed from z.1))) z.1) (λ z. chain_at more step n from' (z.0 (extent (consumed from' z.1))) z.1) ((law (suc n) x).same rest rest' ts ts' ag)
      (λ f vs vs' ag' e e'.
      let s = (law (suc n) x).found ts (f, vs) e in
      let s' = (law (suc n) x).found ts' (f, vs') e' in
      let parts : from ≡ (us ++ s.front) ++ vs = is ∙ ap (λ (ws : List Tok). us ++ ws) s.parts ∙ sym (append_assoc us s.front vs) in
      let parts' : from' ≡ (us' ++ s'.front) ++ vs' = is' ∙ ap (λ (ws : List Tok). us' ++ ws) s'.parts ∙ sym (append_assoc us' s'.front vs') in
      subst (λ (ws : List Tok). Alike rest rest' A (chain_at more step n from (f (extent (consumed from vs))) vs) (chain_at more step n from' (f (extent ws)) vs')) (same_consumed rest rest' (us ++ s.front) (us' ++ s'.front) from from' vs vs' parts parts' ag' all)
      (chain_same n rest rest' from from' (f (extent (consumed from vs))) (us ++ s.front) (us' ++ s'.front) vs vs' parts parts' all ag'))
      (λ f vs lt. chain_stays n from (f (extent (consumed from vs))) (length rest) vs lt))
      (alike ag)

  chain_blind : (n : ℕ) (from from' : List Tok) (x : A) (ts ts' : List Tok) → Twins from from' → Twins ts ts' → Twin A (chain_at more step n from x ts) (chain_at more step n from' x ts')
  unfolding chain_at
  chain_blind zero from from' x ts ts' all h = twin_cond (first_is more ts) (first_is more ts') (twins_first more ts ts' h) (twin_stop (λ k. TooDeep k) ts ts' h) (both_read h)
  chain_blind (suc n) from from' x ts ts' all h =
      twin_cond (first_is more ts) (first_is more ts') (twins_first more ts ts' h)
      (twin_bind (λ z. chain_at more step n from (z.0 (extent (consumed from z.1))) z.1) (λ z. chain_at more step n from' (z.0 (extent (consumed from' z.1))) z.1) ((law (suc n) x).blind ts ts' h)
      (λ f vs vs' h'. subst (λ (at : Span). Twin A (chain_at more step n from (f (extent (consumed from vs))) vs) (chain_at more step n from' (f at) vs')) (twins_extent from from' vs vs' all h') (chain_blind n from from' (f (extent (consumed from vs))) vs vs' all h')))
      (both_read h)

  module _ (P : Rule (A × Option ℕ)) (base : Reader (A × Option ℕ)) (first : Sound P base) (alone : (us : List Tok) (x : A) → P us (x, None) → D us x) (begun : (us : List Tok) (x : A) (n : ℕ) → P us (x, Some n) → C n us x) where
    continued_finds : (o : Option ℕ) (from : List Tok) (x : A) (us ts : List Tok) (y : A × List Tok) → P us (x, o) → from ≡ us ++ ts → continued more step o from x ts ≡ Ok y → Takes D from y.0 y.1
    continued_finds None from x us ts y h is e = subst (λ (z : A × List Tok). Takes D from z.0 z.1) (ok_is (x, ts) y e) (record { front = us; parts = is; has = alone us x h })
    continued_finds (Some n) from x us ts y h is e = chain_finds n from x us ts y (begun us x n h) is e

    continued_stops : (o : Option ℕ) (from : List Tok) (x : A) (us ts : List Tok) (fault : Fault) → P us (x, o) → from ≡ us ++ ts → continued more step o from x ts ≡ Err fault → Stopped D from fault
    continued_stops None from x us ts fault h is e = absurd cc
    continued_stops (Some n) from x us ts fault h is e = chain_stops n from x us ts fault (begun us x n h) is e

    continued_stays : (o : Option ℕ) (from : List Tok) (x : A) → Stays (continued more step o from x)
    continued_stays None from x k us le = le
    continued_stays (Some n) from x k us le = chain_stays n from x k us le

    continued_same : (o : Option ℕ) (rest rest' from from' : List Tok) (x : A) (us us' ts ts' : List Tok) → from ≡ us ++ ts → from' ≡ us' ++ ts' → Agree rest rest' from from' → Agree rest rest' ts ts'
        → Alike rest rest' A (continued more step o from x ts) (continued more step o from' x ts')
    continued_same None rest rest' from from' x us us' ts ts' is is' all ag = alike ag
    continued_same (Some n) rest rest' from from' x us us' ts ts' is is' all ag = chain_same n rest rest' from from' x us us' ts ts' is is' all ag

    continued_blind : (o : Option ℕ) (from from' : List Tok) (x : A) (ts ts' : List Tok) → Twins from from' → Twins ts ts' → Twin A (continued more step o from x ts) (continued more step o from' x ts')
    continued_blind None from from' x ts ts' all h = both_read h
    continued_blind (Some n) from from' x ts ts' all h = chain_blind n from from' x ts ts' all h

    finished : (o : Option ℕ) (us : List Tok) (x : A) → P us (x, o) → D us x
    finished None us x h = alone us x h
    finished (Some n) us x h = done n us x (begun us x n h)

    pub chained_sound : Sound D (chained_at more step base)
    chained_sound = record {
      found = λ ts y e.
          let a = bind_ok (base ts) (λ x. continued more step x.0.1 ts x.0.0 x.1) y e in
          let b = first.found ts a.0 a.1 in
          continued_finds a.0.0.1 ts a.0.0.0 b.front a.0.1 y b.has b.parts a.2;
      stops = λ ts fault e. elim (bind_err (base ts) (λ x. continued more step x.0.1 ts x.0.0 x.1) fault e) [
        | inl h ↦ let b = first.stops ts fault h in moved P D [] [] ts fault b b.value.0 (subst (λ (ws : List Tok). D ws b.value.0) (sym (append-nil (b.front ++ b.tail))) (finished b.value.1 (b.front ++ b.tail) b.value.0 b.has))
        | inr h ↦ let b = first.found ts h.0 h.1 in continued_stops h.0.0.1 ts h.0.0.0 b.front h.0.1 fault b.has b.parts h.2
      ];
      stays = λ n us le. past_bind n (base us) (λ x. continued more step x.0.1 us x.0.0 x.1) (first.stays n us le) (λ x vs lt. continued_stays x.1 us x.0 n vs lt);
      same = λ rest rest' us vs ag. alike_bind rest rest' (λ x. continued more step x.0.1 us x.0.0 x.1) (λ x. continued more step x.0.1 vs x.0.0 x.1) (first.same rest rest' us vs ag)
          (λ x us' vs' ag' e e'.
          let b = first.found us (x, us') e in
          let b' = first.found vs (x, vs') e' in
          continued_same x.1 rest rest' us vs x.0 b.front b'.front us' vs' b.parts b'.parts ag ag')
          (λ x us' lt. continued_stays x.1 us x.0 (length rest) us' lt);
      blind = λ us vs h. twin_bind (λ x. continued more step x.0.1 us x.0.0 x.1) (λ x. continued more step x.0.1 vs x.0.0 x.1) (first.blind us vs h) (λ x us' vs' h'. continued_blind x.1 us vs x.0 us' vs' h h');
      some = record { tokens = first.some.tokens; value = first.some.value.0; has = finished first.some.value.1 first.some.tokens first.some.value.0 first.some.has };
    }

-- a part is read again, and the chain goes on behind it
module _ {A : Type 0} (more : TokenNode → Bool) (step : ℕ → A → Reader (Span → A)) (over : (x : A) (ts : List Tok) → first_is more ts ≡ true → step zero x ts ≡ Err (TooDeep (length ts))) where
  pub chain_steps : (n : ℕ) (from : List Tok) (x : A) (us vs rest : List Tok) (f : Span → A) → from ≡ us ++ (vs ++ rest) → first_is more (vs ++ rest) ≡ true → Leads (step n x (vs ++ rest)) (Ok (f, rest)) vs rest
      → Leads (chain_at more step n from x (vs ++ rest)) (chain_at more step (pred n) from (f (extent (us ++ vs))) rest) vs rest
  unfolding chain_at
  chain_steps zero from x us vs rest f is goes (inl e) = absurd (let q : failed {A = (Span → A) × List Tok} (TooDeep (length (vs ++ rest))) ≡ Ok (f, rest) = sym (over x (vs ++ rest) goes) ∙ e in cc)
  chain_steps zero from x us vs rest f is goes (inr s) =
      let same : failed {A = (Span → A) × List Tok} (TooDeep (length (vs ++ rest))) ≡ failed (TooDeep (suc (length (s.2 ++ rest)))) = sym (over x (vs ++ rest) goes) ∙ s.5 in
      let count : length (vs ++ rest) ≡ suc (length (s.2 ++ rest)) = cc in
      rw goes (inr (s.0, s.1, s.2, s.3, s.4, ap (λ (n : ℕ). Err (TooDeep n)) count))
  chain_steps (suc n) from x us vs rest f is goes lead =
      let all : from ≡ (us ++ vs) ++ rest = is ∙ sym (append_assoc us vs rest) in
      let go = bind_leads (step (suc n) x (vs ++ rest)) (f, rest) (λ z. chain_at more step n from (z.0 (extent (consumed from z.1))) z.1) vs rest lead in
      rw goes (subst (λ (ws : List Tok). Leads (step (suc n) x (vs ++ rest) >>= λ z. chain_at more step n from (z.0 (extent (consumed from z.1))) z.1) (chain_at more step n from (f (extent ws)) rest) vs rest) (consumed_is from (us ++ vs) rest all) go)

  pub chain_ends : (n : ℕ) (from : List Tok) (x : A) (rest : List Tok) → first_is more rest ≡ false → chain_at more step n from x rest ≡ Ok (x, rest)
  unfolding chain_at
  chain_ends zero from x rest e = rw e refl
  chain_ends (suc n) from x rest e = rw e refl
