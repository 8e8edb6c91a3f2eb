-- Many of one kind, one after the other.
use Rattle.std.proofs.Common.{◌≡◌, ℕ, zero, suc, ◌≤◌, ◌<◌, Bool, true, false, List, [], ◌∷◌, ◌++◌, length, Ok, Err, refl, sym, ap, subst, ◌∙◌, append_assoc, arith, inl, inr}
use Rattle.std.proofs.lemmas.List.{append-nil, length-append}
use Rattle.java_lex.specs.declared.token.TokenNode.{TokenNode}
use Rattle.java_lex.specs.declared.token.Token.{Token}
use Rattle.readers.specs.Reading.{◌>>=◌, is_over, up_to}
use Rattle.readers.proofs.Tools.{bind_ok, ok_is, bind_err, chosen}
use Rattle.java_grammar.specs.Marks.{Tok}
use Rattle.java_grammar.specs.Rules.{Rule, Many}
use Rattle.java_grammar.specs.Reading.{Reader, many_at}
use Rattle.java_grammar.proofs.Sound.{Takes, Finds, Stopped, Stops, moved, past_bind, past_cond, Stays, Agree, here, later, Alike, alike, alike_bind, alike_cond, Sound, agree_length, Twins, no_twins, twins, Twin, both_read, Blind, twins_length, twin_bind, twin_cond}
use Rattle.java_grammar.proofs.Again.{Leads, then_leads, bind_leads, leads_left, leads_right, Again}

abbrev stops_at : (TokenNode → Bool) → Tok → Bool
stops_at stop t = stop t.token.node

abbrev over : (TokenNode → Bool) → List Tok → Bool
over stop ts = is_over (λ (t : Tok). stop t.token.node) ts

module _ {A : Type 0} (stop : TokenNode → Bool) (G : Rule A) (r : Reader A) (law : Sound G r) (long : (us : List Tok) (x : A) → G us x → 0 < length us) where
  abbrev go : ℕ → Reader (List A)
  go n ts = up_to (λ (t : Tok). stop t.token.node) r n ts

  up_to_finds : (n : ℕ) → Finds (Many G) (go n)
  unfolding up_to
  up_to_finds zero ts x e = subst (λ (y : List A × List Tok). Takes (Many G) ts y.0 y.1) (ok_is ([], ts) x e) (record { front = []; parts = refl; has = refl })
  up_to_finds (suc n) ts x e =
      elim (chosen (over stop ts) (Ok ([], ts)) (r ts >>= λ y. go n y.1 >>= λ ys. Ok (y.0 ∷ ys.0, ys.1)) (Ok x) e) [
        | inl h ↦ subst (λ (y : List A × List Tok). Takes (Many G) ts y.0 y.1) (ok_is ([], ts) x h.1) (record { front = []; parts = refl; has = refl })
        | inr h ↦
            let a = bind_ok (r ts) (λ y. go n y.1 >>= λ ys. Ok (y.0 ∷ ys.0, ys.1)) x h.1 in
            let b = bind_ok (go n a.0.1) (λ ys. Ok (a.0.0 ∷ ys.0, ys.1)) x a.2 in
            let first = law.found ts a.0 a.1 in
            let others = up_to_finds n a.0.1 b.0 b.1 in
            subst (λ (y : List A × List Tok). Takes (Many G) ts y.0 y.1) (ok_is (a.0.0 ∷ b.0.0, b.0.1) x b.2)
            (record { front = first.front ++ others.front; parts = first.parts ∙ ap (λ (us : List Tok). first.front ++ us) others.parts ∙ sym (append_assoc first.front others.front b.0.1); has = (first.front, others.front, refl, first.has, others.has) })
      ]

  up_to_stops : (n : ℕ) → Stops (Many G) (go n)
  unfolding up_to
  up_to_stops zero ts fault e = absurd cc
  up_to_stops (suc n) ts fault e =
      elim (chosen (over stop ts) (Ok ([], ts)) (r ts >>= λ y. go n y.1 >>= λ ys. Ok (y.0 ∷ ys.0, ys.1)) (Err fault) e) [
        | inl h ↦ absurd cc
        | inr h ↦
            elim (bind_err (r ts) (λ y. go n y.1 >>= λ ys. Ok (y.0 ∷ ys.0, ys.1)) fault h.1) [
              | inl a ↦ let b = law.stops ts fault a in moved G (Many G) [] [] ts fault b (b.value ∷ []) (b.front ++ b.tail, [], refl, b.has, refl)
              | inr a ↦
                  let first = law.found ts a.0 a.1 in
                  elim (bind_err (go n a.0.1) (λ ys. Ok (a.0.0 ∷ ys.0, ys.1)) fault a.2) [
                    | inl m ↦
                        let b = up_to_stops n a.0.1 fault m in
                        subst (λ (ws : List Tok). Stopped (Many G) ws fault) (sym first.parts)
                        (moved (Many G) (Many G) first.front [] a.0.1 fault b (a.0.0 ∷ b.value) (first.front, b.front ++ b.tail, ap (λ (ws : List Tok). first.front ++ ws) (append-nil (b.front ++ b.tail)), first.has, b.has))
                    | inr m ↦ absurd cc
                  ]
            ]
      ]

  up_to_stays : (k : ℕ) → Stays (go k)
  unfolding up_to
  up_to_stays zero n us le = le
  up_to_stays (suc k) n us le =
      past_cond n (over stop us) (Ok ([], us)) (r us >>= λ y. go k y.1 >>= λ ys. Ok (y.0 ∷ ys.0, ys.1)) le
      (past_bind n (r us) (λ y. go k y.1 >>= λ ys. Ok (y.0 ∷ ys.0, ys.1)) (law.stays n us le)
      (λ x vs lt. past_bind n (go k vs) (λ ys. Ok (x ∷ ys.0, ys.1)) (up_to_stays k n vs lt) (λ ys ws last. last)))

  shorter : (us : List Tok) (x : A × List Tok) → r us ≡ Ok x → length x.1 < length us
  shorter us x e = let taken = law.found us x e in omega (arith, long taken.front x.0 taken.has, ap length taken.parts, length-append taken.front x.1)

  same_over : (rest rest' us vs : List Tok) → Agree rest rest' us vs → over stop us ≡ over stop vs
  same_over rest rest' _ _ (here e) = ap (λ (t : Token). stop t.node) e
  same_over rest rest' _ _ (later ag) = refl

  up_to_same : (n m : ℕ) (rest rest' us vs : List Tok) → length us ≤ n → length vs ≤ m → Agree rest rest' us vs → Alike rest rest' (List A) (go n us) (go m vs)
  unfolding up_to
  up_to_same zero m rest rest' us vs le_us le_vs ag = absurd (omega (arith, (agree_length rest rest' us vs ag).1))
  up_to_same (suc n) zero rest rest' us vs le_us le_vs ag = absurd (omega (arith, (agree_length rest rest' us vs ag).0, (agree_length rest rest' us vs ag).1))
  up_to_same (suc n) (suc m) rest rest' us vs le_us le_vs ag =
      alike_cond rest rest' (over stop us) (over stop vs) (same_over rest rest' us vs ag) (alike ag)
      (alike_bind rest rest' (λ y. go n y.1 >>= λ ys. Ok (y.0 ∷ ys.0, ys.1)) (λ y. go m y.1 >>= λ ys. Ok (y.0 ∷ ys.0, ys.1)) (law.same rest rest' us vs ag)
      (λ x us' vs' ag' e e'. alike_bind rest rest' (λ ys. Ok (x ∷ ys.0, ys.1)) (λ ys. Ok (x ∷ ys.0, ys.1))
      (up_to_same n m rest rest' us' vs' (omega (arith, shorter us (x, us') e)) (omega (arith, shorter vs (x, vs') e')) ag')
      (λ ys ws zs last f f'. alike last) (λ ys ws lt. lt))
      (λ x us' lt. past_bind (length rest) (go n us') (λ ys. Ok (x ∷ ys.0, ys.1)) (up_to_stays n (length rest) us' lt) (λ ys ws last. last)))

  twins_over : (us vs : List Tok) → Twins us vs → over stop us ≡ over stop vs
  twins_over _ _ no_twins = refl
  twins_over _ _ (twins e h) = ap (λ (t : Token). stop t.node) e

  up_to_blind : (n : ℕ) → Blind (go n)
  unfolding up_to
  up_to_blind zero us vs h = both_read h
  up_to_blind (suc n) us vs h =
      twin_cond (over stop us) (over stop vs) (twins_over us vs h) (both_read h)
      (twin_bind (λ y. go n y.1 >>= λ ys. Ok (y.0 ∷ ys.0, ys.1)) (λ y. go n y.1 >>= λ ys. Ok (y.0 ∷ ys.0, ys.1)) (law.blind us vs h)
      (λ x us' vs' h'. twin_bind (λ ys. Ok (x ∷ ys.0, ys.1)) (λ ys. Ok (x ∷ ys.0, ys.1)) (up_to_blind n us' vs' h') (λ ys ws zs last. both_read last)))

  pub many_sound : Sound (Many G) (many_at stop r)
  many_sound = record {
    found = λ ts x e. up_to_finds (length ts) ts x e;
    stops = λ ts fault e. up_to_stops (length ts) ts fault e;
    stays = λ n us le. up_to_stays (length us) n us le;
    same = λ rest rest' us vs ag. up_to_same (length us) (length vs) rest rest' us vs (omega arith) (omega arith) ag;
    blind = λ us vs h. subst (λ (n : ℕ). Twin (List A) (go (length us) us) (go n vs)) (twins_length us vs h) (up_to_blind (length us) us vs h);
    some = record { tokens = []; value = []; has = refl };
  }

-- before a token that ends them, or at the end
abbrev pub IsOver : (TokenNode → Bool) → List Tok → Type 0
IsOver stop rest = is_over (λ (t : Tok). stop t.token.node) rest ≡ true

module _ {A : Type 0} (stop : TokenNode → Bool) (G : Rule A) (F : List Tok → Type 0) (r : Reader A) (again : Again G F r)
    (long : (us : List Tok) (x : A) → G us x → 0 < length us) (goes : (us : List Tok) (x : A) (rest : List Tok) → G us x → is_over (λ (t : Tok). stop t.token.node) (us ++ rest) ≡ false)
    (next : (us : List Tok) (x : A) (rest : List Tok) → G us x → F (us ++ rest)) where
  over_stays : (n : ℕ) (rest : List Tok) → IsOver stop rest → up_to (λ (t : Tok). stop t.token.node) r n rest ≡ Ok ([], rest)
  unfolding up_to
  over_stays zero rest e = refl
  over_stays (suc n) rest e = rw e refl

  follows : (xs : List A) (vs rest : List Tok) → Many G vs xs → F rest → F (vs ++ rest)
  follows [] vs rest h e = subst (λ (ws : List Tok). F (ws ++ rest)) (sym h) e
  follows (x ∷ xs) vs rest h e = subst (λ (ws : List Tok). F (ws ++ rest)) (sym h.2) (subst F (sym (append_assoc h.0 h.1 rest)) (next h.0 x (h.1 ++ rest) h.3))

  up_to_again : (xs : List A) (n : ℕ) (us rest : List Tok) → Many G us xs → length us ≤ n → IsOver stop rest × F rest → Leads (up_to (λ (t : Tok). stop t.token.node) r n (us ++ rest)) (Ok (xs, rest)) us rest
  unfolding up_to
  up_to_again [] n us rest h le e = inl (rw h (over_stays n rest e.0))
  up_to_again (x ∷ xs) zero us rest h le e = absurd (omega (arith, long h.0 x h.3, ap length h.2, length-append h.0 h.1))
  up_to_again (x ∷ xs) (suc n) us rest h le e =
      let going = goes h.0 x (h.1 ++ rest) h.3 in
      let first = again h.0 x (h.1 ++ rest) h.3 (follows xs h.1 rest h.4 e.1) in
      let others = up_to_again xs n h.1 rest h.4 (omega (arith, le, ap length h.2, length-append h.0 h.1, long h.0 x h.3)) e in
      let one = leads_left _ _ h.0 h.1 rest (bind_leads (r (h.0 ++ (h.1 ++ rest))) (x, h.1 ++ rest) (λ y. up_to (λ (t : Tok). stop t.token.node) r n y.1 >>= λ ys. Ok (y.0 ∷ ys.0, ys.1)) h.0 (h.1 ++ rest) first) in
      let two = leads_right _ _ h.0 h.1 rest (bind_leads (up_to (λ (t : Tok). stop t.token.node) r n (h.1 ++ rest)) (xs, rest) (λ ys. Ok (x ∷ ys.0, ys.1)) h.1 rest others) in
      let all : Leads (up_to (λ (t : Tok). stop t.token.node) r (suc n) (h.0 ++ (h.1 ++ rest))) (Ok (x ∷ xs, rest)) (h.0 ++ h.1) rest = rw going (then_leads _ _ (Ok (x ∷ xs, rest)) (h.0 ++ h.1) rest one two) in
      subst (λ (ws : List Tok). Leads (up_to (λ (t : Tok). stop t.token.node) r (suc n) (ws ++ rest)) (Ok (x ∷ xs, rest)) ws rest) (sym h.2)
      (subst (λ (ws : List Tok). Leads (up_to (λ (t : Tok). stop t.token.node) r (suc n) ws) (Ok (x ∷ xs, rest)) (h.0 ++ h.1) rest) (sym (append_assoc h.0 h.1 rest)) all)

  pub many_again : Again (Many G) (λ rest. IsOver stop rest × F rest) (many_at stop r)
  many_again us xs rest h e = up_to_again xs (length (us ++ rest)) us rest h (omega (arith, length-append us rest)) e
