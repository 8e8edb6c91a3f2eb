-- Reading all of the tokens: exactly what has them is read, and a fault is the one that is kept.
use Rattle.std.proofs.Common.{◌≡◌, ℕ, suc, ◌-◌, Bool, true, false, List, [], ◌∷◌, ◌++◌, length, Result, Ok, Err, refl, sym, ap, subst, ◌∙◌, append_assoc, arith, inl, inr, ◌⊎◌}
use Rattle.std.proofs.lemmas.List.{append-nil, length-append, length-map}
use Rattle.java_lex.specs.declared.token.Token.{Token}
use Rattle.readers.specs.declared.fault.Fault.{Fault}
use Rattle.readers.specs.declared.fault.Fault.TheVariants.{Unexpected, TooDeep}
use Rattle.readers.specs.Reading.{◌>>=◌, Read, ended, whole}
use Rattle.readers.proofs.Tools.{bind_ok, ok_is, bind_err, failed}
use Rattle.java_grammar.specs.Marks.{Tok, strictly, freely, freed, all_strict, all_free}
use Rattle.java_grammar.specs.Rules.{Rule}
use Rattle.java_grammar.specs.Reading.{Reader}
use Rattle.java_grammar.specs.Faults.{IsUnexpected, IsTooDeep}
use Rattle.java_grammar.proofs.Sound.{Takes, Stopped, IsPast, Agree, here, later, Alike, alike, stuck, past, agree_length, fault_of, Twins, no_twins, twins, Twin, both_read, both_stop, twins_length}
use Rattle.java_grammar.proofs.Again.{Leads, bind_leads}
use Rattle.java_grammar.proofs.Laws.{Reads}

-- ---- strict tokens

strict_all : (ts : List Token) (vs : List Tok) (t : Tok) (ws : List Tok) → all_strict ts ≡ vs ++ t ∷ ws → t.strict ≡ true
strict_all [] [] t ws e = absurd cc
strict_all [] (v ∷ vs) t ws e = absurd cc
strict_all (s ∷ ts) [] t ws e = let q : strictly s ≡ t = cc in ap (λ (u : Tok). u.strict) (sym q)
strict_all (s ∷ ts) (v ∷ vs) t ws e = let q : all_strict ts ≡ vs ++ t ∷ ws = cc in strict_all ts vs t ws q

-- strict tokens that are cut are the strict ones of tokens that are cut
split_strict : (ts : List Token) (us vs : List Tok) → all_strict ts ≡ us ++ vs → (front : List Token) × (rest : List Token) × (ts ≡ front ++ rest) × (all_strict front ≡ us) × (all_strict rest ≡ vs)
split_strict ts [] vs e = ([], ts, refl, refl, e)
split_strict [] (u ∷ us) vs e = absurd cc
split_strict (t ∷ ts) (u ∷ us) vs e =
    let q : all_strict ts ≡ us ++ vs = cc in
    let p : strictly t ≡ u = cc in
    let s = split_strict ts us vs q in
    (t ∷ s.0, s.1, ap (λ (ws : List Token). t ∷ ws) s.2, ap (λ (ws : List Tok). strictly t ∷ ws) s.3 ∙ ap (λ (w : Tok). w ∷ us) p, s.4)

-- at one place from the end there is one token
same_place : (us vs ws zs : List Tok) (s t : Tok) → us ++ s ∷ ws ≡ vs ++ t ∷ zs → length ws ≡ length zs → s ≡ t
same_place [] [] ws zs s t e n = cc
same_place [] (v ∷ vs) ws zs s t e n = let q : ws ≡ vs ++ t ∷ zs = cc in absurd (omega (arith, n, ap length q, length-append vs (t ∷ zs)))
same_place (u ∷ us) [] ws zs s t e n = let q : us ++ s ∷ ws ≡ zs = cc in absurd (omega (arith, n, ap length q, length-append us (s ∷ ws)))
same_place (u ∷ us) (v ∷ vs) ws zs s t e n = let q : us ++ s ∷ ws ≡ vs ++ t ∷ zs = cc in same_place us vs ws zs s t q n

free_twins : (ts : List Token) → Twins (all_strict ts) (all_free ts)
free_twins [] = no_twins
free_twins (t ∷ ts) = twins {s = strictly t} {t = freely t} refl (free_twins ts)

module _ {A : Type 0} (G : Rule A) (F : List Tok → Type 0) (r : Reader A) (law : Reads G F r) (at_end : F []) where
  -- ---- what is read

  all_taken : (ts : List Tok) (y : A × List Tok) (x : A) → Takes G ts y.0 y.1 → ended y ≡ Ok x → G ts x
  all_taken ts (a, []) x taken e = subst (λ (us : List Tok). G us x) (sym (taken.parts ∙ append-nil taken.front)) (subst (λ (b : A). G taken.front b) (ok_is a x e) taken.has)
  all_taken ts (a, t ∷ rest) x taken e = absurd cc

  pub whole_found : (ts : List Tok) (x : A) → whole r ts ≡ Ok x → G ts x
  whole_found ts x e = let a = bind_ok (r ts) ended x e in all_taken ts a.0 x (law.sound.found ts a.0 a.1) a.2

  whole_again : (us : List Tok) (x : A) → G us x → Leads (whole r us) (Ok x) us []
  whole_again us x h =
      let go = bind_leads (r (us ++ [])) (x, []) ended us [] (law.again us x [] h at_end) in
      subst (λ (ts : List Tok). Leads (whole r ts) (Ok x) us []) (append-nil us) go

  pub whole_only : (ts : List Token) (x : A) → G (all_strict ts) x → whole r (all_strict ts) ≡ Ok x
  whole_only ts x h = by (whole_again (all_strict ts) x h)
    where
      by : Leads (whole r (all_strict ts)) (Ok x) (all_strict ts) [] → whole r (all_strict ts) ≡ Ok x
      by (inl e) = e
      by (inr s) = absurd (let e = strict_all ts s.0 s.1 s.2 s.3 in let q : true ≡ false = sym e ∙ s.4 in cc)

  -- ---- marks

  ended_blind : (a b : Read Tok A) → Twin A a b → (a >>= ended) ≡ (b >>= ended)
  ended_blind _ _ (both_read no_twins) = refl
  ended_blind _ _ (both_read (twins {us} {vs} e h)) = ap (λ (n : ℕ). Err (Unexpected (suc n))) (twins_length us vs h)
  ended_blind _ _ both_stop = refl

  pub whole_blind : (us vs : List Tok) → Twins us vs → whole r us ≡ whole r vs
  whole_blind us vs h = ended_blind (r us) (r vs) (law.sound.blind us vs h)

  -- what has the tokens, depth left aside, is read, or a token is too deep
  pub free_read : (ts : List Token) (x : A) → G (all_free ts) x → (whole r (all_strict ts) ≡ Ok x) ⊎ ((n : ℕ) × (whole r (all_strict ts) ≡ Err (TooDeep n)))
  free_read ts x h = by (whole_again (all_free ts) x h)
    where
      marks : whole r (all_strict ts) ≡ whole r (all_free ts)
      marks = whole_blind (all_strict ts) (all_free ts) (free_twins ts)

      by : Leads (whole r (all_free ts)) (Ok x) (all_free ts) [] → (whole r (all_strict ts) ≡ Ok x) ⊎ ((n : ℕ) × (whole r (all_strict ts) ≡ Err (TooDeep n)))
      by (inl e) = inl (marks ∙ e)
      by (inr s) = inr (suc (length (s.2 ++ [])), marks ∙ s.5)

  -- what is read has the tokens, depth left aside
  pub found_free : (ts : List Token) (x : A) → whole r (all_strict ts) ≡ Ok x → G (all_free ts) x
  found_free ts x e = whole_found (all_free ts) x (sym (whole_blind (all_strict ts) (all_free ts) (free_twins ts)) ∙ e)

  -- ---- where reading stops

  more_left : (ts : List Tok) (y : A × List Tok) (e : Fault) → Takes G ts y.0 y.1 → ended y ≡ Err e → Stopped G ts e
  more_left ts (a, []) e taken h = absurd cc
  more_left ts (a, t ∷ rest) (TooDeep n) taken h = absurd cc
  more_left ts (a, t ∷ rest) (Unexpected n) taken h = record { front = taken.front; rest = t ∷ rest; parts = taken.parts; left = let q : suc (length rest) ≡ n = cc in q; tail = []; value = a; has = subst (λ (ws : List Tok). G ws a) (sym (append-nil taken.front)) taken.has; goes = tt }

  whole_stops : (ts : List Tok) (e : Fault) → whole r ts ≡ Err e → Stopped G ts e
  whole_stops ts e h = elim (bind_err (r ts) ended e h) [ inl k ↦ law.sound.stops ts e k | inr k ↦ more_left ts k.0 e (law.sound.found ts k.0 k.1) k.2 ]

  ended_at : (rest rest' : List Tok) (x : A) (us vs : List Tok) → Agree rest rest' us vs → (ended (x, us) ≡ Err (Unexpected (length us))) × (ended (x, vs) ≡ Err (Unexpected (length vs)))
  ended_at rest rest' x _ _ (here e) = (refl, refl)
  ended_at rest rest' x _ _ (later ag) = (refl, refl)

  not_past : (rest : List Tok) (a : Read Tok A) (deep : Bool) → IsPast (length rest) a → (a >>= ended) ≡ Err (fault_of deep (suc (length rest))) → ⊥
  not_past rest (Ok (x, [])) deep p e = cc
  not_past rest (Ok (x, t ∷ us)) true p e = cc
  not_past rest (Ok (x, t ∷ us)) false p e = let q : suc (length us) ≡ suc (length rest) = cc in omega (arith, p, q)
  not_past rest (Err (Unexpected k)) true p e = cc
  not_past rest (Err (Unexpected k)) false p e = let q : k ≡ suc (length rest) = cc in omega (arith, p, q)
  not_past rest (Err (TooDeep k)) true p e = let q : k ≡ suc (length rest) = cc in omega (arith, p, q)
  not_past rest (Err (TooDeep k)) false p e = cc

  same_kind : (a b : Bool) (m n : ℕ) → failed {A = A} (fault_of a m) ≡ failed {A = A} (fault_of b n) → (a ≡ b) × (m ≡ n)
  same_kind true true m n e = (refl, cc)
  same_kind false false m n e = (refl, cc)
  same_kind true false m n e = absurd cc
  same_kind false true m n e = absurd cc

  -- the other list stops at the same token in the same way
  same_fault : (rest rest' : List Tok) (deep : Bool) (a b : Read Tok A) → Alike rest rest' A a b → (a >>= ended) ≡ Err (fault_of deep (suc (length rest))) → (b >>= ended) ≡ Err (fault_of deep (suc (length rest')))
  same_fault rest rest' deep _ _ (alike {x} {us} {vs} ag) e =
      let d = ended_at rest rest' x us vs ag in
      let k = same_kind false deep (length us) (suc (length rest)) (sym d.0 ∙ e) in
      let n : length vs ≡ suc (length rest') = omega (arith, (agree_length rest rest' us vs ag).0, k.1) in
      d.1 ∙ ap (λ (b : Bool). Err (fault_of b (length vs))) k.0 ∙ ap (λ (m : ℕ). Err (fault_of deep m)) n
  same_fault rest rest' deep _ _ (stuck {us} {vs} kind ag) e =
      let k = same_kind kind deep (length us) (suc (length rest)) e in
      let n : length vs ≡ suc (length rest') = omega (arith, (agree_length rest rest' us vs ag).0, k.1) in
      ap (λ (b : Bool). Err (fault_of b (length vs))) k.0 ∙ ap (λ (m : ℕ). Err (fault_of deep m)) n
  same_fault rest rest' deep _ _ (past {a} {b} p) e = absurd (not_past rest a deep p e)

  agree_at : (front rest rest' : List Tok) (s t : Tok) → s.token ≡ t.token → Agree rest rest' (front ++ s ∷ rest) (front ++ t ∷ rest')
  agree_at [] rest rest' s t e = here {t = s} {t' = t} e
  agree_at (u ∷ front) rest rest' s t e = later (agree_at front rest rest' s t e)

  twin : (front rest rest' : List Tok) (s t : Tok) (deep : Bool) → s.token ≡ t.token → whole r (front ++ s ∷ rest) ≡ Err (fault_of deep (suc (length rest))) → whole r (front ++ t ∷ rest') ≡ Err (fault_of deep (suc (length rest')))
  twin front rest rest' s t deep same e =
      same_fault rest rest' deep (r (front ++ s ∷ rest)) (r (front ++ t ∷ rest')) (law.sound.same rest rest' (front ++ s ∷ rest) (front ++ t ∷ rest') (agree_at front rest rest' s t same)) e

  refused : (a : Result A Fault) (x : A) (e : Fault) → a ≡ Err e → a ≡ Ok x → ⊥
  refused a x e is was = let q : failed {A = A} e ≡ Ok x = sym is ∙ was in cc

  pub first_unexpected : (ts : List Token) (n : ℕ) → whole r (all_strict ts) ≡ Err (Unexpected n) → IsUnexpected G ts (length ts - n)
  first_unexpected ts n e =
      let b = whole_stops (all_strict ts) (Unexpected n) e in
      let s = split_strict ts b.front b.rest b.parts in
      let left : length s.1 ≡ n = sym (length-map s.1 strictly) ∙ ap length s.4 ∙ b.left in
      record {
        front = s.0;
        rest = s.1;
        parts = s.2;
        number = omega (arith, ap length s.2, length-append s.0 s.1, left);
        begins = (b.tail, b.value, subst (λ (us : List Tok). G (us ++ b.tail) b.value) (sym s.3) b.has);
        none_goes_on = λ t us is begins.
            let cut : all_strict ts ≡ all_strict s.0 ++ strictly t ∷ all_strict us = b.parts ∙ ap (λ (ws : List Tok). ws ++ b.rest) (sym s.3) ∙ ap (λ (ws : List Tok). all_strict s.0 ++ ws) (sym s.4 ∙ ap all_strict is) in
            let count : n ≡ suc (length (all_strict us)) = sym left ∙ ap length is ∙ ap suc (sym (length-map us strictly)) in
            let fault : whole r (all_strict s.0 ++ strictly t ∷ all_strict us) ≡ Err (Unexpected (suc (length (all_strict us)))) = subst (λ (k : ℕ). whole r (all_strict s.0 ++ strictly t ∷ all_strict us) ≡ Err (Unexpected k)) count (subst (λ (ws : List Tok). whole r ws ≡ Err (Unexpected n)) cut e) in
            let other = twin (all_strict s.0) (all_strict us) begins.0 (strictly t) (freely t) false refl fault in
            let has = subst (λ (ws : List Tok). G ws begins.1) (append_assoc (all_strict s.0) (freely t ∷ []) begins.0) begins.2 in
            clash (all_strict s.0 ++ freely t ∷ begins.0) begins.1 (suc (length begins.0)) other (whole_again (all_strict s.0 ++ freely t ∷ begins.0) begins.1 has);
        is_none = λ x has. refused (whole r (all_strict ts)) x (Unexpected n) e (whole_only ts x has);
      }
    where
      clash : (us : List Tok) (x : A) (k : ℕ) → whole r us ≡ Err (Unexpected k) → Leads (whole r us) (Ok x) us [] → ⊥
      clash us x k e (inl f) = refused (whole r us) x (Unexpected k) e f
      clash us x k e (inr z) = let q : failed {A = A} (Unexpected k) ≡ failed {A = A} (TooDeep (suc (length (z.2 ++ [])))) = sym e ∙ z.5 in cc

  pub first_too_deep : (ts : List Token) (n : ℕ) → whole r (all_strict ts) ≡ Err (TooDeep n) → IsTooDeep G ts (length ts - n)
  first_too_deep ts n e =
      let b = whole_stops (all_strict ts) (TooDeep n) e in
      let g = b.goes in
      let s = split_strict ts b.front b.rest b.parts in
      let c = split_strict s.1 (g.0 ∷ []) g.1 (s.4 ∙ g.3) in
      by ts n e b g s c.0 c.1 c.2 c.3 c.4
    where
      by : (ts : List Token) (n : ℕ) → whole r (all_strict ts) ≡ Err (TooDeep n) → (b : Stopped G (all_strict ts) (TooDeep n)) → (g : (t : Tok) × (us : List Tok) × (vs : List Tok) × (b.rest ≡ t ∷ us) × (b.tail ≡ freed t ∷ vs))
          → (s : (front : List Token) × (rest : List Token) × (ts ≡ front ++ rest) × (all_strict front ≡ b.front) × (all_strict rest ≡ b.rest)) → (head tail : List Token) → s.1 ≡ head ++ tail → all_strict head ≡ g.0 ∷ [] → all_strict tail ≡ g.1 → IsTooDeep G ts (length ts - n)
      by ts n e b g s [] tail is one others = absurd cc
      by ts n e b g s (t ∷ u ∷ us) tail is one others = absurd cc
      by ts n e b g s (t ∷ []) tail is one others =
          let token : strictly t ≡ g.0 = cc in
          let parts : ts ≡ s.0 ++ t ∷ tail = s.2 ∙ ap (λ (ws : List Token). s.0 ++ ws) is in
          let left : suc (length tail) ≡ n = ap suc (sym (length-map tail strictly) ∙ ap length others) ∙ sym (ap length g.3) ∙ b.left in
          let cut : all_strict ts ≡ all_strict s.0 ++ strictly t ∷ all_strict tail = b.parts ∙ ap (λ (ws : List Tok). ws ++ b.rest) (sym s.3) ∙ ap (λ (ws : List Tok). all_strict s.0 ++ ws) (g.3 ∙ ap (λ (w : Tok). w ∷ g.1) (sym token) ∙ ap (λ (ws : List Tok). strictly t ∷ ws) (sym others)) in
          record {
            front = s.0;
            token = t;
            rest = tail;
            parts = parts;
            number = omega (arith, ap length parts, length-append s.0 (t ∷ tail), left);
            begins = (g.2, b.value, subst (λ (ws : List Tok). G ws b.value) (ap (λ (ws : List Tok). ws ++ b.tail) (sym s.3) ∙ ap (λ (ws : List Tok). all_strict s.0 ++ ws) (g.4 ∙ ap (λ (w : Tok). freed w ∷ g.2) (sym token)) ∙ sym (append_assoc (all_strict s.0) (freely t ∷ []) g.2)) b.has);
            none_goes_on = λ begins.
                let count : n ≡ suc (length (all_strict tail)) = sym left ∙ ap suc (sym (length-map tail strictly)) in
                let fault : whole r (all_strict s.0 ++ strictly t ∷ all_strict tail) ≡ Err (TooDeep (suc (length (all_strict tail)))) = subst (λ (k : ℕ). whole r (all_strict s.0 ++ strictly t ∷ all_strict tail) ≡ Err (TooDeep k)) count (subst (λ (ws : List Tok). whole r ws ≡ Err (TooDeep n)) cut e) in
                let other = twin (all_strict s.0) (all_strict tail) begins.0 (strictly t) (strictly t) true refl fault in
                let has = subst (λ (ws : List Tok). G ws begins.1) (append_assoc (all_strict s.0) (strictly t ∷ []) begins.0) begins.2 in
                clash s.0 t begins.0 begins.1 other (whole_again (all_strict s.0 ++ strictly t ∷ begins.0) begins.1 has);
          }
        where
          clash : (front : List Token) (t : Token) (more : List Tok) (x : A) → whole r (all_strict front ++ strictly t ∷ more) ≡ Err (TooDeep (suc (length more))) → Leads (whole r (all_strict front ++ strictly t ∷ more)) (Ok x) (all_strict front ++ strictly t ∷ more) [] → ⊥
          clash front t more x e (inl f) = refused (whole r (all_strict front ++ strictly t ∷ more)) x (TooDeep (suc (length more))) e f
          clash front t more x e (inr z) =
              let q : failed {A = A} (TooDeep (suc (length more))) ≡ failed {A = A} (TooDeep (suc (length (z.2 ++ [])))) = sym e ∙ z.5 in
              let count : suc (length more) ≡ suc (length (z.2 ++ [])) = cc in
              let same = same_place (all_strict front) z.0 more z.2 (strictly t) z.1 z.3 (omega (arith, count, ap length (append-nil z.2))) in
              let bad : true ≡ false = ap (λ (w : Tok). w.strict) same ∙ z.4 in
              cc
