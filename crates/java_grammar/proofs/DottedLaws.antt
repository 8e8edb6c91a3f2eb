-- Names with dots between are read exactly.
use Rattle.std.proofs.Common.{◌≡◌, ℕ, suc, ◌≤◌, Bool, true, false, cond, List, [], ◌∷◌, ◌++◌, length, Option, Some, None, Ok, Err, codes, refl, sym, ap, subst, ◌∙◌, arith, inl, inr}
use Rattle.std.proofs.lemmas.List.{append-nil}
use Rattle.java_lex.specs.declared.token.Token.{Token}
use Rattle.java_lex.specs.declared.token.TokenNode.{TokenNode}
use Rattle.java_lex.specs.declared.token.TokenNode.TheVariants as tokens
use Rattle.readers.specs.declared.fault.Fault.{Fault}
use Rattle.readers.specs.declared.fault.Fault.TheVariants.{Unexpected}
use Rattle.readers.specs.Reading.{◌>>=◌, Read, option_cases}
use Rattle.readers.proofs.Tools.{bind_ok, ok_is, bind_err, chosen, failed}
use Rattle.java_grammar.specs.Marks.{Tok, freely}
use Rattle.java_grammar.specs.Words.{is_name, name_in}
use Rattle.java_grammar.specs.Grammar.{HasDotted, ended, starred, dotted}
use Rattle.java_grammar.specs.Reading.{first_is, is_sign}
use Rattle.java_grammar.specs.ReadingPrograms.{is_dot, star_here, dotted_at, behind_dot}
use Rattle.java_grammar.proofs.Sound.{Takes, Stopped, moved, IsPast, past_bind, past_cond, Agree, here, later, Alike, alike, stuck, past, alike_bind, alike_cond, Twins, no_twins, twins, Twin, both_read, both_stop, twin_stop, twin_bind, twin_cond}
use Rattle.java_grammar.proofs.Again.{Leads, bind_leads, leads_right}
use Rattle.java_grammar.proofs.SingleLaws.{token_of, word_if_is, is_sign_true}
use Rattle.java_grammar.proofs.Laws.{Reads}

-- the name after a dot in front of what follows it
abbrev with_name : List ℕ → List ℕ × List Tok → Read Tok (List ℕ)
with_name w rest = Ok (codes "." ++ (w ++ rest.0), rest.1)

abbrev by_name : Bool → Option (List ℕ) → List Tok → Read Tok (List ℕ)
by_name star o ts = option_cases o (Err (Unexpected (suc (length ts)))) (λ w. dotted_at star ts >>= with_name w)

starred_of : (star : Bool) (d t : Tok) → is_dot d ≡ true → star_here star t ≡ true → HasDotted star (d ∷ t ∷ []) (codes ".*")
starred_of true d t dot is_star = starred {us = d ∷ []} {vs = t ∷ []} (d, refl, is_sign_true (codes ".") d.token.node dot) (t, refl, is_sign_true (codes "*") t.token.node is_star)
starred_of false d t dot is_star = absurd cc

dotted_of : (star : Bool) (d t : Tok) (ws : List Tok) (w rest : List ℕ) → is_dot d ≡ true → name_in t.token.node ≡ Some w → HasDotted star ws rest → HasDotted star (d ∷ t ∷ ws) (codes "." ++ (w ++ rest))
dotted_of star d t ws w rest dot named h = dotted {us = d ∷ []} {vs = t ∷ []} {ws = ws} (d, refl, is_sign_true (codes ".") d.token.node dot) (t, refl, named) h

-- ---- what is read

named_finds : (star : Bool) (d t : Tok) (ts : List Tok) (o : Option (List ℕ)) → is_dot d ≡ true → name_in t.token.node ≡ o → ((x : List ℕ × List Tok) → dotted_at star ts ≡ Ok x → Takes (HasDotted star) ts x.0 x.1) → (x : List ℕ × List Tok) → by_name star o ts ≡ Ok x → Takes (HasDotted star) (d ∷ t ∷ ts) x.0 x.1
named_finds star d t ts None dot is go x e = absurd cc
named_finds star d t ts (Some w) dot is go x e =
    let a = bind_ok (dotted_at star ts) (with_name w) x e in
    let k = go a.0 a.1 in
    subst (λ (y : List ℕ × List Tok). Takes (HasDotted star) (d ∷ t ∷ ts) y.0 y.1) (ok_is (codes "." ++ (w ++ a.0.0), a.0.1) x a.2)
    (record { front = d ∷ t ∷ k.front; parts = ap (λ (us : List Tok). d ∷ t ∷ us) k.parts; has = dotted_of star d t k.front w a.0.0 dot is k.has })

mutual
  unfolding dotted_at

  dotted_finds : (star : Bool) (ts : List Tok) (x : List ℕ × List Tok) → dotted_at star ts ≡ Ok x → Takes (HasDotted star) ts x.0 x.1
  dotted_finds star [] x e = subst (λ (y : List ℕ × List Tok). Takes (HasDotted star) [] y.0 y.1) (ok_is ([], []) x e) (record { front = []; parts = refl; has = ended })
  dotted_finds star (t ∷ ts) x e =
      elim (chosen (is_dot t) (behind_dot star ts) (Ok ([], t ∷ ts)) (Ok x) e) [
        | inl h ↦ behind_finds star t ts x h.0 h.1
        | inr h ↦ subst (λ (y : List ℕ × List Tok). Takes (HasDotted star) (t ∷ ts) y.0 y.1) (ok_is ([], t ∷ ts) x h.1) (record { front = []; parts = refl; has = ended })
      ]

  behind_finds : (star : Bool) (d : Tok) (ts : List Tok) (x : List ℕ × List Tok) → is_dot d ≡ true → behind_dot star ts ≡ Ok x → Takes (HasDotted star) (d ∷ ts) x.0 x.1
  behind_finds star d [] x dot e = absurd cc
  behind_finds star d (t ∷ ts) x dot e =
      elim (chosen (star_here star t) (Ok (codes ".*", ts)) (by_name star (name_in t.token.node) ts) (Ok x) e) [
        | inl h ↦ subst (λ (y : List ℕ × List Tok). Takes (HasDotted star) (d ∷ t ∷ ts) y.0 y.1) (ok_is (codes ".*", ts) x h.1) (record { front = d ∷ t ∷ []; parts = refl; has = starred_of star d t dot h.0 })
        | inr h ↦ named_finds star d t ts (name_in t.token.node) dot refl (λ y k. dotted_finds star ts y k) x h.1
      ]

-- ---- where reading stops

-- where a name must stand
refused_at : (star : Bool) (d : Tok) (ts : List Tok) (fault : Fault) → is_dot d ≡ true → failed {A = List ℕ × List Tok} (Unexpected (length ts)) ≡ failed fault → Stopped (HasDotted star) (d ∷ ts) fault
refused_at star d ts fault dot e =
    let q : Unexpected (length ts) ≡ fault = cc in
    let x : Tok = freely (token_of (tokens.Word (codes "x"))) in
    subst (λ (f : Fault). Stopped (HasDotted star) (d ∷ ts) f) q
    (record { front = d ∷ []; rest = ts; parts = refl; left = refl; tail = x ∷ []; value = codes "." ++ (codes "x" ++ []); has = dotted_of star d x [] (codes "x") [] dot refl ended; goes = tt })

named_stops : (star : Bool) (d t : Tok) (ts : List Tok) (o : Option (List ℕ)) → is_dot d ≡ true → name_in t.token.node ≡ o → ((fault : Fault) → dotted_at star ts ≡ Err fault → Stopped (HasDotted star) ts fault) → (fault : Fault) → by_name star o ts ≡ Err fault → Stopped (HasDotted star) (d ∷ t ∷ ts) fault
named_stops star d t ts None dot is go fault e = refused_at star d (t ∷ ts) fault dot e
named_stops star d t ts (Some w) dot is go fault e =
    elim (bind_err (dotted_at star ts) (with_name w) fault e) [
      | inl m ↦
          let b = go fault m in
          let y : List ℕ = codes "." ++ (w ++ b.value) in
          moved (HasDotted star) (HasDotted star) (d ∷ t ∷ []) [] ts fault b y (subst (λ (us : List Tok). HasDotted star (d ∷ t ∷ us) y) (sym (append-nil (b.front ++ b.tail))) (dotted_of star d t (b.front ++ b.tail) w b.value dot is b.has))
      | inr m ↦ absurd (let q = m.2 in cc)
    ]

mutual
  unfolding dotted_at

  dotted_stops : (star : Bool) (ts : List Tok) (fault : Fault) → dotted_at star ts ≡ Err fault → Stopped (HasDotted star) ts fault
  dotted_stops star [] fault e = absurd cc
  dotted_stops star (t ∷ ts) fault e = elim (chosen (is_dot t) (behind_dot star ts) (Ok ([], t ∷ ts)) (Err fault) e) [ inl h ↦ behind_stops star t ts fault h.0 h.1 | inr h ↦ absurd (let q = h.1 in cc) ]

  behind_stops : (star : Bool) (d : Tok) (ts : List Tok) (fault : Fault) → is_dot d ≡ true → behind_dot star ts ≡ Err fault → Stopped (HasDotted star) (d ∷ ts) fault
  behind_stops star d [] fault dot e = refused_at star d [] fault dot e
  behind_stops star d (t ∷ ts) fault dot e =
      elim (chosen (star_here star t) (Ok (codes ".*", ts)) (by_name star (name_in t.token.node) ts) (Err fault) e) [
        | inl h ↦ absurd (let q = h.1 in cc)
        | inr h ↦ named_stops star d t ts (name_in t.token.node) dot refl (λ f k. dotted_stops star ts f k) fault h.1
      ]

-- ---- how far it is read

named_stays : (star : Bool) (n : ℕ) (ts : List Tok) (o : Option (List ℕ)) → suc (length ts) ≤ n → IsPast n (dotted_at star ts) → IsPast n (by_name star o ts)
named_stays star n ts None le p = le
named_stays star n ts (Some w) le p = past_bind n (dotted_at star ts) (with_name w) p (λ x us lt. lt)

mutual
  unfolding dotted_at

  dotted_stays : (star : Bool) (n : ℕ) (ts : List Tok) → length ts ≤ n → IsPast n (dotted_at star ts)
  dotted_stays star n [] le = le
  dotted_stays star n (t ∷ ts) le = past_cond n (is_dot t) (behind_dot star ts) (Ok ([], t ∷ ts)) (behind_stays star n ts (omega (arith, le))) le

  behind_stays : (star : Bool) (n : ℕ) (ts : List Tok) → length ts ≤ n → IsPast n (behind_dot star ts)
  behind_stays star n [] le = le
  behind_stays star n (t ∷ ts) le = past_cond n (star_here star t) (Ok (codes ".*", ts)) (by_name star (name_in t.token.node) ts) (omega (arith, le)) (named_stays star n ts (name_in t.token.node) le (dotted_stays star n ts (omega (arith, le))))

-- ---- what does not count

named_here : (star : Bool) (o : Option (List ℕ)) (t t' : Tok) (rest rest' : List Tok) → t.token ≡ t'.token → Alike rest rest' (List ℕ) (by_name star o rest) (by_name star o rest')
named_here star None t t' rest rest' e = stuck false (here {t = t} {t' = t'} e)
named_here star (Some w) t t' rest rest' e = past (past_bind (length rest) (dotted_at star rest) (with_name w) (dotted_stays star (length rest) rest (omega arith)) (λ x us lt. lt))

named_later : (star : Bool) (o : Option (List ℕ)) (t : Tok) (rest rest' us vs : List Tok) → Agree rest rest' us vs → Alike rest rest' (List ℕ) (dotted_at star us) (dotted_at star vs) → Alike rest rest' (List ℕ) (by_name star o us) (by_name star o vs)
named_later star None t rest rest' us vs ag h = stuck false (later {t = t} ag)
named_later star (Some w) t rest rest' us vs ag h = alike_bind rest rest' (with_name w) (with_name w) h (λ x us' vs' ag' e e'. alike ag') (λ x us' lt. lt)

mutual
  unfolding dotted_at

  dotted_same : (star : Bool) (rest rest' us vs : List Tok) → Agree rest rest' us vs → Alike rest rest' (List ℕ) (dotted_at star us) (dotted_at star vs)
  dotted_same star rest rest' _ _ (here {t} {t'} e) = alike_cond rest rest' (is_dot t) (is_dot t') (ap (λ (s : Token). is_sign (codes ".") s.node) e) (past (behind_stays star (length rest) rest (omega arith))) (alike (here {t = t} {t' = t'} e))
  dotted_same star rest rest' _ _ (later {t} {us} {vs} ag) = alike_cond rest rest' (is_dot t) (is_dot t) refl (behind_same star rest rest' us vs ag) (alike (later {t = t} ag))

  behind_same : (star : Bool) (rest rest' us vs : List Tok) → Agree rest rest' us vs → Alike rest rest' (List ℕ) (behind_dot star us) (behind_dot star vs)
  behind_same star rest rest' _ _ (here {t} {t'} e) =
      alike_cond rest rest' (star_here star t) (star_here star t') (ap (λ (s : Token). cond star (is_sign (codes "*") s.node) false) e) (past (omega arith))
      (subst (λ (o : Option (List ℕ)). Alike rest rest' (List ℕ) (by_name star (name_in t.token.node) rest) (by_name star o rest')) (ap (λ (s : Token). name_in s.node) e) (named_here star (name_in t.token.node) t t' rest rest' e))
  behind_same star rest rest' _ _ (later {t} {us} {vs} ag) = alike_cond rest rest' (star_here star t) (star_here star t) refl (alike ag) (named_later star (name_in t.token.node) t rest rest' us vs ag (dotted_same star rest rest' us vs ag))

-- ---- marks

named_blind : (star : Bool) (o : Option (List ℕ)) (us vs : List Tok) → Twins us vs → Twin (List ℕ) (dotted_at star us) (dotted_at star vs) → Twin (List ℕ) (by_name star o us) (by_name star o vs)
named_blind star None us vs h g = twin_stop (λ n. Unexpected (suc n)) us vs h
named_blind star (Some w) us vs h g = twin_bind (with_name w) (with_name w) g (λ x us' vs' h'. both_read h')

mutual
  unfolding dotted_at

  dotted_blind : (star : Bool) (us vs : List Tok) → Twins us vs → Twin (List ℕ) (dotted_at star us) (dotted_at star vs)
  dotted_blind star _ _ no_twins = both_read no_twins
  dotted_blind star _ _ (twins {s} {t} {us} {vs} e h) = twin_cond (is_dot s) (is_dot t) (ap (λ (k : Token). is_sign (codes ".") k.node) e) (behind_blind star us vs h) (both_read (twins {s = s} {t = t} e h))

  behind_blind : (star : Bool) (us vs : List Tok) → Twins us vs → Twin (List ℕ) (behind_dot star us) (behind_dot star vs)
  behind_blind star _ _ no_twins = both_stop
  behind_blind star _ _ (twins {s} {t} {us} {vs} e h) =
      twin_cond (star_here star s) (star_here star t) (ap (λ (k : Token). cond star (is_sign (codes "*") k.node) false) e) (both_read h)
      (subst (λ (o : Option (List ℕ)). Twin (List ℕ) (by_name star (name_in s.token.node) us) (by_name star o vs)) (ap (λ (k : Token). name_in k.node) e) (named_blind star (name_in s.token.node) us vs h (dotted_blind star us vs h)))

-- ---- what is read again

abbrev pub NoDot : List Tok → Type 0
NoDot rest = first_is (is_sign (codes ".")) rest ≡ false

name_no_star : (star : Bool) (n : TokenNode) (w : List ℕ) → name_in n ≡ Some w → cond star (is_sign (codes "*") n) false ≡ false
name_no_star false n w e = refl
name_no_star true n w e = ap (is_sign (codes "*")) (word_if_is is_name n w e).0

stops_here : (star : Bool) (rest : List Tok) → NoDot rest → dotted_at star rest ≡ Ok ([], rest)
unfolding dotted_at
stops_here star [] f = refl
stops_here star (t ∷ rest) f = rw f refl

star_read : (d t : Tok) (rest : List Tok) → is_dot d ≡ true → star_here true t ≡ true → dotted_at true (d ∷ t ∷ rest) ≡ Ok (codes ".*", rest)
unfolding dotted_at
star_read d t rest dot is_star = rw (dot, is_star) refl

name_read : (star : Bool) (d t : Tok) (ts : List Tok) (w : List ℕ) → is_dot d ≡ true → name_in t.token.node ≡ Some w → dotted_at star (d ∷ t ∷ ts) ≡ (dotted_at star ts >>= with_name w)
unfolding dotted_at
name_read star d t ts w dot named =
    ap (λ (b : Bool). cond b (behind_dot star (t ∷ ts)) (Ok ([], d ∷ t ∷ ts))) dot
    ∙ ap (λ (b : Bool). cond b (Ok (codes ".*", ts)) (by_name star (name_in t.token.node) ts)) (name_no_star star t.token.node w named)
    ∙ ap (λ (o : Option (List ℕ)). by_name star o ts) named

dotted_again : {star : Bool} {us : List Tok} {w : List ℕ} → HasDotted star us w → (rest : List Tok) → NoDot rest → Leads (dotted_at star (us ++ rest)) (Ok (w, rest)) us rest
dotted_again (ended {star}) rest f = inl (stops_here star rest f)
dotted_again (starred {us} {vs} d s) rest f =
    let path : us ++ vs ≡ d.0 ∷ s.0 ∷ [] = ap (λ (ts : List Tok). ts ++ vs) d.1 ∙ ap (λ (ts : List Tok). d.0 ∷ ts) s.1 in
    inl (ap (λ (ts : List Tok). dotted_at true (ts ++ rest)) path ∙ star_read d.0 s.0 rest (ap (is_sign (codes ".")) d.2) (ap (is_sign (codes "*")) s.2))
dotted_again (dotted {star} {us} {vs} {ws} {w} {rest = more} d n h) rest f =
    let path : us ++ (vs ++ ws) ≡ d.0 ∷ n.0 ∷ ws = ap (λ (ts : List Tok). ts ++ (vs ++ ws)) d.1 ∙ ap (λ (ts : List Tok). d.0 ∷ (ts ++ ws)) n.1 in
    let go = leads_right _ _ (d.0 ∷ n.0 ∷ []) ws rest (bind_leads (dotted_at star (ws ++ rest)) (more, rest) (with_name w) ws rest (dotted_again h rest f)) in
    let all : Leads (dotted_at star (d.0 ∷ n.0 ∷ (ws ++ rest))) (Ok (codes "." ++ (w ++ more), rest)) (d.0 ∷ n.0 ∷ ws) rest =
    subst (λ (r : Read Tok (List ℕ)). Leads r (Ok (codes "." ++ (w ++ more), rest)) (d.0 ∷ n.0 ∷ ws) rest) (sym (name_read star d.0 n.0 (ws ++ rest) w (ap (is_sign (codes ".")) d.2) n.2)) go in
    subst (λ (ts : List Tok). Leads (dotted_at star (ts ++ rest)) (Ok (codes "." ++ (w ++ more), rest)) ts rest) (sym path) all

pub dotted_reads : (star : Bool) → Reads (HasDotted star) NoDot (dotted_at star)
dotted_reads star = record {
  sound = record {
    found = dotted_finds star;
    stops = dotted_stops star;
    stays = dotted_stays star;
    same = dotted_same star;
    blind = dotted_blind star;
    some = record { tokens = []; value = []; has = ended };
  };
  again = λ us w rest h f. dotted_again h rest f;
}
