-- The laws of a reader together, for each way to make readers of readers.
use Rattle.std.proofs.Common.{◌≡◌, ℕ, zero, suc, ◌<◌, Bool, true, false, List, [], ◌∷◌, ◌++◌, length, Option, Some, None, Ok, Err, refl, sym, subst, ◌∙◌, append_assoc, inl, inr}
use Rattle.qbs_base.specs.declared.span.Span.{Span}
use Rattle.java_lex.specs.declared.token.TokenNode.{TokenNode}
use Rattle.readers.specs.declared.fault.Fault.TheVariants.{Unexpected, TooDeep}
use Rattle.readers.specs.Reading.{◌>>=◌, Read, made, is_over}
use Rattle.readers.proofs.Tools.{bind_ok, is_left}
use Rattle.java_grammar.specs.Marks.{Tok}
use Rattle.java_grammar.specs.Rules.{Rule, Empty, One, Word, Sign, Opening, Seq, Then, Or, Made, Placed, Many}
use Rattle.java_grammar.specs.Reading.{Reader, then_at, seq_at, empty_at, one_at, placed_at, or_at, held, held_at, passing, is_sign, word_at, sign_at, opening_at, many_at}
use Rattle.java_grammar.proofs.Sound.{Sound, Stops, IsPast, Alike, stuck, Twin, twin_stop, at_start, Passes, empty_sound, one_sound, then_sound, placed_sound, made_sound, or_sound, turned_sound, Inhabited}
use Rattle.java_grammar.proofs.Again.{Leads, leads_left, bind_sunk, Again, Any, empty_again, one_again, then_again, placed_again, made_again, or_again, turned_again, Heads}
use Rattle.java_grammar.proofs.Many.{IsOver, many_sound, many_again}
use Rattle.java_grammar.proofs.SingleLaws.{word_sound, word_again, sign_sound, sign_again, opening_sound, opening_again}

pub record Reads {A : Type 0} (G : Rule A) (F : List Tok → Type 0) (r : Reader A) : Type 0 where
  pub sound : Sound G r
  pub again : Again G F r

pub empty : {A : Type 0} (a : A) → Reads (Empty a) Any (empty_at a)
empty a = record { sound = empty_sound a; again = empty_again a }

pub one : {A : Type 0} (f : TokenNode → Option A) → Passes f → Reads (One f) Any (one_at f)
one f some = record { sound = one_sound f some; again = one_again f }

pub word : (text : List ℕ) → Reads (Word text) Any (word_at text)
word text = record { sound = word_sound text; again = word_again text }

pub sign : (text : List ℕ) → Reads (Sign text) Any (sign_at text)
sign text = record { sound = sign_sound text; again = sign_again text }

pub opening : (room : ℕ) (text : List ℕ) → Reads (Opening room text) Any (opening_at room text)
opening room text = record { sound = opening_sound room text; again = opening_again room text }

-- one whose follow is met by what stands behind it
pub join : {A B : Type 0} {P : Rule A} {Q : Rule B} {F G : List Tok → Type 0} {r : Reader A} {s : Reader B} → Reads P F r → Reads Q G s → ((vs : List Tok) (y : B) (rest : List Tok) → Q vs y → G rest → F (vs ++ rest)) → Reads (Seq P Q) G (seq_at r s)
join {P} {Q} {F} {G} {r} {s} p q joins = record { sound = then_sound P (λ x. Q) r (λ x. s) p.sound (λ x. q.sound); again = then_again P (λ x. Q) F G r (λ x. s) p.again (λ x. q.again) (λ x. joins) }

pub seq : {A B : Type 0} {P : Rule A} {Q : Rule B} {G : List Tok → Type 0} {r : Reader A} {s : Reader B} → Reads P Any r → Reads Q G s → Reads (Seq P Q) G (seq_at r s)
seq p q = join p q (λ vs y rest h g. tt)

pub by_value : {A B : Type 0} {P : Rule A} {Q : A → Rule B} {G : List Tok → Type 0} {r : Reader A} {s : A → Reader B} → Reads P Any r → ((x : A) → Reads (Q x) G (s x)) → Reads (Then P Q) G (then_at r s)
by_value {P} {Q} {G} {r} {s} p q = record { sound = then_sound P Q r s p.sound (λ x. (q x).sound); again = then_again P Q Any G r s p.again (λ x. (q x).again) (λ x vs y rest h g. tt) }

pub of : {A B : Type 0} {P : Rule A} {F : List Tok → Type 0} {r : Reader A} → Reads P F r → (f : A → B) → Reads (Made f P) F (made f r)
of {P} {F} {r} p f = record { sound = made_sound f P r p.sound; again = made_again f P F r p.again }

pub put : {A B : Type 0} {P : Rule A} {F : List Tok → Type 0} {r : Reader A} → Reads P F r → (f : Span → A → B) → Reads (Placed f P) F (placed_at f r)
put {P} {F} {r} p f = record { sound = placed_sound f P r p.sound; again = placed_again f P F r p.again }

pub either : {A : Type 0} {P Q : Rule A} {F : List Tok → Type 0} {r s : Reader A} (p : TokenNode → Bool) → Reads P F r → Reads Q F s → Heads p true P F → Heads p false Q F → Reads (Or P Q) F (or_at p r s)
either {P} {Q} {F} {r} {s} p a b first other = record { sound = or_sound P Q p r s a.sound b.sound; again = or_again P Q F p r s a.again b.again first other }

pub turned : {A : Type 0} {G : Rule A} {F : List Tok → Type 0} {r : Reader A} (H : Rule A) → Reads G F r → ((us : List Tok) (x : A) → G us x → H us x) → ((us : List Tok) (x : A) → H us x → G us x) → Reads H F r
turned {G} {F} {r} H p there back = record { sound = turned_sound G H r there p.sound; again = turned_again G H F r back p.again }

-- where more is asked of what follows
pub before : {A : Type 0} {G : Rule A} {F : List Tok → Type 0} {r : Reader A} (H : List Tok → Type 0) → Reads G F r → ((rest : List Tok) → H rest → F rest) → Reads G H r
before H p asks = record { sound = p.sound; again = λ us x rest h follows. p.again us x rest h (asks rest follows) }

-- ---- behind something that opens

-- the same reader, written otherwise
same_sound : {A : Type 0} (G : Rule A) (r s : Reader A) → ((ts : List Tok) → r ts ≡ s ts) → Sound G r → Sound G s
same_sound {A} G r s same p = record {
  found = λ ts x e. p.found ts x (same ts ∙ e);
  stops = λ ts fault e. p.stops ts fault (same ts ∙ e);
  stays = λ n us le. subst (λ (a : Read Tok A). IsPast n a) (same us) (p.stays n us le);
  same = λ rest rest' us vs ag. subst (λ (a : Read Tok A). Alike rest rest' A a (s vs)) (same us) (subst (λ (a : Read Tok A). Alike rest rest' A (r us) a) (same vs) (p.same rest rest' us vs ag));
  blind = λ us vs h. subst (λ (a : Read Tok A). Twin A a (s vs)) (same us) (subst (λ (a : Read Tok A). Twin A (r us) a) (same vs) (p.blind us vs h));
  some = p.some;
}

pub same_reads : {A : Type 0} {G : Rule A} {F : List Tok → Type 0} {r : Reader A} (s : Reader A) → ((ts : List Tok) → r ts ≡ s ts) → Reads G F r → Reads G F s
same_reads {A} {G} {F} {r} s same p = record {
  sound = same_sound G r s same p.sound;
  again = λ us x rest h follows. subst (λ (a : Read Tok A). Leads a (Ok (x, rest)) us rest) (same (us ++ rest)) (p.again us x rest h follows);
}

-- it reads nothing, and something begins where it stands
abbrev refuse : {A : Type 0} → Reader A
refuse ts = Err (Unexpected (length ts))

refuse_sound : {A : Type 0} (Q : Rule A) → Inhabited Q → Sound Q refuse
refuse_sound Q some = record {
  found = λ ts x e. absurd cc;
  stops = refused;
  stays = λ n us le. le;
  same = λ rest rest' us vs ag. stuck false ag;
  blind = λ us vs h. twin_stop (λ n. Unexpected n) us vs h;
  some = some;
}
  where
    refused : Stops Q refuse
    refused ts (Unexpected n) e = at_start Q ts n (is_left (length ts) n e) some
    refused ts (TooDeep n) e = absurd cc

-- a reader that never reads
abbrev pub Shut : {A : Type 0} → Reader A → Type 0
Shut {A} r = (ts : List Tok) (x : A × List Tok) → r ts ≡ Ok x → ⊥

pub held_shut : {A : Type 0} (f : TokenNode → Option A) → Shut (held_at zero f)
held_shut f [] x e = cc
held_shut {A} f (t ∷ ts) x e = by (f t.token.node) e
  where
    by : (o : Option A) → held zero o ts ≡ Ok x → ⊥
    by None h = cc
    by (Some a) h = cc

pub seq_shut : {A B : Type 0} (r : Reader A) (s : Reader B) → Shut s → Shut (seq_at r s)
seq_shut r s shut ts x e =
    let a = bind_ok (r ts) (λ y. s y.1 >>= λ z. Ok ((y.0, z.0), z.1)) x e in
    let b = bind_ok (s a.0.1) (λ z. Ok ((a.0.0, z.0), z.1)) x a.2 in
    shut a.0.1 b.0 b.1

pub first_shut : {A B : Type 0} (r : Reader A) (s : Reader B) → Shut r → Shut (seq_at r s)
first_shut r s shut ts x e = let a = bind_ok (r ts) (λ y. s y.1 >>= λ z. Ok ((y.0, z.0), z.1)) x e in shut ts a.0 a.1

pub made_shut : {A B : Type 0} (f : A → B) (r : Reader A) → Shut r → Shut (made f r)
made_shut f r shut ts x e = let a = bind_ok (r ts) (λ y. Ok (f y.0, y.1)) x e in shut ts a.0 a.1

abbrev behind : {A B : Type 0} → (B → Reader A) → B × List Tok → Read Tok (B × A)
behind s y = s y.0 y.1 >>= λ z. Ok ((y.0, z.0), z.1)

-- what goes by the value of something that opens, where so many more may be open
pub guarded : {A B : Type 0} {P : Rule B} {Q : B → Rule A} {G : List Tok → Type 0} {r : Reader B} {s : B → Reader A} (room : ℕ) → Reads P Any r → (room ≡ zero → Shut r) → ((y : B) → Inhabited (Q y)) → ((m : ℕ) → room ≡ suc m → (y : B) → Reads (Q y) G (s y)) → Reads (Then P Q) G (then_at r s)
guarded {A} {B} {P} {Q} {G} {r} {s} zero p shut some q = record {
  sound = same_sound (Then P Q) (then_at r (λ y. refuse)) (then_at r s) same (then_sound P Q r (λ y. refuse) p.sound (λ y. refuse_sound (Q y) (some y)));
  again = sunk;
}
  where
    same : (ts : List Tok) → then_at r (λ y. refuse) ts ≡ then_at r s ts
    same ts = by (r ts) refl
      where
        by : (a : Read Tok B) → r ts ≡ a → (a >>= behind (λ y. refuse)) ≡ (a >>= behind s)
        by (Ok y) e = absurd (shut refl ts y e)
        by (Err e) is = refl

    sunk : Again (Then P Q) G (then_at r s)
    sunk us x rest h follows = by (p.again h.0 x.0 (h.1 ++ rest) h.3 tt)
      where
        by : Leads (r (h.0 ++ (h.1 ++ rest))) (Ok (x.0, h.1 ++ rest)) h.0 (h.1 ++ rest) → Leads (then_at r s (us ++ rest)) (Ok (x, rest)) us rest
        by (inl e) = absurd (shut refl (h.0 ++ (h.1 ++ rest)) (x.0, h.1 ++ rest) e)
        by (inr sk) =
            let all = leads_left _ (Ok (x, rest)) h.0 h.1 rest (inr (bind_sunk (r (h.0 ++ (h.1 ++ rest))) (behind s) h.0 (h.1 ++ rest) sk)) in
            subst (λ (ws : List Tok). Leads (then_at r s (ws ++ rest)) (Ok (x, rest)) ws rest) (sym h.2)
            (subst (λ (ws : List Tok). Leads (then_at r s ws) (Ok (x, rest)) (h.0 ++ h.1) rest) (sym (append_assoc h.0 h.1 rest)) all)
guarded (suc m) p shut some q = by_value p (q m refl)

pub opening_shut : (room : ℕ) (text : List ℕ) → room ≡ zero → Shut (opening_at room text)
opening_shut room text is = subst (λ (n : ℕ). Shut (opening_at n text)) (sym is) (held_shut (passing (is_sign text)))

pub enclosed : {A : Type 0} {Q : Rule A} {G : List Tok → Type 0} {s : Reader A} (room : ℕ) (text : List ℕ) → Inhabited Q → ((m : ℕ) → room ≡ suc m → Reads Q G s) → Reads (Seq (Opening room text) Q) G (seq_at (opening_at room text) s)
enclosed room text some q = guarded room (opening room text) (opening_shut room text) (λ y. some) (λ m e y. q m e)

-- ---- any number of them

pub many : {A : Type 0} {G : Rule A} {F : List Tok → Type 0} {r : Reader A} (stop : TokenNode → Bool) → Reads G F r → ((us : List Tok) (x : A) → G us x → 0 < length us) → ((us : List Tok) (x : A) (rest : List Tok) → G us x → is_over (λ (t : Tok). stop t.token.node) (us ++ rest) ≡ false)
    → ((us : List Tok) (x : A) (rest : List Tok) → G us x → F (us ++ rest)) → Reads (Many G) (λ rest. IsOver stop rest × F rest) (many_at stop r)
many {G} {F} {r} stop p long goes next = record { sound = many_sound stop G r p.sound long; again = many_again stop G F r p.again long goes next }
