-- Columns up to a last one or a key clause: the laws of their reader.
use Rattle.std.proofs.Common.{◌≡◌, ℕ, zero, suc, ◌≤◌, ◌<◌, Bool, true, false, List, [], ◌∷◌, ◌++◌, length, Ok, Err, refl, sym, ap, subst, ◌∙◌, append_assoc, arith, inl, inr}
use Rattle.std.proofs.lemmas.List.{append-nil, length-append}
use Rattle.readers.specs.declared.fault.Fault.TheVariants.{Unexpected}
use Rattle.readers.specs.Reading.{◌>>=◌, Read, is_over}
use Rattle.readers.proofs.Tools.{bind_ok, ok_is, bind_err, chosen}
use Rattle.readers.proofs.Lawful.{Takes, Finds, Begun, Begins, inside, IsPast, past_bind, past_cond, Stays, Agree, Alike, alike, alike_bind, alike_cond, Lawful}
use Rattle.readers.proofs.Many.{not_empty, same_over, shorter}
use Rattle.readers.proofs.Again.{Leads, Leads-then, Leads-bind, Again}
use Rattle.qbs_base.specs.declared.columns.Column.{Column}
use Rattle.schema.specs.declared.draft.Item.{Item}
use Rattle.schema.specs.declared.draft.Item.TheVariants as items
use Rattle.schema.specs.Series.{item_cases, series_up_to, series, HasSeries}
use Rattle.schema_text.proofs.Loops.{Said}

-- what goes on behind an item
abbrev behind : {T : Type 0} → (T → Bool) → (List T → Read T Item) → ℕ → Item × List T → Read T Said
behind stop r n x = item_cases x.0 (λ c. series_up_to stop r n x.1 >>= λ cs. Ok ((c ∷ cs.0.0, cs.0.1), cs.1)) (λ names. Ok (([], names), x.1))

abbrev put : {T : Type 0} → Column → Said × List T → Read T Said
put c cs = Ok ((c ∷ cs.0.0, cs.0.1), cs.1)

-- what one item says
abbrev alone : Item → Said
alone (items.Column c) = (c ∷ [], [])
alone (items.Key names) = ([], names)

abbrev nothing : Said
nothing = ([], [])

abbrev pub Series : {T : Type 0} → (List T → Item → Type 0) → List T → Said → Type 0
Series Has ts x = HasSeries Has ts x.0 x.1

module _ {T : Type 0} (stop : T → Bool) (Has : List T → Item → Type 0) (r : List T → Read T Item) where
  has_alone : (ws : List T) (o : Item) → Has ws o → Series Has (ws ++ []) (alone o)
  has_alone ws (items.Column c) has = (ws, [], refl, has, inl (refl, refl))
  has_alone ws (items.Key names) has = inr (subst (λ (us : List T). Has us (items.Key names)) (sym (append-nil ws)) has)

  module _ (law : Lawful Has r) (long : (us : List T) (x : Item) → Has us x → 0 < length us) where
    item_found : (n : ℕ) → Finds (Series Has) (series_up_to stop r n) → (ts : List T) (o : Item) (us : List T) (x : Said × List T) → Takes Has ts o us → behind stop r n (o, us) ≡ Ok x → Takes (Series Has) ts x.0 x.1
    item_found n found ts (items.Key names) us x first e =
        subst (λ (y : Said × List T). Takes (Series Has) ts y.0 y.1) (ok_is (([], names), us) x e) (record { front = first.front; parts = first.parts; has = inr first.has })
    item_found n found ts (items.Column c) us x first e =
        let b = bind_ok (series_up_to stop r n us) (put c) x e in
        let others = found us b.0 b.1 in
        subst (λ (y : Said × List T). Takes (Series Has) ts y.0 y.1) (ok_is ((c ∷ b.0.0.0, b.0.0.1), b.0.1) x b.2)
        (record { front = first.front ++ others.front; parts = first.parts ∙ ap (λ (ws : List T). first.front ++ ws) others.parts ∙ sym (append_assoc first.front others.front b.0.1); has = (first.front, others.front, refl, first.has, others.has) })

    series_finds : (n : ℕ) → Finds (Series Has) (series_up_to stop r n)
    unfolding series_up_to
    series_finds zero ts x e = subst (λ (y : Said × List T). Takes (Series Has) ts y.0 y.1) (ok_is (nothing, ts) x e) (record { front = []; parts = refl; has = inl (refl, refl) })
    series_finds (suc n) ts x e =
        elim (chosen (is_over stop ts) (Ok (nothing, ts)) (r ts >>= behind stop r n) (Ok x) e) [
          | inl h ↦ subst (λ (y : Said × List T). Takes (Series Has) ts y.0 y.1) (ok_is (nothing, ts) x h.1) (record { front = []; parts = refl; has = inl (refl, refl) })
          | inr h ↦
              let a = bind_ok (r ts) (behind stop r n) x h.1 in
              item_found n (series_finds n) ts a.0.0 a.0.1 x (law.found ts a.0 a.1) a.2
        ]

    item_begun : (n : ℕ) → Begins (Series Has) (series_up_to stop r n) → (ts : List T) (o : Item) (us : List T) (k : ℕ) → Takes Has ts o us → behind stop r n (o, us) ≡ Err (Unexpected k) → Begun (Series Has) ts k
    item_begun n begun ts (items.Key names) us k first e = absurd cc
    item_begun n begun ts (items.Column c) us k first e =
        elim (bind_err (series_up_to stop r n us) (put c) (Unexpected k) e) [
          | inl b ↦ subst (λ (ws : List T). Begun (Series Has) ws k) (sym first.parts)
              (inside (Series Has) (Series Has) first.front [] us k (λ cs. (c ∷ cs.0, cs.1)) (λ ws cs has. (first.front, ws, ap (λ (zs : List T). first.front ++ zs) (append-nil ws), first.has, has)) (begun us k b))
          | inr b ↦ absurd cc
        ]

    series_begins : (n : ℕ) → Begins (Series Has) (series_up_to stop r n)
    unfolding series_up_to
    series_begins zero ts k e = absurd cc
    series_begins (suc n) ts k e =
        elim (chosen (is_over stop ts) (Ok (nothing, ts)) (r ts >>= behind stop r n) (Err (Unexpected k)) e) [
          | inl h ↦ absurd cc
          | inr h ↦
              elim (bind_err (r ts) (behind stop r n) (Unexpected k) h.1) [
                | inl a ↦ inside Has (Series Has) [] [] ts k alone has_alone (law.begins ts k a)
                | inr a ↦ item_begun n (series_begins n) ts a.0.0 a.0.1 k (law.found ts a.0 a.1) a.2
              ]
        ]

    item_past : (k n : ℕ) → Stays (series_up_to stop r k) → (o : Item) (vs : List T) → length vs ≤ n → IsPast n (behind stop r k (o, vs))
    item_past k n below (items.Key names) vs le = le
    item_past k n below (items.Column c) vs le = past_bind n (series_up_to stop r k vs) (put c) (below n vs le) (λ cs ws last. last)

    series_stays : (k : ℕ) → Stays (series_up_to stop r k)
    unfolding series_up_to
    series_stays zero n us le = le
    series_stays (suc k) n us le =
        past_cond n (is_over stop us) (Ok (nothing, us)) (r us >>= behind stop r k) le
        (past_bind n (r us) (behind stop r k) (law.stays n us le) (λ o vs lt. item_past k n (series_stays k) o vs lt))

    item_same : (n m : ℕ) (rest rest' : List T) → Stays (series_up_to stop r n) → (o : Item) (us vs : List T) → Agree rest rest' us vs → Alike rest rest' Said (series_up_to stop r n us) (series_up_to stop r m vs)
        → Alike rest rest' Said (behind stop r n (o, us)) (behind stop r m (o, vs))
    item_same n m rest rest' below (items.Key names) us vs ag others = alike ag
    item_same n m rest rest' below (items.Column c) us vs ag others = alike_bind rest rest' (put c) (put c) others (λ cs ws zs last f f'. alike last) (λ cs ws lt. lt)

    series_same : (n m : ℕ) (rest rest' us vs : List T) → length us ≤ n → length vs ≤ m → Agree rest rest' us vs → Alike rest rest' Said (series_up_to stop r n us) (series_up_to stop r m vs)
    unfolding series_up_to
    series_same zero m rest rest' us vs le_us le_vs ag = absurd (omega (arith, (not_empty rest rest' us vs ag).0))
    series_same (suc n) zero rest rest' us vs le_us le_vs ag = absurd (omega (arith, (not_empty rest rest' us vs ag).1))
    series_same (suc n) (suc m) rest rest' us vs le_us le_vs ag =
        alike_cond rest rest' (is_over stop us) (is_over stop vs) (same_over stop rest rest' us vs ag) (alike ag)
        (alike_bind rest rest' (behind stop r n) (behind stop r m) (law.same rest rest' us vs ag)
        (λ o us' vs' ag' e e'. item_same n m rest rest' (series_stays n) o us' vs' ag' (series_same n m rest rest' us' vs' (omega (arith, shorter Has r law.found long us (o, us') e)) (omega (arith, shorter Has r law.found long vs (o, vs') e')) ag'))
        (λ o us' lt. item_past n (length rest) (series_stays n) o us' lt))

    pub series_lawful : Lawful (Series Has) (series stop r)
    series_lawful = record {
      found = λ ts x e. series_finds (length ts) ts x e;
      begins = λ ts k e. series_begins (length ts) ts k e;
      stays = λ n us le. series_stays (length us) n us le;
      same = λ rest rest' us vs ag. series_same (length us) (length vs) rest rest' us vs (omega arith) (omega arith) ag;
    }

  -- what has tokens is read from them
  module _ (F G : List T → Type 0) (again : Again Has F r) (starts : (us : List T) (x : Item) → Has us x → (t : T) × (vs : List T) × (us ≡ t ∷ vs) × (stop t ≡ false))
      (over : (rest : List T) → is_over stop rest ≡ true → G rest → F rest) (next : (us : List T) (x : Item) (rest : List T) → Has us x → F (us ++ rest)) where
    over_stays : (n : ℕ) (rest : List T) → is_over stop rest ≡ true → series_up_to stop r n rest ≡ Ok (nothing, rest)
    unfolding series_up_to
    over_stays zero rest e = refl
    over_stays (suc n) rest e = rw e refl

    follows : (cs : List Column) (names : List (List ℕ)) (vs rest : List T) → HasSeries Has vs cs names → is_over stop rest ≡ true → G rest → F (vs ++ rest)
    follows [] names vs rest (inl h) e g = subst (λ (ws : List T). F (ws ++ rest)) (sym h.0) (over rest e g)
    follows [] names vs rest (inr h) e g = next vs (items.Key names) rest h
    follows (c ∷ cs) names vs rest h e g = subst (λ (ws : List T). F (ws ++ rest)) (sym h.2) (subst F (sym (append_assoc h.0 h.1 rest)) (next h.0 (items.Column c) (h.1 ++ rest) h.3))

    going : (us : List T) (x : Item) (rest : List T) → Has us x → is_over stop (us ++ rest) ≡ false
    going us x rest has = let s = starts us x has in ap (λ (ws : List T). is_over stop (ws ++ rest)) s.2 ∙ s.3

    series_up_to_again : (cs : List Column) (names : List (List ℕ)) (n : ℕ) (us rest : List T) → HasSeries Has us cs names → length us ≤ n → is_over stop rest ≡ true → G rest → Leads (series_up_to stop r n (us ++ rest)) (Ok ((cs, names), rest))
    unfolding series_up_to
    series_up_to_again [] names n us rest (inl h) le e g = inl (rw (h.0, h.1) (over_stays n rest e))
    series_up_to_again [] names zero us rest (inr h) le e g =
        let s = starts us (items.Key names) h in
        absurd (omega (arith, ap length s.2))
    series_up_to_again [] names (suc n) us rest (inr h) le e g =
        rw (going us (items.Key names) rest h) (Leads-bind (r (us ++ rest)) (items.Key names, rest) (behind stop r n) (again us (items.Key names) rest h (over rest e g)))
    series_up_to_again (c ∷ cs) names zero us rest h le e g =
        let s = starts h.0 (items.Column c) h.3 in
        absurd (omega (arith, ap length h.2, length-append h.0 h.1, ap length s.2))
    series_up_to_again (c ∷ cs) names (suc n) us rest h le e g =
        let s = starts h.0 (items.Column c) h.3 in
        let first = again h.0 (items.Column c) (h.1 ++ rest) h.3 (follows cs names h.1 rest h.4 e g) in
        let others = series_up_to_again cs names n h.1 rest h.4 (omega (arith, le, ap length h.2, length-append h.0 h.1, ap length s.2)) e g in
        let go : Leads (series_up_to stop r (suc n) (h.0 ++ (h.1 ++ rest))) (Ok ((c ∷ cs, names), rest)) =
        rw (going h.0 (items.Column c) (h.1 ++ rest) h.3) (Leads-then _ _ (Ok ((c ∷ cs, names), rest))
        (Leads-bind (r (h.0 ++ (h.1 ++ rest))) (items.Column c, h.1 ++ rest) (behind stop r n) first)
        (Leads-bind (series_up_to stop r n (h.1 ++ rest)) ((cs, names), rest) (put c) others)) in
        subst (λ (ws : List T). Leads (series_up_to stop r (suc n) ws) (Ok ((c ∷ cs, names), rest))) (sym (ap (λ (ws : List T). ws ++ rest) h.2 ∙ append_assoc h.0 h.1 rest)) go

    pub series_again : Again (Series Has) (λ rest. (is_over stop rest ≡ true) × G rest) (series stop r)
    series_again us x rest h e = series_up_to_again x.0 x.1 (length (us ++ rest)) us rest h (omega (arith, length-append us rest)) e.0 e.1
