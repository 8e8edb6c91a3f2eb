-- Candidates that are gathered one after another, and what a bank then holds.
use Rattle.std.proofs.Common.{◌≡◌, ◌↔◌, IsTrue, ℕ, zero, suc, ◌+◌, ◌-◌, ◌<◌, ◌≤◌, Bool, true, false, not, List, [], ◌∷◌, ◌++◌, length, take, drop, Option, Some, None, slice_get, slice_set, refl, sym, ap, subst, ◌∙◌, arith, inl, inr, ◌⊎◌}
use Rattle.std.specs.Prelude.{slice_index_or, OnOk, IfSome}
use Rattle.std.specs.declared.result.Result.{Result}
use Rattle.std.specs.declared.result.Result.TheVariants.{Ok, Err}
use Rattle.std.specs.List.{Contains, list_all}
use Rattle.qbs_base.specs.Values.{Schema}
use Rattle.kernel_lang.specs.Plain.{Fragment}
use Rattle.kernel_lang.specs.Refuted.{Refutes}
use Rattle.small_dbs.specs.declared.small.SmallDb.{SmallDb}
use Rattle.small_dbs.specs.Small.{small, smalls}
use Rattle.templates.specs.Numbered.{candidates_of}
use Rattle.proof_store.specs.Banks.{Refuses, Puts, put, refused}
use Rattle.proof_store.specs.Gathering.{IsFirst, none, here, later, PutsIf, Gathers}
use Rattle.proof_store.specs.Marked.{AreRefused, item_at, ArePut}

-- ---- what is refused stays refused

at_front : (items more : List SmallDb) (k : ℕ) (s : SmallDb) → k < length items → slice_index_or items k s ≡ s → slice_index_or (items ++ more) k s ≡ s
at_front [] more k s l e = absurd (omega (arith, l))
at_front (x ∷ xs) more zero s l e = e
at_front (x ∷ xs) more (suc k) s l e = at_front xs more k s (omega (arith, l)) e

longer : (items more : List SmallDb) → length (items ++ more) ≡ length items + length more
longer [] more = omega arith
longer (x ∷ xs) more = let e : length (xs ++ more) ≡ length xs + length more = longer xs more in omega (arith, e)

contains_more : (items more : List SmallDb) (s : SmallDb) → Contains items s → Contains (items ++ more) s
contains_more items more s c =
    let l = c.1 in
    let e : length (items ++ more) ≡ length items + length more = longer items more in
    (c.0, omega (arith, l, e), at_front items more c.0 s c.1 c.2)

last_at : (items : List SmallDb) (s : SmallDb) → slice_index_or (items ++ s ∷ []) (length items) s ≡ s
last_at [] s = refl
last_at (x ∷ xs) s = last_at xs s

contains_last : (items : List SmallDb) (s : SmallDb) → Contains (items ++ s ∷ []) s
contains_last items s =
    let e : length (items ++ s ∷ []) ≡ length items + 1 = longer items (s ∷ []) in
    (length items, omega (arith, e), last_at items s)

refuses_more : (items more : List SmallDb) (s : SmallDb) → Refuses items s → Refuses (items ++ more) s
refuses_more items more s (inl c) = inl (contains_more items more s c)
refuses_more items more s (inr l) = let e : length (items ++ more) ≡ length items + length more = longer items more in inr (omega (arith, l, e))

still_refuses : (items end : List SmallDb) (s t : SmallDb) → Puts items t end → Refuses items s → Refuses end s
still_refuses items _ s t (put n) r = refuses_more items (t ∷ []) s r
still_refuses items _ s t (refused q) r = r

pub put_refuses : (items end : List SmallDb) (t : SmallDb) → Puts items t end → Refuses end t
put_refuses items _ t (put n) = inl (contains_last items t)
put_refuses items _ t (refused q) = q

-- marks
marked_at : (marks : List Bool) (d e : ℕ) → slice_get (slice_set marks d true) e ≡ Some true → (e ≡ d) ⊎ (slice_get marks e ≡ Some true)
marked_at [] d e h = inr h
marked_at (b ∷ bs) zero zero h = inl refl
marked_at (b ∷ bs) zero (suc e) h = inr h
marked_at (b ∷ bs) (suc d) zero h = inr h
marked_at (b ∷ bs) (suc d) (suc e) h = elim (marked_at bs d e h) [ inl p ↦ inl (ap suc p) | inr p ↦ inr p ]

pub marks_kept : (schema : Schema) (f : Fragment) (items end : List SmallDb) (t : SmallDb) (marks : List Bool) → Puts items t end → AreRefused schema f items marks → AreRefused schema f end marks
marks_kept schema f items end t marks p h d e = still_refuses items end (small schema f d) t p (h d e)

pub one_marked : (schema : Schema) (f : Fragment) (items end : List SmallDb) (d : ℕ) (marks : List Bool) → Puts items (small schema f d) end → AreRefused schema f items marks → AreRefused schema f end (slice_set marks d true)
one_marked schema f items end d marks p h e m =
    elim (marked_at marks d e m) [
      | inl same ↦ subst (λ (n : ℕ). Refuses end (small schema f n)) (sym same) (put_refuses items end (small schema f d) p)
      | inr before ↦ still_refuses items end (small schema f e) (small schema f d) p (h e before)
    ]

pub already : (schema : Schema) (f : Fragment) (items : List SmallDb) (d : ℕ) (marks : List Bool) → slice_get marks d ≡ Some true → AreRefused schema f items marks → Puts items (small schema f d) items
already schema f items d marks e h = refused (h d e)

none_marked : (marks : List Bool) (d : ℕ) → list_all not marks ≡ true → slice_get marks d ≡ Some true → ⊥
none_marked [] d h e = cc
none_marked (true ∷ bs) d h e = cc
none_marked (false ∷ bs) zero h e = cc
none_marked (false ∷ bs) (suc d) h e = none_marked bs d h e

pub unmarked : (schema : Schema) (f : Fragment) (items : List SmallDb) (marks : List Bool) → list_all not marks ≡ true → AreRefused schema f items marks
unmarked schema f items marks h d e = absurd (none_marked marks d h e)

-- ---- the first one

module _ (f : Fragment) (c : List ℕ) where
  pub first_none : (ss : List SmallDb) → length ss ≡ 0 → IsFirst f c ss None
  first_none [] e = none
  first_none (s ∷ rest) e = absurd (omega (arith, e))

  pub first_here : (ss : List SmallDb) (s : SmallDb) (rest : List SmallDb) (b : Bool) → ss ≡ s ∷ rest → b ≡ true → (IsTrue b ↔ Refutes f c s.db s.entry) → IsFirst f c ss (item_at ss (Some 0))
  first_here ss s rest b e t h = subst (λ (xs : List SmallDb). IsFirst f c xs (slice_get xs 0)) (sym e) (here s rest (h.0 t))

  never : (b : Bool) → b ≡ false → IsTrue b → ⊥
  never false e t = absurd cc
  never true e t = absurd cc

  pub first_behind : (ss : List SmallDb) (s : SmallDb) (rest : List SmallDb) (b : Bool) (o : Option SmallDb) → ss ≡ s ∷ rest → b ≡ false → (IsTrue b ↔ Refutes f c s.db s.entry) → IsFirst f c rest o → IsFirst f c ss o
  first_behind ss s rest b o e n h g = subst (λ (xs : List SmallDb). IsFirst f c xs o) (sym e) (later s rest o (λ r. never b n (h.1 r)) g)

  pub none_behind : (ss : List SmallDb) (s : SmallDb) (rest : List SmallDb) (b : Bool) (o : Option ℕ) → ss ≡ s ∷ rest → b ≡ false → (IsTrue b ↔ Refutes f c s.db s.entry) → o ≡ None → IsFirst f c rest (item_at rest o) → IsFirst f c ss None
  none_behind ss s rest b o e n h d g = first_behind ss s rest b None e n h (subst (λ (p : Option ℕ). IsFirst f c rest (item_at rest p)) d g)

  pub some_behind : (ss : List SmallDb) (s : SmallDb) (rest : List SmallDb) (b : Bool) (o : Option ℕ) (d : ℕ) → ss ≡ s ∷ rest → b ≡ false → (IsTrue b ↔ Refutes f c s.db s.entry) → o ≡ Some d → IsFirst f c rest (item_at rest o)
      → IsFirst f c ss (item_at ss (Some (d + 1)))
  some_behind ss s rest b o d e n h is g =
      let next : suc d ≡ d + 1 = omega arith in
      let own : IsFirst f c rest (slice_get rest d) = subst (λ (p : Option ℕ). IsFirst f c rest (item_at rest p)) is g in
      subst (λ (k : ℕ). IsFirst f c ss (slice_get ss k)) next
      (subst (λ (xs : List SmallDb). IsFirst f c ss (slice_get xs (suc d))) (sym e) (first_behind ss s rest b (slice_get rest d) e n h own))

small_at : (schema : Schema) (f : Fragment) (d : ℕ) → d < 8 → slice_get (smalls schema f) d ≡ Some (small schema f d)
small_at schema f zero l = refl
small_at schema f (suc zero) l = refl
small_at schema f (suc (suc zero)) l = refl
small_at schema f (suc (suc (suc zero))) l = refl
small_at schema f (suc (suc (suc (suc zero)))) l = refl
small_at schema f (suc (suc (suc (suc (suc zero))))) l = refl
small_at schema f (suc (suc (suc (suc (suc (suc zero)))))) l = refl
small_at schema f (suc (suc (suc (suc (suc (suc (suc zero))))))) l = refl
small_at schema f (suc (suc (suc (suc (suc (suc (suc (suc d)))))))) l = absurd (omega (arith, l))

-- ---- one candidate

one_taken : {X : Type 0} (xs : List X) (k : ℕ) (x : X) → slice_get xs k ≡ Some x → take 1 (drop k xs) ≡ x ∷ []
one_taken [] k x e = absurd cc
one_taken (y ∷ xs) zero x e = let same : y ≡ x = cc in ap (λ z. z ∷ []) same
one_taken (y ∷ xs) (suc k) x e = one_taken xs k x e

module _ (schema : Schema) (f : Fragment) (size : ℕ) where
  one_gathered : (k : ℕ) (c : List ℕ) (o : Option SmallDb) (items end : List SmallDb) → slice_get (candidates_of f size) k ≡ Some c → IsFirst f c (smalls schema f) o → PutsIf items o end
      → Gathers schema f (take 1 (drop k (candidates_of f size))) items end
  one_gathered k c o items end e first p = subst (λ (cs : List (List ℕ)). Gathers schema f cs items end) (sym (one_taken (candidates_of f size) k c e)) (o, end, first, p, refl)

  pub nothing_put : (k : ℕ) (c : List ℕ) (own : List SmallDb) (items : List SmallDb) (marks : List Bool) → own ≡ smalls schema f → slice_get (candidates_of f size) k ≡ Some c → IsFirst f c own None → AreRefused schema f items marks
      → ArePut schema f size k 1 items items marks
  nothing_put k c own items marks same e first h =
      record { gathers = one_gathered k c None items items e (subst (λ (ss : List SmallDb). IsFirst f c ss None) same first) refl; marked = h }

  pub small_put : (k : ℕ) (c : List ℕ) (own : List SmallDb) (d : ℕ) (items end : List SmallDb) (marks : List Bool) → own ≡ smalls schema f → d < 8 → slice_get (candidates_of f size) k ≡ Some c
      → IsFirst f c own (item_at own (Some d)) → Puts items (small schema f d) end → AreRefused schema f end marks → ArePut schema f size k 1 items end marks
  small_put k c own d items end marks same l e first p h =
      record {
        gathers =
            one_gathered k c (Some (small schema f d)) items end e
            (subst (λ (o : Option SmallDb). IsFirst f c (smalls schema f) o) (small_at schema f d l) (subst (λ (ss : List SmallDb). IsFirst f c ss (slice_get ss d)) same first))
            p;
        marked = h;
      }

  pub none_put : (k : ℕ) (c : List ℕ) (own : List SmallDb) (o : Option ℕ) (items : List SmallDb) (marks : List Bool) → own ≡ smalls schema f → slice_get (candidates_of f size) k ≡ Some c → o ≡ None → IsFirst f c own (item_at own o) → AreRefused schema f items marks
      → ArePut schema f size k 1 items items marks
  none_put k c own o items marks same e d first h = nothing_put k c own items marks same e (subst (λ (p : Option ℕ). IsFirst f c own (item_at own p)) d first) h

  pub some_put : {A E : Type 0} (k : ℕ) (c : List ℕ) (own : List SmallDb) (o : Option ℕ) (d : ℕ) (items end : List SmallDb) (marks : List Bool) (r : Result A E) → own ≡ smalls schema f → d < 8 → slice_get (candidates_of f size) k ≡ Some c → o ≡ Some d
      → IsFirst f c own (item_at own o) → OnOk r (Puts items (small schema f d) end) → OnOk r (AreRefused schema f end marks) → OnOk r (ArePut schema f size k 1 items end marks)
  some_put k c own o d items end marks (Ok x) same l e is first p h = small_put k c own d items end marks same l e (subst (λ (q : Option ℕ). IsFirst f c own (item_at own q)) is first) p h
  some_put k c own o d items end marks (Err x) same l e is first p h = tt

  pub below_eight : (own : List SmallDb) (o : Option ℕ) (d : ℕ) → own ≡ smalls schema f → o ≡ Some d → IfSome o (λ n. n < length own) → d < 8
  below_eight own o d same is h = subst (λ (ss : List SmallDb). d < length ss) same (subst (λ (p : Option ℕ). IfSome p (λ n. n < length own)) is h)

-- ---- parts

none_taken : {X : Type 0} (n : ℕ) (xs : List X) → xs ≡ [] → take n xs ≡ []
none_taken zero xs e = refl
none_taken (suc n) xs e = ap (take (suc n)) e

none_dropped : {X : Type 0} (n : ℕ) (xs : List X) → xs ≡ [] → drop n xs ≡ []
none_dropped zero xs e = e
none_dropped (suc n) xs e = ap (drop (suc n)) e

taken_on : {X : Type 0} (xs : List X) (a b : ℕ) → take (a + b) xs ≡ take a xs ++ take b (drop a xs)
taken_on xs zero b = let e : 0 + b ≡ b = omega arith in ap (λ (n : ℕ). take n xs) e
taken_on [] (suc a) b = none_taken (suc a + b) [] refl ∙ sym (none_taken b [] refl)
taken_on (x ∷ xs) (suc a) b = let e : suc a + b ≡ suc (a + b) = omega arith in ap (λ (n : ℕ). take n (x ∷ xs)) e ∙ ap (λ ys. x ∷ ys) (taken_on xs a b)

dropped_on : {X : Type 0} (xs : List X) (k a : ℕ) → drop a (drop k xs) ≡ drop (k + a) xs
dropped_on xs zero a = let e : a ≡ 0 + a = omega arith in ap (λ (n : ℕ). drop n xs) e
dropped_on [] (suc k) a = none_dropped a [] refl ∙ sym (none_dropped (suc k + a) [] refl)
dropped_on (x ∷ xs) (suc k) a = dropped_on xs k a ∙ (let e : suc (k + a) ≡ suc k + a = omega arith in ap (λ (n : ℕ). drop n (x ∷ xs)) e)

gathers_on : (schema : Schema) (f : Fragment) (cs ds : List (List ℕ)) (items mid end : List SmallDb) → Gathers schema f cs items mid → Gathers schema f ds mid end → Gathers schema f (cs ++ ds) items end
gathers_on schema f [] ds items mid end p q = subst (λ (l : List SmallDb). Gathers schema f ds l end) (sym p) q
gathers_on schema f (c ∷ cs) ds items mid end p q = (p.0, p.1, p.2, p.3, gathers_on schema f cs ds p.1 mid end p.4 q)

module _ (schema : Schema) (f : Fragment) (size : ℕ) where
  pub none_gathered : (k n : ℕ) (items : List SmallDb) (marks : List Bool) → n ≡ 0 → AreRefused schema f items marks → ArePut schema f size k n items items marks
  none_gathered k n items marks e h = subst (λ (m : ℕ). ArePut schema f size k m items items marks) (sym e) (record { gathers = refl; marked = h })

  pub both_gathered : (k n half : ℕ) (items mid end : List SmallDb) (marks last : List Bool) → half ≤ n → ArePut schema f size k half items mid marks → ArePut schema f size (k + half) (n - half) mid end last
      → ArePut schema f size k n items end last
  both_gathered k n half items mid end marks last l p q =
      let whole : half + (n - half) ≡ n = omega (arith, l) in
      let joined : take half (drop k (candidates_of f size)) ++ take (n - half) (drop (k + half) (candidates_of f size)) ≡ take n (drop k (candidates_of f size)) =
      ap (λ (ds : List (List ℕ)). take half (drop k (candidates_of f size)) ++ take (n - half) ds) (sym (dropped_on (candidates_of f size) k half))
      ∙ sym (taken_on (drop k (candidates_of f size)) half (n - half))
      ∙ ap (λ (m : ℕ). take m (drop k (candidates_of f size))) whole in
      record {
        gathers = subst (λ (ds : List (List ℕ)). Gathers schema f ds items end) joined (gathers_on schema f (take half (drop k (candidates_of f size))) (take (n - half) (drop (k + half) (candidates_of f size))) items mid end p.gathers q.gathers);
        marked = q.marked;
      }

  pub gathers_all : {A E : Type 0} (n : ℕ) (items end : List SmallDb) (marks : List Bool) (r : Result A E) → OnOk r (ArePut schema f size 0 n items end marks) → OnOk r (Gathers schema f (take n (candidates_of f size)) items end)
  gathers_all n items end marks (Ok x) h = h.gathers
  gathers_all n items end marks (Err x) h = tt

  pub both_put : {A E : Type 0} (k n half : ℕ) (items mid end : List SmallDb) (marks last : List Bool) (r : Result A E) → half ≤ n → ArePut schema f size k half items mid marks → OnOk r (ArePut schema f size (k + half) (n - half) mid end last)
      → OnOk r (ArePut schema f size k n items end last)
  both_put k n half items mid end marks last (Ok x) l p q = both_gathered k n half items mid end marks last l p q
  both_put k n half items mid end marks last (Err x) l p q = tt

  pub one_put : {A E : Type 0} (k n : ℕ) (items end : List SmallDb) (marks : List Bool) (r : Result A E) → n ≡ 1 → OnOk r (ArePut schema f size k 1 items end marks) → OnOk r (ArePut schema f size k n items end marks)
  one_put k n items end marks r e h = subst (λ (m : ℕ). OnOk r (ArePut schema f size k m items end marks)) (sym e) h
