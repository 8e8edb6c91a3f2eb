-- The tuples of a nest of loops, as the rows at which the loops come to what stands in them.
use Rattle.std.proofs.Common.{◌≡◌, ℕ, ◌≤◌, ◌<◌, Bool, true, false, cond, ◌||◌, ◌&&◌, List, [], ◌∷◌, ◌++◌, map, nat_eq, nat_lt, refl, sym, ap, ap₂, ◌∙◌, subst, arith, eqb-true, eq-eqb, append-nil}
use mathlib.Core.Path.{fun_ext}
use Rattle.std.specs.List.{AllByRecursion, flat_map, filter, list_any}
use Rattle.std.proofs.lemmas.Bool.Decides.{nat_tests}
use Rattle.std.proofs.lemmas.List.{map-append}
use Rattle.std.proofs.lemmas.List.Elements.{filter-append}
use Rattle.qbs_base.specs.declared.scalar.Row.{Row}
use Rattle.tor_terms.specs.declared.term.Atom.{Atom}
use Rattle.tor_terms.specs.declared.term.Elem.{Elem}
use Rattle.tor_terms.specs.Plain.{Form, Walk}
use Rattle.tor_terms.specs.Truth.{Tuple, Datum, Tup, Element, World, row_at, rows_at, all_hold, has_loop}
use Rattle.tor_terms.specs.Value.{walked, paired, joined, elem_at, not_empty, value}
use Rattle.kernel_lang.specs.Postcondition.{nest_walks, nest_ones}
use Rattle.kernel_lang.specs.Running.{with_row}
use Rattle.kernel_lang.specs.Validity.{rises, rises_after}
use Rattle.kernel_interp.specs.Claiming.{any_visit, taken}

-- the rows at which these loops come to what stands in them
abbrev pub visits : (ℕ → List Row) → List ℕ → (ℕ → Row) → List (ℕ → Row)
visits lists [] rows = rows ∷ []
visits lists (j ∷ js) rows = flat_map (λ r. visits lists js (with_row rows j r)) (lists j)

-- ---- tuples of rows of these loops

abbrev pub Of : List ℕ → Datum → Type 0
Of ls (Tup t) = map (λ (own : ℕ × Row). own.0) t ≡ ls
Of ls (Element r) = ⊥

paired_of : (ls ms : List ℕ) (x y : Datum) → Of ls x → Of ms y → Of (ls ++ ms) (paired x y)
paired_of ls ms (Tup t) (Tup u) h g = map-append (λ (own : ℕ × Row). own.0) t u ∙ ap₂ (λ (p q : List ℕ). p ++ q) h g
paired_of ls ms (Tup t) (Element r) h g = absurd g
paired_of ls ms (Element r) y h g = absurd h

all_both : {X : Type 0} (P : X → Type 0) (xs ys : List X) → AllByRecursion P xs → AllByRecursion P ys → AllByRecursion P (xs ++ ys)
all_both P [] ys h g = g
all_both P (x ∷ xs) ys h g = (h.0, all_both P xs ys h.1 g)

all_paired : (ls ms : List ℕ) (x : Datum) (ys : List Datum) → Of ls x → AllByRecursion (Of ms) ys → AllByRecursion (Of (ls ++ ms)) (map (paired x) ys)
all_paired ls ms x [] h g = tt
all_paired ls ms x (y ∷ ys) h g = (paired_of ls ms x y h g.0, all_paired ls ms x ys h g.1)

joined_of : (ls ms : List ℕ) (xs ys : List Datum) → AllByRecursion (Of ls) xs → AllByRecursion (Of ms) ys → AllByRecursion (Of (ls ++ ms)) (joined xs ys)
joined_of ls ms [] ys h g = tt
joined_of ls ms (x ∷ xs) ys h g = all_both (Of (ls ++ ms)) (map (paired x) ys) (joined xs ys) (all_paired ls ms x ys h.0 g) (joined_of ls ms xs ys h.1 g)

walked_of : (j : ℕ) (rows : List Row) → AllByRecursion (Of (j ∷ [])) (walked j rows)
walked_of j [] = tt
walked_of j (r ∷ rows) = (refl, walked_of j rows)

walks_of : (w : World) (atoms : List Atom) (l : ℕ) (inner : List ℕ) → AllByRecursion (Of (l ∷ inner)) (value w atoms (nest_walks (Walk l) inner))
walks_of w atoms l [] = walked_of l (w.lists l)
walks_of w atoms l (k ∷ ks) = joined_of (l ∷ []) (k ∷ ks) (walked l (w.lists l)) (value w atoms (nest_walks (Walk k) ks)) (walked_of l (w.lists l)) (walks_of w atoms k ks)

-- ---- loops that differ

abbrev pub Differ : List ℕ → Type 0
Differ [] = Unit {0}
Differ (l ∷ ls) = (has_loop ls l ≡ false) × Differ ls

and_left : (a b : Bool) → (a && b) ≡ true → a ≡ true
and_left true b e = refl
and_left false b e = absurd cc

and_right : (a b : Bool) → (a && b) ≡ true → b ≡ true
and_right true b e = e
and_right false b e = absurd cc

or_none : (a b : Bool) → a ≡ false → b ≡ false → (a || b) ≡ false
or_none false b e f = f
or_none true b e f = absurd cc

not_after : (i j : ℕ) (ks : List ℕ) → i ≤ j → rises_after j ks ≡ true → has_loop ks i ≡ false
not_after i j [] l h = refl
not_after i j (k ∷ ks) l h =
    let b : nat_lt j k ≡ true = and_left (nat_lt j k) (rises_after k ks) h in
    let m : i ≤ k = grind (arith, nat_tests, b, l) in
    let d : nat_eq k i ≡ false = grind (arith, nat_tests, b, l) in
    or_none (nat_eq k i) (has_loop ks i) d (not_after i k ks m (and_right (nat_lt j k) (rises_after k ks) h))

differ_after : (j : ℕ) (ks : List ℕ) → rises_after j ks ≡ true → Differ ks
differ_after j [] h = tt
differ_after j (k ∷ ks) h =
    let m : rises_after k ks ≡ true = and_right (nat_lt j k) (rises_after k ks) h in
    (not_after k k ks (omega arith) m, differ_after k ks m)

pub differ : (ls : List ℕ) → rises ls ≡ true → Differ ls
differ [] h = tt
differ (l ∷ ls) h = (not_after l l ls (omega arith) h, differ_after l ls h)

-- ---- rows at tuples

abbrev loops_in : Tuple → List ℕ
loops_in t = map (λ (own : ℕ × Row). own.0) t

under : (rows : ℕ → Row) (l : ℕ) (r : Row) (u : Tuple) (k : ℕ) → has_loop (loops_in u) l ≡ false → row_at rows ((l, r) ∷ u) k ≡ row_at (with_row rows l r) u k
under rows l r [] k h = refl
under rows l r (own ∷ u) k h = go (nat_eq own.0 k) (nat_eq l k) (nat_eq own.0 l) refl refl refl h (under rows l r u k)
  where
    go : (a b c : Bool) → nat_eq own.0 k ≡ a → nat_eq l k ≡ b → nat_eq own.0 l ≡ c → (c || has_loop (loops_in u) l) ≡ false
        → (has_loop (loops_in u) l ≡ false → cond b r (row_at rows u k) ≡ row_at (with_row rows l r) u k)
        → cond b r (cond a own.1 (row_at rows u k)) ≡ cond a own.1 (row_at (with_row rows l r) u k)
    go a b true ea eb ec n ih = absurd cc
    go true true false ea eb ec n ih = absurd (let same : own.0 ≡ l = eqb-true own.0 k ea ∙ sym (eqb-true l k eb) in let t : nat_eq own.0 l ≡ true = eq-eqb own.0 l same in cc)
    go true false false ea eb ec n ih = refl
    go false b false ea eb ec n ih = ih n

rows_under : (rows : ℕ → Row) (l : ℕ) (r : Row) (ls : List ℕ) (ys : List Datum) → has_loop ls l ≡ false → AllByRecursion (Of ls) ys
    → map (rows_at rows) (map (paired (Tup ((l, r) ∷ []))) ys) ≡ map (rows_at (with_row rows l r)) ys
rows_under rows l r ls [] n h = refl
rows_under rows l r ls (Tup u ∷ ys) n h =
    ap₂ (λ (a : ℕ → Row) (as_ : List (ℕ → Row)). a ∷ as_) (fun_ext (λ k. under rows l r u k (subst (λ ms. has_loop ms l ≡ false) (sym h.0) n))) (rows_under rows l r ls ys n h.1)
rows_under rows l r ls (Element s ∷ ys) n h = absurd h.0

rows_joined : (rows : ℕ → Row) (l : ℕ) (rs : List Row) (ls : List ℕ) (ys : List Datum) → has_loop ls l ≡ false → AllByRecursion (Of ls) ys
    → map (rows_at rows) (joined (walked l rs) ys) ≡ flat_map (λ r. map (rows_at (with_row rows l r)) ys) rs
rows_joined rows l [] ls ys n h = refl
rows_joined rows l (r ∷ rs) ls ys n h =
    map-append (rows_at rows) (map (paired (Tup ((l, r) ∷ []))) ys) (joined (walked l rs) ys)
    ∙ ap₂ (λ (a b : List (ℕ → Row)). a ++ b) (rows_under rows l r ls ys n h) (rows_joined rows l rs ls ys n h)

flat_agree : {X Y : Type 0} (f g : X → List Y) → ((x : X) → f x ≡ g x) → (xs : List X) → flat_map f xs ≡ flat_map g xs
flat_agree f g h [] = refl
flat_agree f g h (x ∷ xs) = ap₂ (λ (a b : List _). a ++ b) (h x) (flat_agree f g h xs)

one_each : (rows : ℕ → Row) (l : ℕ) (rs : List Row) → map (rows_at rows) (walked l rs) ≡ flat_map (λ r. with_row rows l r ∷ []) rs
one_each rows l [] = refl
one_each rows l (r ∷ rs) = ap (λ (as_ : List (ℕ → Row)). with_row rows l r ∷ as_) (one_each rows l rs)

nest : (w : World) (atoms : List Atom) (l : ℕ) (inner : List ℕ) → Differ (l ∷ inner) → (rows : ℕ → Row) → map (rows_at rows) (value w atoms (nest_walks (Walk l) inner)) ≡ visits w.lists (l ∷ inner) rows
nest w atoms l [] d rows = one_each rows l (w.lists l)
nest w atoms l (k ∷ ks) d rows =
    rows_joined rows l (w.lists l) (k ∷ ks) (value w atoms (nest_walks (Walk k) ks)) d.0 (walks_of w atoms k ks)
    ∙ flat_agree (λ r. map (rows_at (with_row rows l r)) (value w atoms (nest_walks (Walk k) ks))) (λ r. visits w.lists (k ∷ ks) (with_row rows l r)) (λ r. nest w atoms k ks d.1 (with_row rows l r)) (w.lists l)

same_at : (rows : ℕ → Row) (j : ℕ) → with_row rows j (rows j) ≡ rows
same_at rows j = fun_ext (λ k. go k (nat_eq j k) refl)
  where
    go : (k : ℕ) (b : Bool) → nat_eq j k ≡ b → cond b (rows j) (rows k) ≡ rows k
    go k true e = ap rows (eqb-true j k e)
    go k false e = refl

ones_more : (w : World) (j : ℕ) (ls : List ℕ) (ys : List Datum) (all : List (ℕ → Row)) → has_loop ls j ≡ false → map (rows_at w.current) ys ≡ all → AllByRecursion (Of ls) ys
    → (map (rows_at w.current) (joined (Tup ((j, w.current j) ∷ []) ∷ []) ys) ≡ all) × AllByRecursion (Of (j ∷ ls)) (joined (Tup ((j, w.current j) ∷ []) ∷ []) ys)
ones_more w j ls ys all n h g = (
  ap (map (rows_at w.current)) (append-nil (map (paired (Tup ((j, w.current j) ∷ []))) ys))
      ∙ rows_under w.current j (w.current j) ls ys n g
      ∙ ap (λ (rows : ℕ → Row). map (rows_at rows) ys) (same_at w.current j)
      ∙ h,
  joined_of (j ∷ []) ls (Tup ((j, w.current j) ∷ []) ∷ []) ys (refl, tt) g,
)

pub ones : (w : World) (atoms : List Atom) (outer : List ℕ) (l : ℕ) (inner : List ℕ) → Differ (outer ++ l ∷ inner)
    → (map (rows_at w.current) (value w atoms (nest_ones outer (nest_walks (Walk l) inner))) ≡ visits w.lists (l ∷ inner) w.current)
    × AllByRecursion (Of (outer ++ l ∷ inner)) (value w atoms (nest_ones outer (nest_walks (Walk l) inner)))
ones w atoms [] l inner d = (nest w atoms l inner d w.current, walks_of w atoms l inner)
ones w atoms (j ∷ outer) l inner d =
    let more = ones w atoms outer l inner d.1 in
    ones_more w j (outer ++ l ∷ inner) (value w atoms (nest_ones outer (nest_walks (Walk l) inner))) (visits w.lists (l ∷ inner) w.current) d.0 more.0 more.1

-- ---- what is taken

abbrev chosen_at : World → List Atom → List Form → List (ℕ → Row) → List (ℕ → Row)
chosen_at w atoms fs all = filter (λ (at : ℕ → Row). all_hold w atoms at fs) all

module _ (w : World) (atoms : List Atom) (fs : List Form) where
  taken_now : (e : Elem) (rows : ℕ → Row) (b : Bool) → cond b (elem_at rows e ∷ []) [] ≡ map (λ (at : ℕ → Row). elem_at at e) (cond b (rows ∷ []) [])
  taken_now e rows true = refl
  taken_now e rows false = refl

  pub taken_is : (e : Elem) (js : List ℕ) (rows : ℕ → Row) → taken w atoms fs e js rows ≡ map (λ (at : ℕ → Row). elem_at at e) (chosen_at w atoms fs (visits w.lists js rows))
  taken_is e [] rows = taken_now e rows (all_hold w atoms rows fs)
  taken_is e (j ∷ js) rows = go (λ r. taken_is e js (with_row rows j r)) (w.lists j)
    where
      go : ((r : Row) → taken w atoms fs e js (with_row rows j r) ≡ map (λ (at : ℕ → Row). elem_at at e) (chosen_at w atoms fs (visits w.lists js (with_row rows j r))))
          → (rs : List Row) → flat_map (λ r. taken w atoms fs e js (with_row rows j r)) rs ≡ map (λ (at : ℕ → Row). elem_at at e) (chosen_at w atoms fs (flat_map (λ r. visits w.lists js (with_row rows j r)) rs))
      go ih [] = refl
      go ih (r ∷ rs) =
          ap₂ (λ (a b : List Row). a ++ b) (ih r) (go ih rs)
          ∙ sym (map-append (λ (at : ℕ → Row). elem_at at e) (chosen_at w atoms fs (visits w.lists js (with_row rows j r))) (chosen_at w atoms fs (flat_map (λ r. visits w.lists js (with_row rows j r)) rs)))
          ∙ ap (map (λ (at : ℕ → Row). elem_at at e)) (sym (filter-append (λ (at : ℕ → Row). all_hold w atoms at fs) (visits w.lists js (with_row rows j r)) (flat_map (λ r. visits w.lists js (with_row rows j r)) rs)))

  abbrev there : List (ℕ → Row) → Bool
  there [] = false
  there (r ∷ rows) = true

  there_both : (xs ys : List (ℕ → Row)) → there (xs ++ ys) ≡ (there xs || there ys)
  there_both [] ys = refl
  there_both (x ∷ xs) ys = refl

  any_now : (rows : ℕ → Row) (b : Bool) → b ≡ there (cond b (rows ∷ []) [])
  any_now rows true = refl
  any_now rows false = refl

  any_is : (js : List ℕ) (rows : ℕ → Row) → any_visit w atoms fs js rows ≡ there (chosen_at w atoms fs (visits w.lists js rows))
  any_is [] rows = any_now rows (all_hold w atoms rows fs)
  any_is (j ∷ js) rows = go (λ r. any_is js (with_row rows j r)) (w.lists j)
    where
      go : ((r : Row) → any_visit w atoms fs js (with_row rows j r) ≡ there (chosen_at w atoms fs (visits w.lists js (with_row rows j r)))) → (rs : List Row) → list_any (λ r. any_visit w atoms fs js (with_row rows j r)) rs ≡ there (chosen_at w atoms fs (flat_map (λ r. visits w.lists js (with_row rows j r)) rs))
      go ih [] = refl
      go ih (r ∷ rs) =
          ap₂ (λ (a b : Bool). a || b) (ih r) (go ih rs)
          ∙ sym (there_both (chosen_at w atoms fs (visits w.lists js (with_row rows j r))) (chosen_at w atoms fs (flat_map (λ r. visits w.lists js (with_row rows j r)) rs)))
          ∙ ap there (sym (filter-append (λ (at : ℕ → Row). all_hold w atoms at fs) (visits w.lists js (with_row rows j r)) (flat_map (λ r. visits w.lists js (with_row rows j r)) rs)))

  chosen_map : (cur : ℕ → Row) (xs : List Datum) → map (rows_at cur) (filter (λ x. all_hold w atoms (rows_at cur x) fs) xs) ≡ chosen_at w atoms fs (map (rows_at cur) xs)
  chosen_map cur [] = refl
  chosen_map cur (x ∷ xs) = go (all_hold w atoms (rows_at cur x) fs) (chosen_map cur xs)
    where
      go : (b : Bool) → map (rows_at cur) (filter (λ x. all_hold w atoms (rows_at cur x) fs) xs) ≡ chosen_at w atoms fs (map (rows_at cur) xs)
          → map (rows_at cur) (cond b (x ∷ filter (λ x. all_hold w atoms (rows_at cur x) fs) xs) (filter (λ x. all_hold w atoms (rows_at cur x) fs) xs)) ≡ cond b (rows_at cur x ∷ chosen_at w atoms fs (map (rows_at cur) xs)) (chosen_at w atoms fs (map (rows_at cur) xs))
      go true h = ap (λ (as_ : List (ℕ → Row)). rows_at cur x ∷ as_) h
      go false h = h

  -- the tuples for which the formulas hold, by their rows
  pub body_rows : (outer : List ℕ) (l : ℕ) (inner : List ℕ) → Differ (outer ++ l ∷ inner)
      → map (rows_at w.current) (filter (λ x. all_hold w atoms (rows_at w.current x) fs) (value w atoms (nest_ones outer (nest_walks (Walk l) inner)))) ≡ chosen_at w atoms fs (visits w.lists (l ∷ inner) w.current)
  body_rows outer l inner d = chosen_map w.current (value w atoms (nest_ones outer (nest_walks (Walk l) inner))) ∙ ap (chosen_at w atoms fs) (ones w atoms outer l inner d).0

  elements_map : (cur : ℕ → Row) (e : Elem) (xs : List Datum) → map (λ x. Element (elem_at (rows_at cur x) e)) xs ≡ map Element (map (λ (at : ℕ → Row). elem_at at e) (map (rows_at cur) xs))
  elements_map cur e [] = refl
  elements_map cur e (x ∷ xs) = ap (λ (ys : List Datum). Element (elem_at (rows_at cur x) e) ∷ ys) (elements_map cur e xs)

  pub elements_are : (e : Elem) (outer : List ℕ) (l : ℕ) (inner : List ℕ) → Differ (outer ++ l ∷ inner)
      → map (λ x. Element (elem_at (rows_at w.current x) e)) (filter (λ x. all_hold w atoms (rows_at w.current x) fs) (value w atoms (nest_ones outer (nest_walks (Walk l) inner)))) ≡ map Element (taken w atoms fs e (l ∷ inner) w.current)
  elements_are e outer l inner d =
      elements_map w.current e (filter (λ x. all_hold w atoms (rows_at w.current x) fs) (value w atoms (nest_ones outer (nest_walks (Walk l) inner))))
      ∙ ap (λ (as_ : List (ℕ → Row)). map Element (map (λ (at : ℕ → Row). elem_at at e) as_)) (body_rows outer l inner d)
      ∙ ap (map Element) (sym (taken_is e (l ∷ inner) w.current))

  there_map : (cur : ℕ → Row) (xs : List Datum) → not_empty xs ≡ there (map (rows_at cur) xs)
  there_map cur [] = refl
  there_map cur (x ∷ xs) = refl

  pub some_chosen : (outer : List ℕ) (l : ℕ) (inner : List ℕ) → Differ (outer ++ l ∷ inner)
      → not_empty (filter (λ x. all_hold w atoms (rows_at w.current x) fs) (value w atoms (nest_ones outer (nest_walks (Walk l) inner)))) ≡ any_visit w atoms fs (l ∷ inner) w.current
  some_chosen outer l inner d =
      there_map w.current (filter (λ x. all_hold w atoms (rows_at w.current x) fs) (value w atoms (nest_ones outer (nest_walks (Walk l) inner))))
      ∙ ap there (body_rows outer l inner d)
      ∙ sym (any_is (l ∷ inner) w.current)
