-- The value of a level is the same in two worlds whose current rows differ in the level's own loop alone.
use Rattle.std.proofs.Common.{◌≡◌, ℕ, Bool, true, false, cond, List, [], ◌∷◌, ◌++◌, map, length, nat_eq, pos, refl, sym, ap, ap₂, ◌∙◌, subst}
use Rattle.std.specs.List.{filter}
use mathlib.Core.Path.{fun_ext}
use Rattle.qbs_base.specs.declared.scalar.Row.{Row}
use Rattle.tor_terms.specs.declared.term.Atom.{Atom}
use Rattle.tor_terms.specs.declared.term.Elem.{Elem}
use Rattle.tor_terms.specs.Plain.{Form, Tree, Walk}
use Rattle.tor_terms.specs.Truth.{Tuple, Datum, Tup, Element, World, row_at, rows_at, all_hold}
use Rattle.tor_terms.specs.Value.{only_number, only_truth, elem_at, walked, paired, joined, first_ones, added, total, either, best, not_empty, value}
use Rattle.kernel_lang.specs.declared.parts.Update.{Update}
use Rattle.kernel_lang.specs.declared.parts.Update.TheVariants.{Push, PushNew, Tick, Plus, Best, Mark}
use Rattle.kernel_lang.specs.Postcondition.{nest_walks, nest_ones, body, val}
use Rattle.vc_gen.proofs.Alike.{at, all_same}
use Rattle.vc_gen.proofs.Scope.{IsNew}

-- two worlds with the lists, entry values, known lists and flags of b, whose rows may differ in the loop l
module _ (b : World) (atoms : List Atom) (wt vt : ℕ → ℕ) (wc vc : ℕ → Row) (wh vh : ℕ → List Datum) (l : ℕ) (rows : (j : ℕ) → nat_eq l j ≡ false → wc j ≡ vc j) where
  abbrev w : World
  w = at b wt wc wh

  abbrev v : World
  v = at b vt vc vh

  -- what gives the same rows in both
  abbrev Same : Datum → Type 0
  Same x = rows_at wc x ≡ rows_at vc x

  abbrev AllSame : List Datum → Type 0
  AllSame [] = Unit {0}
  AllSame (x ∷ xs) = Same x × AllSame xs

  row_same : (t : Tuple) (j : ℕ) → nat_eq l j ≡ false → row_at wc t j ≡ row_at vc t j
  row_same [] j h = rows j h
  row_same (own ∷ t) j h = ap (λ r. cond (nat_eq own.0 j) own.1 r) (row_same t j h)

  -- a tuple that has a row of l does
  same_head : (r : Row) (t : Tuple) → Same (Tup ((l, r) ∷ t))
  same_head r t = fun_ext (λ j. go j (nat_eq l j) refl)
    where
      go : (j : ℕ) (c : Bool) → nat_eq l j ≡ c → cond c r (row_at wc t j) ≡ cond c r (row_at vc t j)
      go j true e = refl
      go j false e = row_same t j e

  same_paired_head : (r : Row) (x : Datum) → Same (paired (Tup ((l, r) ∷ [])) x)
  same_paired_head r (Tup t) = same_head r t
  same_paired_head r (Element q) = same_head r []

  same_more : (own : ℕ × Row) (p q : ℕ → Row) → p ≡ q → ◌≡◌ {A = ℕ → Row} (λ j. cond (nat_eq own.0 j) own.1 (p j)) (λ j. cond (nat_eq own.0 j) own.1 (q j))
  same_more own p q h = ap (λ (f : ℕ → Row). λ j. cond (nat_eq own.0 j) own.1 (f j)) h

  same_paired : (own : ℕ × Row) (x : Datum) → Same x → Same (paired (Tup (own ∷ [])) x)
  same_paired own (Tup t) h = same_more own (row_at wc t) (row_at vc t) h
  same_paired own (Element q) h = same_more own wc vc h

  all_append : (xs ys : List Datum) → AllSame xs → AllSame ys → AllSame (xs ++ ys)
  all_append [] ys h g = g
  all_append (x ∷ xs) ys h g = (h.0, all_append xs ys h.1 g)

  all_heads : (r : Row) (xs : List Datum) → AllSame (map (paired (Tup ((l, r) ∷ []))) xs)
  all_heads r [] = tt
  all_heads r (x ∷ xs) = (same_paired_head r x, all_heads r xs)

  all_paired : (own : ℕ × Row) (xs : List Datum) → AllSame xs → AllSame (map (paired (Tup (own ∷ []))) xs)
  all_paired own [] h = tt
  all_paired own (x ∷ xs) h = (same_paired own x h.0, all_paired own xs h.1)

  all_joined : (rs : List Row) (xs : List Datum) → AllSame (joined (walked l rs) xs)
  all_joined [] xs = tt
  all_joined (r ∷ rs) xs = all_append (map (paired (Tup ((l, r) ∷ []))) xs) (joined (walked l rs) xs) (all_heads r xs) (all_joined rs xs)

  all_walked : (rs : List Row) → AllSame (walked l rs)
  all_walked [] = tt
  all_walked (r ∷ rs) = (same_head r [], all_walked rs)

  walks_bound : (x : Tree) (rs : List Row) → value w atoms x ≡ walked l rs → (inner : List ℕ) → AllSame (value w atoms (nest_walks x inner))
  walks_bound x rs e [] = subst AllSame (sym e) (all_walked rs)
  walks_bound x rs e (k ∷ ks) = subst (λ xs. AllSame (joined xs (value w atoms (nest_walks (Walk k) ks)))) (sym e) (all_joined rs (value w atoms (nest_walks (Walk k) ks)))

  ones_bound : (outer : List ℕ) (x : Tree) → AllSame (value w atoms x) → AllSame (value w atoms (nest_ones outer x))
  ones_bound [] x h = h
  ones_bound (k ∷ ks) x h =
      all_append (map (paired (Tup ((k, wc k) ∷ []))) (value w atoms (nest_ones ks x))) [] (all_paired (k, wc k) (value w atoms (nest_ones ks x)) (ones_bound ks x h)) tt

  walks_same : (x y : Tree) → value w atoms x ≡ value v atoms y → (inner : List ℕ) → value w atoms (nest_walks x inner) ≡ value v atoms (nest_walks y inner)
  walks_same x y e [] = e
  walks_same x y e (k ∷ ks) = ap₂ joined e (walks_same (Walk k) (Walk k) refl ks)

  ones_same : (outer : List ℕ) → IsNew l outer → (x y : Tree) → value w atoms x ≡ value v atoms y → value w atoms (nest_ones outer x) ≡ value v atoms (nest_ones outer y)
  ones_same [] new x y e = e
  ones_same (k ∷ ks) new x y e = ap₂ joined (ap (λ r. Tup ((k, r) ∷ []) ∷ []) (rows k new.0)) (ones_same ks new.1 x y e)

  -- the test of a selection, at any rows
  tested : (fs : List Form) (q : ℕ → Row) → all_hold w atoms q fs ≡ all_hold v atoms q fs
  tested fs q = all_same w v refl refl atoms q refl fs

  kept_same : (fs : List Form) (xs : List Datum) → AllSame xs → filter (λ x. all_hold w atoms (rows_at wc x) fs) xs ≡ filter (λ x. all_hold v atoms (rows_at vc x) fs) xs
  kept_same fs [] h = refl
  kept_same fs (x ∷ xs) h = ap₂ (λ q r. cond q (x ∷ r) r) (ap (λ q. all_hold w atoms q fs) h.0 ∙ tested fs (rows_at vc x)) (kept_same fs xs h.1)

  taken_same : (fs : List Form) (e : Elem) (xs : List Datum) → AllSame xs
      → map (λ x. Element (elem_at (rows_at wc x) e)) (filter (λ x. all_hold w atoms (rows_at wc x) fs) xs) ≡ map (λ x. Element (elem_at (rows_at vc x) e)) (filter (λ x. all_hold v atoms (rows_at vc x) fs) xs)
  taken_same fs e [] h = refl
  taken_same fs e (x ∷ xs) h = go (all_hold w atoms (rows_at wc x) fs) (all_hold v atoms (rows_at vc x) fs) (ap (λ q. all_hold w atoms q fs) h.0 ∙ tested fs (rows_at vc x)) (taken_same fs e xs h.1)
    where
      go : (c d : Bool) → c ≡ d
          → map (λ x. Element (elem_at (rows_at wc x) e)) (filter (λ x. all_hold w atoms (rows_at wc x) fs) xs) ≡ map (λ x. Element (elem_at (rows_at vc x) e)) (filter (λ x. all_hold v atoms (rows_at vc x) fs) xs)
          → map (λ x. Element (elem_at (rows_at wc x) e)) (cond c (x ∷ filter (λ x. all_hold w atoms (rows_at wc x) fs) xs) (filter (λ x. all_hold w atoms (rows_at wc x) fs) xs))
          ≡ map (λ x. Element (elem_at (rows_at vc x) e)) (cond d (x ∷ filter (λ x. all_hold v atoms (rows_at vc x) fs) xs) (filter (λ x. all_hold v atoms (rows_at vc x) fs) xs))
      go true true eq ih = ap₂ (λ y ys. y ∷ ys) (ap (λ q. Element (elem_at q e)) h.0) ih
      go false false eq ih = ih
      go true false eq ih = absurd cc
      go false true eq ih = absurd cc

  pub level_same : (u : Update) (fs : List Form) (outer : List ℕ) → IsNew l outer → (a c : Tree) → value w atoms a ≡ value v atoms c → (x y : Tree) (rs : List Row) → value w atoms x ≡ walked l rs → value v atoms y ≡ walked l rs → (inner : List ℕ)
      → value w atoms (val u a (body fs outer x inner)) ≡ value v atoms (val u c (body fs outer y inner))
  level_same u fs outer new a c e x y rs ex ey inner = go u
    where
      bound : AllSame (value w atoms (nest_ones outer (nest_walks x inner)))
      bound = ones_bound outer (nest_walks x inner) (walks_bound x rs ex inner)

      same : value w atoms (nest_ones outer (nest_walks x inner)) ≡ value v atoms (nest_ones outer (nest_walks y inner))
      same = ones_same outer new (nest_walks x inner) (nest_walks y inner) (walks_same x y (ex ∙ sym ey) inner)

      kept : value w atoms (body fs outer x inner) ≡ value v atoms (body fs outer y inner)
      kept = kept_same fs (value w atoms (nest_ones outer (nest_walks x inner))) bound ∙ ap (filter (λ x. all_hold v atoms (rows_at vc x) fs)) same

      taken : (d : Elem) → map (λ x. Element (elem_at (rows_at wc x) d)) (value w atoms (body fs outer x inner)) ≡ map (λ x. Element (elem_at (rows_at vc x) d)) (value v atoms (body fs outer y inner))
      taken d = taken_same fs d (value w atoms (nest_ones outer (nest_walks x inner))) bound ∙ ap (λ xs. map (λ x. Element (elem_at (rows_at vc x) d)) (filter (λ x. all_hold v atoms (rows_at vc x) fs) xs)) same

      go : (u : Update) → value w atoms (val u a (body fs outer x inner)) ≡ value v atoms (val u c (body fs outer y inner))
      go (Push d) = ap₂ (λ p q. p ++ q) e (taken d)
      go (PushNew d) = ap (first_ones []) (taken d)
      go Tick = ap₂ (λ p q. added p (only_number (pos (length q)))) e kept
      go (Plus d) = ap₂ (λ p q. added p (total q)) e (taken d)
      go (Best way d) = ap₂ (best way) e (taken d)
      go Mark = ap₂ (λ p q. either p (only_truth (not_empty q))) e kept
