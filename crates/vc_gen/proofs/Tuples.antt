-- The tuples of a level have a row of each of its loops, and the row is one of the loop's list.
use Rattle.std.proofs.Common.{◌≡◌, ℕ, Bool, true, false, cond, ◌||◌, List, [], ◌∷◌, ◌++◌, map, nat_eq, slice_get, refl, sym, ap₂, ◌∙◌, subst, eqb-true}
use Rattle.std.specs.List.{AllByRecursion}
use Rattle.std.proofs.lemmas.List.{map-append}
use Rattle.std.specs.declared.option.Option.TheVariants.{Some}
use Rattle.qbs_base.specs.declared.scalar.Row.{Row}
use Rattle.tor_terms.specs.declared.term.Atom.{Atom}
use Rattle.tor_terms.specs.Plain.{Tree, Walk}
use Rattle.tor_terms.specs.Truth.{Tuple, Datum, Tup, Element, World, row_at, rows_at, has_loop}
use Rattle.tor_terms.specs.Value.{walked, paired, joined, value}
use Rattle.kernel_lang.specs.Postcondition.{nest_walks, nest_ones}
use Rattle.vc_gen.proofs.AllOf.{all_append, all_map, all_places}
use Rattle.vc_gen.proofs.Uses.{AllCurrent}

module _ (lists : ℕ → List Row) where
  -- a row of the loop's list
  abbrev pub In : ℕ → Row → Type 0
  In j r = (k : ℕ) × (slice_get (lists j) k ≡ Some r)

  abbrev pub AllIn : Tuple → Type 0
  AllIn [] = Unit {0}
  AllIn (own ∷ t) = In own.0 own.1 × AllIn t

  -- a tuple of rows of these loops, in order
  abbrev pub Of : List ℕ → Datum → Type 0
  Of ls (Tup t) = AllIn t × (map (λ own. own.0) t ≡ ls)
  Of ls (Element r) = ⊥

  in_append : (t u : Tuple) → AllIn t → AllIn u → AllIn (t ++ u)
  in_append [] u h g = g
  in_append (own ∷ t) u h g = (h.0, in_append t u h.1 g)

  paired_of : (ls ms : List ℕ) (x y : Datum) → Of ls x → Of ms y → Of (ls ++ ms) (paired x y)
  paired_of ls ms (Tup t) (Tup u) h g = (in_append t u h.0 g.0, map-append (λ own. own.0) t u ∙ ap₂ (λ p q. p ++ q) h.1 g.1)
  paired_of ls ms (Tup t) (Element r) h g = absurd g
  paired_of ls ms (Element r) y h g = absurd h

  joined_of : (ls ms : List ℕ) (xs ys : List Datum) → AllByRecursion (Of ls) xs → AllByRecursion (Of ms) ys → AllByRecursion (Of (ls ++ ms)) (joined xs ys)
  joined_of ls ms [] ys h g = tt
  joined_of ls ms (x ∷ xs) ys h g =
      all_append (Of (ls ++ ms)) (map (paired x) ys) (joined xs ys) (all_map (Of ms) (Of (ls ++ ms)) (paired x) (λ y k. paired_of ls ms x y h.0 k) ys g) (joined_of ls ms xs ys h.1 g)

  pub walked_of : (j : ℕ) → AllByRecursion (Of (j ∷ [])) (walked j (lists j))
  walked_of j = all_map (In j) (Of (j ∷ [])) (λ r. Tup ((j, r) ∷ [])) (λ r k. ((k, tt), refl)) (lists j) (all_places (lists j))

  row_in : (c : ℕ → Row) (t : Tuple) (j : ℕ) → AllIn t → has_loop (map (λ own. own.0) t) j ≡ true → In j (row_at c t j)
  row_in c [] j h e = absurd cc
  row_in c (own ∷ t) j h e = go (nat_eq own.0 j) refl e (row_in c t j h.1)
    where
      go : (b : Bool) → nat_eq own.0 j ≡ b → (b || has_loop (map (λ own. own.0) t) j) ≡ true → (has_loop (map (λ own. own.0) t) j ≡ true → In j (row_at c t j)) → In j (cond b own.1 (row_at c t j))
      go true d e ih = subst (λ i. In i own.1) (eqb-true own.0 j d) h.0
      go false d e ih = ih e

  -- the row of each of its loops at a tuple
  pub of_row : (c : ℕ → Row) (ls : List ℕ) (x : Datum) (j : ℕ) → Of ls x → has_loop ls j ≡ true → In j (rows_at c x j)
  of_row c ls (Tup t) j h e = row_in c t j h.0 (subst (λ ms. has_loop ms j ≡ true) (sym h.1) e)
  of_row c ls (Element r) j h e = absurd h

module _ (w : World) (atoms : List Atom) where
  pub walks_of : (l : ℕ) (x : Tree) → AllByRecursion (Of w.lists (l ∷ [])) (value w atoms x) → (inner : List ℕ) → AllByRecursion (Of w.lists (l ∷ inner)) (value w atoms (nest_walks x inner))
  walks_of l x h [] = h
  walks_of l x h (k ∷ ks) = joined_of w.lists (l ∷ []) (k ∷ ks) (value w atoms x) (value w atoms (nest_walks (Walk k) ks)) h (walks_of k (Walk k) (walked_of w.lists k) ks)

  pub ones_of : (outer : List ℕ) → AllCurrent w outer → (ls : List ℕ) (x : Tree) → AllByRecursion (Of w.lists ls) (value w atoms x) → AllByRecursion (Of w.lists (outer ++ ls)) (value w atoms (nest_ones outer x))
  ones_of [] now ls x h = h
  ones_of (k ∷ ks) now ls x h =
      joined_of w.lists (k ∷ []) (ks ++ ls) (Tup ((k, w.current k) ∷ []) ∷ []) (value w atoms (nest_ones ks x)) (((((w.turns k, now.0.row), tt), refl)), tt) (ones_of ks now.1 ls x h)
