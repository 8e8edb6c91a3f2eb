-- Flags by their choices, as tables that list their truths at all choices of rows.
use Rattle.std.proofs.Common.{◌≡◌, ℕ, zero, suc, pos, Bool, true, false, cond, ◌&&◌, List, [], ◌∷◌, ◌++◌, map, take, length, ◌⊎◌, inl, inr, nat_lt, slice_get, refl, sym, ap, ap₂, ◌∙◌, subst, eqb-true, eq-eqb}
use Rattle.std.specs.List.{filter, flat_map, list_all, AllByRecursion}
use Rattle.std.proofs.lemmas.Option.{slice_get-map}
use Rattle.std.specs.Option.{option_map}
use Rattle.std.specs.declared.option.Option.{Option}
use Rattle.std.specs.declared.option.Option.TheVariants.{Some, None}
use Rattle.qbs_base.specs.declared.scalar.Kind.{Kind}
use Rattle.qbs_base.specs.declared.scalar.Kind.TheVariants.{Plain, Table}
use Rattle.qbs_base.specs.declared.scalar.Row.{Row}
use Rattle.qbs_base.specs.declared.scalar.Scalar.{Scalar}
use Rattle.qbs_base.specs.Scalar.{same_cells}
use Rattle.qbs_base.specs.Sort.{choices}
use Rattle.tor_terms.specs.declared.env.FlagTable.{FlagTable}
use Rattle.tor_terms.specs.declared.term.Atom.{Atom}
use Rattle.tor_terms.specs.declared.term.Atom.TheVariants.{Less, Same, Truth, Member as Listed, Flag}
use Rattle.tor_terms.specs.Plain.{Form, Is, Both, Either, Tree, Walk}
use Rattle.tor_terms.specs.Same.{same_numbers}
use Rattle.tor_terms.specs.Truth.{Datum, Element, World, rows_at, all_hold, has_loop, has_loops, known_within, form_within}
use Rattle.tor_terms.specs.Value.{only_number, only_truth, elem_at, same_kind, same_row, walked, joined, inserted, first_ones, added, total, either, best, picked, not_empty, value}
use Rattle.tor_terms.specs.Worlds.{same_rows, listed_truth, flag_truth}
use Rattle.tor_terms.proofs.Identical.{both}
use Rattle.tor_axioms.proofs.Decided.{and_left, and_right}
use Rattle.kernel_lang.specs.declared.parts.Update.{Update}
use Rattle.kernel_lang.specs.declared.parts.Update.TheVariants.{Push, PushNew, Tick, Plus, Best, Mark}
use Rattle.kernel_lang.specs.Plain.{Accumulator, Fragment}
use Rattle.kernel_lang.specs.Pools.{Member}
use Rattle.kernel_lang.specs.Postcondition.{loops_of, nest_walks, body, start_term, whole, flag_by_choice, with_choices}
use Rattle.kernel_lang.specs.Running.{Layer, outside, inside, placed, passes, started}
use Rattle.kernel_lang.specs.Validity.{is_mark, is_flag, flags_are_flags, guard_all}
use Rattle.kernel_lang.proofs.EndSets.{same_cells-true, same_cells-self}
use Rattle.kernel_lang.proofs.Listing.{and_three, some_eq}
use Rattle.vc_gen.proofs.Alike.{at, AtomAgrees, FlagsAgree, form_same}
use Rattle.vc_gen.proofs.Flags.{GuardsAgree, same_run, loops_append, same_numbers-true}
use Rattle.vc_gen.proofs.Levels.{AllPass, among_current}
use Rattle.vc_gen.proofs.Reading.{flag_named}
use Rattle.vc_gen.proofs.Scope.{Chain}
use Rattle.vc_gen.proofs.Tables.{EndsAt}
use Rattle.vc_gen.proofs.Tuples.{In, Of, of_row, walked_of, walks_of}
use Rattle.vc_gen.proofs.Uses.{AllCurrent}

-- ---- the same rows

same_kind-true : (k l : Kind) → same_kind k l ≡ true → k ≡ l
same_kind-true Plain Plain h = refl
same_kind-true (Table m) (Table n) h = ap Table (eqb-true m n h)
same_kind-true _ _ h = absurd cc

same_kind-self : (k : Kind) → same_kind k k ≡ true
same_kind-self Plain = refl
same_kind-self (Table m) = eq-eqb m m refl

abbrev row : Kind → List Scalar → Row
row k xs = record { kind = k; cells = xs }

same_row-true : (r s : Row) → same_row r s ≡ true → r ≡ s
same_row-true r s h = both row (same_kind r.kind s.kind) (same_cells r.cells s.cells) h (same_kind-true r.kind s.kind) (same_cells-true r.cells s.cells)

same_row-self : (r : Row) → same_row r r ≡ true
same_row-self r = ap₂ (λ a b. a && b) (same_kind-self r.kind) (same_cells-self r.cells)

same_rows-true : (rs ss : List Row) → same_rows rs ss ≡ true → rs ≡ ss
same_rows-true [] [] h = refl
same_rows-true (r ∷ rs) (s ∷ ss) h = both (λ a b. a ∷ b) (same_row r s) (same_rows rs ss) h (same_row-true r s) (same_rows-true rs ss)
same_rows-true _ _ h = absurd cc

same_rows-self : (rs : List Row) → same_rows rs rs ≡ true
same_rows-self [] = refl
same_rows-self (r ∷ rs) = ap₂ (λ a b. a && b) (same_row-self r) (same_rows-self rs)

-- ---- a truth that is listed

abbrev Among : {X : Type 0} → List X → X → Type 0
Among [] x = ⊥
Among (y ∷ ys) x = (y ≡ x) ⊎ Among ys x

truth_listed : (g : List Row → Bool) (cs : List (List Row)) (x : List Row) → Among cs x → listed_truth cs (map g cs) x ≡ g x
truth_listed g [] x h = absurd h
truth_listed g (c ∷ cs) x h = go (same_rows c x) refl h (truth_listed g cs x)
  where
    go : (b : Bool) → same_rows c x ≡ b → (c ≡ x) ⊎ Among cs x → (Among cs x → listed_truth cs (map g cs) x ≡ g x) → cond b (g c) (listed_truth cs (map g cs) x) ≡ g x
    go true e h ih = ap g (same_rows-true c x e)
    go false e h ih = elim h [ inl d ↦ (let k : same_rows c x ≡ true = ap (λ y. same_rows y x) d ∙ same_rows-self x in absurd cc) | inr k ↦ ih k ]

among_left : {X : Type 0} (xs ys : List X) (x : X) → Among xs x → Among (xs ++ ys) x
among_left [] ys x h = absurd h
among_left (y ∷ xs) ys x h = elim h [ inl e ↦ inl e | inr k ↦ inr (among_left xs ys x k) ]

among_right : {X : Type 0} (xs ys : List X) (x : X) → Among ys x → Among (xs ++ ys) x
among_right [] ys x h = h
among_right (y ∷ xs) ys x h = inr (among_right xs ys x h)

among_map : {X Y : Type 0} (g : X → Y) (xs : List X) (x : X) → Among xs x → Among (map g xs) (g x)
among_map g [] x h = absurd h
among_map g (y ∷ xs) x h = elim h [ inl e ↦ inl (ap g e) | inr k ↦ inr (among_map g xs x k) ]

among_flat : {X Y : Type 0} (g : X → List Y) (xs : List X) (k : ℕ) (x : X) (y : Y) → slice_get xs k ≡ Some x → Among (g x) y → Among (flat_map g xs) y
among_flat g [] k x y e h = absurd cc
among_flat g (z ∷ xs) zero x y e h = let d : z ≡ x = some_eq z x e in among_left (g z) (flat_map g xs) y (subst (λ u. Among (g u) y) (sym d) h)
among_flat g (z ∷ xs) (suc k) x y e h = among_right (g z) (flat_map g xs) y (among_flat g xs k x y e h)

-- a choice of rows from lists is among all
among_choices : (lists : ℕ → List Row) (c : ℕ → Row) (ls : List ℕ) → AllByRecursion (λ j. In lists j (c j)) ls → Among (choices (map lists ls)) (map c ls)
among_choices lists c [] h = inl refl
among_choices lists c (j ∷ js) h =
    among_flat (λ x. map (λ rs. x ∷ rs) (choices (map lists js))) (lists j) h.0.0 (c j) (map c (j ∷ js)) h.0.1
    (among_map (λ rs. c j ∷ rs) (choices (map lists js)) (map c js) (among_choices lists c js h.1))

filter_same : (P : Datum → Type 0) (p q : Datum → Bool) → ((x : Datum) → P x → p x ≡ q x) → (xs : List Datum) → AllByRecursion P xs → filter p xs ≡ filter q xs
filter_same P p q h [] k = refl
filter_same P p q h (x ∷ xs) k = ap₂ (λ b r. cond b (x ∷ r) r) (h x k.0) (filter_same P p q h xs k.1)

-- ---- tables

module _ (f : Fragment) (w : World) (ms : List Member) where
  abbrev loops_for : Member → List ℕ
  loops_for m = take m.0.base m.0.chain

  abbrev table_for : Member → FlagTable
  table_for m = record { rows = choices (map w.lists (loops_for m)); truths = map (flag_by_choice f w (Some m)) (choices (map w.lists (loops_for m))) }

  abbrev pub tables : List FlagTable
  tables = map table_for ms

  abbrev by_choice : ℕ → List Row → Bool
  by_choice k rows = flag_by_choice f w (slice_get ms k) rows

  abbrev by_table : ℕ → List Row → Bool
  by_table k = flag_truth (slice_get tables k)

  abbrev choosing : World
  choosing = record w { flags = by_choice }

  abbrev pub tabled : World
  tabled = record w { flags = by_table }

  module _ (flags : flags_are_flags f ≡ true) (there : (k : ℕ) (a : Accumulator) → slice_get f.accs k ≡ Some a → (fs : List Form) × (slice_get ms k ≡ Some (a, fs))) where
    module _ (rows : ℕ → Row) (ls : List ℕ) (listed : (j : ℕ) → has_loop ls j ≡ true → In w.lists j (rows j)) where
      all_listed : (own : List ℕ) → has_loops ls own ≡ true → AllByRecursion (λ j. In w.lists j (rows j)) own
      all_listed [] h = tt
      all_listed (j ∷ js) h = (listed j (and_left (has_loop ls j) (has_loops ls js) h), all_listed js (and_right (has_loop ls j) (has_loops ls js) h))

      table_right : (k : ℕ) (loops : List ℕ) → has_loops ls loops ≡ true → (o : Option Accumulator) → slice_get f.accs k ≡ o → is_flag loops o ≡ true → by_choice k (map rows loops) ≡ by_table k (map rows loops)
      table_right k loops h None e d = absurd cc
      table_right k loops h (Some a) e d =
          let named = and_three (is_mark a.update) (nat_lt 0 a.base) (same_numbers loops (take a.base a.chain)) d in
          let places : loops ≡ take a.base a.chain = same_numbers-true loops (take a.base a.chain) named.2 in
          let m = there k a e in
          let among : Among (choices (map w.lists (take a.base a.chain))) (map rows loops) = subst (λ own. Among (choices (map w.lists own)) (map rows loops)) places (among_choices w.lists rows loops (all_listed loops h)) in
          ap (λ x. flag_by_choice f w x (map rows loops)) m.1
          ∙ sym (truth_listed (flag_by_choice f w (Some (a, m.0))) (choices (map w.lists (take a.base a.chain))) (map rows loops) among)
          ∙ sym (ap (λ x. flag_truth x (map rows loops)) (slice_get-map table_for ms k ∙ ap (option_map table_for) m.1))

      atom_right : (n : ℕ) (o : Option Atom) → slice_get f.atoms n ≡ o → known_within ls o ≡ true → AtomAgrees choosing tabled refl refl f.atoms rows o
      atom_right n None e h = tt
      atom_right n (Some (Less a b)) e h = tt
      atom_right n (Some (Same a b)) e h = tt
      atom_right n (Some (Truth a)) e h = tt
      atom_right n (Some (Listed a q)) e h = tt
      atom_right n (Some (Flag k loops)) e h = table_right k loops h (slice_get f.accs k) refl (flag_named f k loops n e flags)

      form_right : (g : Form) → form_within f.atoms ls g ≡ true → FlagsAgree choosing tabled refl refl f.atoms rows g
      form_right (Is n s) h = atom_right n (slice_get f.atoms n) refl h
      form_right (Both g d) h = (form_right g (and_left (form_within f.atoms ls g) (form_within f.atoms ls d) h), form_right d (and_right (form_within f.atoms ls g) (form_within f.atoms ls d) h))
      form_right (Either g d) h = (form_right g (and_left (form_within f.atoms ls g) (form_within f.atoms ls d) h), form_right d (and_right (form_within f.atoms ls g) (form_within f.atoms ls d) h))

      guard_right : (o : Option Form) → guard_all (form_within f.atoms ls) o ≡ true → passes choosing f.atoms rows o ≡ passes tabled f.atoms rows o
      guard_right None h = refl
      guard_right (Some g) h = form_same choosing tabled refl refl f.atoms rows g (form_right g h)

      all_right : (turns : ℕ → ℕ) (c : ℕ → Row) (held : ℕ → List Datum) (fs : List Form) → list_all (form_within f.atoms ls) fs ≡ true → all_hold (at choosing turns c held) f.atoms rows fs ≡ all_hold (at tabled turns c held) f.atoms rows fs
      all_right turns c held [] h = refl
      all_right turns c held (g ∷ gs) h =
          ap₂ (λ x y. x && y) (form_same (at choosing turns c held) (at tabled turns c held) refl refl f.atoms rows g (agree g (and_left (form_within f.atoms ls g) (list_all (form_within f.atoms ls) gs) h)))
          (all_right turns c held gs (and_right (form_within f.atoms ls g) (list_all (form_within f.atoms ls) gs) h))
        where
          atom : (n : ℕ) (o : Option Atom) → AtomAgrees choosing tabled refl refl f.atoms rows o → AtomAgrees (at choosing turns c held) (at tabled turns c held) refl refl f.atoms rows o
          atom n None k = tt
          atom n (Some (Less a b)) k = tt
          atom n (Some (Same a b)) k = tt
          atom n (Some (Truth a)) k = tt
          atom n (Some (Listed a q)) k = tt
          atom n (Some (Flag i loops)) k = k

          agree : (d : Form) → form_within f.atoms ls d ≡ true → FlagsAgree (at choosing turns c held) (at tabled turns c held) refl refl f.atoms rows d
          agree (Is n s) k = atom n (slice_get f.atoms n) (atom_right n (slice_get f.atoms n) refl k)
          agree (Both d e) k = (agree d (and_left (form_within f.atoms ls d) (form_within f.atoms ls e) k), agree e (and_right (form_within f.atoms ls d) (form_within f.atoms ls e) k))
          agree (Either d e) k = (agree d (and_left (form_within f.atoms ls d) (form_within f.atoms ls e) k), agree e (and_right (form_within f.atoms ls d) (form_within f.atoms ls e) k))

    guards_right : (ys before : List Layer) → Chain f.atoms (loops_of before) ys → GuardsAgree w f.atoms by_choice by_table before ys
    guards_right [] before chain = tt
    guards_right (y ∷ ys) before chain = (
      λ turns rows now pass.
          guard_right rows (loops_of before ++ y.over ∷ []) (λ j h. let k = among_current (at choosing turns rows w.held) j (loops_of before ++ y.over ∷ []) (subst (AllCurrent (at choosing turns rows w.held)) (loops_append before y) now) h in (turns j, k.row)) y.guard chain.1,
      guards_right ys (before ++ y ∷ []) (subst (λ ls. Chain f.atoms ls ys) (sym (loops_append before y)) chain.2),
    )

    -- ---- values

    module _ (turns : ℕ → ℕ) (c : ℕ → Row) (held : ℕ → List Datum) where
      abbrev one : World
      one = at choosing turns c held

      abbrev other : World
      other = at tabled turns c held

      nest_same : (j : ℕ) (inner : List ℕ) → value one f.atoms (nest_walks (Walk j) inner) ≡ value other f.atoms (nest_walks (Walk j) inner)
      nest_same j [] = refl
      nest_same j (k ∷ ks) = ap (joined (walked j (w.lists j))) (nest_same k ks)

      kept_same : (fs : List Form) (j : ℕ) (inner : List ℕ) → list_all (form_within f.atoms (j ∷ inner)) fs ≡ true → value one f.atoms (body fs [] (Walk j) inner) ≡ value other f.atoms (body fs [] (Walk j) inner)
      kept_same fs j inner h =
          filter_same (Of w.lists (j ∷ inner)) (λ x. all_hold one f.atoms (rows_at c x) fs) (λ x. all_hold other f.atoms (rows_at c x) fs)
          (λ x k. all_right (rows_at c x) (j ∷ inner) (λ i d. of_row w.lists c (j ∷ inner) x i k d) turns c held fs h) (value one f.atoms (nest_walks (Walk j) inner))
          (walks_of one f.atoms j (Walk j) (walked_of w.lists j) inner)
          ∙ ap (filter (λ x. all_hold other f.atoms (rows_at c x) fs)) (nest_same j inner)

      start_same : (o : Option Scalar) → value one f.atoms (start_term o) ≡ value other f.atoms (start_term o)
      start_same None = refl
      start_same (Some x) = refl

      whole_agrees : (u : Update) (fs : List Form) (a : Tree) → value one f.atoms a ≡ value other f.atoms a → (ys : List Layer) → list_all (form_within f.atoms (loops_of ys)) fs ≡ true → value one f.atoms (whole u fs [] a ys) ≡ value other f.atoms (whole u fs [] a ys)
      whole_agrees (Push d) fs a e [] h = ap (λ v. v ++ Element (elem_at c d) ∷ []) e
      whole_agrees (PushNew d) fs a e [] h = ap (λ v. inserted v (Element (elem_at c d))) e
      whole_agrees Tick fs a e [] h = ap (λ v. added v (only_number (pos 1))) e
      whole_agrees (Plus d) fs a e [] h = ap (λ v. added v (Element (elem_at c d) ∷ [])) e
      whole_agrees (Best way d) fs a e [] h = ap (λ v. picked way v (Element (elem_at c d) ∷ [])) e
      whole_agrees Mark fs a e [] h = refl
      whole_agrees (Push d) fs a e (y ∷ ys) h = ap₂ (λ p q. p ++ map (λ x. Element (elem_at (rows_at c x) d)) q) e (kept_same fs y.over (loops_of ys) h)
      whole_agrees (PushNew d) fs a e (y ∷ ys) h = ap (λ q. first_ones [] (map (λ x. Element (elem_at (rows_at c x) d)) q)) (kept_same fs y.over (loops_of ys) h)
      whole_agrees Tick fs a e (y ∷ ys) h = ap₂ (λ p q. added p (only_number (pos (length q)))) e (kept_same fs y.over (loops_of ys) h)
      whole_agrees (Plus d) fs a e (y ∷ ys) h = ap₂ (λ p q. added p (total (map (λ x. Element (elem_at (rows_at c x) d)) q))) e (kept_same fs y.over (loops_of ys) h)
      whole_agrees (Best way d) fs a e (y ∷ ys) h = ap₂ (λ p q. best way p (map (λ x. Element (elem_at (rows_at c x) d)) q)) e (kept_same fs y.over (loops_of ys) h)
      whole_agrees Mark fs a e (y ∷ ys) h = ap₂ (λ p q. either p (only_truth (not_empty q))) e (kept_same fs y.over (loops_of ys) h)

    -- an accumulator outside all loops ends with the flags by their choices as it does with their tables
    pub choosing_ends : (m : Member) → outside m.0 ≡ [] → Chain f.atoms [] (inside m.0) → list_all (form_within f.atoms (loops_of (inside m.0))) m.1 ≡ true → EndsAt tabled f.atoms m → EndsAt (with_choices f ms w) f.atoms m
    choosing_ends m none chain forms ends = λ turns ls rs now pass.
        same_run w f.atoms by_choice by_table m.0.update (inside m.0) [] chain (guards_right (inside m.0) [] chain) turns (placed ls rs) tt tt (started m.0.start)
        ∙ ends turns ls rs (subst (λ zs. AllCurrent (at tabled turns (placed ls rs) w.held) (loops_of zs)) (sym none) tt) (subst (AllPass tabled f.atoms (placed ls rs)) (sym none) tt)
        ∙ sym (subst (λ zs. value (at choosing turns (placed ls rs) w.held) f.atoms (whole m.0.update m.1 (loops_of zs) (start_term m.0.start) (inside m.0)) ≡ value (at tabled turns (placed ls rs) w.held) f.atoms (whole m.0.update m.1 (loops_of zs) (start_term m.0.start) (inside m.0))) (sym none)
        (whole_agrees turns (placed ls rs) w.held m.0.update m.1 (start_term m.0.start) (start_same turns (placed ls rs) w.held m.0.start) (inside m.0) forms))
