-- A rule at a path keeps the value of the whole.
use Rattle.std.proofs.Common.{◌≡◌, ℕ, List, [], ◌++◌, map, take, length, sym, ap, subst, pos}
use Rattle.std.specs.Prelude.{IfOk, IfSome, Result, Ok, Err}
use Rattle.std.specs.List.{filter}
use Rattle.std.specs.Option.{option_map}
use Rattle.std.specs.declared.option.Option.{Option}
use Rattle.std.specs.declared.option.Option.TheVariants.{Some, None}
use Rattle.tor_terms.specs.declared.term.Atom.{Atom}
use Rattle.tor_terms.specs.declared.term.Term.{Term}
use Rattle.tor_terms.specs.Plain.{Tree, tree_of}
use Rattle.tor_terms.specs.Truth.{World, Element, rows_at, all_hold}
use Rattle.tor_terms.specs.Value.{only_number, only_truth, elem_at, joined, count_of, inserted, first_ones, added, total, either, picked, best, not_empty, value}
use Rattle.tor_axioms.specs.declared.facts.Literal.{Literal}
use Rattle.tor_axioms.specs.Decide.{Satisfied}
use Rattle.tor_axioms.specs.Rules.{rules, at_head}
use Rattle.tor_axioms.specs.Paths.{within, applied}
use Rattle.tor_axioms.specs.Keeps.{IsReady, Keeps, KeepsValue}
use Rattle.tor_axioms.proofs.Places.{Place, InTop, CatLeft, CatRight, JoinLeft, JoinRight, InSel, InProj, InUniq, InInsert, InCount, InSum, InAny, BestLeft, BestRight, PickLeft, PickRight, AddLeft, AddRight, OrLeft, OrRight, put, IsLocal, at_each_path, at_each_rule}
use Rattle.tor_axioms.proofs.Sound.{each_keeps}

module _ (w : World) (atoms : List Atom) where
  -- the value of a term counts by the value of its child
  pub same_at : (place : Place) (r u : Tree) → value w atoms u ≡ value w atoms r → value w atoms (put place u) ≡ value w atoms (put place r)
  same_at (InTop index) r u e = ap (take (count_of w index)) e
  same_at (CatLeft s) r u e = ap (λ x. x ++ value w atoms s) e
  same_at (CatRight s) r u e = ap (λ x. value w atoms s ++ x) e
  same_at (JoinLeft s) r u e = ap (λ x. joined x (value w atoms s)) e
  same_at (JoinRight s) r u e = ap (joined (value w atoms s)) e
  same_at (InSel fs) r u e = ap (filter (λ x. all_hold w atoms (rows_at w.current x) fs)) e
  same_at (InProj d) r u e = ap (map (λ x. Element (elem_at (rows_at w.current x) d))) e
  same_at InUniq r u e = ap (first_ones []) e
  same_at (InInsert d) r u e = ap (λ x. inserted x (Element (elem_at w.current d))) e
  same_at InCount r u e = ap (λ x. only_number (pos (length x))) e
  same_at InSum r u e = ap total e
  same_at InAny r u e = ap (λ x. only_truth (not_empty x)) e
  same_at (BestLeft way s) r u e = ap (λ x. best way x (value w atoms s)) e
  same_at (BestRight way s) r u e = ap (best way (value w atoms s)) e
  same_at (PickLeft way s) r u e = ap (λ x. picked way x (value w atoms s)) e
  same_at (PickRight way s) r u e = ap (picked way (value w atoms s)) e
  same_at (AddLeft s) r u e = ap (λ x. added x (value w atoms s)) e
  same_at (AddRight s) r u e = ap (added (value w atoms s)) e
  same_at (OrLeft s) r u e = ap (λ x. either x (value w atoms s)) e
  same_at (OrRight s) r u e = ap (either (value w atoms s)) e

  -- a world is ready for a term where it is for its parts
  pub ready_in : (place : Place) (r : Tree) → IsReady w (put place r) → IsReady w r
  ready_in (InTop index) r h = h.1
  ready_in (CatLeft s) r h = h.0
  ready_in (CatRight s) r h = h.1
  ready_in (JoinLeft s) r h = h.0
  ready_in (JoinRight s) r h = h.1
  ready_in (InSel fs) r h = h
  ready_in (InProj e) r h = h
  ready_in InUniq r h = h
  ready_in (InInsert e) r h = h
  ready_in InCount r h = h
  ready_in InSum r h = h
  ready_in InAny r h = h
  ready_in (BestLeft way s) r h = h.0
  ready_in (BestRight way s) r h = h.1
  ready_in (PickLeft way s) r h = h.0
  ready_in (PickRight way s) r h = h.1
  ready_in (AddLeft s) r h = h.0
  ready_in (AddRight s) r h = h.1
  ready_in (OrLeft s) r h = h.0
  ready_in (OrRight s) r h = h.1

  pub ready_with : (place : Place) (r u : Tree) → IsReady w (put place r) → IsReady w u → IsReady w (put place u)
  ready_with (InTop index) r u h k = (h.0, k)
  ready_with (CatLeft s) r u h k = (k, h.1)
  ready_with (CatRight s) r u h k = (h.0, k)
  ready_with (JoinLeft s) r u h k = (k, h.1)
  ready_with (JoinRight s) r u h k = (h.0, k)
  ready_with (InSel fs) r u h k = k
  ready_with (InProj e) r u h k = k
  ready_with InUniq r u h k = k
  ready_with (InInsert e) r u h k = k
  ready_with InCount r u h k = k
  ready_with InSum r u h k = k
  ready_with InAny r u h k = k
  ready_with (BestLeft way s) r u h k = (k, h.1)
  ready_with (BestRight way s) r u h k = (h.0, k)
  ready_with (PickLeft way s) r u h k = (k, h.1)
  ready_with (PickRight way s) r u h k = (h.0, k)
  ready_with (AddLeft s) r u h k = (k, h.1)
  ready_with (AddRight s) r u h k = (h.0, k)
  ready_with (OrLeft s) r u h k = (k, h.1)
  ready_with (OrRight s) r u h k = (h.0, k)

  keeps_at : (place : Place) (r : Tree) (o : Option Tree) → Keeps w atoms r o → Keeps w atoms (put place r) (within (put place) o)
  keeps_at place r None h = tt
  keeps_at place r (Some u) h = λ ready.
      let k = h (ready_in place r ready) in
      record { same = same_at place r u k.same; ready = ready_with place r u ready k.ready }

  pub keeps_local : IsLocal (Keeps w atoms)
  keeps_local = record { none = λ t. tt; at = keeps_at }

  -- a rule at a path keeps the value
  pub applied-keeps : (facts : List Literal) → Satisfied w atoms facts → (n : ℕ) (p : List ℕ) (t : Tree) → Keeps w atoms t (applied atoms facts n p t)
  applied-keeps facts h n p t =
      at_each_path (Keeps w atoms) keeps_local (at_head atoms facts n) (at_each_rule (Keeps w atoms) keeps_local (rules atoms facts) (each_keeps w atoms facts h) n) p t

pub kept_by : {E : Type 0} (atoms : List Atom) (facts : List Literal) (n : ℕ) (p : List ℕ) (t : Tree) (r : Result (Option Term) E)
    → IfOk r (λ o. option_map tree_of o ≡ applied atoms facts n p t) → IfOk r (λ o. IfSome o (λ u. KeepsValue atoms facts t (tree_of u)))
kept_by atoms facts n p t (Ok None) e = tt
kept_by atoms facts n p t (Ok (Some u)) e = λ w h ready. subst (Keeps w atoms t) (sym e) (applied-keeps w atoms facts h n p t) ready
kept_by atoms facts n p t (Err x) e = tt
