-- A way round leads from a method to itself.
use Rattle.std.proofs.Common.{◌≡◌, ℕ, suc, zero, List, [], ◌∷◌, Bool, true, false, ◌&&◌, ◌||◌, refl, sym, ap, ◌∙◌, subst, Option, Some, None, slice_get, nat_eq, arith}
use Rattle.std.specs.Prelude.{IsTrue}
use Rattle.std.specs.List.{list_any}
use Rattle.std.proofs.lemmas.Bool.Decides.{nat_tests}
use Rattle.call_rules.specs.declared.notes.Noted.{Noted}
use Rattle.call_rules.specs.Cycles.{Calls, Leads, directly, through, is_number, calls_it, some_call, is_edge, leads_round}

-- a call of the method j among some calls
record CallAmong (j : ℕ) (l : List Noted) : Type 0 where
  number : ℕ
  note : Noted
  noted : slice_get l number ≡ Some note
  callee : note.callee ≡ Some j

number_is : (j : ℕ) (o : Option ℕ) → is_number j o ≡ true → o ≡ Some j
number_is j (Some k) e = let s : k ≡ j = grind (arith, nat_tests) in ap Some s
number_is j None e = absurd cc

behind : (j : ℕ) (c : Noted) (l : List Noted) → CallAmong j l → CallAmong j (c ∷ l)
behind j c l a = record { number = suc a.number; note = a.note; noted = a.noted; callee = a.callee }

among_by : (j : ℕ) (c : Noted) (l : List Noted) (b : Bool) → calls_it j c ≡ b → (list_any (calls_it j) l ≡ true → CallAmong j l) → b || list_any (calls_it j) l ≡ true → CallAmong j (c ∷ l)
among_by j c l true is h e = record { number = 0; note = c; noted = refl; callee = number_is j c.callee is }
among_by j c l false is h e = behind j c l (h e)

among : (j : ℕ) (l : List Noted) → list_any (calls_it j) l ≡ true → CallAmong j l
among j [] e = absurd cc
among j (c ∷ l) e = among_by j c l (calls_it j c) refl (among j l) e

edge_by : (calls : List (List Noted)) (i j : ℕ) (o : Option (List Noted)) → slice_get calls i ≡ o → some_call j o ≡ true → Calls calls i j
edge_by calls i j None is e = absurd cc
edge_by calls i j (Some l) is e = let a = among j l e in record { list = l; there = is; number = a.number; note = a.note; noted = a.noted; callee = a.callee }

edge : (calls : List (List Noted)) (i j : ℕ) → is_edge calls i j ≡ true → Calls calls i j
edge calls i j e = edge_by calls i j (slice_get calls i) refl e

both_by : (b c : Bool) → b && c ≡ true → (b ≡ true) × (c ≡ true)
both_by true true e = (refl, refl)
both_by true false e = absurd cc
both_by false c e = absurd cc

pub leads : (calls : List (List Noted)) (i : ℕ) (way : List ℕ) (to : ℕ) → leads_round calls i way to ≡ true → Leads calls i to
leads calls i [] to e = directly i to (edge calls i to e)
leads calls i (j ∷ js) to e = let p = both_by (is_edge calls i j) (leads_round calls j js to) e in through i j to (edge calls i j p.0) (leads calls j js to p.1)
