-- The tests of known lists in a lowered fragment: what is tested has the type of the column of the list's query.
use Rattle.std.proofs.Common.{◌≡◌, ℕ, zero, suc, true, List, [], ◌∷◌, map, Some, refl, sym, ap, ◌∙◌, subst, slice_get}
use Rattle.std.specs.List.{AllByRecursion, list_all}
use Rattle.sql_ast.specs.Tree.{Listing}
use Rattle.sql_ast.specs.Typing.{ty_of_col}
use Rattle.kernel_lang.specs.Typed.{atom_is_typed}
use Rattle.tor_terms.specs.declared.term.Atom.{Atom}
use Rattle.tor_terms.specs.declared.term.Atom.TheVariants as atoms
use Rattle.java_ast.specs.Names.{Names}
use Rattle.java_loops.specs.Walks.ChainStarts.{StandsForCondition}
use Rattle.java_loops.specs.Kernel.Kernel.{lowering}
use Rattle.java_loops.specs.Kernel.Setting.{Setting}
use Rattle.java_loops.specs.Lowering.Numbering.{known_of, numbers_of}
use Rattle.java_loops.proofs.Numbers.Numberings.{type_of_members, numbering}
use Rattle.java_loops.proofs.Typing.TypedMembers.{MemberTyped, members_typed}
use Rattle.java_loops.proofs.Valid.ValidVisits.{all_weaker}
use Rattle.sql_parts.specs.Emitted.{item_col}
use Rattle.sql_parts.specs.Given.{known_type, MemberFits}
use Rattle.lowering.specs.Asked.{queries_in}
use Rattle.lowering.proofs.Known.KnownList.{query_for, IsKnownHere}

-- ---- The query of a known list by its number

mapped_from : {A B : Type 0} (f : A → B) (xs : List A) (k : ℕ) (y : B) → slice_get (map f xs) k ≡ Some y → (x : A) × (slice_get xs k ≡ Some x) × (f x ≡ y)
mapped_from f [] k y h = absurd cc
mapped_from f (x ∷ xs) zero y h = (x, refl, let l : Some (f x) ≡ Some y = h in cc)
mapped_from f (x ∷ xs) (suc k) y h = mapped_from f xs k y h

record IsNumbered (w : Setting) (xs : Names) (q : ℕ) (x : List ℕ) : Type 0 where
  here : IsKnownHere w x
  there : slice_get (queries_in (map (query_for w) xs)) q ≡ Some (Listing here.listing)

query_there : (w : Setting) (xs : Names) → AllByRecursion (IsKnownHere w) xs → (q : ℕ) (x : List ℕ) → slice_get xs q ≡ Some x → IsNumbered w xs q x
query_there w [] h q x e = absurd cc
query_there w (y ∷ ys) h zero x e =
    let same : y ≡ x = (let l : Some y ≡ Some x = e in cc) in
    subst (λ z. IsNumbered w (y ∷ ys) zero z) same (record { here = h.0; there = ap (λ o. slice_get (queries_in (o ∷ map (query_for w) ys)) zero) h.0.is })
query_there w (y ∷ ys) h (suc q) x e =
    let k : IsNumbered w ys q x = query_there w ys h.1 q x e in
    record { here = k.here; there = ap (λ o. slice_get (queries_in (o ∷ map (query_for w) ys)) (suc q)) h.0.is ∙ k.there }

test_fits : (w : Setting) → AllByRecursion (IsKnownHere w) (known_of w) → (a : Atom) → MemberTyped w a → MemberFits w.schema (lowering w).fragment (queries_in (map (query_for w) (known_of w))) a
test_fits w all (atoms.Member a q) h =
    let m = mapped_from (λ x. type_of_members (w.types x)) (known_of w) q h.type h.known in
    let k : IsNumbered w (known_of w) q m.0 = query_there w (known_of w) all q m.0 m.1 in
    let type : known_type w.schema (slice_get (queries_in (map (query_for w) (known_of w))) q) ≡ Some h.type =
    ap (known_type w.schema) k.there ∙ ap (λ i. ty_of_col w.schema k.here.listing.from (item_col i)) k.here.item ∙ k.here.column ∙ ap Some m.2 in
    h.is ∙ sym type
test_fits w all (atoms.Less a b) h = tt
test_fits w all (atoms.Same a b) h = tt
test_fits w all (atoms.Truth a) h = tt
test_fits w all (atoms.Flag k loops) h = tt

-- The tests fit, where the atoms stand for conditions and are typed.
pub tests_fit : (w : Setting) → AllByRecursion (IsKnownHere w) (known_of w) → AllByRecursion (StandsForCondition (numbering w)) (numbers_of w).atoms → list_all (atom_is_typed w.schema (lowering w).fragment) (numbers_of w).atoms ≡ true → AllByRecursion (MemberFits w.schema (lowering w).fragment (queries_in (map (query_for w) (known_of w)))) (numbers_of w).atoms
tests_fit w all stand typed =
    all_weaker (MemberTyped w) (MemberFits w.schema (lowering w).fragment (queries_in (map (query_for w) (known_of w)))) (numbers_of w).atoms (test_fits w all) (members_typed w stand typed)
