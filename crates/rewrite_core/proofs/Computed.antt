-- The worked loops give way to their asks, computed.
use Rattle.std.proofs.Common.{◌≡◌, ℕ, true, false, codes, bytes_eq, List, [], ◌∷◌, length, Option, Some, None, refl, sym, subst, arith, is_some}
use Rattle.std.specs.Fmt.{digits}
use Rattle.std.specs.List.{AllByRecursion, IsDistinct, list_all}
use Rattle.std.proofs.lemmas.Bool.{and_parts}
use Rattle.schema.specs.Rules.{IsSchema, AreNamed}
use Rattle.tor_axioms.specs.Accepts.{Proof, Claim}
use Rattle.tor_prover.specs.Derive.{derivation_of}
use Rattle.tor_prover.specs.Normal.{normal_form}
use Rattle.tor_prover.proofs.Accepted.{derivation-accepted}
use Rattle.sql_ast.specs.Lexer.{tokens_in}
use Rattle.sql_ast.specs.Valid.{IsQueryOf}
use Rattle.sql_ast.proofs.InvertedQuery.{has_query_valid}
use Rattle.sql_ast.specs.Reader.{listed_at, atom_at, negation_in, joined_from, conjunction_at, condition_at}
use Rattle.vc_gen.specs.Conditions.{conditions}
use Rattle.vc_gen.specs.Soundness.{AllAccepted}
use Rattle.sql_parts.specs.Given.{IsHeld, QueryIsCounted}
use Rattle.sql_ast.specs.Worked.{staff_schema}
use Rattle.java_ast.specs.Tree.{SetOf, String, Long, PlainProgram}
use Rattle.java_mean.specs.Asked.{class_A_asking, class_J_asking, name_set_asking}
use Rattle.java_mean.specs.Keeps.{Keeps}
use Rattle.java_mean.specs.Queries.{Reader}
use Rattle.java_mean.specs.WellTyped.{IsWellTyped}
use Rattle.java_mean.specs.Worked.{User, Role, users, class_A, class_C, class_J, name_set}
use Rattle.java_types.specs.Texts.{read_by}
use Rattle.java_types.proofs.Found.{found_exactly}
use Rattle.java_loops.specs.Kernel.Kernel.{lowering}
use Rattle.java_loops.specs.Kernel.Worked.{program_of}
use Rattle.java_loops.specs.Meant.Asking.{AskForLoop}
use Rattle.java_loops.specs.Walks.Replacing.{Ask}
use Rattle.lowering.specs.Asked.{queries_in, IsKernelLoop, HasQueriesOf}
use Rattle.lowering.specs.AskedWorked.{asked_text, asked_query, asking}
use Rattle.rewrite_core.specs.Asked.{Place, asks_of, replaced}
use Rattle.rewrite_core.specs.Asking.{MayBeAsked}
use Rattle.rewrite_core.specs.Worked.{GivesWayTo, Worked, loop_at, giving, selection_asks, greatest_asks, class_C_asking, count_asks, names_asks, known_asks, asking_once}
use Rattle.rewrite_core.proofs.Asked.{asks_are_for_loops}
use Rattle.rewrite_core.proofs.HasAsks.{has_asks}
use Rattle.rewrite_core.proofs.May.{accepted_may, emitted_valid}
use Rattle.rewrite_core.proofs.StaysTyped.{replaced_well, loops_give_way}

-- ---- What all have

abbrev staff_reader : Reader staff_schema
staff_reader = record { read = read_by staff_schema; exact = found_exactly staff_schema }

two_distinct : (x y : List ℕ) → bytes_eq x y ≡ false → IsDistinct bytes_eq (x ∷ y ∷ [])
unfolding IsDistinct
two_distinct x y h = ((h, tt), (tt, tt))

names_distinct : IsDistinct bytes_eq (codes "id" ∷ codes "name" ∷ codes "roleId" ∷ codes "age" ∷ codes "active" ∷ [])
unfolding IsDistinct
names_distinct = ((refl, (refl, (refl, (refl, tt)))), ((refl, (refl, (refl, tt))), ((refl, (refl, tt)), ((refl, tt), (tt, tt)))))

is_schema : IsSchema staff_schema
is_schema =
    record {
      few = omega arith;
      distinct = two_distinct User Role refl;
      free = (refl, (refl, tt));
      columns = (
        record { few = omega arith; distinct = names_distinct; free = (refl, (refl, (refl, (refl, (refl, tt))))) },
        (record { few = omega arith; distinct = two_distinct (codes "id") (codes "label") refl; free = (refl, (refl, tt)) }, tt),
      );
    }

named : AreNamed staff_schema
named = record { names = (refl, (refl, tt)); columns = ((refl, (refl, (refl, (refl, (refl, tt))))), ((refl, (refl, tt)), tt)) }

some_proof : (o : Option Proof) → is_some o ≡ true → (d : Proof) × (o ≡ Some d)
some_proof (Some d) h = (d, refl)
some_proof None h = absurd cc

-- conditions that are derived have accepted derivations
derived_accepted : (cs : List Claim) → list_all (λ c. is_some (derivation_of c)) cs ≡ true → (ds : List Proof) × AllAccepted cs ds
derived_accepted [] h = ([], tt)
derived_accepted (c ∷ cs) h =
    let two = and_parts (is_some (derivation_of c)) (list_all (λ d. is_some (derivation_of d)) cs) h in
    let d = some_proof (derivation_of c) two.0 in
    let ds = derived_accepted cs two.1 in
    (d.0 ∷ ds.0, (derivation-accepted c d.0 d.1, ds.1))

-- a loop whose candidate is derived may be asked for
pub derived_may : (l : Place) → IsKernelLoop staff_schema (read_by staff_schema) l.program l.path l.setting → HasQueriesOf staff_schema (lowering l.setting) → AllByRecursion QueryIsCounted (queries_in (lowering l.setting).known) → IsHeld (lowering l.setting).fragment → list_all (λ c. is_some (derivation_of c)) (conditions (lowering l.setting).fragment l.candidate) ≡ true → MayBeAsked staff_schema (read_by staff_schema) l.program l.path l.setting l.candidate
derived_may l loop known counted held derived =
    let d = derived_accepted (conditions (lowering l.setting).fragment l.candidate) derived in
    accepted_may staff_schema (read_by staff_schema) l.program l.path l.setting l.candidate d.0 loop known (emitted_valid staff_schema (read_by staff_schema) l.program l.path l.setting l.candidate is_schema named loop known counted held) d.1

-- a loop that may be asked for gives way to its asks
pub gives_way : (l : Place) (asks : List Ask) (q : PlainProgram) → MayBeAsked staff_schema (read_by staff_schema) l.program l.path l.setting l.candidate → asks_of l ≡ asks → replaced l ≡ q → GivesWayTo l asks q
gives_way l asks q may are becomes =
    record {
      may = may;
      asks_are = are;
      answer = subst (λ ks. AskForLoop staff_schema (read_by staff_schema) l.program l.path l.setting ks) are (asks_are_for_loops staff_schema staff_reader l may);
      becomes = becomes;
      typed = subst (IsWellTyped staff_schema (read_by staff_schema)) becomes (replaced_well staff_schema staff_reader l (has_asks staff_schema (read_by staff_schema) l.program l.path l.setting l.candidate may));
      keeps = subst (λ z. Keeps l.program z staff_schema) becomes (loops_give_way staff_schema staff_reader l may);
    }

-- ---- Rows

abbrev selecting : Place
selecting = loop_at (giving users class_A) (0 ∷ 1 ∷ []) (0 ∷ [])

selection_loop : IsKernelLoop staff_schema (read_by staff_schema) (giving users class_A) (0 ∷ 1 ∷ []) selecting.setting
selection_loop = record { typed = refl; numbers = refl; there = refl; unbroken = refl }

selection_derived : list_all (λ c. is_some (derivation_of c)) (conditions (lowering selecting.setting).fragment (0 ∷ [])) ≡ true
unfolding derivation_of normal_form
selection_derived = refl

selection_held : IsHeld (lowering selecting.setting).fragment
selection_held = record { atoms_held = ((tt, refl), tt); starts_held = (tt, tt) }

selection_asked : asks_of selecting ≡ selection_asks
unfolding digits
selection_asked = refl

selection_replaced : replaced selecting ≡ giving users class_A_asking
unfolding digits
selection_replaced = refl

pub selection : GivesWayTo selecting selection_asks (giving users class_A_asking)
selection = gives_way selecting selection_asks (giving users class_A_asking) (derived_may selecting selection_loop tt tt selection_held selection_derived) selection_asked selection_replaced

-- ---- Numbers

abbrev choosing : Place
choosing = loop_at (giving Long class_C) (0 ∷ 1 ∷ []) []

greatest_loop : IsKernelLoop staff_schema (read_by staff_schema) (giving Long class_C) (0 ∷ 1 ∷ []) choosing.setting
greatest_loop = record { typed = refl; numbers = refl; there = refl; unbroken = refl }

greatest_derived : list_all (λ c. is_some (derivation_of c)) (conditions (lowering choosing.setting).fragment []) ≡ true
unfolding derivation_of normal_form
greatest_derived = refl

greatest_held : IsHeld (lowering choosing.setting).fragment
greatest_held = record { atoms_held = tt; starts_held = (refl, tt) }

greatest_asked : asks_of choosing ≡ greatest_asks
unfolding digits
greatest_asked = refl

greatest_replaced : replaced choosing ≡ giving Long class_C_asking
unfolding digits
greatest_replaced = refl

pub greatest : GivesWayTo choosing greatest_asks (giving Long class_C_asking)
greatest = gives_way choosing greatest_asks (giving Long class_C_asking) (derived_may choosing greatest_loop tt tt greatest_held greatest_derived) greatest_asked greatest_replaced

-- ---- A number with an entry value

abbrev counting : Place
counting = loop_at (program_of class_J) (0 ∷ 0 ∷ 0 ∷ 1 ∷ []) (0 ∷ [])

count_loop : IsKernelLoop staff_schema (read_by staff_schema) (program_of class_J) (0 ∷ 0 ∷ 0 ∷ 1 ∷ []) counting.setting
count_loop = record { typed = refl; numbers = refl; there = refl; unbroken = refl }

count_derived : list_all (λ c. is_some (derivation_of c)) (conditions (lowering counting.setting).fragment (0 ∷ [])) ≡ true
unfolding derivation_of normal_form
count_derived = refl

count_held : IsHeld (lowering counting.setting).fragment
count_held = record { atoms_held = ((tt, tt), tt); starts_held = (refl, tt) }

count_asked : asks_of counting ≡ count_asks
unfolding digits
count_asked = refl

count_replaced : replaced counting ≡ program_of class_J_asking
unfolding digits
count_replaced = refl

pub count : GivesWayTo counting count_asks (program_of class_J_asking)
count = gives_way counting count_asks (program_of class_J_asking) (derived_may counting count_loop tt tt count_held count_derived) count_asked count_replaced

-- ---- Sets

abbrev naming : Place
naming = loop_at (giving (SetOf String) name_set) (0 ∷ 1 ∷ []) []

set_loop : IsKernelLoop staff_schema (read_by staff_schema) (giving (SetOf String) name_set) (0 ∷ 1 ∷ []) naming.setting
set_loop = record { typed = refl; numbers = refl; there = refl; unbroken = refl }

set_derived : list_all (λ c. is_some (derivation_of c)) (conditions (lowering naming.setting).fragment []) ≡ true
unfolding derivation_of normal_form
set_derived = refl

set_held : IsHeld (lowering naming.setting).fragment
set_held = record { atoms_held = tt; starts_held = (tt, tt) }

set_asked : asks_of naming ≡ names_asks
unfolding digits
set_asked = refl

set_replaced : replaced naming ≡ giving (SetOf String) name_set_asking
unfolding digits
set_replaced = refl

pub set : GivesWayTo naming names_asks (giving (SetOf String) name_set_asking)
set = gives_way naming names_asks (giving (SetOf String) name_set_asking) (derived_may naming set_loop tt tt set_held set_derived) set_asked set_replaced

-- ---- Known lists

abbrev knowing : Place
knowing = loop_at asking (0 ∷ 2 ∷ []) (0 ∷ [])

known_loop : IsKernelLoop staff_schema (read_by staff_schema) asking (0 ∷ 2 ∷ []) knowing.setting
unfolding tokens_in listed_at atom_at negation_in joined_from conjunction_at condition_at
known_loop = record { typed = refl; numbers = refl; there = refl; unbroken = refl }

known_queries : queries_in (lowering knowing.setting).known ≡ asked_query ∷ []
unfolding tokens_in listed_at atom_at negation_in joined_from conjunction_at condition_at
known_queries = refl

asked_valid : IsQueryOf staff_schema asked_query
unfolding tokens_in listed_at atom_at negation_in joined_from conjunction_at condition_at
asked_valid =
    let many : length asked_text ≡ 58 = refl in
    has_query_valid staff_schema asked_text asked_query (omega (arith, many)) ((found_exactly staff_schema asked_text asked_query).0 refl)

known_derived : list_all (λ c. is_some (derivation_of c)) (conditions (lowering knowing.setting).fragment (0 ∷ [])) ≡ true
unfolding derivation_of normal_form
known_derived = refl

known_held : IsHeld (lowering knowing.setting).fragment
known_held = record { atoms_held = (tt, tt); starts_held = (tt, tt) }

known_asked : asks_of knowing ≡ known_asks
unfolding digits tokens_in listed_at atom_at negation_in joined_from conjunction_at condition_at
known_asked = refl

known_replaced : replaced knowing ≡ asking_once
unfolding digits tokens_in listed_at atom_at negation_in joined_from conjunction_at condition_at
known_replaced = refl

pub known : GivesWayTo knowing known_asks asking_once
known =
    gives_way knowing known_asks asking_once
    (derived_may knowing known_loop (subst (AllByRecursion (IsQueryOf staff_schema)) (sym known_queries) (asked_valid, tt)) (subst (AllByRecursion QueryIsCounted) (sym known_queries) ((omega arith, tt), tt)) known_held known_derived)
    known_asked known_replaced

pub worked : Worked
worked = record { selection = selection; greatest = greatest; count = count; set = set; known = known }
