-- Members of lists without repetition have numbers.
use Rattle.std.proofs.Common.{◌≡◌, ℕ, suc, ◌<◌, Bool, true, false, ◌||◌, List, [], ◌∷◌, ◌++◌, length, Some, refl, sym, ap, ◌∙◌, cond, slice_get, nat_eq}
use Rattle.std.specs.List.{AllByRecursion, list_any}
use Rattle.std.proofs.lemmas.Bool.{and_parts, or_left, or_right, eq-eqb, eqb-true}
use Rattle.std.proofs.lemmas.List.Folds.{list_any-append}
use Rattle.std.proofs.lemmas.Option.{slice_get_within}
use Rattle.java_ast.specs.Tree.{Expression}
use Rattle.java_mean.proofs.Members.{all_added}
use Rattle.tor_terms.specs.declared.term.Atom.{Atom}
use Rattle.tor_terms.specs.declared.term.Atom.TheVariants as atoms
use Rattle.tor_terms.specs.declared.term.Operand.{Operand}
use Rattle.tor_terms.specs.declared.term.Operand.TheVariants as operands
use Rattle.tor_terms.specs.Same.{same_numbers}
use Rattle.tor_terms.specs.Truth.{same_operand}
use Rattle.tor_terms.proofs.Identical.{same_operand-true}
use Rattle.tor_terms.proofs.Scalars.{scalar_same-self}
use Rattle.java_ast.specs.Names.{Names}
use Rattle.java_loops.specs.Lowering.Numbering.{with_new, with_all_new, number_where, Leaf, reading_of, same_atom, atoms_among}
use Rattle.java_loops.specs.Kernel.Setting.{Setting}

-- ---- Numbers

-- the member with a number passes
pub record Passing {A : Type 0} (test : A → Bool) (xs : List A) (n : ℕ) : Type 0 where
  pub member : A
  pub there : slice_get xs n ≡ Some member
  pub passes : test member ≡ true

number_step : {A : Type 0} (test : A → Bool) (x : A) (xs : List A) (b : Bool) → test x ≡ b → (b || list_any test xs) ≡ true → (list_any test xs ≡ true → Passing test xs (number_where test xs)) → Passing test (x ∷ xs) (cond b 0 (suc (number_where test xs)))
number_step test x xs true e h more = record { member = x; there = refl; passes = e }
number_step test x xs false e h more = let p = more h in record { member = p.member; there = p.there; passes = p.passes }

pub number_passes : {A : Type 0} (test : A → Bool) (xs : List A) → list_any test xs ≡ true → Passing test xs (number_where test xs)
number_passes test [] h = absurd cc
number_passes test (x ∷ xs) h = number_step test x xs (test x) refl h (λ e. number_passes test xs e)

pub number_below : {A : Type 0} (test : A → Bool) (xs : List A) → list_any test xs ≡ true → number_where test xs < length xs
number_below test xs h = let p = number_passes test xs h in slice_get_within xs (number_where test xs) p.member p.there

-- ---- Lists without repetition

kept_new : {A : Type 0} (test : A → Bool) (xs : List A) (x : A) (b : Bool) → list_any test xs ≡ true → list_any test (cond b xs (xs ++ x ∷ [])) ≡ true
kept_new test xs x true h = h
kept_new test xs x false h = list_any-append test xs (x ∷ []) ∙ or_left (list_any test xs) (list_any test (x ∷ [])) h

-- what passes is still there
pub any_with : {A : Type 0} (test : A → Bool) (same : A → A → Bool) (xs : List A) (x : A) → list_any test xs ≡ true → list_any test (with_new same xs x) ≡ true
any_with test same xs x h = kept_new test xs x (list_any (same x) xs) h

pub any_with_all : {A : Type 0} (test : A → Bool) (same : A → A → Bool) (xs ys : List A) → list_any test xs ≡ true → list_any test (with_all_new same xs ys) ≡ true
any_with_all test same xs [] h = h
any_with_all test same xs (y ∷ ys) h = any_with_all test same (with_new same xs y) ys (any_with test same xs y h)

new_there : {A : Type 0} (same : A → A → Bool) (xs : List A) (x : A) (b : Bool) → list_any (same x) xs ≡ b → same x x ≡ true → list_any (same x) (cond b xs (xs ++ x ∷ [])) ≡ true
new_there same xs x true e h = e
new_there same xs x false e h = list_any-append (same x) xs (x ∷ []) ∙ or_right (list_any (same x) xs) (list_any (same x) (x ∷ [])) (or_left (same x x) false h)

-- what is put in is there
pub added_there : {A : Type 0} (same : A → A → Bool) (xs : List A) (x : A) → same x x ≡ true → list_any (same x) (with_new same xs x) ≡ true
added_there same xs x h = new_there same xs x (list_any (same x) xs) refl h

pub all_added_there : {A : Type 0} (same : A → A → Bool) (xs ys : List A) → AllByRecursion (λ y. same y y ≡ true → list_any (same y) (with_all_new same xs ys) ≡ true) ys
all_added_there same xs [] = tt
all_added_there same xs (y ∷ ys) = (λ h. any_with_all (same y) same (with_new same xs y) ys (added_there same xs y h), all_added_there same (with_new same xs y) ys)

new_all : {A : Type 0} (P : A → Type 0) (xs : List A) (x : A) (b : Bool) → AllByRecursion P xs → P x → AllByRecursion P (cond b xs (xs ++ x ∷ []))
new_all P xs x true a h = a
new_all P xs x false a h = all_added P xs x a h

pub all_with : {A : Type 0} (P : A → Type 0) (same : A → A → Bool) (xs : List A) (x : A) → AllByRecursion P xs → P x → AllByRecursion P (with_new same xs x)
all_with P same xs x a h = new_all P xs x (list_any (same x) xs) a h

pub all_with_all : {A : Type 0} (P : A → Type 0) (same : A → A → Bool) (xs ys : List A) → AllByRecursion P xs → AllByRecursion P ys → AllByRecursion P (with_all_new same xs ys)
all_with_all P same xs [] a h = a
all_with_all P same xs (y ∷ ys) a h = all_with_all P same (with_new same xs y) ys (all_with P same xs y a h.0) h.1

-- ---- Atoms

pub numbers_self : (js : List ℕ) → same_numbers js js ≡ true
numbers_self [] = refl
numbers_self (j ∷ js) = rw (eq-eqb j j refl, numbers_self js) refl

pub numbers_true : (js ks : List ℕ) → same_numbers js ks ≡ true → js ≡ ks
numbers_true [] [] h = refl
numbers_true [] (k ∷ ks) h = absurd cc
numbers_true (j ∷ js) [] h = absurd cc
numbers_true (j ∷ js) (k ∷ ks) h = let p = and_parts (nat_eq j k) (same_numbers js ks) h in rw (eqb-true j k p.0, numbers_true js ks p.1) refl

operand_self : (a : Operand) → same_operand a a ≡ true
operand_self (operands.Field j c) = rw (eq-eqb j j refl, eq-eqb c c refl) refl
operand_self (operands.Entry k) = eq-eqb k k refl
operand_self (operands.Lit x) = scalar_same-self x

pub atom_self : (a : Atom) → same_atom a a ≡ true
atom_self (atoms.Less a b) = rw (operand_self a, operand_self b) refl
atom_self (atoms.Same a b) = rw (operand_self a, operand_self b) refl
atom_self (atoms.Truth a) = operand_self a
atom_self (atoms.Member a q) = rw (operand_self a, eq-eqb q q refl) refl
atom_self (atoms.Flag k loops) = rw (eq-eqb k k refl, numbers_self loops) refl

pub atom_same : (a b : Atom) → same_atom a b ≡ true → a ≡ b
atom_same (atoms.Less a b) (atoms.Less c d) h = let p = and_parts (same_operand a c) (same_operand b d) h in rw (same_operand-true a c p.0, same_operand-true b d p.1) refl
atom_same (atoms.Same a b) (atoms.Same c d) h = let p = and_parts (same_operand a c) (same_operand b d) h in rw (same_operand-true a c p.0, same_operand-true b d p.1) refl
atom_same (atoms.Truth a) (atoms.Truth b) h = ap atoms.Truth (same_operand-true a b h)
atom_same (atoms.Member a q) (atoms.Member b r) h = let p = and_parts (same_operand a b) (nat_eq q r) h in rw (same_operand-true a b p.0, eqb-true q r p.1) refl
atom_same (atoms.Flag k l) (atoms.Flag j o) h = let p = and_parts (nat_eq k j) (same_numbers l o) h in rw (eqb-true k j p.0, numbers_true l o p.1) refl
atom_same (atoms.Less a b) (atoms.Same c d) h = absurd cc
atom_same (atoms.Less a b) (atoms.Truth c) h = absurd cc
atom_same (atoms.Less a b) (atoms.Member c d) h = absurd cc
atom_same (atoms.Less a b) (atoms.Flag c d) h = absurd cc
atom_same (atoms.Same a b) (atoms.Less c d) h = absurd cc
atom_same (atoms.Same a b) (atoms.Truth c) h = absurd cc
atom_same (atoms.Same a b) (atoms.Member c d) h = absurd cc
atom_same (atoms.Same a b) (atoms.Flag c d) h = absurd cc
atom_same (atoms.Truth a) (atoms.Less c d) h = absurd cc
atom_same (atoms.Truth a) (atoms.Same c d) h = absurd cc
atom_same (atoms.Truth a) (atoms.Member c d) h = absurd cc
atom_same (atoms.Truth a) (atoms.Flag c d) h = absurd cc
atom_same (atoms.Member a b) (atoms.Less c d) h = absurd cc
atom_same (atoms.Member a b) (atoms.Same c d) h = absurd cc
atom_same (atoms.Member a b) (atoms.Truth c) h = absurd cc
atom_same (atoms.Member a b) (atoms.Flag c d) h = absurd cc
atom_same (atoms.Flag a b) (atoms.Less c d) h = absurd cc
atom_same (atoms.Flag a b) (atoms.Same c d) h = absurd cc
atom_same (atoms.Flag a b) (atoms.Truth c) h = absurd cc
atom_same (atoms.Flag a b) (atoms.Member c d) h = absurd cc

abbrev pub atom_of_leaf : Setting → List Expression → Names → Leaf → Atom
atom_of_leaf w entries known l = (reading_of w entries known l.number l.expression).atom

atoms_kept : (w : Setting) (entries : List Expression) (known : Names) (test : Atom → Bool) (all : List Atom) (ls : List Leaf) → list_any test all ≡ true → list_any test (atoms_among w entries known all ls) ≡ true
atoms_kept w entries known test all [] h = h
atoms_kept w entries known test all (l ∷ ls) h = atoms_kept w entries known test (with_new same_atom all (atom_of_leaf w entries known l)) ls (any_with test same_atom all (atom_of_leaf w entries known l) h)

-- an atom has the number of its first occurrence
abbrev pub HasNumber : List Atom → Atom → Type 0
HasNumber all a = slice_get all (number_where (same_atom a) all) ≡ Some a

has_number_of : (all : List Atom) (a : Atom) → list_any (same_atom a) all ≡ true → HasNumber all a
has_number_of all a h =
    let p = number_passes (same_atom a) all h in
    p.there ∙ ap Some (sym (atom_same a p.member p.passes))

atoms_there : (w : Setting) (entries : List Expression) (known : Names) (all : List Atom) (ls : List Leaf) → AllByRecursion (λ l. list_any (same_atom (atom_of_leaf w entries known l)) (atoms_among w entries known all ls) ≡ true) ls
atoms_there w entries known all [] = tt
atoms_there w entries known all (l ∷ ls) =
    let a : Atom = atom_of_leaf w entries known l in
    (atoms_kept w entries known (same_atom a) (with_new same_atom all a) ls (added_there same_atom all a (atom_self a)), atoms_there w entries known (with_new same_atom all a) ls)

all_numbered : (w : Setting) (entries : List Expression) (known : Names) (all : List Atom) (ls : List Leaf) → AllByRecursion (λ l. list_any (same_atom (atom_of_leaf w entries known l)) all ≡ true) ls → AllByRecursion (λ l. HasNumber all (atom_of_leaf w entries known l)) ls
all_numbered w entries known all [] h = tt
all_numbered w entries known all (l ∷ ls) h = (has_number_of all (atom_of_leaf w entries known l) h.0, all_numbered w entries known all ls h.1)

-- the atoms of leaves have numbers
pub leaves_numbered : (w : Setting) (entries : List Expression) (known : Names) (ls : List Leaf) → AllByRecursion (λ l. HasNumber (atoms_among w entries known [] ls) (atom_of_leaf w entries known l)) ls
leaves_numbered w entries known ls = all_numbered w entries known (atoms_among w entries known [] ls) ls (atoms_there w entries known [] ls)

-- what holds of the atoms of leaves holds of all atoms
pub all_atoms : (P : Atom → Type 0) (w : Setting) (entries : List Expression) (known : Names) (all : List Atom) (ls : List Leaf) → AllByRecursion P all → AllByRecursion (λ l. P (atom_of_leaf w entries known l)) ls → AllByRecursion P (atoms_among w entries known all ls)
all_atoms P w entries known all [] a h = a
all_atoms P w entries known all (l ∷ ls) a h = all_atoms P w entries known (with_new same_atom all (atom_of_leaf w entries known l)) ls (all_with P same_atom all (atom_of_leaf w entries known l) a h.0) h.1
