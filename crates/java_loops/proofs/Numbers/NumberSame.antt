-- Atoms that are found to be the same are equal, and expressions that are found to be one entry are it.
use Rattle.std.proofs.Common.{◌≡◌, ℕ, true, List, [], ◌∷◌, refl, ap, subst, nat_eq, bytes_eq, eqb-true, eq-eqb}
use Rattle.std.proofs.lemmas.Bool.{and_parts, and_from}
use Rattle.qbs_base.specs.declared.span.Span.{Span}
use Rattle.java_ast.specs.Tree as tree
use Rattle.java_ast.specs.Tree.{Expression}
use Rattle.java_mean.proofs.Puts.{names_equal, name_same}
use Rattle.tor_terms.specs.declared.term.Atom.{Atom}
use Rattle.tor_terms.specs.declared.term.Atom.TheVariants as atoms
use Rattle.tor_terms.specs.declared.term.Operand.{Operand}
use Rattle.tor_terms.specs.declared.term.Operand.TheVariants as operands
use Rattle.tor_terms.specs.Same.{same_numbers}
use Rattle.tor_terms.specs.Truth.{same_operand}
use Rattle.tor_terms.proofs.Identical.{both, same_operand-true}
use Rattle.tor_terms.proofs.Scalars.{scalar_same-self}
use Rattle.java_loops.specs.Lowering.Numbering.{same_atom, same_entry}

-- ---- Atoms

numbers_true : (a b : List ℕ) → same_numbers a b ≡ true → a ≡ b
numbers_true [] [] h = refl
numbers_true [] (k ∷ b) h = absurd cc
numbers_true (j ∷ a) [] h = absurd cc
numbers_true (j ∷ a) (k ∷ b) h = both (λ x y. x ∷ y) (nat_eq j k) (same_numbers a b) h (eqb-true j k) (numbers_true a b)

pub same_atom-true : (a b : Atom) → same_atom a b ≡ true → a ≡ b
same_atom-true (atoms.Less a b) (atoms.Less c d) h = both atoms.Less (same_operand a c) (same_operand b d) h (same_operand-true a c) (same_operand-true b d)
same_atom-true (atoms.Same a b) (atoms.Same c d) h = both atoms.Same (same_operand a c) (same_operand b d) h (same_operand-true a c) (same_operand-true b d)
same_atom-true (atoms.Truth a) (atoms.Truth b) h = ap atoms.Truth (same_operand-true a b h)
same_atom-true (atoms.Member a q) (atoms.Member b r) h = both atoms.Member (same_operand a b) (nat_eq q r) h (same_operand-true a b) (eqb-true q r)
same_atom-true (atoms.Flag k loops) (atoms.Flag j others) h = both atoms.Flag (nat_eq k j) (same_numbers loops others) h (eqb-true k j) (numbers_true loops others)
same_atom-true _ _ h = cc

operand_self : (a : Operand) → same_operand a a ≡ true
operand_self (operands.Field j c) = and_from (nat_eq j j) (nat_eq c c) (eq-eqb j j refl) (eq-eqb c c refl)
operand_self (operands.Entry k) = eq-eqb k k refl
operand_self (operands.Lit x) = scalar_same-self x

numbers_self : (a : List ℕ) → same_numbers a a ≡ true
numbers_self [] = refl
numbers_self (j ∷ a) = and_from (nat_eq j j) (same_numbers a a) (eq-eqb j j refl) (numbers_self a)

pub same_atom-self : (a : Atom) → same_atom a a ≡ true
same_atom-self (atoms.Less a b) = and_from (same_operand a a) (same_operand b b) (operand_self a) (operand_self b)
same_atom-self (atoms.Same a b) = and_from (same_operand a a) (same_operand b b) (operand_self a) (operand_self b)
same_atom-self (atoms.Truth a) = operand_self a
same_atom-self (atoms.Member a q) = and_from (same_operand a a) (nat_eq q q) (operand_self a) (eq-eqb q q refl)
same_atom-self (atoms.Flag k loops) = and_from (nat_eq k k) (same_numbers loops loops) (eq-eqb k k refl) (numbers_self loops)

-- ---- Entries

-- a variable by itself
pub data NamesVariable (x : List ℕ) : Expression → Type 0 where
  named : (at : Span) → NamesVariable x (tree.Var at x)

variable_named : (x y : List ℕ) (at : Span) → bytes_eq x y ≡ true → NamesVariable x (tree.Var at y)
variable_named x y at h = subst (λ z. NamesVariable x (tree.Var at z)) (names_equal x y h) (named at)

-- what is found to be one entry with a variable is the variable
pub entry_variable : (at : Span) (x : List ℕ) (e : Expression) → same_entry (tree.Var at x) e ≡ true → NamesVariable x e
entry_variable at x (tree.Var at' y) h = variable_named x y at' h
entry_variable at x (tree.Lit at' v) h = absurd cc
entry_variable at x (tree.Field at' a name) h = absurd cc
entry_variable at x (tree.Binary at' op p q) h = absurd cc
entry_variable at x (tree.Not at' a) h = absurd cc
entry_variable at x (tree.Equals at' p q) h = absurd cc
entry_variable at x (tree.Size at' y) h = absurd cc
entry_variable at x (tree.Get at' y a) h = absurd cc
entry_variable at x (tree.Contains at' y a) h = absurd cc
entry_variable at x (tree.Fetch at' t) h = absurd cc
entry_variable at x (tree.Query at' ty text es) h = absurd cc
entry_variable at x (tree.QueryLong at' text es) h = absurd cc
entry_variable at x (tree.QueryBoolean at' text es) h = absurd cc
entry_variable at x (tree.NewList at') h = absurd cc
entry_variable at x (tree.NewSet at') h = absurd cc
entry_variable at x (tree.NewSetOf at' a) h = absurd cc

-- a field of a variable
pub data NamesField (x f : List ℕ) : Expression → Type 0 where
  named_field : (at at' : Span) → NamesField x f (tree.Field at (tree.Var at' x) f)

field_named : (x f g : List ℕ) (at : Span) (e : Expression) → bytes_eq f g ≡ true → NamesVariable x e → NamesField x f (tree.Field at e g)
field_named x f g at _ h (named at') = subst (λ z. NamesField x f (tree.Field at (tree.Var at' x) z)) (names_equal f g h) (named_field at at')

pub entry_field_named : (at at' : Span) (x f : List ℕ) (e : Expression) → same_entry (tree.Field at (tree.Var at' x) f) e ≡ true → NamesField x f e
entry_field_named at at' x f (tree.Field at'' e g) h = let two = and_parts (bytes_eq f g) (same_entry (tree.Var at' x) e) h in field_named x f g at'' e two.0 (entry_variable at' x e two.1)
entry_field_named at at' x f (tree.Lit at'' v) h = absurd cc
entry_field_named at at' x f (tree.Var at'' y) h = absurd cc
entry_field_named at at' x f (tree.Binary at'' op p q) h = absurd cc
entry_field_named at at' x f (tree.Not at'' a) h = absurd cc
entry_field_named at at' x f (tree.Equals at'' p q) h = absurd cc
entry_field_named at at' x f (tree.Size at'' y) h = absurd cc
entry_field_named at at' x f (tree.Get at'' y a) h = absurd cc
entry_field_named at at' x f (tree.Contains at'' y a) h = absurd cc
entry_field_named at at' x f (tree.Fetch at'' t) h = absurd cc
entry_field_named at at' x f (tree.Query at'' ty text es) h = absurd cc
entry_field_named at at' x f (tree.QueryLong at'' text es) h = absurd cc
entry_field_named at at' x f (tree.QueryBoolean at'' text es) h = absurd cc
entry_field_named at at' x f (tree.NewList at'') h = absurd cc
entry_field_named at at' x f (tree.NewSet at'') h = absurd cc
entry_field_named at at' x f (tree.NewSetOf at'' a) h = absurd cc

pub variable_self : (at : Span) (x : List ℕ) → same_entry (tree.Var at x) (tree.Var at x) ≡ true
variable_self at x = name_same x

pub field_self : (at at' : Span) (x f : List ℕ) → same_entry (tree.Field at (tree.Var at' x) f) (tree.Field at (tree.Var at' x) f) ≡ true
field_self at at' x f = and_from (bytes_eq f f) (bytes_eq x x) (name_same f) (name_same x)
