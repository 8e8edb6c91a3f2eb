-- Atoms of leaves have a field, and read loops round their `if` alone.
use Rattle.std.proofs.Common.{◌≡◌, ℕ, Bool, true, false, ◌||◌, List, [], ◌∷◌, ◌++◌, map, Option, Some, None, refl, sym, ap, ◌∙◌, subst, cond, slice_get, nat_eq, ⊎_elim}
use Rattle.std.specs.List.{AllByRecursion, list_all}
use Rattle.std.proofs.lemmas.Bool.{or_left, or_right, or_cases, eq-eqb}
use Rattle.java_ast.specs.declared.tree.Op.{Op}
use Rattle.java_ast.specs.declared.tree.Op.TheVariants as ops
use Rattle.java_ast.specs.Tree as tree
use Rattle.java_ast.specs.Tree.{Expression, Statement}
use Rattle.java_mean.specs.declared.types.JavaType.{JavaType}
use Rattle.java_mean.specs.Typing.{Frame, HasType, bool}
use Rattle.kernel_lang.specs.Validity.{is_field, has_a_field, tests_have_fields}
use Rattle.tor_terms.specs.declared.term.Atom.{Atom}
use Rattle.tor_terms.specs.declared.term.Atom.TheVariants as atoms
use Rattle.tor_terms.specs.declared.term.Operand.{Operand}
use Rattle.tor_terms.specs.Truth.{has_loop, has_loops, operand_within, atom_within}
use Rattle.java_loops.specs.Kernel.Kernel.{lowering}
use Rattle.loop_text.specs.Kernel.KernelConditions.{is_row_column, is_comparing}
use Rattle.java_ast.specs.Names.{Names}
use Rattle.java_loops.specs.Lowering.Numbering.{Leaf, all_leaves, loop_number, operand_of, operand_of_column, operand_of_literal, operand_before, same_of, compared, flag_reading, bound_reading, reading_of, numbers_of, entries_of, known_of}
use Rattle.java_loops.specs.Kernel.Setting.{Setting}
use Rattle.loop_text.specs.Sites.Sites.{Site, Round, RowColumn, row_column_at}
use Rattle.java_loops.proofs.Valid.ValidLeaves.{LeafStands, all_leaves_stand}
use Rattle.java_loops.proofs.Valid.ValidLoop.{Checked, rules, FirstRow, shallow_at}
use Rattle.java_loops.proofs.Valid.ValidNumbers.{all_atoms, atom_of_leaf}
use Rattle.java_loops.proofs.Valid.ValidScope.{Among, first, later, Declared}
use Rattle.java_loops.proofs.Valid.ValidShapes.{column_seen, Shape, compares, equals, tests, reads, finds, shape, column_at, flag_at}
use Rattle.java_loops.proofs.Valid.ValidVisits.{all_weaker, Nested, Visited}

-- ---- Leaves, whatever their rows

abbrev pub AnyRow : ℕ → JavaType → Type 0
AnyRow j k = Unit {0}

pub any_nested : (w : Setting) (c : Frame) → Checked w c → Nested AnyRow c w.types w.sites
any_nested w c is = record { shallow = λ n s get loops. shallow_at w (rules w is.none).depth n s get loops; rows = λ n s now at ty x e p k get same extends takes. tt }

pub any_first : (c : Frame) (loop : Statement) → FirstRow AnyRow c loop
any_first c loop = λ at q at' ty x e ss k is table spelled. tt

pub leaves_known : (w : Setting) (c : Frame) → Checked w c → AllByRecursion (λ (l : Leaf). LeafStands AnyRow w c l.number l.expression) (all_leaves w.sites)
leaves_known w c is = all_leaves_stand AnyRow w c is (any_first c w.fragment.loop) (any_nested w c is)

pub leaf_shape : (P : ℕ → JavaType → Type 0) (w : Setting) (c : Frame) (n : ℕ) (e : Expression) (l : LeafStands P w c n e) → Shape w c l.visited.now n e
leaf_shape P w c n e l = shape w c l.visited.now n e bool l.typed refl l.unbroken

-- ---- Comparisons

-- the atom of a comparison of two operands
pub data IsComparison (op : Op) (a b : Operand) : Atom → Type 0 where
  less : is_comparing op ≡ true → IsComparison op a b (atoms.Less a b)
  more : is_comparing op ≡ true → IsComparison op a b (atoms.Less b a)
  same : IsComparison op a b (atoms.Same a b)
  back : IsComparison op a b (atoms.Same b a)

same_step : (op : Op) (a b : Operand) (q : Bool) → IsComparison op a b (cond q (atoms.Same b a) (atoms.Same a b))
same_step op a b true = back
same_step op a b false = same

pub same_is : (op : Op) (a b : Operand) → IsComparison op a b (same_of a b)
same_is op a b = same_step op a b (operand_before b a)

pub comparison_is : (op : Op) (a b : Operand) → IsComparison op a b (compared op a b).atom
comparison_is ops.Or a b = same_is ops.Or a b
comparison_is ops.And a b = same_is ops.And a b
comparison_is ops.Eq a b = same_is ops.Eq a b
comparison_is ops.Ne a b = same_is ops.Ne a b
comparison_is ops.Lt a b = less refl
comparison_is ops.Le a b = more refl
comparison_is ops.Gt a b = more refl
comparison_is ops.Ge a b = less refl
comparison_is ops.Add a b = same_is ops.Add a b
comparison_is ops.Sub a b = same_is ops.Sub a b
comparison_is ops.Mul a b = same_is ops.Mul a b

-- what holds of two operands holds of the atom, whichever comes first
pub of_comparison : (Q : Atom → Bool) (op : Op) (a b : Operand) (x : Atom) → IsComparison op a b x → Q (atoms.Less a b) ≡ true → Q (atoms.Less b a) ≡ true → Q (atoms.Same a b) ≡ true → Q (atoms.Same b a) ≡ true → Q x ≡ true
of_comparison Q op a b _ (less e) h i j k = h
of_comparison Q op a b _ (more e) h i j k = i
of_comparison Q op a b _ same h i j k = j
of_comparison Q op a b _ back h i j k = k

or_other : (a b : Bool) → (a || b) ≡ true → (b || a) ≡ true
or_other a b h = ⊎_elim (λ e. or_right b a e) (λ e. or_left b a e) (or_cases a b h)

-- ---- Fields

pub field_of_row : (w : Setting) (entries : List Expression) (n : ℕ) (e : Expression) → is_row_column w.sites n e ≡ true → is_field (operand_of w entries n e) ≡ true
field_of_row w entries n e h = let q = column_at w.sites n e h in ap (λ o. is_field (operand_of_column w entries e o)) q.is

one_field : (w : Setting) (entries : List Expression) (n : ℕ) (a b : Expression) → (is_row_column w.sites n a || is_row_column w.sites n b) ≡ true → (is_field (operand_of w entries n a) || is_field (operand_of w entries n b)) ≡ true
one_field w entries n a b h =
    ⊎_elim
    (λ e. or_left (is_field (operand_of w entries n a)) (is_field (operand_of w entries n b)) (field_of_row w entries n a e))
    (λ e. or_right (is_field (operand_of w entries n a)) (is_field (operand_of w entries n b)) (field_of_row w entries n b e))
    (or_cases (is_row_column w.sites n a) (is_row_column w.sites n b) h)

comparison_field : (op : Op) (a b : Operand) (x : Atom) → IsComparison op a b x → (is_field a || is_field b) ≡ true → has_a_field x ≡ true
comparison_field op a b x is h = of_comparison has_a_field op a b x is h (or_other (is_field a) (is_field b) h) h (or_other (is_field a) (is_field b) h)

flag_field : (w : Setting) (d : ℕ) (o : Option Site) → has_a_field (flag_reading w d o).atom ≡ true
flag_field w d None = refl
flag_field w d (Some s) = refl

shape_field : (P : ℕ → JavaType → Type 0) (w : Setting) (c : Frame) (n : ℕ) (v : Visited P c w.types w.sites n) (entries : List Expression) (known : Names) (e : Expression) → Shape w c v.now n e → has_a_field (reading_of w entries known n e).atom ≡ true
shape_field P w c n v entries known _ (compares at op a b ty to takes is h) = comparison_field op (operand_of w entries n a) (operand_of w entries n b) _ (comparison_is op (operand_of w entries n a) (operand_of w entries n b)) (one_field w entries n a b h.field)
shape_field P w c n v entries known _ (equals at a b h) = comparison_field ops.Eq (operand_of w entries n a) (operand_of w entries n b) _ (same_is ops.Eq (operand_of w entries n a) (operand_of w entries n b)) (one_field w entries n a b h.field)
shape_field P w c n v entries known _ (tests at e f t h) = field_of_row w entries n (tree.Field at e f) h
shape_field P w c n v entries known _ (reads at x k i h) =
    let f = flag_at P c w.types w.sites n v x k i h in
    ap (λ b. has_a_field (bound_reading w b).atom) f.bound ∙ flag_field w f.number (slice_get w.sites f.number)
shape_field P w c n v entries known _ (finds at x e k ty i has t h is) = field_of_row w entries n e h

pub all_to_test : {A : Type 0} (test : A → Bool) (xs : List A) → AllByRecursion (λ x. test x ≡ true) xs → list_all test xs ≡ true
all_to_test test [] a = refl
all_to_test test (x ∷ xs) a = rw (a.0, all_to_test test xs a.1) refl

-- what holds of the atom of each leaf holds of all atoms
pub atoms_pass : (w : Setting) (c : Frame) → Checked w c → (test : Atom → Bool) → ((n : ℕ) (e : Expression) (l : LeafStands AnyRow w c n e) → test (reading_of w (entries_of w) (known_of w) n e).atom ≡ true) → list_all test (numbers_of w).atoms ≡ true
atoms_pass w c is test h =
    all_to_test test (numbers_of w).atoms (all_atoms (λ a. test a ≡ true) w (entries_of w) (known_of w) [] (all_leaves w.sites) tt (all_weaker (λ (l : Leaf). LeafStands AnyRow w c l.number l.expression) (λ l. test (atom_of_leaf w (entries_of w) (known_of w) l) ≡ true) (all_leaves w.sites) (λ l s. h l.number l.expression s) (leaves_known w c is)))

-- Comparisons of a lowered fragment have a field, and its tests are of fields.
pub fields_tested : (w : Setting) (c : Frame) → Checked w c → tests_have_fields (lowering w).fragment ≡ true
unfolding tests_have_fields
fields_tested w c is = atoms_pass w c is has_a_field (λ n e l. shape_field AnyRow w c n l.visited (entries_of w) (known_of w) e (leaf_shape AnyRow w c n e l))

-- ---- Loops

pub loop_among : (f : ℕ → ℕ) (js : List ℕ) (j : ℕ) → Among js j → has_loop (map f js) (f j) ≡ true
loop_among f _ _ (first j js) = or_left (nat_eq (f j) (f j)) (has_loop (map f js) (f j)) (eq-eqb (f j) (f j) refl)
loop_among f _ j (later i _ js a) = or_right (nat_eq (f i) (f j)) (has_loop (map f js) (f j)) (loop_among f js j a)

all_loops_among : (f : ℕ → ℕ) (all js : List ℕ) → AllByRecursion (Among all) js → has_loops (map f all) (map f js) ≡ true
all_loops_among f all [] a = refl
all_loops_among f all (j ∷ js) a = rw (loop_among f all j a.0, all_loops_among f all js a.1) refl

among_front : (js ks : List ℕ) → AllByRecursion (Among (js ++ ks)) js
among_front [] ks = tt
among_front (j ∷ js) ks = (first j (js ++ ks), all_weaker (Among (js ++ ks)) (Among (j ∷ (js ++ ks))) js (λ i a. later j i (js ++ ks) a) (among_front js ks))

-- the numbers of the loops round a place
abbrev pub chain_at : Setting → Round → List ℕ
chain_at w r = map (loop_number w.sites) r.loops

literal_within : (loops : List ℕ) (entries : List Expression) (e : Expression) → operand_within loops (operand_of_literal entries e) ≡ true
literal_within loops entries (tree.Lit at x) = refl
literal_within loops entries (tree.Var at x) = refl
literal_within loops entries (tree.Field at e f) = refl
literal_within loops entries (tree.Binary at op a b) = refl
literal_within loops entries (tree.Not at e) = refl
literal_within loops entries (tree.Equals at a b) = refl
literal_within loops entries (tree.Size at x) = refl
literal_within loops entries (tree.Get at x e) = refl
literal_within loops entries (tree.Contains at x e) = refl
literal_within loops entries (tree.Fetch at t) = refl
literal_within loops entries (tree.Query at ty text es) = refl
literal_within loops entries (tree.QueryLong at text es) = refl
literal_within loops entries (tree.QueryBoolean at text es) = refl
literal_within loops entries (tree.NewList at) = refl
literal_within loops entries (tree.NewSet at) = refl
literal_within loops entries (tree.NewSetOf at e) = refl

column_within : (P : ℕ → JavaType → Type 0) (w : Setting) (c : Frame) (n : ℕ) (v : Visited P c w.types w.sites n) (entries : List Expression) (e : Expression) (k : JavaType) (o : Option RowColumn) → HasType c v.now e k → row_column_at w.sites n e ≡ o → operand_within (chain_at w v.site.round) (operand_of_column w entries e o) ≡ true
column_within P w c n v entries e k None t is = literal_within (chain_at w v.site.round) entries e
column_within P w c n v entries e k (Some q) t is = loop_among (loop_number w.sites) v.site.round.loops q.loop (column_seen P c w.types w.sites n v e k q t is).walked.inside

operand_in : (P : ℕ → JavaType → Type 0) (w : Setting) (c : Frame) (n : ℕ) (v : Visited P c w.types w.sites n) (entries : List Expression) (e : Expression) (k : JavaType) → HasType c v.now e k → operand_within (chain_at w v.site.round) (operand_of w entries n e) ≡ true
operand_in P w c n v entries e k t = column_within P w c n v entries e k (row_column_at w.sites n e) t refl

comparison_within : (loops : List ℕ) (op : Op) (a b : Operand) (x : Atom) → IsComparison op a b x → operand_within loops a ≡ true → operand_within loops b ≡ true → atom_within loops x ≡ true
comparison_within loops op a b x is h i = of_comparison (atom_within loops) op a b x is (rw (h, i) refl) (rw (h, i) refl) (rw (h, i) refl) (rw (h, i) refl)

declared_within : (w : Setting) (r : Round) (d : ℕ) (x : List ℕ) → Declared w.sites r d x → atom_within (chain_at w r) (flag_reading w d (slice_get w.sites d)).atom ≡ true
declared_within w r d x h =
    ap (λ o. atom_within (chain_at w r) (flag_reading w d o).atom) h.there
    ∙ all_loops_among (loop_number w.sites) r.loops h.site.round.loops (subst (λ all. AllByRecursion (Among all) h.site.round.loops) (sym h.under.is_loops) (among_front h.site.round.loops h.under.loops))

shape_within : (P : ℕ → JavaType → Type 0) (w : Setting) (c : Frame) (n : ℕ) (v : Visited P c w.types w.sites n) (entries : List Expression) (known : Names) (e : Expression) → Shape w c v.now n e → atom_within (chain_at w v.site.round) (reading_of w entries known n e).atom ≡ true
shape_within P w c n v entries known _ (compares at op a b ty to takes is h) = comparison_within (chain_at w v.site.round) op (operand_of w entries n a) (operand_of w entries n b) _ (comparison_is op (operand_of w entries n a) (operand_of w entries n b)) (operand_in P w c n v entries a _ h.first) (operand_in P w c n v entries b _ h.second)
shape_within P w c n v entries known _ (equals at a b h) = comparison_within (chain_at w v.site.round) ops.Eq (operand_of w entries n a) (operand_of w entries n b) _ (same_is ops.Eq (operand_of w entries n a) (operand_of w entries n b)) (operand_in P w c n v entries a _ h.first) (operand_in P w c n v entries b _ h.second)
shape_within P w c n v entries known _ (tests at e f t h) = operand_in P w c n v entries (tree.Field at e f) bool t
shape_within P w c n v entries known _ (reads at x k i h) =
    let f = flag_at P c w.types w.sites n v x k i h in
    ap (λ b. atom_within (chain_at w v.site.round) (bound_reading w b).atom) f.bound ∙ declared_within w v.site.round f.number x f.declared
shape_within P w c n v entries known _ (finds at x e k ty i has t h is) = operand_in P w c n v entries e _ t

-- the atom of a leaf reads loops round its `if` alone
pub leaf_within : (P : ℕ → JavaType → Type 0) (w : Setting) (c : Frame) (n : ℕ) (e : Expression) (l : LeafStands P w c n e) (entries : List Expression) (known : Names) → atom_within (chain_at w l.visited.site.round) (reading_of w entries known n e).atom ≡ true
leaf_within P w c n e l entries known = shape_within P w c n l.visited entries known e (leaf_shape P w c n e l)
