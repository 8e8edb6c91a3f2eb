-- The atoms of a lowered fragment name loops, entry values, known lists and flags that are there.
use Rattle.std.proofs.Common.{◌≡◌, ℕ, suc, Bool, true, false, ◌&&◌, ◌||◌, List, [], ◌∷◌, ◌++◌, length, map, Option, Some, None, refl, ap, ◌∙◌, subst, cond, slice_get, bytes_eq, nat_lt}
use Rattle.std.specs.List.{AllByRecursion, list_any}
use Rattle.std.proofs.lemmas.Bool.{and_parts, lt-ltb}
use Rattle.std.proofs.lemmas.Option.{slice_get_within}
use Rattle.java_ast.specs.declared.tree.Op.{Op}
use Rattle.java_ast.specs.declared.tree.Op.TheVariants as ops
use Rattle.java_ast.specs.Tree as tree
use Rattle.java_ast.specs.Tree.{Expression, Statements}
use Rattle.java_mean.specs.declared.types.JavaType.{JavaType}
use Rattle.java_mean.specs.Typing.{Frame, HasType, bool}
use Rattle.java_mean.proofs.Puts.{name_same}
use Rattle.kernel_lang.specs.Validity.{operand_is_there, atom_is_there, atoms_are_there, loops_are_there}
use Rattle.tor_terms.specs.declared.term.Atom.{Atom}
use Rattle.tor_terms.specs.declared.term.Operand.{Operand}
use Rattle.java_loops.specs.Kernel.Kernel.{lowering}
use Rattle.java_loops.specs.Kernel.KernelConditions.{is_operand, is_entry, is_entry_row}
use Rattle.loop_text.specs.Kernel.KernelConditions.{is_row_column, is_literal, asked_for}
use Rattle.java_loops.specs.Lowering.Lowered.{type_of_entry}
use Rattle.java_ast.specs.Names.{Names, is_among, with_name}
use Rattle.java_loops.specs.Lowering.Numbering.{Leaf, all_leaves, with_all_new, number_where, same_entry, entry_operand, entries_in, entries_among, known_with, known_among, arguments_asked, with_arguments, known_of, entries_of, numbers_of, entry_number, operand_of, operand_of_column, operand_of_literal, bound_reading, flag_reading, reading_of, loop_number}
use Rattle.java_loops.specs.Kernel.Setting.{Setting}
use Rattle.loop_text.specs.Statements.Setting.{is_found}
use Rattle.loop_text.specs.Sites.Sites.{Site, RowColumn, row_column_at}
use Rattle.java_loops.proofs.Valid.ValidAccumulators.{loop_there}
use Rattle.java_loops.proofs.Valid.ValidChains.{lists_count, chain_there}
use Rattle.java_loops.proofs.Valid.ValidForms.{all_front, all_back}
use Rattle.java_loops.proofs.Valid.ValidLeaves.{LeafStands}
use Rattle.java_loops.proofs.Valid.ValidLoop.{Checked, site_visited}
use Rattle.java_loops.proofs.Valid.ValidNumbers.{number_below, any_with_all, all_added_there, all_atoms, atom_of_leaf}
use Rattle.java_loops.proofs.Valid.ValidOperands.{AnyRow, any_first, any_nested, leaves_known, leaf_shape, all_to_test, IsComparison, comparison_is, same_is, of_comparison}
use Rattle.java_loops.proofs.Valid.ValidPositions.{flag_updated, flag_at_number}
use Rattle.java_loops.proofs.Valid.ValidShapes.{column_seen, Shape, compares, equals, tests, reads, finds, column_at, flag_at}
use Rattle.java_loops.proofs.Valid.ValidVisits.{all_weaker, Visited}
use Rattle.java_loops.proofs.Standing.StandingRules.{get_same}

-- ---- Entry values

abbrev pub IsEntered : List Expression → Expression → Type 0
IsEntered entries e = same_entry e e ≡ true → list_any (same_entry e) entries ≡ true

abbrev pub LeafEntered : Setting → List Expression → Leaf → Type 0
LeafEntered w entries l = AllByRecursion (IsEntered entries) (entries_in w.sites l.number l.expression)

kept_entries : (w : Setting) (test : Expression → Bool) (es : List Expression) (ls : List Leaf) → list_any test es ≡ true → list_any test (entries_among w.sites es ls) ≡ true
kept_entries w test es [] h = h
kept_entries w test es (l ∷ ls) h = kept_entries w test (with_all_new same_entry es (entries_in w.sites l.number l.expression)) ls (any_with_all test same_entry es (entries_in w.sites l.number l.expression) h)

entered : (w : Setting) (es : List Expression) (ls : List Leaf) → AllByRecursion (LeafEntered w (entries_among w.sites es ls)) ls
entered w es [] = tt
entered w es (l ∷ ls) =
    let more : List Expression = with_all_new same_entry es (entries_in w.sites l.number l.expression) in
    (all_weaker (IsEntered more) (IsEntered (entries_among w.sites more ls)) (entries_in w.sites l.number l.expression) (λ e h s. kept_entries w (same_entry e) more ls (h s)) (all_added_there same_entry es (entries_in w.sites l.number l.expression)), entered w more ls)

kept_arguments : (run : Statements) (test : Expression → Bool) (es : List Expression) (xs : Names) → list_any test es ≡ true → list_any test (with_arguments run es xs) ≡ true
kept_arguments run test es [] h = h
kept_arguments run test es (x ∷ xs) h = kept_arguments run test (with_all_new same_entry es (arguments_asked (asked_for run x))) xs (any_with_all test same_entry es (arguments_asked (asked_for run x)) h)

pub all_entered : (w : Setting) → AllByRecursion (LeafEntered w (entries_of w)) (all_leaves w.sites)
all_entered w =
    let first : List Expression = entries_among w.sites [] (all_leaves w.sites) in
    all_weaker (LeafEntered w first) (LeafEntered w (entries_of w)) (all_leaves w.sites) (λ l a. all_weaker (IsEntered first) (IsEntered (entries_of w)) (entries_in w.sites l.number l.expression) (λ e h s. kept_arguments w.fragment.run (same_entry e) first (known_of w) (h s)) a) (entered w [] (all_leaves w.sites))

-- ---- Known lists

abbrev IsKnownIn : Names → Expression → Type 0
IsKnownIn known e = (x : List ℕ) → known_with [] e ≡ x ∷ [] → is_among known x ≡ true

among_with_name : (xs : Names) (x y : List ℕ) (b : Bool) → is_among xs x ≡ b → is_among xs y ≡ true → is_among (cond b xs (xs ++ x ∷ [])) y ≡ true
among_with_name xs x y true e h = h
among_with_name xs x y false e h = Rattle.std.proofs.lemmas.List.Folds.list_any-append (bytes_eq y) xs (x ∷ []) ∙ Rattle.std.proofs.lemmas.Bool.or_left (is_among xs y) (is_among (x ∷ []) y) h

name_in : (xs : Names) (x : List ℕ) (b : Bool) → is_among xs x ≡ b → is_among (cond b xs (xs ++ x ∷ [])) x ≡ true
name_in xs x true e = e
name_in xs x false e = Rattle.std.proofs.lemmas.List.Folds.list_any-append (bytes_eq x) xs (x ∷ []) ∙ Rattle.std.proofs.lemmas.Bool.or_right (is_among xs x) (is_among (x ∷ []) x) (Rattle.std.proofs.lemmas.Bool.or_left (bytes_eq x x) false (name_same x))

kept_with : (xs : Names) (e : Expression) (y : List ℕ) → is_among xs y ≡ true → is_among (known_with xs e) y ≡ true
kept_with xs (tree.Contains at x e) y h = among_with_name xs x y (is_among xs x) refl h
kept_with xs (tree.Lit at x) y h = h
kept_with xs (tree.Var at x) y h = h
kept_with xs (tree.Field at e f) y h = h
kept_with xs (tree.Binary at op a b) y h = h
kept_with xs (tree.Not at e) y h = h
kept_with xs (tree.Equals at a b) y h = h
kept_with xs (tree.Size at x) y h = h
kept_with xs (tree.Get at x e) y h = h
kept_with xs (tree.Fetch at t) y h = h
kept_with xs (tree.Query at ty text es) y h = h
kept_with xs (tree.QueryLong at text es) y h = h
kept_with xs (tree.QueryBoolean at text es) y h = h
kept_with xs (tree.NewList at) y h = h
kept_with xs (tree.NewSet at) y h = h
kept_with xs (tree.NewSetOf at e) y h = h

kept_known : (xs : Names) (ls : List Leaf) (y : List ℕ) → is_among xs y ≡ true → is_among (known_among xs ls) y ≡ true
kept_known xs [] y h = h
kept_known xs (l ∷ ls) y h = kept_known (known_with xs l.expression) ls y (kept_with xs l.expression y h)

-- the name of a list of which a leaf asks
abbrev pub asked_name : Expression → Option (List ℕ)
asked_name (tree.Contains at x e) = Some x
asked_name _ = None

abbrev LeafKnown : Names → Leaf → Type 0
LeafKnown known l = (x : List ℕ) → asked_name l.expression ≡ Some x → is_among known x ≡ true

asked_in : (xs : Names) (e : Expression) (x : List ℕ) → asked_name e ≡ Some x → is_among (known_with xs e) x ≡ true
asked_in xs (tree.Contains at y e) x h = let same : y ≡ x = cc in subst (λ z. is_among (with_name xs y) z ≡ true) same (name_in xs y (is_among xs y) refl)
asked_in xs (tree.Lit at y) x h = absurd cc
asked_in xs (tree.Var at y) x h = absurd cc
asked_in xs (tree.Field at e f) x h = absurd cc
asked_in xs (tree.Binary at op a b) x h = absurd cc
asked_in xs (tree.Not at e) x h = absurd cc
asked_in xs (tree.Equals at a b) x h = absurd cc
asked_in xs (tree.Size at y) x h = absurd cc
asked_in xs (tree.Get at y e) x h = absurd cc
asked_in xs (tree.Fetch at t) x h = absurd cc
asked_in xs (tree.Query at ty text es) x h = absurd cc
asked_in xs (tree.QueryLong at text es) x h = absurd cc
asked_in xs (tree.QueryBoolean at text es) x h = absurd cc
asked_in xs (tree.NewList at) x h = absurd cc
asked_in xs (tree.NewSet at) x h = absurd cc
asked_in xs (tree.NewSetOf at e) x h = absurd cc

all_known : (xs : Names) (ls : List Leaf) → AllByRecursion (LeafKnown (known_among xs ls)) ls
all_known xs [] = tt
all_known xs (l ∷ ls) = (λ x h. kept_known (known_with xs l.expression) ls x (asked_in xs l.expression x h), all_known (known_with xs l.expression) ls)

-- ---- Operands

mapped : {A B : Type 0} (f : A → B) (xs : List A) → length (map f xs) ≡ length xs
mapped f [] = refl
mapped f (x ∷ xs) = ap suc (mapped f xs)

entry_there : (w : Setting) (e : Expression) → same_entry e e ≡ true → IsEntered (entries_of w) e → nat_lt (entry_number (entries_of w) e) (length (lowering w).fragment.entries) ≡ true
entry_there w e s h =
    let many : length (lowering w).fragment.entries ≡ length (entries_of w) = mapped (type_of_entry w.schema w.types) (entries_of w) in
    ap (nat_lt (entry_number (entries_of w) e)) many ∙ lt-ltb (entry_number (entries_of w) e) (length (entries_of w)) (number_below (same_entry e) (entries_of w) (h s))

row_entry : (w : Setting) (n : ℕ) (e : Expression) (f : List ℕ) → is_entry_row w n e ≡ true → (bytes_eq f f && same_entry e e) ≡ true
row_entry w n (tree.Var at x) f h = rw (name_same f, name_same x) refl
row_entry w n (tree.Lit at x) f h = absurd cc
row_entry w n (tree.Field at e g) f h = absurd cc
row_entry w n (tree.Binary at op a b) f h = absurd cc
row_entry w n (tree.Not at e) f h = absurd cc
row_entry w n (tree.Equals at a b) f h = absurd cc
row_entry w n (tree.Size at x) f h = absurd cc
row_entry w n (tree.Get at x e) f h = absurd cc
row_entry w n (tree.Contains at x e) f h = absurd cc
row_entry w n (tree.Fetch at t) f h = absurd cc
row_entry w n (tree.Query at ty text es) f h = absurd cc
row_entry w n (tree.QueryLong at text es) f h = absurd cc
row_entry w n (tree.QueryBoolean at text es) f h = absurd cc
row_entry w n (tree.NewList at) f h = absurd cc
row_entry w n (tree.NewSet at) f h = absurd cc
row_entry w n (tree.NewSetOf at e) f h = absurd cc

plain_there : (w : Setting) (n : ℕ) (e : Expression) → (is_literal e || is_entry w n e) ≡ true → AllByRecursion (IsEntered (entries_of w)) (cond (is_literal e) [] (e ∷ [])) → operand_is_there (lowering w).fragment (operand_of_literal (entries_of w) e) ≡ true
plain_there w n (tree.Lit at x) h a = refl
plain_there w n (tree.Var at x) h a = entry_there w (tree.Var at x) (name_same x) a.0
plain_there w n (tree.Field at e f) h a = entry_there w (tree.Field at e f) (row_entry w n e f h) a.0
plain_there w n (tree.Binary at op x y) h a = absurd cc
plain_there w n (tree.Not at e) h a = absurd cc
plain_there w n (tree.Equals at x y) h a = absurd cc
plain_there w n (tree.Size at x) h a = absurd cc
plain_there w n (tree.Get at x e) h a = absurd cc
plain_there w n (tree.Contains at x e) h a = absurd cc
plain_there w n (tree.Fetch at t) h a = absurd cc
plain_there w n (tree.Query at ty text es) h a = absurd cc
plain_there w n (tree.QueryLong at text es) h a = absurd cc
plain_there w n (tree.QueryBoolean at text es) h a = absurd cc
plain_there w n (tree.NewList at) h a = absurd cc
plain_there w n (tree.NewSet at) h a = absurd cc
plain_there w n (tree.NewSetOf at e) h a = absurd cc

operand_step : (w : Setting) (c : Frame) (n : ℕ) (v : Visited AnyRow c w.types w.sites n) (e : Expression) (k : JavaType) (o : Option RowColumn) → row_column_at w.sites n e ≡ o → HasType c v.now e k → (is_found o || (is_literal e || is_entry w n e)) ≡ true → AllByRecursion (IsEntered (entries_of w)) (cond (is_found o || is_literal e) [] (e ∷ [])) → operand_is_there (lowering w).fragment (operand_of_column w (entries_of w) e o) ≡ true
operand_step w c n v e k None is t h a = plain_there w n e h a
operand_step w c n v e k (Some q) is t h a = loop_there w v.site.round q.loop (column_seen AnyRow c w.types w.sites n v e k q t is).walked

operand_there : (w : Setting) (c : Frame) (n : ℕ) (v : Visited AnyRow c w.types w.sites n) (e : Expression) (k : JavaType) → HasType c v.now e k → is_operand w n e ≡ true → AllByRecursion (IsEntered (entries_of w)) (entry_operand w.sites n e) → operand_is_there (lowering w).fragment (operand_of w (entries_of w) n e) ≡ true
operand_there w c n v e k t h a = operand_step w c n v e k (row_column_at w.sites n e) refl t h a

column_there : (w : Setting) (c : Frame) (n : ℕ) (v : Visited AnyRow c w.types w.sites n) (e : Expression) (k : JavaType) → HasType c v.now e k → is_row_column w.sites n e ≡ true → operand_is_there (lowering w).fragment (operand_of w (entries_of w) n e) ≡ true
column_there w c n v e k t h =
    let q = column_at w.sites n e h in
    ap (λ o. operand_is_there (lowering w).fragment (operand_of_column w (entries_of w) e o)) q.is ∙ loop_there w v.site.round q.column.loop (column_seen AnyRow c w.types w.sites n v e k q.column t q.is).walked

comparison_there : (w : Setting) (op : Op) (a b : Operand) (x : Atom) → IsComparison op a b x → operand_is_there (lowering w).fragment a ≡ true → operand_is_there (lowering w).fragment b ≡ true → atom_is_there (lowering w).fragment x ≡ true
comparison_there w op a b x is h i = of_comparison (atom_is_there (lowering w).fragment) op a b x is (rw (h, i) refl) (rw (h, i) refl) (rw (h, i) refl) (rw (h, i) refl)

flag_there : (w : Setting) (c : Frame) → Checked w c → (d : ℕ) (s : Site) (x : List ℕ) → slice_get w.sites d ≡ Some s → Rattle.loop_text.specs.Sites.Sites.declared_name s.statement ≡ Some x → atom_is_there (lowering w).fragment (flag_reading w d (Some s)).atom ≡ true
flag_there w c is d s x there name =
    let u = flag_updated w c is d s x there name in
    let v : Visited AnyRow c w.types w.sites d = site_visited AnyRow w c is (any_first c w.fragment.loop) (any_nested w c is) d (slice_get_within w.sites d s there) in
    let same : v.site ≡ s = get_same w.sites d v.site s v.there there in
    let loops : loops_are_there (lowering w).fragment (map (loop_number w.sites) s.round.loops) ≡ true = subst (λ (z : Site). loops_are_there (lowering w).fragment (map (loop_number w.sites) z.round.loops) ≡ true) same (chain_there (lowering w).fragment w.sites d v.site.round.loops (lists_count w w.sites) v.round.loops) in
    let low = slice_get_within (lowering w).fragment.accs (Rattle.java_loops.specs.Lowering.Numbering.flag_number w d) _ (flag_at_number w c is d s x u.0 there name u.1) in
    rw (lt-ltb (Rattle.java_loops.specs.Lowering.Numbering.flag_number w d) (length (lowering w).fragment.accs) low, loops) refl

shape_there : (w : Setting) (c : Frame) → Checked w c → (n : ℕ) (v : Visited AnyRow c w.types w.sites n) (e : Expression) → Shape w c v.now n e → AllByRecursion (IsEntered (entries_of w)) (entries_in w.sites n e) → ((x : List ℕ) → asked_name e ≡ Some x → is_among (known_of w) x ≡ true) → atom_is_there (lowering w).fragment (reading_of w (entries_of w) (known_of w) n e).atom ≡ true
shape_there w c is n v _ (compares at op a b ty to takes i h) en kn = comparison_there w op (operand_of w (entries_of w) n a) (operand_of w (entries_of w) n b) _ (comparison_is op (operand_of w (entries_of w) n a) (operand_of w (entries_of w) n b)) (operand_there w c n v a _ h.first h.first_is (all_front (IsEntered (entries_of w)) (entry_operand w.sites n a) (entry_operand w.sites n b) en)) (operand_there w c n v b _ h.second h.second_is (all_back (IsEntered (entries_of w)) (entry_operand w.sites n a) (entry_operand w.sites n b) en))
shape_there w c is n v _ (equals at a b h) en kn = comparison_there w ops.Eq (operand_of w (entries_of w) n a) (operand_of w (entries_of w) n b) _ (same_is ops.Eq (operand_of w (entries_of w) n a) (operand_of w (entries_of w) n b)) (operand_there w c n v a _ h.first h.first_is (all_front (IsEntered (entries_of w)) (entry_operand w.sites n a) (entry_operand w.sites n b) en)) (operand_there w c n v b _ h.second h.second_is (all_back (IsEntered (entries_of w)) (entry_operand w.sites n a) (entry_operand w.sites n b) en))
shape_there w c is n v _ (tests at e f t h) en kn = column_there w c n v (tree.Field at e f) bool t h
shape_there w c is n v _ (reads at x k i h) en kn =
    let f = flag_at AnyRow c w.types w.sites n v x k i h in
    ap (λ b. atom_is_there (lowering w).fragment (bound_reading w b).atom) f.bound
    ∙ ap (λ o. atom_is_there (lowering w).fragment (flag_reading w f.number o).atom) f.declared.there
    ∙ flag_there w c is f.number f.declared.site x f.declared.there f.declared.declares
shape_there w c is n v _ (finds at x e k ty i has t h known) en kn =
    rw (column_there w c n v e _ t h, lt-ltb (number_where (bytes_eq x) (known_of w)) (length (known_of w)) (number_below (bytes_eq x) (known_of w) (kn x refl))) refl

pub zip_all : {A : Type 0} (P Q : A → Type 0) (xs : List A) → AllByRecursion P xs → AllByRecursion Q xs → AllByRecursion (λ x. P x × Q x) xs
zip_all P Q [] a b = tt
zip_all P Q (x ∷ xs) a b = ((a.0, b.0), zip_all P Q xs a.1 b.1)

abbrev LeafIn : Setting → Frame → Leaf → Type 0
LeafIn w c l = LeafStands AnyRow w c l.number l.expression × (LeafEntered w (entries_of w) l × LeafKnown (known_of w) l)

leaves_in : (w : Setting) (c : Frame) → Checked w c → AllByRecursion (LeafIn w c) (all_leaves w.sites)
leaves_in w c is = zip_all (λ (l : Leaf). LeafStands AnyRow w c l.number l.expression) (λ l. LeafEntered w (entries_of w) l × LeafKnown (known_of w) l) (all_leaves w.sites) (leaves_known w c is) (zip_all (LeafEntered w (entries_of w)) (LeafKnown (known_of w)) (all_leaves w.sites) (all_entered w) (all_known [] (all_leaves w.sites)))

-- All that atoms name is there.
pub atoms_there : (w : Setting) (c : Frame) → Checked w c → atoms_are_there (lowering w).fragment ≡ true
unfolding atoms_are_there
atoms_there w c is =
    let test : Atom → Bool = atom_is_there (lowering w).fragment in
    all_to_test test (numbers_of w).atoms (all_atoms (λ a. test a ≡ true) w (entries_of w) (known_of w) [] (all_leaves w.sites) tt
    (all_weaker (LeafIn w c) (λ l. test (atom_of_leaf w (entries_of w) (known_of w) l) ≡ true) (all_leaves w.sites) (λ l p. shape_there w c is l.number p.0.visited l.expression (leaf_shape AnyRow w c l.number l.expression p.0) p.1.0 p.1.1) (leaves_in w c is)))
