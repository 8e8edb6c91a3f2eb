-- What the leaves of conditions name has numbers: their atoms, entry values and known lists.
use Rattle.std.proofs.Common.{◌≡◌, ℕ, zero, suc, ◌+◌, Bool, true, false, List, [], ◌∷◌, Some, None, refl, sym, ap, ◌∙◌, subst, cond, bytes_eq, slice_get, arith}
use Rattle.std.specs.List.{list_any, AllByRecursion}
use Rattle.qbs_base.proofs.Order.{all_more}
use Rattle.sql_ast.proofs.Tools.{all_parts}
use Rattle.java_ast.specs.Tree as tree
use Rattle.java_ast.specs.Tree.{Expression, Statements}
use Rattle.java_mean.proofs.Puts.{name_same}
use Rattle.tor_terms.specs.declared.term.Atom.{Atom}
use Rattle.loop_text.specs.Kernel.KernelConditions.{leaves, asked_for, is_excepted, condition_of}
use Rattle.java_loops.specs.Kernel.KernelConditions.{broken_leaf, broken_unless_excepted, broken_leaves, broken_condition, broken_condition_at, broken_conditions}
use Rattle.java_ast.specs.Names.{Names, is_among}
use Rattle.java_loops.specs.Lowering.Numbering.{with_new, with_all_new, Leaf, leaves_kept, leaves_of, leaves_from, all_leaves, same_entry, entries_in, entries_among, known_with, known_among, arguments_asked, with_arguments, known_of, entries_of, reading_of, same_atom, atoms_among, numbers_of}
use Rattle.java_loops.specs.Kernel.Setting.{Setting}
use Rattle.loop_text.specs.Sites.Sites.{Site}
use Rattle.java_loops.proofs.Numbers.NumberLists.{new_self, new_wider, all_wider, IsThere, all_there}
use Rattle.java_loops.proofs.Numbers.NumberSame.{same_atom-self}
use Rattle.java_loops.proofs.Standing.StandingRules.{first_none, unbroken_at}

-- ---- Atoms

abbrev pub atom_of : Setting → List Expression → Names → Leaf → Atom
atom_of w entries known l = (reading_of w entries known l.number l.expression).atom

module _ (w : Setting) (entries : List Expression) (known : Names) where
  atoms_stay : (a : Atom) (all : List Atom) (ls : List Leaf) → list_any (same_atom a) all ≡ true → list_any (same_atom a) (atoms_among w entries known all ls) ≡ true
  atoms_stay a all [] h = h
  atoms_stay a all (l ∷ ls) h = atoms_stay a (with_new same_atom all (atom_of w entries known l)) ls (new_wider (same_atom a) same_atom all (atom_of w entries known l) h)

  abbrev HasAtom : List Atom → Leaf → Type 0
  HasAtom all l = list_any (same_atom (atom_of w entries known l)) all ≡ true

  atoms_there : (all : List Atom) (ls : List Leaf) → AllByRecursion (HasAtom (atoms_among w entries known all ls)) ls
  atoms_there all [] = tt
  atoms_there all (l ∷ ls) =
      let more : List Atom = with_new same_atom all (atom_of w entries known l) in
      (atoms_stay (atom_of w entries known l) more ls (new_self same_atom all (atom_of w entries known l) (same_atom-self (atom_of w entries known l))), atoms_there more ls)

-- ---- Entry values

entries_stay : (sites : List Site) (e : Expression) (es : List Expression) (ls : List Leaf) → list_any (same_entry e) es ≡ true → list_any (same_entry e) (entries_among sites es ls) ≡ true
entries_stay sites e es [] h = h
entries_stay sites e es (l ∷ ls) h = entries_stay sites e (with_all_new same_entry es (entries_in sites l.number l.expression)) ls (all_wider (same_entry e) same_entry es (entries_in sites l.number l.expression) h)

arguments_stay : (run : Statements) (e : Expression) (es : List Expression) (xs : Names) → list_any (same_entry e) es ≡ true → list_any (same_entry e) (with_arguments run es xs) ≡ true
arguments_stay run e es [] h = h
arguments_stay run e es (x ∷ xs) h = arguments_stay run e (with_all_new same_entry es (arguments_asked (asked_for run x))) xs (all_wider (same_entry e) same_entry es (arguments_asked (asked_for run x)) h)

abbrev HasEntries : List Site → List Expression → Leaf → Type 0
HasEntries sites all l = AllByRecursion (IsThere same_entry all) (entries_in sites l.number l.expression)

entries_there : (sites : List Site) (es : List Expression) (ls : List Leaf) → AllByRecursion (HasEntries sites (entries_among sites es ls)) ls
entries_there sites es [] = tt
entries_there sites es (l ∷ ls) =
    let here : List Expression = entries_in sites l.number l.expression in
    let more : List Expression = with_all_new same_entry es here in
    (all_more (IsThere same_entry more) (IsThere same_entry (entries_among sites more ls)) (λ e h k. entries_stay sites e more ls (h k)) here (all_there same_entry es here), entries_there sites more ls)

entries_known : (w : Setting) → AllByRecursion (HasEntries w.sites (entries_of w)) (all_leaves w.sites)
entries_known w =
    let among : List Expression = entries_among w.sites [] (all_leaves w.sites) in
    all_more (HasEntries w.sites among) (HasEntries w.sites (entries_of w)) (λ l h. all_more (IsThere same_entry among) (IsThere same_entry (entries_of w)) (λ e i k. arguments_stay w.fragment.run e among (known_of w) (i k)) (entries_in w.sites l.number l.expression) h) (all_leaves w.sites) (entries_there w.sites [] (all_leaves w.sites))

-- ---- Known lists

-- the variable of a leaf's known list
abbrev pub known_in : Expression → Names
known_in (tree.Contains at x e) = x ∷ []
known_in _ = []

known_step : (ids : Names) (y : List ℕ) (e : Expression) → is_among ids y ≡ true → is_among (known_with ids e) y ≡ true
known_step ids z (tree.Contains at x e) h = new_wider (bytes_eq z) bytes_eq ids x h
known_step ids z (tree.Lit at v) h = h
known_step ids z (tree.Var at y) h = h
known_step ids z (tree.Field at a name) h = h
known_step ids z (tree.Binary at op p q) h = h
known_step ids z (tree.Not at a) h = h
known_step ids z (tree.Equals at p q) h = h
known_step ids z (tree.Size at y) h = h
known_step ids z (tree.Get at y a) h = h
known_step ids z (tree.Fetch at t) h = h
known_step ids z (tree.Query at ty text es) h = h
known_step ids z (tree.QueryLong at text es) h = h
known_step ids z (tree.QueryBoolean at text es) h = h
known_step ids z (tree.NewList at) h = h
known_step ids z (tree.NewSet at) h = h
known_step ids z (tree.NewSetOf at a) h = h

known_stays : (ids : Names) (x : List ℕ) (ls : List Leaf) → is_among ids x ≡ true → is_among (known_among ids ls) x ≡ true
known_stays ids x [] h = h
known_stays ids x (l ∷ ls) h = known_stays (known_with ids l.expression) x ls (known_step ids x l.expression h)

abbrev HasName : Names → List ℕ → Type 0
HasName ids x = is_among ids x ≡ true

known_self : (ids : Names) (e : Expression) → AllByRecursion (HasName (known_with ids e)) (known_in e)
known_self ids (tree.Contains at x e) = (new_self bytes_eq ids x (name_same x), tt)
known_self ids (tree.Lit at v) = tt
known_self ids (tree.Var at y) = tt
known_self ids (tree.Field at a name) = tt
known_self ids (tree.Binary at op p q) = tt
known_self ids (tree.Not at a) = tt
known_self ids (tree.Equals at p q) = tt
known_self ids (tree.Size at y) = tt
known_self ids (tree.Get at y a) = tt
known_self ids (tree.Fetch at t) = tt
known_self ids (tree.Query at ty text es) = tt
known_self ids (tree.QueryLong at text es) = tt
known_self ids (tree.QueryBoolean at text es) = tt
known_self ids (tree.NewList at) = tt
known_self ids (tree.NewSet at) = tt
known_self ids (tree.NewSetOf at a) = tt

abbrev HasKnown : Names → Leaf → Type 0
HasKnown ids l = AllByRecursion (HasName ids) (known_in l.expression)

known_there : (ids : Names) (ls : List Leaf) → AllByRecursion (HasKnown (known_among ids ls)) ls
known_there ids [] = tt
known_there ids (l ∷ ls) =
    let more : Names = known_with ids l.expression in
    (all_more (HasName more) (HasName (known_among more ls)) (λ x h. known_stays more x ls h) (known_in l.expression) (known_self ids l.expression), known_there more ls)

-- ---- Leaves

-- what a leaf of the `if` with this number names has numbers
pub record LeafKnown (w : Setting) (n : ℕ) (e : Expression) : Type 0 where
  pub atom : list_any (same_atom (reading_of w (entries_of w) (known_of w) n e).atom) (numbers_of w).atoms ≡ true
  pub entries : AllByRecursion (IsThere same_entry (entries_of w)) (entries_in w.sites n e)
  pub known : AllByRecursion (λ x. is_among (known_of w) x ≡ true) (known_in e)

abbrev IsKnownLeaf : Setting → Leaf → Type 0
IsKnownLeaf w l = LeafKnown w l.number l.expression

leaves_known : (w : Setting) (ls : List Leaf) → AllByRecursion (HasAtom w (entries_of w) (known_of w) (numbers_of w).atoms) ls → AllByRecursion (HasEntries w.sites (entries_of w)) ls → AllByRecursion (HasKnown (known_of w)) ls → AllByRecursion (IsKnownLeaf w) ls
leaves_known w [] a b k = tt
leaves_known w (l ∷ ls) a b k = (record { atom = a.0; entries = b.0; known = k.0 }, leaves_known w ls a.1 b.1 k.1)

all_known : (w : Setting) → AllByRecursion (IsKnownLeaf w) (all_leaves w.sites)
all_known w = leaves_known w (all_leaves w.sites) (atoms_there w (entries_of w) (known_of w) [] (all_leaves w.sites)) (entries_known w) (known_there [] (all_leaves w.sites))

-- ---- The leaves of one `if`

leaves_here : (P : Leaf → Type 0) (sites : List Site) (k m : ℕ) (x s : Site) → k ≡ m → x ≡ s → AllByRecursion P (leaves_of sites k (condition_of x.statement)) → AllByRecursion P (leaves_of sites m (condition_of s.statement))
leaves_here P sites k m x s e q h = subst (λ (y : Site). AllByRecursion P (leaves_of sites m (condition_of y.statement))) q (subst (λ i. AllByRecursion P (leaves_of sites i (condition_of x.statement))) e h)

leaves_at : (P : Leaf → Type 0) (sites : List Site) (k n m : ℕ) (ss : List Site) (s : Site) → k + n ≡ m → AllByRecursion P (leaves_from sites k ss) → slice_get ss n ≡ Some s → AllByRecursion P (leaves_of sites m (condition_of s.statement))
leaves_at P sites k n m [] s e h q = absurd cc
leaves_at P sites k zero m (x ∷ xs) s e h q = let same : x ≡ s = cc in leaves_here P sites k m x s (omega arith) same (all_parts P (leaves_of sites k (condition_of x.statement)) (leaves_from sites (suc k) xs) h).0
leaves_at P sites k (suc n) m (x ∷ xs) s e h q = leaves_at P sites (suc k) n m xs s (omega arith) (all_parts P (leaves_of sites k (condition_of x.statement)) (leaves_from sites (suc k) xs) h).1 q

-- A leaf breaks no rule, and what it names has numbers, unless it is the conjunct of a best value.
pub record LeafFits (w : Setting) (n : ℕ) (e : Expression) : Type 0 where
  pub unbroken : broken_leaf w n e ≡ None
  pub known : LeafKnown w n e

abbrev pub FitsUnless : Setting → ℕ → Expression → Type 0
FitsUnless w n e = is_excepted w.sites n e ≡ false → LeafFits w n e

leaf_step : (w : Setting) (n : ℕ) (e : Expression) (ls : List Leaf) (b : Bool) → is_excepted w.sites n e ≡ b → cond b None (broken_leaf w n e) ≡ None → AllByRecursion (IsKnownLeaf w) (cond b ls (record { number = n; expression = e } ∷ ls)) → FitsUnless w n e × AllByRecursion (IsKnownLeaf w) ls
leaf_step w n e ls true q h k = ((λ f. absurd cc), k)
leaf_step w n e ls false q h k = ((λ f. record { unbroken = h; known = k.0 }), k.1)

leaves_fit : (w : Setting) (n : ℕ) (es : List Expression) → broken_leaves w n es ≡ None → AllByRecursion (IsKnownLeaf w) (leaves_kept w.sites n es) → AllByRecursion (FitsUnless w n) es
leaves_fit w n [] h k = tt
leaves_fit w n (e ∷ es) h k =
    let two = first_none (broken_unless_excepted w n e) (broken_leaves w n es) h in
    let both = leaf_step w n e (leaves_kept w.sites n es) (is_excepted w.sites n e) refl two.0 k in
    (both.0, leaves_fit w n es two.1 both.1)

-- The leaves of each condition fit, where no condition breaks the rule.
pub condition_fits : (w : Setting) → broken_conditions w ≡ None → (n : ℕ) (s : Site) (c : Expression) → slice_get w.sites n ≡ Some s → condition_of s.statement ≡ Some c → AllByRecursion (FitsUnless w n) (leaves c)
condition_fits w h n s c there is =
    let known : AllByRecursion (IsKnownLeaf w) (leaves_of w.sites n (condition_of s.statement)) = leaves_at (IsKnownLeaf w) w.sites 0 n n w.sites s (omega arith) (all_known w) there in
    leaves_fit w n (leaves c) (ap (broken_condition w n) (sym is) ∙ unbroken_at (broken_condition_at w) w.sites h n s there) (subst (λ o. AllByRecursion (IsKnownLeaf w) (leaves_of w.sites n o)) is known)
