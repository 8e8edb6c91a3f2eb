-- There are no more known lists than atoms: each has an atom of its own, with its number.
use Rattle.std.proofs.Common.{◌≡◌, ℕ, suc, ◌+◌, ◌<◌, ◌≤◌, Bool, true, false, ◌&&◌, ◌||◌, List, [], ◌∷◌, ◌++◌, length, Option, Some, None, refl, sym, ap, ◌∙◌, subst, cond, arith, length-append, append_assoc, bytes_eq, nat_eq, nat_lt, slice_get}
use Rattle.std.specs.List.{AllByRecursion, list_any}
use Rattle.std.proofs.lemmas.Bool.{or_left, or_right}
use Rattle.std.proofs.lemmas.Bool.Decides.{nat_tests}
use Rattle.std.proofs.lemmas.List.Folds.{list_any-append}
use Rattle.java_ast.specs.Tree as tree
use Rattle.java_ast.specs.Tree.{Expression}
use Rattle.java_mean.proofs.Puts.{name_same}
use Rattle.tor_terms.specs.declared.term.Atom.{Atom}
use Rattle.tor_terms.specs.declared.term.Atom.TheVariants as atoms
use Rattle.tor_terms.specs.declared.term.Operand.{Operand}
use Rattle.tor_terms.specs.Truth.{same_operand}
use Rattle.java_ast.specs.Names.{Names, is_among}
use Rattle.java_loops.specs.Lowering.Numbering.{with_new, number_where, Leaf, all_leaves, known_with, known_among, known_of, entries_of, operand_of, flag_reading, bound_reading, reading_of, compared, same_of, same_atom, atoms_among, numbers_of}
use Rattle.java_loops.specs.Kernel.Setting.{Setting}
use Rattle.loop_text.specs.declared.sites.bindings.Binding.{Binding}
use Rattle.loop_text.specs.declared.sites.bindings.Binding.TheVariants.{Row, Local, Outer}
use Rattle.loop_text.specs.Sites.Sites.{Site, binding_at}
use Rattle.java_ast.specs.declared.tree.Op.TheVariants as ops
use Rattle.java_loops.proofs.Lists.UpTo.{new_grows}
use Rattle.java_loops.proofs.Valid.ValidNumbers.{all_with}
use Rattle.java_loops.proofs.Valid.ValidOperands.{comparison_is, same_is, of_comparison}

-- ---- Numbers in a list that goes on

within_step : {A : Type 0} (test : A → Bool) (x : A) (xs more : List A) (b : Bool) → test x ≡ b → (b || list_any test xs) ≡ true → (list_any test xs ≡ true → number_where test (xs ++ more) < length xs) → cond b 0 (suc (number_where test (xs ++ more))) < suc (length xs)
within_step test x xs more true e h next = omega arith
within_step test x xs more false e h next = let k : number_where test (xs ++ more) < length xs = next h in omega arith

-- what is found among the first has a number among theirs
number_within : {A : Type 0} (test : A → Bool) (xs more : List A) → list_any test xs ≡ true → number_where test (xs ++ more) < length xs
number_within test [] more h = absurd cc
number_within test (x ∷ xs) more h = within_step test x xs more (test x) refl h (λ k. number_within test xs more k)

behind_step : {A : Type 0} (test : A → Bool) (x : A) (xs more : List A) (b : Bool) → test x ≡ b → (b || list_any test xs) ≡ false → (list_any test xs ≡ false → length xs ≤ number_where test (xs ++ more)) → suc (length xs) ≤ cond b 0 (suc (number_where test (xs ++ more)))
behind_step test x xs more true e h next = absurd cc
behind_step test x xs more false e h next = let k : length xs ≤ number_where test (xs ++ more) = next h in omega arith

-- what isn't found among the first has a number behind theirs
number_behind : {A : Type 0} (test : A → Bool) (xs more : List A) → list_any test xs ≡ false → length xs ≤ number_where test (xs ++ more)
number_behind test [] more h = omega arith
number_behind test (x ∷ xs) more h = behind_step test x xs more (test x) refl h (λ k. number_behind test xs more k)

-- ---- Numbers of known lists in atoms

-- an atom names no known list from this number on
abbrev is_below : ℕ → Atom → Bool
is_below n (atoms.Member a q) = nat_lt q n
is_below n _ = true

abbrev IsBelow : ℕ → Atom → Type 0
IsBelow n a = is_below n a ≡ true

number_below : (q n : ℕ) → nat_lt q n ≡ true → q < n
number_below q n h = grind (arith, nat_tests)

below_number : (q n : ℕ) → q < n → nat_lt q n ≡ true
below_number q n h = grind (arith, nat_tests)

numbers_apart : (q r : ℕ) → r < q → nat_eq q r ≡ false
numbers_apart q r h = grind (arith, nat_tests)

below_more : (n m : ℕ) → n ≤ m → (a : Atom) → IsBelow n a → IsBelow m a
below_more n m h (atoms.Member a q) b = let k : q < n = number_below q n b in below_number q m (omega arith)
below_more n m h (atoms.Less a c) b = refl
below_more n m h (atoms.Same a c) b = refl
below_more n m h (atoms.Truth a) b = refl
below_more n m h (atoms.Flag k loops) b = refl

all_below_more : (n m : ℕ) → n ≤ m → (all : List Atom) → AllByRecursion (IsBelow n) all → AllByRecursion (IsBelow m) all
all_below_more n m h [] b = tt
all_below_more n m h (a ∷ all) b = (below_more n m h a b.0, all_below_more n m h all b.1)

and_false : (b c : Bool) → c ≡ false → (b && c) ≡ false
and_false true c h = h
and_false false c h = refl

or_false : (b c : Bool) → b ≡ false → c ≡ false → (b || c) ≡ false
or_false true c h k = absurd cc
or_false false c h k = k

member_apart : (n q : ℕ) (a : Operand) → n ≤ q → (b : Atom) → IsBelow n b → same_atom (atoms.Member a q) b ≡ false
member_apart n q a h (atoms.Member c r) b = let k : r < n = number_below r n b in and_false (same_operand a c) (nat_eq q r) (numbers_apart q r (omega arith))
member_apart n q a h (atoms.Less c d) b = refl
member_apart n q a h (atoms.Same c d) b = refl
member_apart n q a h (atoms.Truth c) b = refl
member_apart n q a h (atoms.Flag k loops) b = refl

-- an atom of a further known list isn't there yet
member_new : (n q : ℕ) (a : Operand) → n ≤ q → (all : List Atom) → AllByRecursion (IsBelow n) all → list_any (same_atom (atoms.Member a q)) all ≡ false
member_new n q a h [] b = refl
member_new n q a h (x ∷ all) b = or_false (same_atom (atoms.Member a q) x) (list_any (same_atom (atoms.Member a q)) all) (member_apart n q a h x b.0) (member_new n q a h all b.1)

-- ---- Atoms that name no known list

flag_below : (n : ℕ) (w : Setting) (d : ℕ) (o : Option Site) → IsBelow n (flag_reading w d o).atom
flag_below n w d (Some s) = refl
flag_below n w d None = refl

bound_below : (n : ℕ) (w : Setting) (b : Binding) → IsBelow n (bound_reading w b).atom
bound_below n w (Local d) = flag_below n w d (slice_get w.sites d)
bound_below n w (Row d) = refl
bound_below n w Outer = refl

-- ---- One leaf more

record Few (ids : Names) (all : List Atom) : Type 0 where
  below : AllByRecursion (IsBelow (length ids)) all
  few : length ids ≤ length all

other_leaf : (ids : Names) (all : List Atom) (a : Atom) → Few ids all → IsBelow (length ids) a → Few ids (with_new same_atom all a)
other_leaf ids all a f b =
    let h : length ids ≤ length all = f.few in
    let g : length all ≤ length (with_new same_atom all a) = new_grows same_atom all a in
    record { below = all_with (IsBelow (length ids)) same_atom all a f.below b; few = omega arith }

one_more : (x : List ℕ) (ids : Names) → is_among (ids ++ x ∷ []) x ≡ true
one_more x ids = list_any-append (bytes_eq x) ids (x ∷ []) ∙ or_right (is_among ids x) (bytes_eq x x || false) (or_left (bytes_eq x x) false (name_same x))

new_member : (ids : Names) (all : List Atom) (x : List ℕ) (a : Operand) (q : ℕ) (b : Bool) → list_any (same_atom (atoms.Member a q)) all ≡ b → b ≡ false → Few ids all → length ids ≤ length all → length (ids ++ x ∷ []) ≤ length (cond b all (all ++ atoms.Member a q ∷ []))
new_member ids all x a q true e h f k = absurd cc
new_member ids all x a q false e h f k =
    let m : length (ids ++ x ∷ []) ≡ length ids + 1 = length-append ids (x ∷ []) in
    let n : length (all ++ atoms.Member a q ∷ []) ≡ length all + 1 = length-append all (atoms.Member a q ∷ []) in
    omega arith

known_leaf : (ids more : Names) (all : List Atom) (x : List ℕ) (a : Operand) (q : ℕ) (known : Names) (b : Bool) → is_among ids x ≡ b → known ≡ cond b ids (ids ++ x ∷ []) ++ more → q ≡ number_where (bytes_eq x) known → Few ids all → Few (cond b ids (ids ++ x ∷ [])) (with_new same_atom all (atoms.Member a q))
known_leaf ids more all x a q known true e is number f =
    let k : number_where (bytes_eq x) (ids ++ more) < length ids = number_within (bytes_eq x) ids more e in
    let same : q ≡ number_where (bytes_eq x) (ids ++ more) = number ∙ ap (number_where (bytes_eq x)) is in
    other_leaf ids all (atoms.Member a q) f (below_number q (length ids) (omega arith))
known_leaf ids more all x a q known false e is number f =
    let longer : Names = ids ++ x ∷ [] in
    let k : number_where (bytes_eq x) ((ids ++ x ∷ []) ++ more) < length (ids ++ x ∷ []) = number_within (bytes_eq x) (ids ++ x ∷ []) more (one_more x ids) in
    let same : q ≡ number_where (bytes_eq x) ((ids ++ x ∷ []) ++ more) = number ∙ ap (number_where (bytes_eq x)) is in
    let j : length ids ≤ number_where (bytes_eq x) (ids ++ (x ∷ [] ++ more)) = number_behind (bytes_eq x) ids (x ∷ [] ++ more) e in
    let also : number_where (bytes_eq x) ((ids ++ x ∷ []) ++ more) ≡ number_where (bytes_eq x) (ids ++ (x ∷ [] ++ more)) = ap (number_where (bytes_eq x)) (append_assoc ids (x ∷ []) more) in
    let m : length (ids ++ x ∷ []) ≡ length ids + 1 = length-append ids (x ∷ []) in
    record {
      below =
          all_with (IsBelow (length (ids ++ x ∷ []))) same_atom all (atoms.Member a q) (all_below_more (length ids) (length (ids ++ x ∷ [])) (omega arith) all f.below)
          (below_number q (length (ids ++ x ∷ [])) (omega arith));
      few = new_member ids all x a q (list_any (same_atom (atoms.Member a q)) all) refl (member_new (length ids) q a (omega arith) all f.below) f f.few;
    }

next_leaf : (w : Setting) (entries : List Expression) (known ids more : Names) (all : List Atom) (n : ℕ) (e : Expression) → known ≡ known_with ids e ++ more → Few ids all → Few (known_with ids e) (with_new same_atom all (reading_of w entries known n e).atom)
next_leaf w entries known ids more all n (tree.Contains at x a) is f =
    known_leaf ids more all x (operand_of w entries n a) (number_where (bytes_eq x) known) known (is_among ids x) refl is refl f
next_leaf w entries known ids more all n (tree.Binary at op a b) is f =
    other_leaf ids all (compared op (operand_of w entries n a) (operand_of w entries n b)).atom f
    (of_comparison (is_below (length ids)) op (operand_of w entries n a) (operand_of w entries n b) (compared op (operand_of w entries n a) (operand_of w entries n b)).atom (comparison_is op (operand_of w entries n a) (operand_of w entries n b)) refl refl refl refl)
next_leaf w entries known ids more all n (tree.Equals at a b) is f =
    other_leaf ids all (same_of (operand_of w entries n a) (operand_of w entries n b)) f
    (of_comparison (is_below (length ids)) ops.Eq (operand_of w entries n a) (operand_of w entries n b) (same_of (operand_of w entries n a) (operand_of w entries n b)) (same_is ops.Eq (operand_of w entries n a) (operand_of w entries n b)) refl refl refl refl)
next_leaf w entries known ids more all n (tree.Var at x) is f = other_leaf ids all (bound_reading w (binding_at w.sites n x)).atom f (bound_below (length ids) w (binding_at w.sites n x))
next_leaf w entries known ids more all n (tree.Lit at v) is f = other_leaf ids all (reading_of w entries known n (tree.Lit at v)).atom f refl
next_leaf w entries known ids more all n (tree.Field at a name) is f = other_leaf ids all (reading_of w entries known n (tree.Field at a name)).atom f refl
next_leaf w entries known ids more all n (tree.Not at a) is f = other_leaf ids all (reading_of w entries known n (tree.Not at a)).atom f refl
next_leaf w entries known ids more all n (tree.Size at x) is f = other_leaf ids all (reading_of w entries known n (tree.Size at x)).atom f refl
next_leaf w entries known ids more all n (tree.Get at x a) is f = other_leaf ids all (reading_of w entries known n (tree.Get at x a)).atom f refl
next_leaf w entries known ids more all n (tree.Fetch at t) is f = other_leaf ids all (reading_of w entries known n (tree.Fetch at t)).atom f refl
next_leaf w entries known ids more all n (tree.Query at ty text es) is f = other_leaf ids all (reading_of w entries known n (tree.Query at ty text es)).atom f refl
next_leaf w entries known ids more all n (tree.QueryLong at text es) is f = other_leaf ids all (reading_of w entries known n (tree.QueryLong at text es)).atom f refl
next_leaf w entries known ids more all n (tree.QueryBoolean at text es) is f = other_leaf ids all (reading_of w entries known n (tree.QueryBoolean at text es)).atom f refl
next_leaf w entries known ids more all n (tree.NewList at) is f = other_leaf ids all (reading_of w entries known n (tree.NewList at)).atom f refl
next_leaf w entries known ids more all n (tree.NewSet at) is f = other_leaf ids all (reading_of w entries known n (tree.NewSet at)).atom f refl
next_leaf w entries known ids more all n (tree.NewSetOf at a) is f = other_leaf ids all (reading_of w entries known n (tree.NewSetOf at a)).atom f refl

-- ---- All leaves

-- known lists that are found stay the first ones
record GoesOn (ids known : Names) : Type 0 where
  more : Names
  is : known ≡ ids ++ more

name_stays : (ids : Names) (x : List ℕ) (known : Names) (b : Bool) → GoesOn (cond b ids (ids ++ x ∷ [])) known → GoesOn ids known
name_stays ids x known true g = g
name_stays ids x known false g = record { more = x ∷ [] ++ g.more; is = g.is ∙ append_assoc ids (x ∷ []) g.more }

names_stay : (ids : Names) (e : Expression) (known : Names) → GoesOn (known_with ids e) known → GoesOn ids known
names_stay ids (tree.Contains at x a) known g = name_stays ids x known (is_among ids x) g
names_stay ids (tree.Lit at v) known g = g
names_stay ids (tree.Var at x) known g = g
names_stay ids (tree.Field at a name) known g = g
names_stay ids (tree.Binary at op a b) known g = g
names_stay ids (tree.Not at a) known g = g
names_stay ids (tree.Equals at a b) known g = g
names_stay ids (tree.Size at x) known g = g
names_stay ids (tree.Get at x a) known g = g
names_stay ids (tree.Fetch at t) known g = g
names_stay ids (tree.Query at ty text es) known g = g
names_stay ids (tree.QueryLong at text es) known g = g
names_stay ids (tree.QueryBoolean at text es) known g = g
names_stay ids (tree.NewList at) known g = g
names_stay ids (tree.NewSet at) known g = g
names_stay ids (tree.NewSetOf at a) known g = g

all_stay : (ids : Names) (ls : List Leaf) → GoesOn ids (known_among ids ls)
all_stay ids [] = record { more = []; is = sym (nothing_more ids) }
  where
    nothing_more : (xs : Names) → xs ++ [] ≡ xs
    nothing_more [] = refl
    nothing_more (x ∷ xs) = ap (λ (l : Names). x ∷ l) (nothing_more xs)
all_stay ids (l ∷ ls) = names_stay ids l.expression (known_among (known_with ids l.expression) ls) (all_stay (known_with ids l.expression) ls)

known_below : (w : Setting) (entries : List Expression) (known ids : Names) (all : List Atom) (ls : List Leaf) → known_among ids ls ≡ known → Few ids all → length known ≤ length (atoms_among w entries known all ls)
known_below w entries known ids all [] is f = let h : length ids ≤ length all = f.few in let e : length ids ≡ length known = ap length is in omega arith
known_below w entries known ids all (l ∷ ls) is f =
    let g : GoesOn (known_with ids l.expression) known = subst (λ (k : Names). GoesOn (known_with ids l.expression) k) is (all_stay (known_with ids l.expression) ls) in
    known_below w entries known (known_with ids l.expression) (with_new same_atom all (reading_of w entries known l.number l.expression).atom) ls is (next_leaf w entries known ids g.more all l.number l.expression g.is f)

-- There are at least as many atoms as known lists.
pub known_few : (w : Setting) → length (known_of w) ≤ length (numbers_of w).atoms
known_few w = known_below w (entries_of w) (known_of w) [] [] (all_leaves w.sites) refl (record { below = tt; few = omega arith })
