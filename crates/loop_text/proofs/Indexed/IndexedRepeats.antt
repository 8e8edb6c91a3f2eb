-- An update of what was updated before.
use Rattle.std.specs.Prelude.{if◌then◌else◌}
use Rattle.std.proofs.Common.{◌≡◌, ◌≤◌, ◌<◌, ℕ, zero, suc, Bool, true, false, not, ◌&&◌, ◌||◌, List, [], ◌∷◌, Option, Some, None, take, bytes_eq, nat_eq, slice_get, refl, sym, ap, ◌∙◌, subst, arith, eqb-true}
use Rattle.java_ast.specs.Tree.{Statement}
use Rattle.java_ast.specs.Tree as plain
use Rattle.loop_text.proofs.Trees.SameNames.{names_equal, name_same}
use Rattle.loop_text.specs.Sites.Bound.{bound_name, bound_as}
use Rattle.loop_text.specs.Statements.Fragment.{is_name}
use Rattle.loop_text.specs.Sites.Indexed.{repeated_by, repeated_name}
use Rattle.loop_text.specs.Kernel.KernelStarts.{updates_name}
use Rattle.loop_text.specs.Kernel.KernelStatements.{is_row, same_target, target_bound, target_binding, is_repeated, updates_local}
use Rattle.loop_text.specs.Sites.Sites.{Site, Binding, Row, Local, Outer, bound_by, bound_after, binding_at, same_binding, is_some, target_of, declared_name, any_site}
use Rattle.loop_text.proofs.Indexed.BoundFound.{bound_step}
use Rattle.loop_text.proofs.Indexed.ChainFlagSites.{local_declared}
use Rattle.loop_text.proofs.Indexed.GroupedNumbers.{both_same}
use Rattle.loop_text.proofs.Indexed.IndexedSites.{first_ones}

-- ---- Variables from outside of the loop

named_outer : (n : ℕ) (s : Statement) → bound_as n s ≡ Outer → ⊥
named_outer n (plain.Declare at ty y e) h = absurd cc
named_outer n (plain.Assign at y e) h = absurd cc
named_outer n (plain.Add at y e) h = absurd cc
named_outer n (plain.Sort at y keys downs) h = absurd cc
named_outer n (plain.If at c p) h = absurd cc
named_outer n (plain.IfElse at c p q) h = absurd cc
named_outer n (plain.ForEach at ty y e p) h = absurd cc
named_outer n (plain.While at c p) h = absurd cc
named_outer n (plain.Print at e) h = absurd cc
named_outer n (plain.Return at e) h = absurd cc
named_outer n (plain.Break at) h = absurd cc

outer_by : (t : Bool) (n : ℕ) (s : Statement) (b : Binding) → (if t then bound_as n s else b) ≡ Outer → b ≡ Outer
outer_by true n s b h = absurd (named_outer n s h)
outer_by false n s b h = h

outer_behind : (x : List ℕ) (k : ℕ) (b : Binding) (ss : List Site) → bound_after x k b ss ≡ Outer → b ≡ Outer
outer_behind x k b [] h = h
outer_behind x k b (s ∷ ss) h = outer_by (is_name (bound_name s.statement) x) k s.statement b (sym (bound_step x k s.statement b) ∙ outer_behind x (suc k) (bound_by x k s.statement b) ss h)

outer_from : (x : List ℕ) (k m n : ℕ) (ss : List Site) → m ≤ n → bound_after x k Outer (take n ss) ≡ Outer → bound_after x k Outer (take m ss) ≡ Outer
outer_from x k zero zero [] l h = refl
outer_from x k (suc m) zero [] l h = refl
outer_from x k zero (suc n) [] l h = refl
outer_from x k (suc m) (suc n) [] l h = refl
outer_from x k zero n (s ∷ ss) l h = refl
outer_from x k (suc m) zero (s ∷ ss) l h = absurd (omega (arith, l))
outer_from x k (suc m) (suc n) (s ∷ ss) l h =
    let e : bound_by x k s.statement Outer ≡ Outer = outer_behind x (suc k) (bound_by x k s.statement Outer) (take n ss) h in
    ap (λ (b : Binding). bound_after x (suc k) b (take m ss)) e
    ∙ outer_from x (suc k) m n ss (omega (arith, l)) (sym (ap (λ (b : Binding). bound_after x (suc k) b (take n ss)) e) ∙ h)

-- what is declared nowhere before a site isn't declared before an earlier one
outer_before : (sites : List Site) (x : List ℕ) (m n : ℕ) → m ≤ n → binding_at sites n x ≡ Outer → binding_at sites m x ≡ Outer
outer_before sites x m n l h = outer_from x 0 m n sites l h

and_false : (b : Bool) → (b && false) ≡ false
and_false true = refl
and_false false = refl

same_outer : (sites : List Site) (x y : List ℕ) (m : ℕ) (t : Bool) → binding_at sites m x ≡ Outer → bytes_eq x y ≡ t → (t && same_binding Outer (binding_at sites m y)) ≡ t
same_outer sites x y m true h e = ap (same_binding Outer) (ap (binding_at sites m) (sym (names_equal x y e)) ∙ h)
same_outer sites x y m false h e = refl

shares_outer : (sites : List Site) (x : List ℕ) (n m : ℕ) (o : Option (List ℕ)) → m < n → binding_at sites n x ≡ Outer → same_target (Some x) Outer o (target_bound sites m o) ≡ is_name o x
shares_outer sites x n m None l h = refl
shares_outer sites x n m (Some y) l h = same_outer sites x y m (bytes_eq x y) (outer_before sites x m n (omega (arith, l)) h) refl

-- ---- Variables of the loop

one_site : (a b : Site) (o : Option Site) (x y : List ℕ) → o ≡ Some a → o ≡ Some b → declared_name a.statement ≡ Some x → declared_name b.statement ≡ Some y → x ≡ y
one_site a b o x y e f g h =
    let same : a ≡ b = cc in
    let names : Some x ≡ Some y = sym g ∙ ap (λ (s : Site). declared_name s.statement) same ∙ h in
    cc

one_name : (sites : List Site) (x y : List ℕ) (n m d : ℕ) → binding_at sites n x ≡ Local d → binding_at sites m y ≡ Local d → x ≡ y
one_name sites x y n m d h g =
    let a = local_declared sites n d x h in
    let b = local_declared sites m d y g in
    one_site a.site b.site (slice_get sites d) x y a.there b.there a.name b.name

same_local : (sites : List Site) (x y : List ℕ) (n m d e : ℕ) (t : Bool) → binding_at sites n x ≡ Local d → binding_at sites m y ≡ Local e → nat_eq d e ≡ t → (bytes_eq x y && t) ≡ nat_eq e d
same_local sites x y n m d e true h g f =
    let is : x ≡ y = one_name sites x y n m d h (g ∙ ap Local (sym (eqb-true d e f))) in
    ap (λ (b : Bool). b && true) (subst (λ z. bytes_eq x z ≡ true) is (name_same x)) ∙ sym f ∙ both_same d e
same_local sites x y n m d e false h g f = and_false (bytes_eq x y) ∙ sym f ∙ both_same d e

same_flag : (sites : List Site) (x y : List ℕ) (n m d : ℕ) (b : Binding) → binding_at sites n x ≡ Local d → binding_at sites m y ≡ b → (bytes_eq x y && same_binding (Local d) b) ≡ same_binding b (Local d)
same_flag sites x y n m d (Row j) h g = and_false (bytes_eq x y)
same_flag sites x y n m d (Local e) h g = same_local sites x y n m d e (nat_eq d e) h g refl
same_flag sites x y n m d Outer h g = and_false (bytes_eq x y)

shares_local : (sites : List Site) (x : List ℕ) (n m d : ℕ) (o : Option (List ℕ)) → binding_at sites n x ≡ Local d → same_target (Some x) (Local d) o (target_bound sites m o) ≡ (is_some o && same_binding (target_bound sites m o) (Local d))
shares_local sites x n m d None h = refl
shares_local sites x n m d (Some y) h = same_flag sites x y n m d (binding_at sites m y) h refl

-- ---- An update

-- whether something before a site updates the target with this binding
abbrev shared : List Site → ℕ → Option (List ℕ) → Binding → Bool
shared sites n o b = not (is_row b) && any_site (λ m t. same_target o b (target_of t.statement) (target_binding sites m t)) 0 (take n sites)

never : (f : ℕ → Site → Bool) (k : ℕ) (ss : List Site) → ((m : ℕ) (t : Site) → f m t ≡ false) → any_site f k ss ≡ false
never f k [] h = refl
never f k (s ∷ ss) h = ap (λ b. b || any_site f (suc k) ss) (h k s) ∙ never f (suc k) ss h

nothing_shared : (sites : List Site) (n : ℕ) → shared sites n None Outer ≡ false
nothing_shared sites n = never (λ m t. same_target None Outer (target_of t.statement) (target_binding sites m t)) 0 (take n sites) (λ m t. refl)

name_shared : (sites : List Site) (n : ℕ) (x : List ℕ) (b : Binding) → binding_at sites n x ≡ b → shared sites n (Some x) b ≡ repeated_by sites n x b
name_shared sites n x (Row j) h = refl
name_shared sites n x (Local d) h =
    first_ones (λ m t. same_target (Some x) (Local d) (target_of t.statement) (target_binding sites m t)) (updates_local sites d) n 0 n sites (omega arith) (λ m t l. shares_local sites x n m d (target_of t.statement) h)
name_shared sites n x Outer h =
    first_ones (λ m t. same_target (Some x) Outer (target_of t.statement) (target_binding sites m t)) (updates_name x) n 0 n sites (omega arith) (λ m t l. shares_outer sites x n m (target_of t.statement) l h)

target_shared : (sites : List Site) (n : ℕ) (o : Option (List ℕ)) → shared sites n o (target_bound sites n o) ≡ repeated_name sites n o
target_shared sites n None = nothing_shared sites n
target_shared sites n (Some x) = name_shared sites n x (binding_at sites n x) refl

pub repeats : (sites : List Site) (n : ℕ) (s : Site) (o : Option (List ℕ)) (b : Bool) → o ≡ target_of s.statement → b ≡ repeated_name sites n o → b ≡ is_repeated sites n s
repeats sites n s o b named is = is ∙ ap (repeated_name sites n) named ∙ sym (target_shared sites n (target_of s.statement))
