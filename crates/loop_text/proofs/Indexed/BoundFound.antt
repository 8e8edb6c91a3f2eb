-- What a name is bound to at a site is the last of its bindings below the site's number.
use Rattle.std.specs.Prelude.{if◌then◌else◌}
use Rattle.std.proofs.Common.{◌≡◌, ◌<◌, ◌+◌, ℕ, zero, suc, Bool, true, false, List, [], ◌∷◌, ◌++◌, length, take, drop, map, get_or, refl, sym, ap, ◌∙◌, subst, arith, lt-ltb, append_assoc}
use Rattle.java_ast.specs.Tree.{Statement}
use Rattle.java_ast.specs.Tree as plain
use Rattle.loop_text.specs.declared.sites.list.Site as code
use Rattle.loop_text.specs.Sites.Sites.{Binding, Row, Local, Outer, Site, bound_by, bound_after, binding_at}
use Rattle.loop_text.specs.Sites.Bound.{Lists, AddsBound, AreBound, AreRising, bound_name, bound_as, with_bound, bindings_of, number_of, last_below, IsRising}
use Rattle.loop_text.specs.Statements.Fragment.{is_name}
use Rattle.loop_text.specs.Sites.Groups.{under_name}
use Rattle.loop_text.specs.Sites.Reading.{site_of}
use Rattle.loop_text.proofs.Indexed.BoundBelow.{none_below, rises_less}
use Rattle.loop_text.proofs.Indexed.GroupedNames.{same_both}
use Rattle.loop_text.proofs.Trees.Walked.{next_item}

-- ---- One statement

pub bound_step : (x : List ℕ) (n : ℕ) (s : Statement) (b : Binding) → bound_by x n s b ≡ (if is_name (bound_name s) x then bound_as n s else b)
bound_step x n (plain.Declare at ty y e) b = ap (λ (t : Bool). if t then Local n else b) (same_both y x)
bound_step x n (plain.Assign at y e) b = refl
bound_step x n (plain.Add at y e) b = refl
bound_step x n (plain.Sort at y keys downs) b = refl
bound_step x n (plain.If at c p) b = refl
bound_step x n (plain.IfElse at c p q) b = refl
bound_step x n (plain.ForEach at ty y e p) b = ap (λ (t : Bool). if t then Row n else b) (same_both y x)
bound_step x n (plain.While at c p) b = refl
bound_step x n (plain.Print at e) b = refl
bound_step x n (plain.Return at e) b = refl
bound_step x n (plain.Break at) b = refl

as_number : (n : ℕ) (s : Statement) → number_of (bound_as n s) ≡ n
as_number n (plain.Declare at ty y e) = refl
as_number n (plain.Assign at y e) = refl
as_number n (plain.Add at y e) = refl
as_number n (plain.Sort at y keys downs) = refl
as_number n (plain.If at c p) = refl
as_number n (plain.IfElse at c p q) = refl
as_number n (plain.ForEach at ty y e p) = refl
as_number n (plain.While at c p) = refl
as_number n (plain.Print at e) = refl
as_number n (plain.Return at e) = refl
as_number n (plain.Break at) = refl

-- ---- All of them

rises_by : (t : Bool) (k : ℕ) (d : Binding) (rest : List Binding) → number_of d ≡ k → IsRising (suc k) rest → IsRising k (with_bound t d rest)
rises_by true k d rest e r = (omega (arith, e), rises_less (number_of d) (suc k) rest (omega (arith, e)) r)
rises_by false k d rest e r = rises_less k (suc k) rest (omega arith) r

found_rises : (x : List ℕ) (k : ℕ) (ss : List Site) → IsRising k (bindings_of x k ss)
found_rises x k [] = tt
found_rises x k (s ∷ ss) = rises_by (is_name (bound_name s.statement) x) k (bound_as k s.statement) (bindings_of x (suc k) ss) (as_number k s.statement) (found_rises x (suc k) ss)

below_step : (n : ℕ) (t : Bool) (d b : Binding) (rest : List Binding) → number_of d < n → last_below n (if t then d else b) rest ≡ last_below n b (with_bound t d rest)
below_step n true d b rest h = sym (ap (λ (u : Bool). last_below n (if u then d else b) rest) (lt-ltb (number_of d) n h))
below_step n false d b rest h = refl

found_from : (x : List ℕ) (k n m : ℕ) (b : Binding) (ss : List Site) → k + n ≡ m → bound_after x k b (take n ss) ≡ last_below m b (bindings_of x k ss)
found_from x k zero m b [] e = refl
found_from x k zero m b (s ∷ ss) e = sym (none_below m k b (bindings_of x k (s ∷ ss)) (omega (arith, e)) (found_rises x k (s ∷ ss)))
found_from x k (suc n) m b [] e = refl
found_from x k (suc n) m b (s ∷ ss) e =
    let number = as_number k s.statement in
    found_from x (suc k) n m (bound_by x k s.statement b) ss (omega (arith, e))
    ∙ ap (λ (c : Binding). last_below m c (bindings_of x (suc k) ss)) (bound_step x k s.statement b)
    ∙ below_step m (is_name (bound_name s.statement) x) (bound_as k s.statement) b (bindings_of x (suc k) ss) (omega (arith, e, number))

pub bindings_rise : (x : List ℕ) (sites : List Site) (bs : List Binding) → bs ≡ bindings_of x 0 sites → IsRising 0 bs
bindings_rise x sites bs is = subst (IsRising 0) (sym is) (found_rises x 0 sites)

pub bound_found : (x : List ℕ) (n : ℕ) (sites : List Site) (bs : List Binding) (b : Binding) → bs ≡ bindings_of x 0 sites → b ≡ last_below n Outer bs → b ≡ binding_at sites n x
bound_found x n sites bs b is found = found ∙ ap (last_below n Outer) is ∙ sym (found_from x 0 n n Outer sites (omega arith))

pub lists_rise : (ls : Lists) (sites : List Site) → AreBound ls sites → AreRising ls
lists_rise ls sites bound x = bindings_rise x sites (under_name ls x) (bound x)

-- ---- The lists, filled statement by statement

before_rest : (t : Bool) (d : Binding) (rest : List Binding) → with_bound t d [] ++ rest ≡ with_bound t d rest
before_rest true d rest = refl
before_rest false d rest = refl

-- the lists have what is bound before a number
abbrev pub BoundBefore : Lists → ℕ → List code.Site → Type 0
BoundBefore ls n all = (x : List ℕ) → under_name ls x ++ bindings_of x n (map site_of (drop n all)) ≡ bindings_of x 0 (map site_of all)

pub next_bound : (old new : Lists) (n : ℕ) (all : List code.Site) (s : code.Site) → n < length all → s ≡ get_or all n s → AddsBound old n (site_of s).statement new → BoundBefore old n all → BoundBefore new (n + 1) all
next_bound old new n all s h is added before x =
    let rest = map site_of (drop (n + 1) all) in
    let t = is_name (bound_name (site_of s).statement) x in
    let d = bound_as n (site_of s).statement in
    let next : n + 1 ≡ suc n = omega arith in
    ap (λ (l : List Binding). l ++ bindings_of x (n + 1) rest) (added x)
    ∙ append_assoc (under_name old x) (with_bound t d []) (bindings_of x (n + 1) rest)
    ∙ ap (λ (l : List Binding). under_name old x ++ l) (before_rest t d (bindings_of x (n + 1) rest))
    ∙ ap (λ (k : ℕ). under_name old x ++ with_bound t d (bindings_of x k rest)) next
    ∙ sym (ap (λ (l : List code.Site). under_name old x ++ bindings_of x n (map site_of l)) (next_item all n s h is))
    ∙ before x
