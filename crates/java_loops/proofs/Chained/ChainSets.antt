-- Which sites of a statement set a variable, and that a variable is updated at one site alone.
use Rattle.std.proofs.Common.{◌≡◌, ℕ, zero, suc, ◌+◌, ◌<◌, ◌≤◌, Bool, true, false, not, ◌&&◌, ◌||◌, List, [], ◌∷◌, take, Option, Some, refl, ap, ◌∙◌, subst, slice_get, bytes_eq, arith, ◌⊎◌, ⊎_elim}
use Rattle.std.proofs.lemmas.Bool.{or_parts, or_cases, cond-false, cases_lt, eq-eqb}
use Rattle.java_ast.specs.Tree as tree
use Rattle.java_ast.specs.Tree.{Spelled, Expression, Statement, Statements, Nothing, Then}
use Rattle.java_mean.specs.declared.types.JavaType.{JavaType}
use Rattle.java_mean.specs.declared.types.JavaType.TheVariants.{Of}
use Rattle.java_mean.specs.Types.{Types, with_type}
use Rattle.java_mean.specs.Typing.{Frame, TypedStatement, TypedStatements}
use Rattle.java_mean.proofs.Puts.{name_same}
use Rattle.java_mean.proofs.TypedRuns.{extends_statement}
use Rattle.java_loops.specs.Walks.Effects.{sets, all_set}
use Rattle.loop_text.specs.Statements.Fragment.{needed_of, is_name}
use Rattle.loop_text.specs.Kernel.KernelStatements.{broken_update, is_repeated, is_beside_some_break, is_idle_flag, is_none, is_row, share_target, same_target, target_bound, target_binding}
use Rattle.java_loops.specs.Kernel.Setting.{Setting}
use Rattle.loop_text.specs.declared.sites.bindings.Binding.{Binding}
use Rattle.loop_text.specs.declared.sites.bindings.Binding.TheVariants.{Row, Local, Outer}
use Rattle.loop_text.specs.Sites.Sites.{Round, Site, binding_at, counted_row, target_of, is_update, is_some, any_site, same_binding, first_broken, place_where, place_of}
use Rattle.java_loops.proofs.Typing.BoundSteps.{bound_next, bound_other, bound_past, new_row}
use Rattle.java_loops.proofs.Typing.BoundTyping.{typed_next, typed_if, typed_choice, over, over_new, typed_each, typed_while, seen_with, row_new}
use Rattle.java_loops.proofs.Nested.NestRules.{Unbroken, and_second, target_at}
use Rattle.java_loops.proofs.Standing.Standing.{is_single, site_of, Stands, single, when, choose, walks, repeats, AllStand, nothing, next}
use Rattle.java_loops.proofs.Standing.StandingRules.{none_where, first_none, unbroken_at}
use Rattle.java_loops.proofs.Standing.StandingWithin.{under_self}

-- ---- Numbers go up

mutual
  pub goes_up : (sites : List Site) (r : Round) (previous : Option Statement) (s : Statement) (n m : ℕ) → Stands sites r previous s n m → n < m
  goes_up sites _ _ _ _ _ (single r previous s n one get) = omega arith
  goes_up sites _ _ _ _ _ (when r previous at q p n m get all) = let h = all_up sites _ _ p (suc n) m all in omega (arith, h)
  goes_up sites _ _ _ _ _ (choose r previous at q p o n m z get all other) =
      let h = all_up sites _ _ p (suc n) m all in
      let k = all_up sites _ _ o m z other in
      omega (arith, h, k)
  goes_up sites _ _ _ _ _ (walks r previous at ty x q p n m get all) = let h = all_up sites _ _ p (suc n) m all in omega (arith, h)
  goes_up sites _ _ _ _ _ (repeats r previous at q p n m get all) = let h = all_up sites _ _ p (suc n) m all in omega (arith, h)

  pub all_up : (sites : List Site) (r : Round) (previous : Option Statement) (p : Statements) (n m : ℕ) → AllStand sites r previous p n m → n ≤ m
  all_up sites _ _ _ _ _ (nothing r previous n) = omega arith
  all_up sites _ _ _ _ _ (next r previous s p n m o first rest) =
      let h = goes_up sites _ _ s n m first in
      let k = all_up sites _ _ p m o rest in
      omega (arith, h, k)

-- ---- Where a variable is set

-- a site from the first number up to before the second that sets a variable, which is bound there as at the first
pub record SetWithin (sites : List Site) (n m : ℕ) (y : List ℕ) : Type 0 where
  pub number : ℕ
  pub low : n ≤ number
  pub high : number < m
  pub site : Site
  pub there : slice_get sites number ≡ Some site
  pub one : is_single site.statement ≡ true
  pub sets_it : sets site.statement y ≡ true
  pub bound : binding_at sites number y ≡ binding_at sites n y

wider : (sites : List Site) (n m i j : ℕ) (y : List ℕ) → n ≤ i → j ≤ m → binding_at sites i y ≡ binding_at sites n y → SetWithin sites i j y → SetWithin sites n m y
wider sites n m i j y low high same s =
    record {
      number = s.number;
      low = let h = s.low in omega (arith, h, low);
      high = let h = s.high in omega (arith, h, high);
      site = s.site;
      there = s.there;
      one = s.one;
      sets_it = s.sets_it;
      bound = s.bound ∙ same;
    }

mutual
  pub set_within : (c : Frame) (sites : List Site) (r : Round) (previous : Option Statement) (s : Statement) (n m : ℕ) → Stands sites r previous s n m → (l : Option Types) (g h : Types) → TypedStatement c l g s h → (y : List ℕ) (k : JavaType) → g y ≡ Some k → sets s y ≡ true → SetWithin sites n m y
  set_within c sites _ _ _ _ _ (single r previous s n one get) l g h t y k i e =
      record { number = n; low = omega arith; high = omega arith; site = site_of r previous s; there = get; one = one; sets_it = e; bound = refl }
  set_within c sites _ _ _ _ _ (when r previous at q p n m get all) l g h t y k i e =
      let u = typed_if c l g h at q p t in
      wider sites n m (suc n) m y (omega arith) (omega arith) (bound_next sites n (site_of r previous (tree.If at q p)) y get) (all_set_within c sites _ _ p (suc n) m all l g u.branch.last u.branch.body y k i e)
  set_within c sites _ _ _ _ _ (choose r previous at q p o n m z get all other) l g h t y k i e =
      let u = typed_choice c l g h at q p o t in
      let up = all_up sites _ _ p (suc n) m all in
      let further = all_up sites _ _ o m z other in
      ⊎_elim
      (λ a. wider sites n z (suc n) m y (omega arith) (omega (arith, further)) (bound_next sites n (site_of r previous (tree.IfElse at q p o)) y get) (all_set_within c sites _ _ p (suc n) m all l g u.branch.last u.branch.body y k i a))
      (λ a. wider sites n z m z y (omega (arith, up)) (omega arith) (bound_other c sites r previous at q p o n m get all l g u.branch.last u.branch.body y k i) (all_set_within c sites _ _ o m z other l g u.other.last u.other.body y k i a))
      (or_cases (all_set p y) (all_set o y) e)
  set_within c sites _ _ _ _ _ (walks r previous at ty x q p n m get all) l g h t y k i e =
      elim (typed_each c l g h at ty x q p t) [
        | over z j a new v has u ↦ wider sites n m (suc n) m y (omega arith) (omega arith) (bound_next sites n (site_of r previous (tree.ForEach at ty x q p)) y get ∙ new_row g y x k n (binding_at sites n y) new i) (all_set_within c sites _ _ p (suc n) m all (Some (with_type x (Some (Of a)) g)) (with_type x (Some (Of a)) g) z u y k (seen_with g y x (Some (Of a)) k new i) e)
        | over_new z j new isnew u ↦ wider sites n m (suc n) m y (omega arith) (omega arith) (bound_next sites n (site_of r previous (tree.ForEach at ty x q p)) y get ∙ new_row g y x k n (binding_at sites n y) new i) (all_set_within c sites _ _ p (suc n) m all (Some (with_type x (Some j) g)) (with_type x (Some j) g) z u y k (seen_with g y x (Some j) k new i) e)
      ]
  set_within c sites _ _ _ _ _ (repeats r previous at q p n m get all) l g h t y k i e =
      let u = typed_while c l g h at q p t in
      wider sites n m (suc n) m y (omega arith) (omega arith) (bound_next sites n (site_of r previous (tree.While at q p)) y get ∙ cond-false (is_name (counted_row p) y) (Row n) (binding_at sites n y) (row_new c (Some g) g u.branch.last p u.branch.body y k i)) (all_set_within c sites _ _ p (suc n) m all (Some g) g u.branch.last u.branch.body y k i e)

  pub all_set_within : (c : Frame) (sites : List Site) (r : Round) (previous : Option Statement) (p : Statements) (n m : ℕ) → AllStand sites r previous p n m → (l : Option Types) (g h : Types) → TypedStatements c l g p h → (y : List ℕ) (k : JavaType) → g y ≡ Some k → all_set p y ≡ true → SetWithin sites n m y
  all_set_within c sites _ _ _ _ _ (nothing r previous n) l g h t y k i e = absurd cc
  all_set_within c sites _ _ _ _ _ (next r previous s p n m o first rest) l g h t y k i e =
      let u = typed_next c l g h s p t in
      let up = goes_up sites _ _ s n m first in
      let further = all_up sites _ _ p m o rest in
      ⊎_elim
      (λ a. wider sites n o n m y (omega arith) (omega (arith, further)) refl (set_within c sites _ _ s n m first l g u.middle u.first y k i a))
      (λ a. wider sites n o m o y (omega (arith, up)) (omega arith) (bound_past c sites _ _ s n m first l g u.middle u.first y k i) (all_set_within c sites _ _ p m o rest l u.middle u.last u.rest y k (extends_statement c l g u.middle s u.first y k i) a))
      (or_cases (sets s y) (all_set p y) e)

-- ---- One update

-- an update of a variable that is bound so
pub record UpdateAt (sites : List Site) (n : ℕ) (y : List ℕ) (b : Binding) : Type 0 where
  pub site : Site
  pub there : slice_get sites n ≡ Some site
  pub target : target_of site.statement ≡ Some y
  pub bound : binding_at sites n y ≡ b

pub same_bindings : (b : Binding) → same_binding b b ≡ true
same_bindings (Row n) = eq-eqb n n refl
same_bindings (Local n) = eq-eqb n n refl
same_bindings Outer = refl

pub passes_at : (test : ℕ → Site → Bool) (k n m j : ℕ) (sites : List Site) (s : Site) → k + n ≡ m → n < j → slice_get sites n ≡ Some s → test m s ≡ true → any_site test k (take j sites) ≡ true
passes_at test k n m j [] s e h get is = absurd cc
passes_at test k n m zero (x ∷ xs) s e h get is = absurd (omega (arith, h))
passes_at test k zero m (suc j) (x ∷ xs) s e h get is =
    let same : x ≡ s = cc in
    let number : k ≡ m = omega (arith, e) in
    ap (λ b. b || any_site test (suc k) (take j xs)) (ap (λ i. test i x) number ∙ ap (test m) same ∙ is)
passes_at test k (suc n) m (suc j) (x ∷ xs) s e h get is =
    let rest = passes_at test (suc k) n m j xs s (omega (arith, e)) (omega (arith, h)) get is in
    ap (λ b. test k x || b) rest ∙ or_true (test k x)
  where
    or_true : (b : Bool) → (b || true) ≡ true
    or_true true = refl
    or_true false = refl

shares : (sites : List Site) (n m : ℕ) (y : List ℕ) (b : Binding) (s : UpdateAt sites n y b) (t : UpdateAt sites m y b) → share_target sites n s.site m t.site ≡ true
shares sites n m y b s t =
    ap (λ o. same_target o (target_bound sites n o) (target_of t.site.statement) (target_binding sites m t.site)) s.target
    ∙ ap (λ o. same_target (Some y) (binding_at sites n y) o (target_bound sites m o)) t.target
    ∙ ap (λ z. bytes_eq y y && same_binding z (binding_at sites m y)) s.bound
    ∙ ap (λ z. bytes_eq y y && same_binding b z) t.bound
    ∙ ap (λ z. z && same_binding b b) (name_same y)
    ∙ same_bindings b

-- no two sites update one variable, the first before the second
later_repeats : (w : Setting) → Unbroken w → (n m : ℕ) (y : List ℕ) (b : Binding) → is_row b ≡ false → UpdateAt w.sites n y b → UpdateAt w.sites m y b → m < n → ⊥
later_repeats w u n m y b row s t h =
    let all = (first_none (place_where (is_none (needed_of w.fragment) || any_site (is_idle_flag w.sites) 0 w.sites) (place_of w.fragment.loop)) (first_broken (broken_update w.sites) 0 w.sites) u.updates).1 in
    let here = none_where (is_update s.site.statement && (is_repeated w.sites n s.site || is_beside_some_break w.sites n s.site)) (place_of s.site.statement) (unbroken_at (broken_update w.sites) w.sites all n s.site s.there) in
    let updates : is_update s.site.statement ≡ true = ap is_some s.target in
    let none = (or_parts (is_repeated w.sites n s.site) (is_beside_some_break w.sites n s.site) (and_second (is_update s.site.statement) (is_repeated w.sites n s.site || is_beside_some_break w.sites n s.site) here updates)).0 in
    let bound : is_row (target_binding w.sites n s.site) ≡ false = ap (λ o. is_row (target_bound w.sites n o)) s.target ∙ ap is_row s.bound ∙ row in
    let fails = and_second (not (is_row (target_binding w.sites n s.site))) (any_site (λ i x. share_target w.sites n s.site i x) 0 (take n w.sites)) none (ap not bound) in
    let passes = passes_at (λ i x. share_target w.sites n s.site i x) 0 m m n w.sites t.site (omega arith) h t.there (shares w.sites n m y b s t) in
    absurd cc

pub one_update : (w : Setting) → Unbroken w → (n m : ℕ) (y : List ℕ) (b : Binding) → is_row b ≡ false → UpdateAt w.sites n y b → UpdateAt w.sites m y b → n ≡ m
one_update w u n m y b row s t =
    ⊎_elim (λ h. absurd (later_repeats w u m n y b row t s h)) (λ low. ⊎_elim (λ h. absurd (later_repeats w u n m y b row s t h)) (λ high. omega (arith, low, high)) (cases_lt m n)) (cases_lt n m)

-- ---- What else sets the variable

pub update_within : (w : Setting) → Unbroken w → (n m : ℕ) (y : List ℕ) → (s : SetWithin w.sites n m y) → UpdateAt w.sites s.number y (binding_at w.sites n y)
update_within w u n m y s =
    record { site = s.site; there = s.there; target = target_at w u s.site.round n y (record { number = s.number; site = s.site; there = s.there; under = under_self s.site.round; one = s.one; sets_it = s.sets_it; bound = s.bound }); bound = s.bound }

-- no site of another part sets a variable that is updated here
pub set_elsewhere : (w : Setting) → Unbroken w → (k n m : ℕ) (y : List ℕ) (b : Binding) → is_row b ≡ false → UpdateAt w.sites k y b → binding_at w.sites n y ≡ b → (k < n) ⊎ (m ≤ k) → SetWithin w.sites n m y → ⊥
set_elsewhere w u k n m y b row t same out s =
    let e : k ≡ s.number = one_update w u k s.number y b row t (subst (λ z. UpdateAt w.sites s.number y z) same (update_within w u n m y s)) in
    let low = s.low in
    let high = s.high in
    ⊎_elim (λ h. absurd (omega (arith, e, low, h))) (λ h. absurd (omega (arith, e, high, h))) out
