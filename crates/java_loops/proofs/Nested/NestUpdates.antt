-- What the body of a loop sets are accumulators.
use Rattle.std.proofs.Common.{◌≡◌, ℕ, true, false, not, ◌&&◌, ◌||◌, List, [], ◌∷◌, ◌++◌, Option, refl, ◌∙◌, subst, bytes_eq, ⊎_elim}
use Rattle.std.specs.List.{filter}
use Rattle.std.proofs.lemmas.Bool.{or_cases, or_left, and_parts, and_from, not_from_false, false_from_ne_true}
use Rattle.java_ast.specs.Tree as tree
use Rattle.java_ast.specs.Tree.{Statement, Statements, Nothing, Then}
use Rattle.java_mean.proofs.Puts.{names_equal, name_same}
use Rattle.java_loops.specs.Walks.Effects.{sets, all_set}
use Rattle.loop_text.specs.Statements.Fragment.{Fragment, accumulators, declared_in_run, counter, is_outer, is_name}
use Rattle.loop_text.specs.Kernel.KernelLoop.{begins, ends}
use Rattle.loop_text.specs.Kernel.KernelStatements.{is_allowed}
use Rattle.java_ast.specs.Names.{is_among, names_in, mentioned_in, mentioned_among, updated_in, updated_among}
use Rattle.java_loops.specs.Kernel.Setting.{Setting}
use Rattle.loop_text.specs.Sites.Sites.{Round, Site, without_first, before_last, without_last, kernel_body}
use Rattle.java_loops.proofs.Nested.NestCounter.{Kind, each, counts, counted_name, behind_first_updated}
use Rattle.java_loops.proofs.Nested.NestNames.{among_filter, among_left, among_right, among_either}
use Rattle.java_mean.proofs.Sets.{among_set}
use Rattle.java_loops.proofs.Nested.NestRules.{Unbroken, allowed_at, false_from_not}
use Rattle.java_loops.proofs.Standing.Standing.{is_single, site_of, Stands, single, when, choose, walks, repeats, AllStand, nothing, next}

one_name : (x y : List ℕ) → bytes_eq x y ≡ true → is_among (x ∷ []) y ≡ true
one_name x y h = or_left (bytes_eq y x) false (subst (λ z. bytes_eq z x ≡ true) (names_equal x y h) (name_same x))

-- ---- What is set is updated

single_updated : (sites : List Site) (t : Site) (s : Statement) (y : List ℕ) → is_single s ≡ true → is_allowed sites t s ≡ true → sets s y ≡ true → is_among (updated_in s) y ≡ true
single_updated sites t (tree.Declare at ty x e) y one a h = absurd cc
single_updated sites t (tree.Assign at x e) y one a h = one_name x y h
single_updated sites t (tree.Add at x e) y one a h = one_name x y h
single_updated sites t (tree.Sort at x keys downs) y one a h = absurd cc
single_updated sites t (tree.If at c p) y one a h = absurd cc
single_updated sites t (tree.IfElse at c p q) y one a h = absurd cc
single_updated sites t (tree.ForEach at ty x e p) y one a h = absurd cc
single_updated sites t (tree.While at c p) y one a h = absurd cc
single_updated sites t (tree.Print at e) y one a h = absurd cc
single_updated sites t (tree.Return at e) y one a h = absurd cc
single_updated sites t (tree.Break at) y one a h = absurd cc

module _ (w : Setting) (u : Unbroken w) (y : List ℕ) where
  mutual
    set_updated : (r : Round) (previous : Option Statement) (s : Statement) (n m : ℕ) → Stands w.sites r previous s n m → sets s y ≡ true → is_among (updated_in s) y ≡ true
    set_updated _ _ _ _ _ (single r previous s n one get) h = single_updated w.sites (site_of r previous s) s y one (allowed_at w u n (site_of r previous s) get) h
    set_updated _ _ _ _ _ (when r previous at c p n m get all) h = all_set_updated _ _ p _ m all h
    set_updated _ _ _ _ _ (choose r previous at c p q n m o get all other) h =
        ⊎_elim (λ i. among_left (updated_among p) (updated_among q) y (all_set_updated _ _ p _ m all i)) (λ i. among_right (updated_among p) (updated_among q) y (all_set_updated _ _ q m o other i)) (or_cases (all_set p y) (all_set q y) h)
    set_updated _ _ _ _ _ (walks r previous at ty x e p n m get all) h = all_set_updated _ _ p _ m all h
    set_updated _ _ _ _ _ (repeats r previous at c p n m get all) h = all_set_updated _ _ p _ m all h

    pub all_set_updated : (r : Round) (previous : Option Statement) (p : Statements) (n m : ℕ) → AllStand w.sites r previous p n m → all_set p y ≡ true → is_among (updated_among p) y ≡ true
    all_set_updated _ _ _ _ _ (nothing r previous n) h = absurd cc
    all_set_updated _ _ _ _ _ (next r previous s p n m o first rest) h =
        ⊎_elim (λ i. among_left (updated_in s) (updated_among p) y (set_updated _ _ s n m first i)) (λ i. among_right (updated_in s) (updated_among p) y (all_set_updated _ _ p m o rest i)) (or_cases (sets s y) (all_set p y) h)

-- ---- What is updated is mentioned

own_name : (x y : List ℕ) (ns : List (List ℕ)) → is_among (x ∷ []) y ≡ true → is_among (x ∷ ns) y ≡ true
own_name x y ns h = ⊎_elim (λ e. or_left (bytes_eq y x) (is_among ns y) e) (λ e. absurd cc) (or_cases (bytes_eq y x) false h)

mutual
  updated_mentioned : (s : Statement) (y : List ℕ) → is_among (updated_in s) y ≡ true → is_among (mentioned_in s) y ≡ true
  updated_mentioned (tree.Declare at ty x e) y h = absurd cc
  updated_mentioned (tree.Assign at x e) y h = own_name x y (names_in e) h
  updated_mentioned (tree.Add at x e) y h = own_name x y (names_in e) h
  updated_mentioned (tree.Sort at x keys downs) y h = absurd cc
  updated_mentioned (tree.If at c p) y h = among_right (names_in c) (mentioned_among p) y (all_updated_mentioned p y h)
  updated_mentioned (tree.IfElse at c p q) y h =
      among_right (names_in c) (mentioned_among p ++ mentioned_among q) y (⊎_elim (λ i. among_left (mentioned_among p) (mentioned_among q) y (all_updated_mentioned p y i)) (λ i. among_right (mentioned_among p) (mentioned_among q) y (all_updated_mentioned q y i)) (among_either (updated_among p) (updated_among q) y h))
  updated_mentioned (tree.ForEach at ty x e p) y h = among_right (names_in e) (mentioned_among p) y (all_updated_mentioned p y h)
  updated_mentioned (tree.While at c p) y h = among_right (names_in c) (mentioned_among p) y (all_updated_mentioned p y h)
  updated_mentioned (tree.Print at e) y h = absurd cc
  updated_mentioned (tree.Return at e) y h = absurd cc
  updated_mentioned (tree.Break at) y h = absurd cc

  all_updated_mentioned : (p : Statements) (y : List ℕ) → is_among (updated_among p) y ≡ true → is_among (mentioned_among p) y ≡ true
  all_updated_mentioned Nothing y h = absurd cc
  all_updated_mentioned (Then s p) y h =
      ⊎_elim (λ i. among_left (mentioned_in s) (mentioned_among p) y (updated_mentioned s y i)) (λ i. among_right (mentioned_in s) (mentioned_among p) y (all_updated_mentioned p y i)) (among_either (updated_in s) (updated_among p) y h)

-- ---- The body of a loop

before_updated : (s : Statement) (p : Statements) (y : List ℕ) → is_among (updated_among (before_last s p)) y ≡ true → is_among (updated_in s ++ updated_among p) y ≡ true
before_updated s Nothing y h = absurd cc
before_updated s (Then t p) y h =
    ⊎_elim (λ i. among_left (updated_in s) (updated_among (Then t p)) y i) (λ i. among_right (updated_in s) (updated_among (Then t p)) y (before_updated t p y i)) (among_either (updated_in s) (updated_among (before_last t p)) y h)

last_updated : (p : Statements) (y : List ℕ) → is_among (updated_among (without_last p)) y ≡ true → is_among (updated_among p) y ≡ true
last_updated Nothing y h = h
last_updated (Then s p) y h = before_updated s p y h

body_updated : (f : Fragment) (s : Statement) → Kind f s → (y : List ℕ) → is_among (updated_among (kernel_body s)) y ≡ true → is_among (updated_in s) y ≡ true
body_updated f _ (each at ty x e b) y h = h
body_updated f _ (counts at c b k e i z) y h = behind_first_updated b y (last_updated (without_first b) y h)

-- the counter isn't updated in the body
counter_unset : (f : Fragment) (s : Statement) → Kind f s → (y : List ℕ) → is_among (updated_among (kernel_body s)) y ≡ true → is_name (counter s) y ≡ false
counter_unset f _ (each at ty x e b) y h = refl
counter_unset f _ (counts at c b k e i z) y h =
    let body : Statements = without_last (without_first b) in
    let two = and_parts (begins k b) (ends k (without_first b) && not (is_among (mentioned_among body) k.counter)) i in
    let none : is_among (mentioned_among body) k.counter ≡ false = false_from_not (is_among (mentioned_among body) k.counter) (and_parts (ends k (without_first b)) (not (is_among (mentioned_among body) k.counter)) two.1).1 in
    false_from_ne_true (is_name (counter (tree.While at c b)) y) (λ q. let m : is_among (mentioned_among body) k.counter ≡ true = subst (λ v. is_among (mentioned_among body) v ≡ true) (counted_name c k y e q) (all_updated_mentioned body y h) in absurd cc)

-- what a body updates of the variables from outside are accumulators
pub updated_accumulates : (f : Fragment) → Kind f f.loop → (y : List ℕ) → (is_among f.visible y || is_among (declared_in_run f) y) ≡ true → is_among (updated_among (kernel_body f.loop)) y ≡ true → is_among (accumulators f) y ≡ true
updated_accumulates f k y seen h =
    let outer : is_outer f.visible (declared_in_run f) (counter f.loop) y ≡ true = and_from (is_among f.visible y || is_among (declared_in_run f) y) (not (is_name (counter f.loop) y)) seen (not_from_false (is_name (counter f.loop) y) (counter_unset f f.loop k y h)) in
    among_set (filter (is_outer f.visible (declared_in_run f) (counter f.loop)) (updated_in f.loop)) y ∙ (among_filter (is_outer f.visible (declared_in_run f) (counter f.loop)) (updated_in f.loop) y (body_updated f f.loop k y h) outer)
