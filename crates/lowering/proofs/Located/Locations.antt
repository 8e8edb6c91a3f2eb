-- The loop to which a path leads, as the code finds it.
use Rattle.std.specs.Prelude.{ℕ, suc, Bool, true, false, ◌&&◌, List, [], ◌∷◌, ◌++◌, Option, Some, None, slice_get}
use Rattle.std.proofs.Common.{◌≡◌, ◌+◌, ◌<◌, ◌≤◌, refl, sym, ap, ◌∙◌, subst, length, drop, get_or, append_assoc}
use Rattle.qbs_base.specs.Values.{Schema}
use Rattle.java_ast.specs.declared.tree.Stmt.{Stmt}
use Rattle.java_ast.specs.Path.{found_in, numbered, branch_of, first_of, behind_of, and_then}
use Rattle.java_ast.specs.Reading.{statement, statements}
use Rattle.java_ast.specs.Tree.{Statement, Statements, Nothing, Then, PlainParam, PlainMethod, PlainProgram}
use Rattle.java_ast.specs.Tree as plain
use Rattle.java_mean.specs.Visible.{Visible, declared_in, names_seen}
use Rattle.loop_text.specs.Statements.Fragment.{Fragment, is_simple, are_simple, before_run, run_of, fragment_of, fragment_where, fragment_here, fragment_in}
use Rattle.loop_text.specs.Statements.KeptStatements.{how_many, first_in}
use Rattle.lowering.specs.InCode.Locating.{fragment_located, fragment_spotted, IsFoundIn, IsSpottedIn, IsSeenIn, IsFoundAt}
use Rattle.loop_text.specs.Statements.Loops.{is_loop}
use Rattle.java_ast.specs.Names.{Names, with_name, with_names, declared_by, declared_among, walking, names_of_params}
use Rattle.loop_places.proofs.RunsThere.{statements_behind, past_end}
use Rattle.java_loops.specs.Lowering.Placing.{type_under, scope_after, scope_past, scope_inside, scope_within, scope_in, scope_of_params, scope_in_method, fragment_in_method}
use Rattle.lowering.specs.declared.places.position.Located.{Located}
use Rattle.lowering.specs.declared.places.position.Spot.{Spot}
use Rattle.java_loops.proofs.Kept.Longest.{run_splits}
use Rattle.java_mean.proofs.Sets.{seen_declared}
use Rattle.loop_text.proofs.Trees.Walked.{next_item}
use Rattle.loop_text.proofs.Trees.Locations.{next_of}

count : (xs : List Stmt) → how_many (statements xs) ≡ length xs
count [] = refl
count (x ∷ xs) = ap suc (count xs)

-- one statement more
pub run_grows : (before : List Stmt) (start last : ℕ) (s : Stmt) → start ≡ last + 1 → start ≤ length before → s ≡ get_or before last s → is_simple (statement s) ≡ true → are_simple (statements (drop start before)) ≡ true → are_simple (statements (drop last before)) ≡ true
run_grows before start last s one within is own simple =
    ap (λ (ss : List Stmt). are_simple (statements ss)) (next_of before start last s one within is)
    ∙ ap (λ (b : Bool). b && are_simple (statements (drop start before))) own
    ∙ simple

-- ---- What is visible, by names

names_joined : (xs ys zs : Names) → with_names xs (ys ++ zs) ≡ with_names (with_names xs ys) zs
names_joined xs [] zs = refl
names_joined xs (y ∷ ys) zs = names_joined (with_name xs y) ys zs

seen_after : (o : Option Schema) (vs : Visible) (s : Statement) → names_seen (scope_after o vs s) ≡ with_names (names_seen vs) (declared_by s)
seen_after o vs (plain.Declare at ty x e) = seen_declared vs x (type_under o ty)
seen_after o vs (plain.Assign at x e) = refl
seen_after o vs (plain.Add at x e) = refl
seen_after o vs (plain.Sort at x keys down) = refl
seen_after o vs (plain.If at c a) = refl
seen_after o vs (plain.IfElse at c a b) = refl
seen_after o vs (plain.ForEach at ty x e b) = refl
seen_after o vs (plain.While at c b) = refl
seen_after o vs (plain.Print at e) = refl
seen_after o vs (plain.Return at e) = refl
seen_after o vs (plain.Break at) = refl

pub seen_past : (o : Option Schema) (vs : Visible) (ss : Statements) → names_seen (scope_past o vs ss) ≡ with_names (names_seen vs) (declared_among ss)
seen_past o vs Nothing = refl
seen_past o vs (Then s ss) =
    seen_past o (scope_after o vs s) ss
    ∙ ap (λ (xs : Names). with_names xs (declared_among ss)) (seen_after o vs s)
    ∙ sym (names_joined (names_seen vs) (declared_by s) (declared_among ss))

seen_inside : (o : Option Schema) (vs : Visible) (s : Statement) → names_seen (scope_inside o vs s) ≡ with_names (names_seen vs) (walking s)
seen_inside o vs (plain.Declare at ty x e) = refl
seen_inside o vs (plain.Assign at x e) = refl
seen_inside o vs (plain.Add at x e) = refl
seen_inside o vs (plain.Sort at x keys down) = refl
seen_inside o vs (plain.If at c a) = refl
seen_inside o vs (plain.IfElse at c a b) = refl
seen_inside o vs (plain.ForEach at ty x e b) = seen_declared vs x (type_under o ty)
seen_inside o vs (plain.While at c b) = refl
seen_inside o vs (plain.Print at e) = refl
seen_inside o vs (plain.Return at e) = refl
seen_inside o vs (plain.Break at) = refl

pub seen_within : (o : Option Schema) (vs : Visible) (before : Statements) (s : Statement) → names_seen (scope_within o vs before s) ≡ with_names (with_names (names_seen vs) (declared_among before)) (walking s)
seen_within o vs before s = seen_inside o (scope_past o vs before) s ∙ ap (λ (xs : Names). with_names xs (walking s)) (seen_past o vs before)

pub seen_params : (o : Option Schema) (vs : Visible) (ps : List PlainParam) → names_seen (scope_of_params o vs ps) ≡ with_names (names_seen vs) (names_of_params ps)
seen_params o vs [] = refl
seen_params o vs (p ∷ ps) =
    seen_params o (declared_in vs p.name (type_under o p.ty)) ps
    ∙ ap (λ (xs : Names). with_names xs (names_of_params ps)) (seen_declared vs p.name (type_under o p.ty))

declared_joined : (p q : Statements) → declared_among (and_then p q) ≡ declared_among p ++ declared_among q
declared_joined Nothing q = refl
declared_joined (Then s p) q =
    ap (λ (names : Names). declared_by s ++ names) (declared_joined p q) ∙ sym (append_assoc (declared_by s) (declared_among p) (declared_among q))

declared_split : (before front run : Statements) → before_run before ≡ front → run_of before ≡ run → declared_among before ≡ declared_among front ++ declared_among run
declared_split before front run e h =
    ap declared_among (sym (run_splits before))
    ∙ declared_joined (before_run before) (run_of before)
    ∙ ap (λ (p : Statements). declared_among p ++ declared_among (run_of before)) e
    ∙ ap (λ (p : Statements). declared_among front ++ declared_among p) h

-- what is visible at a loop is what is visible before its run, and what the run declares
pub run_scoped : (o : Option Schema) (vs : Visible) (before front run : Statements) (visible types : Visible) → before_run before ≡ front → run_of before ≡ run → visible ≡ scope_past o vs front → types ≡ scope_past o vs before → names_seen types ≡ with_names (names_seen visible) (declared_among run)
run_scoped o vs before front run visible types e h seen whole =
    ap names_seen whole
    ∙ seen_past o vs before
    ∙ ap (with_names (names_seen vs)) (declared_split before front run e h)
    ∙ names_joined (names_seen vs) (declared_among front) (declared_among run)
    ∙ ap (λ (xs : Names). with_names xs (declared_among run)) (sym (seen_past o vs front) ∙ sym (ap names_seen seen))

-- ---- A loop of the block itself

same_fragment : (a b : Fragment) → a.visible ≡ b.visible → a.run ≡ b.run → a.loop ≡ b.loop → a.behind ≡ b.behind → a ≡ b
same_fragment a b p q r t = λ i. record { visible = p i; run = q i; loop = r i; behind = t i }

loop_here : (visible : Names) (before rest ss : Statements) (s : Statement) → rest ≡ Then s ss → is_loop s ≡ true → fragment_here visible before rest ≡ Some (fragment_of visible before s ss)
loop_here visible before rest ss s is loop =
    ap (fragment_here visible before) is ∙ ap (λ (b : Bool). fragment_where b (fragment_of visible before s ss)) loop

pub found_here : (o : Option Schema) (vs : Visible) (n : ℕ) (block before front run : List Stmt) (s : Stmt) (visible types : Visible) (q : Spot) → n < length block → s ≡ get_or block n s → is_loop (statement s) ≡ true → statements before ≡ first_of n (statements block) → before_run (statements before) ≡ statements front → run_of (statements before) ≡ statements run → visible ≡ scope_past o vs (statements front) → types ≡ scope_past o vs (statements before) → q.run.now ≡ run → q.looped.now ≡ s → q.behind.now ≡ drop (n + 1) block → q.first ≡ length front → IsSpottedIn o vs [] n (statements block) visible types q
found_here o vs n block before front run s visible types q below is loop first fronted ran seen whole runs looped behind begins =
    let rest : behind_of n (statements block) ≡ Then (statement s) (statements (drop (n + 1) block)) = sym (statements_behind n block) ∙ ap statements (next_item block n s below is) in
    let there : Fragment = fragment_of (names_seen vs) (first_of n (statements block)) (statement s) (statements (drop (n + 1) block)) in
    let same : fragment_spotted visible q ≡ there =
    same_fragment (fragment_spotted visible q) there
    (ap names_seen seen ∙ seen_past o vs (statements front) ∙ ap (λ (ss : Statements). with_names (names_seen vs) (declared_among ss)) (sym fronted ∙ ap before_run first))
    (ap statements runs ∙ sym ran ∙ ap run_of first)
    (ap statement looped)
    (ap statements behind) in
    record {
      fragment = loop_here (names_seen vs) (first_of n (statements block)) (behind_of n (statements block)) (statements (drop (n + 1) block)) (statement s) rest loop ∙ ap Some (sym same);
      first = ap (λ (ss : Statements). Some (how_many (before_run ss))) (sym first) ∙ ap (λ (ss : Statements). Some (how_many ss)) fronted ∙ ap Some (count front ∙ sym begins);
      types = ap (λ (ss : Statements). Some (scope_past o vs ss)) (sym first) ∙ ap Some (sym whole);
      scoped =
          run_scoped o vs (statements before) (statements front) (statements run) visible types fronted ran seen whole
          ∙ ap (λ (xs : List Stmt). with_names (names_seen visible) (declared_among (statements xs))) (sym runs);
    }

-- there is no statement with the number
pub none_here : (o : Option Schema) (vs before there : Visible) (n : ℕ) (block : List Stmt) → length block ≤ n → IsSeenIn o vs [] n (statements block) before there None
none_here o vs before there n block h = ap (fragment_here (names_seen vs) (first_of n (statements block))) (past_end n block h)

-- the statement with the number is no loop
pub no_loop_here : (o : Option Schema) (vs before there : Visible) (n : ℕ) (block : List Stmt) (s : Stmt) → n < length block → s ≡ get_or block n s → is_loop (statement s) ≡ false → IsSeenIn o vs [] n (statements block) before there None
no_loop_here o vs before there n block s below is other =
    ap (fragment_here (names_seen vs) (first_of n (statements block))) (sym (statements_behind n block) ∙ ap statements (next_item block n s below is))
    ∙ ap (λ (b : Bool). fragment_where b (fragment_of (names_seen vs) (first_of n (statements block)) (statement s) (statements (drop (n + 1) block)))) other

-- ---- A loop further down

fragment_below : (visible within : Names) (b m n : ℕ) (path : List ℕ) (block body : Statements) (s : Statement) (r : Option Fragment) → numbered n block ≡ Some s → branch_of b s ≡ Some body → within ≡ with_names (with_names visible (declared_among (first_of n block))) (walking s) → fragment_in within path m body ≡ r → fragment_in visible (b ∷ m ∷ path) n block ≡ r
fragment_below visible within b m n path block body s r number branch names there =
    ap (found_in (λ (t : Statement). found_in (fragment_in (with_names (with_names visible (declared_among (first_of n block))) (walking t)) path m) (branch_of b t))) number
    ∙ ap (found_in (fragment_in (with_names (with_names visible (declared_among (first_of n block))) (walking s)) path m)) branch
    ∙ ap (λ (xs : Names). fragment_in xs path m body) (sym names)
    ∙ there

pub found_below : (o : Option Schema) (vs before there : Visible) (b m n : ℕ) (path : List ℕ) (block body : Statements) (s : Statement) (r : Option Spot) → numbered n block ≡ Some s → branch_of b s ≡ Some body → IsSeenIn o (scope_within o vs (first_of n block) s) path m body before there r → IsSeenIn o vs (b ∷ m ∷ path) n block before there r
found_below o vs before there b m n path block body s None number branch is =
    fragment_below (names_seen vs) (names_seen (scope_within o vs (first_of n block) s)) b m n path block body s None number branch (seen_within o vs (first_of n block) s) is
found_below o vs before there b m n path block body s (Some q) number branch is =
    record {
      fragment = fragment_below (names_seen vs) (names_seen (scope_within o vs (first_of n block) s)) b m n path block body s (Some (fragment_spotted before q)) number branch (seen_within o vs (first_of n block) s) is.fragment;
      first = ap (found_in (λ (t : Statement). found_in (first_in path m) (branch_of b t))) number ∙ ap (found_in (first_in path m)) branch ∙ is.first;
      types =
          ap (found_in (λ (t : Statement). found_in (scope_in o (scope_within o vs (first_of n block) t) path m) (branch_of b t))) number
          ∙ ap (found_in (scope_in o (scope_within o vs (first_of n block) s) path m)) branch
          ∙ is.types;
      scoped = is.scoped;
    }

found_along : (o : Option Schema) (vs before there : Visible) (path path' : List ℕ) (n : ℕ) (block : Statements) (r : Option Spot) → path ≡ path' → IsSeenIn o vs path' n block before there r → IsSeenIn o vs path n block before there r
found_along o vs before there path path' n block r is = subst (λ (p : List ℕ). IsSeenIn o vs p n block before there r) (sym is)

two_steps : (path below rest : List ℕ) (b m : ℕ) → path ≡ b ∷ below → below ≡ m ∷ rest → path ≡ b ∷ m ∷ rest
two_steps path below rest b m is more = is ∙ ap (λ (p : List ℕ). b ∷ p) more

pub step_found : (o : Option Schema) (vs within visible types : Visible) (path below rest : List ℕ) (b m n : ℕ) (block body before : Statements) (s : Statement) (r : Option Spot) → path ≡ b ∷ below → below ≡ m ∷ rest → Some s ≡ numbered n block → Some body ≡ branch_of b s → before ≡ first_of n block → within ≡ scope_within o vs before s → IsSeenIn o within rest m body visible types r → IsSeenIn o vs path n block visible types r
step_found o vs within visible types path below rest b m n block body before s r is more number branch first scope there =
    found_along o vs visible types path (b ∷ m ∷ rest) n block r (two_steps path below rest b m is more)
    (found_below o vs visible types b m n rest block body s r (sym number) (sym branch)
    (subst (λ (ws : Visible). IsSeenIn o ws rest m body visible types r) (scope ∙ ap (λ (ss : Statements). scope_within o vs ss s) first) there))

pub no_number : (o : Option Schema) (vs before there : Visible) (path below rest : List ℕ) (b m n : ℕ) (block : Statements) → path ≡ b ∷ below → below ≡ m ∷ rest → None ≡ numbered n block → IsSeenIn o vs path n block before there None
no_number o vs before there path below rest b m n block is more none =
    found_along o vs before there path (b ∷ m ∷ rest) n block None (two_steps path below rest b m is more)
    (ap (found_in (λ (t : Statement). found_in (fragment_in (with_names (with_names (names_seen vs) (declared_among (first_of n block))) (walking t)) rest m) (branch_of b t))) (sym none))

pub no_branch : (o : Option Schema) (vs before there : Visible) (path below rest : List ℕ) (b m n : ℕ) (block : Statements) (s : Statement) → path ≡ b ∷ below → below ≡ m ∷ rest → Some s ≡ numbered n block → None ≡ branch_of b s → IsSeenIn o vs path n block before there None
no_branch o vs before there path below rest b m n block s is more number none =
    found_along o vs before there path (b ∷ m ∷ rest) n block None (two_steps path below rest b m is more)
    (ap (found_in (λ (t : Statement). found_in (fragment_in (with_names (with_names (names_seen vs) (declared_among (first_of n block))) (walking t)) rest m) (branch_of b t))) (sym number)
    ∙ ap (found_in (fragment_in (with_names (with_names (names_seen vs) (declared_among (first_of n block))) (walking s)) rest m)) (sym none))

pub odd_path : (o : Option Schema) (vs before there : Visible) (path below : List ℕ) (b n : ℕ) (block : Statements) → path ≡ b ∷ below → below ≡ [] → IsSeenIn o vs path n block before there None
odd_path o vs before there path below b n block is none = found_along o vs before there path (b ∷ []) n block None (is ∙ ap (λ (p : List ℕ). b ∷ p) none) refl

-- ---- In a program

-- a fragment that is found by what its method's parameters make visible
method_named : (o : Option Schema) (path : List ℕ) (n : ℕ) (m : PlainMethod) (r : Option Fragment) → fragment_in (names_seen (scope_of_params o [] m.params)) path n m.body ≡ r → fragment_in_method path n m ≡ r
method_named o path n m r there = ap (λ (xs : Names). fragment_in xs path n m.body) (sym (seen_params o [] m.params)) ∙ there

pub method_found : (o : Option Schema) (m n : ℕ) (path : List ℕ) (p : PlainProgram) (k : PlainMethod) (r : Option Located) → slice_get p.methods m ≡ Some k → IsFoundIn o (scope_of_params o [] k.params) path n k.body r → IsFoundAt o (m ∷ n ∷ path) p r
method_found o m n path p k None found there = ap (found_in (fragment_in_method path n)) found ∙ method_named o path n k None there
method_found o m n path p k (Some q) found there =
    record {
      fragment = ap (found_in (fragment_in_method path n)) found ∙ method_named o path n k (Some (fragment_located q)) there.fragment;
      first = ap (found_in (λ (z : PlainMethod). first_in path n z.body)) found ∙ there.first;
      types = ap (found_in (scope_in_method o path n)) found ∙ there.types;
    }

at_along : (o : Option Schema) (path path' : List ℕ) (p : PlainProgram) (r : Option Located) → path ≡ path' → IsFoundAt o path' p r → IsFoundAt o path p r
at_along o path path' p r is = subst (λ (q : List ℕ). IsFoundAt o q p r) (sym is)

pub program_found : (o : Option Schema) (path below rest : List ℕ) (m n : ℕ) (p : PlainProgram) (k : PlainMethod) (r : Option Located) → path ≡ m ∷ below → below ≡ n ∷ rest → slice_get p.methods m ≡ Some k → IsFoundIn o (scope_of_params o [] k.params) rest n k.body r → IsFoundAt o path p r
program_found o path below rest m n p k r is more found there = at_along o path (m ∷ n ∷ rest) p r (two_steps path below rest m n is more) (method_found o m n rest p k r found there)

pub no_method : (o : Option Schema) (path below rest : List ℕ) (m n : ℕ) (p : PlainProgram) → path ≡ m ∷ below → below ≡ n ∷ rest → slice_get p.methods m ≡ None → IsFoundAt o path p None
no_method o path below rest m n p is more none = at_along o path (m ∷ n ∷ rest) p None (two_steps path below rest m n is more) (ap (found_in (fragment_in_method rest n)) none)

pub short_path : (o : Option Schema) (path below : List ℕ) (m : ℕ) (p : PlainProgram) → path ≡ m ∷ below → below ≡ [] → IsFoundAt o path p None
short_path o path below m p is none = at_along o path (m ∷ []) p None (is ∙ ap (λ (q : List ℕ). m ∷ q) none) refl

pub empty_path : (o : Option Schema) (path : List ℕ) (p : PlainProgram) → path ≡ [] → IsFoundAt o path p None
empty_path o path p is = at_along o path [] p None is refl
