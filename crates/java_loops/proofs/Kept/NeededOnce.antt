-- What is needed of a fragment depends on its visible names by membership alone, so that it doesn't matter how often the name
-- of a parameter stands among them. In a well-typed program each stands once.
use Rattle.std.specs.Prelude.{ℕ, zero, suc, Bool, true, false, not, ◌&&◌, ◌||◌, List, [], ◌∷◌, ◌++◌, slice_get}
use Rattle.std.specs.List.{filter}
use Rattle.std.proofs.Common.{◌≡◌, Option, Some, None, refl, sym, ap, ◌∙◌, append_assoc}
use Rattle.std.proofs.lemmas.List.{append-nil, map-append}
use Rattle.qbs_base.specs.declared.span.Span.{Span}
use Rattle.qbs_base.specs.Values.{Schema}
use Rattle.sql_ast.specs.Tree.{PlainQuery}
use Rattle.java_ast.specs.Path.{found_in, numbered, branch_of, first_of, behind_of}
use Rattle.java_ast.specs.Tree.{Spelled, Statement, Statements, Nothing, Then, PlainParam, PlainMethod, PlainProgram}
use Rattle.java_mean.specs.Places.{param, whole, in_params, in_statements, in_method, in_body}
use Rattle.java_mean.specs.Rules.{taken}
use Rattle.java_mean.specs.Types.{type_spelled}
use Rattle.java_mean.specs.Visible.{Visible, is_visible, declared_in, with_params, names_seen}
use Rattle.java_mean.specs.WellTyped.{faults_in, faults_in_methods, IsWellTyped}
use Rattle.java_mean.proofs.Faultless.{none_both, none_in, none_at, only_none, neither, declared_new}
use Rattle.loop_text.specs.Statements.Fragment.{Fragment, is_name, fragment_of, fragment_where, fragment_here, fragment_in, fragment_at, before_run, counter, needed_of, needed_there, needed_at}
use Rattle.loop_text.specs.Statements.Loops.{is_loop}
use Rattle.java_ast.specs.Names.{Names, is_among, with_names, declared_among, mentioned_among, updated_in, walking, names_of_params}
use Rattle.java_loops.specs.Lowering.Placing.{fragment_in_method, fragment_once_at}
use Rattle.java_mean.proofs.Sets.{among_with, among_set, seen_declared}

-- ---- Names with the same members

pub record SameMembers (xs ys : Names) : Type 0 where
  pub by : (x : List ℕ) → is_among xs x ≡ is_among ys x

same_with : (xs ys zs : Names) → SameMembers xs ys → SameMembers (with_names xs zs) (with_names ys zs)
same_with xs ys zs k = record { by = λ x. among_with xs zs x ∙ ap (λ (b : Bool). b || is_among zs x) (k.by x) ∙ sym (among_with ys zs x) }

-- fragments that differ in how often names are visible
pub record AreAlike (f g : Fragment) : Type 0 where
  pub visible : SameMembers f.visible g.visible
  pub run : f.run ≡ g.run
  pub loop : f.loop ≡ g.loop
  pub behind : f.behind ≡ g.behind

abbrev pub BothAlike : Option Fragment → Option Fragment → Type 0
BothAlike (Some f) (Some g) = AreAlike f g
BothAlike None None = Unit {0}
BothAlike _ _ = ⊥

alike_where : (b : Bool) (f g : Fragment) → AreAlike f g → BothAlike (fragment_where b f) (fragment_where b g)
alike_where true f g k = k
alike_where false f g k = tt

alike_here : (xs ys : Names) (before rest : Statements) → SameMembers xs ys → BothAlike (fragment_here xs before rest) (fragment_here ys before rest)
alike_here xs ys before Nothing k = tt
alike_here xs ys before (Then s ss) k =
    alike_where (is_loop s) (fragment_of xs before s ss) (fragment_of ys before s ss) (record { visible = same_with xs ys (declared_among (before_run before)) k; run = refl; loop = refl; behind = refl })

alike_found : {A : Type 0} (f g : A → Option Fragment) (o : Option A) → ((x : A) → BothAlike (f x) (g x)) → BothAlike (found_in f o) (found_in g o)
alike_found f g None k = tt
alike_found f g (Some x) k = k x

abbrev in_branches : Names → ℕ → Statements → Statement → Names
in_branches xs n block s = with_names (with_names xs (declared_among (first_of n block))) (walking s)

pub alike_in : (path : List ℕ) (xs ys : Names) (n : ℕ) (block : Statements) → SameMembers xs ys → BothAlike (fragment_in xs path n block) (fragment_in ys path n block)
alike_in [] xs ys n block k = alike_here xs ys (first_of n block) (behind_of n block) k
alike_in (b ∷ []) xs ys n block k = tt
alike_in (b ∷ m ∷ path) xs ys n block k =
    alike_found (λ (s : Statement). found_in (fragment_in (in_branches xs n block s) path m) (branch_of b s)) (λ (s : Statement). found_in (fragment_in (in_branches ys n block s) path m) (branch_of b s)) (numbered n block)
    (λ s. alike_found (fragment_in (in_branches xs n block s) path m) (fragment_in (in_branches ys n block s) path m) (branch_of b s)
    (λ body. alike_in path (in_branches xs n block s) (in_branches ys n block s) m body (same_with (with_names xs (declared_among (first_of n block))) (with_names ys (declared_among (first_of n block))) (walking s) (same_with xs ys (declared_among (first_of n block)) k))))

alike_method : (path : List ℕ) (n : ℕ) (m : PlainMethod) → BothAlike (fragment_in_method path n m) (fragment_in (names_of_params m.params) path n m.body)
alike_method path n m = alike_in path (with_names [] (names_of_params m.params)) (names_of_params m.params) n m.body (record { by = among_set (names_of_params m.params) })

pub alike_at : (path : List ℕ) (p : PlainProgram) → BothAlike (fragment_once_at path p) (fragment_at path p)
alike_at [] p = tt
alike_at (m ∷ []) p = tt
alike_at (m ∷ n ∷ path) p =
    alike_found (fragment_in_method path n) (λ (k : PlainMethod). fragment_in (names_of_params k.params) path n k.body) (slice_get p.methods m) (alike_method path n)

-- ---- What is needed

abbrev needed_by : (List ℕ → Bool) → Names → Names → Option (List ℕ) → Names → Names
needed_by seen declared mentioned k updated =
    filter (λ x. seen x || is_among mentioned x) (with_names [] (filter (λ x. (seen x || is_among declared x) && not (is_name k x)) updated))

alike_needed : (f g : Fragment) → AreAlike f g → needed_of f ≡ needed_of g
alike_needed f g k = λ i. needed_by (λ x. k.visible.by x i) (with_names [] (declared_among (k.run i))) (with_names [] (mentioned_among (k.behind i))) (counter (k.loop i)) (updated_in (k.loop i))

alike_there : (o p : Option Fragment) → BothAlike o p → needed_there o ≡ needed_there p
alike_there (Some f) (Some g) k = alike_needed f g k
alike_there None None k = refl
alike_there (Some f) None k = absurd k
alike_there None (Some g) k = absurd k

pub needed_found : (path : List ℕ) (p : PlainProgram) (o : Option Fragment) → fragment_once_at path p ≡ o → needed_there o ≡ needed_at path p
needed_found path p o is = sym (ap needed_there is) ∙ alike_there (fragment_once_at path p) (fragment_at path p) (alike_at path p)

-- ---- Parameters of well-typed programs

some_method : (a b : PlainMethod) → Some a ≡ Some b → a ≡ b
some_method a b e = cc

module _ (schema : Schema) (read : List ℕ → Option PlainQuery) where
  params_once : (r : Option Spelled) (vs : Visible) (at : Span) (ps : List PlainParam) → faults_in schema read r (in_params schema vs at ps) ≡ [] → with_names (names_seen vs) (names_of_params ps) ≡ names_seen vs ++ names_of_params ps
  params_once r vs at [] h = sym (append-nil (names_seen vs))
  params_once r vs at (p ∷ ps) h =
      let n = none_at schema read r (param vs at p) (in_params schema (declared_in vs p.name (type_spelled schema p.ty)) at ps) h in
      let new = neither (is_visible vs p.name) _ (only_none (taken vs p.name) at n.left.single) in
      let more : names_seen (declared_in vs p.name (type_spelled schema p.ty)) ≡ names_seen vs ++ p.name ∷ [] =
      ap names_seen (declared_new vs p.name (type_spelled schema p.ty) new.left) ∙ map-append (λ v. v.0) vs ((p.name, type_spelled schema p.ty) ∷ []) in
      ap (λ (xs : Names). with_names xs (names_of_params ps)) (sym (seen_declared vs p.name (type_spelled schema p.ty)))
      ∙ params_once r (declared_in vs p.name (type_spelled schema p.ty)) at ps n.right
      ∙ ap (λ (xs : Names). xs ++ names_of_params ps) more
      ∙ append_assoc (names_seen vs) (p.name ∷ []) (names_of_params ps)

  method_once : (double : Bool) (m : PlainMethod) → faults_in schema read m.result (whole double m ∷ in_method schema m) ≡ [] → with_names [] (names_of_params m.params) ≡ names_of_params m.params
  method_once double m h =
      let n = none_at schema read m.result (whole double m) (in_method schema m) h in
      let two = none_in schema read m.result (in_params schema [] m.span m.params) (in_statements schema (with_params schema [] m.params) in_body m.body) n.right in
      params_once m.result [] m.span m.params two.left

  nth_once : (ms : List PlainMethod) (names : Visible) (n : ℕ) (m : PlainMethod) → faults_in_methods schema read names ms ≡ [] → slice_get ms n ≡ Some m → with_names [] (names_of_params m.params) ≡ names_of_params m.params
  nth_once [] names n m h e = absurd cc
  nth_once (k ∷ ms) names zero m h e =
      let two = none_both (faults_in schema read k.result (whole (is_visible names k.name) k ∷ in_method schema k)) (faults_in_methods schema read (declared_in names k.name None) ms) h in
      ap (λ (z : PlainMethod). with_names [] (names_of_params z.params)) (sym (some_method k m e)) ∙ method_once (is_visible names k.name) k two.left ∙ ap (λ (z : PlainMethod). names_of_params z.params) (some_method k m e)
  nth_once (k ∷ ms) names (suc n) m h e =
      let two = none_both (faults_in schema read k.result (whole (is_visible names k.name) k ∷ in_method schema k)) (faults_in_methods schema read (declared_in names k.name None) ms) h in
      nth_once ms (declared_in names k.name None) n m two.right e

  once_in : (path : List ℕ) (n : ℕ) (ms : List PlainMethod) (k : ℕ) (o : Option PlainMethod) → faults_in_methods schema read [] ms ≡ [] → slice_get ms k ≡ o → found_in (fragment_in_method path n) o ≡ found_in (λ (m : PlainMethod). fragment_in (names_of_params m.params) path n m.body) o
  once_in path n ms k None h e = refl
  once_in path n ms k (Some m) h e = ap (λ (xs : Names). fragment_in xs path n m.body) (nth_once ms [] k m h e)

  -- the fragment of a loop of a well-typed program
  pub once_is : (path : List ℕ) (p : PlainProgram) → IsWellTyped schema read p → fragment_once_at path p ≡ fragment_at path p
  once_is [] p h = refl
  once_is (m ∷ []) p h = refl
  once_is (m ∷ n ∷ path) p h = once_in path n p.methods m (slice_get p.methods m) h refl
