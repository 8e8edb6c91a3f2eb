-- In a well-typed program the types of the variables that the code finds at a loop are those of the definition, and what it
-- finds there is the setting of the loop.
use Rattle.std.specs.Prelude.{ℕ, zero, suc, Bool, false, ◌==◌, List, [], ◌∷◌, if◌then◌else◌}
use Rattle.std.proofs.Common.{◌≡◌, Option, Some, None, refl, sym, ap, ◌∙◌, subst, arith}
use Rattle.std.proofs.lemmas.Bool.Decides.{nat_tests}
use Rattle.qbs_base.specs.Values.{Schema}
use Rattle.sql_ast.specs.Tree.{PlainQuery}
use Rattle.java_ast.specs.Path.{found_in, numbered, branch_of, first_branch, either_branch, first_of, statement_in}
use Rattle.java_ast.specs.Tree.{Spelled, Statement, Statements, Nothing, Then, PlainParam, PlainMethod, PlainProgram}
use Rattle.java_ast.specs.Tree as tree
use Rattle.java_mean.specs.Places as places
use Rattle.java_mean.specs.Places.{in_branch, in_while, in_for_each, in_body, is_nothing}
use Rattle.java_mean.specs.Types.{Types, type_spelled, with_type, types_after, types_past, types_of_params, visible_at, visible_in}
use Rattle.java_mean.specs.Visible.{Visible, type_at, declared_in, after, with_params}
use Rattle.java_mean.specs.WellTyped.{IsWellTyped}
use Rattle.java_mean.proofs.Bridge.{IsSeen, nth_seen}
use Rattle.java_mean.proofs.Faultless.{Sees}
use Rattle.loop_text.specs.Statements.Fragment.{Fragment, fragment_at}
use Rattle.java_loops.specs.Kernel.Kernel.{types_in_method, types_at, setting_there, setting_at}
use Rattle.java_loops.specs.Lowering.Placing.{scope_after, scope_past, scope_inside, scope_within, scope_in, scope_of_params, scope_in_method, scope_at, fragment_once_at}
use Rattle.java_loops.specs.Kernel.Setting.{setting_of}
use Rattle.java_loops.proofs.Listed.ListedSeen.{IsClean, AreClean, first_clean, sees_after, sees_walked, branch_clean, branches_clean, turn_clean}
use Rattle.java_loops.proofs.Kept.NeededOnce.{once_is}
use Rattle.java_loops.proofs.Placing.Place.{IsPlacedIn, placed_at}

-- ---- What is visible under a schema

same_after : (schema : Schema) (vs : Visible) (s : Statement) → scope_after (Some schema) vs s ≡ after schema vs s
same_after schema vs (tree.Declare at ty x e) = refl
same_after schema vs (tree.Assign at x e) = refl
same_after schema vs (tree.Add at x e) = refl
same_after schema vs (tree.Sort at x keys down) = refl
same_after schema vs (tree.If at c a) = refl
same_after schema vs (tree.IfElse at c a b) = refl
same_after schema vs (tree.ForEach at ty x e b) = refl
same_after schema vs (tree.While at c b) = refl
same_after schema vs (tree.Print at e) = refl
same_after schema vs (tree.Return at e) = refl
same_after schema vs (tree.Break at) = refl

same_params : (schema : Schema) (vs : Visible) (ps : List PlainParam) → scope_of_params (Some schema) vs ps ≡ with_params schema vs ps
same_params schema vs [] = refl
same_params schema vs (p ∷ ps) = same_params schema (declared_in vs p.name (type_spelled schema p.ty)) ps

pub visible_before : (schema : Schema) (g : Types) (s : Statement) → visible_in schema g s [] ≡ Some g
visible_before schema g (tree.Declare at ty x e) = refl
visible_before schema g (tree.Assign at x e) = refl
visible_before schema g (tree.Add at x e) = refl
visible_before schema g (tree.Sort at x keys down) = refl
visible_before schema g (tree.If at c a) = refl
visible_before schema g (tree.IfElse at c a b) = refl
visible_before schema g (tree.ForEach at ty x e b) = refl
visible_before schema g (tree.While at c b) = refl
visible_before schema g (tree.Print at e) = refl
visible_before schema g (tree.Return at e) = refl
visible_before schema g (tree.Break at) = refl

-- ---- What is found in what was found

pub record FoundIn {A B : Type 0} (f : A → Option B) (o : Option A) (y : B) : Type 0 where
  pub value : A
  pub is : o ≡ Some value
  pub gives : f value ≡ Some y

pub found_some : {A B : Type 0} (f : A → Option B) (o : Option A) (y : B) → found_in f o ≡ Some y → FoundIn f o y
found_some f None y e = absurd cc
found_some f (Some x) y e = record { value = x; is = refl; gives = e }

-- ---- Along a path

not_zero : (b : ℕ) → (suc b == 0) ≡ false
not_zero b = grind (arith, nat_tests)

not_one : (b : ℕ) → (suc (suc b) == 1) ≡ false
not_one b = grind (arith, nat_tests)

none_some : {A : Type 0} (o : Option A) (x : A) → o ≡ None → o ≡ Some x → ⊥
none_some o x e h = absurd cc

pub no_first : (b : ℕ) (p q : Statements) → first_branch (suc b) p ≡ Some q → ⊥
no_first b p q = none_some (first_branch (suc b) p) q (ap (λ (t : Bool). if t then Some p else None) (not_zero b))

pub no_other : (b : ℕ) (p q r : Statements) → either_branch (suc (suc b)) p q ≡ Some r → ⊥
no_other b p q r =
    none_some (either_branch (suc (suc b)) p q) r
    (ap (λ (t : Bool). if t then Some p else (if suc (suc b) == 1 then Some q else None)) (not_zero (suc b)) ∙ ap (λ (t : Bool). if t then Some q else None) (not_one b))

pub same_body : (p q : Statements) → Some p ≡ Some q → p ≡ q
same_body p q e = cc

pub same_statement : (s t : Statement) → Some s ≡ Some t → s ≡ t
same_statement s t e = cc

module _ (schema : Schema) (read : List ℕ → Option PlainQuery) (r : Option Spelled) where
  -- the statement with a number, with what is visible before it
  record ComesTo (vs : Visible) (g : Types) (w : places.Around) (n : ℕ) (block : Statements) (s : Statement) : Type 0 where
    last : Bool
    sees : Sees (scope_past (Some schema) vs (first_of n block)) (types_past schema g (first_of n block))
    clean : IsClean schema read r (scope_past (Some schema) vs (first_of n block)) w last s
    down : (path : List ℕ) → visible_at schema g block n path ≡ visible_in schema (types_past schema g (first_of n block)) s path

  comes_to : (n : ℕ) (block : Statements) (vs : Visible) (g : Types) (w : places.Around) (s : Statement) → Sees vs g → AreClean schema read r vs w block → numbered n block ≡ Some s → ComesTo vs g w n block s
  comes_to zero Nothing vs g w s k h e = absurd cc
  comes_to (suc n) Nothing vs g w s k h e = absurd cc
  comes_to zero (Then a p) vs g w s k h e =
      subst (ComesTo vs g w zero (Then a p)) (same_statement a s e) (record { last = is_nothing p; sees = k; clean = (first_clean schema read r vs w a p h).0; down = λ path. refl })
  comes_to (suc n) (Then a p) vs g w s k h e =
      let two = first_clean schema read r vs w a p h in
      let c : ComesTo (after schema vs a) (types_after schema g a) w n p s = comes_to n p (after schema vs a) (types_after schema g a) w s (sees_after schema read r vs g w (is_nothing p) a k two.0) two.1 e in
      let same : scope_past (Some schema) (after schema vs a) (first_of n p) ≡ scope_past (Some schema) vs (first_of (suc n) (Then a p)) = ap (λ (ws : Visible). scope_past (Some schema) ws (first_of n p)) (sym (same_after schema vs a)) in
      record {
        last = c.last;
        sees = subst (λ (ws : Visible). Sees ws (types_past schema (types_after schema g a) (first_of n p))) same c.sees;
        clean = subst (λ (ws : Visible). IsClean schema read r ws w c.last s) same c.clean;
        down = c.down;
      }

  -- the branch of a statement, with what is visible at its start
  record GoesInto (vs : Visible) (g : Types) (b : ℕ) (s : Statement) (body : Statements) : Type 0 where
    types : Types
    around : places.Around
    sees : Sees (scope_inside (Some schema) vs s) types
    clean : AreClean schema read r (scope_inside (Some schema) vs s) around body
    down : (m : ℕ) (path : List ℕ) → visible_in schema g s (b ∷ m ∷ path) ≡ visible_at schema types body m path

  goes_into : (s : Statement) (b : ℕ) (body : Statements) (vs : Visible) (g : Types) (w : places.Around) (last : Bool) → Sees vs g → IsClean schema read r vs w last s → branch_of b s ≡ Some body → GoesInto vs g b s body
  goes_into (tree.If at c p) zero body vs g w last k h e =
      subst (GoesInto vs g zero (tree.If at c p)) (same_body p body e) (record { types = g; around = in_branch w; sees = k; clean = branch_clean schema read r vs w last at c p h; down = λ m path. refl })
  goes_into (tree.If at c p) (suc b) body vs g w last k h e = absurd (no_first b p body e)
  goes_into (tree.IfElse at c p q) zero body vs g w last k h e =
      subst (GoesInto vs g zero (tree.IfElse at c p q)) (same_body p body e) (record { types = g; around = in_branch w; sees = k; clean = (branches_clean schema read r vs w last at c p q h).0; down = λ m path. refl })
  goes_into (tree.IfElse at c p q) (suc zero) body vs g w last k h e =
      subst (GoesInto vs g (suc zero) (tree.IfElse at c p q)) (same_body q body e) (record { types = g; around = in_branch w; sees = k; clean = (branches_clean schema read r vs w last at c p q h).1; down = λ m path. refl })
  goes_into (tree.IfElse at c p q) (suc (suc b)) body vs g w last k h e = absurd (no_other b p q body e)
  goes_into (tree.ForEach at ty x c p) zero body vs g w last k h e =
      let n = sees_walked schema read r vs g w last at ty x c p k h in
      subst (GoesInto vs g zero (tree.ForEach at ty x c p)) (same_body p body e) (record { types = with_type x (type_spelled schema ty) g; around = in_for_each c w; sees = n.0; clean = n.2; down = λ m path. refl })
  goes_into (tree.ForEach at ty x c p) (suc b) body vs g w last k h e = absurd (no_first b p body e)
  goes_into (tree.While at c p) zero body vs g w last k h e =
      subst (GoesInto vs g zero (tree.While at c p)) (same_body p body e) (record { types = g; around = in_while w; sees = k; clean = turn_clean schema read r vs w last at c p h; down = λ m path. refl })
  goes_into (tree.While at c p) (suc b) body vs g w last k h e = absurd (no_first b p body e)
  goes_into (tree.Declare at ty x c) b body vs g w last k h e = absurd cc
  goes_into (tree.Assign at x c) b body vs g w last k h e = absurd cc
  goes_into (tree.Add at x c) b body vs g w last k h e = absurd cc
  goes_into (tree.Sort at x keys down) b body vs g w last k h e = absurd cc
  goes_into (tree.Print at c) b body vs g w last k h e = absurd cc
  goes_into (tree.Return at c) b body vs g w last k h e = absurd cc
  goes_into (tree.Break at) b body vs g w last k h e = absurd cc

  -- the types at a statement are those that the scope there has
  record TypedThere (g : Types) (n : ℕ) (path : List ℕ) (block : Statements) (types : Visible) : Type 0 where
    there : Types
    is : visible_at schema g block n path ≡ Some there
    sees : Sees types there

  some_scope : (vs ws : Visible) → Some vs ≡ Some ws → vs ≡ ws
  some_scope vs ws e = cc

  typed_there : (path : List ℕ) (n : ℕ) (block : Statements) (vs : Visible) (g : Types) (w : places.Around) (s : Statement) (types : Visible) → Sees vs g → AreClean schema read r vs w block → statement_in path n block ≡ Some s → scope_in (Some schema) vs path n block ≡ Some types → TypedThere g n path block types
  typed_there [] n block vs g w s types k h e i =
      let c : ComesTo vs g w n block s = comes_to n block vs g w s k h e in
      record {
        there = types_past schema g (first_of n block);
        is = c.down [] ∙ visible_before schema (types_past schema g (first_of n block)) s;
        sees = subst (λ (ws : Visible). Sees ws (types_past schema g (first_of n block))) (some_scope (scope_past (Some schema) vs (first_of n block)) types i) c.sees;
      }
  typed_there (b ∷ []) n block vs g w s types k h e i = absurd cc
  typed_there (b ∷ m ∷ path) n block vs g w s types k h e i =
      let a = found_some (λ (t : Statement). found_in (statement_in path m) (branch_of b t)) (numbered n block) s e in
      let d = found_some (statement_in path m) (branch_of b a.value) s a.gives in
      let before : Visible = scope_past (Some schema) vs (first_of n block) in
      let c : ComesTo vs g w n block a.value = comes_to n block vs g w a.value k h a.is in
      let j : GoesInto before (types_past schema g (first_of n block)) b a.value d.value = goes_into a.value b d.value before (types_past schema g (first_of n block)) w c.last c.sees c.clean d.is in
      let scope : scope_in (Some schema) (scope_inside (Some schema) before a.value) path m d.value ≡ Some types =
      sym (ap (found_in (λ (t : Statement). found_in (scope_in (Some schema) (scope_within (Some schema) vs (first_of n block) t) path m) (branch_of b t))) a.is ∙ ap (found_in (scope_in (Some schema) (scope_within (Some schema) vs (first_of n block) a.value) path m)) d.is) ∙ i in
      let t : TypedThere j.types m path d.value types = typed_there path m d.value (scope_inside (Some schema) before a.value) j.types j.around s types j.sees j.clean d.gives scope in
      record { there = t.there; is = c.down (b ∷ m ∷ path) ∙ j.down m path ∙ t.is; sees = t.sees }

-- ---- In a program

extensional : {A B : Type 0} (f g : A → B) → ((x : A) → f x ≡ g x) → f ≡ g
extensional f g h = λ i. λ x. h x i

-- the types at a loop, and that the scope there has them
record TypesThere (schema : Schema) (path : List ℕ) (p : PlainProgram) (types : Visible) : Type 0 where
  there : Types
  is : types_at schema path p ≡ Some there
  same : type_at types ≡ there

types_there : (schema : Schema) (read : List ℕ → Option PlainQuery) (path : List ℕ) (p : PlainProgram) (f : Fragment) (types : Visible) → IsWellTyped schema read p → IsPlacedIn p path f → scope_at (Some schema) path p ≡ Some types → TypesThere schema path p types
types_there schema read path p f types well k e =
    let start : Visible = with_params schema [] k.method.params in
    let g : Types = types_of_params schema k.method.params in
    let m : IsSeen schema read k.method = nth_seen schema read p.methods [] k.number k.method well k.found in
    let scope : scope_in (Some schema) start k.down k.first k.method.body ≡ Some types =
    ap (λ (vs : Visible). scope_in (Some schema) vs k.down k.first k.method.body) (sym (same_params schema [] k.method.params)) ∙ sym (ap (found_in (scope_in_method (Some schema) k.down k.first)) k.found) ∙ sym (ap (λ (q : List ℕ). scope_at (Some schema) q p) k.is) ∙ e in
    let t : TypedThere schema read k.method.result g k.first k.down k.method.body types = typed_there schema read k.method.result k.down k.first k.method.body start g in_body f.loop types m.params m.body k.placed.loop_there scope in
    record {
      there = t.there;
      is = ap (λ (q : List ℕ). types_at schema q p) k.is ∙ ap (found_in (types_in_method schema k.first k.down)) k.found ∙ t.is;
      same = extensional (type_at types) t.there t.sees.same;
    }

-- The code's setting is that of the loop to which the path leads.
pub setting_found : (schema : Schema) (read : List ℕ → Option PlainQuery) (path : List ℕ) (p : PlainProgram) (f : Fragment) (types : Visible) → IsWellTyped schema read p → fragment_once_at path p ≡ Some f → scope_at (Some schema) path p ≡ Some types → setting_at schema read path p ≡ Some (setting_of schema read (type_at types) f)
setting_found schema read path p f types well is scope =
    let there : fragment_at path p ≡ Some f = sym (once_is schema read path p well) ∙ is in
    let t : TypesThere schema path p types = types_there schema read path p f types well (placed_at path p f there) scope in
    ap (λ (o : Option Types). setting_there schema read o (fragment_at path p)) t.is
    ∙ ap (setting_there schema read (Some t.there)) there
    ∙ ap (λ (g : Types). Some (setting_of schema read g f)) (sym t.same)
