-- The type of a variable that is visible at a loop is the one that its declaration spells.
use Rattle.std.specs.Prelude.{ℕ, zero, suc, Bool, List, [], ◌∷◌, bytes_eq}
use Rattle.std.proofs.Common.{◌≡◌, Option, Some, None, true, false, refl, sym, ap, ◌∙◌, subst, cond}
use Rattle.qbs_base.specs.Values.{Schema}
use Rattle.sql_ast.specs.Tree.{PlainQuery}
use Rattle.java_ast.specs.Path.{found_in, numbered, branch_of, first_of, statement_in}
use Rattle.java_ast.specs.Tree.{Spelled, Statement, Statements, Nothing, Then, PlainParam, PlainMethod, PlainProgram}
use Rattle.java_ast.specs.Tree as tree
use Rattle.java_mean.specs.declared.types.JavaType.{JavaType}
use Rattle.java_mean.specs.Types.{Types, with_type, type_spelled, types_after, types_past, types_of_params, visible_at, visible_in}
use Rattle.loop_text.specs.Statements.Fragment.{Fragment, fragment_at}
use Rattle.java_loops.specs.Kernel.Kernel.{types_in_method, types_at, setting_there, setting_at}
use Rattle.java_loops.specs.Kernel.Setting.{Setting, setting_of}
use Rattle.java_loops.specs.Lowering.Spelling.{spelled_after, spelled_past, spelled_inside, spelled_in, spelled_of_param, spelled_in_method, spelled_at}
use Rattle.java_loops.proofs.Kept.KeptPath.{setting_fragment}
use Rattle.java_loops.proofs.Placing.Place.{IsPlacedIn, placed_at}
use Rattle.java_loops.proofs.Placing.PlaceTypes.{found_some, visible_before, no_first, no_other, same_body, same_statement}

module _ (schema : Schema) (x : List ℕ) where
  -- the type under the schema is the one that is spelled
  abbrev Tells : Types → Option Spelled → Type 0
  Tells g o = g x ≡ found_in (type_spelled schema) o

  tells_new : (b : Bool) (ty : Spelled) (k : Option JavaType) (o : Option Spelled) → k ≡ found_in (type_spelled schema) o → cond b (type_spelled schema ty) k ≡ found_in (type_spelled schema) (cond b (Some ty) o)
  tells_new true ty k o h = refl
  tells_new false ty k o h = h

  tells_after : (s : Statement) (g : Types) (o : Option Spelled) → Tells g o → Tells (types_after schema g s) (spelled_after x o s)
  tells_after (tree.Declare at ty y e) g o h = tells_new (bytes_eq y x) ty (g x) o h
  tells_after (tree.Assign at y e) g o h = h
  tells_after (tree.Add at y e) g o h = h
  tells_after (tree.Sort at y keys down) g o h = h
  tells_after (tree.If at c a) g o h = h
  tells_after (tree.IfElse at c a b) g o h = h
  tells_after (tree.ForEach at ty y e b) g o h = h
  tells_after (tree.While at c b) g o h = h
  tells_after (tree.Print at e) g o h = h
  tells_after (tree.Return at e) g o h = h
  tells_after (tree.Break at) g o h = h

  tells_past : (ss : Statements) (g : Types) (o : Option Spelled) → Tells g o → Tells (types_past schema g ss) (spelled_past x o ss)
  tells_past Nothing g o h = h
  tells_past (Then s ss) g o h = tells_past ss (types_after schema g s) (spelled_after x o s) (tells_after s g o h)

  tells_params : (ps : List PlainParam) → Tells (types_of_params schema ps) (spelled_of_param x ps)
  tells_params [] = refl
  tells_params (p ∷ ps) = tells_new (bytes_eq p.name x) p.ty (types_of_params schema ps x) (spelled_of_param x ps) (tells_params ps)

  -- ---- Along a path

  comes_to : (n : ℕ) (block : Statements) (g : Types) (s : Statement) (path : List ℕ) → numbered n block ≡ Some s → visible_at schema g block n path ≡ visible_in schema (types_past schema g (first_of n block)) s path
  comes_to zero Nothing g s path e = absurd cc
  comes_to (suc n) Nothing g s path e = absurd cc
  comes_to zero (Then a p) g s path e = ap (λ (t : Statement). visible_in schema g t path) (same_statement a s e)
  comes_to (suc n) (Then a p) g s path e = comes_to n p (types_after schema g a) s path e

  -- the branch of a statement, with what is visible at its start
  record GoesInto (g : Types) (o : Option Spelled) (b : ℕ) (s : Statement) (body : Statements) : Type 0 where
    types : Types
    tells : Tells types (spelled_inside x o s)
    down : (m : ℕ) (path : List ℕ) → visible_in schema g s (b ∷ m ∷ path) ≡ visible_at schema types body m path

  goes_into : (s : Statement) (b : ℕ) (body : Statements) (g : Types) (o : Option Spelled) → Tells g o → branch_of b s ≡ Some body → GoesInto g o b s body
  goes_into (tree.If at c p) zero body g o h e = subst (GoesInto g o zero (tree.If at c p)) (same_body p body e) (record { types = g; tells = h; down = λ m path. refl })
  goes_into (tree.If at c p) (suc b) body g o h e = absurd (no_first b p body e)
  goes_into (tree.IfElse at c p q) zero body g o h e = subst (GoesInto g o zero (tree.IfElse at c p q)) (same_body p body e) (record { types = g; tells = h; down = λ m path. refl })
  goes_into (tree.IfElse at c p q) (suc zero) body g o h e = subst (GoesInto g o (suc zero) (tree.IfElse at c p q)) (same_body q body e) (record { types = g; tells = h; down = λ m path. refl })
  goes_into (tree.IfElse at c p q) (suc (suc b)) body g o h e = absurd (no_other b p q body e)
  goes_into (tree.ForEach at ty y c p) zero body g o h e =
      subst (GoesInto g o zero (tree.ForEach at ty y c p)) (same_body p body e) (record { types = with_type y (type_spelled schema ty) g; tells = tells_new (bytes_eq y x) ty (g x) o h; down = λ m path. refl })
  goes_into (tree.ForEach at ty y c p) (suc b) body g o h e = absurd (no_first b p body e)
  goes_into (tree.While at c p) zero body g o h e = subst (GoesInto g o zero (tree.While at c p)) (same_body p body e) (record { types = g; tells = h; down = λ m path. refl })
  goes_into (tree.While at c p) (suc b) body g o h e = absurd (no_first b p body e)
  goes_into (tree.Declare at ty y c) b body g o h e = absurd cc
  goes_into (tree.Assign at y c) b body g o h e = absurd cc
  goes_into (tree.Add at y c) b body g o h e = absurd cc
  goes_into (tree.Sort at y keys down) b body g o h e = absurd cc
  goes_into (tree.Print at c) b body g o h e = absurd cc
  goes_into (tree.Return at c) b body g o h e = absurd cc
  goes_into (tree.Break at) b body g o h e = absurd cc

  same_types : (o : Option Types) (a b : Types) → o ≡ Some a → o ≡ Some b → a ≡ b
  same_types o a b e h = cc

  tells_there : (path : List ℕ) (n : ℕ) (block : Statements) (g there : Types) (o : Option Spelled) (s : Statement) → Tells g o → statement_in path n block ≡ Some s → visible_at schema g block n path ≡ Some there → Tells there (spelled_in x o path n block)
  tells_there [] n block g there o s h e v =
      let before : Types = types_past schema g (first_of n block) in
      subst (λ (z : Types). Tells z (spelled_past x o (first_of n block))) (same_types (visible_at schema g block n []) before there (comes_to n block g s [] e ∙ visible_before schema before s) v) (tells_past (first_of n block) g o h)
  tells_there (b ∷ []) n block g there o s h e v = absurd cc
  tells_there (b ∷ m ∷ path) n block g there o s h e v =
      let a = found_some (λ (t : Statement). found_in (statement_in path m) (branch_of b t)) (numbered n block) s e in
      let d = found_some (statement_in path m) (branch_of b a.value) s a.gives in
      let before : Types = types_past schema g (first_of n block) in
      let o' : Option Spelled = spelled_past x o (first_of n block) in
      let j : GoesInto before o' b a.value d.value = goes_into a.value b d.value before o' (tells_past (first_of n block) g o h) d.is in
      let inner : visible_at schema j.types d.value m path ≡ Some there = sym (comes_to n block g a.value (b ∷ m ∷ path) a.is ∙ j.down m path) ∙ v in
      let here : spelled_in x o (b ∷ m ∷ path) n block ≡ spelled_in x (spelled_inside x o' a.value) path m d.value =
      ap (found_in (λ (t : Statement). found_in (spelled_in x (spelled_inside x o' t) path m) (branch_of b t))) a.is ∙ ap (found_in (spelled_in x (spelled_inside x o' a.value) path m)) d.is in
      subst (Tells there) (sym here) (tells_there path m d.value j.types there (spelled_inside x o' a.value) s j.tells d.gives inner)

-- ---- In a program

setting_types : (schema : Schema) (read : List ℕ → Option PlainQuery) (w : Setting) (types : Option Types) (fragment : Option Fragment) → setting_there schema read types fragment ≡ Some w → types ≡ Some w.types
setting_types schema read w (Some g) (Some f) h = let same : setting_of schema read g f ≡ w = cc in ap (λ (z : Setting). Some z.types) same
setting_types schema read w (Some g) None h = absurd cc
setting_types schema read w None (Some f) h = absurd cc
setting_types schema read w None None h = absurd cc

-- The type of a variable at a loop is that of the type with which it was declared.
pub spelled_there : (schema : Schema) (read : List ℕ → Option PlainQuery) (p : PlainProgram) (path : List ℕ) (w : Setting) (x : List ℕ) → setting_at schema read path p ≡ Some w → w.types x ≡ found_in (type_spelled schema) (spelled_at x path p)
spelled_there schema read p path w x is =
    let leads : fragment_at path p ≡ Some w.fragment = setting_fragment schema read p path w (types_at schema path p) (fragment_at path p) refl is in
    let k : IsPlacedIn p path w.fragment = placed_at path p w.fragment leads in
    let m : PlainMethod = k.method in
    let seen : visible_at schema (types_of_params schema m.params) m.body k.first k.down ≡ Some w.types =
    sym (ap (λ (q : List ℕ). types_at schema q p) k.is ∙ ap (found_in (types_in_method schema k.first k.down)) k.found) ∙ setting_types schema read w (types_at schema path p) (fragment_at path p) is in
    tells_there schema x k.down k.first m.body (types_of_params schema m.params) w.types (spelled_of_param x m.params) w.fragment.loop (tells_params schema x m.params) k.placed.loop_there seen
    ∙ ap (found_in (type_spelled schema)) (sym (ap (λ (q : List ℕ). spelled_at x q p) k.is ∙ ap (found_in (spelled_in_method x k.down k.first)) k.found))
