-- What a block leaves visible.
use Rattle.std.proofs.Common.{◌≡◌, ℕ, List, [], ◌∷◌, ◌++◌, Bool, true, false, refl, ap, ◌∙◌, Option, take, length}
use Rattle.std.specs.Prelude.{if◌then◌else◌}
use Rattle.qbs_base.specs.Values.{Schema}
use Rattle.java_mean.specs.declared.types.JavaType.{JavaType}
use Rattle.java_mean.specs.Places.{walking}
use Rattle.java_mean.specs.Visible.{Visible, is_visible, declared_in, after}
use Rattle.java_ast.specs.Tree as plain
use Rattle.java_ast.specs.Tree.{Expression, Statement}

take_all : {A : Type 0} (vs : List A) → take (length vs) vs ≡ vs
take_all [] = refl
take_all {A} (v ∷ vs) = ap (λ (l : List A). v ∷ l) (take_all vs)

take_front : {A : Type 0} (vs ws : List A) → take (length vs) (vs ++ ws) ≡ vs
take_front [] ws = refl
take_front {A} (v ∷ vs) ws = ap (λ (l : List A). v ∷ l) (take_front vs ws)

take_more : (ws vs us : Visible) → take (length ws) vs ≡ ws → take (length ws) (vs ++ us) ≡ ws
take_more [] vs us h = refl
take_more (w ∷ ws) [] us h = cc
take_more (w ∷ ws) (v ∷ vs) us h =
    let e : v ≡ w = cc in
    let f : take (length ws) vs ≡ ws = cc in
    ap (λ (l : Visible). v ∷ l) (take_more ws vs us f) ∙ ap (λ (x : List ℕ × Option JavaType). x ∷ ws) e

declared_by : (b : Bool) (ws vs us : Visible) → take (length ws) vs ≡ ws → take (length ws) (if b then vs else (vs ++ us)) ≡ ws
declared_by true ws vs us h = h
declared_by false ws vs us h = take_more ws vs us h

pub take-declared_in : (ws vs : Visible) (x : List ℕ) (t : Option JavaType) → take (length ws) vs ≡ ws → take (length ws) (declared_in vs x t) ≡ ws
take-declared_in ws vs x t h = declared_by (is_visible vs x) ws vs ((x, t) ∷ []) h

pub cut_declared : (vs : Visible) (x : List ℕ) (t : Option JavaType) → take (length vs) (declared_in vs x t) ≡ vs
cut_declared vs x t = take-declared_in vs vs x t (take_all vs)

pub take-after : (schema : Schema) (ws vs : Visible) (a : Statement) → take (length ws) vs ≡ ws → take (length ws) (after schema vs a) ≡ ws
take-after schema ws vs (plain.Declare at ty x e) h = take-declared_in ws vs x _ h
take-after schema ws vs (plain.Assign at x e) h = h
take-after schema ws vs (plain.Add at x e) h = h
take-after schema ws vs (plain.Sort at x keys down) h = h
take-after schema ws vs (plain.If at c a) h = h
take-after schema ws vs (plain.IfElse at c a b) h = h
take-after schema ws vs (plain.ForEach at ty x e body) h = h
take-after schema ws vs (plain.While at c body) h = h
take-after schema ws vs (plain.Print at e) h = h
take-after schema ws vs (plain.Return at e) h = h
take-after schema ws vs (plain.Break at) h = h

pub cut_all : (vs : Visible) → take (length vs) vs ≡ vs
cut_all vs = take_all vs

-- what a loop leaves walked
pub walked_cut : (ws : List (List ℕ)) (e : Expression) → take (length ws) (walking e ws) ≡ ws
walked_cut ws (plain.Lit at x) = take_all ws
walked_cut ws (plain.Var at x) = take_front ws (x ∷ [])
walked_cut ws (plain.Field at e f) = take_all ws
walked_cut ws (plain.Binary at op a b) = take_all ws
walked_cut ws (plain.Not at e) = take_all ws
walked_cut ws (plain.Equals at a b) = take_all ws
walked_cut ws (plain.Size at x) = take_all ws
walked_cut ws (plain.Get at x e) = take_all ws
walked_cut ws (plain.Contains at x e) = take_all ws
walked_cut ws (plain.Fetch at x) = take_all ws
walked_cut ws (plain.Query at ty text es) = take_all ws
walked_cut ws (plain.QueryLong at text es) = take_all ws
walked_cut ws (plain.QueryBoolean at text es) = take_all ws
walked_cut ws (plain.NewList at) = take_all ws
walked_cut ws (plain.NewSet at) = take_all ws
walked_cut ws (plain.NewSetOf at e) = take_all ws

pub ruleset cuts = (cut_declared, take-after, cut_all)
