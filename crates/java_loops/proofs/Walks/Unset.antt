-- What a statement makes of a variable that it doesn't set, and of one that has the loop's mark already.
use Rattle.std.proofs.Common.{◌≡◌, ℕ, Bool, true, false, ◌||◌, List, [], ◌∷◌, Option, Some, None, Result, Ok, refl, sym, ap, ◌∙◌, subst, cond}
use Rattle.std.specs.Prelude.{bytes_eq}
use Rattle.std.proofs.lemmas.Bool.{cond-false, or_parts}
use Rattle.qbs_base.specs.declared.scalar.Row.{Row}
use Rattle.qbs_base.specs.declared.scalar.Scalar.{Scalar}
use Rattle.qbs_base.specs.declared.scalar.Value.{Value}
use Rattle.qbs_base.specs.declared.scalar.Value.TheVariants.{One}
use Rattle.qbs_base.specs.Named.{at_name}
use Rattle.java_ast.specs.Tree.{Expression, Statement, Declare, Assign, Add, Sort, If, IfElse, ForEach, While, Print, Return, Break, Statements, Nothing, Then}
use Rattle.java_ast.specs.Tree as tree
use Rattle.java_mean.specs.declared.ending.Ending.{Ending}
use Rattle.java_mean.specs.Expression.{value_of, element}
use Rattle.java_mean.specs.Statement.{is_set_type}
use Rattle.java_mean.specs.Store.{Store, Variable, put, plainly}
use Rattle.java_mean.specs.World.{World}
use Rattle.java_mean.proofs.Puts.{names_equal}
use Rattle.java_loops.specs.Walks.Effects.{sets, all_set, truth_at, rows_at, assigned, and_then, folded, declared, settled, effect, effects}
use Rattle.java_loops.specs.Walks.Left.{Marked}
use Rattle.java_loops.specs.Walks.Nests.{Mark, IsLiteral, Allows, HoldsMark, IsNest, assign, add, when, choose, for_each, AreNest, nothing, declare, leave, next}
use Rattle.java_loops.specs.Walks.Reads.{Set}

-- ---- Ways of putting effects together

pub and_keeps : (o : Option Variable) (g : Variable → Option Variable) (v : Variable) (r : Option Variable) → o ≡ Some v → g v ≡ r → and_then o g ≡ r
and_keeps o g v r e h = ap (λ z. and_then z g) e ∙ h

pub cond_same : (b : Bool) (o p z : Option Variable) → o ≡ z → p ≡ z → cond b o p ≡ z
cond_same true o p z h k = h
cond_same false o p z h k = k

pub folded_keeps : (rows : List Row) (f : Row → Variable → Option Variable) (v : Variable) → ((row : Row) → f row v ≡ Some v) → folded rows f v ≡ Some v
folded_keeps [] f v h = refl
folded_keeps (row ∷ rows) f v h = and_keeps (f row v) (folded rows f) v (Some v) (h row) (folded_keeps rows f v h)

-- a statement of a nest and the rest of its block
pub steps : (s : Statement) (a f : Set) (m : Option Mark) → IsNest s a f m → (p : Statements) (bs : List (List ℕ)) (w : World) (x : List ℕ) (env : Store) (v : Variable) → effects (Then s p) bs w x env v ≡ and_then (effect s w x env v) (effects p bs w x (settled bs (effect s w) env))
steps _ _ _ _ (assign a f m at y e ay r al) p bs w x env v = refl
steps _ _ _ _ (add a f at y e ay r) p bs w x env v = refl
steps _ _ _ _ (when a f m at c q g k) p bs w x env v = refl
steps _ _ _ _ (choose a f m at c q r g k l) p bs w x env v = refl
steps _ _ _ _ (for_each a f m inner at ty y e b ay fy r i k) p bs w x env v = refl

-- ---- What isn't set

-- a statement makes nothing of a variable that it doesn't set
pub unset : (s : Statement) (w : World) (x : List ℕ) (env : Store) (v : Variable) → sets s x ≡ false → effect s w x env v ≡ Some v
unset (Declare at ty y e) w x env v n = refl
unset (Assign at y e) w x env v n = cond-false (bytes_eq y x) _ (Some v) n
unset (Add at y e) w x env v n = cond-false (bytes_eq y x) _ (Some v) n
unset (Sort at y keys down) w x env v n = refl
unset (If at c p) w x env v n = cond-false (all_set p x) _ (Some v) n
unset (IfElse at c p q) w x env v n = cond-false (all_set p x || all_set q x) _ (Some v) n
unset (ForEach at ty y e b) w x env v n = cond-false (all_set b x) _ (Some v) n
unset (While at c b) w x env v n = refl
unset (Print at e) w x env v n = refl
unset (Return at e) w x env v n = refl
unset (Break at) w x env v n = refl

-- and so do the statements of a block
pub all_unset : (p : Statements) (bs : List (List ℕ)) (w : World) (x : List ℕ) (env : Store) (v : Variable) → all_set p x ≡ false → effects p bs w x env v ≡ Some v
all_unset Nothing bs w x env v n = refl
all_unset (Then (Declare at ty b e) p) bs w x env v n = all_unset p (b ∷ bs) w x (put env b (declared (is_set_type ty) (value_of e w env))) v n
all_unset (Then s p) bs w x env v n =
    let two = or_parts (sets s x) (all_set p x) n in
    and_keeps (effect s w x env v) (effects p bs w x (settled bs (effect s w) env)) v (Some v) (unset s w x env v two.0) (all_unset p bs w x (settled bs (effect s w) env) v two.1)

-- ---- What has the mark

-- the variable isn't the marked one, or has its value
abbrev pub KeepsMark : Option Mark → List ℕ → Variable → Type 0
KeepsMark None x v = ⊥
KeepsMark (Some m) x v = bytes_eq m.name x ≡ true → v.value ≡ One m.value

pub marked_keeps : (m : Option Mark) (s : Store) (x : List ℕ) (v : Variable) → Marked m s → at_name s x ≡ Some v → KeepsMark m x v
marked_keeps None s x v k h = k
marked_keeps (Some m) s x v k h = λ e. k v (ap (at_name s) (names_equal m.name x e) ∙ h)

within_keeps : (m inner : Option Mark) (x : List ℕ) (v : Variable) → HoldsMark m inner → KeepsMark m x v → KeepsMark inner x v
within_keeps None inner x v i k = absurd k
within_keeps (Some m) inner x v i k = subst (λ z. KeepsMark z x v) (sym i) k

pub literal_is : (c : Scalar) (e : Expression) (w : World) (s : Store) → IsLiteral c e → value_of e w s ≡ Ok (One c)
literal_is c (tree.Lit at z) w s k = ap (λ u. Ok (One u)) k
literal_is c _ w s k = absurd k

assigned_step : (m : Mark) (x y : List ℕ) (o : Result Value Ending) (v : Variable) (p : Bool) → bytes_eq y x ≡ p → y ≡ m.name → o ≡ Ok (One m.value) → (bytes_eq m.name x ≡ true → v.value ≡ One m.value) → cond p (assigned o v) (Some v) ≡ Some v
assigned_step m x y o v true q n e k = ap (λ z. assigned z v) e ∙ ap (λ z. Some (record { value = z; is_set = v.is_set })) (sym (k (ap (λ z. bytes_eq z x) (sym n) ∙ q)))
assigned_step m x y o v false q n e k = refl

keeps_assign : (m : Option Mark) (y : List ℕ) (e : Expression) (w : World) (x : List ℕ) (env : Store) (v : Variable) → Allows m y e → KeepsMark m x v → cond (bytes_eq y x) (assigned (value_of e w (put env x v)) v) (Some v) ≡ Some v
keeps_assign None y e w x env v al k = absurd k
keeps_assign (Some m) y e w x env v al k = assigned_step m x y (value_of e w (put env x v)) v (bytes_eq y x) refl al.0 (literal_is m.value e w (put env x v) al.1) k

mutual
  -- where a loop may be left, its statements make nothing of what isn't marked or has the mark's value
  pub keeps : (s : Statement) (a f : Set) (m : Option Mark) → IsNest s a f m → (w : World) (x : List ℕ) (env : Store) (v : Variable) → KeepsMark m x v → effect s w x env v ≡ Some v
  keeps _ _ _ _ (assign a f m at y e ay r al) w x env v k = keeps_assign m y e w x env v al k
  keeps _ _ _ _ (add a f at y e ay r) w x env v k = absurd k
  keeps _ _ _ _ (when a f m at c p g i) w x env v k = cond_same (all_set p x) _ (Some v) (Some v) (cond_same (truth_at c w (put env x v)) (effects p [] w x env v) (Some v) (Some v) (all_keep p a f [] m i w x env v k) refl) refl
  keeps _ _ _ _ (choose a f m at c p q g i j) w x env v k = cond_same (all_set p x || all_set q x) _ (Some v) (Some v) (cond_same (truth_at c w (put env x v)) (effects p [] w x env v) (effects q [] w x env v) (Some v) (all_keep p a f [] m i w x env v k) (all_keep q a f [] m j w x env v k)) refl
  keeps _ _ _ _ (for_each a f m inner at ty y e b ay fy r i j) w x env v k = cond_same (all_set b x) (folded (rows_at e w (put env x v)) (λ row. effects b [] w x (put env y (plainly (element row)))) v) (Some v) (Some v) (folded_keeps (rows_at e w (put env x v)) (λ row. effects b [] w x (put env y (plainly (element row)))) v (λ row. all_keep b a _ [] inner j w x (put env y (plainly (element row))) v (within_keeps m inner x v i k))) refl

  pub all_keep : (p : Statements) (a f : Set) (bs : List (List ℕ)) (m : Option Mark) → AreNest p a f bs m → (w : World) (x : List ℕ) (env : Store) (v : Variable) → KeepsMark m x v → effects p bs w x env v ≡ Some v
  all_keep _ _ _ _ _ (nothing a f bs m) w x env v k = refl
  all_keep _ _ _ _ _ (declare a f bs m at at' ty b c p ab fb i) w x env v k = all_keep p a f (b ∷ bs) m i w x (put env b (declared (is_set_type ty) (Ok (One c)))) v k
  all_keep _ _ _ _ _ (leave a f bs at at' at'' y c ay) w x env v k = and_keeps (cond (bytes_eq y x) (assigned (Ok (One c)) v) (Some v)) (λ u. Some u) v (Some v) (assigned_step (record { name = y; value = c }) x y (Ok (One c)) v (bytes_eq y x) refl refl refl k) refl
  all_keep _ _ _ _ _ (next a f bs m s p i j) w x env v k = steps s _ _ m i p bs w x env v ∙ and_keeps (effect s w x env v) (effects p bs w x (settled bs (effect s w) env)) v (Some v) (keeps s _ _ m i w x env v k) (all_keep p a f bs m j w x (settled bs (effect s w) env) v k)
