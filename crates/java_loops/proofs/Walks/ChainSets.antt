-- What doesn't set a variable makes nothing of it, and a chain is through statements that set it.
use Rattle.std.proofs.Common.{◌≡◌, ℕ, Bool, true, false, not, cond, ◌||◌, List, [], ◌∷◌, Option, Some, None, Result, Ok, refl, ap, ◌∙◌}
use Rattle.std.specs.Prelude.{bytes_eq}
use Rattle.qbs_base.specs.declared.scalar.Value.{Value}
use Rattle.java_ast.specs.Tree as tree
use Rattle.java_ast.specs.Tree.{Expression, Statement, Statements, Nothing, Then}
use Rattle.java_mean.specs.declared.ending.Ending.{Ending}
use Rattle.java_mean.specs.Endings.{◌>>=◌}
use Rattle.java_mean.specs.Expression.{value_of, as_scalar, as_bool, truth as truth_value}
use Rattle.java_mean.specs.Statement.{is_set_type}
use Rattle.java_mean.specs.Store.{Store, Variable, put}
use Rattle.java_mean.specs.World as java
use Rattle.java_mean.proofs.Puts.{name_same}
use Rattle.tor_terms.specs.Plain.{Form}
use Rattle.tor_terms.specs.Truth.{same_bool}
use Rattle.kernel_lang.specs.Plain.{Fragment}
use Rattle.kernel_lang.specs.Running.{Layer}
use Rattle.java_loops.specs.Walks.Chains.{Change, declares, IsUpdate, push, push_new, tick, tick_turned, plus, plus_turned, mark, takes, IsBranch, only_branch, first_branch, other_branch, IsChain, update, under, best, over, AreChain, here, declared, later}
use Rattle.java_loops.specs.Walks.Effects.{sets, all_set, truth_in, truth_at, declared as declared_as, and_then, settled, effect, effects}
use Rattle.java_loops.specs.Walks.Numbering.{Numbering, Flags}
use Rattle.java_loops.proofs.Walks.ChainTests.{cond_off, cond_on, both_false, or_left, or_right}

-- ---- What isn't set

pub unset_effect : (s : Statement) (w : java.World) (a : List ℕ) (env : Store) (v : Variable) → sets s a ≡ false → effect s w a env v ≡ Some v
unset_effect (tree.Declare at ty x e) w a env v h = refl
unset_effect (tree.Assign at x e) w a env v h = cond_off (bytes_eq x a) _ (Some v) h
unset_effect (tree.Add at x e) w a env v h = cond_off (bytes_eq x a) _ (Some v) h
unset_effect (tree.Sort at x keys down) w a env v h = refl
unset_effect (tree.If at c p) w a env v h = cond_off (all_set p a) _ (Some v) h
unset_effect (tree.IfElse at c p q) w a env v h = cond_off (all_set p a || all_set q a) _ (Some v) h
unset_effect (tree.ForEach at ty x e b) w a env v h = cond_off (all_set b a) _ (Some v) h
unset_effect (tree.While at c b) w a env v h = refl
unset_effect (tree.Print at e) w a env v h = refl
unset_effect (tree.Return at e) w a env v h = refl
unset_effect (tree.Break at) w a env v h = refl

-- a statement that is no declaration, and those after it
pub effects_then : (s : Statement) (p : Statements) (bs : List (List ℕ)) (w : java.World) (a : List ℕ) (env : Store) (v : Variable) → declares s ≡ false → effects (Then s p) bs w a env v ≡ and_then (effect s w a env v) (effects p bs w a (settled bs (effect s w) env))
effects_then (tree.Declare at ty x e) p bs w a env v h = absurd cc
effects_then (tree.Assign at x e) p bs w a env v h = refl
effects_then (tree.Add at x e) p bs w a env v h = refl
effects_then (tree.Sort at x keys down) p bs w a env v h = refl
effects_then (tree.If at c q) p bs w a env v h = refl
effects_then (tree.IfElse at c q r) p bs w a env v h = refl
effects_then (tree.ForEach at ty x e b) p bs w a env v h = refl
effects_then (tree.While at c b) p bs w a env v h = refl
effects_then (tree.Print at e) p bs w a env v h = refl
effects_then (tree.Return at e) p bs w a env v h = refl
effects_then (tree.Break at) p bs w a env v h = refl

-- statements after one that makes nothing of the variable
pub passed : (s : Statement) (p : Statements) (bs : List (List ℕ)) (w : java.World) (a : List ℕ) (env : Store) (v : Variable) → declares s ≡ false → sets s a ≡ false → effects (Then s p) bs w a env v ≡ effects p bs w a (settled bs (effect s w) env) v
passed s p bs w a env v h k = effects_then s p bs w a env v h ∙ ap (λ o. and_then o (effects p bs w a (settled bs (effect s w) env))) (unset_effect s w a env v k)

unset_step : (s : Statement) (p : Statements) (bs : List (List ℕ)) (w : java.World) (a : List ℕ) (env : Store) (v : Variable) → sets s a ≡ false → ((bs' : List (List ℕ)) (env' : Store) → effects p bs' w a env' v ≡ Some v) → effects (Then s p) bs w a env v ≡ Some v
unset_step (tree.Declare at ty b e) p bs w a env v h ih = ih (b ∷ bs) (put env b (declared_as (is_set_type ty) (value_of e w env)))
unset_step (tree.Assign at x e) p bs w a env v h ih = passed (tree.Assign at x e) p bs w a env v refl h ∙ ih bs _
unset_step (tree.Add at x e) p bs w a env v h ih = passed (tree.Add at x e) p bs w a env v refl h ∙ ih bs _
unset_step (tree.Sort at x keys down) p bs w a env v h ih = passed (tree.Sort at x keys down) p bs w a env v refl h ∙ ih bs _
unset_step (tree.If at c q) p bs w a env v h ih = passed (tree.If at c q) p bs w a env v refl h ∙ ih bs _
unset_step (tree.IfElse at c q r) p bs w a env v h ih = passed (tree.IfElse at c q r) p bs w a env v refl h ∙ ih bs _
unset_step (tree.ForEach at ty x e b) p bs w a env v h ih = passed (tree.ForEach at ty x e b) p bs w a env v refl h ∙ ih bs _
unset_step (tree.While at c b) p bs w a env v h ih = passed (tree.While at c b) p bs w a env v refl h ∙ ih bs _
unset_step (tree.Print at e) p bs w a env v h ih = passed (tree.Print at e) p bs w a env v refl h ∙ ih bs _
unset_step (tree.Return at e) p bs w a env v h ih = passed (tree.Return at e) p bs w a env v refl h ∙ ih bs _
unset_step (tree.Break at) p bs w a env v h ih = passed (tree.Break at) p bs w a env v refl h ∙ ih bs _

pub unset_effects : (p : Statements) (bs : List (List ℕ)) (w : java.World) (a : List ℕ) (env : Store) (v : Variable) → all_set p a ≡ false → effects p bs w a env v ≡ Some v
unset_effects Nothing bs w a env v h = refl
unset_effects (Then s p) bs w a env v h =
    let t = both_false (sets s a) (all_set p a) h in
    unset_step s p bs w a env v t.0 (λ bs' env'. unset_effects p bs' w a env' v t.1)

some_after : (o : Option Variable) (g : Variable → Option Variable) → ((v : Variable) → g v ≡ Some v) → and_then o g ≡ o
some_after None g h = refl
some_after (Some v) g h = h v

-- a statement, and others after it that make nothing of the variable
pub alone_sets : (s : Statement) (p : Statements) (bs : List (List ℕ)) (w : java.World) (a : List ℕ) (env : Store) (v : Variable) → declares s ≡ false → all_set p a ≡ false → effects (Then s p) bs w a env v ≡ effect s w a env v
alone_sets s p bs w a env v h k = effects_then s p bs w a env v h ∙ some_after (effect s w a env v) (effects p bs w a (settled bs (effect s w) env)) (λ u. unset_effects p bs w a (settled bs (effect s w) env) u k)

-- ---- A chain's statements set the variable

update_sets : (n : Numbering) (s : Statement) (a : List ℕ) (ch : Change) → IsUpdate n s a ch → sets s a ≡ true
update_sets n _ _ _ (push at a e x i) = name_same a
update_sets n _ _ _ (push_new at a e j c i) = name_same a
update_sets n _ _ _ (tick at at' at'' at''' a) = name_same a
update_sets n _ _ _ (tick_turned at at' at'' at''' a) = name_same a
update_sets n _ _ _ (plus at at' at'' a e j c i) = name_same a
update_sets n _ _ _ (plus_turned at at' at'' a e j c i) = name_same a
update_sets n _ _ _ (mark at at' a opposite) = name_same a
update_sets n _ _ _ (takes at a e j c i) = name_same a

branch_sets : (s : Statement) (a : List ℕ) (polarity : Bool) (c : Expression) (p : Statements) → IsBranch s a polarity c p → all_set p a ≡ true → sets s a ≡ true
branch_sets _ _ _ _ _ (only_branch at a c p) h = h
branch_sets _ _ _ _ _ (first_branch at a c p q k) h = or_left (all_set p a) (all_set q a) h
branch_sets _ _ _ _ _ (other_branch at a c p q k) h = or_right (all_set p a) (all_set q a) h

mutual
  pub chain_sets : (f : Fragment) (quiet : Bool) (n : Numbering) (flags : Flags) (s : Statement) (a : List ℕ) (fs : List Form) (ys : List Layer) (ch : Change) → IsChain f quiet n flags s a fs ys ch → sets s a ≡ true
  chain_sets f _ _ _ _ _ _ _ _ (update quiet n flags s a ch i) = update_sets n s a ch i
  chain_sets f _ _ _ _ _ _ _ _ (under quiet n flags s a polarity c p g gs ys ch b i h) = branch_sets s a polarity c p b (chains_set f quiet n flags [] p a gs ys ch h)
  chain_sets f _ _ _ _ _ _ _ _ (best quiet n flags s a polarity c p way j column fs gs b i h) = branch_sets s a polarity c p b (chains_set f quiet n flags [] p a gs [] _ h)
  chain_sets f _ _ _ _ _ _ _ _ (over quiet n flags at ty x e p a j gs ys u opposite l i k o new h) = chains_set f quiet _ flags [] p a gs ys _ h

  pub chains_set : (f : Fragment) (quiet : Bool) (n : Numbering) (flags : Flags) (bs : List (List ℕ)) (p : Statements) (a : List ℕ) (fs : List Form) (ys : List Layer) (ch : Change) → AreChain f quiet n flags bs p a fs ys ch → all_set p a ≡ true
  chains_set f _ _ _ _ _ _ _ _ _ (here quiet n flags bs s p a fs ys ch h k) = or_left (sets s a) (all_set p a) (chain_sets f quiet n flags s a fs ys ch h)
  chains_set f _ _ _ _ _ _ _ _ _ (declared quiet n flags bs at at' b start p a fs ys ch i k h) = chains_set f quiet n _ (b ∷ bs) p a fs ys ch h
  chains_set f _ _ _ _ _ _ _ _ _ (later quiet n flags flags' bs s p a fs ys ch i k t o h) = or_right (sets s a) (all_set p a) (chains_set f quiet n flags' bs p a fs ys ch h)

update_declares : (n : Numbering) (s : Statement) (a : List ℕ) (ch : Change) → IsUpdate n s a ch → declares s ≡ false
update_declares n _ _ _ (push at a e x i) = refl
update_declares n _ _ _ (push_new at a e j c i) = refl
update_declares n _ _ _ (tick at at' at'' at''' a) = refl
update_declares n _ _ _ (tick_turned at at' at'' at''' a) = refl
update_declares n _ _ _ (plus at at' at'' a e j c i) = refl
update_declares n _ _ _ (plus_turned at at' at'' a e j c i) = refl
update_declares n _ _ _ (mark at at' a opposite) = refl
update_declares n _ _ _ (takes at a e j c i) = refl

branch_declares : (s : Statement) (a : List ℕ) (polarity : Bool) (c : Expression) (p : Statements) → IsBranch s a polarity c p → declares s ≡ false
branch_declares _ _ _ _ _ (only_branch at a c p) = refl
branch_declares _ _ _ _ _ (first_branch at a c p q k) = refl
branch_declares _ _ _ _ _ (other_branch at a c p q k) = refl

pub chain_declares : (f : Fragment) (quiet : Bool) (n : Numbering) (flags : Flags) (s : Statement) (a : List ℕ) (fs : List Form) (ys : List Layer) (ch : Change) → IsChain f quiet n flags s a fs ys ch → declares s ≡ false
chain_declares f _ _ _ _ _ _ _ _ (update quiet n flags s a ch i) = update_declares n s a ch i
chain_declares f _ _ _ _ _ _ _ _ (under quiet n flags s a polarity c p g gs ys ch b i h) = branch_declares s a polarity c p b
chain_declares f _ _ _ _ _ _ _ _ (best quiet n flags s a polarity c p way j column fs gs b i h) = branch_declares s a polarity c p b
chain_declares f _ _ _ _ _ _ _ _ (over quiet n flags at ty x e p a j gs ys u opposite l i k o new h) = refl

-- ---- Branches

other_cond : (t : Bool) (x y : Option Variable) → cond t x y ≡ cond (not t) y x
other_cond true x y = refl
other_cond false x y = refl

abbrev truth_of_value : Result Value Ending → Bool
truth_of_value r = truth_in (r >>= as_scalar >>= as_bool)

-- the statement makes of the variable what its branch does, where the branch runs
pub branch_effect : (s : Statement) (a : List ℕ) (polarity : Bool) (c : Expression) (p : Statements) (w : java.World) (env : Store) (v : Variable) (t : Bool) → IsBranch s a polarity c p → all_set p a ≡ true → value_of c w (put env a v) ≡ Ok (truth_value t) → effect s w a env v ≡ cond (same_bool polarity t) (effects p [] w a env v) (Some v)
branch_effect _ _ _ _ _ w env v t (only_branch at a c p) h e =
    cond_on (all_set p a) (cond (truth_at c w (put env a v)) (effects p [] w a env v) (Some v)) (Some v) h
    ∙ ap (λ r. cond (truth_of_value r) (effects p [] w a env v) (Some v)) e
branch_effect _ _ _ _ _ w env v t (first_branch at a c p q k) h e =
    cond_on (all_set p a || all_set q a) (cond (truth_at c w (put env a v)) (effects p [] w a env v) (effects q [] w a env v)) (Some v) (or_left (all_set p a) (all_set q a) h)
    ∙ ap (λ r. cond (truth_of_value r) (effects p [] w a env v) (effects q [] w a env v)) e
    ∙ ap (λ o. cond t (effects p [] w a env v) o) (unset_effects q [] w a env v k)
branch_effect _ _ _ _ _ w env v t (other_branch at a c p q k) h e =
    cond_on (all_set p a || all_set q a) (cond (truth_at c w (put env a v)) (effects p [] w a env v) (effects q [] w a env v)) (Some v) (or_right (all_set p a) (all_set q a) h)
    ∙ ap (λ r. cond (truth_of_value r) (effects p [] w a env v) (effects q [] w a env v)) e
    ∙ ap (λ o. cond t o (effects q [] w a env v)) (unset_effects p [] w a env v k)
    ∙ other_cond t (Some v) (effects q [] w a env v)
