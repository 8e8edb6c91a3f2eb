-- Simulation goes through each way of putting runs together.
use Rattle.std.proofs.Common.{◌≡◌, Bool, true, false, Option, Result, Ok, Err, refl, sym, subst}
use Rattle.qbs_base.specs.declared.scalar.Value.{Value}
use Rattle.java_mean.specs.declared.ending.Ending.{Ending}
use Rattle.java_mean.specs.declared.ending.Ending.TheVariants as endings
use Rattle.java_mean.specs.Endings.{◌>>=◌}
use Rattle.java_mean.specs.Refines.{Related, Exits, Passes, PassesBack, Follows, Simulates}
use Rattle.java_mean.specs.Statement.{State, Passed, GoesOn, Leaves, Returns, Does, done, then_do, then_turn, branch}

-- where a value is there it holds; a run of an expression may be stuck only where that is allowed
abbrev pub Holds : {A : Type 0} → Type 0 → (A → Type 0) → Result A Ending → Type 0
Holds stuck p (Ok x) = p x
Holds stuck p (Err (endings.Faulted fault at)) = Unit {0}
Holds stuck p (Err endings.OutOfTurns) = Unit {0}
Holds stuck p (Err endings.Stuck) = stuck

pub follows_value : {A : Type 0} (p : A → Type 0) (r : Related) (k : Exits) (o q : Result A Ending) (f g : A → Result Passed Ending) → o ≡ q → Holds k.stuck p o → ((x : A) → p x → Follows r k (f x) (g x)) → Follows r k (o >>= f) (q >>= g)
follows_value p r k (Ok x) q f g e h i = subst (λ z. Follows r k (f x) (z >>= g)) e (i x h)
follows_value p r k (Err (endings.Faulted fault at)) q f g e h i = tt
follows_value p r k (Err endings.OutOfTurns) q f g e h i = tt
follows_value p r k (Err endings.Stuck) q f g e h i = h

pub follows_then : (r r' : Related) (k : Exits) (o p : Result Passed Ending) (f g : Does) → Follows r k o p → ((s t : State) → r s t → Follows r' k (f s) (g t)) → Follows r' k (then_do o f) (then_do p g)
follows_then r r' k (Ok (GoesOn s)) p f g e h = subst (λ z. Follows r' k (f s) (then_do z g)) (sym e.is) (h s e.state e.holds)
follows_then r r' k (Ok (Leaves s)) p f g e h = subst (λ z. Passes k.leaves Leaves s (then_do z g)) (sym e.is) (record { state = e.state; is = refl; holds = e.holds })
follows_then r r' k (Ok (Returns s v)) p f g e h = (subst (λ z. PassesBack s v (then_do z g)) (sym e.0.is) (record { state = e.0.state; is = refl; lines = e.0.lines }), e.1)
follows_then r r' k (Err (endings.Faulted fault at)) p f g e h = tt
follows_then r r' k (Err endings.OutOfTurns) p f g e h = tt
follows_then r r' k (Err endings.Stuck) p f g e h = e

-- a turn of a loop: its leavings go on after the loop, in related states
pub record Loops (r : Related) (inner outer : Exits) : Type 0 where
  pub leaves : (s t : State) → inner.leaves s t → r s t
  pub returns : (v : Option Value) → inner.returns v → outer.returns v
  pub stuck : inner.stuck → outer.stuck

pub follows_turn : (r r' : Related) (inner outer : Exits) (o p : Result Passed Ending) (f g : Does) → Loops r' inner outer → Follows r inner o p → ((s t : State) → r s t → Follows r' outer (f s) (g t)) → Follows r' outer (then_turn o f) (then_turn p g)
follows_turn r r' inner outer (Ok (GoesOn s)) p f g l e h = subst (λ z. Follows r' outer (f s) (then_turn z g)) (sym e.is) (h s e.state e.holds)
follows_turn r r' inner outer (Ok (Leaves s)) p f g l e h = subst (λ z. Passes r' GoesOn s (then_turn z g)) (sym e.is) (record { state = e.state; is = refl; holds = l.leaves s e.state e.holds })
follows_turn r r' inner outer (Ok (Returns s v)) p f g l e h = (subst (λ z. PassesBack s v (then_turn z g)) (sym e.0.is) (record { state = e.0.state; is = refl; lines = e.0.lines }), l.returns v e.1)
follows_turn r r' inner outer (Err (endings.Faulted fault at)) p f g l e h = tt
follows_turn r r' inner outer (Err endings.OutOfTurns) p f g l e h = tt
follows_turn r r' inner outer (Err endings.Stuck) p f g l e h = l.stuck e

pub follows_branch : (r : Related) (k : Exits) (b : Bool) (f g f' g' : Does) (s t : State) → Follows r k (f s) (f' t) → Follows r k (g s) (g' t) → Follows r k (branch b f g s) (branch b f' g' t)
follows_branch r k true f g f' g' s t h i = h
follows_branch r k false f g f' g' s t h i = i

-- a stronger relation
pub record Weaker (k k' : Exits) : Type 0 where
  pub leaves : (s t : State) → k.leaves s t → k'.leaves s t
  pub returns : (v : Option Value) → k.returns v → k'.returns v
  pub stuck : k.stuck → k'.stuck

pub follows_wider : (r r' : Related) (k k' : Exits) (o p : Result Passed Ending) → ((s t : State) → r s t → r' s t) → Weaker k k' → Follows r k o p → Follows r' k' o p
follows_wider r r' k k' (Ok (GoesOn s)) p h w e = record { state = e.state; is = e.is; holds = h s e.state e.holds }
follows_wider r r' k k' (Ok (Leaves s)) p h w e = record { state = e.state; is = e.is; holds = w.leaves s e.state e.holds }
follows_wider r r' k k' (Ok (Returns s v)) p h w e = (e.0, w.returns v e.1)
follows_wider r r' k k' (Err (endings.Faulted fault at)) p h w e = tt
follows_wider r r' k k' (Err endings.OutOfTurns) p h w e = tt
follows_wider r r' k k' (Err endings.Stuck) p h w e = w.stuck e

pub simulates_done : (r r' : Related) (k : Exits) → ((s t : State) → r s t → r' s t) → Simulates r r' k done done
simulates_done r r' k h = record { by = λ s t i. record { state = t; is = refl; holds = h s t i } }

pub simulates_then : (r r' r'' : Related) (k : Exits) (f f' g g' : Does) → Simulates r r' k f f' → Simulates r' r'' k g g' → Simulates r r'' k (λ s. then_do (f s) g) (λ s. then_do (f' s) g')
simulates_then r r' r'' k f f' g g' h i = record { by = λ s t e. follows_then r' r'' k (f s) (f' t) g g' (h.by s t e) i.by }

pub simulates_wider : (r r' q q' : Related) (k k' : Exits) (f g : Does) → ((s t : State) → q s t → r s t) → ((s t : State) → r' s t → q' s t) → Weaker k k' → Simulates r r' k f g → Simulates q q' k' f g
simulates_wider r r' q q' k k' f g h i w e = record { by = λ s t x. follows_wider r' q' k k' (f s) (g t) i w (e.by s t (h s t x)) }
