-- A step of a command: it goes on, or it is stopped.
use Rattle.std.proofs.Common.{Result, Ok, Err, inl, inr}
use Rattle.deliveries.specs.declared.plan.Plan.{Plan}
use Rattle.deliveries.specs.declared.fetch.Stop.{Stop}
use Rattle.deliveries.specs.Code.{Goes, OrMemory}
use Rattle.deliveries.specs.Steps.{Ends, step}

-- what is due behind the step is due
pub goes_on : {B : Type 0} (Is : B → Type 0) (Stops : Ends) (next : B → Ends) (b : B) (result : Result Plan Stop) → Is b → OrMemory result (next b) → OrMemory result (step {B = B} Is Stops next)
goes_on Is Stops next b (Ok plan) is h = inr (b, is, h)
goes_on Is Stops next b (Err (Stop.Due plan)) is h = inr (b, is, h)
goes_on Is Stops next b (Err Stop.Memory) is h = tt

-- what stops it is due
pub stops_at : {A B : Type 0} (From : A → Type 0) (Is : B → Type 0) (Stops : Ends) (next : B → Ends) (stop : Stop) → Goes {A = A} (Err stop) From Stops → OrMemory (Err stop) (step {B = B} Is Stops next)
stops_at From Is Stops next (Stop.Due plan) h = inl h
stops_at From Is Stops next Stop.Memory h = tt

-- the same of all plans is due
pub due_as : (P Q : Ends) (result : Result Plan Stop) → ((plan : Plan) → P plan → Q plan) → OrMemory result P → OrMemory result Q
due_as P Q (Ok plan) f h = f plan h
due_as P Q (Err (Stop.Due plan)) f h = f plan h
due_as P Q (Err Stop.Memory) f h = tt
