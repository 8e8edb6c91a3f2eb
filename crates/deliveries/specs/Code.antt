-- What only the code's contracts speak of: what comes of a step.
use Rattle.std.specs.Prelude.{◌≡◌, ℕ, ◌++◌, List, Result, Ok, Err, ⊤}
use Rattle.std.specs.declared.option.Option.{Option}
use Rattle.std.specs.declared.option.Option.TheVariants.{Some, None}
use Rattle.qbs_base.specs.declared.status.Status.{Status}
use Rattle.deliveries.specs.declared.plan.Plan.{Plan}
use Rattle.deliveries.specs.declared.fetch.Stop.{Stop}
use Rattle.deliveries.specs.Plan.{refusal}
use Rattle.deliveries.specs.Steps.{Ends}

-- what is so is there, or the plan that stops the command, where memory did not run out
abbrev pub Goes : {A : Type 0} → Result A Stop → (A → Type 0) → Ends → Type 0
Goes (Ok a) Is Stops = Is a
Goes (Err (Stop.Due plan)) Is Stops = Stops plan
Goes (Err Stop.Memory) Is Stops = ⊤

-- the rewritten program where there is one, else the one that was read
abbrev pub one_run : {A : Type 0} → A → Option A → A
one_run read None = read
one_run read (Some other) = other

-- the plan of either outcome, where memory did not run out
abbrev pub OrMemory : Result Plan Stop → Ends → Type 0
OrMemory result P = Goes result P P

-- a stop that isn't for want of memory is this plan
abbrev pub StopsWith : Plan → Stop → Type 0
StopsWith due (Stop.Due plan) = plan ≡ due
StopsWith due Stop.Memory = ⊤

-- or this refusal
abbrev pub StopsFor : Status → List ℕ → List ℕ → Stop → Type 0
StopsFor status text name stop = StopsWith (refusal status (text ++ name)) stop
