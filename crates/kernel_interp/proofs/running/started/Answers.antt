use Rattle.std.proofs.Common.{◌≡◌, None, refl}
use Rattle.kernel_lang.specs.Plain.{accumulator}
use Rattle.kernel_interp.proofs.Starting.{push_start, push_new_start, tick_start, plus_start, best_start, mark_start}
use Rattle.kernel_interp.proofs.running.started.Goals as goal

pub start_number-requires : goal.start_number-requires
start_number-requires c = tick_start (accumulator c.args.acc.now) c.requires c.in-Tick.is

pub start_number-requires-in-Plus : goal.start_number-requires-in-Plus
start_number-requires-in-Plus c = plus_start (accumulator c.args.acc.now) _ c.requires c.in-Plus.is

pub start_number-requires-in-Best : goal.start_number-requires-in-Best
start_number-requires-in-Best c = best_start (accumulator c.args.acc.now) _ _ c.requires c.in-Best.is

pub start_truth-requires : goal.start_truth-requires
start_truth-requires c = mark_start (accumulator c.args.acc.now) c.requires c.in-Mark.is

pub returns-in-Push-clause-data : goal.returns-in-Push-clause-data
returns-in-Push-clause-data c =
    let n : c.args.acc.now.start ≡ None = push_start (accumulator c.args.acc.now) _ c.requires c.in-Push.is in
    rw (n, c.new.ensures) refl

pub returns-in-PushNew-clause-data : goal.returns-in-PushNew-clause-data
returns-in-PushNew-clause-data c =
    let n : c.args.acc.now.start ≡ None = push_new_start (accumulator c.args.acc.now) _ c.requires c.in-PushNew.is in
    rw (n, c.new-in-PushNew.ensures) refl
