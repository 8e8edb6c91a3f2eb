use Rattle.std.proofs.Common.{◌≡◌, ◌∙◌, true, false, refl}
use Rattle.proof_store.specs.Banks.{refused}
use Rattle.proof_store.proofs.Banked.{does_refuse, takes_it, was_put}
use Rattle.proof_store.proofs.bank.Bank.put.Goals as goal

pub returns-then-refuses-clause-puts : goal.returns-then-refuses-clause-puts
returns-then-refuses-clause-puts c = refused (does_refuse c.refuses.result c.as_slice.result.now c.args.self.now c.args.item c.refuses.ensures (c.as_slice.ensures ∙ c.self.view_is) c.if-refuses.true)

pub returns-then-refuses-clause-refused : goal.returns-then-refuses-clause-refused
returns-then-refuses-clause-refused c = (λ e. does_refuse c.refuses.result c.as_slice.result.now c.args.self.now c.args.item c.refuses.ensures (c.as_slice.ensures ∙ c.self.view_is) c.if-refuses.true, λ r. refl)

pub returns-clause-puts : goal.returns-clause-puts
returns-clause-puts c =
    was_put c.args.self.now c.self.inside.items c.args.item c.push.new.self c.self.view_is c.in_ok-push.ensures.ok
    (takes_it c.refuses.result c.as_slice.result.now c.args.self.now c.args.item c.refuses.ensures (c.as_slice.ensures ∙ c.self.view_is) c.if-refuses.false)

pub returns-clause-refused : goal.returns-clause-refused
returns-clause-refused c = (
  λ e. absurd (let x : true ≡ false = e in cc),
  λ r. absurd (takes_it c.refuses.result c.as_slice.result.now c.args.self.now c.args.item c.refuses.ensures (c.as_slice.ensures ∙ c.self.view_is) c.if-refuses.false r),
)
