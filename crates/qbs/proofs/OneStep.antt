-- Where each step is so or stopped in one way, a command has one plan.
use Rattle.std.proofs.Common.{◌≡◌, inl, inr, Result, Ok, Err, subst, sym, ap, ◌∙◌}
use Rattle.deliveries.specs.declared.plan.Plan.{Plan}
use Rattle.deliveries.specs.Steps.{Ends, ends, step, refused}
use Rattle.qbs.specs.Top.{Alike}

-- one thing is so, or one plan stops, and never both
pub record IsOne {B : Type 0} (Is : B → Type 0) (Stops : Ends) : Type 0 where
  pub same : (b c : B) → Is b → Is c → b ≡ c
  pub stops : (p q : Plan) → Stops p → Stops q → p ≡ q
  pub apart : (b : B) (p : Plan) → Is b → Stops p → ⊥

pub record HasOne (due : Ends) : Type 0 where
  pub alike : (p q : Plan) → due p → due q → Alike p q

step_alike : {B : Type 0} (Is : B → Type 0) (Stops : Ends) (next : B → Ends) → IsOne {B = B} Is Stops → ((b : B) → Is b → HasOne (next b)) →
    (p q : Plan) → step {B = B} Is Stops next p → step {B = B} Is Stops next q → Alike p q
step_alike Is Stops next one further p q (inl a) (inl b) = inl (one.stops p q a b)
step_alike Is Stops next one further p q (inl a) (inr y) = absurd (one.apart y.0 p y.1 a)
step_alike Is Stops next one further p q (inr x) (inl b) = absurd (one.apart x.0 q x.1 b)
step_alike Is Stops next one further p q (inr x) (inr y) =
    (further y.0 y.1).alike p q (subst (λ b. next b p) (one.same x.0 y.0 x.1 y.1) x.2) y.2

pub step_one : {B : Type 0} (Is : B → Type 0) (Stops : Ends) (next : B → Ends) → IsOne {B = B} Is Stops → ((b : B) → Is b → HasOne (next b)) → HasOne (step {B = B} Is Stops next)
step_one Is Stops next one further = record { alike = step_alike Is Stops next one further }

-- where what a step asks for is so, the command goes on with it
pub goes : {B : Type 0} (Is : B → Type 0) (Stops : Ends) (next : B → Ends) → IsOne {B = B} Is Stops → (b : B) → Is b → (plan : Plan) → step {B = B} Is Stops next plan → next b plan
goes Is Stops next one b is plan (inl h) = absurd (one.apart b plan is h)
goes Is Stops next one b is plan (inr h) = subst (λ x. next x plan) (one.same h.0 b h.1 is) h.2

pub ends_one : (due : Plan) → HasOne (ends due)
ends_one due = record { alike = λ p q a b. inl (a ∙ sym b) }

-- ---- a step that a function decides

abbrev pub err_of : {A F : Type 0} → F → Result A F
err_of f = Err f

pub ok_same : {A F : Type 0} (r : Result A F) (x y : A) → r ≡ Ok x → r ≡ Ok y → x ≡ y
ok_same r x y a b = cc

err_same : {A F : Type 0} (r : Result A F) (x y : F) → r ≡ Err x → r ≡ Err y → x ≡ y
err_same r x y a b = cc

never_both : {A F : Type 0} (r : Result A F) (x : A) (y : F) → r ≡ Ok x → r ≡ Err y → ⊥
never_both r x y a b = absurd cc

pub decided : {B : Type 0} (Is : B → Type 0) (Stops : Ends) (r : Result B Plan) → ((b : B) → Is b → r ≡ Ok b) → ((p : Plan) → Stops p → r ≡ Err p) → IsOne {B = B} Is Stops
decided Is Stops r found stopped = record {
  same = λ b c x y. ok_same r b c (found b x) (found c y);
  stops = λ p q x y. err_same r p q (stopped p x) (stopped q y);
  apart = λ b p x y. never_both r b p (found b x) (stopped p y);
}

pub decided_by : {B F : Type 0} (Is : B → Type 0) (Lacks : F → Type 0) (refusal : F → Plan) (r : Result B F) → ((b : B) → Is b → r ≡ Ok b) → ((f : F) → Lacks f → r ≡ Err f) →
    IsOne {B = B} Is (refused {F = F} Lacks refusal)
decided_by Is Lacks refusal r found lacking = record {
  same = λ b c x y. ok_same r b c (found b x) (found c y);
  stops = λ p q x y. x.2 ∙ ap refusal (err_same r x.0 y.0 (lacking x.0 x.1) (lacking y.0 y.1)) ∙ sym y.2;
  apart = λ b p x y. never_both r b y.0 (found b x) (lacking y.0 y.1);
}
