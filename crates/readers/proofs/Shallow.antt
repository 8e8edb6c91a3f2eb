-- Readers that never find anything too deep.
use Rattle.std.proofs.Common.{ℕ, zero, suc, Bool, true, false, cond, List, [], ◌∷◌, length, Option, Some, None, Result, Ok, Err}
use Rattle.readers.specs.declared.fault.Fault.{Fault}
use Rattle.readers.specs.declared.fault.Fault.TheVariants.{Unexpected, TooDeep}
use Rattle.readers.specs.Reading.{◌>>=◌, Read, IsDeep, accepted, token_at, both, made, first_passes, either, is_over, up_to, many, ended, whole}

abbrev pub Shallow : {T A : Type 0} → (List T → Read T A) → Type 0
Shallow reader = (ts : List _) → IsDeep (reader ts) → ⊥

pub shallow_bind : {A B : Type 0} (a : Result A Fault) (f : A → Result B Fault) → (IsDeep a → ⊥) → ((x : A) → IsDeep (f x) → ⊥) → IsDeep (a >>= f) → ⊥
shallow_bind (Ok x) f p q d = q x d
shallow_bind (Err (Unexpected n)) f p q d = d
shallow_bind (Err (TooDeep n)) f p q d = p d

pub shallow_cond : {A : Type 0} (b : Bool) (x y : Result A Fault) → (IsDeep x → ⊥) → (IsDeep y → ⊥) → IsDeep (cond b x y) → ⊥
shallow_cond true x y p q d = p d
shallow_cond false x y p q d = q d

accepted_shallow : {T A : Type 0} (o : Option A) (ts : List T) → IsDeep (accepted o ts) → ⊥
accepted_shallow None ts d = d
accepted_shallow (Some x) ts d = d

pub token_shallow : {T A : Type 0} (f : T → Option A) → Shallow (token_at f)
token_shallow f [] d = d
token_shallow f (t ∷ ts) d = accepted_shallow (f t) ts d

pub both_shallow : {T A B : Type 0} (r : List T → Read T A) (s : List T → Read T B) → Shallow r → Shallow s → Shallow (both r s)
both_shallow r s p q ts = shallow_bind (r ts) (λ x. s x.1 >>= λ y. Ok ((x.0, y.0), y.1)) (p ts) (λ x. shallow_bind (s x.1) (λ y. Ok ((x.0, y.0), y.1)) (q x.1) (λ y d. d))

pub made_shallow : {T A B : Type 0} (f : A → B) (r : List T → Read T A) → Shallow r → Shallow (made f r)
made_shallow f r p ts = shallow_bind (r ts) (λ x. Ok (f x.0, x.1)) (p ts) (λ x d. d)

pub either_shallow : {T A : Type 0} (test : T → Bool) (r s : List T → Read T A) → Shallow r → Shallow s → Shallow (either test r s)
either_shallow test r s p q ts = shallow_cond (first_passes test ts) (r ts) (s ts) (p ts) (q ts)

up_to_shallow : {T A : Type 0} (stop : T → Bool) (r : List T → Read T A) → Shallow r → (n : ℕ) → Shallow (up_to stop r n)
unfolding up_to
up_to_shallow stop r p zero ts d = d
up_to_shallow stop r p (suc n) ts d =
    shallow_cond (is_over stop ts) (Ok ([], ts)) (r ts >>= λ x. up_to stop r n x.1 >>= λ xs. Ok (x.0 ∷ xs.0, xs.1)) (λ e. e)
    (shallow_bind (r ts) (λ x. up_to stop r n x.1 >>= λ xs. Ok (x.0 ∷ xs.0, xs.1)) (p ts) (λ x. shallow_bind (up_to stop r n x.1) (λ xs. Ok (x.0 ∷ xs.0, xs.1)) (up_to_shallow stop r p n x.1) (λ xs e. e))) d

pub many_shallow : {T A : Type 0} (stop : T → Bool) (r : List T → Read T A) → Shallow r → Shallow (many stop r)
many_shallow stop r p ts = up_to_shallow stop r p (length ts) ts

ended_shallow : {T A : Type 0} (x : A) (ts : List T) → IsDeep (ended (x, ts)) → ⊥
ended_shallow x [] d = d
ended_shallow x (t ∷ ts) d = d

pub whole_shallow : {T A : Type 0} (r : List T → Read T A) → Shallow r → (ts : List T) → IsDeep (whole r ts) → ⊥
whole_shallow r p ts = shallow_bind (r ts) ended (p ts) (λ x. ended_shallow x.0 x.1)
