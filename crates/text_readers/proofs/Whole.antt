-- What an exact reader says of all of the bytes.
use Rattle.std.proofs.Common.{◌≡◌, ℕ, suc, ◌+◌, ◌-◌, ◌≤◌, ◌<◌, List, [], ◌∷◌, ◌++◌, length, take, Result, Ok, Err, IfOk, IfErr, refl, sym, ap, subst, ◌∙◌, append_assoc, arith, inl, inr}
use Rattle.std.proofs.lemmas.Bool.{cases_lt}
use Rattle.std.proofs.lemmas.List.{append-nil, length-append}
use Rattle.std.proofs.Math.Seq.{take-append_seam, take-append-add}
use Rattle.readers.specs.declared.fault.Fault.{Fault}
use Rattle.readers.specs.declared.fault.Fault.TheVariants.{Unexpected, TooDeep}
use Rattle.readers.specs.Reading.{BeginsOne, IsDeep, IsFirstFault, ended, whole}
use Rattle.readers.proofs.Again.{Leads, Leads-bind}
use Rattle.readers.proofs.Whole.{whole_found, first_fault}
use Rattle.qbs_base.specs.declared.memory.Fail.{Fail}
use Rattle.qbs_base.specs.declared.memory.Fail.TheVariants as fails
use Rattle.text_readers.specs.Answers.{IsOnly, IsRightFault, left_of, AnswersAt}
use Rattle.text_readers.specs.Bytes.{Reader}
use Rattle.text_readers.specs.Offsets.{IsOffset}
use Rattle.text_readers.proofs.Exact.{IsText, Exact}
use Rattle.readers.proofs.Shallow.{whole_shallow}

-- ---- the place of a fault

module _ {A : Type 0} (Has : List ℕ → A → Type 0) where
  -- a longer front would begin a member with the byte at the fault
  longer : (front rest : List ℕ) (n : ℕ) → length front < n → n ≤ length (front ++ rest) → BeginsOne Has (take n (front ++ rest)) → (b : ℕ) × (bs : List ℕ) × (rest ≡ b ∷ bs) × BeginsOne Has (front ++ b ∷ [])
  longer front [] n more le begins = absurd (omega (arith, length-append front []))
  longer front (b ∷ bs) n more le begins =
      let m = n - length front - 1 in
      let k : n ≡ length front + suc m = omega arith in
      let here : take n (front ++ b ∷ bs) ≡ (front ++ b ∷ []) ++ take m bs = ap (λ (i : ℕ). take i (front ++ b ∷ bs)) k ∙ take-append-add front (b ∷ bs) (suc m) ∙ sym (append_assoc front (b ∷ []) (take m bs)) in
      let whole : take n (front ++ b ∷ bs) ++ begins.0 ≡ (front ++ b ∷ []) ++ (take m bs ++ begins.0) = ap (λ (us : List ℕ). us ++ begins.0) here ∙ append_assoc (front ++ b ∷ []) (take m bs) begins.0 in
      (b, bs, refl, (take m bs ++ begins.0, begins.1, subst (λ (us : List ℕ). Has us begins.1) whole begins.2))

  first_is_offset : (ts : List ℕ) (n : ℕ) → IsFirstFault Has ts n → IsOffset Has ts (length ts - n)
  first_is_offset ts n f =
      let count : length ts - n ≡ length f.front = omega (arith, ap length f.parts, length-append f.front f.rest, f.left) in
      let seam : take (length ts - n) ts ≡ f.front = ap (λ (i : ℕ). take i ts) count ∙ ap (λ (us : List ℕ). take (length f.front) us) f.parts ∙ take-append_seam f.front f.rest in
      record {
        within = omega arith;
        begins = subst (λ (us : List ℕ). BeginsOne Has us) (sym seam) f.begins;
        longest = λ k more le begins.
            let l = longer f.front f.rest k (omega (arith, count, more)) (omega (arith, le, ap length f.parts)) (subst (λ (us : List ℕ). BeginsOne Has (take k us)) f.parts begins) in
            f.none_goes_on l.0 l.1 l.2 l.3;
        no_member = f.is_none;
      }

-- two longest fronts are one
pub one_offset : {A : Type 0} (Has : List ℕ → A → Type 0) (bytes : List ℕ) (m n : ℕ) → IsOffset Has bytes m → IsOffset Has bytes n → m ≡ n
one_offset Has bytes m n x y = elim (cases_lt m n) [
  | inl less ↦ absurd (x.longest n less y.within y.begins)
  | inr more ↦ elim (cases_lt n m) [
    | inl less ↦ absurd (y.longest m less x.within x.begins)
    | inr least ↦ omega (arith, more, least)
  ]
]

abbrev ok_of : {A : Type 0} → A → Result A Fault
ok_of x = Ok x

abbrev err_of : {A : Type 0} → Fault → Result A Fault
err_of f = Err f

same_ok : {A : Type 0} (x y : A) → ok_of x ≡ ok_of y → x ≡ y
same_ok x y h = cc

clash : {A : Type 0} (f : Fault) (x : A) → err_of f ≡ ok_of x → ⊥
clash f x h = cc

-- ---- reading all of the bytes

module _ {A : Type 0} {text : A → List ℕ} {fits : A → Type 0} {F : List ℕ → Type 0} {r : Reader A} (e : Exact text fits F r) (ends : F []) where
  leads : (ts : List ℕ) (x : A) → IsText text fits ts x → Leads (whole r ts) (Ok x)
  leads ts x h =
      Leads-bind (r ts) (x, []) ended (subst (λ (us : List ℕ). Leads (r us) (Ok (x, []))) (append-nil ts) (e.again ts x [] h ends))

  pub all_found : (ts : List ℕ) (x : A) → whole r ts ≡ Ok x → IsText text fits ts x
  all_found ts x is = whole_found (IsText text fits) r e.lawful ts x is

  pub all_read : (ts : List ℕ) (x : A) → IsText text fits ts x → whole r ts ≡ Ok x
  all_read ts x h = elim (leads ts x h) [ inl is ↦ is | inr d ↦ absurd (whole_shallow r e.shallow ts d) ]

  pub all_fault : (ts : List ℕ) (f : Fault) → whole r ts ≡ Err f → IsOffset (IsText text fits) ts (length ts - left_of f)
  all_fault ts (Unexpected n) is = first_is_offset (IsText text fits) ts n (first_fault (IsText text fits) r e.lawful leads ts n is)
  all_fault ts (TooDeep n) is = absurd (whole_shallow r e.shallow ts (subst IsDeep (sym is) tt))

  -- ---- what is answered of it

  module _ {X E : Type 0} (place : E → ℕ) (view : X → A) (ts : List ℕ) where
    pub answer_found : (a : Result X (Fail E)) → AnswersAt place view (length ts) a (whole r ts) → IfOk a (λ x. IsText text fits ts (view x))
    answer_found (Ok x) is = all_found ts (view x) is
    answer_found (Err f) is = tt

    pub answer_only : (a : Result X (Fail E)) → AnswersAt place view (length ts) a (whole r ts) → (x : A) → IsText text fits ts x → IsOnly view a x
    answer_only (Ok y) is x h = same_ok (view y) x (sym is ∙ all_read ts x h)
    answer_only (Err (fails.Fault fault)) is x h = clash is.0 x (sym is.1 ∙ all_read ts x h)
    answer_only (Err fails.NoMemory) is x h = tt

    pub answer_fault : (a : Result X (Fail E)) → AnswersAt place view (length ts) a (whole r ts) → IfErr a (IsRightFault place (IsText text fits) ts)
    answer_fault (Ok x) is = tt
    answer_fault (Err (fails.Fault fault)) is = subst (λ (n : ℕ). IsOffset (IsText text fits) ts n) (sym is.2) (all_fault ts is.0 is.1)
    answer_fault (Err fails.NoMemory) is = tt
