use Rattle.std.proofs.Common.{◌≡◌, [], sym, subst}
use Rattle.kernel_lang.specs.Plain.{Fragment}
use Rattle.kernel_lang.specs.Refuted.{IsRefuted}
use Rattle.kernel_lang.specs.Whole.{fragment_of}
use Rattle.kernel_lang.specs.Worked.{class_A}
use Rattle.kernel_lang.proofs.Refuting.{nothing_refuted}
use Rattle.search_cases.proofs.refuting.answer_by_one_database.Goals as goal

pub returns-then-is_known : goal.returns-then-is_known
returns-then-is_known c = λ e.
    let same : fragment_of c.args.frag.now ≡ class_A = c.is_known.ensures c.if-is_known.true in
    let none : c.args.cand.now ≡ [] = c.is_empty.ensures.0 c.if-is_empty.true in
    subst (λ (f : Fragment). ∥ IsRefuted f c.args.cand.now ∥₁) (sym same) (subst (λ x. ∥ IsRefuted class_A x ∥₁) (sym none) ∣ nothing_refuted ∣₁)
