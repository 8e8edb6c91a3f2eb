use Rattle.std.proofs.Common.{List, map, refl, sym, ap, ◌∙◌}
use Rattle.java_ast.specs.Reading.{program as plain_program}
use Rattle.kernel_lang.specs.Whole.{fragment_of}
use Rattle.rewrite_core.specs.Checking.{candidate_for}
use Rattle.tor_axioms.specs.declared.derivation.Derivation.{Derivation}
use Rattle.tor_axioms.specs.Accepts.{proof_of}
use Rattle.rewrite_core.proofs.ShownLoops.{one_shown}
use Rattle.rewrite_core.proofs.checking.check_lowered.Goals as goal

pub returns-in_ok-path-in-Some : goal.returns-in_ok-path-in-Some
returns-in_ok-path-in-Some c =
    one_shown c.args.schema.now (plain_program c.args.typed.now.program) c.args.path.now c.args.e.now.k (map proof_of c.args.e.now.proofs) c.args.lowered.now c.requires.lowered c.requires.typed c.args.typed.now.numbers c.in-Some.candidate
    (record { path = c.in_ok-path-in-Some.path; first = c.args.lowered.now.first; others = c.in_ok-others-in-Some.others })
    (sym c.in-Some.is ∙ (c.in_ok-candidate_shown.ensures ∙ ap (λ (ds : List Derivation). candidate_for (fragment_of c.args.lowered.now.frag) c.args.e.now.k (map proof_of ds)) c.as_slice.ensures))
    c.args.lowered.now.frag.valid
    (c.in_ok-path-in-Some.ensures ∙ c.as_slice-in-Some.ensures)
    refl
    (c.in_ok-others-in-Some.ensures.exact c.requires.lowered.setting c.requires.lowered.there)
    (c.in_ok-others-in-Some.ensures.asks c.requires.lowered.setting c.requires.lowered.there)
