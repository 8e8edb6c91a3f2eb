use Rattle.std.proofs.lemmas.List.{length-map}
use Rattle.std.proofs.Common.{length}
use Rattle.tor_axioms.specs.Accepts.{claim_of}
use Rattle.kernel_lang.specs.Whole.{fragment_of}
use Rattle.vc_gen.specs.Conditions.{claims_of}
use Rattle.vc_gen.proofs.Few.{few_by, counted_by}
use Rattle.vc_gen.proofs.Ended.{ends_by, ends_anywhere_by}
use Rattle.vc_gen.proofs.all.conditions.Goals as goal

pub returns-clause-sound : goal.returns-clause-sound
returns-clause-sound c = ends_by claims_of (fragment_of c.args.frag.now) c.args.cand.now c.args.frag.now.valid c.list_conditions.result c.list_conditions.ensures

pub returns-clause-anywhere : goal.returns-clause-anywhere
returns-clause-anywhere c = ends_anywhere_by claims_of (fragment_of c.args.frag.now) c.args.cand.now c.args.frag.now.valid c.list_conditions.result c.list_conditions.ensures

pub returns-clause-few : goal.returns-clause-few
returns-clause-few c = few_by claims_of (λ vcs. length vcs) (λ vcs. length-map vcs claim_of) (fragment_of c.args.frag.now) c.args.cand.now c.args.frag.now.valid c.list_conditions.result c.list_conditions.ensures

pub returns-clause-counted : goal.returns-clause-counted
returns-clause-counted c = counted_by claims_of (λ vcs. length vcs) (λ vcs. length-map vcs claim_of) (fragment_of c.args.frag.now) c.args.cand.now c.args.frag.now.valid c.list_conditions.result c.list_conditions.ensures
