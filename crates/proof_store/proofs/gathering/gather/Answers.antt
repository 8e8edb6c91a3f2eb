use Rattle.std.proofs.Common.{◌≡◌, ◌∙◌, Bool, true, not, List, map, take, refl, sym, ap, subst}
use Rattle.small_dbs.specs.Endings.{ending}
use Rattle.std.specs.List.{list_all}
use Rattle.kernel_lang.specs.Whole.{fragment_of}
use Rattle.templates.specs.Numbered.{candidates_of}
use Rattle.proof_store.proofs.Gathered.{gathers_all, unmarked}
use Rattle.proof_store.proofs.OneType.{items_gathered}
use Rattle.proof_store.proofs.gathering.gather.Goals as goal

pub invariant_of-searched : goal.invariant_of-searched
invariant_of-searched c =
    record {
      low = c.requires.size;
      typed = c.requires.typed;
      own = c.as_slice-2.ensures ∙ c.in_ok-all.ensures.exact;
      ended = c.as_slice-3.ensures ∙ c.in_ok-ends.ensures ∙ ap (map (ending (fragment_of c.args.frag.now))) (c.as_slice.ensures ∙ sym c.as_slice-2.ensures);
    }

pub gather_part-requires-clause-marked : goal.gather_part-requires-clause-marked
gather_part-requires-clause-marked c = unmarked c.args.schema.now (fragment_of c.args.frag.now) c.args.bank.now c.in_ok-marks.marks.items (subst (λ (ms : List Bool). list_all not ms ≡ true) (sym c.in_ok-marks.ensures) refl)

pub returns-clause-gathers : goal.returns-clause-gathers
returns-clause-gathers c =
    gathers_all c.args.schema.now (fragment_of c.args.frag.now) c.args.size c.args.before c.args.bank.now c.gather_part.new.bank c.gather_part.new.marks.items c.gather_part.result c.gather_part.ensures.put

pub returns-clause-items : goal.returns-clause-items
returns-clause-items c = λ h.
    items_gathered c.args.schema.now (fragment_of c.args.frag.now) (take c.args.before (candidates_of (fragment_of c.args.frag.now) c.args.size)) c.args.bank.now c.gather_part.new.bank c.gather_part.result
    (gathers_all c.args.schema.now (fragment_of c.args.frag.now) c.args.size c.args.before c.args.bank.now c.gather_part.new.bank c.gather_part.new.marks.items c.gather_part.result c.gather_part.ensures.put) h
