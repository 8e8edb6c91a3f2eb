use Rattle.std.proofs.Common.{ℕ, ap, ◌∙◌, List, Bor}
use Rattle.tor_terms.specs.declared.term.Formula.{Formula}
use Rattle.qbs_base.specs.declared.scalar.Row.{Row}
use Rattle.kernel_interp.specs.Claiming.{any_visit}
use Rattle.kernel_interp.specs.Marking.{bound}
use Rattle.kernel_interp.specs.Members.{forms_lent, member_seen, members_seen}
use Rattle.kernel_interp.specs.Reading.{rows_in, world_of, plain_of}
use Rattle.kernel_interp.proofs.Claimed.{flag_chosen}
use Rattle.kernel_interp.proofs.choice.flag_holds.Goals as goal

pub returns-in-Some : goal.returns-in-Some
returns-in-Some c =
    flag_chosen (plain_of c.args.claims.setting) (world_of c.args.claims.setting) (members_seen c.args.claims.members.now) c.args.k (member_seen c.in-Some.member.now) c.args.loops.now (rows_in c.args.place.now) (λ j. c.args.claims.setting.no_row.now) c.visits_at.result
    c.in-Some.ensures c.requires c.args.claims.sound (ap {B = ℕ → Row} (λ (r : Row) (j : ℕ). r) c.args.claims.setting.no_cell)
    (c.visits_at.ensures
    ∙ ap (λ (fs : List (Bor Formula)). any_visit (world_of c.args.claims.setting) (plain_of c.args.claims.setting).atoms (forms_lent fs) c.inner_loops-inner.result.now (bound c.args.loops.now (rows_in c.args.place.now) (λ j. c.args.claims.setting.no_row.now))) c.as_slice.ensures.value
    ∙ ap (λ (js : List ℕ). any_visit (world_of c.args.claims.setting) (plain_of c.args.claims.setting).atoms (forms_lent c.in-Some.member.now.chosen.items) js (bound c.args.loops.now (rows_in c.args.place.now) (λ j. c.args.claims.setting.no_row.now))) c.inner_loops-inner.ensures)
