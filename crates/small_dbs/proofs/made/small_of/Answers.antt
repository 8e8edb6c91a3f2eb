use Rattle.std.proofs.Common.{◌+◌, ◌*◌, ◌≤◌, ◌++◌, List, length, arith, ap, ◌∙◌, subst, sym}
use Rattle.qbs_base.specs.declared.scalar.Scalar.{Scalar}
use Rattle.qbs_base.specs.declared.scalar.Ty.{Ty}
use Rattle.kernel_lang.specs.Whole.{fragment_of}
use Rattle.small_dbs.specs.Chosen.{entries}
use Rattle.small_dbs.specs.Held.{held}
use Rattle.small_dbs.proofs.Entered.{few_entries, small_made}
use Rattle.small_dbs.proofs.made.small_of.Goals as goal

pub push_entries-requires : goal.push_entries-requires
push_entries-requires c =
    let few = few_entries (fragment_of c.args.frag.now) c.args.frag.now.valid in
    let low = c.requires.low in
    subst (λ (types : List Ty). c.args.d + 2 * length types ≤ 1000) (sym c.as_slice.ensures) (omega (arith, few, low))

pub returns : goal.returns
returns c =
    small_made c.args.schema.now c.tables.result.now (fragment_of c.args.frag.now) c.args.d (held c.args.values.now) c.as_slice.result.now c.in_ok-db.db c.push_entries.new.all c.in_ok-known.known c.requires.own c.tables.ensures.value c.as_slice.ensures
    c.in_ok-db.ensures (c.in_ok-push_entries.ensures ∙ ap (λ (first : List Scalar). first ++ entries (held c.args.values.now) c.args.d c.as_slice.result.now) c.new-own.ensures) c.in_ok-known.ensures
