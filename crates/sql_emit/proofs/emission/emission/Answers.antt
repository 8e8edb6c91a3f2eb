use Rattle.std.proofs.Common.{List, ℕ, map, slice_get, ap, ◌∙◌}
use Rattle.tor_terms.specs.Plain.{forms_of}
use Rattle.kernel_lang.specs.Plain.{accumulator}
use Rattle.kernel_lang.specs.Pools.{chosen}
use Rattle.sql_ast.specs.Reading.{inner_filter}
use Rattle.sql_build.specs.Types.{type_of}
use Rattle.sql_parts.specs.Numbered.{renumbered_filter}
use Rattle.sql_parts.specs.Reading.{ground_of}
use Rattle.sql_emit.proofs.Emitting.{emission_is}
use Rattle.sql_emit.proofs.emission.emission.Goals as goal

pub returns : goal.returns
returns c =
    emission_is c.args.types.now (ground_of c.args.g) (accumulator c.args.acc.now, chosen c.args.g.cand.now c.args.first (forms_of c.args.acc.now.pool)) _ _ _ c.in_ok-order.order _
    c.in_ok-filter.ensures c.in_ok-order.ensures (c.in_ok-filter-2.ensures ∙ ap (λ (ks : List ℕ). renumbered_filter ks (inner_filter c.in_ok-filter.filter)) c.as_slice.ensures)
    (c.in_ok-params.ensures ∙ ap (λ (ks : List ℕ). map (λ k. type_of (slice_get c.args.types.now k)) ks) c.as_slice-2.ensures) c.in_ok-query.ensures
