use Rattle.std.proofs.Common.{rules, ◌≡◌, ◌<◌, length, slice_set, refl}
use Rattle.dump_tables.specs.Parts.{parts}
use Rattle.dump_tables.specs.Tables.{with_actions}
use Rattle.dump_tables.proofs.Named.{numbered_changed, changed_at}
use Rattle.dump_tables.proofs.tables.Tables.change.Goals as goal

pub returns-in_ok-take_actions-clause-numbered : goal.returns-in_ok-take_actions-clause-numbered
returns-in_ok-take_actions-clause-numbered c =
    let inside : c.args.number < length c.args.self.now.tables.items = search rules in
    let taken : c.take_actions.new.table ≡ with_actions c.index_mut.result.now (parts 0 c.args.items.now) = search rules in
    numbered_changed c.args.self.now.numbers c.args.self.now.tables.items
    (slice_set c.args.self.now.tables.items c.args.number c.take_actions.new.table) c.args.number (parts 0 c.args.items.now) c.requires.numbered
    (changed_at c.args.self.now.tables.items
    (slice_set c.args.self.now.tables.items c.args.number c.take_actions.new.table)
    c.args.number c.index_mut.result.now c.take_actions.new.table (parts 0 c.args.items.now) inside c.index_mut.ensures.value taken refl)
