use Rattle.std.proofs.Common.{rules, ◌≡◌, length}
use Rattle.dump_tables.proofs.Named.{numbered_added}
use Rattle.dump_tables.proofs.tables.Tables.add.Goals as goal

pub returns-clause-numbered : goal.returns-clause-numbered
returns-clause-numbered c =
    let last : c.len.result ≡ length c.args.self.now.tables.items = search rules in
    numbered_added c.args.self.now.numbers c.put.new.self c.args.self.now.tables.items c.push.new.self.items c.args.table c.args.name.now c.len.result
    c.in_ok-put.ensures last c.requires.named c.requires.numbered c.in_ok-push.ensures.items
