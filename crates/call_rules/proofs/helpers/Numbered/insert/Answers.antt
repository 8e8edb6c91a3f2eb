use Rattle.std.proofs.Common.{◌≡◌, ◌∙◌, ap}
use Rattle.indexmap.specs.IndexMap.{insert_entry}
use Rattle.call_rules.proofs.Numbers.{put_lem, seen, same}
use Rattle.call_rules.proofs.helpers.Numbered.insert.Goals as goal
use Rattle.call_rules.proofs.helpers.Numbered.insert.Goals.{in-Ok, in-Err}

pub returns : goal.returns
returns c = elim c.match-insert.branch [
  | in-Ok w ↦
      let e : c.insert.new.self.entries ≡ insert_entry same c.self.inside.numbers.entries c.as_slice.result c.args.number = rw w.in-Ok.is at c.insert.ensures.entries in
      rw w.result-is (ap seen e ∙ put_lem c.as_slice.result c.args.number c.self.inside.numbers.entries (rw (c.as_slice.ensures, c.self.view_is) c.requires) ∙ rw (c.as_slice.ensures, c.self.view_is))
  | in-Err w ↦ rw w.result-is tt
]
