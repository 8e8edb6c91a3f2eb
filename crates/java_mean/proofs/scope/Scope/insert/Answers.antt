use Rattle.std.proofs.Common.{◌≡◌, ◌∙◌, ap}
use Rattle.indexmap.specs.IndexMap.{insert_entry}
use Rattle.java_mean.proofs.Scoped.{declare_lem, seen, same}
use Rattle.java_mean.proofs.scope.Scope.insert.Goals as goal
use Rattle.java_mean.proofs.scope.Scope.insert.Goals.{in-Ok, in-Err}

pub returns : goal.returns
returns c = elim c.match-insert.branch [
  | in-Ok w ↦
      let e : c.insert.new.self.entries ≡ insert_entry same c.self.inside.names.entries c.as_slice.result c.args.k = rw w.in-Ok.is at c.insert.ensures.entries in
      rw w.result-is (record { ok = ap seen e ∙ declare_lem c.as_slice.result c.args.k c.self.inside.names.entries (rw (c.as_slice.ensures, c.self.view_is) c.requires) ∙ rw (c.as_slice.ensures, c.self.view_is) })
  | in-Err w ↦ rw w.result-is (record { ok = tt })
]
