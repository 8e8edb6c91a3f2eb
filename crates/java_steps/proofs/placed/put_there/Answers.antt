use Rattle.std.proofs.Common.{◌∙◌, sym, ap, Some}
use Rattle.indexmap.specs.IndexMap.{set_value_at}
use Rattle.java_steps.proofs.Placing.{one_there, stands_old, stands_put}
use Rattle.java_steps.proofs.placed.put_there.Goals as goal

pub returns-clause-old : goal.returns-clause-old
returns-clause-old g c = ap Some c.replace.ensures.value ∙ stands_old c.args.map.now.entries c.args.place c.args.key.now c.requires _ _ c.pair_mut-there.ensures.unique c.pair_mut-there.ensures.value

pub returns-clause-entries : goal.returns-clause-entries
returns-clause-entries g c = ap (set_value_at c.args.map.now.entries c.args.place) c.replace.ensures.after ∙ stands_put c.args.map.now.entries c.args.place c.args.key c.args.value c.requires c.pair_mut-there.ensures.unique

pub returns-clause-was : goal.returns-clause-was
returns-clause-was g c v s = one_there c.args.map.now.entries c.args.place c.args.key.now v _ _ c.pair_mut-there.ensures.value s ∙ sym c.replace.ensures.value
