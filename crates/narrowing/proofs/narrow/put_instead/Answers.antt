use Rattle.std.proofs.Common.{◌≤◌, ◌∙◌, sym, ap₂, subst}
use Rattle.java_ast.specs.declared.tree.Program.{Program}
use Rattle.java_ast.specs.Path.{last_of, replaced_at}
use Rattle.java_ast.specs.Reading.{statements, program}
use Rattle.narrowing.specs.declared.instead.Instead.{Instead}
use Rattle.narrowing.proofs.narrow.put_instead.Goals as goal

pub put_at-made-requires : goal.put_at-made-requires
put_at-made-requires c = let P : Instead → Type 0 = λ i. i.first ≤ last_of c.args.path.now in record { range = subst P (sym c.into_inner-i.ensures) c.requires }

pub returns-clause-program : goal.returns-clause-program
returns-clause-program c =
    let h = rw c.in_ok-kept.ensures at c.put_at-made.ensures in
    h ∙ ap₂ (λ (i : Instead) (q : Program). replaced_at c.args.path.now i.first (statements i.others.items) (program q)) c.into_inner-i.ensures c.into_inner-owned.ensures
