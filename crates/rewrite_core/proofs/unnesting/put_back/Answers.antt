use Rattle.std.proofs.Common.{ℕ, sym, subst}
use Rattle.java_ast.specs.Path.{last_of, replaced_at}
use Rattle.java_ast.specs.Reading.{statements, program as plain_program}
use Rattle.java_ast.specs.Tree.{PlainProgram}
use Rattle.loop_lists.specs.declared.listing.Listed.{Listed}
use Rattle.loop_lists.specs.Lists.{Lists}
use Rattle.rewrite_core.proofs.unnesting.put_back.Goals as goal

pub stand-requires : goal.stand-requires
stand-requires c =
    record {
      lists =
          subst (λ (p : PlainProgram). Lists p.methods c.in_ok-stage.stage.value.standing c.in_ok-stage.stage.value.listed) (sym (c.in_ok-stage.ensures.program c.requires.there.0 c.requires.there.1))
          (subst (λ (n : ℕ). Lists (replaced_at c.requires.there.0 (last_of c.requires.there.0) (statements c.args.old.items) (plain_program c.args.stage.value.typed.program)).methods n c.in_ok-stage.stage.value.listed) (sym c.in_ok-stage.ensures.standing)
          (subst (λ (l : Listed). Lists (replaced_at c.requires.there.0 (last_of c.requires.there.0) (statements c.args.old.items) (plain_program c.args.stage.value.typed.program)).methods c.args.stage.value.standing l) (sym c.in_ok-stage.ensures.listed)
          (c.requires.back c.requires.there.0 c.requires.there.1).lists));
    }
