use Rattle.std.proofs.Common.{◌≡◌, ◌∙◌, ap, Bool, Box, Bor}
use Rattle.std.specs.Prelude.{IsSomeAnd, MatchOption, box_value}
use Rattle.std.specs.Option.{option_copied, option_map}
use Rattle.std.specs.declared.alloc.Global.{Global}
use Rattle.std.specs.declared.option.Option.{Option}
use Rattle.std.specs.declared.option.Option.TheVariants.{Some, None}
use Rattle.java_ast.specs.Reading.{spelled, expressions}
use Rattle.sql_ast.specs.declared.tree.Query.{Query}
use Rattle.sql_ast.specs.Reading.{query}
use Rattle.java_mean.specs.Rules.{only_if}
use Rattle.java_mean.specs.WellTyped.{marked}
use Rattle.java_mean.specs.declared.rule.TypeRule.TheVariants as broken
use Rattle.java_mean.specs.Least.{least}
use Rattle.java_types.specs.Texts.{read_by}
use Rattle.java_types.proofs.Passed.{listing_noted, none_said}
use Rattle.java_types.proofs.values.at_listing.Goals as goal

lent : (held : Option (Box Query Global)) (q : Option (Bor Query)) → MatchOption held (q ≡ None) (λ b. IsSomeAnd q (λ r. r.now ≡ b.value)) → option_copied q ≡ option_map box_value held
lent None q h = ap option_copied h
lent (Some b) None h = absurd h
lent (Some b) (Some r) h = ap Some h

pub returns : goal.returns
returns c =
    listing_noted c.args.schema.now (read_by c.args.schema.now) (option_map spelled c.args.result_type.now) c.args.scope.now c.args.at (spelled c.args.ty.now) c.args.text.now (expressions c.args.args.now) c.single_spelled-a.result (option_map query (option_copied c.as_deref-q.result)) c.args.kept.now c.note_if.new.kept c.note_query.new.kept
    c.single_spelled-a.ensures
    (ap (option_map query) (lent c.in_ok-read.read c.as_deref-q.result c.as_deref-q.ensures.cases) ∙ c.in_ok-read.ensures)
    (c.note_if.ensures ∙ ap (λ (b : Bool). least c.args.kept.now (marked broken.Unknown (only_if b c.args.at))) (none_said c.single_spelled-a.result c.is_none.result c.is_none.ensures))
    (rw (← c.lists-fits.ensures, ← c.has_order.ensures) c.note_query.ensures)
