use Rattle.std.proofs.Common.{ℕ, List, ◌++◌, ◌∙◌, ap}
use Rattle.schema.specs.Rows.{text_of}
use Rattle.schema.proofs.Longs.{text_is}
use Rattle.schema_text.proofs.fields.text.Goals as goal

pub returns : goal.returns
returns c =
    let h = c.from_vec.ensures in
    text_is c.extend_from_slice.new.self.items c.from_vec.result h.value h.some h.utf8
    ∙ ap text_of (c.in_ok-extend_from_slice.ensures.items ∙ ap (λ (bs : List ℕ). bs ++ c.args.field.now) c.new-bytes.ensures.items)
