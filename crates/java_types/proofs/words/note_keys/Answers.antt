use Rattle.std.proofs.Common.{◌∙◌, ◌+◌, drop}
use Rattle.java_types.proofs.Passed.{next_item, key_noted}
use Rattle.java_types.proofs.words.note_keys.Goals as goal

pub loop-key-preserved : goal.loop-key-preserved
loop-key-preserved c =
    key_noted c.args.schema.now c.in-Some.a c.key-item.result (drop (c.loop-key.key-index + 1) c.args.keys.now) (drop c.loop-key.key-index c.args.keys.now) c.args.at c.loop-key.kept c.note_column.new.kept
    (next_item c.args.keys.now c.loop-key.key-index c.key-item.result c.loop-key-test.true c.key-item.is)
    c.note_column.ensures
    ∙ c.loop-key.invariant
