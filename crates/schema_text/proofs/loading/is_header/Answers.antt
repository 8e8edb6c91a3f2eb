use Rattle.std.proofs.Common.{◌+◌, drop, sym, ◌∙◌, arith}
use Rattle.csv.specs.Records.{fields_of}
use Rattle.schema.specs.Rows.{is_header}
use Rattle.schema_text.proofs.Celled.{drop_some, drop_none, drop_item, field_within, header_goes_on, header_differs, header_no_field, header_ends, not_true, not_false}
use Rattle.std.specs.Str.{bytes_eq}
use Rattle.schema_text.proofs.loading.is_header.Goals as goal

pub returns-in_default : goal.returns-in_default
returns-in_default c =
    header_no_field (drop c.loop-i.i c.args.columns.now) (drop (c.loop-i.i + 1) c.args.columns.now) (drop c.loop-i.i (fields_of c.args.record.now)) (drop (c.loop-i.i + 1) (fields_of c.args.record.now)) c.index-columns-i.result (is_header c.args.columns.now (fields_of c.args.record.now))
    (drop_item c.args.columns.now c.loop-i.i c.index-columns-i.result c.loop-i-test.true c.index-columns-i.is) c.loop-i.invariant.so_far
    (drop_none (fields_of c.args.record.now) c.loop-i.i (sym c.in_default.ensures.value))

pub returns-then-ne : goal.returns-then-ne
returns-then-ne c =
    let other = not_true (bytes_eq c.in-Some.field.now c.as_slice.result.now) (sym c.ne.ensures ∙ c.if-ne.true) in
    header_differs (drop c.loop-i.i c.args.columns.now) (drop (c.loop-i.i + 1) c.args.columns.now) (drop c.loop-i.i (fields_of c.args.record.now)) (drop (c.loop-i.i + 1) (fields_of c.args.record.now)) c.index-columns-i.result (is_header c.args.columns.now (fields_of c.args.record.now))
    (drop_item c.args.columns.now c.loop-i.i c.index-columns-i.result c.loop-i-test.true c.index-columns-i.is) c.loop-i.invariant.so_far c.in-Some.field.now
    (drop_some (fields_of c.args.record.now) c.loop-i.i c.in-Some.field.now (sym c.in-Some.ensures.value)) (rw c.as_slice.ensures at other)

pub loop-i-preserved : goal.loop-i-preserved
loop-i-preserved c =
    let same = not_false (bytes_eq c.in-Some.field.now c.as_slice.result.now) (sym c.ne.ensures ∙ c.if-ne.false) in
    let lt = field_within (fields_of c.args.record.now) c.loop-i.i c.in-Some.field.now (sym c.in-Some.ensures.value) in
    record {
      within = omega (arith, lt);
      so_far = header_goes_on (drop c.loop-i.i c.args.columns.now) (drop (c.loop-i.i + 1) c.args.columns.now) (drop c.loop-i.i (fields_of c.args.record.now)) (drop (c.loop-i.i + 1) (fields_of c.args.record.now)) c.index-columns-i.result (is_header c.args.columns.now (fields_of c.args.record.now))
          (drop_item c.args.columns.now c.loop-i.i c.index-columns-i.result c.loop-i-test.true c.index-columns-i.is) c.loop-i.invariant.so_far c.in-Some.field.now
          (drop_some (fields_of c.args.record.now) c.loop-i.i c.in-Some.field.now (sym c.in-Some.ensures.value)) (rw c.as_slice.ensures at same);
    }

pub returns : goal.returns
returns c = rw c.len.ensures (header_ends c.args.columns.now (fields_of c.args.record.now) c.loop-i.i (is_header c.args.columns.now (fields_of c.args.record.now)) (omega arith) c.loop-i.invariant.within c.loop-i.invariant.so_far)
