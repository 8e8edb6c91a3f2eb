use Rattle.std.proofs.Common.{List, map, subst}
use Rattle.std.specs.List.{AllByRecursion}
use Rattle.kernel_lang.specs.Whole.{fragment_of}
use Rattle.sql_ast.specs.declared.tree.Query.{Query}
use Rattle.sql_ast.specs.Reading.{query}
use Rattle.sql_parts.specs.Given.{QueryIsCounted, TextsAreUtf8}
use Rattle.sql_emit.proofs.Emitting.{grammar_by, order_by, entries_by, utf8_by, meaning_by}
use Rattle.sql_emit.proofs.emission.emit.Goals as goal

pub returns-clause-grammar : goal.returns-clause-grammar
returns-clause-grammar c =
    grammar_by c.args.schema.now (fragment_of c.args.frag.now) c.args.cand.now c.args.acc (map query c.args.known.now) c.args.known_args.now c.requires.outermost c.args.frag.now.valid c.tables-tables.ensures.sound c.tables-tables.ensures.named c.requires.typed c.requires.known
    (subst (λ (qs : List Query). AllByRecursion QueryIsCounted (map query qs)) c.as_slice-queries.ensures c.in_ok-count_queries.ensures) c.read_numbers.ensures c.emit_exactly.result c.emit_exactly.ensures

pub returns-clause-order : goal.returns-clause-order
returns-clause-order c =
    order_by c.args.schema.now (fragment_of c.args.frag.now) c.args.cand.now c.args.acc (map query c.args.known.now) c.args.known_args.now c.requires.outermost c.args.frag.now.valid c.emit_exactly.result c.emit_exactly.ensures

pub returns-clause-entries : goal.returns-clause-entries
returns-clause-entries c =
    entries_by c.args.schema.now (fragment_of c.args.frag.now) c.args.cand.now c.args.acc (map query c.args.known.now) c.args.known_args.now c.requires.outermost c.args.frag.now.valid c.requires.known c.emit_exactly.result c.emit_exactly.ensures

pub returns-clause-utf8 : goal.returns-clause-utf8
returns-clause-utf8 c =
    utf8_by c.args.schema.now (fragment_of c.args.frag.now) c.args.cand.now c.args.acc (map query c.args.known.now) c.args.known_args.now c.requires.outermost c.args.frag.now.valid
    (subst (λ (qs : List Query). TextsAreUtf8 (fragment_of c.args.frag.now) (map query qs)) c.as_slice-queries.ensures c.read_texts.ensures) c.emit_exactly.result c.emit_exactly.ensures (returns-clause-grammar c)

pub returns-clause-meaning : goal.returns-clause-meaning
returns-clause-meaning c =
    meaning_by c.args.schema.now (fragment_of c.args.frag.now) c.args.cand.now c.args.acc (map query c.args.known.now) c.args.known_args.now c.requires.outermost c.args.frag.now.valid c.requires.typed c.requires.known c.emit_exactly.result c.emit_exactly.ensures
