-- The worked text, computed.
use lib.Utf8.{encode}
use Rattle.std.proofs.Common.{◌≡◌, ◌++◌, List, [], ◌∷◌, Ok, codes, refl, arith, subst}
use Rattle.std.proofs.lemmas.Str.{IsUtf8-from_is_utf8}
use Rattle.std.proofs.lemmas.List.Elements.{All-nil, All-cons}
use Rattle.std.specs.Prelude.{ℕ, true, IsUtf8}
use Rattle.std.specs.Str.{chars, is_utf8}
use Rattle.std.specs.Str.Lossy.{utf8_valid_len}
use Rattle.readers.specs.Reading.{up_to, whole}
use Rattle.java_lex.specs.Lexing.{lexed, tokens_from}
use Rattle.java_lex.specs.Pieces.{piece_of, part_of, body_from}
use Rattle.java_limits.specs.Limits.{longest}
use Rattle.java_grammar.specs.Marks.{all_strict}
use Rattle.java_grammar.specs.Dotted as dots
use Rattle.java_grammar.specs.Reading as reading
use Rattle.java_grammar.specs.ReadingBodies as bodies
use Rattle.java_grammar.specs.ReadingExpressions as expressions
use Rattle.java_grammar.specs.ReadingPrograms as programs
use Rattle.java_grammar.specs.ReadingStatements as statements
use Rattle.java_grammar.specs.ReadingTypes as types
use Rattle.java_grammar.specs.Grammar.{HasProgram, IsProgram}
use Rattle.java_grammar.proofs.Again.{Any}
use Rattle.java_grammar.proofs.ProgramLaws.{program_reads}
use Rattle.java_grammar.proofs.Whole.{found_free}
use Rattle.java_stretches.specs.Lines.{is_blank, IsMargin, joined_lines, CanBeWritten, CanStandFor}
use Rattle.java_stretches.specs.Stretch.{GoesFrom}
use Rattle.java_stretches.specs.Worked.{front, old, rest, tokens, program, counter, walk, path, block, new, IsWorked}
use Rattle.java_stretches.proofs.Kept.{kept}
use Rattle.java_stretches.proofs.Programs.{stretch}
use Rattle.java_stretches.proofs.Margins.{joined_stands}

pub lexed_as : lexed (front ++ (old ++ rest)) ≡ Ok tokens
unfolding tokens_from piece_of part_of body_from utf8_valid_len is_utf8 chars encode
lexed_as = refl

pub read_as : whole programs.program_at (all_strict tokens.list) ≡ Ok program
unfolding dots.part_at dots.dotted_part_at dots.dotted_line_at reading.chain_at bodies.declared_as_at bodies.declaration_at bodies.declared_list_at bodies.typed_rest_at bodies.word_rest_at bodies.named_item_at bodies.if_head_at bodies.while_head_at bodies.walk_at bodies.walk_part_at bodies.for_head_at bodies.block_in bodies.single_in bodies.body_in bodies.otherwise_at bodies.if_at bodies.for_at bodies.while_at bodies.statement_by bodies.item_by bodies.items_by bodies.body_at bodies.block_at bodies.statement_at bodies.item_at bodies.statements_at bodies.statement_inside bodies.statements_inside expressions.negative_at expressions.limit_at expressions.scalar_at expressions.literal_at expressions.table_class_at expressions.element_query_at expressions.next_argument_at expressions.arguments_at expressions.query_of_element_at expressions.query_of_long_at expressions.query_of_truth_at expressions.call_at expressions.called_at expressions.suffix_by expressions.suffix_at expressions.query_start_at expressions.query_in expressions.elements_at expressions.creation_at expressions.source_at expressions.source_end_at expressions.new_at expressions.grouped_at expressions.atom_at expressions.variable_at expressions.dotted_at expressions.behind_variable_at expressions.named_at expressions.head_at expressions.part_at expressions.postfix_at expressions.negation_at expressions.unary_at expressions.operand_at expressions.rank_in expressions.rank_at expressions.expression_at expressions.inside expressions.query_inside programs.public_at programs.private_at programs.reached_at programs.whether_at programs.result_at programs.parameter_at programs.next_parameter_at programs.some_parameters_at programs.parameters_at programs.parameter_part_at programs.method_at programs.dotted_name_at programs.package_at programs.imports_at programs.methods_at programs.class_at programs.program_in programs.dotted_at programs.behind_dot statements.condition_at statements.value_at statements.assignment_at statements.increase_at statements.increment_at statements.addition_at statements.printing_at statements.key_part_at statements.next_key_at statements.reversed_at statements.further_member_at statements.further_at statements.all_further_at statements.keys_at statements.keys_part_at statements.sorting_at statements.other_member_at statements.member_call_at statements.member_at statements.counting_at statements.other_rest_at statements.named_rest_at statements.named_at statements.returned_at statements.returning_at statements.breaking_at statements.plain_at types.element_at types.spelling_at types.key_column_at types.plain_key_at types.closed_column_at types.typed_key_at types.key_at up_to longest
read_as = refl

has : IsProgram tokens.list program
has = found_free HasProgram Any programs.program_at program_reads tt tokens.list program read_as

goes : GoesFrom program path 0 front old
goes = record { one = counter; last = walk; to_first = refl; to_last = refl; starts = refl; ends = refl }

lines : joined_lines (codes "    ") block ≡ new
lines = refl

text_is : IsUtf8 (codes "SELECT COUNT(*) FROM T t1")
unfolding utf8_valid_len is_utf8 chars encode
text_is = IsUtf8-from_is_utf8 (codes "SELECT COUNT(*) FROM T t1") refl

can_be_written : CanBeWritten block
can_be_written = record { in_grammar = ((tt, refl, tt), tt); written = ((tt, refl, (text_is, tt)), tt) }

space : (bs : List ℕ) → IsMargin bs → IsMargin (32 ∷ bs)
space bs h = All-cons (λ b. is_blank b ≡ true) 32 bs refl h

margin_is : IsMargin (codes "    ")
margin_is = space (32 ∷ 32 ∷ 32 ∷ []) (space (32 ∷ 32 ∷ []) (space (32 ∷ []) (space [] (All-nil (λ b. is_blank b ≡ true)))))

stands : CanStandFor new block
stands = subst (λ (text : List ℕ). CanStandFor text block) lines (joined_stands (codes "    ") block margin_is can_be_written (tt, tt))

pub worked : IsWorked
worked = record { lexed_as = lexed_as; has = has; run = omega arith; stretch = stretch tokens.list program path 0 walk has refl (omega arith); goes = goes; lines = lines; stands = stands; read_back = kept front old rest new tokens program path 0 block lexed_as has (omega arith) goes stands }
