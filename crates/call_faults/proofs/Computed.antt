-- The worked faults compute.
use Rattle.std.proofs.Common.{◌≡◌, Err, refl}
use Rattle.readers.specs.Reading.{up_to}
use Rattle.java_limits.specs.Limits.{longest}
use Rattle.java_grammar.specs.Dotted as dots
use Rattle.java_grammar.specs.Reading as reading
use Rattle.java_grammar.specs.ReadingBodies as bodies
use Rattle.java_grammar.specs.ReadingExpressions as expressions
use Rattle.java_grammar.specs.ReadingPrograms as programs
use Rattle.java_grammar.specs.ReadingStatements as statements
use Rattle.java_grammar.specs.ReadingTypes as types
use Rattle.java_grammar.specs.Faults.{IsUnexpected}
use Rattle.java_parser.specs.Parsed.{parsed}
use Rattle.call_reader.specs.WithCalls.{parsed_with_calls}
use Rattle.call_faults.specs.Larger.{HasProgramWithCalls}
use Rattle.call_faults.specs.Worked.{behind_a_call, in_a_call, unexpected_at}
use Rattle.call_faults.proofs.Faults.{read_is_larger}

pub behind_read : parsed_with_calls behind_a_call ≡ Err (unexpected_at 14)
unfolding dots.part_at dots.dotted_part_at dots.dotted_line_at reading.chain_at bodies.declared_as_at bodies.declaration_at bodies.declared_list_at bodies.typed_rest_at bodies.word_rest_at bodies.named_item_at bodies.if_head_at bodies.while_head_at bodies.walk_at bodies.walk_part_at bodies.for_head_at bodies.block_in bodies.single_in bodies.body_in bodies.otherwise_at bodies.if_at bodies.for_at bodies.while_at bodies.statement_by bodies.item_by bodies.items_by bodies.body_at bodies.block_at bodies.statement_at bodies.item_at bodies.statements_at bodies.statement_inside bodies.statements_inside expressions.negative_at expressions.limit_at expressions.scalar_at expressions.literal_at expressions.table_class_at expressions.element_query_at expressions.next_argument_at expressions.arguments_at expressions.query_of_element_at expressions.query_of_long_at expressions.query_of_truth_at expressions.call_at expressions.called_at expressions.suffix_by expressions.suffix_at expressions.query_start_at expressions.query_in expressions.elements_at expressions.creation_at expressions.source_at expressions.source_end_at expressions.new_at expressions.grouped_at expressions.atom_at expressions.variable_at expressions.dotted_at expressions.behind_variable_at expressions.named_at expressions.head_at expressions.part_at expressions.postfix_at expressions.negation_at expressions.unary_at expressions.operand_at expressions.rank_in expressions.rank_at expressions.expression_at expressions.inside expressions.query_inside programs.public_at programs.private_at programs.reached_at programs.whether_at programs.result_at programs.parameter_at programs.next_parameter_at programs.some_parameters_at programs.parameters_at programs.parameter_part_at programs.method_at programs.dotted_name_at programs.package_at programs.imports_at programs.methods_at programs.class_at programs.program_in programs.dotted_at programs.behind_dot statements.condition_at statements.value_at statements.assignment_at statements.increase_at statements.increment_at statements.addition_at statements.printing_at statements.key_part_at statements.next_key_at statements.reversed_at statements.further_member_at statements.further_at statements.all_further_at statements.keys_at statements.keys_part_at statements.sorting_at statements.other_member_at statements.member_call_at statements.member_at statements.counting_at statements.other_rest_at statements.named_rest_at statements.named_at statements.returned_at statements.returning_at statements.breaking_at statements.plain_at types.element_at types.spelling_at types.key_column_at types.plain_key_at types.closed_column_at types.typed_key_at types.key_at up_to longest parsed
behind_read = refl

pub within_read : parsed_with_calls in_a_call ≡ Err (unexpected_at 13)
unfolding dots.part_at dots.dotted_part_at dots.dotted_line_at reading.chain_at bodies.declared_as_at bodies.declaration_at bodies.declared_list_at bodies.typed_rest_at bodies.word_rest_at bodies.named_item_at bodies.if_head_at bodies.while_head_at bodies.walk_at bodies.walk_part_at bodies.for_head_at bodies.block_in bodies.single_in bodies.body_in bodies.otherwise_at bodies.if_at bodies.for_at bodies.while_at bodies.statement_by bodies.item_by bodies.items_by bodies.body_at bodies.block_at bodies.statement_at bodies.item_at bodies.statements_at bodies.statement_inside bodies.statements_inside expressions.negative_at expressions.limit_at expressions.scalar_at expressions.literal_at expressions.table_class_at expressions.element_query_at expressions.next_argument_at expressions.arguments_at expressions.query_of_element_at expressions.query_of_long_at expressions.query_of_truth_at expressions.call_at expressions.called_at expressions.suffix_by expressions.suffix_at expressions.query_start_at expressions.query_in expressions.elements_at expressions.creation_at expressions.source_at expressions.source_end_at expressions.new_at expressions.grouped_at expressions.atom_at expressions.variable_at expressions.dotted_at expressions.behind_variable_at expressions.named_at expressions.head_at expressions.part_at expressions.postfix_at expressions.negation_at expressions.unary_at expressions.operand_at expressions.rank_in expressions.rank_at expressions.expression_at expressions.inside expressions.query_inside programs.public_at programs.private_at programs.reached_at programs.whether_at programs.result_at programs.parameter_at programs.next_parameter_at programs.some_parameters_at programs.parameters_at programs.parameter_part_at programs.method_at programs.dotted_name_at programs.package_at programs.imports_at programs.methods_at programs.class_at programs.program_in programs.dotted_at programs.behind_dot statements.condition_at statements.value_at statements.assignment_at statements.increase_at statements.increment_at statements.addition_at statements.printing_at statements.key_part_at statements.next_key_at statements.reversed_at statements.further_member_at statements.further_at statements.all_further_at statements.keys_at statements.keys_part_at statements.sorting_at statements.other_member_at statements.member_call_at statements.member_at statements.counting_at statements.other_rest_at statements.named_rest_at statements.named_at statements.returned_at statements.returning_at statements.breaking_at statements.plain_at types.element_at types.spelling_at types.key_column_at types.plain_key_at types.closed_column_at types.typed_key_at types.key_at up_to longest parsed
within_read = refl

pub behind_kept : IsUnexpected HasProgramWithCalls behind_a_call.list 14
behind_kept = (read_is_larger behind_a_call (unexpected_at 14) behind_read).1

pub within_kept : IsUnexpected HasProgramWithCalls in_a_call.list 13
within_kept = (read_is_larger in_a_call (unexpected_at 13) within_read).1
