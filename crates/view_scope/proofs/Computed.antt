-- The worked methods and conditions, computed.
use Rattle.std.proofs.Common.{refl, true, false, [], ◌∷◌, codes, Some, None}
use Rattle.view_rules.specs.declared.java_type.JavaType.TheVariants as types
use Rattle.view_items.specs.Opened.{closing}
use Rattle.view_items.specs.Pieces.{number_len, piece_of}
use Rattle.view_items.specs.Items.{items_from, items_of}
use Rattle.view_items.specs.Brackets.{closed_from, closings_of, rounds_from, rounds_of, is_shallow_at}
use Rattle.view_shapes.specs.Found.{found_in}
use Rattle.view_shapes.specs.Members.{class_of, member_end_in, members_in}
use Rattle.view_shapes.specs.Statements.{modifiers_end, form_of, try_end, end_within}
use Rattle.view_shapes.specs.Blocks.{try_blocks, case_blocks, blocks_within, statements_in, blocks_under}
use Rattle.view_shapes.specs.Mentions.{numbers, is_set_within}
use Rattle.view_shapes.specs.Prefixes.{dotted_end, prefix_end}
use Rattle.view_shapes.specs.Uses.{first_of_names, is_keyword_name, is_use}
use Rattle.view_scope.specs.JavaTypes.{arguments_end, type_rest}
use Rattle.view_scope.specs.Methods.{parameters_from, exceptions_end, outline_of, method_prefix_end}
use Rattle.view_map.specs.Templates.{are_closed}
use Rattle.view_scope.specs.Nulls.{operand_from, operand_to, out_of_parentheses, argument_to, bare, gives_null, set_among}
use Rattle.view_scope.specs.Obscured.{last_of_names, is_in_import, is_java_class, hides_last, hides_name, is_typed}
use Rattle.view_scope.specs.Patterns.{front_in, is_loose}
use Rattle.view_scope.specs.Constants.{field_prefix_end}
use Rattle.view_scope.specs.Worked.{two_methods, tested_dao, HasMethods, HasConstants, Frees, Keeps, Tests, Guards, of_body, Sees, MeansTheSame, user_map, constant_map, BeginsWith, WorkedMembers, WorkedGuards, WorkedSight, WorkedFronts, Means, WorkedFetches, KeepsTemplate, WorkedTemplates, Clears, Unhidden, WorkedNames, KnowsRows, user_variable, WorkedRows, Worked}

members_methods : HasMethods two_methods (codes "f" ∷ codes "a" ∷ codes "g" ∷ [])
unfolding closing number_len piece_of items_from items_of closed_from closings_of rounds_from rounds_of found_in class_of member_end_in members_in numbers is_set_within first_of_names is_use is_shallow_at arguments_end type_rest dotted_end prefix_end parameters_from exceptions_end outline_of method_prefix_end field_prefix_end is_typed
members_methods = refl

members_of_list : HasMethods (codes "class A { List<Long> f() { } }") (codes "f" ∷ [])
unfolding closing number_len piece_of items_from items_of closed_from closings_of rounds_from rounds_of found_in class_of member_end_in members_in numbers is_set_within first_of_names is_use is_shallow_at arguments_end type_rest dotted_end prefix_end parameters_from exceptions_end outline_of method_prefix_end field_prefix_end is_typed
members_of_list = refl

members_no_constants : HasConstants two_methods []
unfolding closing number_len piece_of items_from items_of closed_from closings_of rounds_from rounds_of found_in class_of member_end_in members_in numbers is_set_within first_of_names is_use is_shallow_at arguments_end type_rest dotted_end prefix_end parameters_from exceptions_end outline_of method_prefix_end field_prefix_end is_typed
members_no_constants = refl

members_any_number : HasMethods (codes "class A { void f(int n, final long... ids) { } }") (codes "f" ∷ codes "n" ∷ codes "ids" ∷ [])
unfolding closing number_len piece_of items_from items_of closed_from closings_of rounds_from rounds_of found_in class_of member_end_in members_in numbers is_set_within first_of_names is_use is_shallow_at arguments_end type_rest dotted_end prefix_end parameters_from exceptions_end outline_of method_prefix_end field_prefix_end is_typed
members_any_number = refl

members_constant : HasConstants (codes "class A { private static final int MAX = 5; static final long MIN = -3L; static int n = 1; final int m = 2; static final int S = MAX + 1; }")
    (codes "MAX" ∷ codes "5" ∷ codes "MIN" ∷ codes "3L" ∷ [])
unfolding closing number_len piece_of items_from items_of closed_from closings_of rounds_from rounds_of found_in class_of member_end_in members_in numbers is_set_within first_of_names is_use is_shallow_at arguments_end type_rest dotted_end prefix_end parameters_from exceptions_end outline_of method_prefix_end field_prefix_end is_typed
members_constant = refl

members_declared_anew : Frees (codes "MAX") (codes "class A { void f() { int q = 0, MAX; (MAX) = 3; } }") false
unfolding closing number_len piece_of items_from items_of closed_from closings_of rounds_from rounds_of found_in class_of member_end_in members_in numbers is_set_within first_of_names is_use is_shallow_at arguments_end type_rest dotted_end prefix_end parameters_from exceptions_end outline_of method_prefix_end field_prefix_end is_typed
members_declared_anew = refl

members_compared : Frees (codes "MAX") (codes "class A { void f(int q) { if (q > MAX) g(); } }") true
unfolding closing number_len piece_of items_from items_of closed_from closings_of rounds_from rounds_of found_in class_of member_end_in members_in numbers is_set_within first_of_names is_use is_shallow_at arguments_end type_rest dotted_end prefix_end parameters_from exceptions_end outline_of method_prefix_end field_prefix_end is_typed
members_compared = refl

members_of_parameter : Frees (codes "MAX") (codes "class A { void f(int MAX) { } }") false
unfolding closing number_len piece_of items_from items_of closed_from closings_of rounds_from rounds_of found_in class_of member_end_in members_in numbers is_set_within first_of_names is_use is_shallow_at arguments_end type_rest dotted_end prefix_end parameters_from exceptions_end outline_of method_prefix_end field_prefix_end is_typed
members_of_parameter = refl

members_by_setter : Keeps (codes "users") (codes "class A { Repo users; A(Repo users) { this.users = users; } void setUsers(Repo u) { this.users = u; } }") true
unfolding closing number_len piece_of items_from items_of closed_from closings_of rounds_from rounds_of found_in class_of member_end_in members_in numbers is_set_within first_of_names is_use is_shallow_at arguments_end type_rest dotted_end prefix_end parameters_from exceptions_end outline_of method_prefix_end field_prefix_end is_typed
members_by_setter = refl

members_by_another : Keeps (codes "users") (codes "class A { Repo users; void setUp() { users = Repo.none(); } }") false
unfolding closing number_len piece_of items_from items_of closed_from closings_of rounds_from rounds_of found_in class_of member_end_in members_in numbers is_set_within first_of_names is_use is_shallow_at arguments_end type_rest dotted_end prefix_end parameters_from exceptions_end outline_of method_prefix_end field_prefix_end is_typed
members_by_another = refl

members_by_setter_that_does_more : Keeps (codes "users") (codes "class A { Repo users; void setUsers(Repo u) { this.users = u; log(); } }") false
unfolding closing number_len piece_of items_from items_of closed_from closings_of rounds_from rounds_of found_in class_of member_end_in members_in numbers is_set_within first_of_names is_use is_shallow_at arguments_end type_rest dotted_end prefix_end parameters_from exceptions_end outline_of method_prefix_end field_prefix_end is_typed
members_by_setter_that_does_more = refl

members : WorkedMembers
members = record { methods = members_methods; of_list = members_of_list; no_constants = members_no_constants; any_number = members_any_number; constant = members_constant; declared_anew = members_declared_anew; compared = members_compared; of_parameter = members_of_parameter; by_setter = members_by_setter; by_another = members_by_another; by_setter_that_does_more = members_by_setter_that_does_more }

guards_tested : Tests tested_dao 0 (codes "roleId") true
unfolding closing number_len piece_of items_from items_of closed_from closings_of rounds_from rounds_of found_in class_of member_end_in members_in modifiers_end form_of try_end end_within try_blocks case_blocks blocks_within statements_in blocks_under numbers is_set_within is_shallow_at arguments_end type_rest dotted_end prefix_end parameters_from exceptions_end outline_of method_prefix_end operand_from operand_to out_of_parentheses argument_to bare gives_null set_among
guards_tested = refl

guards_other : Tests tested_dao 0 (codes "login") false
unfolding closing number_len piece_of items_from items_of closed_from closings_of rounds_from rounds_of found_in class_of member_end_in members_in modifiers_end form_of try_end end_within try_blocks case_blocks blocks_within statements_in blocks_under numbers is_set_within is_shallow_at arguments_end type_rest dotted_end prefix_end parameters_from exceptions_end outline_of method_prefix_end operand_from operand_to out_of_parentheses argument_to bare gives_null set_among
guards_other = refl

guards_guarded : Guards tested_dao 0 (codes "go") true
unfolding closing number_len piece_of items_from items_of closed_from closings_of rounds_from rounds_of found_in class_of member_end_in members_in modifiers_end form_of try_end end_within try_blocks case_blocks blocks_within statements_in blocks_under numbers is_set_within is_shallow_at arguments_end type_rest dotted_end prefix_end parameters_from exceptions_end outline_of method_prefix_end operand_from operand_to out_of_parentheses argument_to bare gives_null set_among
guards_guarded = refl

guards_by_equals : Tests (of_body (codes "if (Objects.equals(r, null)) g();")) 0 (codes "r") true
unfolding closing number_len piece_of items_from items_of closed_from closings_of rounds_from rounds_of found_in class_of member_end_in members_in modifiers_end form_of try_end end_within try_blocks case_blocks blocks_within statements_in blocks_under numbers is_set_within is_shallow_at arguments_end type_rest dotted_end prefix_end parameters_from exceptions_end outline_of method_prefix_end operand_from operand_to out_of_parentheses argument_to bare gives_null set_among
guards_by_equals = refl

guards_by_class : Tests (of_body (codes "if ((r) instanceof Named) g();")) 0 (codes "r") true
unfolding closing number_len piece_of items_from items_of closed_from closings_of rounds_from rounds_of found_in class_of member_end_in members_in modifiers_end form_of try_end end_within try_blocks case_blocks blocks_within statements_in blocks_under numbers is_set_within is_shallow_at arguments_end type_rest dotted_end prefix_end parameters_from exceptions_end outline_of method_prefix_end operand_from operand_to out_of_parentheses argument_to bare gives_null set_among
guards_by_class = refl

guards_where_set : Tests (of_body (codes "while ((r = it.next()) == null) g();")) 0 (codes "r") true
unfolding closing number_len piece_of items_from items_of closed_from closings_of rounds_from rounds_of found_in class_of member_end_in members_in modifiers_end form_of try_end end_within try_blocks case_blocks blocks_within statements_in blocks_under numbers is_set_within is_shallow_at arguments_end type_rest dotted_end prefix_end parameters_from exceptions_end outline_of method_prefix_end operand_from operand_to out_of_parentheses argument_to bare gives_null set_among
guards_where_set = refl

guards_beside_another : Tests (of_body (codes "if (r == null && x.y > 3) g();")) 0 (codes "x") false
unfolding closing number_len piece_of items_from items_of closed_from closings_of rounds_from rounds_of found_in class_of member_end_in members_in modifiers_end form_of try_end end_within try_blocks case_blocks blocks_within statements_in blocks_under numbers is_set_within is_shallow_at arguments_end type_rest dotted_end prefix_end parameters_from exceptions_end outline_of method_prefix_end operand_from operand_to out_of_parentheses argument_to bare gives_null set_among
guards_beside_another = refl

guards_member : Tests (of_body (codes "if (isEmpty(r.name())) g(r);")) 0 (codes "r") false
unfolding closing number_len piece_of items_from items_of closed_from closings_of rounds_from rounds_of found_in class_of member_end_in members_in modifiers_end form_of try_end end_within try_blocks case_blocks blocks_within statements_in blocks_under numbers is_set_within is_shallow_at arguments_end type_rest dotted_end prefix_end parameters_from exceptions_end outline_of method_prefix_end operand_from operand_to out_of_parentheses argument_to bare gives_null set_among
guards_member = refl

guards_in_parentheses : Tests (of_body (codes "if (Objects.isNull((r))) g();")) 0 (codes "r") true
unfolding closing number_len piece_of items_from items_of closed_from closings_of rounds_from rounds_of found_in class_of member_end_in members_in modifiers_end form_of try_end end_within try_blocks case_blocks blocks_within statements_in blocks_under numbers is_set_within is_shallow_at arguments_end type_rest dotted_end prefix_end parameters_from exceptions_end outline_of method_prefix_end operand_from operand_to out_of_parentheses argument_to bare gives_null set_among
guards_in_parentheses = refl

guards_behind_a_cast : Tests (of_body (codes "g(ofNullable((Object) (r)));")) 0 (codes "r") true
unfolding closing number_len piece_of items_from items_of closed_from closings_of rounds_from rounds_of found_in class_of member_end_in members_in modifiers_end form_of try_end end_within try_blocks case_blocks blocks_within statements_in blocks_under numbers is_set_within is_shallow_at arguments_end type_rest dotted_end prefix_end parameters_from exceptions_end outline_of method_prefix_end operand_from operand_to out_of_parentheses argument_to bare gives_null set_among
guards_behind_a_cast = refl

guards_another_argument : Tests (of_body (codes "g(defaultString(x, r));")) 0 (codes "r") false
unfolding closing number_len piece_of items_from items_of closed_from closings_of rounds_from rounds_of found_in class_of member_end_in members_in modifiers_end form_of try_end end_within try_blocks case_blocks blocks_within statements_in blocks_under numbers is_set_within is_shallow_at arguments_end type_rest dotted_end prefix_end parameters_from exceptions_end outline_of method_prefix_end operand_from operand_to out_of_parentheses argument_to bare gives_null set_among
guards_another_argument = refl

guards_text_or_null : Tests (of_body (codes "g(Objects.toString((r), x));")) 0 (codes "r") true
unfolding closing number_len piece_of items_from items_of closed_from closings_of rounds_from rounds_of found_in class_of member_end_in members_in modifiers_end form_of try_end end_within try_blocks case_blocks blocks_within statements_in blocks_under numbers is_set_within is_shallow_at arguments_end type_rest dotted_end prefix_end parameters_from exceptions_end outline_of method_prefix_end operand_from operand_to out_of_parentheses argument_to bare gives_null set_among
guards_text_or_null = refl

guards_text : Tests (of_body (codes "g(Objects.toString(r));")) 0 (codes "r") false
unfolding closing number_len piece_of items_from items_of closed_from closings_of rounds_from rounds_of found_in class_of member_end_in members_in modifiers_end form_of try_end end_within try_blocks case_blocks blocks_within statements_in blocks_under numbers is_set_within is_shallow_at arguments_end type_rest dotted_end prefix_end parameters_from exceptions_end outline_of method_prefix_end operand_from operand_to out_of_parentheses argument_to bare gives_null set_among
guards_text = refl

guards_behind_type_arguments : Tests (of_body (codes "if ((r).<A, List<?>>conv() == null) g();")) 0 (codes "r") true
unfolding closing number_len piece_of items_from items_of closed_from closings_of rounds_from rounds_of found_in class_of member_end_in members_in modifiers_end form_of try_end end_within try_blocks case_blocks blocks_within statements_in blocks_under numbers is_set_within is_shallow_at arguments_end type_rest dotted_end prefix_end parameters_from exceptions_end outline_of method_prefix_end operand_from operand_to out_of_parentheses argument_to bare gives_null set_among
guards_behind_type_arguments = refl

guards_by_what_it_gives : Tests (of_body (codes "if (r.name() == null) g();")) 0 (codes "r") false
unfolding closing number_len piece_of items_from items_of closed_from closings_of rounds_from rounds_of found_in class_of member_end_in members_in modifiers_end form_of try_end end_within try_blocks case_blocks blocks_within statements_in blocks_under numbers is_set_within is_shallow_at arguments_end type_rest dotted_end prefix_end parameters_from exceptions_end outline_of method_prefix_end operand_from operand_to out_of_parentheses argument_to bare gives_null set_among
guards_by_what_it_gives = refl

guards_by_case : Tests (of_body (codes "switch (r) { case null -> g(); }")) 0 (codes "r") true
unfolding closing number_len piece_of items_from items_of closed_from closings_of rounds_from rounds_of found_in class_of member_end_in members_in modifiers_end form_of try_end end_within try_blocks case_blocks blocks_within statements_in blocks_under numbers is_set_within is_shallow_at arguments_end type_rest dotted_end prefix_end parameters_from exceptions_end outline_of method_prefix_end operand_from operand_to out_of_parentheses argument_to bare gives_null set_among
guards_by_case = refl

guards_given_by_choice : Tests (of_body (codes "x = c ? r : null;")) 0 (codes "x") true
unfolding closing number_len piece_of items_from items_of closed_from closings_of rounds_from rounds_of found_in class_of member_end_in members_in modifiers_end form_of try_end end_within try_blocks case_blocks blocks_within statements_in blocks_under numbers is_set_within is_shallow_at arguments_end type_rest dotted_end prefix_end parameters_from exceptions_end outline_of method_prefix_end operand_from operand_to out_of_parentheses argument_to bare gives_null set_among
guards_given_by_choice = refl

guards_given_by_call : Tests (of_body (codes "r = o.orElse(null);")) 0 (codes "r") true
unfolding closing number_len piece_of items_from items_of closed_from closings_of rounds_from rounds_of found_in class_of member_end_in members_in modifiers_end form_of try_end end_within try_blocks case_blocks blocks_within statements_in blocks_under numbers is_set_within is_shallow_at arguments_end type_rest dotted_end prefix_end parameters_from exceptions_end outline_of method_prefix_end operand_from operand_to out_of_parentheses argument_to bare gives_null set_among
guards_given_by_call = refl

guards_given_to_both : Tests (of_body (codes "x = r = null;")) 0 (codes "x") true
unfolding closing number_len piece_of items_from items_of closed_from closings_of rounds_from rounds_of found_in class_of member_end_in members_in modifiers_end form_of try_end end_within try_blocks case_blocks blocks_within statements_in blocks_under numbers is_set_within is_shallow_at arguments_end type_rest dotted_end prefix_end parameters_from exceptions_end outline_of method_prefix_end operand_from operand_to out_of_parentheses argument_to bare gives_null set_among
guards_given_to_both = refl

guards_compared_there : Tests (of_body (codes "x = y == null ? 0L : y;")) 0 (codes "x") false
unfolding closing number_len piece_of items_from items_of closed_from closings_of rounds_from rounds_of found_in class_of member_end_in members_in modifiers_end form_of try_end end_within try_blocks case_blocks blocks_within statements_in blocks_under numbers is_set_within is_shallow_at arguments_end type_rest dotted_end prefix_end parameters_from exceptions_end outline_of method_prefix_end operand_from operand_to out_of_parentheses argument_to bare gives_null set_among
guards_compared_there = refl

guards_before_given : Tests (of_body (codes "r = g(); x = null;")) 0 (codes "r") false
unfolding closing number_len piece_of items_from items_of closed_from closings_of rounds_from rounds_of found_in class_of member_end_in members_in modifiers_end form_of try_end end_within try_blocks case_blocks blocks_within statements_in blocks_under numbers is_set_within is_shallow_at arguments_end type_rest dotted_end prefix_end parameters_from exceptions_end outline_of method_prefix_end operand_from operand_to out_of_parentheses argument_to bare gives_null set_among
guards_before_given = refl

guards_given_in_switch : Tests (of_body (codes "Long x = switch (k) { case 1 -> r; default -> null; };")) 0 (codes "x") true
unfolding closing number_len piece_of items_from items_of closed_from closings_of rounds_from rounds_of found_in class_of member_end_in members_in modifiers_end form_of try_end end_within try_blocks case_blocks blocks_within statements_in blocks_under numbers is_set_within is_shallow_at arguments_end type_rest dotted_end prefix_end parameters_from exceptions_end outline_of method_prefix_end operand_from operand_to out_of_parentheses argument_to bare gives_null set_among
guards_given_in_switch = refl

guards_given_in_array : Tests (of_body (codes "Long x = first(new Long[] { r, null });")) 0 (codes "x") true
unfolding closing number_len piece_of items_from items_of closed_from closings_of rounds_from rounds_of found_in class_of member_end_in members_in modifiers_end form_of try_end end_within try_blocks case_blocks blocks_within statements_in blocks_under numbers is_set_within is_shallow_at arguments_end type_rest dotted_end prefix_end parameters_from exceptions_end outline_of method_prefix_end operand_from operand_to out_of_parentheses argument_to bare gives_null set_among
guards_given_in_array = refl

guards_given_in_lambda : Tests (of_body (codes "Long x = o.orElseGet(() -> { return null; });")) 0 (codes "x") true
unfolding closing number_len piece_of items_from items_of closed_from closings_of rounds_from rounds_of found_in class_of member_end_in members_in modifiers_end form_of try_end end_within try_blocks case_blocks blocks_within statements_in blocks_under numbers is_set_within is_shallow_at arguments_end type_rest dotted_end prefix_end parameters_from exceptions_end outline_of method_prefix_end operand_from operand_to out_of_parentheses argument_to bare gives_null set_among
guards_given_in_lambda = refl

guards_before_given_in_switch : Tests (of_body (codes "x = g(); y = switch (k) { default -> null; };")) 0 (codes "x") false
unfolding closing number_len piece_of items_from items_of closed_from closings_of rounds_from rounds_of found_in class_of member_end_in members_in modifiers_end form_of try_end end_within try_blocks case_blocks blocks_within statements_in blocks_under numbers is_set_within is_shallow_at arguments_end type_rest dotted_end prefix_end parameters_from exceptions_end outline_of method_prefix_end operand_from operand_to out_of_parentheses argument_to bare gives_null set_among
guards_before_given_in_switch = refl

guards_before_given_in_block : Tests (of_body (codes "if ((x = g()) > 3) { y = null; }")) 0 (codes "x") false
unfolding closing number_len piece_of items_from items_of closed_from closings_of rounds_from rounds_of found_in class_of member_end_in members_in modifiers_end form_of try_end end_within try_blocks case_blocks blocks_within statements_in blocks_under numbers is_set_within is_shallow_at arguments_end type_rest dotted_end prefix_end parameters_from exceptions_end outline_of method_prefix_end operand_from operand_to out_of_parentheses argument_to bare gives_null set_among
guards_before_given_in_block = refl

guards_set_in_lambda : Tests (of_body (codes "x = () -> { y = null; z(); };")) 0 (codes "y") true
unfolding closing number_len piece_of items_from items_of closed_from closings_of rounds_from rounds_of found_in class_of member_end_in members_in modifiers_end form_of try_end end_within try_blocks case_blocks blocks_within statements_in blocks_under numbers is_set_within is_shallow_at arguments_end type_rest dotted_end prefix_end parameters_from exceptions_end outline_of method_prefix_end operand_from operand_to out_of_parentheses argument_to bare gives_null set_among
guards_set_in_lambda = refl

guards_in_any : Tests (of_body (codes "if (isAnyBlank(x, r)) g();")) 0 (codes "r") true
unfolding closing number_len piece_of items_from items_of closed_from closings_of rounds_from rounds_of found_in class_of member_end_in members_in modifiers_end form_of try_end end_within try_blocks case_blocks blocks_within statements_in blocks_under numbers is_set_within is_shallow_at arguments_end type_rest dotted_end prefix_end parameters_from exceptions_end outline_of method_prefix_end operand_from operand_to out_of_parentheses argument_to bare gives_null set_among
guards_in_any = refl

guards_in_all_by_member : Tests (of_body (codes "if (allNotNull(x, r.name())) g();")) 0 (codes "r") false
unfolding closing number_len piece_of items_from items_of closed_from closings_of rounds_from rounds_of found_in class_of member_end_in members_in modifiers_end form_of try_end end_within try_blocks case_blocks blocks_within statements_in blocks_under numbers is_set_within is_shallow_at arguments_end type_rest dotted_end prefix_end parameters_from exceptions_end outline_of method_prefix_end operand_from operand_to out_of_parentheses argument_to bare gives_null set_among
guards_in_all_by_member = refl

guards_in_first : Tests (of_body (codes "x = firstNonBlank(y, r);")) 0 (codes "r") true
unfolding closing number_len piece_of items_from items_of closed_from closings_of rounds_from rounds_of found_in class_of member_end_in members_in modifiers_end form_of try_end end_within try_blocks case_blocks blocks_within statements_in blocks_under numbers is_set_within is_shallow_at arguments_end type_rest dotted_end prefix_end parameters_from exceptions_end outline_of method_prefix_end operand_from operand_to out_of_parentheses argument_to bare gives_null set_among
guards_in_first = refl

guards_or_other : Tests (of_body (codes "x = defaultIfBlank(r, y);")) 0 (codes "r") true
unfolding closing number_len piece_of items_from items_of closed_from closings_of rounds_from rounds_of found_in class_of member_end_in members_in modifiers_end form_of try_end end_within try_blocks case_blocks blocks_within statements_in blocks_under numbers is_set_within is_shallow_at arguments_end type_rest dotted_end prefix_end parameters_from exceptions_end outline_of method_prefix_end operand_from operand_to out_of_parentheses argument_to bare gives_null set_among
guards_or_other = refl

guards_by_or : Guards (of_body (codes "if (r == null || x > 3) return; go();")) 0 (codes "go") true
unfolding closing number_len piece_of items_from items_of closed_from closings_of rounds_from rounds_of found_in class_of member_end_in members_in modifiers_end form_of try_end end_within try_blocks case_blocks blocks_within statements_in blocks_under numbers is_set_within is_shallow_at arguments_end type_rest dotted_end prefix_end parameters_from exceptions_end outline_of method_prefix_end operand_from operand_to out_of_parentheses argument_to bare gives_null set_among
guards_by_or = refl

guards_by_and : Guards (of_body (codes "if (r == null && x > 3) return; go();")) 0 (codes "go") false
unfolding closing number_len piece_of items_from items_of closed_from closings_of rounds_from rounds_of found_in class_of member_end_in members_in modifiers_end form_of try_end end_within try_blocks case_blocks blocks_within statements_in blocks_under numbers is_set_within is_shallow_at arguments_end type_rest dotted_end prefix_end parameters_from exceptions_end outline_of method_prefix_end operand_from operand_to out_of_parentheses argument_to bare gives_null set_among
guards_by_and = refl

guards_inside : Guards (of_body (codes "if (x > 3 && null != r) { go(); }")) 0 (codes "go") true
unfolding closing number_len piece_of items_from items_of closed_from closings_of rounds_from rounds_of found_in class_of member_end_in members_in modifiers_end form_of try_end end_within try_blocks case_blocks blocks_within statements_in blocks_under numbers is_set_within is_shallow_at arguments_end type_rest dotted_end prefix_end parameters_from exceptions_end outline_of method_prefix_end operand_from operand_to out_of_parentheses argument_to bare gives_null set_among
guards_inside = refl

guards_inside_or : Guards (of_body (codes "if (x > 3 || null != r) { go(); }")) 0 (codes "go") false
unfolding closing number_len piece_of items_from items_of closed_from closings_of rounds_from rounds_of found_in class_of member_end_in members_in modifiers_end form_of try_end end_within try_blocks case_blocks blocks_within statements_in blocks_under numbers is_set_within is_shallow_at arguments_end type_rest dotted_end prefix_end parameters_from exceptions_end outline_of method_prefix_end operand_from operand_to out_of_parentheses argument_to bare gives_null set_among
guards_inside_or = refl

guards_behind_else : Guards (of_body (codes "if (r == null) g(); else { go(); }")) 0 (codes "go") true
unfolding closing number_len piece_of items_from items_of closed_from closings_of rounds_from rounds_of found_in class_of member_end_in members_in modifiers_end form_of try_end end_within try_blocks case_blocks blocks_within statements_in blocks_under numbers is_set_within is_shallow_at arguments_end type_rest dotted_end prefix_end parameters_from exceptions_end outline_of method_prefix_end operand_from operand_to out_of_parentheses argument_to bare gives_null set_among
guards_behind_else = refl

guards_with_else : Guards (of_body (codes "if (r == null) return; else g(); go();")) 0 (codes "go") false
unfolding closing number_len piece_of items_from items_of closed_from closings_of rounds_from rounds_of found_in class_of member_end_in members_in modifiers_end form_of try_end end_within try_blocks case_blocks blocks_within statements_in blocks_under numbers is_set_within is_shallow_at arguments_end type_rest dotted_end prefix_end parameters_from exceptions_end outline_of method_prefix_end operand_from operand_to out_of_parentheses argument_to bare gives_null set_among
guards_with_else = refl

guards_nested : Guards (of_body (codes "if (x > 3) { if (r == null) return; } go();")) 0 (codes "go") false
unfolding closing number_len piece_of items_from items_of closed_from closings_of rounds_from rounds_of found_in class_of member_end_in members_in modifiers_end form_of try_end end_within try_blocks case_blocks blocks_within statements_in blocks_under numbers is_set_within is_shallow_at arguments_end type_rest dotted_end prefix_end parameters_from exceptions_end outline_of method_prefix_end operand_from operand_to out_of_parentheses argument_to bare gives_null set_among
guards_nested = refl

guards_where_set_elsewhere : Guards (of_body (codes "if (r == null) return; r = g(); go();")) 0 (codes "go") false
unfolding closing number_len piece_of items_from items_of closed_from closings_of rounds_from rounds_of found_in class_of member_end_in members_in modifiers_end form_of try_end end_within try_blocks case_blocks blocks_within statements_in blocks_under numbers is_set_within is_shallow_at arguments_end type_rest dotted_end prefix_end parameters_from exceptions_end outline_of method_prefix_end operand_from operand_to out_of_parentheses argument_to bare gives_null set_among
guards_where_set_elsewhere = refl

guards : WorkedGuards
guards = record { tested = guards_tested; other = guards_other; guarded = guards_guarded; by_equals = guards_by_equals; by_class = guards_by_class; where_set = guards_where_set; beside_another = guards_beside_another; member = guards_member; in_parentheses = guards_in_parentheses; behind_a_cast = guards_behind_a_cast; another_argument = guards_another_argument; text_or_null = guards_text_or_null; text = guards_text; behind_type_arguments = guards_behind_type_arguments; by_what_it_gives = guards_by_what_it_gives; by_case = guards_by_case; given_by_choice = guards_given_by_choice; given_by_call = guards_given_by_call; given_to_both = guards_given_to_both; compared_there = guards_compared_there; before_given = guards_before_given; given_in_switch = guards_given_in_switch; given_in_array = guards_given_in_array; given_in_lambda = guards_given_in_lambda; before_given_in_switch = guards_before_given_in_switch; before_given_in_block = guards_before_given_in_block; set_in_lambda = guards_set_in_lambda; in_any = guards_in_any; in_all_by_member = guards_in_all_by_member; in_first = guards_in_first; or_other = guards_or_other; by_or = guards_by_or; by_and = guards_by_and; inside = guards_inside; inside_or = guards_inside_or; behind_else = guards_behind_else; with_else = guards_with_else; nested = guards_nested; where_set_elsewhere = guards_where_set_elsewhere }

sight_of_for : Sees (codes "class A { void f() { for (User u : xs) { go(); } } }") true
unfolding closing number_len piece_of items_from items_of closed_from closings_of rounds_from rounds_of found_in class_of member_end_in members_in modifiers_end form_of try_end end_within try_blocks case_blocks blocks_within statements_in blocks_under numbers is_shallow_at arguments_end type_rest dotted_end prefix_end parameters_from exceptions_end outline_of method_prefix_end last_of_names is_in_import front_in is_loose is_java_class hides_last hides_name
sight_of_for = refl

sight_behind_for : Sees (codes "class A { void f() { for (User u : xs) { g(); } go(); } }") false
unfolding closing number_len piece_of items_from items_of closed_from closings_of rounds_from rounds_of found_in class_of member_end_in members_in modifiers_end form_of try_end end_within try_blocks case_blocks blocks_within statements_in blocks_under numbers is_shallow_at arguments_end type_rest dotted_end prefix_end parameters_from exceptions_end outline_of method_prefix_end last_of_names is_in_import front_in is_loose is_java_class hides_last hides_name
sight_behind_for = refl

sight_of_block : Sees (codes "class A { void f() { final User u = g(); if (b) { go(); } } }") true
unfolding closing number_len piece_of items_from items_of closed_from closings_of rounds_from rounds_of found_in class_of member_end_in members_in modifiers_end form_of try_end end_within try_blocks case_blocks blocks_within statements_in blocks_under numbers is_shallow_at arguments_end type_rest dotted_end prefix_end parameters_from exceptions_end outline_of method_prefix_end last_of_names is_in_import front_in is_loose is_java_class hides_last hides_name
sight_of_block = refl

sight_of_inner_block : Sees (codes "class A { void f() { if (b) { User u = g(); } go(); } }") false
unfolding closing number_len piece_of items_from items_of closed_from closings_of rounds_from rounds_of found_in class_of member_end_in members_in modifiers_end form_of try_end end_within try_blocks case_blocks blocks_within statements_in blocks_under numbers is_shallow_at arguments_end type_rest dotted_end prefix_end parameters_from exceptions_end outline_of method_prefix_end last_of_names is_in_import front_in is_loose is_java_class hides_last hides_name
sight_of_inner_block = refl

sight_of_fetch : Sees (codes "class A { void f() { for (final var u : users.all()) { go(); } } }") true
unfolding closing number_len piece_of items_from items_of closed_from closings_of rounds_from rounds_of found_in class_of member_end_in members_in modifiers_end form_of try_end end_within try_blocks case_blocks blocks_within statements_in blocks_under numbers is_shallow_at arguments_end type_rest dotted_end prefix_end parameters_from exceptions_end outline_of method_prefix_end last_of_names is_in_import front_in is_loose is_java_class hides_last hides_name
sight_of_fetch = refl

sight_of_list : Sees (codes "class A { void f() { for (var u : us) { go(); } } }") false
unfolding closing number_len piece_of items_from items_of closed_from closings_of rounds_from rounds_of found_in class_of member_end_in members_in modifiers_end form_of try_end end_within try_blocks case_blocks blocks_within statements_in blocks_under numbers is_shallow_at arguments_end type_rest dotted_end prefix_end parameters_from exceptions_end outline_of method_prefix_end last_of_names is_in_import front_in is_loose is_java_class hides_last hides_name
sight_of_list = refl

sight_of_more_than_fetch : Sees (codes "class A { void f() { for (var u : users.all().some()) { go(); } } }") false
unfolding closing number_len piece_of items_from items_of closed_from closings_of rounds_from rounds_of found_in class_of member_end_in members_in modifiers_end form_of try_end end_within try_blocks case_blocks blocks_within statements_in blocks_under numbers is_shallow_at arguments_end type_rest dotted_end prefix_end parameters_from exceptions_end outline_of method_prefix_end last_of_names is_in_import front_in is_loose is_java_class hides_last hides_name
sight_of_more_than_fetch = refl

sight_plain : MeansTheSame user_map (codes "import java.util.List; class A { static class Row { } }") true
unfolding closing number_len piece_of items_from items_of closed_from closings_of rounds_from rounds_of found_in class_of member_end_in members_in modifiers_end form_of try_end end_within try_blocks case_blocks blocks_within statements_in blocks_under numbers is_shallow_at arguments_end type_rest dotted_end prefix_end parameters_from exceptions_end outline_of method_prefix_end last_of_names is_in_import front_in is_loose is_java_class hides_last hides_name
sight_plain = refl

sight_nested : MeansTheSame user_map (codes "class A { static class User { } }") false
unfolding closing number_len piece_of items_from items_of closed_from closings_of rounds_from rounds_of found_in class_of member_end_in members_in modifiers_end form_of try_end end_within try_blocks case_blocks blocks_within statements_in blocks_under numbers is_shallow_at arguments_end type_rest dotted_end prefix_end parameters_from exceptions_end outline_of method_prefix_end last_of_names is_in_import front_in is_loose is_java_class hides_last hides_name
sight_nested = refl

sight_of_java : MeansTheSame user_map (codes "class A { enum Math { B } }") false
unfolding closing number_len piece_of items_from items_of closed_from closings_of rounds_from rounds_of found_in class_of member_end_in members_in modifiers_end form_of try_end end_within try_blocks case_blocks blocks_within statements_in blocks_under numbers is_shallow_at arguments_end type_rest dotted_end prefix_end parameters_from exceptions_end outline_of method_prefix_end last_of_names is_in_import front_in is_loose is_java_class hides_last hides_name
sight_of_java = refl

sight_imported : MeansTheSame user_map (codes "import java.awt.List; class A { }") false
unfolding closing number_len piece_of items_from items_of closed_from closings_of rounds_from rounds_of found_in class_of member_end_in members_in modifiers_end form_of try_end end_within try_blocks case_blocks blocks_within statements_in blocks_under numbers is_shallow_at arguments_end type_rest dotted_end prefix_end parameters_from exceptions_end outline_of method_prefix_end last_of_names is_in_import front_in is_loose is_java_class hides_last hides_name
sight_imported = refl

sight_itself : MeansTheSame constant_map (codes "class A { }") true
unfolding closing number_len piece_of items_from items_of closed_from closings_of rounds_from rounds_of found_in class_of member_end_in members_in modifiers_end form_of try_end end_within try_blocks case_blocks blocks_within statements_in blocks_under numbers is_shallow_at arguments_end type_rest dotted_end prefix_end parameters_from exceptions_end outline_of method_prefix_end last_of_names is_in_import front_in is_loose is_java_class hides_last hides_name
sight_itself = refl

sight_nested_first : MeansTheSame constant_map (codes "class B { class A { } }") false
unfolding closing number_len piece_of items_from items_of closed_from closings_of rounds_from rounds_of found_in class_of member_end_in members_in modifiers_end form_of try_end end_within try_blocks case_blocks blocks_within statements_in blocks_under numbers is_shallow_at arguments_end type_rest dotted_end prefix_end parameters_from exceptions_end outline_of method_prefix_end last_of_names is_in_import front_in is_loose is_java_class hides_last hides_name
sight_nested_first = refl

sight_imported_class : MeansTheSame user_map (codes "import app.User; class A { }") true
unfolding closing number_len piece_of items_from items_of closed_from closings_of rounds_from rounds_of found_in class_of member_end_in members_in modifiers_end form_of try_end end_within try_blocks case_blocks blocks_within statements_in blocks_under numbers is_shallow_at arguments_end type_rest dotted_end prefix_end parameters_from exceptions_end outline_of method_prefix_end last_of_names is_in_import front_in is_loose is_java_class hides_last hides_name
sight_imported_class = refl

sight_imported_field : MeansTheSame user_map (codes "import static app.Base.User; class A { }") false
unfolding closing number_len piece_of items_from items_of closed_from closings_of rounds_from rounds_of found_in class_of member_end_in members_in modifiers_end form_of try_end end_within try_blocks case_blocks blocks_within statements_in blocks_under numbers is_shallow_at arguments_end type_rest dotted_end prefix_end parameters_from exceptions_end outline_of method_prefix_end last_of_names is_in_import front_in is_loose is_java_class hides_last hides_name
sight_imported_field = refl

sight_imported_first : MeansTheSame constant_map (codes "import static app.Base.A; class B { }") false
unfolding closing number_len piece_of items_from items_of closed_from closings_of rounds_from rounds_of found_in class_of member_end_in members_in modifiers_end form_of try_end end_within try_blocks case_blocks blocks_within statements_in blocks_under numbers is_shallow_at arguments_end type_rest dotted_end prefix_end parameters_from exceptions_end outline_of method_prefix_end last_of_names is_in_import front_in is_loose is_java_class hides_last hides_name
sight_imported_first = refl

sight : WorkedSight
sight = record { of_for = sight_of_for; behind_for = sight_behind_for; of_block = sight_of_block; of_inner_block = sight_of_inner_block; of_fetch = sight_of_fetch; of_list = sight_of_list; of_more_than_fetch = sight_of_more_than_fetch; plain = sight_plain; nested = sight_nested; of_java = sight_of_java; imported = sight_imported; itself = sight_itself; nested_first = sight_nested_first; imported_class = sight_imported_class; imported_field = sight_imported_field; imported_first = sight_imported_first }

fronts_of_field : BeginsWith (codes "this.users.findAll()") (codes "users")
unfolding closing number_len piece_of items_from items_of front_in is_loose
fronts_of_field = refl

fronts_of_method : BeginsWith (codes "session().createQuery(query).list()") (codes "session")
unfolding closing number_len piece_of items_from items_of front_in is_loose
fronts_of_method = refl

fronts_of_cast : BeginsWith (codes "(List<User>) store.all()") (codes "store")
unfolding closing number_len piece_of items_from items_of front_in is_loose
fronts_of_cast = refl

fronts_of_new : BeginsWith (codes "new Repo(store).all()") (codes "Repo")
unfolding closing number_len piece_of items_from items_of front_in is_loose
fronts_of_new = refl

fronts : WorkedFronts
fronts = record { of_field = fronts_of_field; of_method = fronts_of_method; of_cast = fronts_of_cast; of_new = fronts_of_new }

fetches_of_a_field : Means (codes "users.all()") None (codes "class A { Repo users; }") true
unfolding closing number_len piece_of items_from items_of closed_from closings_of rounds_from rounds_of found_in class_of member_end_in members_in numbers is_set_within first_of_names is_use is_shallow_at arguments_end type_rest dotted_end prefix_end parameters_from exceptions_end outline_of method_prefix_end field_prefix_end is_typed is_in_import front_in is_loose is_keyword_name
fetches_of_a_field = refl

fetches_of_a_set_field : Means (codes "users.all()") None (codes "class A { Repo users; void f() { users = g(); } }") false
unfolding closing number_len piece_of items_from items_of closed_from closings_of rounds_from rounds_of found_in class_of member_end_in members_in numbers is_set_within first_of_names is_use is_shallow_at arguments_end type_rest dotted_end prefix_end parameters_from exceptions_end outline_of method_prefix_end field_prefix_end is_typed is_in_import front_in is_loose is_keyword_name
fetches_of_a_set_field = refl

fetches_with_a_set_field : Means (codes "users.all(by)") None (codes "class A { Repo users; By by; void f() { by = g(); } }") false
unfolding closing number_len piece_of items_from items_of closed_from closings_of rounds_from rounds_of found_in class_of member_end_in members_in numbers is_set_within first_of_names is_use is_shallow_at arguments_end type_rest dotted_end prefix_end parameters_from exceptions_end outline_of method_prefix_end field_prefix_end is_typed is_in_import front_in is_loose is_keyword_name
fetches_with_a_set_field = refl

fetches_of_own_method : Means (codes "all()") None (codes "class A { List<U> all() { } }") false
unfolding closing number_len piece_of items_from items_of closed_from closings_of rounds_from rounds_of found_in class_of member_end_in members_in numbers is_set_within first_of_names is_use is_shallow_at arguments_end type_rest dotted_end prefix_end parameters_from exceptions_end outline_of method_prefix_end field_prefix_end is_typed is_in_import front_in is_loose is_keyword_name
fetches_of_own_method = refl

fetches_said_here : Means (codes "all()") (Some (codes "A")) (codes "class A { List<U> all() { } }") true
unfolding closing number_len piece_of items_from items_of closed_from closings_of rounds_from rounds_of found_in class_of member_end_in members_in numbers is_set_within first_of_names is_use is_shallow_at arguments_end type_rest dotted_end prefix_end parameters_from exceptions_end outline_of method_prefix_end field_prefix_end is_typed is_in_import front_in is_loose is_keyword_name
fetches_said_here = refl

fetches_of_a_class : Means (codes "Users.all()") None (codes "class A { }") true
unfolding closing number_len piece_of items_from items_of closed_from closings_of rounds_from rounds_of found_in class_of member_end_in members_in numbers is_set_within first_of_names is_use is_shallow_at arguments_end type_rest dotted_end prefix_end parameters_from exceptions_end outline_of method_prefix_end field_prefix_end is_typed is_in_import front_in is_loose is_keyword_name
fetches_of_a_class = refl

fetches_of_a_hidden_class : Means (codes "Users.all()") None (codes "class A { void f(Repo Users) { } }") false
unfolding closing number_len piece_of items_from items_of closed_from closings_of rounds_from rounds_of found_in class_of member_end_in members_in numbers is_set_within first_of_names is_use is_shallow_at arguments_end type_rest dotted_end prefix_end parameters_from exceptions_end outline_of method_prefix_end field_prefix_end is_typed is_in_import front_in is_loose is_keyword_name
fetches_of_a_hidden_class = refl

fetches_of_parentheses : Means (codes "(users).all()") None (codes "class A { Repo users; }") false
unfolding closing number_len piece_of items_from items_of closed_from closings_of rounds_from rounds_of found_in class_of member_end_in members_in numbers is_set_within first_of_names is_use is_shallow_at arguments_end type_rest dotted_end prefix_end parameters_from exceptions_end outline_of method_prefix_end field_prefix_end is_typed is_in_import front_in is_loose is_keyword_name
fetches_of_parentheses = refl

fetches_of_own_class : Means (codes "A.users.all()") None (codes "class A { static Repo users; }") true
unfolding closing number_len piece_of items_from items_of closed_from closings_of rounds_from rounds_of found_in class_of member_end_in members_in numbers is_set_within first_of_names is_use is_shallow_at arguments_end type_rest dotted_end prefix_end parameters_from exceptions_end outline_of method_prefix_end field_prefix_end is_typed is_in_import front_in is_loose is_keyword_name
fetches_of_own_class = refl

fetches_of_own_class_where_set : Means (codes "A.users.all()") None (codes "class A { static Repo users; void f() { users = g(); } }") false
unfolding closing number_len piece_of items_from items_of closed_from closings_of rounds_from rounds_of found_in class_of member_end_in members_in numbers is_set_within first_of_names is_use is_shallow_at arguments_end type_rest dotted_end prefix_end parameters_from exceptions_end outline_of method_prefix_end field_prefix_end is_typed is_in_import front_in is_loose is_keyword_name
fetches_of_own_class_where_set = refl

fetches_of_own_class_by_method : Means (codes "A.all()") None (codes "class A { static List<U> all() { } }") false
unfolding closing number_len piece_of items_from items_of closed_from closings_of rounds_from rounds_of found_in class_of member_end_in members_in numbers is_set_within first_of_names is_use is_shallow_at arguments_end type_rest dotted_end prefix_end parameters_from exceptions_end outline_of method_prefix_end field_prefix_end is_typed is_in_import front_in is_loose is_keyword_name
fetches_of_own_class_by_method = refl

fetches_with_a_literal : Means (codes "users.all(User.class)") None (codes "class A { Repo users; void f(int User) { } }") true
unfolding closing number_len piece_of items_from items_of closed_from closings_of rounds_from rounds_of found_in class_of member_end_in members_in numbers is_set_within first_of_names is_use is_shallow_at arguments_end type_rest dotted_end prefix_end parameters_from exceptions_end outline_of method_prefix_end field_prefix_end is_typed is_in_import front_in is_loose is_keyword_name
fetches_with_a_literal = refl

fetches_with_a_class : Means (codes "users.all(User.kind())") None (codes "class A { Repo users; List<User> f(User u) { } }") true
unfolding closing number_len piece_of items_from items_of closed_from closings_of rounds_from rounds_of found_in class_of member_end_in members_in numbers is_set_within first_of_names is_use is_shallow_at arguments_end type_rest dotted_end prefix_end parameters_from exceptions_end outline_of method_prefix_end field_prefix_end is_typed is_in_import front_in is_loose is_keyword_name
fetches_with_a_class = refl

fetches_with_a_hidden_class : Means (codes "users.all(User.kind())") None (codes "class A { Repo users; Kinds User; }") false
unfolding closing number_len piece_of items_from items_of closed_from closings_of rounds_from rounds_of found_in class_of member_end_in members_in numbers is_set_within first_of_names is_use is_shallow_at arguments_end type_rest dotted_end prefix_end parameters_from exceptions_end outline_of method_prefix_end field_prefix_end is_typed is_in_import front_in is_loose is_keyword_name
fetches_with_a_hidden_class = refl

fetches : WorkedFetches
fetches = record { of_a_field = fetches_of_a_field; of_a_set_field = fetches_of_a_set_field; with_a_set_field = fetches_with_a_set_field; of_own_method = fetches_of_own_method; said_here = fetches_said_here; of_a_class = fetches_of_a_class; of_a_hidden_class = fetches_of_a_hidden_class; of_parentheses = fetches_of_parentheses; of_own_class = fetches_of_own_class; of_own_class_where_set = fetches_of_own_class_where_set; of_own_class_by_method = fetches_of_own_class_by_method; with_a_literal = fetches_with_a_literal; with_a_class = fetches_with_a_class; with_a_hidden_class = fetches_with_a_hidden_class }

templates_of_a_method : KeepsTemplate (codes "count($sql {, $arg})") (codes "class A { }") true
unfolding closing number_len piece_of items_from items_of closed_from closings_of rounds_from rounds_of found_in class_of member_end_in members_in numbers is_set_within first_of_names is_use is_shallow_at arguments_end type_rest dotted_end prefix_end parameters_from exceptions_end outline_of method_prefix_end field_prefix_end is_typed is_in_import front_in is_loose is_keyword_name are_closed
templates_of_a_method = refl

templates_of_own_method : KeepsTemplate (codes "count($sql {, $arg})") (codes "class A { long count(String s) { } }") false
unfolding closing number_len piece_of items_from items_of closed_from closings_of rounds_from rounds_of found_in class_of member_end_in members_in numbers is_set_within first_of_names is_use is_shallow_at arguments_end type_rest dotted_end prefix_end parameters_from exceptions_end outline_of method_prefix_end field_prefix_end is_typed is_in_import front_in is_loose is_keyword_name are_closed
templates_of_own_method = refl

templates_of_a_field : KeepsTemplate (codes "base.count($sql {, $arg})") (codes "class A { Base base; long count(String s) { } }") true
unfolding closing number_len piece_of items_from items_of closed_from closings_of rounds_from rounds_of found_in class_of member_end_in members_in numbers is_set_within first_of_names is_use is_shallow_at arguments_end type_rest dotted_end prefix_end parameters_from exceptions_end outline_of method_prefix_end field_prefix_end is_typed is_in_import front_in is_loose is_keyword_name are_closed
templates_of_a_field = refl

templates_of_a_set_field : KeepsTemplate (codes "base.count($sql {, $arg})") (codes "class A { Base base; void f() { base = g(); } }") false
unfolding closing number_len piece_of items_from items_of closed_from closings_of rounds_from rounds_of found_in class_of member_end_in members_in numbers is_set_within first_of_names is_use is_shallow_at arguments_end type_rest dotted_end prefix_end parameters_from exceptions_end outline_of method_prefix_end field_prefix_end is_typed is_in_import front_in is_loose is_keyword_name are_closed
templates_of_a_set_field = refl

templates_of_a_class : KeepsTemplate (codes "Base.count($sql {, $arg})") (codes "class A { Base base; }") true
unfolding closing number_len piece_of items_from items_of closed_from closings_of rounds_from rounds_of found_in class_of member_end_in members_in numbers is_set_within first_of_names is_use is_shallow_at arguments_end type_rest dotted_end prefix_end parameters_from exceptions_end outline_of method_prefix_end field_prefix_end is_typed is_in_import front_in is_loose is_keyword_name are_closed
templates_of_a_class = refl

templates_of_a_hidden_class : KeepsTemplate (codes "Base.count($sql {, $arg})") (codes "class A { Odd Base; }") false
unfolding closing number_len piece_of items_from items_of closed_from closings_of rounds_from rounds_of found_in class_of member_end_in members_in numbers is_set_within first_of_names is_use is_shallow_at arguments_end type_rest dotted_end prefix_end parameters_from exceptions_end outline_of method_prefix_end field_prefix_end is_typed is_in_import front_in is_loose is_keyword_name are_closed
templates_of_a_hidden_class = refl

templates_with_a_hidden_class : KeepsTemplate (codes "base.count($sql {, User.of($arg)})") (codes "class A { Base base; Odd User; }") false
unfolding closing number_len piece_of items_from items_of closed_from closings_of rounds_from rounds_of found_in class_of member_end_in members_in numbers is_set_within first_of_names is_use is_shallow_at arguments_end type_rest dotted_end prefix_end parameters_from exceptions_end outline_of method_prefix_end field_prefix_end is_typed is_in_import front_in is_loose is_keyword_name are_closed
templates_with_a_hidden_class = refl

templates : WorkedTemplates
templates = record { of_a_method = templates_of_a_method; of_own_method = templates_of_own_method; of_a_field = templates_of_a_field; of_a_set_field = templates_of_a_set_field; of_a_class = templates_of_a_class; of_a_hidden_class = templates_of_a_hidden_class; with_a_hidden_class = templates_with_a_hidden_class }

names_imported : Clears (codes "Objects") (codes "import java.util.Objects; class A { boolean f() { return b > Objects.hash(a); } }") true
unfolding closing number_len piece_of items_from items_of closed_from closings_of rounds_from rounds_of found_in class_of member_end_in members_in numbers is_set_within first_of_names is_use is_shallow_at arguments_end type_rest dotted_end prefix_end parameters_from exceptions_end outline_of method_prefix_end field_prefix_end is_typed is_in_import front_in is_loose is_keyword_name
names_imported = refl

names_types : Clears (codes "User") (codes "List<User> us = new User[3]; f(User.class, User::getId); for (User u : us) { }") true
unfolding closing number_len piece_of items_from items_of closed_from closings_of rounds_from rounds_of found_in class_of member_end_in members_in numbers is_set_within first_of_names is_use is_shallow_at arguments_end type_rest dotted_end prefix_end parameters_from exceptions_end outline_of method_prefix_end field_prefix_end is_typed is_in_import front_in is_loose is_keyword_name
names_types = refl

names_before_and : Clears (codes "Objects") (codes "if (o instanceof Odd Objects && b) g();") false
unfolding closing number_len piece_of items_from items_of closed_from closings_of rounds_from rounds_of found_in class_of member_end_in members_in numbers is_set_within first_of_names is_use is_shallow_at arguments_end type_rest dotted_end prefix_end parameters_from exceptions_end outline_of method_prefix_end field_prefix_end is_typed is_in_import front_in is_loose is_keyword_name
names_before_and = refl

names_before_question : Clears (codes "Objects") (codes "n = o instanceof Odd Objects ? 1 : 2;") false
unfolding closing number_len piece_of items_from items_of closed_from closings_of rounds_from rounds_of found_in class_of member_end_in members_in numbers is_set_within first_of_names is_use is_shallow_at arguments_end type_rest dotted_end prefix_end parameters_from exceptions_end outline_of method_prefix_end field_prefix_end is_typed is_in_import front_in is_loose is_keyword_name
names_before_question = refl

names_before_when : Clears (codes "Objects") (codes "switch (o) { case Odd Objects when b -> g(); }") false
unfolding closing number_len piece_of items_from items_of closed_from closings_of rounds_from rounds_of found_in class_of member_end_in members_in numbers is_set_within first_of_names is_use is_shallow_at arguments_end type_rest dotted_end prefix_end parameters_from exceptions_end outline_of method_prefix_end field_prefix_end is_typed is_in_import front_in is_loose is_keyword_name
names_before_when = refl

names_in_record : Clears (codes "Objects") (codes "if (o instanceof Point(int Objects, int y)) g();") false
unfolding closing number_len piece_of items_from items_of closed_from closings_of rounds_from rounds_of found_in class_of member_end_in members_in numbers is_set_within first_of_names is_use is_shallow_at arguments_end type_rest dotted_end prefix_end parameters_from exceptions_end outline_of method_prefix_end field_prefix_end is_typed is_in_import front_in is_loose is_keyword_name
names_in_record = refl

names_caught : Clears (codes "Objects") (codes "try { g(); } catch (Odd Objects) { }") false
unfolding closing number_len piece_of items_from items_of closed_from closings_of rounds_from rounds_of found_in class_of member_end_in members_in numbers is_set_within first_of_names is_use is_shallow_at arguments_end type_rest dotted_end prefix_end parameters_from exceptions_end outline_of method_prefix_end field_prefix_end is_typed is_in_import front_in is_loose is_keyword_name
names_caught = refl

names_of_lambda : Clears (codes "Objects") (codes "g(Objects -> 1);") false
unfolding closing number_len piece_of items_from items_of closed_from closings_of rounds_from rounds_of found_in class_of member_end_in members_in numbers is_set_within first_of_names is_use is_shallow_at arguments_end type_rest dotted_end prefix_end parameters_from exceptions_end outline_of method_prefix_end field_prefix_end is_typed is_in_import front_in is_loose is_keyword_name
names_of_lambda = refl

names_of_array : Clears (codes "Objects") (codes "int n, Objects[] = g();") false
unfolding closing number_len piece_of items_from items_of closed_from closings_of rounds_from rounds_of found_in class_of member_end_in members_in numbers is_set_within first_of_names is_use is_shallow_at arguments_end type_rest dotted_end prefix_end parameters_from exceptions_end outline_of method_prefix_end field_prefix_end is_typed is_in_import front_in is_loose is_keyword_name
names_of_array = refl

names_lone_constant : Unhidden (codes "MAX" ∷ []) (codes "import static app.Codes.MAX; class A { boolean f(int n) { return n > MAX; } }") true
unfolding closing number_len piece_of items_from items_of closed_from closings_of rounds_from rounds_of found_in class_of member_end_in members_in numbers is_set_within first_of_names is_use is_shallow_at arguments_end type_rest dotted_end prefix_end parameters_from exceptions_end outline_of method_prefix_end field_prefix_end is_typed is_in_import front_in is_loose is_keyword_name
names_lone_constant = refl

names_hidden_lone_constant : Unhidden (codes "MAX" ∷ []) (codes "class A { static int MAX = g(); boolean f(int n) { return n > MAX; } }") false
unfolding closing number_len piece_of items_from items_of closed_from closings_of rounds_from rounds_of found_in class_of member_end_in members_in numbers is_set_within first_of_names is_use is_shallow_at arguments_end type_rest dotted_end prefix_end parameters_from exceptions_end outline_of method_prefix_end field_prefix_end is_typed is_in_import front_in is_loose is_keyword_name
names_hidden_lone_constant = refl

names_constant : Unhidden (codes "B" ∷ codes "MAX" ∷ []) (codes "class A { boolean f(int n) { return n > B.MAX; } }") true
unfolding closing number_len piece_of items_from items_of closed_from closings_of rounds_from rounds_of found_in class_of member_end_in members_in numbers is_set_within first_of_names is_use is_shallow_at arguments_end type_rest dotted_end prefix_end parameters_from exceptions_end outline_of method_prefix_end field_prefix_end is_typed is_in_import front_in is_loose is_keyword_name
names_constant = refl

names_hidden_constant : Unhidden (codes "B" ∷ codes "MAX" ∷ []) (codes "class A { Odd B; boolean f(int n) { return n > B.MAX; } }") false
unfolding closing number_len piece_of items_from items_of closed_from closings_of rounds_from rounds_of found_in class_of member_end_in members_in numbers is_set_within first_of_names is_use is_shallow_at arguments_end type_rest dotted_end prefix_end parameters_from exceptions_end outline_of method_prefix_end field_prefix_end is_typed is_in_import front_in is_loose is_keyword_name
names_hidden_constant = refl

names : WorkedNames
names = record { imported = names_imported; types = names_types; before_and = names_before_and; before_question = names_before_question; before_when = names_before_when; in_record = names_in_record; caught = names_caught; of_lambda = names_of_lambda; of_array = names_of_array; lone_constant = names_lone_constant; hidden_lone_constant = names_hidden_lone_constant; constant = names_constant; hidden_constant = names_hidden_constant }

rows_of_nothing : KnowsRows (codes "class A { void f(int n) { go(); } }") ([]) true
unfolding closing number_len piece_of items_from items_of closed_from closings_of rounds_from rounds_of found_in class_of member_end_in members_in modifiers_end form_of try_end end_within try_blocks case_blocks blocks_within statements_in blocks_under numbers is_shallow_at arguments_end type_rest dotted_end prefix_end parameters_from exceptions_end outline_of method_prefix_end last_of_names is_in_import front_in is_loose is_java_class hides_last hides_name
rows_of_nothing = refl

rows_of_parameter : KnowsRows (codes "class A { void f(User u) { go(); } }") ([]) false
unfolding closing number_len piece_of items_from items_of closed_from closings_of rounds_from rounds_of found_in class_of member_end_in members_in modifiers_end form_of try_end end_within try_blocks case_blocks blocks_within statements_in blocks_under numbers is_shallow_at arguments_end type_rest dotted_end prefix_end parameters_from exceptions_end outline_of method_prefix_end last_of_names is_in_import front_in is_loose is_java_class hides_last hides_name
rows_of_parameter = refl

rows_of_known_parameter : KnowsRows (codes "class A { void f(User u) { go(); } }") (user_variable (codes "u") (types.Row 0) ∷ []) true
unfolding closing number_len piece_of items_from items_of closed_from closings_of rounds_from rounds_of found_in class_of member_end_in members_in modifiers_end form_of try_end end_within try_blocks case_blocks blocks_within statements_in blocks_under numbers is_shallow_at arguments_end type_rest dotted_end prefix_end parameters_from exceptions_end outline_of method_prefix_end last_of_names is_in_import front_in is_loose is_java_class hides_last hides_name
rows_of_known_parameter = refl

rows_of_another_type : KnowsRows (codes "class A { void f(User u) { go(); } }") (user_variable (codes "u") (types.Rows 0) ∷ []) false
unfolding closing number_len piece_of items_from items_of closed_from closings_of rounds_from rounds_of found_in class_of member_end_in members_in modifiers_end form_of try_end end_within try_blocks case_blocks blocks_within statements_in blocks_under numbers is_shallow_at arguments_end type_rest dotted_end prefix_end parameters_from exceptions_end outline_of method_prefix_end last_of_names is_in_import front_in is_loose is_java_class hides_last hides_name
rows_of_another_type = refl

rows_of_statement : KnowsRows (codes "class A { void f() { List<User> us = g(); if (b) { go(); } } }") ([]) false
unfolding closing number_len piece_of items_from items_of closed_from closings_of rounds_from rounds_of found_in class_of member_end_in members_in modifiers_end form_of try_end end_within try_blocks case_blocks blocks_within statements_in blocks_under numbers is_shallow_at arguments_end type_rest dotted_end prefix_end parameters_from exceptions_end outline_of method_prefix_end last_of_names is_in_import front_in is_loose is_java_class hides_last hides_name
rows_of_statement = refl

rows_of_known_statement : KnowsRows (codes "class A { void f() { List<User> us = g(); if (b) { go(); } } }") (user_variable (codes "us") (types.Rows 0) ∷ []) true
unfolding closing number_len piece_of items_from items_of closed_from closings_of rounds_from rounds_of found_in class_of member_end_in members_in modifiers_end form_of try_end end_within try_blocks case_blocks blocks_within statements_in blocks_under numbers is_shallow_at arguments_end type_rest dotted_end prefix_end parameters_from exceptions_end outline_of method_prefix_end last_of_names is_in_import front_in is_loose is_java_class hides_last hides_name
rows_of_known_statement = refl

rows_of_ended_block : KnowsRows (codes "class A { void f() { if (b) { User u = g(); } go(); } }") ([]) true
unfolding closing number_len piece_of items_from items_of closed_from closings_of rounds_from rounds_of found_in class_of member_end_in members_in modifiers_end form_of try_end end_within try_blocks case_blocks blocks_within statements_in blocks_under numbers is_shallow_at arguments_end type_rest dotted_end prefix_end parameters_from exceptions_end outline_of method_prefix_end last_of_names is_in_import front_in is_loose is_java_class hides_last hides_name
rows_of_ended_block = refl

rows_of_head : KnowsRows (codes "class A { void f() { for (User u : us) { go(); } } }") ([]) false
unfolding closing number_len piece_of items_from items_of closed_from closings_of rounds_from rounds_of found_in class_of member_end_in members_in modifiers_end form_of try_end end_within try_blocks case_blocks blocks_within statements_in blocks_under numbers is_shallow_at arguments_end type_rest dotted_end prefix_end parameters_from exceptions_end outline_of method_prefix_end last_of_names is_in_import front_in is_loose is_java_class hides_last hides_name
rows_of_head = refl

rows_behind_head : KnowsRows (codes "class A { void f() { for (User u : us) { g(); } go(); } }") ([]) true
unfolding closing number_len piece_of items_from items_of closed_from closings_of rounds_from rounds_of found_in class_of member_end_in members_in modifiers_end form_of try_end end_within try_blocks case_blocks blocks_within statements_in blocks_under numbers is_shallow_at arguments_end type_rest dotted_end prefix_end parameters_from exceptions_end outline_of method_prefix_end last_of_names is_in_import front_in is_loose is_java_class hides_last hides_name
rows_behind_head = refl

rows_of_call : KnowsRows (codes "class A { void f() { User.all(); go(); } }") ([]) true
unfolding closing number_len piece_of items_from items_of closed_from closings_of rounds_from rounds_of found_in class_of member_end_in members_in modifiers_end form_of try_end end_within try_blocks case_blocks blocks_within statements_in blocks_under numbers is_shallow_at arguments_end type_rest dotted_end prefix_end parameters_from exceptions_end outline_of method_prefix_end last_of_names is_in_import front_in is_loose is_java_class hides_last hides_name
rows_of_call = refl

rows : WorkedRows
rows = record { of_nothing = rows_of_nothing; of_parameter = rows_of_parameter; of_known_parameter = rows_of_known_parameter; of_another_type = rows_of_another_type; of_statement = rows_of_statement; of_known_statement = rows_of_known_statement; of_ended_block = rows_of_ended_block; of_head = rows_of_head; behind_head = rows_behind_head; of_call = rows_of_call }

pub worked : Worked
worked = record { members = members; guards = guards; sight = sight; fronts = fronts; fetches = fetches; templates = templates; names = names; rows = rows }
