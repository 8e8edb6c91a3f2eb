-- The worked texts, computed.
use Rattle.std.proofs.Common.{◌≡◌, ℕ, List, [], ◌∷◌, Option, Some, None, Result, Ok, Err, pos, codes, refl}
use Rattle.qbs_base.specs.declared.scalar.Scalar.{Scalar}
use Rattle.qbs_base.specs.declared.scalar.Scalar.TheVariants as scalars
use Rattle.sql_ast.specs.declared.rule.SqlRule.{SqlRule}
use Rattle.sql_ast.specs.Lexer.{tokens_in}
use Rattle.sql_ast.specs.Meaning.{Answered, query_answer}
use Rattle.sql_ast.specs.Reader.{listed_at, atom_at, negation_in, joined_from, conjunction_at, condition_at, query_of_text}
use Rattle.sql_ast.specs.Tree.{PlainQuery}
use Rattle.sql_ast.specs.Worked.{Answering, WorkedLists, WorkedNumbers, WorkedFaults, Worked, staff_schema, staff_tables}
use Rattle.sql_ast.proofs.Judged.{query_exactly, rule_exactly}
use Rattle.sql_ast.proofs.Tools.{some_is}

abbrev answer_in : List Scalar → Result PlainQuery SqlRule → Option Answered
answer_in params (Ok q) = Some (query_answer staff_tables params q)
answer_in params (Err rule) = None

answering : (query : List ℕ) (params : List Scalar) (answer : Answered) → answer_in params (query_of_text staff_schema query) ≡ Some answer → Answering query params answer
answering query params answer e = go (query_of_text staff_schema query) refl e
  where
    go : (r : Result PlainQuery SqlRule) → query_of_text staff_schema query ≡ r → answer_in params r ≡ Some answer → Answering query params answer
    go (Ok q) h e = record { q = q; has = (query_exactly staff_schema query q).1 h; answers = some_is (query_answer staff_tables params q) answer e }
    go (Err rule) h e = absurd cc

lists : WorkedLists
unfolding tokens_in listed_at atom_at negation_in joined_from conjunction_at condition_at
lists = record {
  filtered = answering (codes "SELECT t1.* FROM User t1 WHERE t1.roleId = 2 ORDER BY t1._pos") [] _ refl;
  any_letter_case = answering (codes "select * from User where roleId=2order by _pos asc") [] _ refl;
  joined = answering (codes "SELECT t1.* FROM User t1, Role t2 WHERE t1.roleId = t2.id ORDER BY t1._pos, t2._pos") [] _ refl;
  joined_the_other_way = answering (codes "SELECT t2.* FROM Role t1, User t2 WHERE t1.id = t2.roleId ORDER BY t1._pos, t2._pos") [] _ refl;
  column = answering (codes "SELECT t2.label FROM User t1, Role t2 WHERE t1.roleId = t2.id ORDER BY t1._pos, t2._pos") [] _ refl;
  exists = answering (codes "SELECT t1.* FROM User t1 WHERE EXISTS (SELECT 1 FROM Role t2 WHERE t1.roleId = t2.id) ORDER BY t1._pos") [] _ refl;
  within = answering (codes "SELECT t1.* FROM User t1 WHERE t1.roleId IN (SELECT t2.id FROM Role t2 WHERE t2.label = 'staff') ORDER BY t1._pos") [] _ refl;
  not_within = answering (codes "SELECT t1.* FROM User t1 WHERE t1.roleId NOT IN (SELECT t2.id FROM Role t2 WHERE t2.label = 'staff') ORDER BY t1._pos") [] _ refl;
  sorted = answering (codes "SELECT t1.* FROM User t1 ORDER BY t1.name, t1._pos LIMIT 3") [] _ refl;
  sorted_down = answering (codes "SELECT t1.* FROM User t1 ORDER BY t1.name DESC, t1._pos LIMIT 3") [] _ refl;
  limit_of_none = answering (codes "SELECT t1.* FROM User t1 ORDER BY t1.name, t1._pos LIMIT 0") [] _ refl;
  limit_past_all = answering (codes "SELECT t1.* FROM User t1 ORDER BY t1.name, t1._pos LIMIT 9") [] _ refl;
  positions = answering (codes "SELECT t1.* FROM User t1 WHERE t1._pos < 3 ORDER BY t1._pos") [] _ refl;
  grouped = answering (codes "SELECT t1.name FROM User t1 GROUP BY t1.name ORDER BY MIN(t1._pos)") [] _ refl;
  no_aliases = answering (codes "SELECT name FROM User WHERE age = 25 ORDER BY _pos") [] _ refl;
  positions_down = answering (codes "SELECT id FROM Role ORDER BY _pos DESC") [] _ refl;
  two_conjuncts = answering (codes "SELECT t1.* FROM User t1 WHERE t1.active = TRUE AND t1.age > 20 ORDER BY t1._pos") [] _ refl;
  parameter = answering (codes "SELECT t1.* FROM User t1 WHERE t1.roleId = ?1 AND t1.active = TRUE ORDER BY t1._pos") (scalars.Long (pos 2) ∷ []) _ refl;
  quote = answering (codes "SELECT t1.* FROM User t1 WHERE t1.name = 'O''N' ORDER BY t1._pos") [] _ refl;
  unordered = answering (codes "SELECT t1.* FROM User t1") [] _ refl;
  precedence = answering (codes "SELECT * FROM User WHERE (NOT active AND age = 25 OR name = 'cat') AND id <> 5 ORDER BY _pos") [] _ refl;
}

numbers : WorkedNumbers
unfolding tokens_in listed_at atom_at negation_in joined_from conjunction_at condition_at
numbers = record {
  greatest = answering (codes "SELECT COALESCE(MAX(t1.age), 10) FROM User t1 WHERE t1.age > 10") [] _ refl;
  greatest_of_none = answering (codes "SELECT COALESCE(MAX(t1.age), 10) FROM User t1 WHERE t1.age > 100") [] _ refl;
  least = answering (codes "SELECT COALESCE(MIN(t1.age), 0) FROM User AS t1") [] _ refl;
  sum = answering (codes "SELECT COALESCE(SUM(t1.age), 0) FROM User t1") [] _ refl;
  count = answering (codes "SELECT COUNT(*) FROM User t1 WHERE t1.active = TRUE") [] _ refl;
  count_at = answering (codes "SELECT COUNT(*) FROM Role t1 WHERE t1.id = ?1") (scalars.Long (pos 2) ∷ []) _ refl;
  count_of_none = answering (codes "SELECT COUNT(*) FROM Role t1 WHERE t1.id = ?1") (scalars.Long (pos 3) ∷ []) _ refl;
  exists = answering (codes "SELECT EXISTS (SELECT 1 FROM User t1 WHERE t1.active = TRUE)") [] _ refl;
  not_exists = answering (codes "SELECT NOT EXISTS (SELECT 1 FROM User t1 WHERE t1.active = FALSE)") [] _ refl;
}

faults : WorkedFaults
unfolding tokens_in listed_at atom_at negation_in joined_from conjunction_at condition_at
faults = record {
  two_counted = (rule_exactly staff_schema (codes "SELECT COUNT(*) FROM User, Role") _).1 refl;
  not_one = (rule_exactly staff_schema (codes "SELECT EXISTS (SELECT 01 FROM User)") _).1 refl;
  unbalanced = (rule_exactly staff_schema (codes "SELECT * FROM User WHERE (age = 1 ORDER BY _pos") _).1 refl;
  comment = (rule_exactly staff_schema (codes "SELECT * FROM User -- all") _).1 refl;
  open_quote = (rule_exactly staff_schema (codes "SELECT * FROM User WHERE name = 'ann") _).1 refl;
  large_limit = (rule_exactly staff_schema (codes "SELECT * FROM User ORDER BY _pos LIMIT 9223372036854775808") _).1 refl;
  least_down = (rule_exactly staff_schema (codes "SELECT name FROM User GROUP BY name ORDER BY MIN(_pos) DESC") _).1 refl;
  no_table = (rule_exactly staff_schema (codes "SELECT * FROM Nobody") _).1 refl;
  no_column = (rule_exactly staff_schema (codes "SELECT label FROM User") _).1 refl;
  two_items = (rule_exactly staff_schema (codes "SELECT name FROM User, Role") _).1 refl;
  equal_aliases = (rule_exactly staff_schema (codes "SELECT u.name FROM User u, Role u") _).1 refl;
  other_type = (rule_exactly staff_schema (codes "SELECT * FROM User WHERE age = 'x'") _).1 refl;
  no_order_of_truths = (rule_exactly staff_schema (codes "SELECT * FROM User WHERE active < TRUE") _).1 refl;
  no_truth = (rule_exactly staff_schema (codes "SELECT * FROM User WHERE name") _).1 refl;
  other_group = (rule_exactly staff_schema (codes "SELECT name FROM User GROUP BY age ORDER BY MIN(_pos)") _).1 refl;
  least_of_no_group = (rule_exactly staff_schema (codes "SELECT name FROM User ORDER BY MIN(_pos)") _).1 refl;
  gap = (rule_exactly staff_schema (codes "SELECT * FROM User WHERE age = ?2") _).1 refl;
  compared_with_none = (rule_exactly staff_schema (codes "SELECT * FROM User WHERE ?1 = ?1") _).1 refl;
  two_types = (rule_exactly staff_schema (codes "SELECT * FROM User WHERE age = ?1 AND name = ?1") _).1 refl;
}

pub worked : Worked
worked = record { lists = lists; numbers = numbers; faults = faults }
