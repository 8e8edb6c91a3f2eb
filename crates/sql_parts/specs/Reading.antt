-- What the code's grounds, scopes and conditions are read as.
use Rattle.std.specs.Prelude.{if◌then◌else◌, ℕ, zero, suc, ◌+◌, ◌≤◌, List, [], ◌∷◌, map, length, nat_eq}
use Rattle.std.specs.List.{AllByRecursion}
use Rattle.kernel_lang.specs.Plain.{Accumulator, accumulator}
use Rattle.kernel_lang.specs.Pools.{members_from}
use Rattle.sql_ast.specs.Reading.{query}
use Rattle.sql_ast.specs.Tree.{Condition, Both, Filter, Everything, Where}
use Rattle.sql_build.specs.Filters.{with_also}
use Rattle.sql_parts.specs.declared.ground.Ground.{Ground as CodeGround}
use Rattle.sql_build.specs.declared.scope.Scope.{Scope as CodeScope}
use Rattle.sql_parts.specs.Scopes.{Ground, Scope, outermost, inner}

abbrev pub ground_of : CodeGround → Ground
ground_of g =
    record {
      schema = g.schema.now;
      lists = g.lists.now;
      atoms = g.atoms.now;
      members = members_from g.cand.now 0 (map accumulator g.accs.now);
      known = map query g.known.now;
      args = g.args.now;
    }

-- the loops of a SELECT, and those of the SELECT round it
abbrev pub scope_by : List ℕ → List ℕ → Scope
scope_by own [] = outermost own
scope_by own (j ∷ outer) = inner (outermost (j ∷ outer)) own

abbrev pub scope_of : CodeScope → Scope
scope_of s = scope_by s.own.now s.outer.now

abbrev pub IsSmall : CodeScope → Type 0
IsSmall s = length s.own.now + length s.outer.now ≤ 6

-- the number of a loop after n others, and another number where it isn't there
abbrev pub number_or : ℕ → List ℕ → ℕ → ℕ → ℕ
number_or n [] j other = other
number_or n (k ∷ js) j other = if nat_eq k j then suc n else number_or (suc n) js j other

-- a WHERE with several conditions more
abbrev pub all_also : Filter → List Condition → Filter
all_also f [] = f
all_also f (c ∷ cs) = all_also (with_also f c) cs

-- no chain is longer than three
abbrev pub AreShort : CodeGround → Type 0
AreShort g = AllByRecursion (λ a. length a.chain ≤ 3) g.accs.now

-- the number of the first formula of an accumulator's pool among those of all pools
abbrev pub number_first : ℕ → List Accumulator → ℕ → ℕ
number_first n [] k = n
number_first n (a ∷ accs) zero = n
number_first n (a ∷ accs) (suc k) = number_first (n + length a.pool) accs k
