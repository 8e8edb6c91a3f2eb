-- The faults of calls in a row, and the one that is kept of them.
use Rattle.std.specs.Prelude.{◌≡◌, ◌⊎◌, ℕ, suc, List, [], ◌∷◌, ◌++◌, Bool, true, false, ◌&&◌, nat_eq, nat_lt, IsTrue, if◌then◌else◌}
use Rattle.std.specs.declared.option.Option.{Option}
use Rattle.std.specs.declared.option.Option.TheVariants.{Some, None}
use Rattle.qbs_base.specs.declared.span.Span.{Span}
use Rattle.java_calls.specs.Rules.{is_earlier}
use Rattle.call_rules.specs.declared.rule.HelperRule.TheVariants as coded
use Rattle.call_rules.specs.declared.rule.HelperRule.{HelperRule as Coded}
use Rattle.call_rules.specs.declared.rule.HelperFault.{HelperFault}
use Rattle.call_rules.specs.declared.faults.Candidate.{Candidate}
use Rattle.call_rules.specs.declared.notes.Noted.{Noted}
use Rattle.call_rules.specs.Cycles.{Leads, all_sink, may_return}
use Rattle.call_rules.specs.Faults.{plain_rule}

abbrev pub candidate : Coded → Span → ℕ → Candidate
candidate rule at i = record { rule = rule; at = at; method = i }

abbrev pub broken_there : ℕ → Span → Option Coded → List Candidate
broken_there i at None = []
broken_there i at (Some rule) = candidate rule at i ∷ []

-- the rules on calls by themselves that calls of the method i break
abbrev pub broken_in : ℕ → List Noted → List Candidate
broken_in i [] = []
broken_in i (c ∷ cs) = broken_there i c.at c.breaks ++ broken_in i cs

-- the first call of a method that may reach itself
abbrev pub recursive_in : Bool → ℕ → List Noted → List Candidate
recursive_in true i (c ∷ cs) = candidate coded.Recursive c.at i ∷ []
recursive_in _ i _ = []

abbrev pub candidates_in : ℕ → Bool → List Noted → List Candidate
candidates_in i flag l = recursive_in flag i l ++ broken_in i l

abbrev pub candidates_from : List ℕ → ℕ → List (List Noted) → List Candidate
candidates_from ranks i [] = []
candidates_from ranks i (l ∷ ls) = candidates_in i (may_return ranks i l) l ++ candidates_from ranks (suc i) ls

-- its place comes first, or its rule has the smaller number at the same place
abbrev pub is_before : Candidate → Candidate → Bool
is_before a b = is_earlier (plain_rule a.rule) a.at (plain_rule b.rule) b.at

abbrev pub lesser : Option Candidate → Candidate → Option Candidate
lesser None c = Some c
lesser (Some d) c = if is_before c d then Some c else Some d

abbrev pub least : Option Candidate → List Candidate → Option Candidate
least o [] = o
least o (c ∷ cs) = least (lesser o c) cs

abbrev pub fault_in : Candidate → HelperFault
fault_in c = record { rule = c.rule; at = c.at }

abbrev pub is_recursive : Coded → Bool
is_recursive coded.Recursive = true
is_recursive _ = false

-- the method of a candidate for recursion reaches itself
abbrev pub IsRound : List (List Noted) → Option Candidate → Type 0
IsRound calls None = Unit {0}
IsRound calls (Some c) = IsTrue (is_recursive c.rule) → Leads calls c.method c.method

-- the least candidate, by ranks that are tested
pub record IsLeast (calls : List (List Noted)) (ranks : List ℕ) (found : Option Candidate) : Type 0 where
  pub sink : all_sink ranks 0 calls ≡ true
  pub kept : found ≡ least None (candidates_from ranks 0 calls)
  pub round : IsRound calls found
