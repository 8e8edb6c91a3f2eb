-- The accumulators of members, by their numbers.
use Rattle.std.proofs.Common.{◌≡◌, ℕ, zero, suc, ◌+◌, ◌<◌, ◌≤◌, arith, List, [], ◌∷◌, length, map, get_or, slice_get, Option, Some, None, option_map, Result, Ok, Err, IfOk, false, refl, sym, ap, ◌∙◌}
use Rattle.std.specs.Global.{Box}
use Rattle.kernel_lang.specs.declared.parts.Acc.{Acc}
use Rattle.kernel_lang.specs.Plain.{Accumulator, accumulator}
use Rattle.kernel_lang.specs.Pools.{Member, chosen, members_from}
use Rattle.qbs_base.specs.declared.memory.NoMemory.{NoMemory}
use Rattle.tor_terms.specs.Plain.{forms_of}
use Rattle.sql_ast.specs.declared.tree.Cond.{Cond}
use Rattle.sql_ast.specs.Reading.{condition}
use Rattle.sql_parts.specs.declared.ground.Ground.{Ground as CodeGround}
use Rattle.sql_parts.specs.Emitted.{fixed, flag_exists, flag_condition}
use Rattle.sql_parts.specs.Reading.{ground_of, number_first}
use Rattle.sql_parts.specs.Scopes.{Scope}

abbrev member_of : List ℕ → ℕ → Accumulator → Member
member_of cand n a = (a, chosen cand n a.pool)

by_number : (cand : List ℕ) (n : ℕ) (accs : List Accumulator) (k : ℕ) → slice_get (members_from cand n accs) k ≡ option_map (member_of cand (number_first n accs k)) (slice_get accs k)
by_number cand n [] k = refl
by_number cand n (a ∷ accs) zero = refl
by_number cand n (a ∷ accs) (suc k) = by_number cand (n + length a.pool) accs k

mapped : (accs : List Acc) (k : ℕ) → slice_get (map accumulator accs) k ≡ option_map accumulator (slice_get accs k)
mapped [] k = refl
mapped (a ∷ accs) zero = refl
mapped (a ∷ accs) (suc k) = mapped accs k

pub member_is : (cand : List ℕ) (accs : List Acc) (k : ℕ) → slice_get (members_from cand 0 (map accumulator accs)) k ≡ option_map (λ a. (accumulator a, chosen cand (number_first 0 (map accumulator accs) k) (accumulator a).pool)) (slice_get accs k)
member_is cand accs k = by_number cand 0 (map accumulator accs) k ∙ ap (option_map (member_of cand (number_first 0 (map accumulator accs) k))) (mapped accs k) ∙ twice (slice_get accs k)
  where
    twice : (o : Option Acc) → option_map (member_of cand (number_first 0 (map accumulator accs) k)) (option_map accumulator o) ≡ option_map (λ a. (accumulator a, chosen cand (number_first 0 (map accumulator accs) k) (accumulator a).pool)) o
    twice None = refl
    twice (Some a) = refl

-- ---- a flag's condition, as the code makes it

pub flag_none : (g : CodeGround) (s : Scope) (k : ℕ) (r : Result (Box Cond) NoMemory) → slice_get g.accs.now k ≡ None → IfOk r (λ c. condition c.value ≡ fixed false) → IfOk r (λ c. condition c.value ≡ flag_condition (ground_of g) s k)
flag_none g s k (Err e) there h = tt
flag_none g s k (Ok c) there h =
    h ∙ sym (ap (flag_exists (ground_of g) s) (member_is g.cand.now g.accs.now k ∙ ap (option_map (λ a. (accumulator a, chosen g.cand.now (number_first 0 (map accumulator g.accs.now) k) (accumulator a).pool))) there))

pub flag_ok : (g : CodeGround) (s : Scope) (k : ℕ) (a : Acc) (first : ℕ) (r : Result (Box Cond) NoMemory) → slice_get g.accs.now k ≡ Some a → first ≡ number_first 0 (map accumulator g.accs.now) k
    → IfOk r (λ c. condition c.value ≡ flag_exists (ground_of g) s (Some (accumulator a, chosen g.cand.now first (forms_of a.pool)))) → IfOk r (λ c. condition c.value ≡ flag_condition (ground_of g) s k)
flag_ok g s k a first (Err e) there number h = tt
flag_ok g s k a first (Ok c) there number h =
    h ∙ ap (λ n. flag_exists (ground_of g) s (Some (accumulator a, chosen g.cand.now n (forms_of a.pool)))) number
    ∙ sym (ap (flag_exists (ground_of g) s) (member_is g.cand.now g.accs.now k ∙ ap (option_map (λ a. (accumulator a, chosen g.cand.now (number_first 0 (map accumulator g.accs.now) k) (accumulator a).pool))) there))

-- ---- what a look-up says

pub got_some : (accs : List Acc) (n : ℕ) (a d : Acc) → n < length accs → a ≡ get_or accs n d → slice_get accs n ≡ Some a
got_some [] n a d below e = absurd (omega (arith, below))
got_some (b ∷ accs) zero a d below e = ap (λ (x : Acc). Some x) (sym e)
got_some (b ∷ accs) (suc n) a d below e = got_some accs n a d (omega (arith, below)) e

pub got_none : (accs : List Acc) (n : ℕ) → length accs ≤ n → slice_get accs n ≡ None
got_none [] n above = refl
got_none (b ∷ accs) zero above = absurd (omega (arith, above))
got_none (b ∷ accs) (suc n) above = got_none accs n (omega (arith, above))
