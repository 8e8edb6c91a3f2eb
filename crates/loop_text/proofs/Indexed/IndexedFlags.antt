-- The updates of flags, and the `if`s round them.
use Rattle.std.proofs.Common.{◌≡◌, ◌<◌, ◌+◌, ℕ, suc, Bool, true, false, ◌&&◌, ◌||◌, List, Option, Some, None, length, drop, map, get_or, refl, sym, ap, ◌∙◌, arith}
use Rattle.loop_text.specs.declared.sites.list.Site as code
use Rattle.loop_text.specs.Sites.Indexed.{is_number, local_of}
use Rattle.loop_text.specs.Kernel.KernelConditions.{is_local, updates_flag_under}
use Rattle.loop_text.specs.Kernel.KernelStatements.{target_bound, target_binding, updates_local}
use Rattle.loop_text.specs.Sites.Reading.{site_of}
use Rattle.loop_text.specs.Sites.Sites.{Site, Binding, Row, Local, Outer, binding_at, same_binding, is_some, is_under, target_of, has_number, any_site}
use Rattle.loop_text.proofs.Indexed.GroupedNumbers.{both_same}
use Rattle.loop_text.proofs.Trees.Walked.{next_item}

flag_by : (b : Binding) (d : ℕ) → is_number (local_of b) d ≡ same_binding b (Local d)
flag_by (Row n) d = refl
flag_by (Local e) d = both_same d e
flag_by Outer d = refl

flag_of : (sites : List Site) (n d : ℕ) (o : Option (List ℕ)) → is_number (local_of (target_bound sites n o)) d ≡ (is_some o && same_binding (target_bound sites n o) (Local d))
flag_of sites n d None = refl
flag_of sites n d (Some x) = flag_by (binding_at sites n x) d

-- a site updates a flag where its target is bound to that
pub flag_tested : (sites : List Site) (n d : ℕ) (s : Site) (o : Option ℕ) → o ≡ local_of (target_binding sites n s) → is_number o d ≡ updates_local sites d n s
flag_tested sites n d s o is = ap (λ (p : Option ℕ). is_number p d) is ∙ flag_of sites n d (target_of s.statement)

guard_by : (b : Binding) (u : Bool) → (is_some (local_of b) && u) ≡ (is_local b && u)
guard_by (Row n) u = refl
guard_by (Local e) u = refl
guard_by Outer u = refl

guard_of : (sites : List Site) (n : ℕ) (o : Option (List ℕ)) (u : Bool) → (is_some (local_of (target_bound sites n o)) && u) ≡ (is_some o && (is_local (target_bound sites n o) && u))
guard_of sites n None u = refl
guard_of sites n (Some x) u = guard_by (binding_at sites n x) u

guard_tested : (sites : List Site) (n i : ℕ) (s : Site) (o : Option ℕ) → o ≡ local_of (target_binding sites n s) → (is_some o && is_under i s) ≡ updates_flag_under sites i n s
guard_tested sites n i s o is = ap (λ (p : Option ℕ). is_some p && is_under i s) is ∙ guard_of sites n (target_of s.statement) (is_under i s)

or_assoc : (a b c : Bool) → ((a || b) || c) ≡ (a || (b || c))
or_assoc true b c = refl
or_assoc false b c = refl

-- the `if`s round one more update of a flag
pub next_guarded : (sites : List Site) (old new : List ℕ) (o : Option ℕ) (i n : ℕ) (all : List code.Site) (s : code.Site) (whole : Bool) → n < length all → s ≡ get_or all n s → o ≡ local_of (target_binding sites n (site_of s)) → has_number new i ≡ (has_number old i || (is_some o && is_under i (site_of s))) → (has_number old i || any_site (updates_flag_under sites i) n (map site_of (drop n all))) ≡ whole → (has_number new i || any_site (updates_flag_under sites i) (n + 1) (map site_of (drop (n + 1) all))) ≡ whole
next_guarded sites old new o i n all s whole h is named more before =
    let rest = map site_of (drop (n + 1) all) in
    let next : n + 1 ≡ suc n = omega arith in
    ap (λ (b : Bool). b || any_site (updates_flag_under sites i) (n + 1) rest) more
    ∙ ap (λ (b : Bool). (has_number old i || b) || any_site (updates_flag_under sites i) (n + 1) rest) (guard_tested sites n i (site_of s) o named)
    ∙ or_assoc (has_number old i) (updates_flag_under sites i n (site_of s)) (any_site (updates_flag_under sites i) (n + 1) rest)
    ∙ ap (λ (k : ℕ). has_number old i || (updates_flag_under sites i n (site_of s) || any_site (updates_flag_under sites i) k rest)) next
    ∙ sym (ap (λ (l : List code.Site). has_number old i || any_site (updates_flag_under sites i) n (map site_of l)) (next_item all n s h is))
    ∙ before
