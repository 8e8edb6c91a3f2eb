-- The laws of emitted queries.
use Rattle.std.proofs.Common.{◌≡◌, ℕ, ◌+◌, ◌<◌, Bool, true, ◌&&◌, List, [], ◌∷◌, length, slice_get, sym, ◌∙◌, subst, nat_lt}
use Rattle.std.specs.List.{AllByRecursion, list_all}
use Rattle.std.specs.declared.option.Option.TheVariants.{Some, None}
use Rattle.qbs_base.specs.Values.{Schema}
use Rattle.kernel_lang.specs.Fitting.{named_places}
use Rattle.kernel_lang.specs.Plain.{Accumulator, Fragment}
use Rattle.kernel_lang.specs.Pools.{Member, members_from, members}
use Rattle.kernel_lang.specs.Typed.{atom_is_typed, members_agree, update_is_typed, place_is_there, is_typed}
use Rattle.kernel_lang.specs.Validity.{broken}
use Rattle.kernel_lang.proofs.Sentences.{valid}
use Rattle.kernel_lang.proofs.Listing.{all_at, and_left, and_right}
use Rattle.sql_ast.specs.Tree.{Filter, PlainQuery}
use Rattle.sql_parts.specs.Scopes.{ground}
use Rattle.sql_parts.specs.Emitted.{query_of}
use Rattle.sql_parts.specs.Given.{AreKnownTo, SaysWhatIsClaimed}
use Rattle.sql_parts.specs.Numbered.{filter_uses, first_uses, filter_in, in_order}
use Rattle.sql_parts.proofs.Meaning.{says_what_is_claimed}
use Rattle.sql_parts.proofs.Numbering.{FilterParam, IsIn, uses_in, filter_both, answer_same, each_more}
use Rattle.sql_parts.proofs.Params.{HasValue, entry_there, where_param, filter_is}
use Rattle.sql_parts.proofs.Valid.{IsValidMember, all_members}

-- ---- accumulators of members

pub all_updates : (schema : Schema) (f : Fragment) → is_typed schema f ≡ true → list_all (λ a. update_is_typed schema f a.update) f.accs ≡ true
all_updates schema f h =
    and_right (list_all (λ d. nat_lt d.table (length schema)) f.lists && list_all (place_is_there schema f) (named_places f) && list_all (atom_is_typed schema f) f.atoms && list_all (λ a. list_all (members_agree schema f a) f.atoms) f.atoms)
    (list_all (λ a. update_is_typed schema f a.update) f.accs) h

pub members_pass : (test : Accumulator → Bool) (cand : List ℕ) (n : ℕ) (accs : List Accumulator) → list_all test accs ≡ true → AllByRecursion (λ (m : Member). test m.0 ≡ true) (members_from cand n accs)
members_pass test cand n [] h = tt
members_pass test cand n (a ∷ accs) h = (and_left (test a) (list_all test accs) h, members_pass test cand (n + length a.pool) accs (and_right (test a) (list_all test accs) h))

pub says : (schema : Schema) (f : Fragment) (cand : List ℕ) (known : List PlainQuery) (args : List (List ℕ)) (acc : ℕ) (m : Member) → broken f ≡ None → is_typed schema f ≡ true → AreKnownTo schema f known args
    → slice_get (members f cand) acc ≡ Some m → m.0.base ≡ 0 → SaysWhatIsClaimed schema f cand known args m (in_order f.entries (query_of (ground schema f cand known args) m))
says schema f cand known args acc m unbroken typed are there base db entry given =
    let v = valid f unbroken in
    let ok : IsValidMember f m = all_at (IsValidMember f) (members f cand) acc m (all_members f cand v) there in
    let t : update_is_typed schema f m.0.update ≡ true = all_at (λ (x : Member). update_is_typed schema f x.0.update ≡ true) (members f cand) acc m (members_pass (λ a. update_is_typed schema f a.update) cand 0 f.accs (all_updates schema f typed)) there in
    let g = ground schema f cand known args in
    let filter_ : Filter = filter_in (query_of g m) in
    let params : FilterParam (λ k. k < length f.entries) filter_ = subst (FilterParam (λ k. k < length f.entries)) (sym (filter_is schema f cand known args v are.each m)) (where_param schema f cand known args v are.each m) in
    answer_same db entry.values (first_uses [] (filter_uses filter_)) (query_of g m) _
    (each_more (λ k. IsIn (first_uses [] (filter_uses filter_)) k × (k < length f.entries)) (λ k. IsIn (first_uses [] (filter_uses filter_)) k × HasValue entry.values k) (λ k h. (h.0, entry_there f.entries entry.values given.values k h.1)) filter_
    (filter_both (λ k. k < length f.entries) (IsIn (first_uses [] (filter_uses filter_))) filter_ params (uses_in (filter_uses filter_))))
    ∙ says_what_is_claimed schema f cand known args v typed are db entry given m ok base t
