-- A row of the first of some loops.
use Rattle.std.proofs.Common.{◌≡◌, arith, ℕ, false, ◌+◌, ◌<◌, ◌≤◌, Bool, Bor, List, [], ◌∷◌, ◌++◌, take, length, get_or, sym, ap, ◌∙◌, append_assoc, append-nil}
use Rattle.std.specs.Prelude.{◌==◌}
use Rattle.std.specs.List.{flat_map}
use Rattle.std.proofs.lemmas.Bool.Decides.{nat_tests}
use Rattle.std.proofs.lemmas.List.{map-append, take_more, take_all}
use Rattle.std.proofs.lemmas.List.Concat.{flat_map-append}
use Rattle.qbs_base.specs.declared.scalar.Row.{Row}
use Rattle.tor_terms.specs.declared.term.Atom.{Atom}
use Rattle.tor_terms.specs.declared.term.Elem.{Elem}
use Rattle.tor_terms.specs.Plain.{Form}
use Rattle.tor_terms.specs.Truth.{World}
use Rattle.kernel_lang.specs.Running.{with_row}
use Rattle.qbs_base.specs.declared.scalar.Value.{Value}
use Rattle.kernel_interp.specs.Claiming.{any_visit, taken, all_said, same_values}
use Rattle.kernel_interp.specs.declared.member.Member.{Member}
use Rattle.kernel_interp.specs.Members.{members_seen}
use Rattle.kernel_interp.specs.Reading.{rows_seen}

abbrev pub visited : World → List Atom → List Form → ℕ → List ℕ → (ℕ → Row) → Row → Bool
visited w atoms fs over inner rows r = any_visit w atoms fs inner (with_row rows over r)

abbrev pub taken_at : World → List Atom → List Form → Elem → ℕ → List ℕ → (ℕ → Row) → Row → List Row
taken_at w atoms fs e over inner rows r = taken w atoms fs e inner (with_row rows over r)

-- rows that are taken at one more row of the first loop
pub taken_more : (f : Row → List Row) (rows : List (Bor Row)) (i : ℕ) (row : Bor Row) (first now new : List Row) → i < length rows → row ≡ get_or rows i row → now ≡ first ++ flat_map f (rows_seen (take i rows)) → new ≡ now ++ f row.now
    → new ≡ first ++ flat_map f (rows_seen (take (i + 1) rows))
taken_more f rows i row first now new l e h k =
    k
    ∙ ap (λ (xs : List Row). xs ++ f row.now) h
    ∙ append_assoc first (flat_map f (rows_seen (take i rows))) (f row.now)
    ∙ ap (λ (xs : List Row). first ++ (flat_map f (rows_seen (take i rows)) ++ xs)) (sym (append-nil (f row.now)))
    ∙ ap (λ (xs : List Row). first ++ xs) (sym (flat_map-append f (rows_seen (take i rows)) (row.now ∷ [])))
    ∙ ap (λ (xs : List Row). first ++ flat_map f xs) (sym (map-append (λ (r : Bor Row). r.now) (take i rows) (row ∷ [])))
    ∙ ap (λ (r : Bor Row). first ++ flat_map f (rows_seen (take i rows ++ r ∷ []))) e
    ∙ ap (λ (rs : List (Bor Row)). first ++ flat_map f (rows_seen rs)) (sym (take_more rows i row l))

-- and at all of them
pub taken_all : (f : Row → List Row) (rows : List (Bor Row)) (i : ℕ) (first now : List Row) (lent : List Row) → length rows ≤ i → rows_seen rows ≡ lent → now ≡ first ++ flat_map f (rows_seen (take i rows)) → now ≡ first ++ flat_map f lent
taken_all f rows i first now lent l e h = h ∙ ap (λ (rs : List (Bor Row)). first ++ flat_map f (rows_seen rs)) (take_all i rows l) ∙ ap (λ (rs : List Row). first ++ flat_map f rs) e

-- no accumulator is left
pub none_said : (tests : List Atom) (w : World) (ms : List Member) (ends : List Value) (b : Bool) → length ms ≡ 0 → b ≡ (length ends == 0) → b ≡ same_values ends (all_said tests w (members_seen ms))
none_said tests w [] [] b l e = e
none_said tests w [] (v ∷ vs) b l e = let n : (length (v ∷ vs) == 0) ≡ false = grind (arith, nat_tests) in e ∙ n
none_said tests w (m ∷ ms) ends b l e = absurd (omega (arith, l))
