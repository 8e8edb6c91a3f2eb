-- What an entry of a bundle shows of a loop, and what comes of it.
use Rattle.std.proofs.Common.{◌≡◌, ℕ, suc, ◌+◌, ◌<◌, drop, length, get_or, Bool, true, false, List, [], ◌∷◌, Option, Some, None, ◌≤◌, refl, sym, ap, ap₂, ◌∙◌, subst, arith}
use Rattle.std.specs.Prelude.{slice_get, if◌then◌else◌}
use Rattle.std.proofs.lemmas.Bool.{and_parts}
use Rattle.std.proofs.lemmas.List.{at_drop_more}
use Rattle.qbs_base.specs.Values.{Schema}
use Rattle.tor_axioms.specs.Accepts.{Claim, Proof, accepts}
use Rattle.deriv_accept.specs.Accepted.{are_accepted}
use Rattle.deriv_check.specs.Bundles.{Entry}
use Rattle.kernel_lang.specs.Plain.{Fragment}
use Rattle.kernel_lang.specs.Validity.{broken as breach}
use Rattle.kernel_lang.specs.Whole.{fragment_of}
use Rattle.templates.specs.Numbered.{candidates_of}
use Rattle.vc_gen.specs.Conditions.{conditions}
use Rattle.vc_gen.specs.Soundness.{AllAccepted, EndsAnywhere}
use Rattle.java_ast.specs.Path.{last_of, replaced_at, statement_at}
use Rattle.java_ast.specs.Reading.{statements}
use Rattle.java_ast.specs.Tree.{PlainProgram}
use Rattle.java_loops.specs.Kernel.Kernel.{Broken, setting_at, outside_at}
use Rattle.java_loops.specs.Lowering.Lowered.{Lowering}
use Rattle.java_loops.specs.Meant.Lowers.{IsLowered}
use Rattle.loop_text.specs.Statements.Loops.{loops_of}
use Rattle.loop_text.specs.Statements.Walking.{IsLoopOf}
use Rattle.java_loops.proofs.Placing.PathsLead.{listed_is_loop}
use Rattle.java_mean.specs.Keeps.{Keeps}
use Rattle.java_mean.specs.Numbers.{NumbersFit}
use Rattle.java_mean.specs.WellTyped.{IsWellTyped}
use Rattle.java_mean.proofs.Kept.{keeps_itself, keeps_through}
use Rattle.java_types.proofs.Found.{found_exactly}
use Rattle.java_types.specs.Texts.{read_by}
use Rattle.lowering.specs.declared.lowering.lowered.Lowered.{Lowered}
use Rattle.lowering.specs.Lowers.{lowering_in_code}
use Rattle.loop_lists.specs.Places.{is_at, path_to}
use Rattle.rewrite_core.specs.declared.checking.Shown.{Shown}
use Rattle.rewrite_core.specs.Asked.{Place, replaced}
use Rattle.rewrite_core.specs.Asking.{HasAsks}
use Rattle.rewrite_core.specs.Checked.{IsShown, GivesWayAs, FollowsOn}
use Rattle.rewrite_core.specs.Checking.{All, Refused, accepted_for, candidate_for, shown_with, shown_unless, shown_there, shown_at, shown, or_refused, checked_from}
use Rattle.rewrite_core.proofs.GivenUp.{first_before, may_there}
use Rattle.rewrite_core.proofs.LoopOutcomes.{outside_there}
use Rattle.rewrite_core.proofs.May.{accepted_ends}
use Rattle.rewrite_core.proofs.Standings.{stands_typed, stands_kept}
use Rattle.rewrite_core.proofs.StaysTyped.{replaced_numbers_fit}

-- ---- Accepted derivations

pub all_accepted : (cs : List Claim) (ds : List Proof) → are_accepted cs ds ≡ true → AllAccepted cs ds
all_accepted [] [] e = tt
all_accepted [] (d ∷ ds) e = absurd cc
all_accepted (c ∷ cs) [] e = absurd cc
all_accepted (c ∷ cs) (d ∷ ds) e = let both = and_parts (accepts c d) (are_accepted cs ds) e in (both.0, all_accepted cs ds both.1)

passes : (b : Bool) (d c : List ℕ) → (if b then Some d else None) ≡ Some c → (b ≡ true) × (d ≡ c)
passes true d c e = (refl, cc)
passes false d c e = absurd cc

accepted_one : (f : Fragment) (ds : List Proof) (o : Option (List ℕ)) (c : List ℕ) → accepted_for f ds o ≡ Some c → AllAccepted (conditions f c) ds
accepted_one f ds None c e = absurd cc
accepted_one f ds (Some d) c e =
    let h = passes (are_accepted (conditions f d) ds) d c e in
    subst (λ (x : List ℕ). AllAccepted (conditions f x) ds) h.1 (all_accepted (conditions f d) ds h.0)

-- where a candidate is shown, its postconditions say what the fragment ends with
pub shown_ends : (f : Fragment) (k : ℕ) (ds : List Proof) (c : List ℕ) → breach f ≡ None → Some c ≡ candidate_for f k ds → EndsAnywhere f c
shown_ends f k ds c valid e = accepted_ends f c ds valid (accepted_one f ds (slice_get (candidates_of f 8) k) c (sym e))

-- ---- Loops

module _ (schema : Schema) (p : PlainProgram) (path : List ℕ) (k : ℕ) (ds : List Proof) where
  -- of a loop of the kernel form
  module _ (l : Lowered) (low : IsLowered schema (read_by schema) p path (lowering_in_code l) l.first l.kept) (o : Option (List ℕ)) (e : o ≡ candidate_for (fragment_of l.frag) k ds) where
    shown_is : shown_at schema p k ds (Some path) ≡ shown_with p path low.setting o
    shown_is =
        ap (shown_there p path k ds) low.there
        ∙ ap (shown_unless p path low.setting k ds) low.unbroken
        ∙ ap (λ (z : Lowering). shown_with p path low.setting (candidate_for z.fragment k ds)) low.lowered
        ∙ ap (shown_with p path low.setting) (sym e)

  pub none_shown : (l : Lowered) (low : IsLowered schema (read_by schema) p path (lowering_in_code l) l.first l.kept) → None ≡ candidate_for (fragment_of l.frag) k ds → IsShown schema p (shown_at schema p k ds (Some path)) None
  none_shown l low e = shown_is l low None e

  pub one_shown : (l : Lowered) (low : IsLowered schema (read_by schema) p path (lowering_in_code l) l.first l.kept) (typed : IsWellTyped schema (read_by schema) p) (numbers : NumbersFit p) (c : List ℕ) (way : Shown)
      → Some c ≡ candidate_for (fragment_of l.frag) k ds
      → breach (fragment_of l.frag) ≡ None
      → way.path ≡ path
      → way.first ≡ l.first
      → replaced_at path l.first (statements way.others.items) p ≡ replaced (record { program = p; path = path; setting = low.setting; candidate = c })
      → HasAsks schema (read_by schema) p path low.setting c
      → IsShown schema p (shown_at schema p k ds (Some path)) (Some way)
  one_shown l low typed numbers c way e valid path_is first_is becomes has = (
    record { program = p; path = path; setting = low.setting; candidate = c },
    shown_is l low (Some c) e,
    record {
      program = refl;
      becomes = ap₂ (λ (x : List ℕ) (n : ℕ). replaced_at x n (statements way.others.items) p) path_is first_is ∙ becomes;
      begins = subst (λ (x : List ℕ). way.first ≤ last_of x) (sym path_is) (subst (λ (n : ℕ). n ≤ last_of path) (sym first_is) (first_before schema (read_by schema) p path l typed numbers low));
      may = may_there schema (read_by schema) p path l typed numbers low c low.setting low.there has (shown_ends (fragment_of l.frag) k ds c valid e);
    },
  )

  -- of a loop that breaks a rule
  pub outside_shown : (b : Broken) → outside_at schema (read_by schema) path p ≡ Some b → IsShown schema p (shown_at schema p k ds (Some path)) None
  outside_shown b h =
      let o = outside_there (setting_at schema (read_by schema) path p) b h in
      ap (shown_there p path k ds) o.1 ∙ ap (shown_unless p path o.0 k ds) o.2

-- ---- Paths

abbrev Listed : List (List ℕ) → List ℕ → Type 0
Listed paths path = (n : ℕ) × (slice_get paths n ≡ Some path)

listed_by : (first : List ℕ) (paths : List (List ℕ)) (path : List ℕ) (o : Option (List ℕ)) (b : Bool) → (Some path ≡ o → Listed paths path) → Some path ≡ (if b then Some first else o) → Listed (first ∷ paths) path
listed_by first paths path o true further e = (0, sym e)
listed_by first paths path o false further e = let h = further e in (suc h.0, h.1)

listed_from : (line column : ℕ) (p : PlainProgram) (paths : List (List ℕ)) (path : List ℕ) → Some path ≡ path_to line column p paths → Listed paths path
listed_from line column p [] path e = absurd cc
listed_from line column p (first ∷ paths) path e = listed_by first paths path (path_to line column p paths) (is_at line column (statement_at first p)) (λ h. listed_from line column p paths path h) e

-- what is found among the loops of a program leads to one
pub found_is_loop : (line column : ℕ) (q p : PlainProgram) (paths : List (List ℕ)) (path : List ℕ) → q ≡ p → paths ≡ loops_of p → Some path ≡ path_to line column q paths → IsLoopOf p path
found_is_loop line column q p paths path same all e =
    let h = listed_from line column q paths path e in
    listed_is_loop p h.0 path (subst (λ (xs : List (List ℕ)). slice_get xs h.0 ≡ Some path) all h.1)

-- ---- Programs

-- what comes in the place of a loop leaves literals of 64 bits
pub shown_fits : (schema : Schema) (p : PlainProgram) (l : Place) (way : Shown) → GivesWayAs schema p l way → NumbersFit (replaced_at way.path way.first (statements way.others.items) p)
shown_fits schema p l way h =
    subst NumbersFit (sym h.becomes) (replaced_numbers_fit schema (record { read = read_by schema; exact = found_exactly schema }) l (record { loop = h.may.loop; known = h.may.known; emitted = h.may.emitted }))

-- the program behind an accepted entry
pub follows_on : (schema : Schema) (e : Entry) (p : PlainProgram) (l : Place) (way : Shown) (q : PlainProgram)
    → shown schema e p ≡ Some l
    → GivesWayAs schema p l way
    → q ≡ replaced_at way.path way.first (statements way.others.items) p
    → FollowsOn schema e p q
follows_on schema e p l way q accepted way_is made =
    let is : q ≡ replaced l = made ∙ way_is.becomes in
    record {
      place = l;
      accepted = accepted;
      becomes = is;
      typed = stands_typed schema l q is (record { loop = way_is.may.loop; known = way_is.may.known; emitted = way_is.may.emitted });
      keeps = subst (λ (x : PlainProgram). Keeps x q schema) way_is.program (stands_kept schema l q is way_is.may);
    }

-- entries behind so many accepted ones make of a program what all make of the first, which it keeps
pub record IsUnder (schema : Schema) (first : PlainProgram) (es : List Entry) (n : ℕ) (p : PlainProgram) (further : List Entry) : Type 0 where
  pub same : checked_from schema n further p ≡ checked_from schema 0 es first
  pub typed : IsWellTyped schema (read_by schema) p
  pub keeps : Keeps first p schema

pub begin_under : (schema : Schema) (first p : PlainProgram) (es : List Entry) → p ≡ first → IsWellTyped schema (read_by schema) first → IsUnder schema first es 0 p es
begin_under schema first p es is typed =
    subst (λ (x : PlainProgram). IsUnder schema first es 0 x es) (sym is) (record { same = refl; typed = typed; keeps = keeps_itself schema first })

-- all entries are accepted
pub goes_on : (schema : Schema) (n : ℕ) (e : Entry) (further : List Entry) (p q : PlainProgram) → FollowsOn schema e p q → checked_from schema n (e ∷ further) p ≡ checked_from schema (suc n) further q
unfolding checked_from
goes_on schema n e further p q f =
    ap (λ (o : Option Place). or_refused n o (λ l. checked_from schema (suc n) further (replaced l))) f.accepted ∙ ap (checked_from schema (suc n) further) (sym f.becomes)

pub go_under : (schema : Schema) (first : PlainProgram) (es : List Entry) (n : ℕ) (p q : PlainProgram) (e : Entry) (further : List Entry) → IsUnder schema first es n p (e ∷ further) → FollowsOn schema e p q
    → IsUnder schema first es (n + 1) q further
go_under schema first es n p q e further h f =
    let next : suc n ≡ n + 1 = omega arith in
    subst (λ (m : ℕ). IsUnder schema first es m q further) next
    (record { same = sym (goes_on schema n e further p q f) ∙ h.same; typed = f.typed; keeps = keeps_through schema first p q h.keeps f.keeps })

-- one isn't
refuses : (schema : Schema) (n : ℕ) (e : Entry) (further : List Entry) (p : PlainProgram) → shown schema e p ≡ None → checked_from schema n (e ∷ further) p ≡ Refused (suc n)
unfolding checked_from
refuses schema n e further p none = ap (λ (o : Option Place). or_refused n o (λ l. checked_from schema (suc n) further (replaced l))) none

pub refuse_under : (schema : Schema) (first : PlainProgram) (es : List Entry) (n : ℕ) (p : PlainProgram) (e : Entry) (further : List Entry) → IsUnder schema first es n p (e ∷ further) → shown schema e p ≡ None
    → Refused (n + 1) ≡ checked_from schema 0 es first
refuse_under schema first es n p e further h none =
    let next : n + 1 ≡ suc n = omega arith in
    ap Refused next ∙ sym (refuses schema n e further p none) ∙ h.same

-- none is left
pub end_under : (schema : Schema) (first : PlainProgram) (es : List Entry) (n : ℕ) (p : PlainProgram) → IsUnder schema first es n p [] → All n p ≡ checked_from schema 0 es first
unfolding checked_from
end_under schema first es n p h = h.same

-- the item with a number, and those behind it, in a list that is this one
pub drop_item : {X : Type 0} (ys xs : List X) (i : ℕ) (x : X) → ys ≡ xs → i < length ys → x ≡ get_or ys i x → drop i xs ≡ x ∷ drop (i + 1) xs
drop_item {X} ys xs i x same less is =
    subst (λ (zs : List X). drop i zs ≡ x ∷ drop (i + 1) zs) same (at_drop_more (λ (zs : List X). zs) ys i x less ∙ ap (λ (y : X). y ∷ drop (i + 1) ys) (sym is))
