-- What was searched of loops, as code keeps it.
use Rattle.std.proofs.Common.{◌≡◌, ℕ, List, [], ◌∷◌, ◌++◌, Option, Some, None, Result, Ok, IfOk, refl, sym, ap, ◌∙◌, subst, append_assoc, append-nil}
use Rattle.std.proofs.lemmas.Grind.{flat_map-append}
use Rattle.qbs_base.specs.Values.{Schema}
use Rattle.kernel_lang.specs.Plain.{Fragment}
use Rattle.kernel_lang.specs.Whole.{fragment_of}
use Rattle.query_search.specs.Verdicts.{Verdict, Found, NoneOf, Budget, verdict, before}
use Rattle.java_ast.specs.Path.{found_in}
use Rattle.java_ast.specs.Tree.{PlainProgram}
use Rattle.java_loops.specs.Kernel.Kernel.{Broken, broken, setting_at, outside_at}
use Rattle.java_loops.specs.Kernel.Setting.{Setting}
use Rattle.java_loops.specs.Lowering.Lowered.{Lowering}
use Rattle.java_loops.specs.Meant.Lowers.{IsLowered}
use Rattle.java_types.specs.Texts.{read_by}
use Rattle.lowering.specs.declared.lowering.lowered.Lowered.{Lowered}
use Rattle.lowering.specs.Lowers.{lowering_in_code}
use Rattle.verdicts.specs.declared.verdict.LoopVerdict.{LoopVerdict}
use Rattle.rewrite_core.specs.declared.outcome.Outcome.{Outcome}
use Rattle.rewrite_core.specs.Outcome.{try_with, IsOutcomeOf}
use Rattle.rewrite_core.specs.Rewriting.{said_by}
use Rattle.rewrite_core.specs.Searches.{PlainSearch, search_by, searches_of, before_said, and_searched}
use Rattle.rewrite_core.specs.Trying.{Answer, Searched, Tried, answer_unless}

-- ---- Behind what was searched

pub and_nothing : (o : Option (List PlainSearch)) → o ≡ and_searched o []
and_nothing None = refl
and_nothing (Some ss) = ap (λ (xs : List PlainSearch). Some xs) (sym (append-nil ss))

pub and_both : (o : Option (List PlainSearch)) (a b : List PlainSearch) → and_searched (and_searched o a) b ≡ and_searched o (a ++ b)
and_both None a b = refl
and_both (Some ss) a b = ap (λ (xs : List PlainSearch). Some xs) (append_assoc ss a b)

pub searches_joined : (ts us : List Tried) → searches_of (ts ++ us) ≡ searches_of ts ++ searches_of us
searches_joined ts us = flat_map-append (λ (t : Tried). search_by t.answer) ts us

pub and_one : (o : Option (List PlainSearch)) (t : Tried) → and_searched o (search_by t.answer) ≡ and_searched o (searches_of (t ∷ []))
and_one o t = ap (and_searched o) (sym (append-nil (search_by t.answer)))

-- ---- Of one loop

said_before : (f : Fragment) (v : Verdict) → before_said (said_by (Searched f v)) ≡ before v
said_before f (Found h) = refl
said_before f (NoneOf n) = refl
said_before f (Budget b n) = refl

abbrev made : Fragment → ℕ → PlainSearch
made f n = record { fragment = f; before = n }

same_setting : (o : Option Setting) (v w : Setting) → o ≡ Some v → o ≡ Some w → v ≡ w
same_setting o v w e h = cc

module _ (schema : Schema) (size budget : ℕ) (p : PlainProgram) (path : List ℕ) where
  -- what is kept before and after the loop to which the path leads
  abbrev pub Notes : Option (List PlainSearch) → Option (List PlainSearch) → Type 0
  Notes old new = (w : Setting) → setting_at schema (read_by schema) path p ≡ Some w → new ≡ and_searched old (search_by (try_with size budget p path w).answer)

  -- of one that breaks a rule nothing is searched
  pub outside_notes : (b : Broken) → outside_at schema (read_by schema) path p ≡ Some b → (o : Option (List PlainSearch)) → Notes o o
  outside_notes b outside o w there =
      let breaks : broken w ≡ Some b = sym (ap (found_in broken) there) ∙ outside in
      and_nothing o ∙ ap (λ (x : Option Broken). and_searched o (search_by (answer_unless size budget w x))) (sym breaks)

  module _ (D K : Fragment → List ℕ → Type 0) where
    -- there is a loop of which this is the outcome
    abbrev Comes : Outcome → Type 0
    Comes o = (w : Setting) × (setting_at schema (read_by schema) path p ≡ Some w) × IsOutcomeOf D K schema size (try_with size budget p path w) o

    module _ (l : Lowered) (k : IsLowered schema (read_by schema) p path (lowering_in_code l) l.first l.kept) (w : Setting) (there : setting_at schema (read_by schema) path p ≡ Some w) where
      searched_there : answer_unless size budget w (broken w) ≡ Searched (fragment_of l.frag) (verdict (fragment_of l.frag) size budget)
      searched_there =
          subst (λ (z : Setting). answer_unless size budget z (broken z) ≡ Searched (fragment_of l.frag) (verdict (fragment_of l.frag) size budget)) (same_setting (setting_at schema (read_by schema) path p) k.setting w k.there there)
          (ap (answer_unless size budget k.setting) k.unbroken ∙ ap (λ (z : Lowering). Searched z.fragment (verdict z.fragment size budget)) k.lowered)

      search_is : (o : Outcome) → IsOutcomeOf D K schema size (try_with size budget p path w) o
          → search_by (answer_unless size budget w (broken w)) ≡ record { fragment = fragment_of l.frag; before = before_said o.verdict.said } ∷ []
      search_is o h =
          ap search_by searched_there
          ∙ ap (λ (n : ℕ). made (fragment_of l.frag) n ∷ [])
          (sym (said_before (fragment_of l.frag) (verdict (fragment_of l.frag) size budget)) ∙ ap (λ (a : Answer). before_said (said_by a)) (sym searched_there) ∙ ap (λ (v : LoopVerdict). before_said v.said) h.verdict)

    -- the fragment of one that is lowered is kept, with how many candidates come before what is said
    pub search_noted : (l : Lowered) → IsLowered schema (read_by schema) p path (lowering_in_code l) l.first l.kept → (o lent : Outcome) → Comes o → lent ≡ o → (kept : Option (List PlainSearch)) (old new : List PlainSearch) → kept ≡ Some old
        → new ≡ old ++ record { fragment = fragment_of l.frag; before = before_said lent.verdict.said } ∷ []
        → Notes kept (Some new)
    search_noted l k o lent comes is kept old new had noted w there =
        let same : comes.0 ≡ w = same_setting (setting_at schema (read_by schema) path p) comes.0 w comes.1 there in
        let of : IsOutcomeOf D K schema size (try_with size budget p path w) o = subst (λ (z : Setting). IsOutcomeOf D K schema size (try_with size budget p path z) o) same comes.2 in
        let one : made (fragment_of l.frag) (before_said lent.verdict.said) ∷ [] ≡ search_by (answer_unless size budget w (broken w)) =
        ap (λ (x : Outcome). made (fragment_of l.frag) (before_said x.verdict.said) ∷ []) is ∙ sym (search_is l k w there o of) in
        ap (λ (xs : List PlainSearch). Some xs) (noted ∙ ap (λ (xs : List PlainSearch). old ++ xs) one) ∙ ap (λ (x : Option (List PlainSearch)). and_searched x (search_by (answer_unless size budget w (broken w)))) (sym had)

-- what is so of a result is so of what was held of it
pub of_held : {A E : Type 0} (P : A → Type 0) (r : Result A E) (x : A) → r ≡ Ok x → IfOk r P → P x
of_held {A} {E} P r x e h = subst (λ (z : Result A E). IfOk z P) e h
