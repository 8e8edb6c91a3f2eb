-- The loop of a worked program, unnested, computed.
use Rattle.std.proofs.Common.{◌≡◌, true, [], ◌∷◌, refl, subst, is_some}
use Rattle.std.specs.Fmt.{digits}
use Rattle.std.specs.List.{list_all}
use Rattle.tor_prover.specs.Derive.{derivation_of}
use Rattle.tor_prover.specs.Normal.{normal_form}
use Rattle.templates.specs.Numbered.{increasing, candidates}
use Rattle.query_search.specs.Verdicts.{all_derived, first_hit, verdict}
use Rattle.sql_ast.specs.Lexer.{tokens_in}
use Rattle.sql_ast.specs.Reader.{listed_at, atom_at, negation_in, joined_from, conjunction_at, condition_at}
use Rattle.sql_ast.specs.Worked.{staff_schema}
use Rattle.sql_parts.specs.Given.{IsHeld}
use Rattle.vc_gen.specs.Conditions.{conditions}
use Rattle.java_ast.specs.Tree.{NewList, PlainProgram}
use Rattle.java_mean.specs.Keeps.{Keeps}
use Rattle.java_mean.specs.Numbers.{NumbersFit}
use Rattle.java_mean.specs.WellTyped.{IsWellTyped}
use Rattle.java_mean.specs.Worked.{somewhere, declare, give, method, out}
use Rattle.java_types.specs.Texts.{read_by}
use Rattle.java_loops.specs.Kernel.Kernel.{lowering}
use Rattle.lowering.specs.Asked.{IsKernelLoop}
use Rattle.spreads.specs.Worked.{spread_out}
use Rattle.rewrite_core.specs.Asked.{Place}
use Rattle.rewrite_core.specs.Asking.{MayBeAsked}
use Rattle.rewrite_core.specs.TriedAsking.{AllMayBeAsked}
use Rattle.rewrite_core.specs.Unnesting.{unnesting, all_unnested, unnested}
use Rattle.rewrite_core.specs.Worked.{loop_at, giving}
use Rattle.rewrite_core.specs.WorkedUnnesting.{labels, asking_each, asking_once, WorkedUnnesting}
use Rattle.rewrite_core.proofs.Computed.{derived_may}
use Rattle.rewrite_core.proofs.UnnestTries.{unnesting_keeps}

-- ---- The program with the spread

abbrev walking_all : PlainProgram
walking_all = giving labels (method (declare labels out (NewList somewhere) ∷ spread_out ∷ give out ∷ []))

abbrev joining : Place
joining = loop_at walking_all (0 ∷ 1 ∷ []) (0 ∷ [])

spread_loop : IsKernelLoop staff_schema (read_by staff_schema) walking_all (0 ∷ 1 ∷ []) joining.setting
spread_loop = record { typed = refl; numbers = refl; there = refl; unbroken = refl }

spread_derived : list_all (λ c. is_some (derivation_of c)) (conditions (lowering joining.setting).fragment (0 ∷ [])) ≡ true
unfolding derivation_of normal_form
spread_derived = refl

spread_held : IsHeld (lowering joining.setting).fragment
spread_held = record { atoms_held = ((tt, tt), tt); starts_held = (tt, tt) }

spread_may : MayBeAsked staff_schema (read_by staff_schema) walking_all (0 ∷ 1 ∷ []) joining.setting (0 ∷ [])
spread_may = derived_may joining spread_loop tt tt spread_held spread_derived

-- ---- The program

well : IsWellTyped staff_schema (read_by staff_schema) asking_each
unfolding tokens_in listed_at atom_at negation_in joined_from conjunction_at condition_at
well = refl

numbers : NumbersFit asking_each
numbers = refl

all_may : AllMayBeAsked staff_schema (all_unnested staff_schema 2 10 asking_each)
unfolding unnesting all_unnested verdict first_hit all_derived increasing candidates derivation_of normal_form tokens_in listed_at atom_at negation_in joined_from conjunction_at condition_at
all_may = (spread_may, tt)

becomes_once : unnested staff_schema 2 10 asking_each ≡ asking_once
unfolding digits unnesting all_unnested verdict first_hit all_derived increasing candidates derivation_of normal_form tokens_in listed_at atom_at negation_in joined_from conjunction_at condition_at
becomes_once = refl

pub worked_unnesting : WorkedUnnesting
worked_unnesting =
    record { may = all_may; becomes = becomes_once; keeps = subst (λ z. Keeps asking_each z staff_schema) becomes_once (unnesting_keeps staff_schema 2 10 asking_each well numbers all_may) }
