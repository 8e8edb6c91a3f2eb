-- The statements of a run, one by one, where some accumulators aren't started yet.
use Rattle.std.specs.Prelude.{Bool, not, ◌&&◌, List, Option}
use Rattle.std.specs.List.{filter, list_any}
use Rattle.std.proofs.Common.{◌≡◌, sym, ap, ◌∙◌}
use Rattle.qbs_base.specs.declared.span.Span.{Span}
use Rattle.java_ast.specs.Tree.{Statement, Statements, Then}
use Rattle.loop_text.specs.Kernel.KernelStarts.{starts, broken_starts_of}
use Rattle.java_ast.specs.Names.{Names}
use Rattle.loop_text.specs.Statements.Setting.{touches}
use Rattle.loop_text.specs.Sites.Sites.{Site, place_of, place_where, first_place}

-- a statement mentions one of these accumulators and doesn't start it
abbrev pub spoils : List Site → Statement → Statements → Names → Bool
spoils sites s behind xs = list_any (λ x. touches x s && not (starts sites s behind x)) xs

abbrev pub untouched : Statement → Names → Names
untouched s xs = filter (λ x. not (touches x s)) xs

pub start_taken : (sites : List Site) (at : Span) (xs : Names) (run behind : Statements) (s : Statement) (b : Bool) (whole : Option Span) → run ≡ Then s behind → spoils sites s behind xs ≡ b → broken_starts_of sites at xs run ≡ whole → first_place (place_where b (place_of s)) (broken_starts_of sites at (untouched s xs) behind) ≡ whole
start_taken sites at xs run behind s b whole is h all_of =
    sym (ap (λ (c : Bool). first_place (place_where c (place_of s)) (broken_starts_of sites at (untouched s xs) behind)) h)
    ∙ sym (ap (broken_starts_of sites at xs) is)
    ∙ all_of
