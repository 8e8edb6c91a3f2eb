-- Paths that are joined, one more at a time.
use Rattle.std.proofs.Common.{◌≡◌, ℕ, ◌+◌, ◌<◌, List, ◌++◌, map, drop, length, get_or, sym, ap, ◌∙◌, append_assoc}
use Rattle.std.proofs.lemmas.List.{at_drop_more}
use Rattle.kernel_lang.specs.Paths.{Path, each_with}

pub each-step : (ps qs : List Path) (i : ℕ) (p : Path) (all new : List Path) → i < length ps → p ≡ get_or ps i p → all ++ each_with (drop i ps) qs ≡ each_with ps qs → new ≡ all ++ map (λ q. p ++ q) qs → new ++ each_with (drop (i + 1) ps) qs ≡ each_with ps qs
each-step ps qs i p all new h e k en =
    ap (λ n. n ++ each_with (drop (i + 1) ps) qs) en
    ∙ append_assoc all (map (λ q. p ++ q) qs) (each_with (drop (i + 1) ps) qs)
    ∙ ap (λ (x : Path). all ++ (map (λ q. x ++ q) qs ++ each_with (drop (i + 1) ps) qs)) e
    ∙ sym (ap (λ n. all ++ n) (at_drop_more (λ ds. each_with ds qs) ps i p h))
    ∙ k
