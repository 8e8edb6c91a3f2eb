-- The store that the loop over users of role 2 leaves.
use Rattle.std.specs.Prelude.{◌≡◌, [], ◌∷◌, codes, true}
use Rattle.small_dbs.specs.Worked.{second_item}
use Rattle.proof_store.specs.Limits.{is_within}
use Rattle.proof_store.specs.Texts.{store_text}

pub record Worked : Type 0 where
  pub text : store_text (second_item ∷ []) ≡ codes "qbs store 1\nbase\ntable 1\nrow 1 \"\" 3 0 true\ntable 1\nrow 0 \"a\"\nentry 0\nknown 0\nend\n"
  pub within : is_within second_item ≡ true
