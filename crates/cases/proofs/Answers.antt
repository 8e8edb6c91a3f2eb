-- What is printed of bytes that are a text, and of others.
use Rattle.std.proofs.Common.{◌≡◌, ℕ, ◌≤◌, Bool, true, false, List, [], ◌++◌, length, refl, sym, ap, ◌∙◌, append_assoc, append-nil}
use Rattle.std.specs.Prelude.{codes}
use Rattle.std.specs.Str.{IsUtf8, is_utf8}
use Rattle.std.proofs.lemmas.Str.{IsUtf8-from_is_utf8, is_utf8-from_IsUtf8}
use borrow.Author.Tests.{le-ltb}
use Rattle.cases.specs.Answers.{marked_text, shown, Extends}

pub shown_text : (mark bytes : List ℕ) → length bytes ≤ 4000 → IsUtf8 bytes → shown mark bytes ≡ marked_text mark bytes
shown_text mark bytes few text = rw (le-ltb 4000 (length bytes) few, is_utf8-from_IsUtf8 bytes text)

not_text : (bytes : List ℕ) → (IsUtf8 bytes → ⊥) → (b : Bool) → is_utf8 bytes ≡ b → b ≡ false
not_text bytes other true e = absurd (other (IsUtf8-from_is_utf8 bytes e))
not_text bytes other false e = refl

pub shown_other : (mark bytes : List ℕ) → length bytes ≤ 4000 → (IsUtf8 bytes → ⊥) → shown mark bytes ≡ codes "no UTF-8\n"
shown_other mark bytes few other = rw (le-ltb 4000 (length bytes) few, not_text bytes other (is_utf8 bytes) refl)

-- ---- texts that go on

pub extends_itself : (a b : List ℕ) → b ≡ a → Extends a b
extends_itself a b e = ([], e ∙ sym (append-nil a))

pub extends_by : (a b c more : List ℕ) → Extends a b → c ≡ b ++ more → Extends a c
extends_by a b c more h e = (h.0 ++ more, e ∙ ap (λ bs. bs ++ more) h.1 ∙ append_assoc a h.0 more)
