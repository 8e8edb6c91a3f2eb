-- How a statement begins that asks.
use Rattle.std.specs.Prelude.{◌≡◌, ℕ, zero, suc, Bool, true, false, List, ◌++◌, codes, Option, Some, None, slice_get}
use Rattle.view_items.specs.declared.item.Item.{Item}
use Rattle.view_map.specs.declared.model.ScalarKind.{ScalarKind}
use Rattle.view_map.specs.declared.model.ScalarKind.TheVariants as kinds
use Rattle.view_rules.specs.declared.java_type.JavaType.{JavaType}
use Rattle.view_rules.specs.declared.java_type.JavaType.TheVariants as types
use Rattle.view_rules.specs.Options.{◌>>=◌}
use Rattle.view_spell.specs.declared.asks.Inferred.{Inferred}
use Rattle.view_spell.specs.declared.starts.Start.{Start}
use Rattle.view_spell.specs.declared.starts.StartForm.{StartForm}
use Rattle.view_spell.specs.declared.starts.StartForm.TheVariants as forms
use Rattle.view_spell.specs.Origins.{bytes_in, origin_through}

-- these words were pushed, where there are any
abbrev pub IsPushed : Bool → List ℕ → List ℕ → Option (List ℕ) → Type 0
IsPushed b old new None = b ≡ false
IsPushed b old new (Some words) = (b ≡ true) × (new ≡ old ++ words)

abbrev pub kind_word : ScalarKind → List ℕ
kind_word kinds.Int = codes "int"
kind_word kinds.Long = codes "long"
kind_word kinds.Boolean = codes "boolean"
kind_word kinds.Text = codes "String"

-- the word of a type that stands in place of `var`
abbrev pub word_of : JavaType → Option (List ℕ)
word_of (types.Scalar t) = Some (kind_word t.kind)
word_of java = None

abbrev pub inferred_behind : Option Item → Option Item → Option Item → Option Inferred
inferred_behind (Some first) (Some word) (Some last) =
    Some (record { front = record { from = first.from; to = word.from }; back = record { from = word.to; to = last.to } })
inferred_behind first word last = None

abbrev pub inferred_at : List Item → ℕ → ℕ → Option Inferred
inferred_at items at zero = None
inferred_at items at (suc word) = inferred_behind (slice_get items at) (slice_get items word) (slice_get items (suc word))

abbrev pub inferred_words : List ℕ → List ℕ → Inferred → List ℕ
inferred_words source word at = bytes_in source at.front ++ word ++ bytes_in source at.back

-- With `var` a query of a boxed type would make another type of the variable, so its type is said.
abbrev pub inferred_head : List Item → List ℕ → Start → Option (List ℕ)
inferred_head items source start = word_of start.java >>= (λ word. inferred_at items start.at start.name >>= (λ at. Some (inferred_words source word at)))

abbrev pub typed_head : List Item → List ℕ → Start → Option (List ℕ)
typed_head items source start = origin_through items start.at start.name >>= (λ at. Some (bytes_in source at))

abbrev pub head_in : List Item → List ℕ → Start → StartForm → Option (List ℕ)
head_in items source start forms.Typed = typed_head items source start
head_in items source start forms.Set = typed_head items source start
head_in items source start forms.Inferred = inferred_head items source start
head_in items source start forms.Walked = None

-- what stands before `=`
abbrev pub head_of : List Item → List ℕ → Start → Option (List ℕ)
head_of items source start = head_in items source start start.form
