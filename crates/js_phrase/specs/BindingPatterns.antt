-- Patterns that bind names.
use Rattle.std.specs.Prelude.{List, [], ◌∷◌, ◌++◌, Option, Some, None}
use Rattle.lava_base.specs.declared.place.Place.{Place}
use Rattle.js_tree.specs.declared.tree.Pattern.{Pattern}
use Rattle.js_tree.specs.declared.tree.Pattern.TheVariants as pattern
use Rattle.js_tree.specs.declared.tree.PatternElement.{PatternElement}
use Rattle.js_phrase.specs.declared.phrase.Phrase.{Phrase}
use Rattle.js_phrase.specs.declared.phrase.Phrase.TheVariants as phrase
use Rattle.js_phrase.specs.Lasts.{front_of, last_of}
use Rattle.js_phrase.specs.Lists.{flat, folded, fields_of, with_rest, rest_in}
use Rattle.js_phrase.specs.Phrases.{next_of}
use Rattle.js_phrase.specs.Queues.{rest_of}

-- ECMA-262 ObjectBindingPattern
abbrev pub object_pattern : Place → List Phrase → Pattern
object_pattern place l = pattern.ObjectPattern place (fields_of l) (rest_in l)

-- what stands behind a comma of an array pattern
abbrev pub later_slot : Phrase → List (Option PatternElement)
later_slot (phrase.Element x) = Some x ∷ []
later_slot phrase.Hole = None ∷ []
later_slot _ = []

-- what stands before the first comma; nothing is a hole too
abbrev pub first_slot : Phrase → List (Option PatternElement)
first_slot phrase.Absent = None ∷ []
first_slot p = later_slot p

abbrev pub slots_of : List Phrase → List (Option PatternElement)
slots_of l = first_slot (next_of l) ++ flat later_slot (rest_of l)

abbrev pub slots_with : List (Option PatternElement) → Option (Option PatternElement) → List (Option PatternElement)
slots_with l None = l
slots_with l (Some None) = l
slots_with l (Some (Some x)) = l ++ Some x ∷ []

-- behind the last comma nothing need stand
abbrev pub trimmed : List (Option PatternElement) → List (Option PatternElement)
trimmed l = slots_with (front_of l) (last_of l)

abbrev pub array_pattern_with : Place → List (Option PatternElement) → Option Pattern → Pattern
array_pattern_with place l None = pattern.ArrayPattern place (trimmed l) None
array_pattern_with place l (Some p) = pattern.ArrayPattern place l (Some p)

-- ECMA-262 ArrayBindingPattern
abbrev pub array_pattern : Place → List Phrase → Pattern
array_pattern place l = array_pattern_with place (slots_of l) (folded with_rest (with_rest None (next_of l)) (rest_of l))
