-- Whether the objects that values name are there: each object of the party's own and of the common part that has come to it is.
use Rattle.std.specs.Prelude.{Bool, true, ◌&&◌, nat_lt, List, [], ◌∷◌, length}
use Rattle.js_text.specs.Naming.{Naming, Origin, Own, Common, Foreign}
use Rattle.js_text.specs.declared.value.Value.{Value}
use Rattle.js_text.specs.declared.value.Value.TheVariants as value
use Rattle.js_desc.specs.declared.reply.Reply.{Reply}
use Rattle.js_desc.specs.declared.reply.Reply.TheVariants as reply
use Rattle.js_store.specs.Frozen.{CommonObject}
use Rattle.js_store.specs.Objects.{Object}

-- there is such an object; what others have is not looked into
abbrev pub is_there : {R S : Type 0} → List (Object R S) → List CommonObject → Origin → Bool
is_there objects common (Own i) = nat_lt i (length objects)
is_there objects common (Common c) = nat_lt c (length common)
is_there objects common Foreign = true

abbrev pub value_is_there : {R S : Type 0} → Naming R S → List (Object R S) → List CommonObject → Value R S → Bool
value_is_there names objects common (value.Ref r) = is_there objects common (names.origin r)
value_is_there names objects common _ = true

abbrev pub all_are_there : {R S : Type 0} → Naming R S → List (Object R S) → List CommonObject → List (Value R S) → Bool
all_are_there names objects common [] = true
all_are_there names objects common (v ∷ vs) = value_is_there names objects common v && all_are_there names objects common vs

-- what has come is there
abbrev pub reply_is_there : {R S : Type 0} → Naming R S → List (Object R S) → List CommonObject → Reply R S → Bool
reply_is_there names objects common (reply.Value v) = value_is_there names objects common v
reply_is_there names objects common _ = true
