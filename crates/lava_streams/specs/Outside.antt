-- The outside as it stands, before a call or after it.
use Rattle.std.specs.Prelude.{◌≡◌, ℕ, List, ◌++◌, Option, Some}
use Rattle.lava_streams.specs.Counts.{Rises, ForTold}
use Rattle.lava_streams.specs.Files.{Files}
use Rattle.lava_streams.specs.Pieces.{AppendsPrefix}

-- An object of the outside: the faults that it has counted, and its content, where it tells it.
pub record Stand (X : Type 0) : Type 0 where
  pub count : ℕ
  pub told : Option X

-- What a command changes: its folder, its output and its errors. A folder's content is its files by path; a sink's is the bytes that were appended.
pub record Outside : Type 0 where
  pub folder : Stand Files
  pub output : Stand (List ℕ)
  pub errors : Stand (List ℕ)

-- The outside that these objects make.
abbrev pub outside : Stand Files → (output errors : Stand (List ℕ)) → Outside
outside folder output errors = record { folder = folder; output = output; errors = errors }

-- No call on the object failed.
abbrev pub IsFaultless : {X : Type 0} → (before after : Stand X) → Type 0
IsFaultless before after = after.count ≡ before.count

-- A call on the object failed.
abbrev pub HasFault : {X : Type 0} → (before after : Stand X) → Type 0
HasFault before after = Rises before.count after.count

-- No call on the sink failed, and the text was appended.
abbrev pub Grows : (before after : Stand (List ℕ)) → List ℕ → Type 0
Grows before after text =
    IsFaultless before after × ForTold before.told (λ held. after.told ≡ Some (held ++ text))

-- No call on the sink failed, and a prefix of the text was appended.
abbrev pub GrowsPartly : (before after : Stand (List ℕ)) → List ℕ → Type 0
GrowsPartly before after text =
    IsFaultless before after × ForTold before.told (λ held. AppendsPrefix held text after.told)

-- A call on the sink failed, and a prefix of the text was appended.
abbrev pub Fails : (before after : Stand (List ℕ)) → List ℕ → Type 0
Fails before after text =
    HasFault before after × ForTold before.told (λ held. AppendsPrefix held text after.told)
