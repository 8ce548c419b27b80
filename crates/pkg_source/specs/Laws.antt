-- What follows of the reading of modules.
use Rattle.std.specs.Prelude.{◌≡◌, ℕ, List}
use Rattle.pkg_load.specs.Sources.{plain_read}
use Rattle.pkg_load.specs.declared.reader.ModuleKind.{ModuleKind}
use Rattle.pkg_source.specs.Reading.{Read, IsRead}

-- Bytes are read as one module at most, and what is no module is refused at one place for one reason. Only which of several forms that are left out at one token is told may differ.
abbrev pub One_module : Type 0
One_module =
    (kind : ModuleKind) (bytes : List ℕ) (a b : Read) → IsRead kind bytes a → IsRead kind bytes b → plain_read a ≡ plain_read b
