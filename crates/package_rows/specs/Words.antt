-- What the sources of rows mean. A text is the list of its bytes; a space is 32, and `!` is 33.
use Rattle.std.specs.Prelude.{ℕ, ◌==◌, ◌&&◌, not, Bool, List, length, slice_index, nat_lt, if◌then◌else◌}
use Rattle.std.specs.List.{slice_split, before_first, after_first, position_or_len}
use Rattle.std.specs.Str.{is_utf8}
use Rattle.js_fault.specs.declared.fault.SyntaxWhat.{SyntaxWhat}
use Rattle.js_fault.specs.declared.fault.SyntaxWhat.TheVariants.{NotUtf8, Unexpected}
use Rattle.pkg_load.specs.declared.reader.ModuleRead.{ModuleRead}
use Rattle.pkg_load.specs.declared.reader.ModuleRead.TheVariants.{Module, Refused}

abbrev pub is_space : ℕ → Bool
is_space b = b == 32

abbrev pub has_space : List ℕ → Bool
has_space text = nat_lt (position_or_len is_space text) (length text)

abbrev pub first_word : List ℕ → List ℕ
first_word text = before_first is_space text

abbrev pub other_words : List ℕ → List ℕ
other_words text = after_first is_space text

abbrev pub is_bad : List ℕ → Bool
is_bad text = not (length text == 0) && slice_index text 0 == 33

abbrev pub refused_as : SyntaxWhat → ModuleRead ℕ
refused_as what = Refused (record { line = 1; unit = 1 }) what

-- The words of a source are its requests, and what is made of it is its length. One that begins with `!` is refused.
-- own: the sources of rows
abbrev pub text_read : List ℕ → ModuleRead ℕ
text_read text = if is_bad text then refused_as Unexpected else Module (slice_split is_space text) (length text)

abbrev pub bytes_read : List ℕ → ModuleRead ℕ
bytes_read bytes = if is_utf8 bytes then text_read bytes else refused_as NotUtf8
