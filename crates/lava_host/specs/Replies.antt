-- What the host replies.
use Rattle.std.specs.Prelude.{◌≡◌, ℕ, ◌⊎◌, List, codes, IsUtf8}
use Rattle.lava_base.specs.declared.ids.MadeSymbol.{MadeSymbol}
use Rattle.lava_base.specs.declared.ids.Ref.{Ref}
use Rattle.js_text.specs.declared.value.Value.TheVariants as value
use Rattle.js_text.specs.Utf8.{units_of}
use Rattle.js_desc.specs.declared.reply.Reply as desc
use Rattle.js_desc.specs.declared.reply.Reply.TheVariants as reply
use Rattle.lava_streams.specs.declared.folder.FileRead.{FileRead}
use Rattle.lava_streams.specs.declared.folder.FileRead.TheVariants as file
use Rattle.lava_streams.specs.declared.source.Line.{Line}
use Rattle.lava_streams.specs.declared.source.Line.TheVariants as line

abbrev pub HostReply : Type 0
HostReply = desc.Reply Ref MadeSymbol

-- a throw of this text, which becomes the message of a new Error of the host
abbrev pub throws : List ℕ → HostReply
throws message = reply.Throw (value.Text message)

abbrev pub gives_nothing : HostReply
gives_nothing = reply.Value value.Undefined

abbrev pub gives_text : List ℕ → HostReply
gives_text units = reply.Value (value.Text units)

-- the text of these bytes, and a throw where they are not UTF-8
abbrev pub IsTextReply : List ℕ → HostReply → Type 0
IsTextReply bytes r =
    (IsUtf8 bytes × (r ≡ gives_text (units_of bytes))) ⊎ ((¬ IsUtf8 bytes) × (r ≡ throws (codes "not UTF-8")))

-- own: what `input.line` gives
abbrev pub IsLineReply : Line → HostReply → Type 0
IsLineReply line.End r = r ≡ reply.Value value.Null
IsLineReply line.TooLong r = r ≡ throws (codes "line too long")
IsLineReply (line.Bytes bytes) r = IsTextReply bytes r

-- own: what `fs.readFileSync` gives
abbrev pub IsFileReply : FileRead → HostReply → Type 0
IsFileReply file.Absent r = r ≡ throws (codes "no such file")
IsFileReply file.Longer r = r ≡ throws (codes "file too long")
IsFileReply (file.Bytes bytes) r = IsTextReply bytes r
