-- What writing a line does.
use Rattle.std.specs.Prelude.{◌≡◌, ℕ, List, ◌⊎◌}
use Rattle.lava_streams.specs.Outside.{Stand, Grows, Fails}
use Rattle.lava_lines.specs.declared.status.TheConstants as texts

-- a line is written, and the status is this one; where writing it fails it is that of a fault of the outside
abbrev pub Puts : (line : List ℕ) → (own : ℕ) → (before after : Stand (List ℕ)) → (status : ℕ) → Type 0
Puts line own before after status =
    ((status ≡ own) × Grows before after line) ⊎ ((status ≡ texts.OUTSIDE_STATUS) × Fails before after line)

-- there was no memory, which is told
abbrev pub Lacks : (before after : Stand (List ℕ)) → (status : ℕ) → Type 0
Lacks before after status = Puts texts.MEMORY_LINE.now texts.MEMORY_STATUS before after status

-- this line is written, or there was no memory for it
abbrev pub PutsLine : (line : List ℕ) → (own : ℕ) → (before after : Stand (List ℕ)) → (status : ℕ) → Type 0
PutsLine line own before after status = Puts line own before after status ⊎ Lacks before after status
