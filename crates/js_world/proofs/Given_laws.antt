-- What a reply leaves behind.
use Rattle.std.proofs.Common.{◌≡◌, ℕ, List, ◌∙◌, subst}
use Rattle.lava_base.specs.declared.ids.MadeSymbol.{MadeSymbol}
use Rattle.lava_base.specs.declared.ids.Ref.{Ref}
use Rattle.js_text.specs.declared.value.Value.{Value}
use Rattle.js_desc.specs.declared.reply.Reply.{Reply}
use Rattle.js_crossing.specs.js_machine.Views.{View}
use Rattle.js_crossing.specs.js_machine.declared.asked.Answer.{Answer}
use Rattle.js_world.specs.Crossings.{HasGiven}
use Rattle.js_crossing.specs.Shows.{shows_reply}
use Rattle.js_world.specs.Worlds.{WorldView, charged}

pub given : (r : Reply Ref MadeSymbol) (n : ℕ) (vs : List (Value Ref MadeSymbol)) (a : Answer) (p : ℕ) (m : View) (x v now : WorldView) → x ≡ charged p n (record v { machine = m }) → p ≡ v.machine.me
    → m ≡ shows_reply r (record v.machine { values = vs; answer = a }) → v ≡ now → HasGiven r n now x
given r n vs a p m x v now e f g h = subst (λ u. HasGiven r n u x) h (record { values = vs; answer = a; given = e ∙ (λ j. charged (f j) n (record v { machine = g j })) })
