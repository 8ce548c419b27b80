-- A trace, as a table: the application's own package calls what a package gives it with a function, and the package calls this function.
use Rattle.std.specs.Prelude.{ℕ, pos, true, false, List, [], ◌∷◌, codes, Some, None}
use Rattle.lava_base.specs.declared.ids.MadeSymbol.{MadeSymbol}
use Rattle.lava_base.specs.declared.ids.Ref.{Ref}
use Rattle.lava_base.specs.declared.ids.Ref.TheVariants.{Own}
use Rattle.lava_base.specs.declared.marks.Class.TheVariants.{Function, Object}
use Rattle.lava_base.specs.declared.marks.Marks.{Marks}
use Rattle.js_text.specs.declared.value.Value.TheVariants as value
use Rattle.js_desc.specs.declared.ask.Ask.TheVariants as ask
use Rattle.js_desc.specs.declared.crossing.CrossBody.{CrossBody}
use Rattle.js_desc.specs.declared.crossing.CrossBody.TheVariants as body
use Rattle.js_desc.specs.declared.ending.Ending.TheVariants as ending
use Rattle.js_desc.specs.declared.reply.Reply.TheVariants as reply
use Rattle.lava_trace.specs.declared.line.Trace.{Trace}
use Rattle.lava_trace.specs.declared.line.TraceLine.{TraceLine}

abbrev pub own : ℕ → ℕ → Ref
own p k = Own (record { 0 = p }) (record { 0 = k })

abbrev pub row : ℕ → ℕ → CrossBody Ref MadeSymbol → List (Ref × Marks) → TraceLine
row from to what marks = record { crossing = record { from = record { 0 = from }; to = record { 0 = to }; body = what }; marks = marks }

abbrev pub arrow : Ref → List (Ref × Marks)
arrow r = (r, record { class = Function; callable = true; constructor = false }) ∷ []

-- the package is party a, and the function is the k-th that left the application's own package
abbrev pub calls_back : (a k : ℕ) → Trace
calls_back a k = record {
  parties = codes "$host$" ∷ codes "$root$" ∷ codes "a" ∷ [];
  lines =
      row 0 1 (body.Ask None (ask.Import (codes "$root$") [])) []
      ∷ row 1 a (body.Ask None (ask.Import (codes "a") [])) []
      ∷ row a 1 (body.Answer (reply.Value (value.Ref (own a 0)))) (arrow (own a 0))
      ∷ row 1 a (body.Ask (Some (own a 0)) (ask.Call value.Undefined (value.Ref (own 1 k) ∷ []))) (arrow (own 1 k))
      ∷ row a 1 (body.Ask (Some (own 1 k)) (ask.Call value.Undefined (value.Int (pos 2) ∷ []))) []
      ∷ row 1 a (body.Answer (reply.Value (value.Int (pos 20)))) []
      ∷ row a 1 (body.Answer (reply.Value (value.Int (pos 21)))) []
      ∷ row 1 0 (body.Ask (Some (own 0 1)) (ask.Call (value.Ref (own 0 0)) (value.Int (pos 21) ∷ []))) []
      ∷ row 0 1 (body.Answer (reply.Value value.Undefined)) []
      ∷ row 1 0 (body.Answer (reply.Value (value.Ref (own 1 5)))) ((own 1 5, record { class = Object; callable = false; constructor = false }) ∷ [])
      ∷ [];
  steps = 0 ∷ 30 ∷ 16 ∷ [];
  ending = ending.Done;
}
