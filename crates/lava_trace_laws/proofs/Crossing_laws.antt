-- Answers, and whole crossings, are read back.
use Rattle.std.proofs.Common.{ℕ, ◌<◌, ◌^◌, Bool, List, ◌∷◌, ◌++◌, decimal, Option, refl, ap, ◌∙◌}
use Rattle.lava_base.specs.declared.ids.MadeSymbol.{MadeSymbol}
use Rattle.lava_base.specs.declared.ids.PartyId.{PartyId}
use Rattle.lava_base.specs.declared.ids.Ref.{Ref}
use Rattle.js_text.specs.declared.value.Key.{Key}
use Rattle.js_text.specs.declared.value.Value.{Value}
use Rattle.js_text.specs.declared.value.Value.TheVariants as value
use Rattle.js_desc.specs.declared.crossing.CrossBody.{CrossBody}
use Rattle.js_desc.specs.declared.crossing.CrossBody.TheVariants as body
use Rattle.js_desc.specs.declared.crossing.Crossing.{Crossing}
use Rattle.js_desc.specs.declared.descriptor.Descriptor.{Descriptor}
use Rattle.js_desc.specs.declared.reply.Reply.{Reply}
use Rattle.js_desc.specs.declared.reply.Reply.TheVariants as reply
use Rattle.lava_journal.specs.Bodies.{body_pieces}
use Rattle.lava_journal.specs.Lines.{head_pieces}
use Rattle.lava_trace.specs.Asks.{answer_at, body_at, crossing_at}
use Rattle.lava_trace.specs.Left.{Got, party_at, skipped}
use Rattle.lava_trace.specs.declared.answers.AnswerKind.{AnswerKind}
use Rattle.lava_trace.specs.declared.answers.AnswerKind.TheVariants as kind
use Rattle.lava_trace_laws.specs.Sound.{IsOfKind, Sound_body, Sound_crossing, Sound_reply}
use Rattle.lava_trace_laws.specs.Spelled.{Reads, spelled}
use Rattle.lava_trace_laws.proofs.Ask_laws.{ask_reads}
use Rattle.lava_trace_laws.proofs.Field_laws.{property_reads}
use Rattle.lava_trace_laws.proofs.List_laws.{keys_read}
use Rattle.lava_trace_laws.proofs.Name_laws.{number_read, object_reads, party_read}
use Rattle.lava_trace_laws.proofs.Sequence_laws.{Last, reads_last}
use Rattle.lava_trace_laws.proofs.Value_laws.{null_reads, truth_reads, value_reads}

-- an answer of its kind that is no throw
answer_reads : (k : AnswerKind) (r : Reply Ref MadeSymbol) → IsOfKind k r → Sound_reply r → Reads (λ l. body_at k l) (body_pieces (body.Answer r)) (body.Answer r)
unfolding body_at answer_at
answer_reads k (reply.Throw v) i o listed c q h e = ap (λ (g : Got (Value Ref MadeSymbol)). (body.Answer (reply.Throw g.0), g.1)) (value_reads v o listed c q h.1 e)
answer_reads kind.Value (reply.Value v) i o listed c q h e = ap (λ (g : Got (Value Ref MadeSymbol)). (body.Answer (reply.Value g.0), g.1)) (value_reads v o listed c q h.1 e)
answer_reads kind.Value (reply.Proto p) i o listed c q h e = absurd i
answer_reads kind.Value (reply.Flag b) i o listed c q h e = absurd i
answer_reads kind.Value (reply.Desc d) i o listed c q h e = absurd i
answer_reads kind.Value (reply.Keys ks) i o listed c q h e = absurd i
answer_reads kind.Object (reply.Value value.Undefined) i o listed c q h e = absurd i
answer_reads kind.Object (reply.Value value.Null) i o listed c q h e = absurd i
answer_reads kind.Object (reply.Value (value.Bool b)) i o listed c q h e = absurd i
answer_reads kind.Object (reply.Value (value.Int n)) i o listed c q h e = absurd i
answer_reads kind.Object (reply.Value (value.Text t)) i o listed c q h e = absurd i
answer_reads kind.Object (reply.Value (value.Symbol s)) i o listed c q h e = absurd i
answer_reads kind.Object (reply.Value (value.Ref r)) i o listed c q h e = ap (λ (g : Got Ref). (body.Answer (reply.Value (value.Ref g.0)), g.1)) (object_reads r listed c q h.1 e)
answer_reads kind.Object (reply.Proto p) i o listed c q h e = absurd i
answer_reads kind.Object (reply.Flag b) i o listed c q h e = absurd i
answer_reads kind.Object (reply.Desc d) i o listed c q h e = absurd i
answer_reads kind.Object (reply.Keys ks) i o listed c q h e = absurd i
answer_reads kind.Undefined (reply.Value value.Undefined) i o listed c q h e = refl
answer_reads kind.Undefined (reply.Value value.Null) i o listed c q h e = absurd i
answer_reads kind.Undefined (reply.Value (value.Bool b)) i o listed c q h e = absurd i
answer_reads kind.Undefined (reply.Value (value.Int n)) i o listed c q h e = absurd i
answer_reads kind.Undefined (reply.Value (value.Text t)) i o listed c q h e = absurd i
answer_reads kind.Undefined (reply.Value (value.Symbol s)) i o listed c q h e = absurd i
answer_reads kind.Undefined (reply.Value (value.Ref r)) i o listed c q h e = absurd i
answer_reads kind.Undefined (reply.Proto p) i o listed c q h e = absurd i
answer_reads kind.Undefined (reply.Flag b) i o listed c q h e = absurd i
answer_reads kind.Undefined (reply.Desc d) i o listed c q h e = absurd i
answer_reads kind.Undefined (reply.Keys ks) i o listed c q h e = absurd i
answer_reads kind.Prototype (reply.Value v) i o listed c q h e = absurd i
answer_reads kind.Prototype (reply.Proto p) i o listed c q h e = ap (λ (g : Got (Option Ref)). (body.Answer (reply.Proto g.0), g.1)) (null_reads p listed c q h.1 e)
answer_reads kind.Prototype (reply.Flag b) i o listed c q h e = absurd i
answer_reads kind.Prototype (reply.Desc d) i o listed c q h e = absurd i
answer_reads kind.Prototype (reply.Keys ks) i o listed c q h e = absurd i
answer_reads kind.Truth (reply.Value v) i o listed c q h e = absurd i
answer_reads kind.Truth (reply.Proto p) i o listed c q h e = absurd i
answer_reads kind.Truth (reply.Flag b) i o listed c q h e = ap (λ (g : Got Bool). (body.Answer (reply.Flag g.0), g.1)) (truth_reads b listed c q h.1 e)
answer_reads kind.Truth (reply.Desc d) i o listed c q h e = absurd i
answer_reads kind.Truth (reply.Keys ks) i o listed c q h e = absurd i
answer_reads kind.Property (reply.Value v) i o listed c q h e = absurd i
answer_reads kind.Property (reply.Proto p) i o listed c q h e = absurd i
answer_reads kind.Property (reply.Flag b) i o listed c q h e = absurd i
answer_reads kind.Property (reply.Desc d) i o listed c q h e = ap (λ (g : Got (Option (Descriptor Ref MadeSymbol))). (body.Answer (reply.Desc g.0), g.1)) (property_reads d o listed c q h.1 e)
answer_reads kind.Property (reply.Keys ks) i o listed c q h e = absurd i
answer_reads kind.Keys (reply.Value v) i o listed c q h e = absurd i
answer_reads kind.Keys (reply.Proto p) i o listed c q h e = absurd i
answer_reads kind.Keys (reply.Flag b) i o listed c q h e = absurd i
answer_reads kind.Keys (reply.Desc d) i o listed c q h e = absurd i
answer_reads kind.Keys (reply.Keys ks) i o listed c q h e = ap (λ (g : Got (List (Key MadeSymbol))). (body.Answer (reply.Keys g.0), g.1)) (keys_read ks o listed c q h.1 e)

pub body_reads : (k : AnswerKind) (b : CrossBody Ref MadeSymbol) → Sound_body k b → Last (λ l. body_at k l) (body_pieces b) b
unfolding body_at
body_reads k (body.Ask target x) o listed c h = ask_reads target x o.0 o.1 listed c h
body_reads k (body.Answer r) o listed c h = reads_last (λ l. body_at k l) (body_pieces (body.Answer r)) (body.Answer r) (answer_reads k r o.0 o.1) listed c h

abbrev told : PartyId → PartyId → Got (CrossBody Ref MadeSymbol) → Got (Crossing Ref MadeSymbol)
told from to g = (record { from = from; to = to; body = g.0 }, g.1)

pub crossing_reads : (k : AnswerKind) (number : ℕ) (x : Crossing Ref MadeSymbol) → number < 2 ^ 64 → Sound_crossing k x
    → Last (crossing_at k) (head_pieces number x.from.0 x.to.0 ++ body_pieces x.body) x
unfolding crossing_at
crossing_reads k number x few o listed c h =
    let body : List ℕ = spelled c.names listed (body_pieces x.body) in
    let behind_to : List ℕ = 32 ∷ body in
    let behind_from : List ℕ = 62 ∷ (decimal x.to.0 ++ behind_to) in
    let behind_number : List ℕ = 32 ∷ (decimal x.from.0 ++ behind_from) in
    ap (λ (g : Got ℕ).
    let from = party_at (skipped 1 g.1) in
    let to = party_at (skipped 1 from.1) in
    told from.0 to.0 (body_at k (skipped 1 to.1)))
    (number_read number behind_number c.marks c.named few refl)
    ∙ ap (λ (g : Got PartyId).
    let to = party_at (skipped 1 g.1) in
    told g.0 to.0 (body_at k (skipped 1 to.1)))
    (party_read x.from behind_from c.marks c.named o.from refl)
    ∙ ap (λ (g : Got PartyId). told x.from g.0 (body_at k (skipped 1 g.1))) (party_read x.to behind_to c.marks c.named o.to refl)
    ∙ ap (told x.from x.to) (body_reads k x.body o.body listed c h.1.1.1.1.1.1)
