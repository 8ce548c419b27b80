use Rattle.std.proofs.Common.{◌≡◌, ◌∙◌, true, sym, arith}
use Rattle.js_natives.proofs.Resumed_laws.{resumed_does}
use Rattle.js_natives.proofs.resume.resume.Goals as goal

pub returns-clause-does : goal.returns-clause-does
returns-clause-does g c =
    let there : c.reply_is_there.result ≡ true = grind (arith, c.if-not-reply_is_there.false) in
    resumed_does c.step_resumed.result (g.S.Store.owner c.args.store.now).0 (g.S.Store.objects c.args.store.now) c.args.common.now c.args.foreign.now c.args.which c.args.next c.args.reply (g.S.Store.objects c.step_resumed.new.store) (sym c.reply_is_there.ensures ∙ there) c.step_resumed.ensures.ok
