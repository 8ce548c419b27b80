use Rattle.std.proofs.Common.{sym}
use Rattle.lava_policy.proofs.policy.policy_text.Goals as goal

pub returns : goal.returns
returns c =
    record {
      body = c.in_ok-text.text;
      is = c.in_ok-push.ensures.ok;
      layout = c.in_ok-text.ensures.layout;
      writes = rw (sym c.in_ok-policy.ensures) c.in_ok-text.ensures.writes;
      reads = λ file. rw (sym c.in_ok-policy.ensures) (c.in_ok-text.ensures.reads file);
    }
