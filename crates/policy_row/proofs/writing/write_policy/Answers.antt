use Rattle.serde_json.specs.View.{view}
use Rattle.policy_row.proofs.Writing_laws.{is_json, is_policy}
use Rattle.policy_row.proofs.writing.write_policy.Goals as goal

pub returns-clause-reads : goal.returns-clause-reads
returns-clause-reads c = λ file.
    is_policy file c.from_vec.result c.in_ok-to_vec_pretty.field-0.items (view c.in_ok-value.value) c.policy.inside.rows.entries c.args.policy.now c.from_vec.ensures c.policy.view_is c.policy.invariant c.in_ok-value.ensures c.in_ok-to_vec_pretty.ensures.utf8 c.in_ok-to_vec_pretty.ensures.reads_back

pub returns-clause-writes : goal.returns-clause-writes
returns-clause-writes c =
    is_json c.from_vec.result c.in_ok-to_vec_pretty.field-0.items (view c.in_ok-value.value) c.policy.inside.rows.entries c.args.policy.now c.from_vec.ensures c.policy.view_is c.in_ok-value.ensures c.in_ok-to_vec_pretty.ensures.utf8 c.in_ok-to_vec_pretty.ensures.reads_back
