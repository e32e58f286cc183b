use Rattle.std.proofs.Common.{ap, sym, ◌∙◌, subst, arith, rules, ◌≡◌}
use Rattle.tb_core.proofs.Words.{OnOk, RiseWithin, Failures, failures_of, events_in, count_of, on_ok_weaker}
use Rattle.tb_work.specs.declared.stub.Stub.{Stub}
use Rattle.tb_core.proofs.Alone.{IsCommitted, committed_alone, from_first}
use Rattle.tb_core.proofs.bare_ledger.take_alone.Goals as goal

committed : (c : goal.After-commit) → IsCommitted c.args.machine.now c.args.job.now
committed c =
    committed_alone (record {
      accounts = c.joining_is_invisible.ensures.accounts;
      transfers = c.joining_is_invisible.ensures.transfers;
    }) c.args.machine.now c.args.job.now c.commit.ensures.in_range c.packet-packet.ensures.admitted
    (omega (arith, ap (λ (stub : Stub). stub.count) c.stub.ensures.value, c.stub.ensures.bound)) c.requires

failures_are : (c : goal.After-commit)
    → OnOk c.commit.result (c.commit.new.out.items ≡ failures_of c.args.machine.now (events_in c.args.job.now.packet))
failures_are c = search rules

pub returns-clause-answer : goal.returns-clause-answer
returns-clause-answer c =
    on_ok_weaker c.commit.result (λ same. (committed c).answer ∙ ap Failures (sym same ∙ sym (from_first c.commit.new.out.items))) (failures_are c)

pub returns-clause-rise : goal.returns-clause-rise
returns-clause-rise c =
    on_ok_weaker c.commit.result (λ same. subst (RiseWithin 0 (count_of c.args.job.now.packet)) (sym same) (committed c).rises) (failures_are c)
