use Rattle.std.proofs.Common.{◌≡◌}
use Rattle.tb_drive.proofs.Words.{origin_of, HasSeen}
use Rattle.tb_drive.proofs.submitting.end.Given as goal

abbrev pub invariant-loop : goal.invariant-loop
invariant-loop g l = record {
  own : origin_of l.submitter ≡ origin_of l.fn.submitter;
  front : l.submitter.queued ≡ l.fn.submitter.queued;
  ended : HasSeen g.D.Driver.has_ended l.initial.driver l.fn.submitter
      → HasSeen g.D.Driver.has_ended l.driver l.submitter;
  seen : HasSeen g.D.Driver.has_seen l.initial.driver l.fn.submitter → HasSeen g.D.Driver.has_seen l.driver l.submitter;
  share : g.D.Driver.share l.driver ≡ g.D.Driver.share l.initial.driver;
}
