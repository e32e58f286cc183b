use Rattle.std.proofs.Common.{◌≡◌}
use Rattle.tb_drive.proofs.Words.{origin_of, HasAsked}
use Rattle.tb_drive.proofs.submitting.submit.Given as goal

abbrev pub invariant-loop : goal.invariant-loop
invariant-loop g l = record {
  own : origin_of l.submitter ≡ origin_of l.initial.submitter;
  front : l.submitter.queued ≡ l.initial.submitter.queued;
  same : l.packet ≡ l.fn.packet;
  asked : HasAsked g.D.Driver.has_asked l.initial.driver l.fn.packet l.initial.submitter
      → HasAsked g.D.Driver.has_asked l.driver l.fn.packet l.submitter;
  share : g.D.Driver.share l.driver ≡ g.D.Driver.share l.initial.driver;
}
