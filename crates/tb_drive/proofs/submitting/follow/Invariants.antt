use Rattle.std.proofs.Common.{◌≡◌}
use Rattle.tb_drive.proofs.Words.{origin_of, HasSeen, IsPrefixOf}
use Rattle.tb_drive.proofs.submitting.follow.Given as goal

abbrev pub invariant-loop : goal.invariant-loop
invariant-loop g l = record {
  own : origin_of l.submitter ≡ origin_of l.initial.submitter;
  front : IsPrefixOf l.initial.submitter.queued l.submitter.queued;
  seen : HasSeen g.D.Driver.has_seen l.initial.driver l.initial.submitter
      → HasSeen g.D.Driver.has_seen l.driver l.submitter;
  share : g.D.Driver.share l.driver ≡ g.D.Driver.share l.initial.driver;
}
