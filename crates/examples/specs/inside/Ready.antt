-- A pipeline before its run, for payments.
use Rattle.std.specs.Prelude.{◌≡◌, [], All, length}
use Rattle.tb_core.specs.claim.Journal.{LedgerState}
use Rattle.tb_pipe.specs.clauses.Reported.{AreTogether}
use Rattle.tb_pipe.specs.declared.opening.Opened.{Opened}
use Rattle.tb_submit.specs.clauses.Ends.{SubmitterState}
use Rattle.examples.specs.declared.payments.TheConstants.{DESKS}

abbrev pub IsUnread : SubmitterState → Type 0
IsUnread submitter = submitter.read ≡ []

-- a pipeline has a submitter for each desk, and none has read a reply
pub record IsReady (opened : Opened LedgerState) : Type 0 where
  pub together : AreTogether opened.pipeline opened.submitters.items opened.control
  pub number : length opened.pipeline.submitters ≡ DESKS
  pub desks : length opened.submitters.items ≡ DESKS
  pub unread : All IsUnread opened.submitters.items
