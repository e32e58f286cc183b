use Rattle.std.proofs.Common.{sym, subst}
use Rattle.tb_drive.proofs.Opened.{all_have_seen}
use Rattle.examples.specs.clauses.Desk.{HasCounted, HasSeenOf, IsNew}
use Rattle.examples.specs.inside.Ready.{IsUnread}
use Rattle.examples.proofs.payments.run.Goals as goal

pub drive_all-requires-clause-seen : goal.drive_all-requires-clause-seen
drive_all-requires-clause-seen g c κs within =
    all_have_seen HasSeenOf IsNew IsUnread c.in-Some.desks.items c.new_desks.new.opened.submitters.items
    (λ desk submitter new unread. subst (HasCounted desk.tally) (sym unread) new) c.in-Some.ensures.new
    c.in-Some.ensures.ready.unread
