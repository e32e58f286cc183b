use Rattle.std.proofs.Common.{rules, ◌≡◌, ◌∙◌, refl, sym}
use Rattle.tb_drive.proofs.Opened.{all_opened}
use Rattle.tb_submit.specs.clauses.Ends.{control_seat}
use Rattle.examples.specs.inside.Ready.{IsUnread}
use Rattle.examples.proofs.payments.open_for_desks.Goals as goal

pub returns : goal.returns
returns c =
    let opened = c.in-Ok.opened in
    let is = c.in-Ok.ensures in
    let control : opened.control.seat ≡ control_seat opened.pipeline.intake = search rules in
    let seats : opened.pipeline.intake.submitters ≡ 3 = search rules in
    let new = all_opened IsUnread 4 opened.pipeline.submitters opened.submitters.items (λ origin. refl) is.submitters in
    record {
      together = (is.own, control, is.number ∙ sym seats);
      number = is.number;
      desks = new.1 ∙ is.number;
      unread = new.0;
    }
