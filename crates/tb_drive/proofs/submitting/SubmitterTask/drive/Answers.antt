use Rattle.std.proofs.Common.{◌∙◌}
use Rattle.tb_drive.proofs.Seen.{end_before}
use Rattle.tb_drive.proofs.submitting.SubmitterTask.drive.Goals as goal
use Rattle.tb_drive.proofs.submitting.SubmitterTask.drive.Goals.{in-Err, in-Ok}

pub returns : goal.returns
returns g c =
    rw (← c.self.view_is) (elim c.match-follow.branch [
      | in-Ok w ↦ rw (w.ended-is, w.driver-is) (
        end_before c.self.inside.submitter c.follow.new.submitter _ c.follow.ensures.own c.follow.ensures.front
            w.end-ended.ensures.own,
        w.end-ended.ensures.share ∙ c.follow.ensures.share,
      )
      | in-Err w ↦ rw (w.ended-is, w.driver-is) (tt, w.end_given_up.ensures ∙ c.follow.ensures.share)
    ])
