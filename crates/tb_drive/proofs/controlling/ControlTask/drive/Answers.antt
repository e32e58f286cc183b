use Rattle.std.proofs.Common.{[], ◌∷◌}
use Rattle.tb_drive.proofs.Words.{last_item}
use Rattle.tb_drive.proofs.Pulsed.{has_queued_more}
use Rattle.tb_drive.proofs.controlling.ControlTask.drive.Goals as goal

pub returns : goal.returns
returns g c =
    rw (← c.self.view_is) (has_queued_more {now = c.follow.new.control} _ (last_item c.in-Some.shuts ∷ [])
    (c.in-Some.ensures c.self.invariant) c.in_ok-end.ensures (λ items had. had))
