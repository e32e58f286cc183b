-- Submitters of one queue.
use Rattle.std.proofs.Common.{◌≡◌, ℕ, suc, List, [], ◌∷◌, map, ap, ◌∙◌}
use Rattle.tb_rings.specs.clauses.Ends.{outlet_ring}
use Rattle.tb_rings.specs.declared.Outlet.{Outlet}
use Rattle.tb_work.specs.claim.Packet.{ReplyValue}
use Rattle.tb_submit.specs.clauses.Ends.{IntakeState, Origin, SenderState, SubmitterState, control_seat, origin_of, origins_from, seat_at}
use Rattle.tb_pipe_tests.specs.inside.Queue.{AreOf}

pub all_of_queue : (intake : IntakeState) (control : SenderState) (number : ℕ) (outlets : List (Outlet ReplyValue))
    (submitters : List SubmitterState) → (control_seat intake).queue ≡ control.seat.queue
    → map origin_of submitters ≡ origins_from (seat_at intake) number outlets → AreOf control submitters
all_of_queue intake control number outlets [] same is = tt
all_of_queue intake control number [] (one ∷ others) same is = cc
all_of_queue intake control number (outlet ∷ outlets) (one ∷ others) same is =
    let first : one.origin ≡ record { seat = seat_at intake number; ring = outlet_ring outlet } = cc in
    let rest : map origin_of others ≡ origins_from (seat_at intake) (suc number) outlets = cc in
    (ap (λ (o : Origin). o.seat.queue) first ∙ same, all_of_queue intake control (suc number) outlets others same rest)
