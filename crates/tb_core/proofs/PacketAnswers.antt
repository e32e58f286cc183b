-- What the machine answers to packets one after the other.
use Rattle.tb_core.proofs.Words.{ℕ, ◌+◌, List, [], ◌∷◌, State, answer_of, after_packet, Numbered, events_in, ReplyValue, reply_with, Committed}

-- packets from a place on: each is answered in the state that those before it left
abbrev pub answers_from : ℕ → State → List Numbered → List ReplyValue
answers_from place state [] = []
answers_from place state (job ∷ jobs) =
    reply_with (Committed place (answer_of state (events_in job.packet))) job
    ∷ answers_from (place + 1) (after_packet state (events_in job.packet)) jobs
