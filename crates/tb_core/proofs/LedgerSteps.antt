-- What a ledger made of decisions, and of one parcel more.
use Rattle.std.proofs.Common.{refl, sym, ap, ◌∙◌, arith, ◌≡◌, ◌<◌, ◌≤◌, ℕ, zero, suc, ◌+◌, Bool, true, false, List, [], ◌∷◌, ◌++◌, map, length, length-append, append_assoc, append-nil, Some}
use Rattle.tb_core.proofs.Words.{fold, slice_get, AllByRecursion, flat_map, take-append_seam, cond_both, or_parts, fold-append, take-append-le, Input, State, opening, answer_of, replay, after_input, after_packet, Numbered, events_in, ReplyValue, input_of, reply_with, Parcel, outcome_at, Ahead, cause_outcome, inputs_in, replies_from, Decision, Admitted, Pulsed, Returned, decisions_in, LedgerState, inputs, BareLedgerState, with_journal, HasCommitted, halts, Applied, apply_result, must_stop, with_stop, with_entry, step_of_batch, apply_step, replies_in, Commits}
use Rattle.std.proofs.lemmas.Option.{slice_get_past}
use Rattle.tb_layout.specs.claim.Events as input
use Rattle.tb_work.specs.declared.outcome.Outcome.TheVariants as outcome
use Rattle.tb_core.specs.declared.parcel.Parcel.TheVariants as parcel
use Rattle.tb_core.specs.declared.outcomes.Outcomes.TheVariants.{Cut}
use Rattle.tb_core.proofs.PacketAnswers.{answers_from}
use Rattle.tb_core.proofs.OneMoreEntry.{inputs-more, must_stop_is}
use Rattle.tb_core.proofs.Since.{prefix-more}

-- what is so of each is so with one more
pub all-push : {X : Type 0} (P : X → Type 0) (xs : List X) (x : X) → AllByRecursion P xs → P x
    → AllByRecursion P (xs ++ x ∷ [])
all-push P [] x all is = (is, tt)
all-push P (first ∷ xs) x all is = (all.0, all-push P xs x all.1 is)

-- ---- a place within the journal, and after it

get_within : {X : Type 0} (n : ℕ) (xs ys : List X) → n < length xs → slice_get (xs ++ ys) n ≡ slice_get xs n
get_within n [] ys h = absurd (omega (arith, h))
get_within zero (x ∷ xs) ys h = refl
get_within (suc n) (x ∷ xs) ys h = get_within n xs ys (omega (arith, h))

at_seam : {X : Type 0} (xs : List X) (y : X) (ys : List X) → slice_get (xs ++ y ∷ ys) (length xs) ≡ Some y
at_seam [] y ys = refl
at_seam (x ∷ xs) y ys = at_seam xs y ys

outcome_within : (clock place : ℕ) (journal others : List Input) → place < length journal
    → outcome_at clock (journal ++ others) (Ahead place) ≡ outcome_at clock journal (Ahead place)
outcome_within clock place journal others h =
    rw (take-append-le place journal others (omega (arith, h)), get_within place journal others h) refl

pub outcome_past : (clock place : ℕ) (journal : List Input) → length journal ≤ place
    → outcome_at clock journal (Ahead place) ≡ outcome.Stopped
outcome_past clock place journal h = rw (slice_get_past journal place h) refl

-- the packet at a place, with those before it
pub outcome_here : (clock place : ℕ) (state : State) (before : List Input) (job : Numbered) (rest : List Input)
    → place ≡ length before → state ≡ replay clock before →
    outcome_at clock (before ++ input_of job ∷ rest) (Ahead place)
    ≡ outcome.Committed place (answer_of state (events_in job.packet))
outcome_here clock place state before job rest place_is state_is =
    rw (state_is, place_is, take-append_seam before (input_of job ∷ rest), at_seam before (input_of job) rest) refl

-- ---- replies to decisions

pub inputs_in-append : (xs ys : List Decision) → inputs_in (xs ++ ys) ≡ inputs_in xs ++ inputs_in ys
inputs_in-append [] ys = refl
inputs_in-append (Admitted job ∷ xs) ys = ap (λ ws. input_of job ∷ ws) (inputs_in-append xs ys)
inputs_in-append (Pulsed moment ∷ xs) ys = ap (λ ws. input.Pulse moment ∷ ws) (inputs_in-append xs ys)
inputs_in-append (Returned job cause ∷ xs) ys = inputs_in-append xs ys

pub inputs_in-admitted : (jobs : List Numbered) → inputs_in (map Admitted jobs) ≡ map input_of jobs
inputs_in-admitted [] = refl
inputs_in-admitted (job ∷ jobs) = ap (λ ws. input_of job ∷ ws) (inputs_in-admitted jobs)

pub replies_from-append : (clock : ℕ) (journal : List Input) (place : ℕ) (xs ys : List Decision) →
    replies_from clock journal place (xs ++ ys) ≡ replies_from clock journal place xs
    ++ replies_from clock journal (place + length (inputs_in xs)) ys
replies_from-append clock journal place [] ys = ap (λ n. replies_from clock journal n ys) (omega arith)
replies_from-append clock journal place (Admitted job ∷ xs) ys =
    ap (λ rs. reply_with (outcome_at clock journal (Ahead place)) job ∷ rs)
    (replies_from-append clock journal (place + 1) xs ys
    ∙ ap (λ n. replies_from clock journal (place + 1) xs ++ replies_from clock journal n ys) (omega arith))
replies_from-append clock journal place (Pulsed moment ∷ xs) ys =
    replies_from-append clock journal (place + 1) xs ys
    ∙ ap (λ n. replies_from clock journal (place + 1) xs ++ replies_from clock journal n ys) (omega arith)
replies_from-append clock journal place (Returned job cause ∷ xs) ys =
    ap (λ rs. reply_with (cause_outcome cause) job ∷ rs) (replies_from-append clock journal place xs ys)

-- a longer journal answers what it had answered the same
pub replies_from-longer : (clock : ℕ) (journal others : List Input) (place : ℕ) (xs : List Decision)
    → place + length (inputs_in xs) ≤ length journal
    → replies_from clock (journal ++ others) place xs ≡ replies_from clock journal place xs
replies_from-longer clock journal others place [] h = refl
replies_from-longer clock journal others place (Admitted job ∷ xs) h =
    ap (λ o. reply_with o job ∷ replies_from clock (journal ++ others) (place + 1) xs)
    (outcome_within clock place journal others (omega (arith, h)))
    ∙ ap (λ rs. reply_with (outcome_at clock journal (Ahead place)) job ∷ rs)
    (replies_from-longer clock journal others (place + 1) xs (omega (arith, h)))
replies_from-longer clock journal others place (Pulsed moment ∷ xs) h =
    replies_from-longer clock journal others (place + 1) xs (omega (arith, h))
replies_from-longer clock journal others place (Returned job cause ∷ xs) h =
    ap (λ rs. reply_with (cause_outcome cause) job ∷ rs) (replies_from-longer clock journal others place xs h)

-- packets that the journal doesn't reach are Stopped
replies_from-stopped : (clock : ℕ) (journal : List Input) (place : ℕ) (jobs : List Numbered) → length journal ≤ place
    → replies_from clock journal place (map Admitted jobs) ≡ map (reply_with outcome.Stopped) jobs
replies_from-stopped clock journal place [] h = refl
replies_from-stopped clock journal place (job ∷ jobs) h =
    ap (λ o. reply_with o job ∷ replies_from clock journal (place + 1) (map Admitted jobs))
    (outcome_past clock place journal h)
    ∙ ap (λ rs. reply_with outcome.Stopped job ∷ rs)
    (replies_from-stopped clock journal (place + 1) jobs (omega (arith, h)))

-- packets that were just committed are answered by the machine, each in the state that those before it left
pub replies_from-answers : (clock place : ℕ) (journal before : List Input) (jobs : List Numbered)
    → journal ≡ before ++ map input_of jobs → place ≡ length before →
    answers_from place (replay clock before) jobs ≡ replies_from clock journal place (map Admitted jobs)
replies_from-answers clock place journal before [] all place_is = refl
replies_from-answers clock place journal before (job ∷ jobs) all place_is =
    let one = input_of job ∷ [] in
    let state = replay clock before in
    let later = after_packet state (events_in job.packet) in
    ap (λ o. reply_with o job ∷ answers_from (place + 1) later jobs)
    (sym (outcome_here clock place state before job (map input_of jobs) place_is refl))
    ∙ ap (λ ws. reply_with (outcome_at clock ws (Ahead place)) job ∷ answers_from (place + 1) later jobs) (sym all)
    ∙ ap (λ rs. reply_with (outcome_at clock journal (Ahead place)) job ∷ rs)
    (ap (λ s. answers_from (place + 1) s jobs) (sym (fold-append after_input (opening clock) before one))
    ∙ replies_from-answers clock (place + 1) journal (before ++ one) jobs
    (all ∙ sym (append_assoc before one (map input_of jobs))) (omega (arith, place_is, length-append before one)))

-- a batch that the machine took, as one group more, is applied
pub batch_applied : {bare : BareLedgerState} {groups : List (List Input)} {state : State} {jobs batch : List Numbered}
    {replies : List ReplyValue} → HasCommitted bare groups →
    state ≡ fold after_input bare.state (map input_of jobs) → jobs ≡ batch
    → replies ≡ replies_from bare.opening (flat_map (λ group. group) groups ++ map input_of jobs) bare.places
    (map Admitted jobs) → halts bare (length batch) ≡ false →
    apply_result (with_journal (record bare { state = state }) (groups ++ map input_of jobs ∷ []))
    (Cut replies) ≡ apply_step false (with_journal bare groups) (parcel.Batch batch)
batch_applied {bare} {groups} {batch} is state_is same replies_is goes =
    rw (
      must_stop_is bare groups (length batch) is ∙ goes,
      state_is,
      replies_is,
      is.counted,
      same,
      inputs-more groups (map input_of batch),
    ) refl

-- ---- a parcel more

-- a batch has a packet
abbrev pub HasJobs : Parcel → Type 0
HasJobs (parcel.Batch jobs) = 0 < length jobs
HasJobs (parcel.Pulse moment) = Unit {0}
HasJobs (parcel.Return job cause) = Unit {0}
HasJobs parcel.Last = Unit {0}

nothing_after : {X : Type 0} (xs : List X) (y : X) (ys : List X) → xs ++ y ∷ ys ≡ [] → ⊥
nothing_after [] y ys e = cc
nothing_after (x ∷ xs) y ys e = cc

module _ (start : LedgerState) (sent : List Decision) (ledger : LedgerState) (replies : List ReplyValue)
    (is : Commits start sent ledger replies) where
  abbrev journal : List Input
  journal = inputs ledger

  abbrev ThenCommits : List Decision → LedgerState → List ReplyValue → Type 0
  ThenCommits decisions next answers = Commits start (sent ++ decisions) next (replies ++ answers)

  abbrev first : ℕ
  first = length (inputs start)

  -- all of them are committed
  entered : (group : List Input) (decisions : List Decision) (answers : List ReplyValue) → ledger.stopped ≡ false
      → inputs_in decisions ≡ group →
      answers ≡ replies_from start.opening (inputs (with_entry ledger group)) (length journal) decisions
      → ThenCommits decisions (with_entry ledger group) answers
  entered group decisions answers goes group_is answers_are =
      let longer : inputs (with_entry ledger group) ≡ journal ++ group = inputs-more ledger.groups group in
      let all : journal ≡ inputs start ++ inputs_in sent = sym (append-nil journal)
      ∙ ap (λ ws. journal ++ ws) (sym (is.whole goes)) ∙ is.committed in
      let count : first + length (inputs_in sent) ≡ length journal = omega (
        arith,
        ap length all,
        length-append (inputs start) (inputs_in sent),
      ) in
      let before : replies ≡ replies_from start.opening (journal ++ group) first sent = is.replied
      ∙ sym (replies_from-longer start.opening journal group first sent (omega (arith, count))) in
      record {
        from = is.from;
        continues = prefix-more start.groups ledger.groups (group ∷ []) is.continues;
        remainder = [];
        committed = append-nil _ ∙ longer ∙ ap (λ ws. ws ++ group) all
            ∙ append_assoc (inputs start) (inputs_in sent) group
            ∙ ap (λ ws. inputs start ++ (inputs_in sent ++ ws)) (sym group_is)
            ∙ ap (λ ws. inputs start ++ ws) (sym (inputs_in-append sent decisions));
        whole = λ any. refl;
        unstopped = λ any. goes;
        state = ap (λ s. fold after_input s group) is.state
            ∙ sym (fold-append after_input (opening start.opening) journal group)
            ∙ ap (replay start.opening) (sym longer);
        replied = rw (
          replies_from-append start.opening (inputs (with_entry ledger group)) first sent decisions,
          count,
          answers_are,
          longer,
          before,
        ) refl;
      }

  -- the journal stays, and what remains to be committed follows it
  kept : (decisions : List Decision) (stopped : Bool) (answers : List ReplyValue)
      → (stopped ≡ false → (ledger.stopped ≡ false) × (inputs_in decisions ≡ []))
      → (is.remainder ++ inputs_in decisions ≡ [] → stopped ≡ false) →
      ((place : ℕ) → length journal ≤ place → answers ≡ replies_from start.opening journal place decisions)
      → ThenCommits decisions (record ledger { stopped = stopped }) answers
  kept decisions stopped answers goes stays answers_are =
      let after = answers_are (first + length (inputs_in sent)) (omega (
        arith,
        ap length is.committed,
        length-append journal is.remainder,
        length-append (inputs start) (inputs_in sent),
      )) in
      record {
        from = is.from;
        continues = is.continues;
        remainder = is.remainder ++ inputs_in decisions;
        committed = sym (append_assoc journal is.remainder (inputs_in decisions))
            ∙ ap (λ ws. ws ++ inputs_in decisions) is.committed
            ∙ append_assoc (inputs start) (inputs_in sent) (inputs_in decisions)
            ∙ ap (λ ws. inputs start ++ ws) (sym (inputs_in-append sent decisions));
        whole = λ on. (let both = goes on in ap (λ ws. ws ++ inputs_in decisions) (is.whole both.0) ∙ both.1);
        unstopped = stays;
        state = is.state;
        replied = ap (λ rs. rs ++ answers) is.replied
            ∙ ap (λ rs. replies_from start.opening journal first sent ++ rs) after
            ∙ sym (replies_from-append start.opening journal first sent decisions);
      }

  -- nothing of it was to be committed
  aside : (decisions : List Decision) (answers : List ReplyValue) → inputs_in decisions ≡ []
      → ((place : ℕ) → answers ≡ replies_from start.opening journal place decisions) → ThenCommits decisions ledger answers
  aside decisions answers none answers_are =
      kept decisions ledger.stopped answers (λ on. (on, none))
      (λ e. is.unstopped (sym (append-nil is.remainder) ∙ ap (λ ws. is.remainder ++ ws) (sym none) ∙ e))
      (λ place far. answers_are place)

  -- the ledger is marked
  halted : (one : Input) (others : List Input) (decisions : List Decision) (answers : List ReplyValue)
      → inputs_in decisions ≡ one ∷ others → ((place : ℕ) → length journal ≤ place
      → answers ≡ replies_from start.opening journal place decisions) →
      ThenCommits decisions (with_stop ledger) answers
  halted one others decisions answers some answers_are =
      kept decisions true answers (λ on. cc) (λ e. absurd
      (nothing_after is.remainder one others (ap (λ ws. is.remainder ++ ws) (sym some) ∙ e))) answers_are

  abbrev Then : List Decision → Applied → Type 0
  Then decisions next = ThenCommits decisions next.ledger (replies_in next.outcomes)

  pub commits_more : (refused : Bool) (handed : Parcel) → HasJobs handed
      → Then (decisions_in handed) (apply_step refused ledger handed)
  commits_more refused (parcel.Batch []) some = absurd (omega (arith, some))
  commits_more refused (parcel.Batch (job ∷ jobs)) some =
      let decisions = map Admitted (job ∷ jobs) in
      let group = inputs_in-admitted (job ∷ jobs) in
      let next = step_of_batch ledger (job ∷ jobs) in
      cond_both (must_stop refused ledger (length (job ∷ jobs))) _ _ (Then decisions)
      (λ stops. halted (input_of job) (map input_of jobs) decisions _ group
      (λ place far. sym (replies_from-stopped start.opening journal place (job ∷ jobs) far)))
      (λ goes. entered (map input_of (job ∷ jobs)) decisions _ (or_parts ledger.stopped _ goes).0 group
      (ap (λ clock. replies_from clock (inputs next.ledger) (length journal) decisions) is.from))
  commits_more refused (parcel.Pulse moment) some =
      let decisions = Pulsed moment ∷ [] in
      cond_both (must_stop refused ledger 1) _ _ (Then decisions)
      (λ stops. halted (input.Pulse moment) [] decisions [] refl (λ place far. refl))
      (λ goes. entered (input.Pulse moment ∷ []) decisions [] (or_parts ledger.stopped _ goes).0 refl refl)
  commits_more refused (parcel.Return job cause) some = aside (Returned job cause ∷ []) _ refl (λ place. refl)
  commits_more refused parcel.Last some = aside [] [] refl (λ place. refl)
