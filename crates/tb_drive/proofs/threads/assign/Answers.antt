use Rattle.std.proofs.Common.{rules, ◌≡◌, ◌∙◌, ◌∷◌, ◌++◌, [], append_assoc, append-nil, length, map, map-id, refl, ap, sym, arith}
use Rattle.tb_drive.proofs.Words.{map-append, nil_from_length, YieldsList-from_vec, YieldsList-end, into_iter_items, origin_of, SubmitterTaskState, task_origin, task_share, task_submitter}
use Rattle.tb_drive.proofs.Seen.{first_has, others_have}
use Rattle.tb_drive.proofs.threads.assign.Goals as goal

pub invariant_of-push_reserved : goal.invariant_of-push_reserved
invariant_of-push_reserved g c =
    let submitters : c.loop-submitter.submitter-iterator.rest.items
    ≡ c.in-Some.submitter ∷ c.next.new.self.rest.items = c.in-Some.ensures.steps.0 in
    let drivers : into_iter_items c.loop-submitter.drivers
    ≡ c.in-Some-next.driver ∷ into_iter_items c.next-in-loop-submitter.new.self =
    c.in-Some-next.ensures.items in
    first_has g.D.Driver.has_seen drivers submitters c.loop-submitter.invariant.seen

pub loop-submitter-preserved : goal.loop-submitter-preserved
loop-submitter-preserved g c =
    let submitters : c.loop-submitter.submitter-iterator.rest.items
    ≡ c.in-Some.submitter ∷ c.next.new.self.rest.items = c.in-Some.ensures.steps.0 in
    let drivers : into_iter_items c.loop-submitter.drivers
    ≡ c.in-Some-next.driver ∷ into_iter_items c.next-in-loop-submitter.new.self =
    c.in-Some-next.ensures.items in
    let all = c.loop-submitter.all.items in
    let driver = c.in-Some-next.driver in
    let task : SubmitterTaskState = record { submitter = c.in-Some.submitter; share = g.D.Driver.share driver } in
    let pushed : c.push_reserved.new.self.items ≡ all ++ task ∷ [] = c.push_reserved.ensures.items in
    record {
      own = rw (
        pushed,
        map-append task_origin all (task ∷ []),
        map-append origin_of c.loop-submitter.yielded
            (c.in-Some.submitter ∷ []),
        c.loop-submitter.invariant.own,
      ) refl;
      submitters = rw (pushed, map-append task_submitter all (task ∷ []), c.loop-submitter.invariant.submitters) refl;
      shares = rw (pushed, map-append task_share all (task ∷ []))
          (append_assoc (map task_share all) (g.D.Driver.share driver ∷ []) _
          ∙ sym (ap (λ ds. map task_share all ++ map g.D.Driver.share ds) drivers)
          ∙ c.loop-submitter.invariant.shares);
      long = omega (arith, c.loop-submitter.invariant.long, ap length drivers, ap length submitters);
      room = omega (
        arith,
        c.loop-submitter.invariant.room,
        c.push_reserved.ensures.len,
        c.push_reserved.ensures.capacity,
        ap length submitters,
      );
      seen = others_have g.D.Driver.has_seen drivers submitters c.loop-submitter.invariant.seen;
    }

pub returns : goal.returns
returns g c =
    let given = c.into_iter-submitter-iterator.ensures.into_iter_gives in
    let yielded : c.loop-submitter.yielded ≡ c.args.submitters.items =
    sym (map-id c.loop-submitter.yielded)
    ∙ (YieldsList-end (YieldsList-from_vec {s = c.into_iter-submitter-iterator.result} _ given.0 (search rules)) _ _
    c.loop-submitter.yielded_by _ c.next.new.self c.in-None.is c.next.ensures.steps).0 in
    let all = map task_share c.loop-submitter.all.items in
    let none : into_iter_items c.loop-submitter.drivers ≡ [] =
    nil_from_length _ (c.loop-submitter.invariant.long ∙ search rules) in
    record {
      own = c.loop-submitter.invariant.own ∙ ap (map origin_of) yielded;
      submitters = c.loop-submitter.invariant.submitters ∙ yielded;
      shares = sym (append-nil all) ∙ ap (λ ds. all ++ map g.D.Driver.share ds) (sym none)
          ∙ c.loop-submitter.invariant.shares;
      memory = tt;
    }

pub push_reserved-requires : goal.push_reserved-requires
push_reserved-requires g c =
    let submitters : c.loop-submitter.submitter-iterator.rest.items
    ≡ c.in-Some.submitter ∷ c.next.new.self.rest.items = c.in-Some.ensures.steps.0 in
    omega (arith, c.loop-submitter.invariant.room, ap length submitters)
