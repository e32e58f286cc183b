use Rattle.std.proofs.Common.{◌≡◌, ◌∙◌, refl, sym, ap, subst, append_assoc, true, [], ◌∷◌, ◌++◌, List}
use Rattle.tb_world.proofs.Words.{Result, Ok, Err, OnErr, is_some, Event, WorldState, after_event, moved, run, takes_memory, HasRun, nil_from_length}
use Rattle.tb_world.proofs.orders.Lawful.{run_more, runs_go_on}
use Rattle.tb_world.proofs.world.World.go_through.Goals as goal

on_err : {A E : Type 0} (result : Result A E) (P : Type 0) → P → OnErr result P
on_err (Ok x) P holds = tt
on_err (Err e) P holds = holds

pub loop-event-init : goal.loop-event-init
loop-event-init c =
    let all : c.into_iter-event-iterator.result.rest.items
    ≡ c.args.events.items = c.into_iter-event-iterator.ensures.into_iter_gives.0 in
    record {
      left = ap (λ (events : List Event). run c.args.self.now events) (sym all);
      so_far = refl;
      all = sym all;
    }

pub loop-event-preserved : goal.loop-event-preserved
loop-event-preserved c =
    let inv = c.loop-event.invariant in
    let event = c.in-Some.event in
    let rest = c.next.new.self.rest.items in
    let step : c.loop-event.event-iterator.rest.items ≡ event ∷ rest = c.in-Some.ensures.steps.0 in
    let went = c.in_ok-go_on.ensures.ok in
    record {
      left = inv.left ∙ ap (λ (events : List Event). run c.loop-event.self events) step
          ∙ ap (λ (world : WorldState). run world rest) (sym went);
      so_far = went ∙ ap (λ (world : WorldState). after_event world event) inv.so_far
          ∙ sym (run_more c.args.self.now c.loop-event.yielded (event ∷ []));
      all = inv.all ∙ ap (λ (events : List Event). c.loop-event.yielded ++ events) step
          ∙ sym (append_assoc c.loop-event.yielded (event ∷ []) rest);
    }

pub returns-in_err-go_on-clause-memory : goal.returns-in_err-go_on-clause-memory
returns-in_err-go_on-clause-memory c =
    let inv = c.loop-event.invariant in
    let event = c.in-Some.event in
    let rest = c.next.new.self.rest.items in
    let step : c.loop-event.event-iterator.rest.items ≡ event ∷ rest = c.in-Some.ensures.steps.0 in
    let failed = c.in_err-go_on.ensures.memory in
    on_err c.from_residual.result _ (
      c.loop-event.yielded,
      event,
      rest,
      inv.all ∙ ap (λ (events : List Event). c.loop-event.yielded ++ events) step,
      failed.2 ∙ inv.so_far,
      subst (λ (world : WorldState). is_some (moved world event) ≡ true) (sym failed.2) failed.0,
      subst (λ (world : WorldState). takes_memory world event ≡ true) (sym failed.2) failed.1,
    )

pub returns-clause-ok : goal.returns-clause-ok
returns-clause-ok c =
    let none : c.loop-event.event-iterator.rest.items
    ≡ [] =
    nil_from_length c.loop-event.event-iterator.rest.items
    (sym c.loop-event.event-iterator.rest.ok.0 ∙ c.in-None.ensures.steps.0) in
    sym (c.loop-event.invariant.left ∙ ap (λ (events : List Event). run c.loop-event.self events) none)

pub returns-clause-ran : goal.returns-clause-ran
returns-clause-ran c = λ start limit submitters before has.
    subst (HasRun start limit submitters (before ++ c.args.events.items)) (sym (returns-clause-ok c))
    (runs_go_on start limit submitters before c.args.events.items c.args.self.now has)
