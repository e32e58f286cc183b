use Rattle.std.proofs.Common.{◌≡◌, ◌∙◌, [], ◌∷◌, ◌++◌, length, map, ap, arith}
use Rattle.tb_drive.proofs.Words.{map-append, started_from}
use Rattle.tb_drive.proofs.threads.start_all.Goals as goal

pub push_reserved-requires : goal.push_reserved-requires
push_reserved-requires g c =
    let tasks : c.loop-task.task-iterator.rest.items ≡ c.in-Some.task ∷ c.next.new.self.rest.items =
    c.in-Some.ensures.steps.0 in
    omega (arith, c.loop-task.invariant.room, ap length tasks)

pub loop-task-preserved : goal.loop-task-preserved
loop-task-preserved g c =
    let tasks : c.loop-task.task-iterator.rest.items ≡ c.in-Some.task ∷ c.next.new.self.rest.items =
    c.in-Some.ensures.steps.0 in
    let pushed : c.push_reserved.new.self.items ≡ c.loop-task.handles.items ++ c.in_ok-start.field-0 ∷ [] =
    c.push_reserved.ensures.items in
    record {
      started = ap (map started_from) pushed
          ∙ map-append started_from c.loop-task.handles.items (c.in_ok-start.field-0 ∷ [])
          ∙ ap (λ tasks. tasks ++ started_from c.in_ok-start.field-0 ∷ []) c.loop-task.invariant.started
          ∙ ap (λ task. c.loop-task.yielded ++ task ∷ []) c.in_ok-start.ensures;
      room = omega (
        arith,
        c.loop-task.invariant.room,
        c.push_reserved.ensures.len,
        c.push_reserved.ensures.capacity,
        ap length tasks,
      );
    }
