use Rattle.std.proofs.Common.{rules, ◌≡◌, ◌∙◌, ◌∷◌, [], map-id, sym}
use Rattle.tb_drive.proofs.Words.{map-append, YieldsList-from_vec, YieldsList-end, started_from}
use Rattle.tb_drive.proofs.threads.SubmitterThreads.join.Goals as goal

pub loop-handle-preserved : goal.loop-handle-preserved
loop-handle-preserved g c =
    rw (map-append started_from c.loop-handle.yielded (c.in-Some.handle ∷ []))
    (c.in_ok-join_one.ensures _ c.loop-handle.invariant)

pub returns : goal.returns
returns g c =
    let given = c.into_iter-handle-iterator.ensures.into_iter_gives in
    let all : c.loop-handle.yielded ≡ c.args.self.handles.items =
    sym (map-id c.loop-handle.yielded)
    ∙ (YieldsList-end (YieldsList-from_vec {s = c.into_iter-handle-iterator.result} _ given.0 (search rules)) _ _
    c.loop-handle.yielded_by _ c.next.new.self c.in-None.is c.next.ensures.steps).0 in
    rw (← all) c.loop-handle.invariant
