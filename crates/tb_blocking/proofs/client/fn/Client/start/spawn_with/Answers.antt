use Rattle.std.proofs.Common.{rules, ◌≡◌, refl}
use Rattle.tb_submit.specs.clauses.Ends.{origin_of}
use Rattle.tb_blocking.proofs.client.fn.Client.start.spawn_with.Goals as goal

pub returns : goal.returns
returns g c =
    let kept : origin_of c.work.new.arg2 ≡ origin_of c.captures.client =
    c.requires.own c.captures.client c.work.new.arg2
    (record { shown = _; shows = refl; left = _; met = c.work.ensures; leaves = refl }) in
    search (rules, kept)
