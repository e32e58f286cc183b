use Rattle.std.proofs.Common.{rules, ◌≡◌, refl}
use Rattle.tb_blocking.proofs.client.fn.ControlClient.start.spawn_with.Goals as goal

pub returns : goal.returns
returns g c =
    let kept : c.work.new.arg2.seat ≡ c.captures.control.seat =
    c.requires.own c.captures.control c.work.new.arg2
    (record { shown = _; shows = refl; left = _; met = c.work.ensures; leaves = refl }) in
    search (rules, kept)
