use Rattle.std.proofs.Common.{◌∙◌, ◌∷◌, ◌++◌, [], Vec, ap, sym, subst}
use Rattle.tb_program.proofs.Words.{Global, into_iter_items, share_of, IsHandedIn, PacketResult}
use Rattle.tb_program.proofs.HandedPackets.{handed_longer}
use Rattle.tb_program.proofs.run.driver.ScriptDriverDriver.receive.Goals as goal

pub returns-clause-seen : goal.returns-clause-seen
returns-clause-seen c = λ limit queued read fewer seen complete.
    let driver = c.args.self.now in
    let kept = c.keep.ensures.replies complete in
    let before = seen kept.0 in
    let more = c.args.reply ∷ [] in (
      subst (λ (results : Vec PacketResult Global). IsHandedIn limit (read ++ more) (share_of driver)
          (into_iter_items driver.packets) results.items queued) (sym c.keep.ensures.results)
          (handed_longer more before.0),
      kept.1 ∙ ap (λ replies. replies ++ more) before.1,
    )

pub returns-clause-asked : goal.returns-clause-asked
returns-clause-asked c = λ packet limit queued read fewer asked complete.
    let driver = c.args.self.now in
    let kept = c.keep.ensures.replies complete in
    let before = asked kept.0 in
    let more = c.args.reply ∷ [] in
    let rest = packet ∷ into_iter_items driver.packets in (
      subst (λ (results : Vec PacketResult Global). IsHandedIn limit (read ++ more) (share_of driver) rest results.items queued)
          (sym c.keep.ensures.results)
          (handed_longer more before.0),
      kept.1 ∙ ap (λ replies. replies ++ more) before.1,
    )
