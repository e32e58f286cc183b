use Rattle.std.proofs.Common.{rules, ◌≡◌, ◌∷◌, ◌++◌, [], sym, subst}
use Rattle.tb_program.proofs.Words.{AreDealt}
use Rattle.tb_program.proofs.Sharing.{one_more_submitter}
use Rattle.tb_program.proofs.run.share.Shares.new.Goals as goal

pub loop-preserved : goal.loop-preserved
loop-preserved c =
    let pushed : c.push.new.self.items ≡ c.loop.packets.items ++ c.new.result ∷ [] = search rules in
    record {
      number = search rules;
      packets = subst (λ shares. AreDealt 0 shares []) (sym pushed)
          (one_more_submitter 0 c.loop.packets.items c.new.result c.new.ensures.items c.loop.invariant.packets);
    }
