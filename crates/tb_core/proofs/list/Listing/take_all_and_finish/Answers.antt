use Rattle.tb_core.proofs.list.Listing.take_all_and_finish.Goals as goal

pub returns : goal.returns
returns c =
    λ start limit run. c.finish.ensures start limit c.args.items.items (c.in_ok-take_all.ensures start limit run)
