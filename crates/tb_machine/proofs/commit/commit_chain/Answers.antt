use Rattle.std.proofs.Common.{◌∙◌, sym, []}
use Rattle.tb_machine.proofs.FirstChain.{chain_results-chunks}
use Rattle.tb_machine.proofs.commit.commit_chain.Goals as goal

pub returns-then-is_chunk_linked-clause-committed : goal.returns-then-is_chunk_linked-clause-committed
returns-then-is_chunk_linked-clause-committed g c =
    rw (chain_results-chunks g.E.CreateEvent.operation g.E.CreateEvent.event_of c.args.start.clock c.args.tables.now.now
    c.args.chain.now [] c.requires.some (sym c.is_chunk_linked.ensures ∙ c.if-is_chunk_linked.true))
    c.commit_open_chain.ensures.committed

pub returns-else-is_chunk_linked-clause-committed : goal.returns-else-is_chunk_linked-clause-committed
returns-else-is_chunk_linked-clause-committed g c =
    rw (chain_results-chunks g.E.CreateEvent.operation g.E.CreateEvent.event_of c.args.start.clock c.args.tables.now.now
    c.args.chain.now [] c.requires.some (sym c.is_chunk_linked.ensures ∙ c.if-is_chunk_linked.false))
    c.commit_closed_chain.ensures.committed
