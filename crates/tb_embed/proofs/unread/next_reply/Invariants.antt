use Rattle.std.proofs.Common.{◌≡◌, ◌≤◌, ◌++◌, [], length}
use Rattle.std.specs.List.{flat_map}
use Rattle.std.specs.VecDeque.{deque_len, deque_capacity}
use Rattle.tb_embed.proofs.Words.{replies_in}
use Rattle.tb_embed.specs.inside.Unread.{replies_of}
use Rattle.tb_embed.proofs.unread.next_reply.Given as goal

abbrev pub invariant-loop-first : goal.invariant-loop-first
invariant-loop-first l =
    (replies_of l.cutter ≡ [])
    × (replies_of l.fn.cutter ++ flat_map replies_in l.fn.outcomes.items ≡ flat_map replies_in l.outcomes.items)
    × (deque_capacity l.outcomes ≡ deque_capacity l.fn.outcomes)
    × (deque_len l.outcomes ≤ deque_len l.fn.outcomes)

abbrev pub decreases-loop-first : goal.decreases-loop-first
decreases-loop-first l = length l.outcomes.items
