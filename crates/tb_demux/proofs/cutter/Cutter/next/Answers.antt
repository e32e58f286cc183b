use Rattle.std.proofs.Common.{◌≡◌, ap, sym, ◌∙◌, ◌∷◌, subst}
use Rattle.std.specs.Vec.Iter.{into_iter_items}
use Rattle.tb_demux.specs.declared.source.ReplySource.{ReplySource}
use Rattle.tb_demux.specs.clauses.Remaining.{IsSourceOf, replies_remaining}
use Rattle.tb_demux.proofs.Cuts.{next_remaining, next_replies, none_left, none_remaining}
use Rattle.tb_demux.proofs.cutter.Cutter.next.Goals as goal
use Rattle.tb_demux.proofs.cutter.Cutter.next.Goals.{in-Failures, in-Lookup, in-Shutdown, in-Stopped}

pub invariant_of-self-2 : goal.invariant_of-self-2
invariant_of-self-2 c =
    let job = c.in_ok-job.job in
    let rest = into_iter_items c.next.new.self in
    let known : (source : ReplySource) → c.self.inside.source ≡ source → IsSourceOf source (job ∷ rest) =
    λ source is. subst (λ s. IsSourceOf s (job ∷ rest)) is
    (subst (λ jobs. IsSourceOf c.self.inside.source jobs) c.in_ok-job.ensures.items c.self.invariant) in
    elim c.match-self.branch [
      | in-Failures w ↦ let left =
          w.reply.ensures in rw w.self-inside-is (next_remaining w.reply.new.self
          (known _ w.in-Failures.is) left.left left.taken left.offset left.place)
      | in-Lookup w ↦ rw w.self-inside-is (none_left w.in-Lookup.outcome w.replace.new.dest job rest
          (known _ w.in-Lookup.is))
      | in-Shutdown w ↦ rw (w.self-inside-is, w.in-Shutdown.is) tt
      | in-Stopped w ↦ rw (w.self-inside-is, w.in-Stopped.is) tt
    ]

pub returns-clause-some : goal.returns-clause-some
returns-clause-some c =
    let job = c.in_ok-job.job in
    let rest = into_iter_items c.next.new.self in
    let started : (source : ReplySource) → c.self.inside.source ≡ source
    → c.args.self.now ≡ replies_remaining source (job ∷ rest) =
    λ source is. sym c.self.view_is ∙ ap (λ jobs. replies_remaining c.self.inside.source jobs) c.in_ok-job.ensures.items
    ∙ ap (λ s. replies_remaining s (job ∷ rest)) is in
    elim c.match-self.branch [
      | in-Failures w ↦ let left =
          w.reply.ensures in rw (w.self-inside-is, w.result-is, left.reply)
          (started _ w.in-Failures.is ∙ next_replies w.in-Failures.remaining_failures w.reply.new.self job rest
          left.left left.offset left.place)
      | in-Lookup w ↦ let fits =
          subst (λ s. IsSourceOf s (job ∷ rest)) w.in-Lookup.is
          (subst (λ jobs. IsSourceOf c.self.inside.source jobs) c.in_ok-job.ensures.items c.self.invariant) in
          rw (w.self-inside-is, w.result-is, w.of.ensures, w.replace.ensures.value)
          (started _ w.in-Lookup.is ∙ none_remaining w.in-Lookup.outcome w.replace.new.dest job rest fits)
      | in-Shutdown w ↦ rw (w.self-inside-is, w.result-is, w.of-in-Shutdown.ensures, w.in-Shutdown.is)
          (started _ w.in-Shutdown.is)
      | in-Stopped w ↦ rw (w.self-inside-is, w.result-is, w.of-in-Stopped.ensures, w.in-Stopped.is)
          (started _ w.in-Stopped.is)
    ]
