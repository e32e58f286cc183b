use Rattle.std.proofs.Common.{rules, ◌≡◌, ◌∙◌, ℕ, List, [], ◌∷◌, length, true, refl, ap}
use Rattle.tb_drive.proofs.Opened.{all_opened}
use Rattle.tb_drive.specs.clauses.Seen.{jobs_in}
use Rattle.tb_work.specs.declared.item.Item.{Item}
use Rattle.tb_pipe_tests.specs.clauses.Reading.{IsIdle}
use Rattle.tb_pipe_tests.specs.declared.tests.reading.Reader.{Reader}
use Rattle.tb_pipe_tests.proofs.Reading.{one_has_read}
use Rattle.tb_pipe_tests.proofs.tests.reading.run_reader.Goals as goal

pub drive_all-requires-clause-seen : goal.drive_all-requires-clause-seen
drive_all-requires-clause-seen g c κs within =
    let opened = c.in-Ok.opened in
    let is : c.in_ok-readers.readers.items ≡ c.args.reader ∷ [] = search rules in
    let idle = all_opened IsIdle 4 opened.pipeline.submitters opened.submitters.items (λ origin. (refl, refl))
    c.in-Ok.ensures.submitters in
    one_has_read (λ (reader : Reader). reader.exact ≡ true) (λ (reader : Reader). reader.unread) c.args.reader
    c.in_ok-readers.readers.items opened.submitters.items is c.requires idle.0

pub returns-in-Ok-drive_all : goal.returns-in-Ok-drive_all
returns-in-Ok-drive_all g c =
    let reported = c.in-Ok-drive_all.ensures.reported in (
      _,
      λ k driver ended driver_is ended_is exact. reported.ended k driver ended driver_is ended_is exact
          ∙ ap (λ (queued : ℕ → List Item). length (jobs_in (queued k))) reported.queued_are,
    )
