use Rattle.std.proofs.Common.{◌<◌, length, ap, refl}
use Rattle.tb_drive.proofs.Words.{SubmitterState, origin_of, jobs_in}
use Rattle.tb_drive.proofs.Seen.{fewer_read}
use Rattle.tb_drive.proofs.submitting.read.Goals as goal

pub returns-in-Some : goal.returns-in-Some
returns-in-Some g c =
    let is = c.in-Some.ensures.some in
    let few : length c.args.submitter.now.read < length (jobs_in c.args.submitter.now.queued) =
    fewer_read _ _ _ _ _ c.in_flight.ensures.packets c.in_flight.ensures.value c.if-in_flight-eq0.false in
    record {
      own = ap origin_of is;
      front = ap (λ (one : SubmitterState). one.queued) is;
      seen = λ had. rw is (c.receive.ensures.seen _ _ _ few had);
      ended = λ had. rw is (c.receive.ensures.ended _ _ _ few had);
      asked = λ packet had. rw is (c.receive.ensures.asked packet _ _ _ few had);
      share = c.receive.ensures.share;
    }

pub returns-in-None : goal.returns-in-None
returns-in-None g c =
    let is = c.in-None.ensures.none in
    record {
      own = ap origin_of is;
      front = ap (λ (one : SubmitterState). one.queued) is;
      seen = λ had. rw is had;
      ended = λ had. rw is had;
      asked = λ packet had. rw is had;
      share = refl;
    }

pub returns-then-in_flight-eq0 : goal.returns-then-in_flight-eq0
returns-then-in_flight-eq0 g c = record {
  own = refl;
  front = refl;
  seen = λ had. had;
  ended = λ had. had;
  asked = λ packet had. had;
  share = refl;
}
