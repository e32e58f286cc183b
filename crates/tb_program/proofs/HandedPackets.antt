-- Packets handed in one after another, and the result of each.
use Rattle.std.proofs.Common.{◌≡◌, ◌∙◌, ℕ, suc, None, List, [], ◌∷◌, ◌++◌, append_assoc, length, refl, ap, sym, subst, arith}
use Rattle.tb_program.proofs.Words.{append-nil, length-append, length-map, map-append, IsFinalRefusal, final_refusal, Numbered, ReplyValue, Packet, Cause, queued_among, AreResultsOfPackets, IsHandedIn, IsResultOfPacket, kept, packets_in, PacketResult}
use Rattle.tb_program.proofs.RefusalReasons.{admitted, refused_longer, rightly_refused}
use Rattle.tb_program.specs.declared.run.notes.PacketResult.TheVariants.{Queued, Refused}

-- what is then kept of the packets before, and of one more
kept_with : (handed more : List Packet) (results also : List PacketResult) → length results ≡ length handed
    → kept (handed ++ more) (results ++ also) ≡ kept handed results ++ kept more also
kept_with [] more [] also long = refl
kept_with [] more (first ∷ results) also long = absurd (omega (arith, long))
kept_with (packet ∷ handed) more [] also long = absurd (omega (arith, long))
kept_with (packet ∷ handed) more (Queued ∷ results) also long =
    ap (λ packets. packet ∷ packets) (kept_with handed more results also (omega (arith, long)))
kept_with (packet ∷ handed) more (Refused refusal ∷ results) also long =
    kept_with handed more results also (omega (arith, long))

module _ (limit : ℕ) (read : List ReplyValue) where
  right_with : (handed : List Packet) (results : List PacketResult) (packet : Packet) (last : PacketResult)
      → length results ≡ length handed → AreResultsOfPackets limit read handed results
      → IsResultOfPacket limit read packet last
      → AreResultsOfPackets limit read (handed ++ packet ∷ []) (results ++ last ∷ [])
  right_with [] [] packet last long all one = (one, tt)
  right_with [] (first ∷ results) packet last long all one = absurd (omega (arith, long))
  right_with (p ∷ handed) [] packet last long all one = absurd (omega (arith, long))
  right_with (p ∷ handed) (first ∷ results) packet last long all one =
      (all.0, right_with handed results packet last (omega (arith, long)) all.1 one)

module _ {limit : ℕ} {read : List ReplyValue} {share rest : List Packet} {packet : Packet} {results : List PacketResult}
    {queued : List Numbered} (before : IsHandedIn limit read share (packet ∷ rest) results queued) where
  one_more : (last : PacketResult) (more : List Numbered) → packets_in more ≡ kept (packet ∷ []) (last ∷ [])
      → IsResultOfPacket limit read packet last
      → IsHandedIn limit read share rest (results ++ last ∷ []) (queued ++ more)
  one_more last more is right = record {
    handed = before.handed ++ packet ∷ [];
    parts = before.parts ∙ sym (append_assoc before.handed (packet ∷ []) rest);
    number = omega (arith, before.number, length-append results (last ∷ []), length-append before.handed (packet ∷ []));
    agrees = map-append (λ (job : Numbered). job.packet) queued more
        ∙ ap (λ packets. packets ++ packets_in more) before.agrees
        ∙ ap (λ packets. kept before.handed results ++ packets) is
        ∙ sym (kept_with before.handed (packet ∷ []) results (last ∷ []) before.number);
    right = right_with limit read before.handed results packet last before.number before.right right;
  }

  pub one_queued : (job : Numbered) → job.packet ≡ packet → final_refusal limit read packet ≡ None
      → IsHandedIn limit read share rest (results ++ Queued ∷ []) (queued ++ job ∷ [])
  one_queued job is none =
      one_more Queued (job ∷ []) (ap (λ p. p ∷ []) is) (admitted limit read packet none)

  pub one_refused : (refusal : Cause) → IsFinalRefusal limit read packet refusal
      → IsHandedIn limit read share rest (results ++ Refused refusal ∷ []) queued
  one_refused refusal is =
      subst (λ jobs. IsHandedIn limit read share rest (results ++ Refused refusal ∷ []) jobs) (append-nil queued)
      (one_more (Refused refusal) [] refl (rightly_refused limit read packet refusal is))

-- replies that come later leave it so
right_longer : (limit : ℕ) (read more : List ReplyValue) (handed : List Packet) (results : List PacketResult)
    → AreResultsOfPackets limit read handed results → AreResultsOfPackets limit (read ++ more) handed results
right_longer limit read more [] results all = tt
right_longer limit read more (packet ∷ handed) [] all = tt
right_longer limit read more (packet ∷ handed) (Queued ∷ results) all =
    (all.0, right_longer limit read more handed results all.1)
right_longer limit read more (packet ∷ handed) (Refused refusal ∷ results) all =
    (refused_longer limit read more packet refusal all.0, right_longer limit read more handed results all.1)

pub handed_longer : {limit : ℕ} {read : List ReplyValue} (more : List ReplyValue) {share rest : List Packet}
    {results : List PacketResult} {queued : List Numbered} → IsHandedIn limit read share rest results queued
    → IsHandedIn limit (read ++ more) share rest results queued
handed_longer {limit} {read} more {results = results} is = record {
  handed = is.handed;
  parts = is.parts;
  number = is.number;
  agrees = is.agrees;
  right = right_longer limit read more is.handed results is.right;
}

as_many_kept : (handed : List Packet) (results : List PacketResult) → length results ≡ length handed
    → length (kept handed results) ≡ queued_among results
as_many_kept [] [] long = refl
as_many_kept [] (first ∷ results) long = absurd (omega (arith, long))
as_many_kept (packet ∷ handed) [] long = absurd (omega (arith, long))
as_many_kept (packet ∷ handed) (Queued ∷ results) long = ap suc (as_many_kept handed results (omega (arith, long)))
as_many_kept (packet ∷ handed) (Refused refusal ∷ results) long = as_many_kept handed results (omega (arith, long))

-- as many packets are queued as were reported queued
pub as_many_queued : {limit : ℕ} {read : List ReplyValue} {share rest : List Packet} {results : List PacketResult}
    {queued : List Numbered} → IsHandedIn limit read share rest results queued → queued_among results ≡ length queued
as_many_queued {results = results} {queued = queued} is =
    sym (as_many_kept is.handed results is.number) ∙ sym (ap length is.agrees)
    ∙ length-map queued (λ (job : Numbered). job.packet)
