-- Stubs that are counted are read back as they were written.
use Rattle.std.proofs.Common.{◌≡◌, suc, ◌<◌, ◌+◌, ◌*◌, ◌^◌, ◌/◌, ◌%◌, ℕ, Bool, true, false, List, [], ◌∷◌, Option, Some, None, refl, sym, ap, ◌∙◌, arith, length, length-append, map, drop}
use Rattle.tb_durable.proofs.Words.{◌==◌, ◌&&◌, ◌||◌, IsSome, get_or, nat_lt, slice_index_or, if◌then◌else◌, flat_map, AllByRecursion, and_parts, ltb-true, drop_at, drop_more, take_at, Stub, event_size, Numbered, stub_of, admitted_are_whole, AreAdmitted, PacketCounts, counted, follows, stub_at, stub_bytes, stub_in, stubs_bytes, stubs_in, word_of}
use Rattle.std.specs.List.{slice_get}
use Rattle.std.specs.Simd.{first_chunks}
use Rattle.tb_layout.specs.claim.Bounds.{submitters_max}
use Rattle.tb_layout.proofs.Numbers.{length-bytes_of, little_endian-bytes_of}
use Rattle.tb_durable.specs.clauses.Counts.{counted_all}

-- ---- one after the other, in bytes of one size

module _ {A : Type 0} (write : A → List ℕ) (size : ℕ) (sized : (a : A) → length (write a) ≡ size) where
  length-laid : (xs : List A) → length (flat_map write xs) ≡ length xs * size
  length-laid [] = omega arith
  length-laid (x ∷ xs) =
      length-append (write x) (flat_map write xs) ∙ ap (λ n. n + length (flat_map write xs)) (sized x)
      ∙ ap (λ n. size + n) (length-laid xs) ∙ one_more_size (length xs)
    where
      one_more_size : (n : ℕ) → size + n * size ≡ suc n * size
      one_more_size n = grind arith

  chunks-laid : (xs : List A) → first_chunks size (length xs) (flat_map write xs) ≡ map write xs
  chunks-laid [] = refl
  chunks-laid (x ∷ xs) =
      rw (
        take_at (write x) (flat_map write xs) size (sized x),
        drop_at (write x) (flat_map write xs) size (sized x),
        chunks-laid xs,
      ) refl

-- ---- stubs

-- a stub's parts are in range
pub record IsInRange (stub : Stub) : Type 0 where
  pub number : stub.number < 2 ^ 64
  pub submitter : stub.submitter < 2 ^ 32
  pub count : stub.count < 2 ^ 32

word_read : (stub : Stub) → IsInRange stub → stub_in (word_of stub) ≡ stub
word_read stub is =
    let number : word_of stub % 2 ^ 64 ≡ stub.number = omega (arith, is.number, is.submitter, is.count) in
    let submitter : word_of stub / 2 ^ 64 % 2 ^ 32 ≡ stub.submitter = omega (arith, is.number, is.submitter, is.count) in
    let count : word_of stub / 2 ^ 64 / 2 ^ 32 ≡ stub.count = omega (arith, is.number, is.submitter, is.count) in
    rw (number, submitter, count) refl

stub_read : (stub : Stub) → IsInRange stub → stub_at (stub_bytes stub) ≡ stub
stub_read stub is =
    ap stub_in (little_endian-bytes_of 16 (word_of stub) (omega (arith, is.number, is.submitter, is.count))) ∙ word_read stub is

each_read : (stubs : List Stub) → AllByRecursion IsInRange stubs → map stub_at (map stub_bytes stubs) ≡ stubs
each_read [] all = refl
each_read (stub ∷ stubs) all = rw (stub_read stub all.0, each_read stubs all.1) refl

pub stub_length : (stub : Stub) → length (stub_bytes stub) ≡ 16
stub_length stub = length-bytes_of 16 (word_of stub)

pub stubs_whole : (stubs : List Stub) → length (stubs_bytes stubs) % 16 ≡ 0
stubs_whole stubs = omega (arith, length-laid stub_bytes 16 stub_length stubs)

pub stubs_read : (stubs : List Stub) → AllByRecursion IsInRange stubs → stubs_in (stubs_bytes stubs) ≡ stubs
stubs_read stubs all =
    let count : length (stubs_bytes stubs) / 16 ≡ length stubs = omega (arith, length-laid stub_bytes 16 stub_length stubs) in
    ap (λ n. map stub_at (first_chunks 16 n (stubs_bytes stubs))) count
    ∙ ap (map stub_at) (chunks-laid stub_bytes 16 stub_length stubs) ∙ each_read stubs all

-- ---- counted stubs

chosen : {A : Type 0} (b : Bool) (x : Option A) (after : A) → (if b then x else None) ≡ Some after
    → (b ≡ true) × (x ≡ Some after)
chosen true x after is = (refl, is)
chosen false x after is = cc

-- a packet that is counted follows, and the others are counted after it
counted_first : (before after : PacketCounts) (stub : Stub) (stubs : List Stub)
    → counted_all before (stub ∷ stubs) ≡ Some after
    → (follows before stub ≡ true) × (counted_all (counted before stub) stubs ≡ Some after)
unfolding counted_all
counted_first before after stub stubs is =
    chosen (follows before stub) (counted_all (counted before stub) stubs) after is

-- the packets of a batch that are counted
pub counted_in_range : (before after : PacketCounts) (jobs : List Numbered) → AreAdmitted jobs
    → counted_all before (map stub_of jobs) ≡ Some after → AllByRecursion IsInRange (map stub_of jobs)
counted_in_range before after [] all is = tt
counted_in_range before after (job ∷ jobs) all is =
    let stub = stub_of job in
    let first = counted_first before after stub (map stub_of jobs) is in
    let among = and_parts (nat_lt stub.submitter submitters_max)
    ((stub.number == 0 || stub.number == slice_index_or before.numbers stub.submitter 0)
    && (nat_lt (stub.number + 1) (2 ^ 64) && nat_lt (slice_index_or before.packets stub.submitter 0 + 1) (2 ^ 64))) first.0 in
    let bounds = and_parts (nat_lt (stub.number + 1) (2 ^ 64)) (nat_lt (slice_index_or before.packets stub.submitter 0 + 1) (2 ^ 64))
    (and_parts (stub.number == 0 || stub.number == slice_index_or before.numbers stub.submitter 0)
    (nat_lt (stub.number + 1) (2 ^ 64) && nat_lt (slice_index_or before.packets stub.submitter 0 + 1) (2 ^ 64)) among.1).1 in
    let whole = admitted_are_whole 8190 job.packet.bytes (event_size job.packet.operation) all.0 in (
      record {
        number = omega (arith, ltb-true (stub.number + 1) (2 ^ 64) bounds.0);
        submitter = omega (arith, ltb-true stub.submitter submitters_max among.0);
        count = omega (arith, whole.few);
      },
      counted_in_range (counted before stub) after jobs all.1 first.1,
    )

-- ---- counted one after the other

pub counted_none : (counts : PacketCounts) → counted_all counts [] ≡ Some counts
unfolding counted_all
counted_none counts = refl

pub counted_step : (counts : PacketCounts) (stub : Stub) (stubs : List Stub) → true ≡ follows counts stub
    → counted_all counts (stub ∷ stubs) ≡ counted_all (counted counts stub) stubs
unfolding counted_all
counted_step counts stub stubs is = rw (sym is) refl

none_follows : (b : Bool) (x : Option PacketCounts) → false ≡ b → IsSome (if b then x else None) → ⊥
none_follows true x is some = cc
none_follows false x is some = cc

pub counted_follows : (counts : PacketCounts) (stub : Stub) (stubs : List Stub) → IsSome (counted_all counts (stub ∷ stubs))
    → false ≡ follows counts stub → ⊥
unfolding counted_all
counted_follows counts stub stubs some is =
    none_follows (follows counts stub) (counted_all (counted counts stub) stubs) is some

-- the stubs of the chunks that are left
pub stubs_left : (chunks : List (List ℕ)) (index : ℕ) (other : List ℕ) (stub : Stub) → index < length chunks
    → stub ≡ stub_at (get_or chunks index other)
    → map stub_at (drop index chunks) ≡ stub ∷ map stub_at (drop (index + 1) chunks)
stubs_left chunks index other stub more is =
    ap (map stub_at) (drop_more chunks index other more)
    ∙ ap (λ (first : Stub). first ∷ map stub_at (drop (index + 1) chunks)) (sym is)

-- the stub of the first chunk
pub first_stub : (chunks : List (List ℕ)) (chunk : List ℕ) (stub : Stub) → Some chunk ≡ slice_get chunks 0 → stub ≡ stub_at chunk
    → map stub_at chunks ≡ stub ∷ map stub_at (drop 1 chunks)
first_stub [] chunk stub some is = absurd cc
first_stub (first ∷ chunks) chunk stub some is =
    let same : chunk ≡ first = cc in
    rw (is, same) refl
