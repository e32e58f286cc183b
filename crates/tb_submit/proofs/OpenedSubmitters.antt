-- The submitters of a queue, one after the other.
use Rattle.std.proofs.Common.{◌≡◌, ◌<◌, ℕ, zero, suc, ◌+◌, List, [], ◌∷◌, ◌++◌, map, length, get_or, sym, refl, ap, ◌∙◌, arith}
use Rattle.std.proofs.Math.ListN.{get_or-map}
use Rattle.tb_submit.proofs.Words.{map-append, ReplyValue, outlet_ring, Outlet, EndedState, Origin, Seat, SubmitterState, end_origin, new_submitter, origin_of, origins_from, ReaderState}

origins_more : (seats : ℕ → Seat) (number all : ℕ) (outlets : List (Outlet ReplyValue)) (outlet : Outlet ReplyValue)
    → all ≡ number + length outlets →
    origins_from seats number (outlets ++ outlet ∷ [])
    ≡ origins_from seats number outlets ++ record { seat = seats all; ring = outlet_ring outlet } ∷ []
origins_more seats number all [] outlet is = let same : number ≡ all =
    omega (arith, is) in ap (λ n. record { seat = seats n; ring = outlet_ring outlet } ∷ []) same
origins_more seats number all (first ∷ outlets) outlet is =
    ap (λ rest. record { seat = seats number; ring = outlet_ring first } ∷ rest)
    (origins_more seats (suc number) all outlets outlet (omega (arith, is)))

pub opened_more : (credit number : ℕ) (seats : ℕ → Seat) (outlets : List (Outlet ReplyValue))
    {opened : List SubmitterState} (outlet : Outlet ReplyValue) {one : SubmitterState} → length outlets ≡ number →
    opened ≡ map (new_submitter credit) (origins_from seats 0 outlets)
    → one ≡ new_submitter credit (record { seat = seats number; ring = outlet_ring outlet }) →
    opened ++ one ∷ [] ≡ map (new_submitter credit) (origins_from seats 0 (outlets ++ outlet ∷ []))
opened_more credit number seats outlets outlet long opened_is one_is =
    let origin : Origin = record { seat = seats number; ring = outlet_ring outlet } in
    (λ i. opened_is i ++ one_is i ∷ [])
    ∙ sym (map-append (new_submitter credit) (origins_from seats 0 outlets) (origin ∷ []))
    ∙ ap (map (new_submitter credit)) (sym (origins_more seats 0 number outlets outlet (omega (arith, long))))

pub origins_back : (credit : ℕ) (origins : List Origin) → map origin_of (map (new_submitter credit) origins) ≡ origins
origins_back credit [] = refl
origins_back credit (origin ∷ origins) = ap (λ rest. origin ∷ rest) (origins_back credit origins)

pub reader_counted : (a b : ReaderState) {count : ℕ} → (a.queue ≡ b.queue) × (a.capacity ≡ b.capacity)
    → (a.entries ≡ b.entries) × (a.taken ≡ b.taken) × (a.seen_empty ≡ b.seen_empty) × (a.learned ≡ b.learned)
    → a.count ≡ count → a ≡ record b { count = count }
reader_counted a b queue same is =
    λ i. record {
      queue = queue.0 i;
      capacity = queue.1 i;
      entries = same.0 i;
      taken = same.1 i;
      count = is i;
      seen_empty = same.2 i;
      learned = same.3 i;
    }

-- ---- ends with their outlets

pub ends_long : (seats : ℕ → Seat) (number : ℕ) (ends : List EndedState) (outlets : List (Outlet ReplyValue))
    → map end_origin ends ≡ origins_from seats number outlets → length ends ≡ length outlets
ends_long seats number [] [] is = refl
ends_long seats number [] (outlet ∷ outlets) is = cc
ends_long seats number (ended ∷ ends) [] is = cc
ends_long seats number (ended ∷ ends) (outlet ∷ outlets) is = ap suc (ends_long seats (suc number) ends outlets cc)

origins_at : (seats : ℕ → Seat) (number k : ℕ) (outlets : List (Outlet ReplyValue)) (d : Origin) → k < length outlets
    → ((get_or (origins_from seats number outlets) k d).seat ≡ seats (number + k))
    × ((o : Outlet ReplyValue) → (get_or (origins_from seats number outlets) k d).ring ≡ outlet_ring (get_or outlets k o))
origins_at seats number k [] d below = absurd (omega (arith, below))
origins_at seats number zero (outlet ∷ outlets) d below = (ap seats (omega arith), λ o. refl)
origins_at seats number (suc k) (outlet ∷ outlets) d below =
    let rest = origins_at seats (suc number) k outlets d (omega (arith, below)) in
    (rest.0 ∙ ap seats (omega arith), rest.1)

pub origin_at : (seats : ℕ → Seat) (ends : List EndedState) (outlets : List (Outlet ReplyValue))
    → map end_origin ends ≡ origins_from seats 0 outlets → (k : ℕ) (d : EndedState) → k < length ends
    → ((get_or ends k d).origin.seat ≡ seats k)
    × ((o : Outlet ReplyValue) → (get_or ends k d).origin.ring ≡ outlet_ring (get_or outlets k o))
origin_at seats ends outlets is k d below =
    let here = sym (get_or-map end_origin ends k d) ∙ ap (λ os. get_or os k d.origin) is in
    let there = origins_at seats 0 k outlets d.origin (omega (arith, below, ends_long seats 0 ends outlets is)) in (
      ap (λ (o : Origin). o.seat) here ∙ there.0 ∙ ap seats (omega arith),
      (λ o. ap (λ (r : Origin). r.ring) here ∙ there.1 o),
    )
