use Rattle.std.proofs.Common.{rules, ◌≡◌, ◌≢◌, ◌<◌, ◌+◌, ⊎_elim, ℕ, List, [], ◌∷◌, ◌++◌, map, take, length, get_or, set, Some, true, sym, ap, ◌∙◌, subst, arith, append_assoc, length-set, get_or-set_other}
use Rattle.std.proofs.Math.ListN.{get_or-map}
use Rattle.std.proofs.Math.Seq.{map-set_same}
use Rattle.std.proofs.lemmas.List.{get_or_default, map_more, set-get_or}
use Rattle.tb_submit.proofs.Words.{get_or-set_same, cases_eq, ReplyValue, given, outlet_ring, Outlet, EndedState, Seat, seat_at, ReaderState, entry_of}
use Rattle.tb_submit.proofs.OpenedSubmitters.{ends_long, origin_at}
use Rattle.tb_submit.proofs.DrainedQueue.{IsFiled}
use Rattle.tb_submit.proofs.settling.settle_all.Goals as goal

-- what holds of each of the first elements
abbrev AllBefore : {A : Type 0} → (ℕ → A → Type 0) → List A → ℕ → Type 0
AllBefore {A} F xs k = (j : ℕ) (d : A) → j < k → F j (get_or xs j d)

one_further : {A : Type 0} (F : ℕ → A → Type 0) (xs : List A) (k : ℕ) (x : A) → k < length xs → F k x
    → AllBefore F xs k → AllBefore F (set xs k x) (k + 1)
one_further F xs k x within here before = λ j d below. ⊎_elim
    (λ (is : j ≡ k). subst (λ i. F i (get_or (set xs k x) i d)) (sym is)
    (subst (F k) (sym (get_or-set_same xs k x d within)) here))
    (λ (other : j ≢ k). subst (F j) (sym (get_or-set_other xs k j x d other))
    (before j d (omega (arith, below, other))))
    (cases_eq j k)

-- what a new end has in common with the one at its index is in common at each index
kept_at : {A : Type 0} (f : EndedState → A) (ls xs : List EndedState) (k : ℕ) (new old : EndedState)
    → f new ≡ f (get_or ls k old) → ((j : ℕ) (d : EndedState) → f (get_or ls j d) ≡ f (get_or xs j d))
    → (j : ℕ) (d : EndedState) → f (get_or (set ls k new) j d) ≡ f (get_or xs j d)
kept_at f ls xs k new old here before = λ j d. sym (get_or-map f (set ls k new) j d)
    ∙ ap (λ values. get_or values j (f d)) (map-set_same f ls k new old here) ∙ get_or-map f ls j d ∙ before j d

pub index_mut-requires-in-loop-k : goal.index_mut-requires-in-loop-k
index_mut-requires-in-loop-k c =
    let long = ends_long (seat_at c.requires.0) 0 c.args.ends.items c.args.outlets.items c.requires.2 in
    omega (
      arith,
      long,
      c.loop-k.invariant.outlets,
      c.loop-k.outlets.ok.0,
      c.args.ends.ok.0,
      c.len-k-end.ensures,
      c.loop-k-test.true,
    )

origin_of_one : (c : goal.After-index_mut-in-loop-k)
    → (c.index_mut.result.now.origin.seat ≡ seat_at c.requires.0 c.loop-k.k)
    × (c.index_mut.result.now.origin.ring ≡ outlet_ring c.index_mut-in-loop-k.result.now)
origin_of_one c =
    let k = c.loop-k.k in
    let x = c.index_mut.result.now in
    let y = c.index_mut-in-loop-k.result.now in
    let x_same = c.index_mut.ensures.value ∙ c.loop-k.invariant.rest k x (omega arith) in
    let y_same = c.index_mut-in-loop-k.ensures.value ∙ c.loop-k.invariant.ungiven k y (omega arith) in
    let origin = origin_at (seat_at c.requires.0) c.args.ends.items c.args.outlets.items c.requires.2 k x
    (omega (arith, c.args.ends.ok.0, c.len-k-end.ensures, c.loop-k-test.true)) in (
      ap (λ (e : EndedState). e.origin.seat) x_same ∙ origin.0,
      ap (λ (e : EndedState). e.origin.ring) x_same ∙ origin.1 y ∙ ap outlet_ring (sym y_same),
    )

pub settle-requires-clause-queue : goal.settle-requires-clause-queue
settle-requires-clause-queue c =
    ap (λ (seat : Seat). seat.queue) (origin_of_one c).0
    ∙ ap Some (c.requires.1 ∙ sym (ap (λ (r : ReaderState). r.queue) c.loop-k.invariant.reader))

pub settle-requires-clause-ring : goal.settle-requires-clause-ring
settle-requires-clause-ring c = (origin_of_one c).1

pub loop-k-preserved : goal.loop-k-preserved
loop-k-preserved c =
    let k = c.loop-k.k in
    let xs = c.args.ends.items in
    let os = c.args.outlets.items in
    let ls = c.loop-k.ends.items in
    let ms = c.loop-k.outlets.items in
    let x = c.index_mut.result.now in
    let y = c.index_mut-in-loop-k.result.now in
    let inv = c.loop-k.invariant in
    let within : k < length xs = omega (arith, c.args.ends.ok.0, c.len-k-end.ensures, c.loop-k-test.true) in
    let inside : k < length ls = omega (arith, within, inv.long) in
    let among : k < length os = omega (arith, within, ends_long (seat_at c.requires.0) 0 xs os c.requires.2) in
    let x_same : x ≡ get_or xs k x = c.index_mut.ensures.value ∙ inv.rest k x (omega arith) in
    let y_same : y ≡ get_or os k y = c.index_mut-in-loop-k.ensures.value ∙ inv.ungiven k y (omega arith) in
    let before = c.args.reader.now.entries in
    let learned = c.settle.new.reader.learned in
    let read_of = λ (e : EndedState). e.read in
    let ring_of = λ (e : EndedState). e.origin.ring in
    record {
      reader = c.settle.ensures.entries
          ∙ ap (λ (r : ReaderState). record r { entries = r.entries ++ entry_of x ∷ []; learned = learned }) inv.reader
          ∙ ap (λ es. record c.args.reader.now { entries = es; learned = learned })
          (append_assoc before (map entry_of (take k xs)) (entry_of x ∷ [])
          ∙ (λ i. before ++ (map entry_of (take k xs) ++ entry_of (x_same i) ∷ []))
          ∙ ap (λ es. before ++ es) (sym (map_more entry_of xs k x within)));
      long = length-set ls k c.settle.new.self ∙ inv.long;
      outlets = length-set ms k c.settle.new.outlet ∙ inv.outlets;
      rest = λ j d far. get_or-set_other ls k j c.settle.new.self d (λ is. omega (arith, far, is))
          ∙ inv.rest j d (omega (arith, far));
      ungiven = λ j d far. get_or-set_other ms k j c.settle.new.outlet d (λ is. omega (arith, far, is))
          ∙ inv.ungiven j d (omega (arith, far));
      read = kept_at read_of ls xs k c.settle.new.self x (c.settle.ensures.read ∙ ap read_of c.index_mut.ensures.value)
          inv.read;
      rings = kept_at ring_of ls xs k c.settle.new.self x (c.settle.ensures.ring ∙ ap ring_of c.index_mut.ensures.value)
          inv.rings;
      settled = one_further (λ i (e : EndedState). e.settled ≡ true) ls k c.settle.new.self inside
          c.settle.ensures.settled inv.settled;
      filed = subst (λ es. AllBefore (λ i. IsFiled) es (k + 1)) (ap (set xs k) x_same ∙ set-get_or xs k x)
          (one_further (λ i. IsFiled) xs k x within c.settle.ensures.filed inv.filed);
      replies = λ j d o below. one_further (λ i (e : EndedState). (q : Outlet ReplyValue)
          → e.read ++ e.lying ≡ given (get_or os i q)) ls k c.settle.new.self inside
          (λ q. c.settle.ensures.replies ∙ ap given (y_same ∙ get_or_default os k y q among))
          (λ i e before q. inv.replies i e q before) j d below o;
    }

pub loop-k-init : goal.loop-k-init
loop-k-init c = search rules
