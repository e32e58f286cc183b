-- Each step keeps the rule.
use Rattle.std.proofs.Common.{◌≡◌, ◌≢◌, ◌⊎◌, ℕ, zero, suc, ◌+◌, ◌==◌, Bool, cond, List, [], ◌∷◌, ◌++◌, length, set, map, filter, sym, refl, ap, ◌∙◌, subst, ⊎_elim, inl, inr, append_assoc, append-nil, Option, Some, None, arith, nat_lt, true, false, ◌<◌, ◌≤◌}
use Rattle.tb_submit.proofs.Words.{map-append, filter-append, nat_tests, eq-eqb, ne_eqb, cases_eq, AllByRecursion, items_from, Ticket, BeginsWith, PassEntry, View, opening, entry, first_pushed, first_entry_with, with_pushed, taken_more, one_number_more, empty_more, TellsMark, empty_view, witness, next_of, view_counting_on, newcomer, view_seen_empty, both_views, view_learning, HasPushed, with_taken, Stands, FitsEntry, FitsMark, AllBegin, Fits, InView, QueueInvariant, Tells, TellsOwn}
use mathlib.Core.Option.{some, some-injective, some-ne-none}
use lib.ListN.{get_elem?}
use Rattle.crossbeam_queue.specs.Fifo.{Pops, Forks}
use Rattle.crossbeam_queue.proofs.Lists.{at_set, set_else, at_longer, at_last}
use Rattle.tb_submit.specs.declared.rule.IntakeMark.{IntakeMark}

-- a new value at a place that is taken
put_here : {A : Type 0} (l : List A) (i : ℕ) (a b : A) → get_elem? l i ≡ some a → get_elem? (set l i b) i ≡ some b
put_here [] i a b e = absurd (some-ne-none a (sym e))
put_here (x ∷ xs) zero a b e = refl
put_here (x ∷ xs) (suc i) a b e = put_here xs i a b e

at_end : {A : Type 0} (l : List A) (a b : A) (j : ℕ) → get_elem? (l ++ a ∷ []) j ≡ some b
    → (get_elem? l j ≡ some b) ⊎ ((j ≡ length l) × (a ≡ b))
at_end [] a b zero e = inr (refl, some-injective a b e)
at_end [] a b (suc j) e = absurd (some-ne-none b (sym e))
at_end (x ∷ xs) a b zero e = inl e
at_end (x ∷ xs) a b (suc j) e = ⊎_elim inl (λ r. inr (ap suc r.0, r.1)) (at_end xs a b j e)

abbrev AllAt : (ℕ → View → Type 0) → List View → Type 0
AllAt F views = (pass : ℕ) (v : View) → get_elem? views pass ≡ some v → F pass v

-- one view of the list is another
module _ (views : List View) (pass : ℕ) (w : View) where
  all_set : (F : ℕ → View → Type 0) → F pass w
      → ((j : ℕ) (u : View) → j ≢ pass → get_elem? views j ≡ some u → F j u) → AllAt F (set views pass w)
  all_set F mine others j u e =
      ⊎_elim (λ (x : (j ≡ pass) × (w ≡ u)). subst (λ (y : ℕ × View). F y.0 y.1) (λ i. (sym x.0 i, x.1 i)) mine)
      (λ (x : (j ≢ pass) × (get_elem? views j ≡ some u)). others j u x.0 x.1) (at_set views pass j w u e)

  -- if it loses no number, every number keeps its pass
  in_set : (v : View) → get_elem? views pass ≡ some v → ((s : ℕ) → Stands s v.entries → Stands s w.entries)
      → (p s : ℕ) → InView views p s → InView (set views pass w) p s
  in_set v at keeps p s h = ⊎_elim
      (λ (e : p ≡ pass). (
        w,
        subst (λ (q : ℕ). get_elem? (set views pass w) q ≡ some w) (sym e) (put_here views pass v w at),
        keeps s (subst (λ (u : View). Stands s u.entries)
            (some-injective h.0 v (sym h.1 ∙ ap (get_elem? views) e ∙ at)) h.2),
      ))
      (λ (n : p ≢ pass). (h.0, set_else views pass p w n ∙ h.1, h.2))
      (cases_eq p pass)

all_longer : (F : ℕ → View → Type 0) (views : List View) (r : View) → AllAt F views → F (length views) r
    → AllAt F (views ++ r ∷ [])
all_longer F views r old new j u e =
    ⊎_elim (old j u) (λ (is : (j ≡ length views) × (r ≡ u)). subst (λ (y : ℕ × View). F y.0 y.1)
    (λ i. (sym is.0 i, is.1 i)) new) (at_end views r u j e)

in_longer : (views : List View) (r : View) (p s : ℕ) → InView views p s → InView (views ++ r ∷ []) p s
in_longer views r p s h = (h.0, at_longer views (r ∷ []) p h.0 h.1, h.2)

pub each_map : {A : Type 0} (P Q : A → Type 0) (xs : List A) → ((x : A) → P x → Q x)
    → AllByRecursion P xs → AllByRecursion Q xs
each_map P Q [] f e = tt
each_map P Q (x ∷ xs) f e = (f x e.0, each_map P Q xs f e.1)

each_append : {A : Type 0} (P : A → Type 0) (xs ys : List A) → AllByRecursion P xs → AllByRecursion P ys
    → AllByRecursion P (xs ++ ys)
each_append P [] ys a b = b
each_append P (x ∷ xs) ys a b = (a.0, each_append P xs ys a.1 b)

stands_left : (s : ℕ) (xs ys : List PassEntry) → Stands s xs → Stands s (xs ++ ys)
stands_left s [] ys h = absurd h
stands_left s (x ∷ xs) ys h = ⊎_elim inl (λ r. inr (stands_left s xs ys r)) h

stands_right : (s : ℕ) (xs ys : List PassEntry) → Stands s ys → Stands s (xs ++ ys)
stands_right s [] ys h = h
stands_right s (x ∷ xs) ys h = inr (stands_right s xs ys h)

pub part_append : (s : ℕ) (xs ys : List Ticket) → items_from s (xs ++ ys) ≡ items_from s xs ++ items_from s ys
part_append s xs ys = ap (map (λ (t : Ticket). t.item)) (filter-append (λ (t : Ticket). t.sender == s) xs ys)
    ∙ map-append (λ (t : Ticket). t.item) (filter (λ (t : Ticket). t.sender == s) xs)
    (filter (λ (t : Ticket). t.sender == s) ys)

pub part_one : (s : ℕ) (x : Ticket) → x.sender ≡ s → items_from s (x ∷ []) ≡ x.item ∷ []
part_one s x e = ap (λ (b : Bool). map (λ (t : Ticket). t.item) (cond b (x ∷ []) [])) (eq-eqb x.sender s e)

part_other : (s : ℕ) (x : Ticket) → x.sender ≢ s → items_from s (x ∷ []) ≡ []
part_other s x n = ap (λ (b : Bool). map (λ (t : Ticket). t.item) (cond b (x ∷ []) [])) (ne_eqb x.sender s n)

-- a list with one more ticket at its end
part_more : (s : ℕ) (got items : List Ticket) (x : Ticket)
    → items_from s (got ++ (items ++ x ∷ [])) ≡ items_from s (got ++ items) ++ items_from s (x ∷ [])
part_more s got items x = ap (items_from s) (sym (append_assoc got items (x ∷ []))) ∙ part_append s (got ++ items) (x ∷ [])

part_same : (s : ℕ) (got items : List Ticket) (x : Ticket) → x.sender ≢ s
    → items_from s (got ++ (items ++ x ∷ [])) ≡ items_from s (got ++ items)
part_same s got items x n =
    part_more s got items x ∙ ap (λ l. items_from s (got ++ items) ++ l) (part_other s x n)
    ∙ append-nil (items_from s (got ++ items))

-- all tickets still begin with the same lists when one more is pushed
still_begin : (got items : List Ticket) (x : Ticket) (seen : List (List Ticket))
    → AllBegin (got ++ items) seen → AllBegin (got ++ (items ++ x ∷ [])) seen
still_begin got items x seen = each_map (BeginsWith (got ++ items)) (BeginsWith (got ++ (items ++ x ∷ []))) seen
    (λ l f. (
      f.0 ++ x ∷ [],
      sym (append_assoc l f.0 (x ∷ [])) ∙ ap (λ k. k ++ x ∷ []) f.1 ∙ append_assoc got items (x ∷ []),
    ))

pub begins : QueueInvariant [] (opening ∷ [])
begins = record {
  pass_of = λ s. 0;
  reader = 0;
  count = 0;
  taken = [];
  fits = all_longer (Fits (λ s. 0) 0 0 [] []) [] opening (λ j u e. absurd (some-ne-none u (sym e)))
      (tt, (refl, refl, refl), (([], refl), tt));
  stands = λ s below. absurd (omega arith);
  no_other_sender = λ s above. refl;
}

nothing_in : {A : Type 0} (xs ys : List A) (y : A) → xs ++ y ∷ ys ≡ [] → ⊥
nothing_in [] ys y e = cc
nothing_in (x ∷ xs) ys y e = cc

-- a number that has no part in the list isn't the sender of one in it
pub stands_in : (got items : List Ticket) (x : Ticket) → items_from x.sender (got ++ x ∷ items) ≡ [] → ⊥
stands_in got items x e =
    nothing_in (items_from x.sender got) (items_from x.sender items) x.item
    (ap (λ l. items_from x.sender got ++ l) (sym (part_append x.sender (x ∷ []) items
    ∙ ap (λ l. l ++ items_from x.sender items) (part_one x.sender x refl)))
    ∙ sym (part_append x.sender got (x ∷ items)) ∙ e)

given_out : (got items : List Ticket) (x : Ticket) (count : ℕ)
    → ((s : ℕ) → count ≤ s → items_from s (got ++ x ∷ items) ≡ []) → x.sender < count
given_out got items x count none = by (nat_lt x.sender count) refl
  where
    below : nat_lt x.sender count ≡ true → x.sender < count
    below e = grind (arith, nat_tests)

    above : nat_lt x.sender count ≡ false → count ≤ x.sender
    above e = grind (arith, nat_tests)

    by : (b : Bool) → nat_lt x.sender count ≡ b → x.sender < count
    by true e = below e
    by false e = absurd (stands_in got items x (none x.sender (above e)))

-- ---- one pass has another view

chosen : (a b x y : ℕ) → a ≡ b → cond (a == b) x y ≡ x
chosen a b x y e = ap (λ (is : Bool). cond is x y) (eq-eqb a b e)

unchosen : (a b x y : ℕ) → a ≢ b → cond (a == b) x y ≡ y
unchosen a b x y n = ap (λ (is : Bool). cond is x y) (ne_eqb a b n)

module _ {items : List Ticket} {views : List View} (rule : QueueInvariant items views) where
  -- a pass other than the reader's has no mark, so the list taken and the count may change
  mark_elsewhere : (j count : ℕ) (taken : List Ticket) (m : Option IntakeMark) → j ≢ rule.reader
      → FitsMark rule.reader rule.count rule.taken j m → FitsMark rule.reader count taken j m
  mark_elsewhere j count taken None other f = tt
  mark_elsewhere j count taken (Some mark) other f = absurd (other f.0)

  -- a new pass with no number, which knows no more than the others do
  longer : (history : List Ticket) → BeginsWith (rule.taken ++ items) history
      → QueueInvariant items (views ++ witness history ∷ [])
  longer history begin = record {
    pass_of = rule.pass_of;
    reader = rule.reader;
    count = rule.count;
    taken = rule.taken;
    fits = all_longer (Fits rule.pass_of rule.reader rule.count rule.taken items) views (witness history) rule.fits
        (tt, tt, (begin, tt));
    stands = λ s below. in_longer views (witness history) (rule.pass_of s) s (rule.stands s below);
    no_other_sender = rule.no_other_sender;
  }

module _ {items : List Ticket} {views : List View} (rule : QueueInvariant items views) (pass : ℕ) {view : View}
    (at : get_elem? views pass ≡ some view) where
  changed : (now taken : List Ticket) (w : View) → Fits rule.pass_of rule.reader rule.count taken now pass w
      → ((j : ℕ) (u : View) → j ≢ pass → Fits rule.pass_of rule.reader rule.count rule.taken items j u
      → Fits rule.pass_of rule.reader rule.count taken now j u)
      → ((s : ℕ) → Stands s view.entries → Stands s w.entries)
      → ((s : ℕ) → rule.count ≤ s → items_from s (taken ++ now) ≡ []) → QueueInvariant now (set views pass w)
  changed now taken w mine others keeps none = record {
    pass_of = rule.pass_of;
    reader = rule.reader;
    count = rule.count;
    taken = taken;
    fits = all_set views pass w (Fits rule.pass_of rule.reader rule.count taken now) mine
        (λ j u other e. others j u other (rule.fits j u e));
    stands = λ s below. in_set views pass w view at keeps (rule.pass_of s) s (rule.stands s below);
    no_other_sender = none;
  }

  -- of the same tickets
  replaced : (w : View) → Fits rule.pass_of rule.reader rule.count rule.taken items pass w
      → ((s : ℕ) → Stands s view.entries → Stands s w.entries) → QueueInvariant items (set views pass w)
  replaced w mine keeps = changed items rule.taken w mine (λ j u other f. f) keeps rule.no_other_sender

  -- a pass with one entry pushes a ticket of its number
  pub pushed : (ticket : Ticket) (e : PassEntry) → view.entries ≡ e ∷ [] → ticket.sender ≡ e.number
      → (w : View) × QueueInvariant (items ++ ticket ∷ []) (set views pass w) × HasPushed view ticket w
  pushed ticket e one own =
      let now = items ++ ticket ∷ [] in
      let all = rule.taken ++ now in
      let old = rule.fits pass view at in
      let mine = (subst (AllByRecursion (FitsEntry rule.pass_of rule.count (rule.taken ++ items) pass)) one old.0).0 in
      let entries : first_entry_with ticket.item view.entries ≡ entry e.number (e.pushed ++ ticket.item ∷ []) ∷ [] =
      ap (first_entry_with ticket.item) one in
      let part : items_from e.number all ≡ e.pushed ++ ticket.item ∷ [] =
      part_more e.number rule.taken items ticket ∙ (λ i. mine.2 i ++ part_one e.number ticket own i) in
      let w : View = with_pushed view ticket all in (
        w,
        changed now rule.taken w (
          subst (AllByRecursion (FitsEntry rule.pass_of rule.count all pass)) (sym entries) ((mine.0, mine.1, part), tt),
          old.1,
          (([], append-nil all), still_begin rule.taken items ticket view.learned old.2.1),
        )
            (λ j u other f. (
              each_map (FitsEntry rule.pass_of rule.count (rule.taken ++ items) j)
                  (FitsEntry rule.pass_of rule.count all j) u.entries
                  (λ y g. (
                    g.0,
                    g.1,
                    part_same y.number rule.taken items ticket
                        (λ same. other (sym g.1 ∙ ap rule.pass_of (sym same ∙ own) ∙ mine.1)) ∙ g.2,
                  ))
                  f.0,
              f.1,
              still_begin rule.taken items ticket (u.history ∷ u.learned) f.2,
            ))
            (λ s stood. subst (Stands s) (sym entries) (subst (Stands s) one stood))
            (λ s above. part_same s rule.taken items ticket
            (λ same. (let f = mine.0 in let g = sym own ∙ same in absurd (omega arith))) ∙ rule.no_other_sender s above),
        (all, refl, ap (λ s. items_from s all) own ∙ part ∙ sym (ap first_pushed entries)),
      )

  -- the reader's pass notes that the queue was seen empty: the second pass knows nothing
  pub noted : QueueInvariant items (set views pass (view_seen_empty view) ++ empty_view ∷ [])
  noted =
      let mine = rule.fits pass view at in
      let next = replaced (view_seen_empty view) (mine.0, by view.mark mine.1, mine.2) (λ s stood. stood) in
      longer next [] (next.taken ++ items, refl)
    where
      by : (m : Option IntakeMark) → FitsMark rule.reader rule.count rule.taken pass m
          → FitsMark rule.reader rule.count rule.taken pass (empty_more m)
      by None f = tt
      by (Some mark) f = f

  -- the second pass knows which tickets were queued at this one's last push
  pub witnessed : QueueInvariant items (set views pass view ++ witness view.history ∷ [])
  witnessed =
      let next = replaced view (rule.fits pass view at) (λ s stood. stood) in
      longer next view.history (next.fits pass view (put_here views pass view view at)).2.0

  pub known : Tells view items
  known = by view.mark (rule.fits pass view at).1
    where
      by : (m : Option IntakeMark) → FitsMark rule.reader rule.count rule.taken pass m
          → TellsMark view.entries m view.learned items
      by None f = tt
      by (Some mark) f =
          let same : rule.taken ++ items ≡ mark.taken ++ items = ap (λ got. got ++ items) (sym f.1) in (
            each_map (FitsEntry rule.pass_of rule.count (rule.taken ++ items) pass)
                (λ (e : PassEntry). items_from e.number (mark.taken ++ items) ≡ e.pushed) view.entries
                (λ e g. ap (items_from e.number) (sym same) ∙ g.2) (rule.fits pass view at).0,
            (λ s above. ap (items_from s) (sym same) ∙ rule.no_other_sender s (omega (arith, f.2))),
            subst (λ all. AllBegin all view.learned) same (rule.fits pass view at).2.1,
          )

  pub own_known : TellsOwn view items
  own_known =
      let mine = rule.fits pass view at in (
        rule.taken,
        each_map (FitsEntry rule.pass_of rule.count (rule.taken ++ items) pass)
            (λ (e : PassEntry). items_from e.number (rule.taken ++ items) ≡ e.pushed) view.entries (λ e f. f.2) mine.0,
        mine.2.1,
      )

-- ---- two passes

module _ {items : List Ticket} {views : List View} (rule : QueueInvariant items views) {pass other : ℕ} {view u : View}
    (at : get_elem? views pass ≡ some view) (was : get_elem? views other ≡ some u) (two : other ≢ pass) where
  -- a pass learns what a second one knows that has no number
  pub learned : u.entries ≡ [] → QueueInvariant items (set (set views pass (view_learning view u)) other empty_view)
  learned none =
      let mine = rule.fits pass view at in
      let both = view_learning view u in
      let next = replaced rule pass at both (
        mine.0,
        mine.1,
        (
          mine.2.0,
          each_append (BeginsWith (rule.taken ++ items)) view.learned (u.history ∷ []) mine.2.1
              ((rule.fits other u was).2.0, tt),
        ),
      )
      (λ s stood. stood) in
      replaced next other (set_else views pass other both two ∙ was) empty_view
      (tt, tt, ((next.taken ++ items, refl), tt)) (λ s. subst (Stands s) none)

  -- any two passes may be joined: the numbers of the second one are in the first from then on
  pub joined : QueueInvariant items (set (set views pass (both_views view u)) other empty_view)
  joined =
      let both : View = both_views view u in
      let vs : List View = set views pass both in
      let all : List Ticket = rule.taken ++ items in
      let mine = rule.fits pass view at in
      let theirs = rule.fits other u was in
      let pass_of : ℕ → ℕ = λ s. cond (rule.pass_of s == other) pass (rule.pass_of s) in
      let moved : (s : ℕ) → rule.pass_of s ≡ other → pass_of s ≡ pass = λ s.
      chosen (rule.pass_of s) other pass (rule.pass_of s) in
      let stays : (s : ℕ) → rule.pass_of s ≢ other → pass_of s ≡ rule.pass_of s = λ s.
      unchosen (rule.pass_of s) other pass (rule.pass_of s) in
      let apart : (j : ℕ) → j ≢ other → (es : List PassEntry)
      → AllByRecursion (FitsEntry rule.pass_of rule.count all j) es
      → AllByRecursion (FitsEntry pass_of rule.count all j) es
      = λ j no es. each_map (FitsEntry rule.pass_of rule.count all j) (FitsEntry pass_of rule.count all j) es
      (λ e f. (f.0, stays e.number (λ same. no (sym f.1 ∙ same)) ∙ f.1, f.2)) in
      let Now : ℕ → View → Type 0 = λ j y. j ≢ other → Fits pass_of rule.reader rule.count rule.taken items j y in
      let now : AllAt Now vs = all_set views pass both Now
      (λ no. (
        each_append (FitsEntry pass_of rule.count all pass) view.entries u.entries (apart pass no view.entries mine.0)
            (each_map (FitsEntry rule.pass_of rule.count all other) (FitsEntry pass_of rule.count all pass) u.entries
            (λ e f. (f.0, moved e.number f.1, f.2)) theirs.0),
        mine.1,
        (mine.2.0, theirs.2.1),
      ))
      (λ j y _ e no. let f = rule.fits j y e in (apart j no y.entries f.0, f.1, f.2)) in
      let here : get_elem? (set vs other empty_view) pass ≡ some both =
      set_else vs other pass empty_view (λ e. two (sym e)) ∙ put_here views pass view both at in
      record {
        pass_of = pass_of;
        reader = rule.reader;
        count = rule.count;
        taken = rule.taken;
        fits = all_set vs other empty_view (Fits pass_of rule.reader rule.count rule.taken items)
            (tt, tt, ((all, refl), tt)) (λ j y no e. now j y e no);
        stands = λ s below. let c = rule.stands s below in ⊎_elim
            (λ (is : rule.pass_of s ≡ other). subst (λ (p : ℕ). InView (set vs other empty_view) p s) (sym (moved s is)) (
              both,
              here,
              stands_right s view.entries u.entries
                  (subst (λ (y : View). Stands s y.entries) (some-injective c.0 u
                  (sym c.1 ∙ ap (get_elem? views) is ∙ was)) c.2),
            ))
            (λ (no : rule.pass_of s ≢ other). subst (λ (p : ℕ). InView (set vs other empty_view) p s) (sym (stays s no))
            (let d = in_set views pass both view at (λ t x. stands_left t view.entries u.entries x) (rule.pass_of s) s c in
            (d.0, set_else vs other (rule.pass_of s) empty_view no ∙ d.1, d.2)))
            (cases_eq (rule.pass_of s) other);
        no_other_sender = rule.no_other_sender;
      }

-- ---- the reader's pass, which has the mark

pub takes : (pass : ℕ) (view : View) {mark : IntakeMark} → view.mark ≡ Some mark
    → Pops QueueInvariant pass view (λ ticket w. (w ≡ with_taken view ticket) × (ticket.sender < next_of view.mark))
takes pass view is ticket items views rule at =
    let mine = rule.fits pass view at in
    let known = subst (FitsMark rule.reader rule.count rule.taken pass) is mine.1 in
    let more = rule.taken ++ ticket ∷ [] in
    let same : more ++ items ≡ rule.taken ++ (ticket ∷ items) = append_assoc rule.taken (ticket ∷ []) items in
    let still = λ (j : ℕ) (u : View) (f : Fits rule.pass_of rule.reader rule.count rule.taken (ticket ∷ items) j u).
    subst (λ all. AllByRecursion (FitsEntry rule.pass_of rule.count all j) u.entries
    × AllBegin all (u.history ∷ u.learned)) (sym same) (f.0, f.2) in (
      with_taken view ticket,
      changed rule pass at items more (with_taken view ticket) (
        (still pass view mine).0,
        subst (λ m. FitsMark rule.reader rule.count more pass (taken_more ticket m)) (sym is)
            (known.0, ap (λ got. got ++ ticket ∷ []) known.1, known.2),
        (still pass view mine).1,
      )
          (λ j u other f. (
            (still j u f).0,
            mark_elsewhere rule j rule.count more u.mark (λ e. other (e ∙ sym known.0)) f.1,
            (still j u f).1,
          ))
          (λ s stood. stood) (λ s above. ap (items_from s) same ∙ rule.no_other_sender s above),
      (
        refl,
        subst (λ m. ticket.sender < next_of m) (sym is)
            (omega (arith, known.2, given_out rule.taken items ticket rule.count rule.no_other_sender)),
      ),
    )

pub forks : (pass : ℕ) (view : View) {mark : IntakeMark} → view.mark ≡ Some mark
    → Forks QueueInvariant pass view (view_counting_on view) (newcomer view)
forks pass view is items views rule at =
    let l = view_counting_on view in
    let n = next_of view.mark in
    let vs : List View = set views pass l in
    let all : List Ticket = rule.taken ++ items in
    let mine = rule.fits pass view at in
    let known = subst (FitsMark rule.reader rule.count rule.taken pass) is mine.1 in
    let next : n ≡ rule.count = ap next_of is ∙ known.2 in
    let pass_of : ℕ → ℕ = λ s. cond (s == n) (length vs) (rule.pass_of s) in
    let still = λ (j : ℕ) (es : List PassEntry).
    each_map (FitsEntry rule.pass_of rule.count all j) (FitsEntry pass_of (rule.count + 1) all j) es (λ e f. (
      omega (arith, f.0),
      unchosen e.number n (length vs) (rule.pass_of e.number) (λ same. (let a = f.0 in absurd (omega arith))) ∙ f.1,
      f.2,
    )) in
    let Now : ℕ → View → Type 0 = Fits pass_of rule.reader (rule.count + 1) rule.taken items in
    record {
      pass_of = pass_of;
      reader = rule.reader;
      count = rule.count + 1;
      taken = rule.taken;
      fits = all_longer Now vs (newcomer view)
          (all_set views pass l Now (
            still pass view.entries mine.0,
            subst (λ m. FitsMark rule.reader (rule.count + 1) rule.taken pass (one_number_more m)) (sym is)
                (known.0, known.1, ap (λ c. c + 1) known.2),
            mine.2,
          )
          (λ j u other e. let f = rule.fits j u e in (
            still j u.entries f.0,
            mark_elsewhere rule j (rule.count + 1) rule.taken u.mark (λ e. other (e ∙ sym known.0)) f.1,
            f.2,
          ))) (
            (
              (
                omega (arith, next),
                chosen n n (length vs) (rule.pass_of n) refl,
                rule.no_other_sender n (omega (arith, next)),
              ),
              tt,
            ),
            tt,
            ((all, refl), tt),
          );
      stands = λ s below. ⊎_elim
          (λ (is : s ≡ n). (
            newcomer view,
            subst (λ (p : ℕ). get_elem? (vs ++ newcomer view ∷ []) p ≡ some (newcomer view))
                (sym (chosen s n (length vs) (rule.pass_of s) is)) (at_last vs (newcomer view) (length vs) refl),
            inl (sym is),
          ))
          (λ (no : s ≢ n). subst (λ (p : ℕ). InView (vs ++ newcomer view ∷ []) p s)
          (sym (unchosen s n (length vs) (rule.pass_of s) no)) (in_longer vs (newcomer view) (rule.pass_of s) s
          (in_set views pass l view at (λ t stood. stood) (rule.pass_of s) s (rule.stands s (omega (arith, next))))))
          (cases_eq s n);
      no_other_sender = λ s above. rule.no_other_sender s (omega arith);
    }
