-- The queue's rule: what was taken followed by what is queued has, as each sender's part, exactly what its pass pushed. It
-- begins with each list of tickets that a pass has.
use Rattle.std.specs.Prelude.{◌≡◌, ℕ, ◌+◌, ◌<◌, ◌≤◌, ◌⊎◌, List, [], ◌∷◌, ◌++◌, length, Option, Some, None, ⊤}
use Rattle.std.specs.List.{AllByRecursion}
use mathlib.Core.Option.{some}
use lib.ListN.{get_elem?}
use Rattle.tb_work.specs.claim.Ahead.{items_from}
use Rattle.tb_work.specs.declared.item.Item.{Item}
use Rattle.tb_work.specs.declared.item.Ticket.{Ticket}
use Rattle.tb_submit.specs.clauses.Lists.{BeginsWith}
use Rattle.tb_submit.specs.declared.rule.PassEntry.{PassEntry}
use Rattle.tb_submit.specs.declared.rule.IntakeMark.{IntakeMark}
use Rattle.tb_submit.specs.declared.rule.View.{View}

-- ---- what passes know

abbrev pub entry : ℕ → List Item → PassEntry
entry number pushed = record { number = number; pushed = pushed }

abbrev pub view_with : List PassEntry → Option IntakeMark → List Ticket → List (List Ticket) → View
view_with entries mark history learned =
    record { entries = entries; mark = mark; history = history; learned = learned }

-- a sender's pass: one number, what was pushed under it, all tickets up to its own last push, and such lists of other
-- passes
abbrev pub sender : ℕ → List Item → List Ticket → List (List Ticket) → View
sender number pushed history learned = view_with (entry number pushed ∷ []) None history learned

-- the intake's pass: what was taken, how many numbers were given out, after how many tickets the queue was seen empty,
-- and what the sender had learned whose pass it took in last
abbrev pub intake : List PassEntry → List Ticket → ℕ → List ℕ → List (List Ticket) → View
intake entries taken count seen_empty learned =
    view_with entries (Some (record { taken = taken; count = count; seen_empty = seen_empty })) [] learned

abbrev pub opening : View
opening = intake [] [] 0 [] []

-- a pass that was joined to another
abbrev pub empty_view : View
empty_view = view_with [] None [] []

-- a pass that knows only which tickets were queued at a moment
abbrev pub witness : List Ticket → View
witness history = view_with [] None history []

-- ---- what a step makes of them

abbrev pub next_of : Option IntakeMark → ℕ
next_of None = 0
next_of (Some mark) = mark.count

abbrev pub one_number_more : Option IntakeMark → Option IntakeMark
one_number_more None = None
one_number_more (Some mark) =
    Some (record { taken = mark.taken; count = mark.count + 1; seen_empty = mark.seen_empty })

abbrev pub view_counting_on : View → View
view_counting_on view = record view { mark = one_number_more view.mark }

abbrev pub newcomer : View → View
newcomer view = sender (next_of view.mark) [] [] []

abbrev pub both_views : View → View → View
both_views view other = view_with (view.entries ++ other.entries) view.mark view.history other.learned

-- a pass learns which tickets were queued at another one's last push
abbrev pub view_learning : View → View → View
view_learning view other = record view { learned = view.learned ++ other.history ∷ [] }

abbrev pub first_entry_with : Item → List PassEntry → List PassEntry
first_entry_with item [] = []
first_entry_with item (e ∷ entries) = entry e.number (e.pushed ++ item ∷ []) ∷ entries

abbrev pub with_pushed : View → Ticket → List Ticket → View
with_pushed view ticket history =
    view_with (first_entry_with ticket.item view.entries) view.mark history view.learned

abbrev pub first_pushed : List PassEntry → List Item
first_pushed [] = []
first_pushed (e ∷ entries) = e.pushed

-- the history is all tickets up to this one, of which the sender's part is what its pass pushed
abbrev pub HasPushed : View → Ticket → View → Type 0
HasPushed view ticket next =
    (history : List Ticket) × (next ≡ with_pushed view ticket history)
    × (items_from ticket.sender history ≡ first_pushed next.entries)

abbrev pub taken_more : Ticket → Option IntakeMark → Option IntakeMark
taken_more ticket None = None
taken_more ticket (Some mark) =
    Some (record { taken = mark.taken ++ ticket ∷ []; count = mark.count; seen_empty = mark.seen_empty })

abbrev pub with_taken : View → Ticket → View
with_taken view ticket = record view { mark = taken_more ticket view.mark }

-- the queue was seen empty, after all that was taken
abbrev pub empty_more : Option IntakeMark → Option IntakeMark
empty_more None = None
empty_more (Some mark) =
    Some (record { taken = mark.taken; count = mark.count; seen_empty = mark.seen_empty ++ length mark.taken ∷ [] })

abbrev pub view_seen_empty : View → View
view_seen_empty view = record view { mark = empty_more view.mark }

-- ---- the rule

abbrev pub Stands : ℕ → List PassEntry → Type 0
Stands number [] = ⊥
Stands number (e ∷ entries) = (e.number ≡ number) ⊎ Stands number entries

-- An entry's number was given out, it is only in this pass, and what was pushed is its sender's part of all.
abbrev pub FitsEntry : (ℕ → ℕ) → ℕ → List Ticket → ℕ → PassEntry → Type 0
FitsEntry pass_of count all pass e = (e.number < count) × (pass_of e.number ≡ pass) × (items_from e.number all ≡ e.pushed)

-- Only the reader's pass has the mark, with what was taken and how many numbers were given out.
abbrev pub FitsMark : ℕ → ℕ → List Ticket → ℕ → Option IntakeMark → Type 0
FitsMark reader count taken pass None = ⊤
FitsMark reader count taken pass (Some mark) = (pass ≡ reader) × (mark.taken ≡ taken) × (mark.count ≡ count)

abbrev pub AllBegin : List Ticket → List (List Ticket) → Type 0
AllBegin all seen = AllByRecursion (BeginsWith all) seen

abbrev pub Fits : (ℕ → ℕ) → ℕ → ℕ → List Ticket → List Ticket → ℕ → View → Type 0
Fits pass_of reader count taken items pass view =
    AllByRecursion (FitsEntry pass_of count (taken ++ items) pass) view.entries
    × FitsMark reader count taken pass view.mark × AllBegin (taken ++ items) (view.history ∷ view.learned)

abbrev pub InView : List View → ℕ → ℕ → Type 0
InView views pass number = (view : View) × (get_elem? views pass ≡ some view) × Stands number view.entries

-- Each number given out is in a pass, and no other has a part.
pub record QueueInvariant (items : List Ticket) (views : List View) : Type 0 where
  pub pass_of : ℕ → ℕ
  pub reader : ℕ
  pub count : ℕ
  pub taken : List Ticket
  pub fits : (pass : ℕ) (view : View) → get_elem? views pass ≡ some view
      → Fits pass_of reader count taken items pass view
  pub stands : (number : ℕ) → number < count → InView views (pass_of number) number
  pub no_other_sender : (number : ℕ) → count ≤ number → items_from number (taken ++ items) ≡ []

-- ---- what the intake's pass learns of what is queued

-- of each number in the pass, taken and queued together are what was pushed, and they begin with each list that was
-- learned
abbrev pub IsWhole : List PassEntry → List Ticket → ℕ → List (List Ticket) → List Ticket → Type 0
IsWhole entries taken count learned items =
    AllByRecursion (λ (e : PassEntry). items_from e.number (taken ++ items) ≡ e.pushed) entries
    × ((number : ℕ) → count ≤ number → items_from number (taken ++ items) ≡ []) × AllBegin (taken ++ items) learned

abbrev pub TellsMark : List PassEntry → Option IntakeMark → List (List Ticket) → List Ticket → Type 0
TellsMark entries None learned items = ⊤
TellsMark entries (Some mark) learned items = IsWhole entries mark.taken mark.count learned items

abbrev pub Tells : View → List Ticket → Type 0
Tells view items = TellsMark view.entries view.mark view.learned items

-- what a sender's pass learns of all tickets: its own part is what it pushed, and they begin with each list that it
-- learned
abbrev pub TellsOwn : View → List Ticket → Type 0
TellsOwn view items =
    (taken : List Ticket)
    × AllByRecursion (λ (e : PassEntry). items_from e.number (taken ++ items) ≡ e.pushed) view.entries
    × AllBegin (taken ++ items) view.learned
