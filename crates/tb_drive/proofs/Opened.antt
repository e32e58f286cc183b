-- Drivers and submitters of a pipeline that was just opened.
use Rattle.std.proofs.Common.{◌≡◌, ◌∙◌, ℕ, zero, suc, List, [], ◌∷◌, ◌++◌, Some, All, length, map, slice_get, ap, sym, subst, arith}
use Rattle.tb_drive.proofs.Words.{length-map, All-append, All-map, get_or_from_slice_get, slice_get_within, Origin, SubmitterState, new_submitter, Numbered, ReplyValue, HasSeen, HaveSeen}

-- What is so of a submitter that has queued and read nothing is so of each submitter of a new pipeline. The fact about
-- `opened` is the clause `submitters` of `open`.
pub all_opened : (Is : SubmitterState → Type 0) (credit : ℕ) (origins : List Origin) (opened : List SubmitterState)
    → ((origin : Origin) → Is (new_submitter credit origin)) → opened ≡ map (new_submitter credit) origins
    → All Is opened × (length opened ≡ length origins)
all_opened Is credit origins opened new is = (
  subst (All Is) (sym is) (All-map Is (new_submitter credit) origins (λ k d within. new _)),
  ap length is ∙ length-map origins (new_submitter credit),
)

all_one : {D : Type 0} (Is : D → Type 0) (driver : D) → Is driver → All Is (driver ∷ [])
all_one Is driver is zero d within = is
all_one Is driver is (suc k) d within = absurd (omega arith)

-- what holds of each driver, and of one more, holds of all of them
pub all_with_driver : {D : Type 0} (Is : D → Type 0) (drivers : List D) (driver : D) → All Is drivers → Is driver
    → All Is (drivers ++ driver ∷ [])
all_with_driver Is drivers driver all is = All-append Is drivers (driver ∷ []) all (all_one Is driver is)

at_index : {X : Type 0} (Is : X → Type 0) (xs : List X) (k : ℕ) (x : X) → All Is xs → slice_get xs k ≡ Some x → Is x
at_index Is xs k x all is = subst Is (get_or_from_slice_get xs k x x is) (all k x (slice_get_within xs k x is))

-- Each driver has seen what its submitter queued and read, if that follows from what is so of each driver and of each
-- submitter. This is the clause `seen` that `drive_all` requires.
pub all_have_seen : {D : Type 0} (has_seen : D → ℕ → List Numbered → List ReplyValue → Type 0) (IsNew : D → Type 0)
    (Is : SubmitterState → Type 0) (drivers : List D) (submitters : List SubmitterState)
    → ((driver : D) (submitter : SubmitterState) → IsNew driver → Is submitter → HasSeen has_seen driver submitter)
    → All IsNew drivers → All Is submitters → HaveSeen has_seen drivers submitters
all_have_seen has_seen IsNew Is drivers submitters seen new all = λ k driver submitter driver_is submitter_is.
    seen driver submitter (at_index IsNew drivers k driver new driver_is)
    (at_index Is submitters k submitter all submitter_is)
