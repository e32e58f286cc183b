-- Lists whose members all have a property.
use Rattle.std.proofs.Common.{◌≡◌, ℕ, zero, suc, List, [], ◌∷◌, ◌++◌, map, ap, sym, subst}
use Rattle.tb_program.proofs.Words.{Origin, SubmitterState, new_submitter, AreNew, HasSeenOf, AreFresh, HaveCredit, ScriptDriver}

pub one_more_new : (drivers : List ScriptDriver) (last : ScriptDriver) → AreNew drivers → ((limit : ℕ) → HasSeenOf last limit [] [])
    → AreNew (drivers ++ last ∷ [])
one_more_new [] last new is limit zero driver driver_is = let same : last ≡ driver =
    cc in subst (λ (d : ScriptDriver). HasSeenOf d limit [] []) same (is limit)
one_more_new [] last new is limit (suc k) driver driver_is = cc
one_more_new (first ∷ drivers) last new is limit zero driver driver_is = new limit zero driver driver_is
one_more_new (first ∷ drivers) last new is limit (suc k) driver driver_is =
    one_more_new drivers last (λ limit k. new limit (suc k)) is limit k driver driver_is

opened_fresh : (credit : ℕ) (origins : List Origin) → AreFresh (map (new_submitter credit) origins)
opened_fresh credit [] k submitter is = cc
opened_fresh credit (origin ∷ origins) zero submitter is =
    let same : new_submitter credit origin ≡ submitter = cc in
    (sym (ap (λ (s : SubmitterState). s.queued) same), sym (ap (λ (s : SubmitterState). s.read) same))
opened_fresh credit (origin ∷ origins) (suc k) submitter is = opened_fresh credit origins k submitter is

pub are_fresh : (credit : ℕ) (origins : List Origin) (submitters : List SubmitterState)
    → submitters ≡ map (new_submitter credit) origins → AreFresh submitters
are_fresh credit origins submitters same = subst AreFresh (sym same) (opened_fresh credit origins)

opened_with : (credit : ℕ) (origins : List Origin) → HaveCredit credit (map (new_submitter credit) origins)
opened_with credit [] k submitter is = cc
opened_with credit (origin ∷ origins) zero submitter is =
    let same : new_submitter credit origin ≡ submitter = cc in
    sym (ap (λ (s : SubmitterState). s.credit) same)
opened_with credit (origin ∷ origins) (suc k) submitter is = opened_with credit origins k submitter is

pub have_credit : (credit : ℕ) (origins : List Origin) (submitters : List SubmitterState)
    → submitters ≡ map (new_submitter credit) origins → HaveCredit credit submitters
have_credit credit origins submitters same = subst (HaveCredit credit) (sym same) (opened_with credit origins)
