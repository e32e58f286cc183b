-- `as_mut` follows the pointer, and the handle becomes what is written there.
use Rattle.kip.proofs.Words.{◌≡◌, refl, sym, subst, List, [], ◌∷◌, Ura, named, Val, vptr, bare, SProp, ent, sep, id⊢, Lft, GName, Share, Fml, ftrue, flft, fsep, Memory, Routine, Env, WpFn, Tables, Logic, sem, Fun, fact, tables, WpFn-mono, ‵, ◌⊛◌, some, at_ret, ◌$◌, ◌∵◌, !, qed, by, move, keep, use1, drop, split, join, pick, rewrite, fsplit, fsplit3, fjoin, suffices, frame, done, raw, later, await, group, fpack, whole, sub, look_in, stop, fld, load, of_opd, first, blocks, exec, returns, enter, addr, alloc_all, pass_all, free_all, look_at, get, through, sets, env, sets_last, no, part_at, mem, cell_at, RattleType, owns, block_ptr, plain, mut_ref_to, nothing, heard, opens, triple_of, entered, says, Stays, stay_dropped, walk_of, ends_at, walked, walk_Meets, Goes-spent_ref, is_some, true, Some, token, D, B, τ, word, handle, box_out, box_in}
use Prim.Native.Nat.{ℕ}
use base.Fraction.{full_share}
use contract.Running.{tables_of}
use denote.Follow.{follows, Part, lends_Part}
use denote.Memory.{part_of}
use denote.Ref.{MutRef, mut_vals, mut_Tells}
use Rattle.std_alloc.proofs.VecSteps.Shapes.{after}
use Rattle.tb_embed.specs.contracts.recorded.RecordedEngine as Engine
use Rattle.kip.specs.inside.Lent.{with_engine}
use Rattle.kip.proofs.AsBox.{E, some_of}
use Rattle.kip.specs.contracts.engine_pointer.EnginePointer as EnginePointer
use Rattle.kip.specs.contracts.engine_pointer.EnginePointer.as_mut as F
use Rattle.kip.specs.contracts.engine_pointer.EnginePointer.as_mut.Key.{name as #self}
use Rattle.kip.proofs.engine_pointer.EnginePointer.as_mut.Statement as stated
use Rattle.kip.proofs.engine_pointer.EnginePointer.as_mut.Code as code

abbrev Whole : RattleType
Whole = EnginePointer.the_row

abbrev Inner : RattleType
Inner = Engine.the_row

abbrev stayed : Stays (F.ended).signature.params (F.ended).kept
stayed = (stay_dropped (mut_ref_to (0 ∷ []) tt (plain (λ _. Whole))) no, tt)

module _ {M : Type 1} {𝓤 : Ura M} (𝓛 : Logic 𝓤) (at_mem : Memory → SProp 𝓤) (run : Routine → Fun 𝓤) (κ : Lft) (q : Share) (rb ro : ℕ) (γ : GName) (h : Whole.Denot) where
  open 𝓛 use {H, A}

  abbrev self : (MutRef (named 0) κ Whole).Denot
  self = record { ref_ptr = (rb, ro); ghost_name = γ; now = h }

  abbrev bound : (walk_of 𝓛 F.ended stayed (F.clauses 𝓛 at_mem run)).Ghost
  bound = (((κ, tt), (q, tt), tt, (self, tt), (vptr rb ro ∷ [], tt)), tt)

  abbrev Post : Val → SProp 𝓤
  Post = (walk_of 𝓛 F.ended stayed (F.clauses 𝓛 at_mem run)).post bound

  module _ (x : Inner.Denot) (b o : ℕ) (hv : Val) where
    -- all of the handle but its engine
    abbrev Rest : Fml
    Rest = fsep (fsep (token E.al h.alloc (bare (τ E)) (block_ptr b o)) (handle E h.alloc hv)) (cell_at full_share Whole.mir (word E hv b o ∷ []) rb ro)

    back : h.at ≡ block_ptr b o → (w : Inner.Denot) → ent 𝓤 (sep 𝓤 (sem 𝓛 ((mem Inner).own_at w b o)) (sem 𝓛 Rest)) (sem 𝓛 ((mem Whole).own_at (with_engine h w) rb ro))
    unfolding part_of
    back at_b w =
        let v : D E = record { ptr = h.at; alloc = h.alloc; value = w } in
        qed 𝓛 (‵ (part_at Inner full_share w b o) ∷ ‵ Rest ∷ []) ∵ move ! (1 ∷ []) $ fsplit ! $ fsplit ! $ move ! (3 ∷ []) $
        box_in E ! v b o w at_b refl $ use1 𝓛 (‵ (Whole.own_val (with_engine h w) (word E hv b o ∷ []))) (id⊢ 𝓤 _) $ move ! (1 ∷ 0 ∷ []) $ fjoin ! $
        fpack ! (List Val) (λ us. fsep (cell_at full_share Whole.mir us rb ro) (Whole.own_val (with_engine h w) us)) (word E hv b o ∷ []) $ done !

    exits : Some x ≡ h.engine → (γ' : GName)
        → ent 𝓤 (sep 𝓤 (sem 𝓛 ((MutRef (named 0) κ Inner).own_val (record { ref_ptr = (b, o); ghost_name = γ'; now = x }) (vptr b o ∷ []))) (sep 𝓤 (A.lft κ q) (sem 𝓛 (follows Whole Inner γ γ' (with_engine h))))) (Post (vptr b o))
    exits is γ' =
        qed 𝓛 (‵ ((MutRef (named 0) κ Inner).own_val (record { ref_ptr = (b, o); ghost_name = γ'; now = x }) (vptr b o ∷ [])) ∷ ‵ (flft κ q) ∷ ‵ (follows Whole Inner γ γ' (with_engine h)) ∷ []) ∵
        suffices ! _ (ends_at 𝓛 F.ended stayed (F.clauses 𝓛 at_mem run) bound (vptr b o) (record { ref_ptr = (b, o); ghost_name = γ'; now = x }) (tt, tt) (tt, tt)) $
        nothing ! $ nothing ! $ fjoin ! $ join ! $ nothing ! $ move ! (2 ∷ 0 ∷ []) $ join ! $ join ! $ frame ! $ says ! is $ done !

  module _ (𝓣 : Tables 𝓤 H) where
    walk : ent 𝓤 ((walk_of 𝓛 F.ended stayed (F.clauses 𝓛 at_mem run)).pre bound) (WpFn 𝓤 H 𝓣.C 𝓣.Λ code.function (vptr rb ro ∷ []) Post)
    walk =
        qed 𝓛 (((‵ (flft κ q) ⊛ ‵ ftrue) ⊛ ‵ (owns (MutRef (named 0) κ Whole ∷ []) (self, tt) (vptr rb ro ∷ [], tt))) ∷ raw (fact 𝓤 (is_some h.engine ≡ true)) ∷ []) ∵
        move ! (1 ∷ []) $ heard ! (is_some h.engine ≡ true) (λ is. let found = some_of h.engine is in let x = found.0 in
        let v : D E = record { ptr = h.at; alloc = h.alloc; value = x } in
        split ! $ split ! $ enter ! 𝓣.C 𝓣.Λ code.function (vptr rb ro ∷ []) _ $ alloc_all ! (λ l. pass_all ! refl ((tt, tt), tt) $
        let En : Env 𝓤 H = env code.function.locals l in
        move ! (2 ∷ []) $ fsplit ! $ fsplit3 ! $ drop ! $ move ! (0 ∷ 1 ∷ 3 ∷ []) $
        opens ! tt Whole {h = h} rb ro (λ vs. move ! (1 ∷ []) $
        use1 𝓛 (‵ ((B E).own_val v vs)) (subst (λ e. ent 𝓤 (sem 𝓛 (Whole.own_val (record { at = h.at; alloc = h.alloc; engine = e }) vs)) (sem 𝓛 ((B E).own_val v vs))) (sym found.1) (id⊢ 𝓤 _)) $
        box_out E ! v vs (λ b o hv at_b ws fa. move ! (1 ∷ 2 ∷ []) $ fjoin ! $ move ! (1 ∷ []) $
        rewrite ! 2 (λ (us : List Val). ‵ (cell_at full_share Whole.mir us rb ro)) ws refl $
        first ! $ blocks ! $
        sets ! (of_opd ! (load ! (through ! refl (fld ! refl (stop !))) (look_in ! 2 (sub ! 0 refl (whole !))))) refl (tt, tt) $
        sets ! (of_opd ! (get ! refl)) refl (tt, tt) $
        sets_last ! (addr ! (through ! refl (stop !))) refl (tt, tt) $
        exec ! 𝓣.C 𝓣.Λ En (after 1 code.function.body) (at_ret En Post) $
        sets ! (of_opd ! (get ! refl)) refl (tt, tt) $
        move ! (1 ∷ 2 ∷ []) $ fjoin ! $ move ! (2 ∷ 3 ∷ 4 ∷ 1 ∷ 0 ∷ []) $ group ! 5 $
        use1 𝓛 (later (some (λ (γ' : GName). raw (Part 𝓛 Whole Inner (with_engine h) (named 0) κ q rb ro b o γ (sem 𝓛 (Rest x b o hv)) (back x b o hv at_b) x γ'))))
        (lends_Part 𝓛 Whole Inner (with_engine h) (named 0) κ q rb ro b o γ (sem 𝓛 (Rest x b o hv)) (back x b o hv at_b) (Whole.coded.code h) (Whole.coded.code h) x) $ await ! tt $ pick ! (λ γ'.
        returns ! (look_at ! 0 refl) $ free_all ! refl $
        keep ! (0 ∷ []) $ by ! (exits x b o hv (sym found.1) γ'))))))

pub as_mut_spec : {M : Type 1} → stated.statement M
unfolding tables_of
as_mut_spec 𝓤 𝓛 𝓜 𝓡 wired =
    let 𝓣 : Tables 𝓤 𝓛.H = tables_of 𝓤 𝓛.H 𝓜 (tables 𝓤 𝓛.H 𝓜 𝓡 𝓡.env) in
    entered 𝓤 𝓛.H (triple_of 𝓛 F.signature (F.spec 𝓛 𝓜.mem 𝓡.returns)) 𝓣.C 𝓣.Λ #self code.function (code.unfolded 𝓤 𝓛.H 𝓜 𝓡 wired)
    (walk_Meets 𝓛 F.ended stayed (Goes-spent_ref 𝓛 1 (0 ∷ []) tt (plain (λ _. Whole)), tt) (F.clauses 𝓛 𝓜.mem 𝓡.returns) (WpFn 𝓤 𝓛.H 𝓣.C 𝓣.Λ code.function) (WpFn-mono 𝓤 𝓛.H 𝓛.laws 𝓣 code.function)
    (walked 𝓛 F.ended stayed (F.clauses 𝓛 𝓜.mem 𝓡.returns) (WpFn 𝓤 𝓛.H 𝓣.C 𝓣.Λ code.function) (λ κs. (mut_vals, tt)) (λ κs. (mut_Tells (named 0) κs.0 Whole, tt))
    (λ κs qs bounds a g are. walk 𝓛 𝓜.mem 𝓡.returns κs.0 qs.0 a.0.ref_ptr.0 a.0.ref_ptr.1 a.0.ghost_name a.0.now 𝓣)))
